-- What holds in every run goes on to hold as a netlist grows and as earlier registers are connected.
use Rattle.std.proofs.Common.{ℕ, ◌≡◌, ◌+◌, ◌<◌, ◌≤◌, List, ◌++◌, ◌∷◌, [], length, set, arith}
use Rattle.ae_word.specs.declared.op.WordOp.{WordOp}
use Rattle.ae_word.specs.WordTable.{word_result}
use Rattle.ae_netlist.specs.declared.cell.NetId.{NetId}
use Rattle.ae_netlist.specs.declared.cell.Cell.TheVariants.{Const, Op, Reg}
use Rattle.ae_netlist.specs.declared.cell.SizedCell.{SizedCell}
use Rattle.ae_netlist.specs.Circuit.{IsNet, IsRegister, width_of, main_operand, operand, Extends}
use Rattle.ae_netlist.specs.Runs.{Clock, word_at, Carries, InEveryRun, InEveryRunFrom}
use Rattle.ae_netlist.proofs.Gets.{get_pushed, get_set_same}
use Rattle.ae_netlist.proofs.Growing.{net_later, net_width, extends_append}

pub carries_extends : {a b : List SizedCell} (from : ℕ) → Extends a b → Carries from a b
carries_extends from e = record { keeps = λ n sized l h. e.keeps n sized h; nets = λ n w h. net_later e h }

pub carries_trans : {a b c : List SizedCell} {from : ℕ} → Carries from a b → Carries from b c → Carries from a c
carries_trans p q = record { keeps = λ n sized l h. q.keeps n sized l (p.keeps n sized l h); nets = λ n w h. q.nets n w (p.nets n w h) }

-- of fewer cells
pub carries_later : {a b : List SizedCell} (from to : ℕ) → from ≤ to → Carries from a b → Carries to a b
carries_later from to l p = record { keeps = λ n sized k h. p.keeps n sized (omega arith) h; nets = p.nets }

-- all cells
pub every_from : (from : ℕ) (cells : List SizedCell) (P : List Clock → Type 0) → InEveryRunFrom from cells P → InEveryRun cells P
every_from from cells P f = λ all e run r. f all (carries_extends from e) run r

-- in a netlist that carries it a constant has its word
pub const_word : (cells : List SizedCell) (w k : ℕ) → InEveryRunFrom (length cells) (cells ++ (record { width = w; cell = Const k }) ∷ [])
    (λ run. (t : ℕ) → t < length run → word_at run t (length cells) ≡ k)
const_word cells w k = λ all c run r t l.
    r.settles t (length cells) (record { width = w; cell = Const k }) l (c.keeps (length cells) _ (omega arith) (get_pushed cells _))

-- and an operator the word of its operands
pub op_word : (cells : List SizedCell) (op : WordOp) (args : List NetId) (w v : ℕ) → IsNet cells (main_operand op args) v
    → InEveryRunFrom (length cells) (cells ++ (record { width = w; cell = Op op args }) ∷ [])
    (λ run. (t : ℕ) → t < length run → word_at run t (length cells) ≡ word_result op v (word_at run t (operand args 0)) (word_at run t (operand args 1))
    (word_at run t (operand args 2)))
op_word cells op args w v main = λ all c run r t l.
    let wide : width_of all (main_operand op args) ≡ v = net_width (c.nets _ _ (net_later (extends_append cells _) main)) in
    let e = r.settles t (length cells) (record { width = w; cell = Op op args }) l (c.keeps (length cells) _ (omega arith) (get_pushed cells _)) in
    rw wide at e

-- and a connected register the word that its next had in the clock before
pub reg_word : (cells : List SizedCell) (r w : ℕ) (next : NetId) → IsRegister cells r w
    → InEveryRunFrom r (set cells r (record { width = w; cell = Reg next }))
    (λ run. (t : ℕ) → t + 1 < length run → word_at run (t + 1) r ≡ word_at run t next.0)
reg_word cells r w next reg = λ all c run u t l.
    u.steps t r (record { width = w; cell = Reg next }) l (c.keeps r _ (omega arith) (get_set_same cells r _ _ reg.found))
