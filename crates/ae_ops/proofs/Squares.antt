-- A register, and a product behind it.
use Rattle.std.proofs.Common.{ℕ, ◌≡◌, ◌+◌, List, ◌∷◌, [], length, arith, add-zero}
use Rattle.ae_word.specs.declared.op.WordOp.{WordOp}
use Rattle.ae_word.specs.declared.op.WordOp.TheVariants.{Add, Mul}
use Rattle.ae_netlist.specs.declared.cell.NetId.{NetId}
use Rattle.ae_netlist.specs.declared.cell.SizedCell.{SizedCell}
use Rattle.ae_netlist.specs.Circuit.{Circuit, operand}
use Rattle.ae_netlist.specs.Runs.{InEveryRun, InEveryRunFrom, word_at}
use Rattle.ae_netlist.proofs.Carried.{carries_extends}
use Rattle.ae_netlist.proofs.Growing.{extends_trans}
use Rattle.ae_gates.specs.Cells.{Adds, IsResult}
use Rattle.ae_clocked.specs.Signals.{IsNextOf}
use Rattle.ae_ops.specs.Words.{IsResultLater}

-- the square of a register's word is that of the word before it
pub squared : (a b c : Circuit) (y : NetId) (x held : NetId) (w : ℕ) → InEveryRunFrom (length a.cells) b.cells (λ run. IsNextOf run held.0 x.0)
    → Adds b c 8 1
    → InEveryRunFrom (length b.cells) c.cells (λ run. IsResult run y.0 Mul w (held ∷ held ∷ held ∷ []))
    → InEveryRun c.cells (λ run. IsResultLater run y.0 1 Mul w (x ∷ x ∷ x ∷ []))
squared a b c y x held w next adds result = λ all e run is t l.
    let before : word_at run (t + 1) held.0 ≡ word_at run t x.0 = next all (carries_extends (length a.cells) (extends_trans adds.grows.extends e)) run is t l in
    rw before at (result all (carries_extends (length b.cells) e) run is (t + 1) l)

-- a result of the same clock
pub at_once : (a c : Circuit) (y : NetId) (op : WordOp) (w : ℕ) (args : List NetId)
    → InEveryRunFrom (length a.cells) c.cells (λ run. IsResult run y.0 op w args) → InEveryRun c.cells (λ run. IsResultLater run y.0 0 op w args)
at_once a c y op w args result = λ all e run is t l.
    let same : t + 0 ≡ t = add-zero t in
    rw same (result all (carries_extends (length a.cells) e) run is t (omega arith))

-- a product of two nets that are one
pub square_words : (cells : List SizedCell) (x y : NetId) (w : ℕ) (args : List NetId) → operand args 0 ≡ x.0 → operand args 1 ≡ x.0
    → InEveryRun cells (λ run. IsResultLater run y.0 1 Mul w (x ∷ x ∷ x ∷ [])) → InEveryRun cells (λ run. IsResultLater run y.0 1 Mul w args)
square_words cells x y w args first second h = λ all e run is t l. rw first (rw second (h all e run is t l))

-- a sum of the same clock
pub sum_words : (cells : List SizedCell) (y : NetId) (w : ℕ) (args : List NetId) (a b : NetId) → operand args 0 ≡ a.0 → operand args 1 ≡ b.0
    → InEveryRun cells (λ run. IsResult run y.0 Add w (a ∷ b ∷ a ∷ [])) → InEveryRun cells (λ run. IsResultLater run y.0 0 Add w args)
sum_words cells y w args a b first second h = λ all e run is t l.
    let same : t + 0 ≡ t = add-zero t in
    rw first (rw second (rw same (h all e run is t (omega arith))))
