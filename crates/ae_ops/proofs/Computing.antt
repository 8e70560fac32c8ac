-- The cells of one operator, and what their nets hold.
use Rattle.std.proofs.Common.{ℕ, ◌≡◌, ◌≤◌, false, List, ◌∷◌, [], length, get_or, Result, Ok, Err, OnOk, arith, refl, sym, ap, ◌∙◌, subst}
use Rattle.std.specs.Prelude.{IfOk}
use Rattle.ae_word.specs.declared.op.WordOp.{WordOp}
use Rattle.ae_word.specs.declared.op.WordOp.TheVariants.{Mux, Shr, Cast, Sar, SCast}
use Rattle.ae_word.specs.WordTable.{HasRange, arity_of, is_signed, result_width_of, word_result}
use Rattle.ae_netlist.specs.declared.cell.NetId.{NetId}
use Rattle.ae_netlist.specs.declared.cell.SizedCell.{SizedCell}
use Rattle.ae_netlist.specs.Circuit.{Circuit, IsNet, IsOperation, OperandsAre, main_operand, operand, width_of}
use Rattle.ae_netlist.specs.Runs.{InEveryRunFrom, word_at}
use Rattle.ae_netlist.proofs.Growing.{main_is, net_later, net_width}
use Rattle.ae_netlist.proofs.ReadAt.{operand_got}
use Rattle.ae_gates.specs.Cells.{Adds, Grows, IsResult}
use Rattle.ae_ops.specs.Signs.{IsBySign}
use Rattle.ae_ops.proofs.SignWords.{cast_is, sar_is}
use Rattle.ae_gates.proofs.Adding.{adds_most}
use Rattle.ae_gates.proofs.Fits.{held_fits}

pub operation_of : (cells : List SizedCell) (op : WordOp) (args : List NetId) (w : ℕ) → is_signed op ≡ false → HasRange op
    → OperandsAre op (IsNet cells) args w → IsOperation cells op args (result_width_of op w)
operation_of cells op args w plain range h =
    let e : width_of cells (main_operand op args) ≡ w = net_width (main_is op (IsNet cells) args w h) in
    record { unsigned = plain; range = range; operands = rw e h; result = sym (ap (result_width_of op) e) }

-- one operand, three times
pub one_operands : (op : WordOp) (P : ℕ → ℕ → Type 0) (a : NetId) (w : ℕ) → arity_of op ≡ 1 → P a.0 w → OperandsAre op P (a ∷ a ∷ a ∷ []) w
one_operands Mux P a w one p = absurd (omega arith)
one_operands _ P a w one p = (p, p, p)

pub one_main : (op : WordOp) (a : NetId) → main_operand op (a ∷ a ∷ a ∷ []) ≡ a.0
one_main Mux a = refl
one_main _ a = refl

-- the widths of a pair of operands
pub pair_operands : (op : WordOp) (P : ℕ → ℕ → Type 0) (args : List NetId) (w : ℕ) → arity_of op ≡ 2 → OperandsAre op P args w
    → P (get_or args 0 (record { 0 = 0 })).0 w × P (get_or args 1 (record { 0 = 0 })).0 w
pair_operands Mux P args w two h = absurd (omega arith)
pair_operands _ P args w two h = (subst (λ n. P n w) (operand_got args 0) h.0, subst (λ n. P n w) (operand_got args 1) h.1)

-- the result of an operator on two words that are told apart
pub two_words : {E : Type 0} (r : Result NetId E) (n : ℕ) (cells : List SizedCell) (op : WordOp) (w : ℕ) (args : List NetId) (a b : NetId)
    → ((x y z u : ℕ) → word_result op w x y z ≡ word_result op w x y u) → operand args 0 ≡ a.0 → operand args 1 ≡ b.0
    → IfOk r (λ y. InEveryRunFrom n cells (λ run. IsResult run y.0 op w (a ∷ b ∷ a ∷ [])))
    → IfOk r (λ y. InEveryRunFrom n cells (λ run. IsResult run y.0 op w args))
two_words (Ok y) n cells op w args a b third first second h = λ all e run is t l.
    h all e run is t l
    ∙ (third (word_at run t a.0) (word_at run t b.0) (word_at run t a.0) (word_at run t (operand args 2))
    ∙ (λ i. word_result op w (word_at run t (sym first i)) (word_at run t (sym second i)) (word_at run t (operand args 2))))
two_words (Err e) n cells op w args a b third first second h = tt

-- by the answer of the one call
pub most_of : {X E : Type 0} (old new : Circuit) (r : Result X E) (most muls : ℕ) → most ≤ 8 → OnOk r (Adds old new most muls)
    → OnOk r (Adds old new 8 muls)
most_of old new (Ok x) most muls l h = adds_most 8 l h
most_of old new (Err e) most muls l h = tt

pub sar_words : (old new : Circuit) (y : NetId) (op : WordOp) (args : List NetId) (k w a : ℕ) → op ≡ Sar k → Grows old new
    → operand args 0 ≡ a → IsNet old.cells a w
    → InEveryRunFrom (length old.cells) new.cells (λ run. IsBySign run y.0 (Shr k) w a)
    → InEveryRunFrom (length old.cells) new.cells (λ run. IsResult run y.0 op w args)
sar_words old new y op args k w a is g first net h =
    rw is (λ all e run r t l. h all e run r t l ∙ (sar_is k w _ 0 0 (held_fits all run t a w r l (e.nets _ _ (net_later g.extends net)))
    ∙ ap (λ n. word_result (Sar k) w (word_at run t n) 0 0) (sym first)))

pub cast_words : (old new : Circuit) (y : NetId) (op : WordOp) (args : List NetId) (v w a : ℕ) → op ≡ SCast v → Grows old new
    → operand args 0 ≡ a → IsNet old.cells a w
    → InEveryRunFrom (length old.cells) new.cells (λ run. IsBySign run y.0 (Cast v) w a)
    → InEveryRunFrom (length old.cells) new.cells (λ run. IsResult run y.0 op w args)
cast_words old new y op args v w a is g first net h =
    rw is (λ all e run r t l. h all e run r t l ∙ (cast_is v w _ 0 0 (held_fits all run t a w r l (e.nets _ _ (net_later g.extends net)))
    ∙ ap (λ n. word_result (SCast v) w (word_at run t n) 0 0) (sym first)))
