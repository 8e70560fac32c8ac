-- A choice of 0 before a sum, and the same choice behind it.
use Rattle.std.proofs.Common.{ℕ, ◌≡◌, ◌+◌, ◌<◌, ◌%◌, ◌^◌, ◌==◌, Bool, true, false, if◌then◌else◌, List, ◌∷◌, [], length, take, Some, slice_get, arith, refl, sym, ap, ◌∙◌}
use Rattle.std.proofs.Math.Nat.{add_comm, mod-eq_of_lt}
use Rattle.ae_word.specs.declared.op.WordOp.TheVariants.{Add, Mux}
use Rattle.ae_netlist.specs.declared.cell.NetId.{NetId}
use Rattle.ae_netlist.specs.declared.cell.Cell.TheVariants.{Op}
use Rattle.ae_netlist.specs.declared.cell.SizedCell.{SizedCell}
use Rattle.ae_netlist.specs.Circuit.{Circuit, IsConstantBelow, IsFormed, IsNet, operand, width_of}
use Rattle.ae_netlist.specs.Runs.{InEveryRun, InEveryRunFrom, word_at}
use Rattle.ae_netlist.proofs.Carried.{carries_extends}
use Rattle.ae_netlist.proofs.Growing.{extends_trans, net_from_take, net_later, width_is}
use Rattle.ae_gates.specs.Cells.{Grows, IsResult}
use Rattle.ae_ops.specs.Gates.{IsGate, IsGatedSum}
use Rattle.ae_gates.proofs.Fits.{held_fits}

-- a choice of a constant 0 is a gate
pub gate_of : (cells : List SizedCell) (n : ℕ) (sized : SizedCell) (args : List NetId) → IsFormed cells → slice_get cells n ≡ Some sized
    → sized.cell ≡ Op Mux args → IsConstantBelow cells (operand args 1) 1
    → IsGate cells n (operand args 0) (operand args 2)
gate_of cells n sized args formed found is zero =
    let fits = rw is at (formed.each n sized found).cell in
    let before : List SizedCell = take n cells in
    let main : ℕ = width_of before (operand args 1) in
    let wide : width_of cells n ≡ main = width_is cells n sized found ∙ fits.result in
    record {
      bit = net_from_take cells n (operand args 0) 1 fits.operands.0;
      word = rw wide (net_from_take cells n (operand args 2) main fits.operands.2);
      runs = λ all e run r t l.
          let chosen = rw is at (r.settles t n sized l (e.keeps n sized found)) in
          let low : word_at run t (operand args 1) ≡ zero.constant = r.settles t (operand args 1) _ l (e.keeps _ _ zero.found) in
          let none : zero.constant ≡ 0 = omega (arith, zero.below) in
          chosen ∙ ap (λ k. if word_at run t (operand args 0) == 1 then k else word_at run t (operand args 2)) (low ∙ none);
    }

-- the choice moved past the sum, bit by bit
moved : (test : Bool) (w a x : ℕ) → a < 2 ^ w → (if test then a else (a + x) % 2 ^ w) ≡ (a + (if test then 0 else x)) % 2 ^ w
moved true w a x l = let e : a + 0 ≡ a = omega arith in rw e (sym (mod-eq_of_lt l))
moved false w a x l = refl

-- a sum behind which the choice stands, in which the second word was the gate's
pub gated_sum : (old new : Circuit) (y : NetId) (a b condition x : NetId) (w : ℕ) → Grows old new → IsNet old.cells a.0 w
    → IsGate old.cells b.0 condition.0 x.0
    → InEveryRunFrom (length old.cells) new.cells (λ run. IsGatedSum run y.0 condition.0 a.0 x.0 w)
    → InEveryRun new.cells (λ run. IsResult run y.0 Add w (a ∷ b ∷ a ∷ []))
gated_sum old new y a b condition x w grows net gate h = λ all e run is t l.
    let later = extends_trans grows.extends e in
    let chosen = h all (carries_extends (length old.cells) e) run is t l in
    let second = gate.runs all later run is t l in
    let fits : word_at run t a.0 < 2 ^ w = held_fits all run t a.0 w is l (net_later later net) in
    chosen ∙ (moved (word_at run t condition.0 == 1) w (word_at run t a.0) (word_at run t x.0) fits ∙ ap (λ n. (word_at run t a.0 + n) % 2 ^ w) (sym second))

-- the same sum with its words turned round
pub turned : (cells : List SizedCell) (y : NetId) (a b : NetId) (w : ℕ)
    → InEveryRun cells (λ run. IsResult run y.0 Add w (b ∷ a ∷ b ∷ []))
    → InEveryRun cells (λ run. IsResult run y.0 Add w (a ∷ b ∷ a ∷ []))
turned cells y a b w h = λ all e run is t l. h all e run is t l ∙ ap (λ n. n % 2 ^ w) (add_comm (word_at run t b.0) (word_at run t a.0))

-- a sum of the words themselves
pub plain_sum : (old new : Circuit) (y : NetId) (a b : NetId) (w : ℕ)
    → InEveryRunFrom (length old.cells) new.cells (λ run. IsResult run y.0 Add w (a ∷ b ∷ a ∷ []))
    → InEveryRun new.cells (λ run. IsResult run y.0 Add w (a ∷ b ∷ a ∷ []))
plain_sum old new y a b w h = λ all e run is. h all (carries_extends (length old.cells) e) run is
