-- A netlist that has grown by gates has the inputs, the registers and the memories that it had.
use Rattle.std.proofs.Common.{ℕ, suc, ◌≡◌, ◌+◌, inl, inr, Bool, false, cond, if◌then◌else◌, List, [], ◌∷◌, ◌++◌, Some, None, arith, refl, ap, ◌∙◌, sym}
use Rattle.std.specs.List.{filter, enumerate_from}
use Rattle.std.proofs.lemmas.Bool.{cases_Bool}
use Rattle.std.proofs.lemmas.List.Sums.{sum_by-cons}
use Rattle.std.proofs.lemmas.Option.{none-some, same_Some}
use Rattle.ae_netlist.specs.declared.cell.Cell.{Cell}
use Rattle.ae_netlist.specs.declared.cell.Cell.TheVariants.{Input, Const, Op, Reg, Mem, Peek}
use Rattle.ae_netlist.specs.declared.cell.SizedCell.{SizedCell}
use Rattle.ae_netlist.specs.Circuit.{Circuit, Extends}
use Rattle.ae_netlist.specs.Counts.{count_of, is_input, is_memory, is_register}
use Rattle.ae_runs.specs.SameRuns.{is_input_cell, is_state_cell, input_cells, state_cells}
use Rattle.ae_gates.specs.Cells.{GrowsByGates}
use Rattle.ae_gates.proofs.Adding.{weight}

-- a cell that does not pass is left out
pub left_out : (test : Cell → Bool) (k : ℕ) (cells : List SizedCell) (c : SizedCell) → test c.cell ≡ false
    → filter (λ (x : ℕ × SizedCell). test x.1.cell) (enumerate_from k (cells ++ c ∷ [])) ≡ filter (λ (x : ℕ × SizedCell). test x.1.cell)
    (enumerate_from k cells)
left_out test k [] c h = rw h refl
left_out test k (x ∷ cells) c h =
    ap (λ ys. if test x.cell then (k, x) ∷ ys else ys) (left_out test (k + 1) cells c h)

-- the cells that pass, with their numbers from k on
abbrev listed : (Cell → Bool) → ℕ → List SizedCell → List (ℕ × SizedCell)
listed test k cells = filter (λ (x : ℕ × SizedCell). test x.1.cell) (enumerate_from k cells)

none_listed : (test : Cell → Bool) (k : ℕ) (cells : List SizedCell) → count_of test cells ≡ 0 → listed test k cells ≡ []
none_listed test k [] e = refl
none_listed test k (x ∷ cells) e =
    let a : count_of test (x ∷ cells) ≡ weight test x + count_of test cells = sum_by-cons (weight test) x cells in
    let rest : listed test (k + 1) cells ≡ [] = none_listed test (k + 1) cells (omega (arith, e, a)) in
    elim (cases_Bool (test x.cell)) [
      | inl t ↦ absurd (let one : weight test x ≡ 1 = ap {B = ℕ} (λ b. cond b 1 0) t in omega (arith, e, a, one))
      | inr n ↦ rw n rest
    ]

-- as many as before are the same
same_listed : (test : Cell → Bool) (k : ℕ) (old new : List SizedCell) → Extends old new → count_of test new ≡ count_of test old
    → listed test k new ≡ listed test k old
same_listed test k [] new e count = none_listed test k new count
same_listed test k (x ∷ old) [] e count = (let f : None ≡ Some x = e.keeps 0 x refl in absurd (none-some x f))
same_listed test k (x ∷ old) (y ∷ new) e count =
    let same : y ≡ x = same_Some y x (e.keeps 0 x refl) in
    let a : count_of test (y ∷ new) ≡ weight test y + count_of test new = sum_by-cons (weight test) y new in
    let b : count_of test (x ∷ old) ≡ weight test x + count_of test old = sum_by-cons (weight test) x old in
    let rest : listed test (k + 1) new ≡ listed test (k + 1) old = same_listed test (k + 1) old new
    (record { keeps = λ n sized found. e.keeps (suc n) sized found })
    (omega (arith, count, a, b, ap (weight test) same)) in
    ap (λ (ys : List (ℕ × SizedCell)). if test y.cell then (k, y) ∷ ys else ys) rest
    ∙ ap (λ (z : SizedCell). if test z.cell then (k, z) ∷ listed test (k + 1) old else listed test (k + 1) old) same

pub same_input : (c : Cell) → is_input_cell c ≡ is_input c
same_input (Input port) = refl
same_input _ = refl

-- a state is a register or a memory
state_kind : (c : Cell) → cond (is_state_cell c) 1 0 ≡ cond (is_register c) 1 0 + cond (is_memory c) 1 0
state_kind (Input port) = refl
state_kind (Const k) = refl
state_kind (Op op args) = refl
state_kind (Reg next) = refl
state_kind (Mem depth at next enable) = refl
state_kind (Peek mem at) = refl

inputs_number : (cells : List SizedCell) → count_of is_input_cell cells ≡ count_of is_input cells
inputs_number [] = refl
inputs_number (x ∷ cells) =
    let a : count_of is_input_cell (x ∷ cells) ≡ weight is_input_cell x + count_of is_input_cell cells = sum_by-cons (weight is_input_cell) x cells in
    let b : count_of is_input (x ∷ cells) ≡ weight is_input x + count_of is_input cells = sum_by-cons (weight is_input) x cells in
    omega (arith, a, b, ap {B = ℕ} (λ b. cond b 1 0) (same_input x.cell), inputs_number cells)

states_number : (cells : List SizedCell) → count_of is_state_cell cells ≡ count_of is_register cells + count_of is_memory cells
states_number [] = refl
states_number (x ∷ cells) =
    let a : count_of is_state_cell (x ∷ cells) ≡ weight is_state_cell x + count_of is_state_cell cells = sum_by-cons (weight is_state_cell) x cells in
    let b : count_of is_register (x ∷ cells) ≡ weight is_register x + count_of is_register cells = sum_by-cons (weight is_register) x cells in
    let c : count_of is_memory (x ∷ cells) ≡ weight is_memory x + count_of is_memory cells = sum_by-cons (weight is_memory) x cells in
    omega (arith, a, b, c, state_kind x.cell, states_number cells)

pub inputs_kept : {a b : Circuit} → GrowsByGates a b → input_cells b.cells ≡ input_cells a.cells
inputs_kept {a} {b} g =
    same_listed is_input_cell 0 a.cells b.cells g.grows.extends (inputs_number b.cells ∙ (g.grows.inputs ∙ sym (inputs_number a.cells)))

pub states_kept : {a b : Circuit} → GrowsByGates a b → state_cells b.cells ≡ state_cells a.cells
states_kept {a} {b} g =
    same_listed is_state_cell 0 a.cells b.cells g.grows.extends (omega (arith, states_number a.cells, states_number b.cells, g.registers, g.memories))
