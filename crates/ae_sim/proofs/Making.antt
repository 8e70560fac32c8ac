-- The words of a clock, as far as they are made.
use Rattle.std.proofs.Common.{ℕ, ◌≡◌, ◌+◌, ◌-◌, ◌<◌, ◌≤◌, ◌^◌, inl, inr, List, length, take, set, Some, slice_get, get_or, arith, refl, sym, ap, ◌∙◌, get_or-set_other, get_or-set_same}
use Rattle.std.proofs.lemmas.Bool.{cases_eq}
use Rattle.std.proofs.lemmas.Option.{slice_get_within}
use Rattle.ae_word.specs.declared.op.WordOp.{WordOp}
use Rattle.ae_word.specs.WordTable.{OperandsFit, result_width_of}
use Rattle.ae_netlist.specs.declared.cell.NetId.{NetId}
use Rattle.ae_netlist.specs.declared.cell.Cell.{Cell}
use Rattle.ae_netlist.specs.declared.cell.Cell.TheVariants.{Input, Const, Op, Reg, Mem, Peek}
use Rattle.ae_netlist.specs.declared.cell.SizedCell.{SizedCell}
use Rattle.ae_netlist.specs.Circuit.{IsNet, IsFormed, IsOperation, width_of, main_operand, operand}
use Rattle.ae_netlist.specs.Counts.{is_input, is_register, is_memory, count_of}
use Rattle.ae_netlist.specs.Rows.{Firsts, AreInputs, AreFirsts}
use Rattle.ae_netlist.proofs.Gets.{get_take_within, get_from_take}
use Rattle.ae_netlist.proofs.Growing.{net_width, main_is, net_from_take, operands_map}
use Rattle.ae_netlist.proofs.Counting.{number_within}
use Rattle.ae_netlist.proofs.Settled.{cell_word, same_word, each_operand, IsSettled}
use Rattle.ae_netlist.proofs.Fits.{cell_fits, operands_fit}
use Rattle.ae_netlist.proofs.NextClock.{any_fits, store_of_cell, store_fits}
use Rattle.ae_netlist.proofs.Given.{given_word, given_store, word_in, store_in, holds}
use Rattle.ae_sim.specs.Planned.{FitBelow, step_for, IsReady, Gives}

pub record IsMade (cells : List SizedCell) (free : ℕ → ℕ) (stores : ℕ → List ℕ) (words : List ℕ) (n : ℕ) : Type 0 where
  pub made : (i : ℕ) (sized : SizedCell) → i < n → slice_get cells i ≡ Some sized → get_or words i 0 ≡ cell_word cells free stores words i sized.cell
  pub fits : FitBelow cells words n

pub made_none : (cells : List SizedCell) (free : ℕ → ℕ) (stores : ℕ → List ℕ) (words : List ℕ) → IsMade cells free stores words 0
made_none cells free stores words = record { made = λ i sized l h. absurd (omega arith); fits = λ i sized l h. absurd (omega arith) }

-- what may be chosen fits
abbrev pub FreeFits : List SizedCell → (ℕ → ℕ) → Type 0
FreeFits cells free = (n : ℕ) (sized : SizedCell) → slice_get cells n ≡ Some sized → free n < 2 ^ sized.width

abbrev pub StoresFit : List SizedCell → (ℕ → List ℕ) → Type 0
StoresFit cells stores = (m i : ℕ) (sized : SizedCell) → slice_get cells m ≡ Some sized → get_or (stores m) i 0 < 2 ^ sized.width

pub free_fits : (cells : List SizedCell) (held : Firsts) (row : List ℕ) → AreInputs cells row → AreFirsts cells held → FreeFits cells (word_in cells held row)
free_fits cells held row r f n sized h =
    rw h (any_fits sized.cell sized.width (given_word cells held row n sized.cell) (given_store cells held n sized.cell)
    (holds cells held row n sized.width sized.cell r f h))

pub stores_fit : (cells : List SizedCell) (held : Firsts) (row : List ℕ) → AreInputs cells row → AreFirsts cells held → StoresFit cells (store_in cells held)
stores_fit cells held row r f m i sized h =
    rw h (store_fits sized.cell sized.width (given_store cells held m sized.cell) i
    (store_of_cell sized.cell sized.width (given_word cells held row m sized.cell) (given_store cells held m sized.cell)
    (holds cells held row m sized.width sized.cell r f h)))

pub made_more : (cells : List SizedCell) (free : ℕ → ℕ) (stores : ℕ → List ℕ) (words : List ℕ) (n w : ℕ) (sized : SizedCell) → IsFormed cells
    → length words ≡ length cells → slice_get cells n ≡ Some sized
    → FreeFits cells free → StoresFit cells stores → w ≡ cell_word cells free stores words n sized.cell → IsMade cells free stores words n
    → IsMade cells free stores (set words n w) (n + 1)
made_more cells free stores words n w sized formed long found small room is h = record {
  made = λ i x l g. elim (cases_eq i n) [
    | inl e ↦
        let same : Some x ≡ Some sized = sym g ∙ (ap (slice_get cells) e ∙ found) in
        let s : x ≡ sized = cc in
        rw (e, s) (get_or-set_same words n w 0 here ∙ (is ∙ kept n sized found (omega arith)))
    | inr ne ↦ get_or-set_other words n i w 0 ne ∙ (h.made i x (omega arith) g ∙ kept i x g (omega arith))
  ];
  fits = λ i x l g. elim (cases_eq i n) [
    | inl e ↦
        let same : Some x ≡ Some sized = sym g ∙ (ap (slice_get cells) e ∙ found) in
        let s : x ≡ sized = cc in
        rw (e, s, get_or-set_same words n w 0 here, is) (cell_fits cells free stores words n sized.width sized.cell (formed.each n sized found).cell
        (small n sized found) room h.fits)
    | inr ne ↦ rw (get_or-set_other words n i w 0 ne) (h.fits i x (omega arith) g)
  ];
}
  where
    here : n < length words
    here = rw long (slice_get_within cells n sized found)

    kept : (i : ℕ) (x : SizedCell) → slice_get cells i ≡ Some x → i ≤ n
        → cell_word cells free stores words i x.cell ≡ cell_word cells free stores (set words n w) i x.cell
    kept i x g l = same_word cells free stores words (set words n w) i x.width x.cell (formed.each i x g).cell
        (λ j b. sym (get_or-set_other words n j w 0 (λ e. absurd (omega arith))))

pub made_all : (cells : List SizedCell) (free : ℕ → ℕ) (stores : ℕ → List ℕ) (words : List ℕ) → IsMade cells free stores words (length cells)
    → IsSettled cells free stores words
made_all cells free stores words h = record { each = λ n sized found. h.made n sized (slice_get_within cells n sized found) found }

-- the width at which an operator works is at most 64, and its operands fit
operands_ready : (cells : List SizedCell) (words : List ℕ) (n w : ℕ) (op : WordOp) (args : List NetId) → IsFormed cells → FitBelow cells words n
    → IsOperation (take n cells) op args w
    → (width_of cells (main_operand op args) ≤ 64) × (w ≡ result_width_of op (width_of cells (main_operand op args)))
    × OperandsFit op (width_of cells (main_operand op args)) (get_or words (operand args 0) 0) (get_or words (operand args 1) 0)
    (get_or words (operand args 2) 0)
operands_ready cells words n w op args formed below h =
    let before : List SizedCell = take n cells in
    let v : ℕ = width_of before (main_operand op args) in
    let main : IsNet before (main_operand op args) v = main_is op (IsNet before) args v h.operands in
    let whole : IsNet cells (main_operand op args) v = net_from_take cells n (main_operand op args) v main in
    let e : width_of cells (main_operand op args) ≡ v = net_width whole in
    rw e (
      rw (← whole.wide) (formed.each (main_operand op args) whole.sized whole.found).high,
      h.result,
      operands_fit op (λ m. get_or words m 0) args v
          (operands_map op (IsNet before) (λ m x. get_or words m 0 < 2 ^ x) args v
          (λ m x k. rw (← k.wide) (below m k.sized (get_take_within cells n m k.sized k.found) (get_from_take cells n m k.sized k.found))) h.operands),
    )

-- a step gives the word of its cell
pub gives_word : (cells : List SizedCell) (held : Firsts) (row words : List ℕ) (n width word : ℕ) (cell : Cell) → IsFormed cells → FitBelow cells words n
    → slice_get cells n ≡ Some (record { width = width; cell = cell })
    → Gives (step_for cells n width cell) words row held word → word ≡ cell_word cells (word_in cells held row) (store_in cells held) words n cell
gives_word cells held row words n width word (Input port) formed below found g = rw found g
gives_word cells held row words n width word (Const k) formed below found g = g
gives_word cells held row words n width word (Op op args) formed below found g =
    let o = operands_ready cells words n width op args formed below (formed.each n (record { width = width; cell = Op op args }) found).cell in
    g (width_of cells (main_operand op args)) o.0 (ap (λ i. 2 ^ i - 1) o.1) o.2
gives_word cells held row words n width word (Reg next) formed below found g = rw found g
gives_word cells held row words n width word (Mem depth at next enable) formed below found g = g
gives_word cells held row words n width word (Peek mem at) formed below found g =
    let fits = (formed.each n (record { width = width; cell = Peek mem at }) found).cell in
    let kept : SizedCell = record { width = width; cell = Mem fits.depth fits.memory.at fits.memory.next fits.memory.enable } in
    let there : slice_get cells mem.0 ≡ Some kept = get_from_take cells n mem.0 kept fits.memory.found in
    rw there g

-- and what it reads is there
pub is_ready : (cells : List SizedCell) (n width words inputs registers memories : ℕ) (cell : Cell) → IsFormed cells
    → slice_get cells n ≡ Some (record { width = width; cell = cell })
    → words ≡ length cells → inputs ≡ count_of is_input cells → registers ≡ count_of is_register cells → memories ≡ count_of is_memory cells
    → IsReady (step_for cells n width cell) words inputs registers memories
is_ready cells n width words inputs registers memories (Input port) formed found a b c d = rw b (number_within is_input cells n _ found refl)
is_ready cells n width words inputs registers memories (Const k) formed found a b c d = tt
is_ready cells n width words inputs registers memories (Op op args) formed found a b c d =
    let h = (formed.each n (record { width = width; cell = Op op args }) found).cell in
    let there = each_operand op (IsNet (take n cells)) (λ m. m < length cells) args (width_of (take n cells) (main_operand op args)) h.operands
    (λ m u k. slice_get_within cells m k.sized (get_from_take cells n m k.sized k.found)) in
    rw a (h.unsigned, there.0, there.1, there.2)
is_ready cells n width words inputs registers memories (Reg next) formed found a b c d = rw c (number_within is_register cells n _ found refl)
is_ready cells n width words inputs registers memories (Mem depth at next enable) formed found a b c d = tt
is_ready cells n width words inputs registers memories (Peek mem at) formed found a b c d =
    let fits = (formed.each n (record { width = width; cell = Peek mem at }) found).cell in
    let kept : SizedCell = record { width = width; cell = Mem fits.depth fits.memory.at fits.memory.next fits.memory.enable } in
    let there : slice_get cells mem.0 ≡ Some kept = get_from_take cells n mem.0 kept fits.memory.found in
    let net = fits.address.net in
    rw (a, d) (number_within is_memory cells mem.0 kept there refl, slice_get_within cells at.0 net.sized (get_from_take cells n at.0 net.sized net.found))

pub made_so_far : (cells : List SizedCell) (free : ℕ → ℕ) (stores : ℕ → List ℕ) (words : List ℕ) (n m : ℕ) → n ≡ m → IsMade cells free stores words n
    → IsMade cells free stores words m
made_so_far cells free stores words n m e h = rw e at h
