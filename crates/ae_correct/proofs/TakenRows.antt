-- The inputs of a netlist, in order, and what stands on them in a run on rows.
use Rattle.std.proofs.Common.{ℕ, suc, ◌≡◌, ◌+◌, ◌<◌, Bool, true, false, cond, List, [], ◌∷◌, length, take, map, get_or, Some, slice_get, arith, refl, ap, sym, ◌∙◌}
use Rattle.std.specs.List.{filter, enumerate_from}
use Rattle.std.proofs.lemmas.List.{nil_from_length}
use Rattle.std.proofs.lemmas.List.Sums.{sum_by-cons}
use Rattle.ae_netlist.specs.declared.cell.Cell.{Cell}
use Rattle.ae_netlist.specs.declared.cell.Cell.TheVariants.{Input, Const, Op, Reg, Mem, Peek}
use Rattle.ae_netlist.specs.declared.cell.SizedCell.{SizedCell}
use Rattle.ae_netlist.specs.Circuit.{Circuit}
use Rattle.ae_netlist.specs.Counts.{is_input, count_of, number_of, cells_of}
use Rattle.ae_netlist.specs.Runs.{Clock, word_at}
use Rattle.ae_netlist.specs.Rows.{AreInputs, Firsts, IsRunWith}
use Rattle.ae_runs.specs.SameRuns.{is_input_cell, net_input_words}

same_input : (c : Cell) → is_input_cell c ≡ is_input c
same_input (Input port) = refl
same_input (Const k) = refl
same_input (Op op args) = refl
same_input (Reg next) = refl
same_input (Mem depth at next enable) = refl
same_input (Peek mem at) = refl

abbrev numbered_inputs : ℕ → List SizedCell → List (ℕ × SizedCell)
numbered_inputs k cells = filter (λ (x : ℕ × SizedCell). is_input_cell x.1.cell) (enumerate_from k cells)

pub input_widths : (k : ℕ) (cells : List SizedCell) → map (λ (x : ℕ × SizedCell). x.1.width) (numbered_inputs k cells) ≡ map (λ (s : SizedCell). s.width)
    (cells_of is_input cells)
input_widths k [] = refl
input_widths k (c ∷ cells) =
    ap (λ t. map (λ (x : ℕ × SizedCell). x.1.width) (cond t ((k, c) ∷ numbered_inputs (k + 1) cells) (numbered_inputs (k + 1) cells))) (same_input c.cell)
    ∙ by (is_input c.cell) (input_widths (k + 1) cells)
  where
    by : (t : Bool) → map (λ (x : ℕ × SizedCell). x.1.width) (numbered_inputs (k + 1) cells) ≡ map (λ (s : SizedCell). s.width) (cells_of is_input cells)
        → map (λ (x : ℕ × SizedCell). x.1.width) (cond t ((k, c) ∷ numbered_inputs (k + 1) cells) (numbered_inputs (k + 1) cells))
        ≡ map (λ (s : SizedCell). s.width) (cond t (c ∷ cells_of is_input cells) (cells_of is_input cells))
    by true rest = ap (λ ws. c.width ∷ ws) rest
    by false rest = rest

count_cons : (c : SizedCell) (cells : List SizedCell) (t : Bool) → is_input c.cell ≡ t → count_of is_input (c ∷ cells) ≡ cond t 1 0 + count_of is_input cells
count_cons c cells t is = sum_by-cons (λ (x : SizedCell). cond (is_input x.cell) 1 0) c cells ∙ ap (λ b. cond b 1 0 + count_of is_input cells) is

-- each input, by its number among the inputs, has a word of the row
abbrev Takes : (cells : List SizedCell) (f : ℕ → ℕ) (k : ℕ) (row : List ℕ) → Type 0
Takes cells f k row =
    (i : ℕ) (sized : SizedCell) → slice_get cells i ≡ Some sized → is_input sized.cell ≡ true → f (k + i) ≡ get_or row (number_of is_input cells i) 0

abbrev words_by : (ℕ → ℕ) → List (ℕ × SizedCell) → List ℕ
words_by f xs = map (λ (x : ℕ × SizedCell). f x.0) xs

-- the row of the cells behind an input, and behind another cell
behind_input : (c : SizedCell) (cells : List SizedCell) (f : ℕ → ℕ) (k w : ℕ) (ws : List ℕ) → is_input c.cell ≡ true → Takes (c ∷ cells) f k (w ∷ ws)
    → Takes cells f (k + 1) ws
behind_input c cells f k w ws is h i sized found kind =
    let at : (k + 1) + i ≡ k + suc i = omega arith in
    let one : 1 + count_of is_input (take i cells) ≡ suc (number_of is_input cells i) = omega arith in
    let number : number_of is_input (c ∷ cells) (suc i) ≡ suc (number_of is_input cells i) = count_cons c (take i cells) true is ∙ one in
    ap f at ∙ h (suc i) sized found kind ∙ ap (λ n. get_or (w ∷ ws) n 0) number

behind_other : (c : SizedCell) (cells : List SizedCell) (f : ℕ → ℕ) (k : ℕ) (row : List ℕ) → is_input c.cell ≡ false → Takes (c ∷ cells) f k row
    → Takes cells f (k + 1) row
behind_other c cells f k row is h i sized found kind =
    let at : (k + 1) + i ≡ k + suc i = omega arith in
    let none : 0 + count_of is_input (take i cells) ≡ number_of is_input cells i = omega arith in
    let number : number_of is_input (c ∷ cells) (suc i) ≡ number_of is_input cells i = count_cons c (take i cells) false is ∙ none in
    ap f at ∙ h (suc i) sized found kind ∙ ap (λ n. get_or row n 0) number

inputs_are : (cells : List SizedCell) (f : ℕ → ℕ) (k : ℕ) (row : List ℕ) → length row ≡ count_of is_input cells → Takes cells f k row
    → words_by f (numbered_inputs k cells) ≡ row
inputs_are [] f k row long h = sym (nil_from_length row long)
inputs_are (c ∷ cells) f k row long h =
    ap (λ t. words_by f (cond t ((k, c) ∷ numbered_inputs (k + 1) cells) (numbered_inputs (k + 1) cells))) (same_input c.cell)
    ∙ by (is_input c.cell) refl row long h (λ us l g. inputs_are cells f (k + 1) us l g)
  where
    by : (t : Bool) → is_input c.cell ≡ t → (us : List ℕ) → length us ≡ count_of is_input (c ∷ cells) → Takes (c ∷ cells) f k us
        → ((vs : List ℕ) → length vs ≡ count_of is_input cells → Takes cells f (k + 1) vs → words_by f (numbered_inputs (k + 1) cells) ≡ vs)
        → words_by f (cond t ((k, c) ∷ numbered_inputs (k + 1) cells) (numbered_inputs (k + 1) cells)) ≡ us
    by true is [] l g rest = let n = count_cons c cells true is in absurd (omega (arith, n, l))
    by true is (u ∷ us) l g rest =
        let n = count_cons c cells true is in
        let own : k + 0 ≡ k = omega arith in
        let first : f k ≡ u = ap f (sym own) ∙ g 0 c refl is in
        let later : words_by f (numbered_inputs (k + 1) cells) ≡ us = rest us (omega (arith, n, l)) (behind_input c cells f k u us is g) in
        λ i. first i ∷ later i
    by false is us l g rest =
        let n = count_cons c cells false is in
        rest us (omega (arith, n, l)) (behind_other c cells f k us is g)

-- in a run on rows the inputs have the words of the clock's row
pub net_inputs : (n : Circuit) (rows : List (List ℕ)) (firsts : Firsts) (run : List Clock) (t : ℕ) → IsRunWith n.cells rows firsts run → t < length rows
    → AreInputs n.cells (get_or rows t [])
    → net_input_words n run t ≡ get_or rows t []
net_inputs n rows firsts run t r below fits =
    inputs_are n.cells (λ k. word_at run t k) 0 (get_or rows t []) fits.long
    (λ i sized found is.
    let own : 0 + i ≡ i = omega arith in
    ap (word_at run t) own ∙ r.takes.each t i sized below found is)
