-- Clocks of a netlist that have given words at its inputs, and given words in its registers and memories.
use Rattle.std.proofs.Common.{ℕ, zero, suc, ◌≡◌, ◌+◌, ◌<◌, ◌^◌, List, [], ◌∷◌, length, map, drop, get_or, slice_get, Some, None, All, arith, pow_pos, refl, sym, ap, ◌∙◌, subst}
use Rattle.std.specs.Prelude.{filter}
use Rattle.std.specs.List.{enumerate_from}
use Rattle.ae_netlist.specs.declared.cell.Cell.{Cell}
use Rattle.ae_netlist.specs.declared.cell.Cell.TheVariants.{Input, Const, Op, Reg, Mem, Peek}
use Rattle.ae_netlist.specs.declared.cell.SizedCell.{SizedCell}
use Rattle.ae_netlist.specs.Runs.{Clock, CellHolds, IsShaped}
use Rattle.ae_netlist.proofs.Shapes.{each_holds}
use Rattle.ae_runs.specs.SameRuns.{is_input_cell, is_state_cell, input_cells, state_cells, cell_words}

-- the word and the store of a cell, where ws are the words of the inputs and ss those held by the states from it on
abbrev pub laid_here : Cell → List ℕ → List (List ℕ) → ℕ × List ℕ
laid_here (Input port) ws ss = (get_or ws 0 0, [])
laid_here (Reg next) ws ss = (get_or (get_or ss 0 []) 0 0, [])
laid_here (Mem depth at next enable) ws ss = (0, get_or ss 0 [])
laid_here _ ws ss = (0, [])

abbrev pub words_left : Cell → List ℕ → List ℕ
words_left (Input port) ws = drop 1 ws
words_left _ ws = ws

abbrev pub held_left : Cell → List (List ℕ) → List (List ℕ)
held_left (Reg next) ss = drop 1 ss
held_left (Mem depth at next enable) ss = drop 1 ss
held_left _ ss = ss

abbrev pub laid : List SizedCell → List ℕ → List (List ℕ) → List (ℕ × List ℕ)
laid [] ws ss = []
laid (x ∷ xs) ws ss = laid_here x.cell ws ss ∷ laid xs (words_left x.cell ws) (held_left x.cell ss)

abbrev pub laid_clock : List SizedCell → List ℕ → List (List ℕ) → Clock
laid_clock cells ws ss = record {
  words = map (λ (e : ℕ × List ℕ). e.0) (laid cells ws ss);
  stores = map (λ (e : ℕ × List ℕ). e.1) (laid cells ws ss);
}

-- one fitting word for each input
abbrev pub FitInputs : List (ℕ × SizedCell) → List ℕ → Type 0
FitInputs [] [] = Unit {0}
FitInputs [] (w ∷ ws) = ⊥
FitInputs (p ∷ ps) [] = ⊥
FitInputs (p ∷ ps) (w ∷ ws) = (w < 2 ^ p.1.width) × FitInputs ps ws

-- what a register or a memory may hold
abbrev pub FitsCell : Cell → ℕ → List ℕ → Type 0
FitsCell (Mem depth at next enable) width s = (length s ≡ depth) × All (λ v. v < 2 ^ width) s
FitsCell _ width s = (w : ℕ) × (s ≡ w ∷ []) × (w < 2 ^ width)

abbrev pub FitStates : List (ℕ × SizedCell) → List (List ℕ) → Type 0
FitStates [] [] = Unit {0}
FitStates [] (s ∷ ss) = ⊥
FitStates (p ∷ ps) [] = ⊥
FitStates (p ∷ ps) (s ∷ ss) = FitsCell p.1.cell p.1.width s × FitStates ps ss

-- the inputs, and the states, of cells that are numbered from k on
abbrev inputs_from : ℕ → List SizedCell → List (ℕ × SizedCell)
inputs_from k xs = filter (λ (x : ℕ × SizedCell). is_input_cell x.1.cell) (enumerate_from k xs)

abbrev states_from : ℕ → List SizedCell → List (ℕ × SizedCell)
states_from k xs = filter (λ (x : ℕ × SizedCell). is_state_cell x.1.cell) (enumerate_from k xs)

abbrev sized : (width : ℕ) → Cell → SizedCell
sized width cell = record { width = width; cell = cell }

-- what is laid at a cell is what it may hold, and what is left fits the cells behind it
laid_step : (k width : ℕ) (cell : Cell) (xs : List SizedCell) (ws : List ℕ) (ss : List (List ℕ)) → FitInputs (inputs_from k (sized width cell ∷ xs)) ws
    → FitStates (states_from k (sized width cell ∷ xs)) ss
    → CellHolds cell width (laid_here cell ws ss).0 (laid_here cell ws ss).1 × FitInputs (inputs_from (k + 1) xs) (words_left cell ws)
    × FitStates (states_from (k + 1) xs) (held_left cell ss)
laid_step k width (Input port) xs [] ss f g = absurd f
laid_step k width (Input port) xs (w ∷ ws) ss f g = ((f.0, refl), f.1, g)
laid_step k width (Const c) xs ws ss f g = ((pow_pos width, refl), f, g)
laid_step k width (Op op args) xs ws ss f g = ((pow_pos width, refl), f, g)
laid_step k width (Reg next) xs ws [] f g = absurd g
laid_step k width (Reg next) xs ws (s ∷ ss) f g =
    let held = g.0 in
    ((subst (λ l. get_or l 0 0 < 2 ^ width) (sym held.1) held.2, refl), f, g.1)
laid_step k width (Mem depth at next enable) xs ws [] f g = absurd g
laid_step k width (Mem depth at next enable) xs ws (s ∷ ss) f g = ((refl, g.0.0, g.0.1), f, g.1)
laid_step k width (Peek mem at) xs ws ss f g = ((pow_pos width, refl), f, g)

abbrev AllHold : List SizedCell → List (ℕ × List ℕ) → Type 0
AllHold [] es = Unit {0}
AllHold (x ∷ xs) [] = ⊥
AllHold (x ∷ xs) (e ∷ es) = CellHolds x.cell x.width e.0 e.1 × AllHold xs es

all_hold : (k : ℕ) (xs : List SizedCell) (ws : List ℕ) (ss : List (List ℕ)) → FitInputs (inputs_from k xs) ws → FitStates (states_from k xs) ss
    → AllHold xs (laid xs ws ss)
all_hold k [] ws ss f g = tt
all_hold k (x ∷ xs) ws ss f g =
    let r = laid_step k x.width x.cell xs ws ss f g in
    (r.0, all_hold (k + 1) xs (words_left x.cell ws) (held_left x.cell ss) r.1 r.2)

hold_at : (xs : List SizedCell) (es : List (ℕ × List ℕ)) → AllHold xs es → (n : ℕ) (x : SizedCell) → slice_get xs n ≡ Some x
    → CellHolds x.cell x.width (get_or (map (λ (e : ℕ × List ℕ). e.0) es) n 0) (get_or (map (λ (e : ℕ × List ℕ). e.1) es) n [])
hold_at [] es h n x g = absurd (let e : None ≡ Some x = g in cc)
hold_at (y ∷ xs) [] h n x g = absurd h
hold_at (y ∷ xs) (e ∷ es) h zero x g =
    subst (λ (u : SizedCell). CellHolds u.cell u.width e.0 e.1) (let s : y ≡ x = (let t : Some y ≡ Some x = g in cc) in s) h.0
hold_at (y ∷ xs) (e ∷ es) h (suc n) x g = hold_at xs es h.1 n x g

laid_length : {X : Type 0} (f : ℕ × List ℕ → X) (xs : List SizedCell) (ws : List ℕ) (ss : List (List ℕ)) → length (map f (laid xs ws ss)) ≡ length xs
laid_length f [] ws ss = refl
laid_length f (x ∷ xs) ws ss = ap suc (laid_length f xs (words_left x.cell ws) (held_left x.cell ss))

pub laid_shaped : (cells : List SizedCell) (ws : List ℕ) (ss : List (List ℕ)) → FitInputs (input_cells cells) ws → FitStates (state_cells cells) ss
    → IsShaped cells (laid_clock cells ws ss)
laid_shaped cells ws ss f g = record {
  words = laid_length (λ (e : ℕ × List ℕ). e.0) cells ws ss;
  stores = laid_length (λ (e : ℕ × List ℕ). e.1) cells ws ss;
  holds = each_holds cells (laid_clock cells ws ss) (hold_at cells (laid cells ws ss) (all_hold 0 cells ws ss f g));
}

-- read at the inputs, and at the states, the words are the given ones
inputs_step : (f : ℕ → ℕ) (k width : ℕ) (cell : Cell) (xs : List SizedCell) (ws : List ℕ) (ss : List (List ℕ))
    → FitInputs (inputs_from k (sized width cell ∷ xs)) ws
    → f k ≡ (laid_here cell ws ss).0 → map (λ (x : ℕ × SizedCell). f x.0) (inputs_from (k + 1) xs) ≡ words_left cell ws
    → map (λ (x : ℕ × SizedCell). f x.0) (inputs_from k (sized width cell ∷ xs)) ≡ ws
inputs_step f k width (Input port) xs [] ss g e r = absurd g
inputs_step f k width (Input port) xs (w ∷ ws) ss g e r =
    ap (λ v. v ∷ map (λ (x : ℕ × SizedCell). f x.0) (inputs_from (k + 1) xs)) e ∙ ap (λ l. w ∷ l) r
inputs_step f k width (Const c) xs ws ss g e r = r
inputs_step f k width (Op op args) xs ws ss g e r = r
inputs_step f k width (Reg next) xs ws ss g e r = r
inputs_step f k width (Mem depth at next enable) xs ws ss g e r = r
inputs_step f k width (Peek mem at) xs ws ss g e r = r

abbrev held_at : (ℕ → ℕ) → (ℕ → List ℕ) → List (ℕ × SizedCell) → List (List ℕ)
held_at w s ps = map (λ (x : ℕ × SizedCell). cell_words x.1.cell (w x.0) (s x.0)) ps

states_step : (w : ℕ → ℕ) (s : ℕ → List ℕ) (k width : ℕ) (cell : Cell) (xs : List SizedCell) (ws : List ℕ) (ss : List (List ℕ))
    → FitStates (states_from k (sized width cell ∷ xs)) ss
    → w k ≡ (laid_here cell ws ss).0 → s k ≡ (laid_here cell ws ss).1 → held_at w s (states_from (k + 1) xs) ≡ held_left cell ss
    → held_at w s (states_from k (sized width cell ∷ xs)) ≡ ss
states_step w s k width (Input port) xs ws ss g e d r = r
states_step w s k width (Const c) xs ws ss g e d r = r
states_step w s k width (Op op args) xs ws ss g e d r = r
states_step w s k width (Reg next) xs ws [] g e d r = absurd g
states_step w s k width (Reg next) xs ws (h ∷ ss) g e d r =
    let held = g.0 in
    let word : w k ≡ held.0 = e ∙ ap (λ l. get_or l 0 0) held.1 in
    ap (λ v. (v ∷ []) ∷ held_at w s (states_from (k + 1) xs)) word ∙ (ap (λ l. l ∷ held_at w s (states_from (k + 1) xs)) (sym held.1) ∙ ap (λ l. h ∷ l) r)
states_step w s k width (Mem depth at next enable) xs ws [] g e d r = absurd g
states_step w s k width (Mem depth at next enable) xs ws (h ∷ ss) g e d r =
    ap (λ l. l ∷ held_at w s (states_from (k + 1) xs)) d ∙ ap (λ l. h ∷ l) r
states_step w s k width (Peek mem at) xs ws ss g e d r = r

-- the words and stores from number k on are those that are laid
abbrev IsLaid : (ℕ → ℕ) → (ℕ → List ℕ) → ℕ → List (ℕ × List ℕ) → Type 0
IsLaid w s k es = (j : ℕ) → (w (k + j) ≡ (get_or es j (0, [])).0) × (s (k + j) ≡ (get_or es j (0, [])).1)

first_laid : (w : ℕ → ℕ) (s : ℕ → List ℕ) (k : ℕ) (e : ℕ × List ℕ) (es : List (ℕ × List ℕ)) → IsLaid w s k (e ∷ es) → (w k ≡ e.0) × (s k ≡ e.1)
first_laid w s k e es h =
    let z : k + 0 ≡ k = omega arith in
    let r = h 0 in
    (subst (λ i. w i ≡ e.0) z r.0, subst (λ i. s i ≡ e.1) z r.1)

later_laid : (w : ℕ → ℕ) (s : ℕ → List ℕ) (k : ℕ) (e : ℕ × List ℕ) (es : List (ℕ × List ℕ)) → IsLaid w s k (e ∷ es) → IsLaid w s (k + 1) es
later_laid w s k e es h j =
    let z : k + suc j ≡ k + 1 + j = omega arith in
    let r = h (suc j) in
    (subst (λ i. w i ≡ (get_or es j (0, [])).0) z r.0, subst (λ i. s i ≡ (get_or es j (0, [])).1) z r.1)

laid_back : (w : ℕ → ℕ) (s : ℕ → List ℕ) (k : ℕ) (xs : List SizedCell) (ws : List ℕ) (ss : List (List ℕ)) → FitInputs (inputs_from k xs) ws
    → FitStates (states_from k xs) ss
    → IsLaid w s k (laid xs ws ss) → (map (λ (x : ℕ × SizedCell). w x.0) (inputs_from k xs) ≡ ws) × (held_at w s (states_from k xs) ≡ ss)
laid_back w s k [] [] [] f g h = (refl, refl)
laid_back w s k [] [] (t ∷ ss) f g h = absurd g
laid_back w s k [] (v ∷ ws) ss f g h = absurd f
laid_back w s k (x ∷ xs) ws ss f g h =
    let left = laid_step k x.width x.cell xs ws ss f g in
    let first = first_laid w s k (laid_here x.cell ws ss) (laid xs (words_left x.cell ws) (held_left x.cell ss)) h in
    let r = laid_back w s (k + 1) xs (words_left x.cell ws) (held_left x.cell ss) left.1 left.2
    (later_laid w s k (laid_here x.cell ws ss) (laid xs (words_left x.cell ws) (held_left x.cell ss)) h) in
    (inputs_step w k x.width x.cell xs ws ss f first.0 r.0, states_step w s k x.width x.cell xs ws ss g first.0 first.1 r.1)

at_first : (es : List (ℕ × List ℕ)) (n : ℕ) → get_or (map (λ (e : ℕ × List ℕ). e.0) es) n 0 ≡ (get_or es n (0, [])).0
at_first [] n = refl
at_first (e ∷ es) zero = refl
at_first (e ∷ es) (suc n) = at_first es n

at_second : (es : List (ℕ × List ℕ)) (n : ℕ) → get_or (map (λ (e : ℕ × List ℕ). e.1) es) n [] ≡ (get_or es n (0, [])).1
at_second [] n = refl
at_second (e ∷ es) zero = refl
at_second (e ∷ es) (suc n) = at_second es n

pub laid_words : (cells : List SizedCell) (ws : List ℕ) (ss : List (List ℕ)) → FitInputs (input_cells cells) ws → FitStates (state_cells cells) ss
    → (map (λ (x : ℕ × SizedCell). get_or (laid_clock cells ws ss).words x.0 0) (input_cells cells) ≡ ws)
    × (map (λ (x : ℕ × SizedCell). cell_words x.1.cell (get_or (laid_clock cells ws ss).words x.0 0) (get_or (laid_clock cells ws ss).stores x.0 []))
    (state_cells cells) ≡ ss)
laid_words cells ws ss f g =
    laid_back (λ n. get_or (laid_clock cells ws ss).words n 0) (λ n. get_or (laid_clock cells ws ss).stores n []) 0 cells ws ss f g
    (λ j.
    let z : j ≡ 0 + j = omega arith in
    let es = laid cells ws ss in (
      subst (λ i. get_or (laid_clock cells ws ss).words i 0 ≡ (get_or es j (0, [])).0) z (at_first es j),
      subst (λ i. get_or (laid_clock cells ws ss).stores i [] ≡ (get_or es j (0, [])).1) z (at_second es j),
    ))
