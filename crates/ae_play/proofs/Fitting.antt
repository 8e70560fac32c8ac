-- The rows of blocks whose words fit are inputs of a circuit that has their columns.
use Rattle.std.proofs.Common.{ℕ, zero, suc, ◌≡◌, ◌+◌, ◌*◌, ◌/◌, ◌%◌, ◌^◌, ◌<◌, ◌≤◌, ◌⊎◌, inl, inr, List, [], ◌∷◌, length, length-append, false, map, drop, take, get_or, Option, Some, None, slice_get, flat_map, arith, refl, ap, sym, ◌∙◌, subst}
use Rattle.std.specs.List.{range_with_len}
use Rattle.std.proofs.Math.Nat.{mod-lt, zero-mul}
use Rattle.std.proofs.lemmas.Nat.{pow_pos}
use Rattle.std.proofs.lemmas.List.{drop-drop, get_or-drop, get_or-take, length-map}
use Rattle.std.proofs.lemmas.List.Concat.{flat_map-cons}
use Rattle.std.proofs.lemmas.List.Elements.{All-from_get_or}
use Rattle.std.proofs.lemmas.List.Sums.{length-filter, sum_by-cons}
use Rattle.std.proofs.lemmas.Option.{slice_get-get_or, slice_get-map, slice_get_within}
use Rattle.ae_word.specs.AtomTree.{WordKind, atom_kinds}
use Rattle.ae_word.proofs.Sizes.{length-atom_kinds}
use Rattle.ae_seqtype.specs.SeqTree.{repeated}
use Rattle.ae_seqtype.specs.ValueTree.{FitKinds}
use Rattle.ae_seqtype.proofs.Sizes.{length-repeated}
use Rattle.ae_seqtype.proofs.Stands.{FitKinds-append, FitKinds-split, length-FitKinds}
use Rattle.ae_sttype.specs.StTree.{StTree, element_atom, element_words, lanes, st_atoms}
use Rattle.ae_netlist.specs.declared.cell.SizedCell.{SizedCell}
use Rattle.ae_netlist.specs.Counts.{cells_of, is_input}
use Rattle.ae_netlist.specs.Rows.{AreInputs}
use Rattle.ae_layout.specs.Standing.{lane_words, layout_row, standing, stood_word}
use Rattle.ae_layout.proofs.Standing.{element_below}
use Rattle.ae_play.specs.Fed.{block_row, blocks_of, clock_row, fed_rows, fill_row, layout_rows, size_of, values_of}
use Rattle.ae_play.specs.Fits.{CanBeFed, FitBlocks, lane_kinds, value_kinds}
use Rattle.ae_play.proofs.Layouts.{block_at, no_block}
use Rattle.ae_play.proofs.PlayedRuns.{length-rows, later_row}

-- ---- lists of words that fit

fit_at : (ws : List ℕ) (ks : List WordKind) (j : ℕ) (k : WordKind) → FitKinds ws ks → slice_get ks j ≡ Some k → get_or ws j 0 < 2 ^ k.width
fit_at [] [] j k h at = absurd cc
fit_at (x ∷ ws) (l ∷ ks) zero k h at = let same : l ≡ k = cc in subst (λ (m : WordKind). x < 2 ^ m.width) same h.0
fit_at (x ∷ ws) (l ∷ ks) (suc j) k h at = fit_at ws ks j k h.1 at
fit_at [] (l ∷ ks) j k h at = absurd h
fit_at (x ∷ ws) [] j k h at = absurd h

-- a piece of words that fit the same kinds again and again
piece_fits : (n e : ℕ) (ks : List WordKind) (ws : List ℕ) → e < n → FitKinds ws (repeated n ks) → FitKinds (take (length ks) (drop (e * length ks) ws)) ks
piece_fits zero e ks ws below h = absurd (omega arith)
piece_fits (suc n) zero ks ws below h = rw (zero-mul (length ks)) ((FitKinds-split ks (repeated n ks) ws h).0)
piece_fits (suc n) (suc e) ks ws below h =
    let sum : suc e * length ks ≡ length ks + e * length ks = omega arith in
    rw (sum, ← drop-drop (e * length ks) (length ks) ws) (piece_fits n e ks (drop (length ks) ws) (omega arith) ((FitKinds-split ks (repeated n ks) ws h).1))

word_fits : (n e j : ℕ) (k : WordKind) (ks : List WordKind) (ws : List ℕ) → e < n → slice_get ks j ≡ Some k → FitKinds ws (repeated n ks)
    → get_or ws (e * length ks + j) 0 < 2 ^ k.width
word_fits n e j k ks ws below at h =
    let within : j < length ks = slice_get_within ks j k at in
    let same : get_or (take (length ks) (drop (e * length ks) ws)) j 0 ≡ get_or ws (e * length ks + j) 0 = get_or-take (length ks)
    (drop (e * length ks) ws) j 0 within ∙ get_or-drop (e * length ks) ws j 0 in
    subst (λ w. w < 2 ^ k.width) same (fit_at (take (length ks) (drop (e * length ks) ws)) ks j k (piece_fits n e ks ws below h) at)

again_fits : (f : ℕ → List ℕ) (ks : List WordKind) → ((l : ℕ) → FitKinds (f l) ks) → (a n : ℕ) → FitKinds (flat_map f (range_with_len a n)) (repeated n ks)
again_fits f ks each a zero = tt
again_fits f ks each a (suc n) =
    rw (flat_map-cons f a (range_with_len (a + 1) n)) (FitKinds-append (f a) (flat_map f (range_with_len (a + 1) n)) ks (repeated n ks) (each a)
    (again_fits f ks each (a + 1) n))

-- ---- rows

stood_fits : (fill width words : ℕ) (value : List ℕ) (j : ℕ) (o : Option ℕ) → ((e : ℕ) → o ≡ Some e → get_or value (e * words + j) 0 < 2 ^ width)
    → stood_word fill width words value j o < 2 ^ width
stood_fits fill width words value j None h = mod-lt fill (pow_pos width)
stood_fits fill width words value j (Some e) h = h e refl

lane_fits : (fill words : ℕ) (value : List ℕ) (o : Option ℕ) (j : ℕ) (ks : List WordKind)
    → ((e i : ℕ) (k : WordKind) → o ≡ Some e → slice_get ks i ≡ Some k → get_or value (e * words + (j + i)) 0 < 2 ^ k.width)
    → FitKinds (lane_words fill words value o j ks) ks
lane_fits fill words value o j [] h = tt
lane_fits fill words value o j (k ∷ ks) h =
    let first : j + 0 ≡ j = omega arith in (
      stood_fits fill k.width words value j o (λ e is. subst (λ n. get_or value (e * words + n) 0 < 2 ^ k.width) first (h e 0 k is refl)),
      lane_fits fill words value o (j + 1) ks (λ e i l is at.
          let next : j + suc i ≡ (j + 1) + i = omega arith in
          subst (λ n. get_or value (e * words + n) 0 < 2 ^ l.width) next (h e (suc i) l is at)),
    )

layout_fits : (fill : ℕ) (s : StTree) (value : List ℕ) (c : ℕ) → FitKinds value (value_kinds s) → FitKinds (layout_row fill s value (Some c)) (lane_kinds s)
layout_fits fill s value c h =
    let ks = atom_kinds (element_atom s) in
    again_fits (λ l. lane_words fill (element_words s) value (standing s (Some c) l) 0 ks) ks
    (λ l. lane_fits fill (element_words s) value (standing s (Some c) l) 0 ks
    (λ e i k is at.
    let first : 0 + i ≡ i = omega arith in
    let word : get_or value (e * length ks + i) 0 < 2 ^ k.width = word_fits (st_atoms s) e i k ks value (element_below s c l e is) at h in
    subst (λ n. get_or value (e * n + (0 + i)) 0 < 2 ^ k.width) (length-atom_kinds (element_atom s))
    (subst (λ n. get_or value (e * length ks + n) 0 < 2 ^ k.width) (sym first) word)))
    0 (lanes s)

blank_fits : (fill : ℕ) (s : StTree) → FitKinds (layout_row fill s [] None) (lane_kinds s)
blank_fits fill s =
    let ks = atom_kinds (element_atom s) in
    again_fits (λ l. lane_words fill (element_words s) [] None 0 ks) ks (λ l. lane_fits fill (element_words s) [] None 0 ks (λ e i k is at. absurd cc)) 0
    (lanes s)

fill_fits : (fill : ℕ) (ss : List StTree) → FitKinds (fill_row fill ss) (flat_map lane_kinds ss)
fill_fits fill [] = tt
fill_fits fill (s ∷ ss) =
    rw (flat_map-cons lane_kinds s ss) (FitKinds-append (layout_row fill s [] None) (fill_row fill ss) (lane_kinds s) (flat_map lane_kinds ss)
    (blank_fits fill s) (fill_fits fill ss))

value_long : (s : StTree) → length (value_kinds s) ≡ st_atoms s * element_words s
value_long s = length-repeated (st_atoms s) (atom_kinds (element_atom s)) ∙ ap (λ n. st_atoms s * n) (length-atom_kinds (element_atom s))

rows_fit : (fill : ℕ) (ss : List StTree) (ws : List ℕ) (c : ℕ) → FitKinds ws (flat_map value_kinds ss)
    → FitKinds (layout_rows fill ss (values_of ss ws) c) (flat_map lane_kinds ss)
rows_fit fill [] ws c h = tt
rows_fit fill (s ∷ ss) ws c h =
    let long : length (value_kinds s) ≡ st_atoms s * element_words s = value_long s in
    let parts = FitKinds-split (value_kinds s) (flat_map value_kinds ss) ws (rw (← flat_map-cons value_kinds s ss) h) in
    let first : FitKinds (take (st_atoms s * element_words s) ws) (value_kinds s) = subst (λ n. FitKinds (take n ws) (value_kinds s)) long parts.0 in
    let later : FitKinds (drop (st_atoms s * element_words s) ws) (flat_map value_kinds ss) = subst
    (λ n. FitKinds (drop n ws) (flat_map value_kinds ss)) long parts.1 in
    rw (flat_map-cons lane_kinds s ss)
    (FitKinds-append (layout_row fill s (take (st_atoms s * element_words s) ws) (Some c))
    (layout_rows fill ss (values_of ss (drop (st_atoms s * element_words s) ws)) c) (lane_kinds s) (flat_map lane_kinds ss)
    (layout_fits fill s (take (st_atoms s * element_words s) ws) c first) (rows_fit fill ss (drop (st_atoms s * element_words s) ws) c later))

block_long : (ss : List StTree) → length (flat_map value_kinds ss) ≡ size_of ss
block_long [] = refl
block_long (s ∷ ss) =
    ap length (flat_map-cons value_kinds s ss)
    ∙ omega (
      arith,
      length-append (value_kinds s) (flat_map value_kinds ss),
      value_long s,
      block_long ss,
      sum_by-cons (λ (t : StTree). st_atoms t * element_words t) s ss,
    )

below_or_not : (a b : ℕ) → (a < b) ⊎ (b ≤ a)
below_or_not a zero = inr (omega arith)
below_or_not zero (suc b) = inl (omega arith)
below_or_not (suc a) (suc b) = elim (below_or_not a b) [ inl h ↦ inl (omega arith) | inr h ↦ inr (omega arith) ]

block_row_fits : (fill : ℕ) (ss : List StTree) (n : ℕ) (ws : List ℕ) (b c : ℕ) → FitBlocks ss n ws
    → FitKinds (block_row fill ss (slice_get (blocks_of ss n ws) b) c) (flat_map lane_kinds ss)
block_row_fits fill ss n ws b c h = elim (below_or_not b n) [
  | inl below ↦
      let piece = piece_fits n b (flat_map value_kinds ss) ws below h in
      let sized : FitKinds (take (size_of ss) (drop (b * size_of ss) ws)) (flat_map value_kinds ss) = subst
      (λ k. FitKinds (take k (drop (b * k) ws)) (flat_map value_kinds ss)) (block_long ss) piece in
      rw (block_at ss n ws b below) (rows_fit fill ss (take (size_of ss) (drop (b * size_of ss) ws)) c sized)
  | inr past ↦ rw (no_block ss n ws b past) (fill_fits fill ss)
]

-- ---- inputs

abbrev a_bit : WordKind
a_bit = record { signed = false; width = 1 }

low : 0 < 2 ^ a_bit.width
low = let h : 0 < 2 = omega arith in h

high : 1 < 2 ^ a_bit.width
high = let h : 1 < 2 = omega arith in h

as_inputs : (cells : List SizedCell) (ks : List WordKind) (row : List ℕ)
    → map (λ (sized : SizedCell). sized.width) (cells_of is_input cells) ≡ map (λ (k : WordKind). k.width) ks → FitKinds row ks → AreInputs cells row
as_inputs cells ks row same h =
    let wide : SizedCell → ℕ = λ sized. sized.width in
    let width : WordKind → ℕ = λ k. k.width in
    let inputs : List SizedCell = cells_of is_input cells in
    let many : length ks ≡ length inputs = sym (length-map ks width) ∙ ap length (sym same) ∙ length-map inputs wide in
    record {
      long = length-FitKinds row ks h ∙ many ∙ length-filter (λ (sized : SizedCell). is_input sized.cell) cells;
      fit = λ n sized at.
          let within : n < length ks = omega (arith, many, slice_get_within inputs n sized at) in
          let k : WordKind = get_or ks n a_bit in
          let found : slice_get ks n ≡ Some k = slice_get-get_or ks n a_bit within in
          let one : slice_get (map wide inputs) n ≡ Some sized.width = rw (slice_get-map wide inputs n, at) refl in
          let other : slice_get (map width ks) n ≡ Some k.width = rw (slice_get-map width ks n, found) refl in
          let equal : k.width ≡ sized.width = some-same k.width sized.width (sym other ∙ ap (λ ws. slice_get ws n) (sym same) ∙ one) in
          subst (λ w. get_or row n 0 < 2 ^ w) equal (fit_at row ks n k h found);
    }
  where
    some-same : (a b : ℕ) → Some a ≡ Some b → a ≡ b
    some-same a b e = cc

pub fed : CanBeFed
fed cells slowdown fill ss n ws columns fits clocks =
    All-from_get_or (AreInputs cells) (fed_rows slowdown fill ss (blocks_of ss n ws) clocks) [] (each columns)
  where
    kinds : List WordKind
    kinds = a_bit ∷ flat_map lane_kinds ss

    row : ℕ → List ℕ
    row = clock_row slowdown fill ss (blocks_of ss n ws)

    at : (t : ℕ) → t < clocks + 1 → FitKinds (get_or (fed_rows slowdown fill ss (blocks_of ss n ws) clocks) t []) kinds
    at zero h = (high, fill_fits fill ss)
    at (suc t) h = subst (λ r. FitKinds r kinds) (sym (later_row (1 ∷ fill_row fill ss) row clocks t (omega arith)))
        (low, block_row_fits fill ss n ws (t / slowdown) (t % slowdown) fits)

    each : map (λ (sized : SizedCell). sized.width) (cells_of is_input cells) ≡ map (λ (k : WordKind). k.width) kinds → (t : ℕ)
        → t < length (fed_rows slowdown fill ss (blocks_of ss n ws) clocks)
        → AreInputs cells (get_or (fed_rows slowdown fill ss (blocks_of ss n ws) clocks) t [])
    each same t h = as_inputs cells kinds (get_or (fed_rows slowdown fill ss (blocks_of ss n ws) clocks) t []) same
        (at t (omega (arith, h, length-rows (1 ∷ fill_row fill ss) row clocks)))
