-- The words of a row: those of each layout in turn.
use Rattle.std.proofs.Common.{ℕ, zero, suc, ◌≡◌, ◌+◌, ◌<◌, List, [], ◌∷◌, length, take, get_or, Option, Some, None, slice_get, arith, ap, sym, ◌∙◌}
use Rattle.std.proofs.lemmas.List.{get_or_append_left, get_or-append-add}
use Rattle.std.proofs.lemmas.Option.{none-some, same_Some}
use Rattle.ae_sttype.specs.StTree.{StTree}
use Rattle.ae_layout.specs.Standing.{layout_row}
use Rattle.ae_layout.proofs.RowWords.{length_row as length_layout}
use Rattle.ae_ops.specs.Blocks.{stream_of, stream_widths}
use Rattle.ae_ports.specs.Ports.{streams_of, columns_in}
use Rattle.ae_ports.proofs.Columns.{stream_columns}
use Rattle.ae_play.specs.Fed.{fill_row, layout_rows}
use Rattle.ae_correct.proofs.Places.{columns_more}

length_row : (fill : ℕ) (s : StTree) (value : List ℕ) (o : Option ℕ) → length (layout_row fill s value o) ≡ length (stream_widths (stream_of s))
length_row fill s value o = length_layout fill s value o ∙ sym (stream_columns s)

-- a column of the layout that has number q
pub fill_at : (fill : ℕ) (ss : List StTree) (q column : ℕ) (s : StTree) → slice_get ss q ≡ Some s → column < length (stream_widths (stream_of s))
    → get_or (fill_row fill ss) (columns_in (take q (streams_of ss)) + column) 0 ≡ get_or (layout_row fill s [] None) column 0
fill_at fill [] q column s found small = absurd (none-some s found)
fill_at fill (x ∷ ss) zero column s found small =
    let z : columns_in (take 0 (streams_of (x ∷ ss))) + column ≡ column = omega arith in
    let is : x ≡ s = same_Some x s found in
    let room : column < length (layout_row fill x [] None) = omega (
      arith,
      small,
      length_row fill x [] None,
      ap (λ (y : StTree). length (stream_widths (stream_of y))) is,
    ) in
    ap (λ i. get_or (fill_row fill (x ∷ ss)) i 0) z ∙ get_or_append_left (layout_row fill x [] None) (fill_row fill ss) 0 column room ∙
    ap (λ (y : StTree). get_or (layout_row fill y [] None) column 0) is
fill_at fill (x ∷ ss) (suc q) column s found small =
    let place : columns_in (take (suc q) (streams_of (x ∷ ss))) + column ≡ length
    (layout_row fill x [] None) + (columns_in (take q (streams_of ss)) + column) = omega (
      arith,
      columns_more (stream_of x) (take q (streams_of ss)),
      length_row fill x [] None,
    ) in
    ap (λ i. get_or (fill_row fill (x ∷ ss)) i 0) place
    ∙ get_or-append-add (layout_row fill x [] None) (fill_row fill ss) (columns_in (take q (streams_of ss)) + column) 0
    ∙ fill_at fill ss q column s found small

pub rows_at : (fill c : ℕ) (ss : List StTree) (values : List (List ℕ)) (q column : ℕ) (s : StTree) (v : List ℕ) → slice_get ss q ≡ Some s
    → slice_get values q ≡ Some v → length values ≡ length ss → column < length (stream_widths (stream_of s))
    → get_or (layout_rows fill ss values c) (columns_in (take q (streams_of ss)) + column) 0 ≡ get_or (layout_row fill s v (Some c)) column 0
rows_at fill c [] values q column s v found held many small = absurd (none-some s found)
rows_at fill c (x ∷ ss) [] q column s v found held many small = absurd (none-some v held)
rows_at fill c (x ∷ ss) (y ∷ values) zero column s v found held many small =
    let z : columns_in (take 0 (streams_of (x ∷ ss))) + column ≡ column = omega arith in
    let is : x ≡ s = same_Some x s found in
    let own : y ≡ v = same_Some y v held in
    let room : column < length (layout_row fill x y (Some c)) = omega (
      arith,
      small,
      length_row fill x y (Some c),
      ap (λ (t : StTree). length (stream_widths (stream_of t))) is,
    ) in
    ap (λ i. get_or (layout_rows fill (x ∷ ss) (y ∷ values) c) i 0) z
    ∙ get_or_append_left (layout_row fill x y (Some c)) (layout_rows fill ss values c) 0 column room
    ∙ (λ i. get_or (layout_row fill (is i) (own i) (Some c)) column 0)
rows_at fill c (x ∷ ss) (y ∷ values) (suc q) column s v found held many small =
    let place : columns_in (take (suc q) (streams_of (x ∷ ss))) + column ≡ length
    (layout_row fill x y (Some c)) + (columns_in (take q (streams_of ss)) + column) = omega (
      arith,
      columns_more (stream_of x) (take q (streams_of ss)),
      length_row fill x y (Some c),
    ) in
    ap (λ i. get_or (layout_rows fill (x ∷ ss) (y ∷ values) c) i 0) place
    ∙ get_or-append-add (layout_row fill x y (Some c)) (layout_rows fill ss values c) (columns_in (take q (streams_of ss)) + column) 0
    ∙ rows_at fill c ss values q column s v found held (omega (arith, many)) small
