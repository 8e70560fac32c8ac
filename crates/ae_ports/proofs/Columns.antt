-- The columns of layouts, and words of lists that are joined.
use Rattle.std.proofs.Common.{ℕ, zero, suc, ◌≡◌, ◌+◌, ◌*◌, ◌<◌, List, [], ◌∷◌, ◌++◌, length, map, take, get_or, flat_map, arith, refl, ap, sym, ◌∙◌}
use Rattle.std.specs.List.{range_with_len}
use Rattle.std.proofs.lemmas.List.{get_or-append-add, get_or_append_left, length-map}
use Rattle.std.proofs.lemmas.List.Sums.{sum_by-cons}
use Rattle.ae_word.specs.AtomTree.{WordKind, atom_kinds}
use Rattle.ae_word.proofs.Sizes.{length-atom_kinds}
use Rattle.ae_seqtype.proofs.Sizes.{length-repeated}
use Rattle.ae_sttype.specs.StTree.{StTree, lanes, element_atom, element_words}
use Rattle.ae_sttype.specs.Moves.{columns_of, first_column}
use Rattle.ae_ops.specs.Blocks.{Stream, stream_of, stream_widths}
use Rattle.ae_ports.specs.Ports.{columns_in, streams_of}

pub element_columns : (s : StTree) → length (stream_of s).widths ≡ element_words s
element_columns s = length-map (atom_kinds (element_atom s)) (λ (k : WordKind). k.width) ∙ length-atom_kinds (element_atom s)

pub stream_columns : (s : StTree) → length (stream_widths (stream_of s)) ≡ lanes s * element_words s
stream_columns s = length-repeated (lanes s) (map (λ (k : WordKind). k.width) (atom_kinds (element_atom s))) ∙ ap (λ k. lanes s * k) (element_columns s)

pub map_map : {A B C : Type 0} (f : B → C) (g : A → B) (xs : List A) → map f (map g xs) ≡ map (λ x. f (g x)) xs
map_map f g [] = refl
map_map f g (x ∷ xs) = ap (λ ys. f (g x) ∷ ys) (map_map f g xs)

-- the columns before a layout are the nets of the streams before it
pub first_columns : (ss : List StTree) (q : ℕ) → first_column ss q ≡ columns_in (take q (streams_of ss))
first_columns [] zero = refl
first_columns [] (suc q) = refl
first_columns (s ∷ ss) zero = refl
first_columns (s ∷ ss) (suc q) =
    omega (
      arith,
      sum_by-cons columns_of s (take q ss),
      sum_by-cons (λ (x : Stream). length (stream_widths x)) (stream_of s) (take q (streams_of ss)),
      stream_columns s,
      first_columns ss q,
    )

-- word r of the e-th of lists of m words each, one after the other from number k on
pub joined_word : (f : ℕ → List ℕ) (m k n e r : ℕ) → ((i : ℕ) → i < k + n → length (f i) ≡ m) → e < n → r < m
    → get_or (flat_map f (range_with_len k n)) (e * m + r) 0 ≡ get_or (f (k + e)) r 0
joined_word f m k zero e r long h p = absurd (omega arith)
joined_word f m k (suc n) zero r long h p =
    let here : length (f k) ≡ m = long k (omega arith) in
    let z : zero * m + r ≡ r = omega arith in
    let s : k + zero ≡ k = omega arith in
    ap (λ i. get_or (f k ++ flat_map f (range_with_len (k + 1) n)) i 0) z ∙
    (get_or_append_left (f k) (flat_map f (range_with_len (k + 1) n)) 0 r (omega arith) ∙ ap (λ i. get_or (f i) r 0) (sym s))
joined_word f m k (suc n) (suc e) r long h p =
    let here : length (f k) ≡ m = long k (omega arith) in
    let place : suc e * m + r ≡ length (f k) + (e * m + r) = omega arith in
    let s : k + 1 + e ≡ k + suc e = omega arith in
    ap (λ i. get_or (f k ++ flat_map f (range_with_len (k + 1) n)) i 0) place
    ∙ (get_or-append-add (f k) (flat_map f (range_with_len (k + 1) n)) (e * m + r) 0
    ∙ (joined_word f m (k + 1) n e r (λ i l. long i (omega arith)) (omega arith) p ∙ ap (λ i. get_or (f i) r 0) s))
