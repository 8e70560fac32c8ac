-- The words of one layout after the other, and those of one block after the other.
use Rattle.std.proofs.Common.{ℕ, zero, suc, ◌≡◌, ◌+◌, ◌*◌, ◌<◌, ◌≤◌, List, [], ◌∷◌, ◌++◌, length, map, drop, take, get_or, Some, None, Result, Ok, Err, slice_get, arith, refl, ap, sym, ◌∙◌, subst, ◌-◌, ◌/◌, ◌%◌, length-drop, length-take-le}
use Rattle.std.specs.Prelude.{All, OnOk}
use Rattle.std.proofs.Math.Nat.{mul-div_cancel_left, zero-mul}
use Rattle.std.proofs.Math.Seq.{drop-cons}
use Rattle.std.proofs.lemmas.List.{append_assoc, drop-drop, length-map}
use Rattle.std.proofs.lemmas.List.Elements.{All-get_or}
use Rattle.std.proofs.lemmas.Option.{slice_get-map, slice_get_within, slice_get_read, slice_get_past, get_or_from_slice_get}
use Rattle.std.proofs.lemmas.List.Sums.{sum_by-cons}
use Rattle.ae_seqtype.specs.ValueTree.{cut}
use Rattle.ae_seqtype.proofs.Cuts.{length-cut}
use Rattle.ae_sttype.specs.declared.st_type.StType.{StType}
use Rattle.ae_sttype.specs.StTree.{StTree, st_tree, st_atoms, element_words}
use Rattle.ae_sttype.specs.Size.{IsInSize}
use Rattle.ae_layout.specs.Standing.{layout_row}
use Rattle.ae_play.specs.Fed.{block_row, blocks_of, clock_row, fill_row, layout_rows, size_of, values_of}

pub on_ok : {X E : Type 0} (r : Result X E) (P Q : Type 0) → (P → Q) → OnOk r P → OnOk r Q
on_ok (Ok x) P Q f h = f h
on_ok (Err e) P Q f h = tt

drop-next : {X : Type 0} (xs : List X) (i : ℕ) (x : X) → slice_get xs i ≡ Some x → drop i xs ≡ x ∷ drop (i + 1) xs
drop-next xs i x at =
    let next : suc i ≡ i + 1 = omega arith in
    drop-cons xs i x (slice_get_within xs i x at) ∙ (ap (λ y. y ∷ drop (suc i) xs) (get_or_from_slice_get xs i x x at) ∙ ap (λ n. x ∷ drop n xs) next)

tree-at : (ins : List StType) (i : ℕ) (s : StType) → slice_get ins i ≡ Some s → slice_get (map st_tree ins) i ≡ Some (st_tree s)
tree-at ins i s at = rw (slice_get-map st_tree ins i, at) refl

pub tree_there : (ins : List StType) (i : ℕ) (s : StType) → i < length ins → s ≡ get_or ins i s → slice_get ins i ≡ Some s
tree_there ins i s h is = slice_get_read ins (length ins) i s refl h is

-- what all layouts are, each is
pub tree_holds : (P : StTree → Type 0) (ins : List StType) (i : ℕ) (s : StType) → slice_get ins i ≡ Some s → All P (map st_tree ins) → P (st_tree s)
tree_holds P ins i s at all =
    let found = tree-at ins i s at in
    subst P (get_or_from_slice_get (map st_tree ins) i (st_tree s) (st_tree s) found)
    (All-get_or P (map st_tree ins) i (st_tree s) (slice_get_within (map st_tree ins) i (st_tree s) found) all)

pub next_tree : (ins : List StType) (i : ℕ) (s : StType) → slice_get ins i ≡ Some s → drop i (map st_tree ins) ≡ st_tree s ∷ drop (i + 1) (map st_tree ins)
next_tree ins i s at = drop-next (map st_tree ins) i (st_tree s) (tree-at ins i s at)

pub fill_more : (fill : ℕ) (s : StTree) (ss rest : List StTree) (now new all : List ℕ) → ss ≡ s ∷ rest → new ≡ now ++ layout_row fill s [] None → now
    ++ fill_row fill ss ≡ all → new ++ fill_row fill rest ≡ all
fill_more fill s ss rest now new all is made was =
    ap (λ ys. ys ++ fill_row fill rest) made ∙ (append_assoc now (layout_row fill s [] None) (fill_row fill rest) ∙
    (ap (λ ts. now ++ fill_row fill ts) (sym is) ∙ was))

-- the words of one more layout, and those that are left
pub block_more : (fill clock first : ℕ) (s : StTree) (ss rest : List StTree) (words value now new all : List ℕ) → ss ≡ s ∷ rest
    → value ≡ take (st_atoms s * element_words s) (drop first words) → new ≡ now ++ layout_row fill s value (Some clock)
    → now ++ layout_rows fill ss (values_of ss (drop first words)) clock ≡ all
    → new ++ layout_rows fill rest (values_of rest (drop (first + st_atoms s * element_words s) words)) clock ≡ all
block_more fill clock first s ss rest words value now new all is its made was =
    let size = st_atoms s * element_words s in
    let more : List ℕ = layout_rows fill rest (values_of rest (drop (first + size) words)) clock in
    let left : drop size (drop first words) ≡ drop (first + size) words = drop-drop size first words in
    ap (λ ys. ys ++ more) made
    ∙ (append_assoc now (layout_row fill s value (Some clock)) more
    ∙ (ap (λ vs. now ++ (layout_row fill s vs (Some clock) ++ more)) its
    ∙ (ap (λ ws. now ++ (layout_row fill s (take size (drop first words)) (Some clock) ++ layout_rows fill rest (values_of rest ws) clock)) (sym left)
    ∙ (ap (λ ts. now ++ layout_rows fill ts (values_of ts (drop first words)) clock) (sym is) ∙ was))))

pub size_more : (first n : ℕ) (s : StTree) (ss rest : List StTree) → ss ≡ s ∷ rest → first + size_of ss ≡ n
    → (first + st_atoms s * element_words s) + size_of rest ≡ n
size_more first n s ss rest is was =
    let one : size_of ss ≡ st_atoms s * element_words s + size_of rest = ap size_of is ∙ sum_by-cons (λ (t : StTree). st_atoms t * element_words t) s rest in
    omega (arith, one, was)

-- one of the layouts, whose words begin there
pub record IsPart (ins : List StType) (first n i : ℕ) (s : StType) : Type 0 where
  pub sized : IsInSize (st_tree s)
  pub next : drop i (map st_tree ins) ≡ st_tree s ∷ drop (i + 1) (map st_tree ins)
  pub left : (first + st_atoms (st_tree s) * element_words (st_tree s)) + size_of (drop (i + 1) (map st_tree ins)) ≡ n

pub part_there : (ins : List StType) (first n i : ℕ) (s : StType) → i < length ins → s ≡ get_or ins i s → All IsInSize (map st_tree ins)
    → first + size_of (drop i (map st_tree ins)) ≡ n → IsPart ins first n i s
part_there ins first n i s h is all left =
    let at = tree_there ins i s h is in
    record {
      sized = tree_holds IsInSize ins i s at all;
      next = next_tree ins i s at;
      left = size_more first n (st_tree s) (drop i (map st_tree ins)) (drop (i + 1) (map st_tree ins)) (next_tree ins i s at) left;
    }

pub product_is : (a b a' b' : ℕ) → a ≡ a' → b ≡ b' → a * b ≡ a' * b'
product_is a b a' b' p q = ap (λ n. n * b) p ∙ ap (λ n. a' * n) q

-- a part of the words
pub taken : (first n : ℕ) (words : List ℕ) → first + n ≤ length words → length (take ((first + n) - first) (drop first words)) ≡ n
taken first n words h =
    let e : (first + n) - first ≡ n = omega arith in
    ap (λ k. length (take k (drop first words))) e ∙ length-take-le n (drop first words) (omega (arith, h, length-drop first words))

pub sliced : (first n m : ℕ) (words : List ℕ) → n ≡ m → take ((first + n) - first) (drop first words) ≡ take m (drop first words)
sliced first n m words is = let e : (first + n) - first ≡ m = omega (arith, is) in ap (λ k. take k (drop first words)) e

-- ---- one block after the other

cut_at : {A : Type 0} (n k : ℕ) (ws : List A) (b : ℕ) → b < n → slice_get (cut n k ws) b ≡ Some (take k (drop (b * k) ws))
cut_at zero k ws b h = absurd (omega arith)
cut_at (suc n) k ws zero h = rw (zero-mul k) refl
cut_at (suc n) k ws (suc b) h =
    let sum : suc b * k ≡ k + b * k = omega arith in
    rw (sum, ← drop-drop (b * k) k ws) (cut_at n k (drop k ws) b (omega arith))

pub block_at : (ss : List StTree) (n : ℕ) (words : List ℕ) (b : ℕ) → b < n
    → slice_get (blocks_of ss n words) b ≡ Some (values_of ss (take (size_of ss) (drop (b * size_of ss) words)))
block_at ss n words b h = rw (slice_get-map (values_of ss) (cut n (size_of ss) words) b, cut_at n (size_of ss) words b h) refl

pub block_count : (ss : List StTree) (n : ℕ) (words : List ℕ) → length (blocks_of ss n words) ≡ n
block_count ss n words = length-map (cut n (size_of ss) words) (values_of ss) ∙ length-cut n (size_of ss) words

pub no_block : (ss : List StTree) (n : ℕ) (words : List ℕ) (b : ℕ) → n ≤ b → slice_get (blocks_of ss n words) b ≡ None
no_block ss n words b h = slice_get_past (blocks_of ss n words) b (omega (arith, h, block_count ss n words))

size_from : (n size long : ℕ) → 0 < n → long ≡ n * size → long / n ≡ size
size_from n size long h is = ap (λ k. k / n) is ∙ mul-div_cancel_left size h

pub row_in_block : (slowdown fill : ℕ) (ss : List StTree) (n clock : ℕ) (words now new : List ℕ) → clock / slowdown < n → length words ≡ n * size_of ss
    → now ≡ 0 ∷ []
    → new ≡ now ++ layout_rows fill ss (values_of ss (take ((clock / slowdown * (length words / n) + length words / n) - clock / slowdown * (length words / n))
    (drop (clock / slowdown * (length words / n)) words))) (clock % slowdown)
    → new ≡ clock_row slowdown fill ss (blocks_of ss n words) clock
row_in_block slowdown fill ss n clock words now new h whole begun made =
    let b = clock / slowdown in
    let size : length words / n ≡ size_of ss = size_from n (size_of ss) (length words) (omega (arith, h)) whole in
    let one : (b * size_of ss + size_of ss) - b * size_of ss ≡ size_of ss = omega arith in
    made
    ∙ ap (λ k. now ++ layout_rows fill ss (values_of ss (take ((b * k + k) - b * k) (drop (b * k) words))) (clock % slowdown)) size
    ∙ ap (λ k. now ++ layout_rows fill ss (values_of ss (take k (drop (b * size_of ss) words))) (clock % slowdown)) one
    ∙ ap (λ ys. ys ++ layout_rows fill ss (values_of ss (take (size_of ss) (drop (b * size_of ss) words))) (clock % slowdown)) begun
    ∙ ap (λ o. 0 ∷ block_row fill ss o (clock % slowdown)) (sym (block_at ss n words b h))

pub row_past_blocks : (slowdown fill : ℕ) (ss : List StTree) (n clock : ℕ) (words now new : List ℕ) → n ≤ clock / slowdown → now ≡ 0 ∷ [] → new ≡ now
    ++ fill_row fill ss → new ≡ clock_row slowdown fill ss (blocks_of ss n words) clock
row_past_blocks slowdown fill ss n clock words now new h begun made =
    made ∙ ap (λ ys. ys ++ fill_row fill ss) begun ∙ ap (λ o. 0 ∷ block_row fill ss o (clock % slowdown)) (sym (no_block ss n words (clock / slowdown) h))
