-- The words of a layout in one clock: lane by lane, and in it word by word.
use Rattle.std.proofs.Common.{ℕ, zero, suc, ◌≡◌, ◌+◌, ◌-◌, ◌*◌, ◌%◌, ◌^◌, ◌<◌, ◌≤◌, false, List, [], ◌∷◌, ◌++◌, length, map, drop, get_or, Option, Some, None, option_map, slice_get, flat_map, arith, refl, ap, sym, ◌∙◌}
use Rattle.std.specs.List.{range_with_len}
use Rattle.std.proofs.Math.ListN.{drop_of_length-le}
use Rattle.std.proofs.Math.Nat.{mod-eq_of_lt}
use Rattle.std.proofs.Math.Pow.{pow_mono}
use Rattle.std.proofs.Math.Seq.{drop-cons}
use Rattle.std.proofs.lemmas.List.{append_assoc}
use Rattle.std.proofs.lemmas.Option.{none-some, same_Some, get_or_from_slice_get, slice_get-get_or, slice_get-map}
use Rattle.ae_word.specs.AtomTree.{AtomTree, WordKind, atom_kinds, atom_words}
use Rattle.ae_word.proofs.Sizes.{length-atom_kinds}
use Rattle.ae_sttype.specs.StTree.{StTree, lanes, element_atom, element_words}
use Rattle.ae_layout.specs.Rows.{fill_words}
use Rattle.ae_layout.specs.Standing.{lane_words, layout_row, standing, stood_word}
use Rattle.ae_layout.proofs.PieceLemmas.{Joined, Pieces, joined}

-- ---- one more word, one more lane

-- a word is itself modulo 2 to 64 bits or more
pub low_bits-wide : (word width : ℕ) → word < 2 ^ 64 → 64 ≤ width → word ≡ word % 2 ^ width
low_bits-wide word width fits wide = sym (mod-eq_of_lt (let more : 2 ^ 64 ≤ 2 ^ width = pow_mono wide in omega arith))

no_kind : WordKind
no_kind = record { signed = false; width = 0 }

-- one more word of a lane
pub lane_more : (fill words : ℕ) (value : List ℕ) (o : Option ℕ) (j : ℕ) (kinds : List WordKind) (now : List ℕ) (x : ℕ) (all : List ℕ) → j < length kinds
    → ((k : WordKind) → slice_get kinds j ≡ Some k → x ≡ stood_word fill k.width words value j o)
    → now ++ lane_words fill words value o j (drop j kinds) ≡ all → (now ++ x ∷ []) ++ lane_words fill words value o (j + 1) (drop (j + 1) kinds) ≡ all
lane_more fill words value o j kinds now x all h is was =
    let k : WordKind = get_or kinds j no_kind in
    let at : slice_get kinds j ≡ Some k = slice_get-get_or kinds j no_kind h in
    let cut : drop j kinds ≡ k ∷ drop (suc j) kinds = drop-cons kinds j no_kind h in
    let next : suc j ≡ j + 1 = omega arith in
    let one : lane_words fill words value o j (drop j kinds) ≡ x ∷ lane_words fill words value o (j + 1) (drop (j + 1) kinds) =
    ap (lane_words fill words value o j) cut
    ∙ (ap (λ n. stood_word fill k.width words value j o ∷ lane_words fill words value o (j + 1) (drop n kinds)) next ∙
    ap (λ y. y ∷ lane_words fill words value o (j + 1) (drop (j + 1) kinds)) (sym (is k at))) in
    append_assoc now (x ∷ []) (lane_words fill words value o (j + 1) (drop (j + 1) kinds)) ∙ (ap (λ ys. now ++ ys) (sym one) ∙ was)

pub lane_all : (fill words : ℕ) (value : List ℕ) (o : Option ℕ) (j : ℕ) (kinds : List WordKind) → length kinds ≤ j
    → lane_words fill words value o j (drop j kinds) ≡ []
lane_all fill words value o j kinds h = ap (lane_words fill words value o j) (drop_of_length-le kinds h)

-- each word has its kind
pub kind_there : (a b : AtomTree) (j : ℕ) (o : Option ℕ) → a ≡ b → j < atom_words b → o ≡ option_map (λ (w : WordKind). w.width) (slice_get (atom_kinds a) j)
    → o ≡ None → ⊥
kind_there a b j o same h is none =
    let at : slice_get (atom_kinds a) j ≡ Some (get_or (atom_kinds a) j no_kind) = slice_get-get_or (atom_kinds a) j no_kind
    (omega (arith, length-atom_kinds a, ap atom_words same)) in
    none-some _ (sym none ∙ (is ∙ ap (option_map (λ (w : WordKind). w.width)) at))

pub lanes_more : (f : ℕ → List ℕ) (n i : ℕ) (now more all : List ℕ) → i < n → more ≡ f i → now ++ flat_map f (range_with_len i (n - i)) ≡ all → (now ++ more)
    ++ flat_map f (range_with_len (i + 1) (n - (i + 1))) ≡ all
lanes_more f n i now more all h is was =
    let left : n - i ≡ suc (n - (i + 1)) = omega arith in
    append_assoc now more (flat_map f (range_with_len (i + 1) (n - (i + 1))))
    ∙ (ap (λ ys. now ++ (ys ++ flat_map f (range_with_len (i + 1) (n - (i + 1))))) is
    ∙ (ap (λ k. now ++ flat_map f (range_with_len i k)) (sym left) ∙ was))

-- ---- the word at a place

length_lane : (fill words : ℕ) (value : List ℕ) (o : Option ℕ) (j : ℕ) (ks : List WordKind) → length (lane_words fill words value o j ks) ≡ length ks
length_lane fill words value o j [] = refl
length_lane fill words value o j (k ∷ ks) = ap suc (length_lane fill words value o (j + 1) ks)

word_of_lane : (fill words : ℕ) (value : List ℕ) (o : Option ℕ) (j i : ℕ) (k : WordKind) (ks : List WordKind) → slice_get ks i ≡ Some k
    → get_or (lane_words fill words value o j ks) i 0 ≡ stood_word fill k.width words value (j + i) o
word_of_lane fill words value o j i k [] h = absurd (none-some k h)
word_of_lane fill words value o j zero k (x ∷ ks) h =
    let z : j ≡ j + 0 = omega arith in
    ap (λ (y : WordKind). stood_word fill y.width words value j o) (same_Some x k h) ∙ ap (λ n. stood_word fill k.width words value n o) z
word_of_lane fill words value o j (suc i) k (x ∷ ks) h =
    let next : j + 1 + i ≡ j + suc i = omega arith in
    word_of_lane fill words value o (j + 1) i k ks h ∙ ap (λ n. stood_word fill k.width words value n o) next

module _ (fill : ℕ) (s : StTree) (value : List ℕ) (o : Option ℕ) where
  abbrev kinds : List WordKind
  kinds = atom_kinds (element_atom s)

  abbrev lane : ℕ → List ℕ
  lane l = lane_words fill (element_words s) value (standing s o l) 0 kinds

  lane_by_lane : Pieces (Joined lane) (element_words s) (lanes s) (layout_row fill s value o)
  lane_by_lane = joined lane (element_words s) (lanes s)
      (λ l. length_lane fill (element_words s) value (standing s o l) 0 kinds ∙ length-atom_kinds (element_atom s))

  pub length_row : length (layout_row fill s value o) ≡ lanes s * element_words s
  length_row = lane_by_lane.long

  kind_at : (j : ℕ) → j < element_words s → (k : WordKind) × (slice_get kinds j ≡ Some k)
  kind_at j small = (get_or kinds j no_kind, slice_get-get_or kinds j no_kind (omega (arith, small, length-atom_kinds (element_atom s))))

  -- a word of a row, by the element that stands on its lane
  row_word : (l j : ℕ) (k : WordKind) → l < lanes s → j < element_words s → slice_get kinds j ≡ Some k
      → get_or (layout_row fill s value o) (l * element_words s + j) 0 ≡ stood_word fill k.width (element_words s) value j (standing s o l)
  row_word l j k below small at =
      let z : 0 + j ≡ j = omega arith in
      lane_by_lane.each l j below small
      ∙ word_of_lane fill (element_words s) value (standing s o l) 0 j k kinds at
      ∙ ap (λ i. stood_word fill k.width (element_words s) value i (standing s o l)) z

  pub stood : (l j e : ℕ) → l < lanes s → j < element_words s → standing s o l ≡ Some e
      → get_or (layout_row fill s value o) (l * element_words s + j) 0 ≡ get_or value (e * element_words s + j) 0
  stood l j e below small is = let k = kind_at j small in row_word l j k.0 below small k.1 ∙ ap (stood_word fill k.0.width (element_words s) value j) is

  pub unfilled : (l j : ℕ) → l < lanes s → j < element_words s → standing s o l ≡ None
      → get_or (layout_row fill s value o) (l * element_words s + j) 0 ≡ get_or (fill_words (element_atom s) fill) j 0
  unfilled l j below small is =
      let k = kind_at j small in
      let width : WordKind → ℕ = λ x. fill % 2 ^ x.width in
      row_word l j k.0 below small k.1
      ∙ ap (stood_word fill k.0.width (element_words s) value j) is
      ∙ sym (get_or_from_slice_get (map width kinds) j (width k.0) 0 (slice_get-map width kinds j ∙ ap (option_map width) k.1))
