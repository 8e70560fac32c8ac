-- Words that are pushed piece by piece.
use Rattle.std.proofs.Common.{◌≡◌, ℕ, zero, suc, ◌+◌, ◌*◌, ◌<◌, ◌≤◌, List, ◌++◌, [], ◌∷◌, length, take, drop, get_or, flat_map, refl, ap, sym, ◌∙◌, subst, arith, inl, inr, Some, slice_get, length-append}
use Rattle.std.specs.List.{range_with_len}
use Rattle.std.specs.Prelude.{unwrap_or}
use Rattle.std.proofs.lemmas.Grind.{flat_map-append}
use Rattle.std.proofs.lemmas.List.{append-nil, get_or_append_left, get_or-append-add, get_or-take, get_or-drop, length-take, length-drop}
use Rattle.std.proofs.lemmas.Nat.{mul-add-lt, mul-le}
use Rattle.std.proofs.lemmas.Bool.{cases_lt}
use Rattle.std.proofs.lemmas.Option.{unwrap_or-slice_get}
use Rattle.ae_sttype.specs.declared.st_type.Slot.{Slot}
use Rattle.ae_sttype.specs.StTree.{StTree, time, lanes, st_atoms, element_words}
use Rattle.ae_sttype.specs.Slots.{slots}
use Rattle.ae_sttype.specs.Size.{IsInSize}
use Rattle.ae_sttype.proofs.Bounds.{lanes-le-atoms}
use Rattle.ae_sttype.proofs.Places.{slot_of, slot_at, stands_from_get}
use Rattle.ae_sttype.specs.Holds.{Holds}
use Rattle.ae_layout.specs.Rows.{rows_run}

-- the first n pieces of the words, where R says what word j of piece q is
pub record Pieces (R : ℕ → ℕ → ℕ → Type 0) (width n : ℕ) (words : List ℕ) : Type 0 where
  pub long : length words ≡ n * width
  pub each : (q j : ℕ) → q < n → j < width → R q j (get_or words (q * width + j) 0)

pub no_pieces : (R : ℕ → ℕ → ℕ → Type 0) (width : ℕ) → Pieces R width 0 []
no_pieces R width = record { long = omega arith; each = λ q j p h. absurd (omega arith) }

pub piece_more : (R : ℕ → ℕ → ℕ → Type 0) (width n : ℕ) (words piece : List ℕ) → Pieces R width n words → length piece ≡ width →
    ((j : ℕ) → j < width → R n j (get_or piece j 0)) → Pieces R width (n + 1) (words ++ piece)
piece_more R width n words piece ps long new = record {
  long = omega (arith, length-append words piece, ps.long);
  each = λ q j p h. elim (cases_lt q n) [
    | inl below ↦ rw (get_or_append_left words piece 0 (q * width + j) (omega (arith, mul-add-lt q width j n below h, ps.long))) (ps.each q j below h)
    | inr above ↦
        let e : q ≡ n = omega arith in
        let at : q * width + j ≡ length words + j = omega (arith, ps.long, ap (λ x. x * width) e) in
        rw (at, get_or-append-add words piece j 0, e) (new j h)
  ];
}

-- piece q is the q-th list
abbrev pub Joined : (f : ℕ → List ℕ) → ℕ → ℕ → ℕ → Type 0
Joined f q j x = x ≡ get_or (f q) j 0

range_more : (a n : ℕ) → range_with_len a (suc n) ≡ range_with_len a n ++ (a + n) ∷ []
range_more a zero = let z : a ≡ a + 0 = omega arith in ap (λ k. k ∷ []) z
range_more a (suc n) =
    let e : a + 1 + n ≡ a + suc n = omega arith in
    ap (λ ks. a ∷ ks) (range_more (a + 1) n ∙ ap (λ k. range_with_len (a + 1) n ++ k ∷ []) e)

pub until_more : (n : ℕ) → range_with_len 0 (n + 1) ≡ range_with_len 0 n ++ n ∷ []
until_more n =
    let e : n + 1 ≡ suc n = omega arith in
    let z : 0 + n ≡ n = omega arith in
    ap (range_with_len 0) e ∙ range_more 0 n ∙ ap (λ k. range_with_len 0 n ++ k ∷ []) z

pub joined_next : (f : ℕ → List ℕ) (n : ℕ) → flat_map f (range_with_len 0 (n + 1)) ≡ flat_map f (range_with_len 0 n) ++ f n
joined_next f n =
    ap (flat_map f) (until_more n) ∙ flat_map-append f (range_with_len 0 n) (n ∷ []) ∙ ap (λ ws. flat_map f (range_with_len 0 n) ++ ws) (append-nil (f n))

-- lists of one length, one after the other
pub joined : (f : ℕ → List ℕ) (width n : ℕ) → ((i : ℕ) → length (f i) ≡ width) → Pieces (Joined f) width n (flat_map f (range_with_len 0 n))
joined f width zero long = no_pieces (Joined f) width
joined f width (suc n) long =
    let next : n + 1 ≡ suc n = omega arith in
    let more : Pieces (Joined f) width (n + 1) (flat_map f (range_with_len 0 (n + 1))) =
    subst (Pieces (Joined f) width (n + 1)) (sym (joined_next f n))
    (piece_more (Joined f) width n (flat_map f (range_with_len 0 n)) (f n) (joined f width n long) (long n) (λ j h. refl)) in
    subst (λ m. Pieces (Joined f) width m (flat_map f (range_with_len 0 m))) next more

-- ---- taking up

-- word j of element e, as the rows have it
abbrev pub Taken : (s : StTree) (width : ℕ) (rows : List ℕ) → ℕ → ℕ → ℕ → Type 0
Taken s width rows e j x = x ≡ get_or rows ((slot_of s e).clock * (lanes s * width) + ((slot_of s e).lane * width + j)) 0

-- a slot's words lie within the rows
pub words_within : (c l clocks lanes width : ℕ) → c < clocks → l < lanes → c * (lanes * width) + l * width + width ≤ clocks * (lanes * width)
words_within c l clocks lanes width p q =
    let a : (l + 1) * width ≤ lanes * width = mul-le (l + 1) width lanes width (omega arith) (omega arith) in
    let b : (c + 1) * (lanes * width) ≤ clocks * (lanes * width) = mul-le (c + 1) (lanes * width) clocks (lanes * width) (omega arith) (omega arith) in
    omega (arith, a, b)

pub taken_piece : (s : StTree) (width n m : ℕ) (rows words : List ℕ) (w : Slot) → m ≡ width → Pieces (Taken s width rows) width n words
    → slice_get (slots s) n ≡ Some w →
    w.clock < time s → w.lane < lanes s → length rows ≡ time s * (lanes s * width) →
    Pieces (Taken s width rows) width (n + 1) (words ++ take m (drop (w.clock * (lanes s * width) + w.lane * width) rows))
taken_piece s width n m rows words w same ps at c l long =
    let fits = words_within w.clock w.lane (time s) (lanes s) width c l in
    let is : slot_of s n ≡ w = ap (λ o. unwrap_or o (slot_at 0 0)) at in
    rw same (piece_more (Taken s width rows) width n words _ ps
    (simp (length-take, length-drop) (omega (arith, fits, long)))
    (λ j h. rw (
      get_or-take width (drop (w.clock * (lanes s * width) + w.lane * width) rows) j 0 h,
      get_or-drop (w.clock * (lanes s * width) + w.lane * width) rows j 0,
      is,
    )
    (ap (λ i. get_or rows i 0) (let e : w.clock * (lanes s * width) + w.lane * width + j ≡ w.clock * (lanes s * width) + (w.lane * width + j) = omega arith in
    e))))

pub holds_taken : (s : StTree) (width n : ℕ) (rows words : List ℕ) → Pieces (Taken s width rows) width n words → st_atoms s ≤ n →
    Holds (rows_run (lanes s * width) rows) 0 width (slots s) words
holds_taken s width n rows words ps all e j w at h =
    let st = stands_from_get s e w.clock w.lane at in
    rw (unwrap_or-slice_get words (e * width + j) 0) (sym (ps.each e j (omega (arith, st.below)) h
    ∙ ap (λ (y : Slot). get_or rows (y.clock * (lanes s * width) + (y.lane * width + j)) 0) st.is
    ∙ ap (λ c. get_or rows (c * (lanes s * width) + (w.lane * width + j)) 0) (let z : w.clock ≡ 0 + w.clock = omega arith in z)))

pub columns_below : (s : StTree) (width : ℕ) → IsInSize s → width ≡ element_words s → lanes s * width ≤ 16384
columns_below s width h is =
    rw is (omega (arith, mul-le (lanes s) (element_words s) (st_atoms s) (element_words s) (lanes-le-atoms s h.lengths) (omega arith), h.in_words))
