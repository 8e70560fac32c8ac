-- Moves of words are those of the values that have them.
use Rattle.std.proofs.Common.{◌≡◌, ℕ, zero, suc, ◌+◌, ◌-◌, ◌*◌, ◌/◌, ◌%◌, ◌<◌, ◌≤◌, List, [], ◌∷◌, ◌++◌, length, take, drop, map, get_or, replicate, Option, Some, IsSome, refl, arith, sym, ap, ◌∙◌, subst, ⊎_elim, length-append, length-take, length-drop, append_assoc}
use Rattle.std.specs.List.{range_with_len}
use Rattle.std.proofs.lemmas.Bool.{cases_lt, lt-ltb, le-ltb}
use Rattle.std.proofs.lemmas.List.{take_all, drop_at, take-append-le, length-replicate, get_or-replicate, get_or_append_left, get_or-append_right, get_or-append-add, get_or-take, get_or-drop}
use Rattle.std.proofs.lemmas.List.FromFn.{fill_by_all}
use Rattle.std.proofs.lemmas.Nat.{div-add-mod', div_below, mod_below}
use Rattle.ae_seqtype.specs.SeqTree.{SeqTree, seq, words, repeated}
use Rattle.ae_seqtype.specs.ValueTree.{ValueTree, elements, listed, value_of, cut, Fit, Stands}
use Rattle.ae_seqtype.proofs.Sizes.{length-repeated}
use Rattle.ae_seqtype.proofs.Stands.{length-Fit}
use Rattle.ae_sttype.specs.StTree.{StTree, st_atoms, element_words}
use Rattle.ae_sttype.specs.Moves.{from_input, fixed}
use Rattle.ae_rewrite.specs.declared.st_program.MoveOp.{MoveOp}
use Rattle.ae_rewrite.specs.declared.st_program.MoveOp.TheVariants.{Shift, Up, Select, Same}
use Rattle.ae_gather.specs.Gathers.{origin_word}
use Rattle.ae_delay.specs.Moving.{op_move, origin_from, origin_number}
use Rattle.ae_seq.specs.Typing.{shift_type, up_type, select_type, partition_type, unpartition_type}
use Rattle.ae_seq.specs.Meaning.{joined, shifted}
use Rattle.ae_eval.specs.Stack.{FitAt, Pushed, window}
use Rattle.ae_eval.proofs.Moving.{shift-pushed, up-pushed, select-pushed, partition-pushed, unpartition-pushed}
use Rattle.ae_ports.proofs.Columns.{map_map as map-map}

-- ---- words alone on a stack

pub alone : (s : SeqTree) (ws : List ℕ) → Fit s ws → FitAt s 0 ws
alone s ws h =
    let long = length-Fit s ws h in
    record { room = omega arith; fits = subst (λ us. Fit s us) (sym (take_all (words s) ws (omega arith))) h }

pub alone-window : (s : SeqTree) (ws : List ℕ) → Fit s ws → window s 0 ws ≡ ws
alone-window s ws h = let long = length-Fit s ws h in take_all (words s) ws (omega arith)

-- what was put on top of them
pub on-top : (o : Option SeqTree) (t : SeqTree) (old new r : List ℕ) (v : ValueTree) → o ≡ Some t → new ≡ old ++ r → Pushed o old new v → Stands t r v
on-top o t old new r v type e push =
    let top : drop (length old) new ≡ r = ap (drop (length old)) e ∙ drop_at old r (length old) refl in
    let P : List ℕ → Type 0 = λ us. Stands t us v in
    subst P top (push.stands t type)

-- the same value
same-value : (s t : SeqTree) (ws r : List ℕ) (F : ValueTree → ValueTree) → Fit s ws → Stands t r (F (value_of s (window s 0 ws)))
    → Stands t r (F (value_of s ws))
same-value s t ws r F h st = subst (λ us. Stands t r (F (value_of s us))) (alone-window s ws h) st

-- ---- words by their origins

-- the words of a move
abbrev pub moved_words : MoveOp → (a s : StTree) → List ℕ → List ℕ
moved_words how a s ws = map (origin_word (a ∷ []) (ws ∷ [])) (op_move how a s).origins

-- each word is that of its origin
moved-is : (how : MoveOp) (a s : StTree) (ws xs : List ℕ) → length xs ≡ st_atoms s * element_words s
    → ((o : ℕ) → o < st_atoms s * element_words s → get_or xs o 0 ≡ origin_word (a ∷ []) (ws ∷ [])
    (origin_from how (st_atoms a) (st_atoms s) (o / element_words s) (o % element_words s))) → xs ≡ moved_words how a s ws
moved-is how a s ws xs long h =
    let n = st_atoms s * element_words s in
    fill_by_all (λ o. origin_word (a ∷ []) (ws ∷ []) (origin_number how a s o)) xs n 0 long h
    ∙ sym (map-map (origin_word (a ∷ []) (ws ∷ [])) (origin_number how a s) (range_with_len 0 n))

-- what is left where a number of rows is
within-some : (n k o : ℕ) → o < n * k → 0 < k
within-some n zero o h = absurd (omega arith)
within-some n (suc k) o h = omega arith

-- ---- the same words

pub same-words : (a s : StTree) (ws : List ℕ) → element_words a ≡ element_words s → length ws ≡ st_atoms s * element_words s → ws ≡ moved_words Same a s ws
same-words a s ws same long =
    let w = element_words s in
    moved-is Same a s ws ws long (λ o lt. sym (ap (λ k. get_or ws (o / w * k + o % w) 0) same ∙ ap (λ i. get_or ws i 0) (div-add-mod' o w)))

-- ---- a shift

shift-low : (k n m e j : ℕ) → e < k → origin_from (Shift k) n m e j ≡ fixed 0
shift-low k n m e j h = rw (lt-ltb e k h) refl

shift-high : (k n m e j : ℕ) → k ≤ e → origin_from (Shift k) n m e j ≡ from_input 0 (e - k) j
shift-high k n m e j h = rw (le-ltb e k h) refl

shift-place : (w k e j : ℕ) → k ≤ e → (e - k) * w + j ≡ e * w + j - k * w
shift-place w k e j h =
    let d = e - k in
    let sum : k + d ≡ e = omega arith in
    let all : (k + d) * w ≡ k * w + d * w = omega arith in
    let own : (k + d) * w ≡ e * w = ap (λ z. z * w) sum in
    omega arith

shift-below : (w k o : ℕ) → o / w < k → 0 < w → o < k * w
shift-below w k o h p =
    let e = div-add-mod' o w in
    let j = mod_below o w p in
    let d = k - (o / w + 1) in
    let sum : o / w + 1 + d ≡ k = omega arith in
    let all : (o / w + 1 + d) * w ≡ o / w * w + w + d * w = omega arith in
    let own : (o / w + 1 + d) * w ≡ k * w = ap (λ z. z * w) sum in
    omega arith

shift-above : (w k o : ℕ) → k ≤ o / w → k * w ≤ o
shift-above w k o h =
    let e = div-add-mod' o w in
    let d = o / w - k in
    let sum : k + d ≡ o / w = omega arith in
    let all : (k + d) * w ≡ k * w + d * w = omega arith in
    let own : (k + d) * w ≡ o / w * w = ap (λ z. z * w) sum in
    omega arith

module _ (k : ℕ) (a s : StTree) (ws : List ℕ) (same : element_words a ≡ element_words s) (long : length ws ≡ st_atoms s * element_words s)
    (small : k * element_words s ≤ length ws) where
  abbrev w : ℕ
  w = element_words s

  abbrev front : List ℕ
  front = replicate (k * w) 0

  abbrev back : List ℕ
  back = take (length ws - k * w) ws

  abbrev origin : ℕ → ℕ
  origin o = origin_word (a ∷ []) (ws ∷ []) (origin_from (Shift k) (st_atoms a) (st_atoms s) (o / w) (o % w))

  front-long : length front ≡ k * w
  front-long = length-replicate (k * w) 0

  zero-word : (o : ℕ) → o < st_atoms s * w → o / w < k → get_or (front ++ back) o 0 ≡ origin o
  zero-word o lt low =
      let below : o < k * w = shift-below w k o low (within-some (st_atoms s) w o lt) in
      let size = front-long in
      let inside : o < length front = omega arith in
      get_or_append_left front back 0 o inside ∙ get_or-replicate (k * w) o 0 0 below ∙
      sym (ap (origin_word (a ∷ []) (ws ∷ [])) (shift-low k (st_atoms a) (st_atoms s) (o / w) (o % w) low))

  moved-word : (o : ℕ) → o < st_atoms s * w → k ≤ o / w → get_or (front ++ back) o 0 ≡ origin o
  moved-word o lt high =
      let above : k * w ≤ o = shift-above w k o high in
      let left : o - k * w < length ws - k * w = omega arith in
      let place : (o / w - k) * w + o % w ≡ o - k * w = shift-place w k (o / w) (o % w) high ∙ ap (λ z. z - k * w) (div-add-mod' o w) in
      get_or-append_right front back (k * w) o 0 front-long above ∙ get_or-take (length ws - k * w) ws (o - k * w) 0 left
      ∙ ap (λ i. get_or ws i 0) (sym place) ∙ ap (λ z. get_or ws ((o / w - k) * z + o % w) 0) (sym same)
      ∙ sym (ap (origin_word (a ∷ []) (ws ∷ [])) (shift-high k (st_atoms a) (st_atoms s) (o / w) (o % w) high))

  pub shift-words : front ++ back ≡ moved_words (Shift k) a s ws
  shift-words =
      let size = front-long in
      let whole : length (front ++ back) ≡ st_atoms s * w = omega (arith, length-append front back, length-take (length ws - k * w) ws) in
      moved-is (Shift k) a s ws (front ++ back) whole (λ o lt. ⊎_elim (λ (low : o / w < k). zero-word o lt low) (λ (high : k ≤ o / w). moved-word o lt high)
      (cases_lt (o / w) k))

-- ---- repetition

get-repeated : (c q i : ℕ) (ws : List ℕ) → q < c → i < length ws → get_or (repeated c ws) (q * length ws + i) 0 ≡ get_or ws i 0
get-repeated zero q i ws h lt = absurd (omega arith)
get-repeated (suc c) zero i ws h lt =
    let e : 0 * length ws + i ≡ i = omega arith in
    ap (λ j. get_or (ws ++ repeated c ws) j 0) e ∙ get_or_append_left ws (repeated c ws) 0 i lt
get-repeated (suc c) (suc q) i ws h lt =
    let e : suc q * length ws + i ≡ length ws + (q * length ws + i) = omega arith in
    ap (λ j. get_or (ws ++ repeated c ws) j 0) e ∙ get_or-append-add ws (repeated c ws) (q * length ws + i) 0 ∙ get-repeated c q i ws (omega arith) lt

up-place : (w n o : ℕ) → o / w / n * (n * w) + (o / w % n * w + o % w) ≡ o
up-place w n o =
    let e = div-add-mod' o w in
    let f = div-add-mod' (o / w) n in
    let g : (o / w / n * n + o / w % n) * w ≡ o / w * w = ap (λ z. z * w) f in
    let all : (o / w / n * n + o / w % n) * w ≡ o / w / n * (n * w) + o / w % n * w = omega arith in
    omega arith

row-below : (n w r j : ℕ) → r < n → j < w → r * w + j < n * w
row-below n w r j h lt =
    let d = n - (r + 1) in
    let sum : r + 1 + d ≡ n = omega arith in
    let all : (r + 1 + d) * w ≡ r * w + w + d * w = omega arith in
    let own : (r + 1 + d) * w ≡ n * w = ap (λ z. z * w) sum in
    omega arith

pub up-words : (c : ℕ) (a s : StTree) (ws : List ℕ) → element_words a ≡ element_words s → st_atoms s ≡ c * st_atoms a
    → length ws ≡ st_atoms a * element_words s → repeated c ws ≡ moved_words (Up c) a s ws
up-words c a s ws same count long =
    let w = element_words s in
    let n = st_atoms a in
    let all : c * (n * w) ≡ c * n * w = omega arith in
    let size : length (repeated c ws) ≡ st_atoms s * w = length-repeated c ws ∙ ap (λ z. c * z) long ∙ all ∙ ap (λ z. z * w) (sym count) in
    moved-is (Up c) a s ws (repeated c ws) size (λ o lt.
    let p = within-some (st_atoms s) w o lt in
    let low : o / w < c * n = subst (λ z. o / w < z) count (div_below o w (st_atoms s) p lt) in
    let q = within-some c n (o / w) low in
    let below : o / w / n < c = div_below (o / w) n c q low in
    let i = o / w % n * w + o % w in
    let inside : i < length ws = subst (λ z. i < z) (sym long) (row-below n w (o / w % n) (o % w) (mod_below (o / w) n q) (mod_below o w p)) in
    let place : o / w / n * length ws + i ≡ o = ap (λ z. o / w / n * z + i) long ∙ up-place w n o in
    ap (λ z. get_or (repeated c ws) z 0) (sym place) ∙ get-repeated c (o / w / n) i ws below inside ∙ ap (λ z. get_or ws (o / w % n * z + o % w) 0) (sym same))

-- ---- one element

pub select-words : (c : ℕ) (a s : StTree) (ws : List ℕ) → element_words a ≡ element_words s
    → c * (st_atoms s * element_words s) + st_atoms s * element_words s ≤ length ws
    → take (st_atoms s * element_words s) (drop (c * (st_atoms s * element_words s)) ws) ≡ moved_words (Select c) a s ws
select-words c a s ws same room =
    let w = element_words s in
    let m = st_atoms s in
    let k = m * w in
    moved-is (Select c) a s ws (take k (drop (c * k) ws)) (omega (arith, length-take k (drop (c * k) ws), length-drop (c * k) ws)) (λ o lt.
    let e = div-add-mod' o w in
    let all : (c * m + o / w) * w ≡ c * k + o / w * w = omega arith in
    let place : (c * m + o / w) * w + o % w ≡ c * k + o = omega arith in
    get_or-take k (drop (c * k) ws) o 0 lt ∙ get_or-drop (c * k) ws o 0 ∙ ap (λ z. get_or ws z 0) (sym place) ∙
    ap (λ z. get_or ws ((c * m + o / w) * z + o % w) 0) (sym same))

-- ---- the moves of typed values

pub shift-stands : (c n : ℕ) (t u : SeqTree) (ws : List ℕ) → shift_type c (seq n t) ≡ Some u → Fit (seq n t) ws
    → Stands u (replicate (c * words t) 0 ++ take (length ws - c * words t) ws) (listed (shifted c (elements (value_of (seq n t) ws))))
shift-stands c n t u ws type h =
    let s = seq n t in
    let k = words t in
    let zero_words : List ℕ = replicate (c * k) 0 in
    let long : length ws ≡ words s = length-Fit s ws h in
    let left : words s - c * k ≤ length ws = omega (arith, long) in
    let mid : List ℕ = ws ++ zero_words in
    let top : List ℕ = take (words s - c * k) mid in
    let rest : List ℕ = take (length ws - c * k) ws in
    let there : IsSome (shift_type c s) = rw type refl in
    let push = shift-pushed c n k (words s) 0 s t ws mid (mid ++ top) refl refl refl there (alone s ws h) refl refl in
    let same : top ≡ rest = take-append-le (words s - c * k) ws zero_words left ∙ ap (λ j. take (j - c * k) ws) (sym long) in
    let form : mid ++ top ≡ ws ++ (zero_words ++ rest) = append_assoc ws zero_words top ∙ ap (λ ys. ws ++ (zero_words ++ ys)) same in
    same-value s u ws (zero_words ++ rest) (λ v. listed (shifted c (elements v))) h
    (on-top (shift_type c s) u ws (mid ++ top) (zero_words ++ rest) _ type form push)

pub up-stands : (c : ℕ) (s u : SeqTree) (ws : List ℕ) → up_type c s ≡ Some u → Fit s ws
    → Stands u (repeated c ws) (listed (repeated c (elements (value_of s ws))))
up-stands c s u ws type h =
    let whole : take (words s) ws ≡ ws = alone-window s ws h in
    same-value s u ws _ (λ v. listed (repeated c (elements v))) h
    (on-top (up_type c s) u ws (ws ++ repeated c ws) _ _ type refl
    (up-pushed c (words s) 0 s ws (ws ++ repeated c ws) refl (alone s ws h) (ap (λ ys. ws ++ repeated c ys) (sym whole))))

pub select-stands : (c n : ℕ) (t u : SeqTree) (ws : List ℕ) → select_type c (seq n t) ≡ Some u → Fit (seq n t) ws
    → Stands u (take (words t) (drop (c * words t) ws)) (listed (take 1 (drop c (elements (value_of (seq n t) ws)))))
select-stands c n t u ws type h =
    let s = seq n t in
    let k = words t in
    let there : IsSome (select_type c s) = rw type refl in
    let place : c * k ≡ 0 + c * k = omega arith in
    let r = take k (drop (c * k) ws) in
    same-value s u ws _ (λ v. listed (take 1 (drop c (elements v)))) h
    (on-top (select_type c s) u ws (ws ++ r) r _ type refl
    (select-pushed c n k 0 s t ws (ws ++ r) refl refl there (alone s ws h) (ap (λ i. ws ++ take k (drop i ws)) place)))

pub partition-stands : (n m : ℕ) (s u : SeqTree) (ws : List ℕ) → partition_type n m s ≡ Some u → Fit s ws
    → Stands u ws (listed (map listed (cut n m (elements (value_of s ws)))))
partition-stands n m s u ws type h =
    let whole : take (words s) ws ≡ ws = alone-window s ws h in
    same-value s u ws _ (λ v. listed (map listed (cut n m (elements v)))) h
    (on-top (partition_type n m s) u ws (ws ++ ws) ws _ type refl
    (partition-pushed n m (words s) 0 s ws (ws ++ ws) refl (alone s ws h) (ap (λ ys. ws ++ ys) (sym whole))))

pub unpartition-stands : (s u : SeqTree) (ws : List ℕ) → unpartition_type s ≡ Some u → Fit s ws → Stands u ws (listed (joined (elements (value_of s ws))))
unpartition-stands s u ws type h =
    let whole : take (words s) ws ≡ ws = alone-window s ws h in
    same-value s u ws _ (λ v. listed (joined (elements v))) h
    (on-top (unpartition_type s) u ws (ws ++ ws) ws _ type refl
    (unpartition-pushed (words s) 0 s ws (ws ++ ws) refl (alone s ws h) (ap (λ ys. ws ++ ys) (sym whole))))
