-- Words that fit widths, word by word, and pieces of them.
use Rattle.std.proofs.Common.{◌≡◌, ℕ, zero, suc, ◌+◌, ◌-◌, ◌*◌, ◌%◌, ◌<◌, ◌≤◌, ◌^◌, List, [], ◌∷◌, ◌++◌, length, take, drop, Some, slice_get, get_or, refl, ap, sym, ◌∙◌, arith, append_assoc, ⊎_elim}
use Rattle.std.specs.List.{range_with_len, flat_map}
use Rattle.std.proofs.Math.Nat.{mod-eq-sub-mod, mod-eq_of_lt}
use Rattle.std.proofs.Math.Seq.{take-append_seam, drop-append_seam}
use Rattle.std.proofs.lemmas.Nat.{pow_pos}
use Rattle.std.proofs.lemmas.Bool.{cases_lt}
use Rattle.std.proofs.lemmas.Option.{none-some, same_Some, slice_get_within, slice_get-get_or}
use Rattle.ae_seqtype.specs.SeqTree.{repeated}
use Rattle.ae_seqtype.proofs.Sizes.{length-repeated}
use Rattle.ae_eval.specs.Stack.{paired}
use Rattle.ae_ops.specs.Blocks.{Stream, AreWords}
use Rattle.ae_flow.specs.Flow.{parts}

abbrev pub FitWidths : (words widths : List ℕ) → Type 0
FitWidths [] [] = Unit {0}
FitWidths (x ∷ ws) (w ∷ widths) = (x < 2 ^ w) × FitWidths ws widths
FitWidths _ _ = ⊥

pub fit_length : (ws widths : List ℕ) → FitWidths ws widths → length ws ≡ length widths
fit_length [] [] h = refl
fit_length [] (w ∷ widths) h = absurd h
fit_length (x ∷ ws) [] h = absurd h
fit_length (x ∷ ws) (w ∷ widths) h = omega (arith, fit_length ws widths h.1)

fit_at : (ws widths : List ℕ) (i x w : ℕ) → FitWidths ws widths → slice_get ws i ≡ Some x → slice_get widths i ≡ Some w → x < 2 ^ w
fit_at [] widths i x w h f g = absurd (none-some x f)
fit_at (y ∷ ws) [] i x w h f g = absurd h
fit_at (y ∷ ws) (v ∷ widths) zero x w h f g = rw (← same_Some y x f, ← same_Some v w g) h.0
fit_at (y ∷ ws) (v ∷ widths) (suc i) x w h f g = fit_at ws widths i x w h.1 f g

fit_by : (ws widths : List ℕ) → length ws ≡ length widths → ((i x w : ℕ) → slice_get ws i ≡ Some x → slice_get widths i ≡ Some w → x < 2 ^ w)
    → FitWidths ws widths
fit_by [] [] h each = tt
fit_by [] (w ∷ widths) h each = absurd (omega arith)
fit_by (x ∷ ws) [] h each = absurd (omega arith)
fit_by (x ∷ ws) (w ∷ widths) h each = (each 0 x w refl refl, fit_by ws widths (omega arith) (λ i y v f g. each (suc i) y v f g))

pub fit_append : (us widths vs more : List ℕ) → FitWidths us widths → FitWidths vs more → FitWidths (us ++ vs) (widths ++ more)
fit_append [] [] vs more h g = g
fit_append [] (w ∷ widths) vs more h g = absurd h
fit_append (x ∷ us) [] vs more h g = absurd h
fit_append (x ∷ us) (w ∷ widths) vs more h g = (h.0, fit_append us widths vs more h.1 g)

pub fit_take : (n : ℕ) (ws widths : List ℕ) → FitWidths ws widths → FitWidths (take n ws) (take n widths)
fit_take zero ws widths h = tt
fit_take (suc n) [] [] h = tt
fit_take (suc n) [] (w ∷ widths) h = absurd h
fit_take (suc n) (x ∷ ws) [] h = absurd h
fit_take (suc n) (x ∷ ws) (w ∷ widths) h = (h.0, fit_take n ws widths h.1)

pub fit_drop : (n : ℕ) (ws widths : List ℕ) → FitWidths ws widths → FitWidths (drop n ws) (drop n widths)
fit_drop zero ws widths h = h
fit_drop (suc n) [] [] h = tt
fit_drop (suc n) [] (w ∷ widths) h = absurd h
fit_drop (suc n) (x ∷ ws) [] h = absurd h
fit_drop (suc n) (x ∷ ws) (w ∷ widths) h = fit_drop n ws widths h.1

-- ---- widths that repeat

get_left : (xs ys : List ℕ) (j : ℕ) → j < length xs → slice_get (xs ++ ys) j ≡ slice_get xs j
get_left [] ys j h = absurd (omega arith)
get_left (x ∷ xs) ys zero h = refl
get_left (x ∷ xs) ys (suc j) h = get_left xs ys j (omega arith)

get_past : (xs ys : List ℕ) (j : ℕ) → length xs ≤ j → slice_get (xs ++ ys) j ≡ slice_get ys (j - length xs)
get_past [] ys j h = let e : j ≡ j - 0 = omega arith in ap (slice_get ys) e
get_past (x ∷ xs) ys zero h = absurd (omega arith)
get_past (x ∷ xs) ys (suc j) h = let e : j - length xs ≡ suc j - length (x ∷ xs) = omega arith in get_past xs ys j (omega arith) ∙ ap (slice_get ys) e

pub repeated_at : (n : ℕ) (xs : List ℕ) (j : ℕ) → j < n * length xs → slice_get (repeated n xs) j ≡ slice_get xs (j % length xs)
repeated_at zero xs j h = absurd (omega arith)
repeated_at (suc n) xs j h = ⊎_elim
    (λ (lt : j < length xs). get_left xs (repeated n xs) j lt ∙ ap (slice_get xs) (sym (mod-eq_of_lt lt)))
    (λ (ge : length xs ≤ j). get_past xs (repeated n xs) j ge ∙ repeated_at n xs (j - length xs) (omega arith) ∙ ap (slice_get xs) (sym (mod-eq-sub-mod ge)))
    (cases_lt j (length xs))

repeated_add : (n m : ℕ) (xs : List ℕ) → repeated (n + m) xs ≡ repeated n xs ++ repeated m xs
repeated_add zero m xs = let e : 0 + m ≡ m = omega arith in ap (λ i. repeated i xs) e
repeated_add (suc n) m xs =
    let e : suc n + m ≡ suc (n + m) = omega arith in
    ap (λ i. repeated i xs) e ∙ (ap (λ ys. xs ++ ys) (repeated_add n m xs) ∙ sym (append_assoc xs (repeated n xs) (repeated m xs)))

pub repeated_mul : (n m : ℕ) (xs : List ℕ) → repeated (n * m) xs ≡ repeated n (repeated m xs)
repeated_mul zero m xs = let e : 0 * m ≡ 0 = omega arith in ap (λ i. repeated i xs) e
repeated_mul (suc n) m xs =
    let e : suc n * m ≡ m + n * m = omega arith in
    ap (λ i. repeated i xs) e ∙ (repeated_add m (n * m) xs ∙ ap (λ ys. repeated m xs ++ ys) (repeated_mul n m xs))

drop_past : (xs ys : List ℕ) (m : ℕ) → drop (length xs + m) (xs ++ ys) ≡ drop m ys
drop_past [] ys m = let e : 0 + m ≡ m = omega arith in ap (λ i. drop i ys) e
drop_past (x ∷ xs) ys m = let e : length (x ∷ xs) + m ≡ suc (length xs + m) = omega arith in ap (λ i. drop i (x ∷ (xs ++ ys))) e ∙ drop_past xs ys m

-- from a place in element e on, where there are more elements
pub drop_repeated : (e r o : ℕ) (xs : List ℕ) → drop (e * length xs + o) (repeated (e + r) xs) ≡ drop o (repeated r xs)
drop_repeated zero r o xs =
    let a : 0 * length xs + o ≡ o = omega arith in
    let b : 0 + r ≡ r = omega arith in
    ap (λ i. drop i (repeated (0 + r) xs)) a ∙ ap (λ i. drop o (repeated i xs)) b
drop_repeated (suc e) r o xs =
    let a : suc e * length xs + o ≡ length xs + (e * length xs + o) = omega arith in
    let b : suc e + r ≡ suc (e + r) = omega arith in
    ap (λ i. drop i (repeated (suc e + r) xs)) a ∙ (ap (λ i. drop (length xs + (e * length xs + o)) (repeated i xs)) b ∙
    (drop_past xs (repeated (e + r) xs) (e * length xs + o) ∙ drop_repeated e r o xs))

pub fit_of : (s : Stream) (ws : List ℕ) → AreWords s ws → FitWidths ws (repeated (length s.slots) s.widths)
fit_of s ws h = fit_by ws (repeated (length s.slots) s.widths) (h.long ∙ sym (length-repeated (length s.slots) s.widths)) (λ i x w f g.
    let within : i < length ws = slice_get_within ws i x f in
    h.fit i x w f (sym (repeated_at (length s.slots) s.widths i (omega (arith, within, h.long))) ∙ g))

pub words_of : (s : Stream) (ws : List ℕ) → FitWidths ws (repeated (length s.slots) s.widths) → AreWords s ws
words_of s ws h =
    let long : length ws ≡ length s.slots * length s.widths = fit_length ws (repeated (length s.slots) s.widths) h ∙
    length-repeated (length s.slots) s.widths in
    record {
      long = long;
      fit = λ i x w f g.
          let within : i < length ws = slice_get_within ws i x f in
          fit_at ws (repeated (length s.slots) s.widths) i x w h f (repeated_at (length s.slots) s.widths i (omega (arith, within, long)) ∙ g);
    }

-- a word at a place, and 0 past the end
pub word_fit : (s : Stream) (ws : List ℕ) (i w : ℕ) → AreWords s ws → slice_get s.widths (i % length s.widths) ≡ Some w → get_or ws i 0 < 2 ^ w
word_fit s ws i w h g = ⊎_elim
    (λ (lt : i < length ws). h.fit i (get_or ws i 0) w (slice_get-get_or ws i 0 lt) g)
    (λ (ge : length ws ≤ i). let e : get_or ws i 0 ≡ 0 = past ws i ge in let p = pow_pos w in rw e p)
    (cases_lt i (length ws))
  where
    past : (xs : List ℕ) (j : ℕ) → length xs ≤ j → get_or xs j 0 ≡ 0
    past [] j h = refl
    past (x ∷ xs) zero h = absurd (omega arith)
    past (x ∷ xs) (suc j) h = past xs j (omega arith)

-- ---- pieces

pub pairs_fit : (n : ℕ) (left right us vs : List ℕ) → FitWidths us (repeated n left) → FitWidths vs (repeated n right)
    → FitWidths (paired n (length left) (length right) us vs) (repeated n (left ++ right))
pairs_fit zero left right us vs h g = tt
pairs_fit (suc n) left right us vs h g =
    let a : FitWidths (take (length left) us) left = rw (take-append_seam left (repeated n left)) at (fit_take (length left) us (left ++ repeated n left) h) in
    let b : FitWidths (take (length right) vs) right = rw (take-append_seam right (repeated n right)) at
    (fit_take (length right) vs (right ++ repeated n right) g) in
    let c : FitWidths (drop (length left) us) (repeated n left) = rw (drop-append_seam left (repeated n left)) at
    (fit_drop (length left) us (left ++ repeated n left) h) in
    let d : FitWidths (drop (length right) vs) (repeated n right) = rw (drop-append_seam right (repeated n right)) at
    (fit_drop (length right) vs (right ++ repeated n right) g) in
    fit_append (take (length left) us ++ take (length right) vs) (left ++ right)
    (paired n (length left) (length right) (drop (length left) us) (drop (length right) vs)) (repeated n (left ++ right))
    (fit_append (take (length left) us) left (take (length right) vs) right a b) (pairs_fit n left right (drop (length left) us) (drop (length right) vs) c d)

pub all_fit : (f : ℕ → List ℕ) (widths : List ℕ) (start n : ℕ) → ((e : ℕ) → start ≤ e → e < start + n → FitWidths (f e) widths)
    → FitWidths (flat_map f (range_with_len start n)) (repeated n widths)
all_fit f widths start zero h = tt
all_fit f widths start (suc n) h =
    fit_append (f start) widths (flat_map f (range_with_len (start + 1) n)) (repeated n widths) (h start (omega arith) (omega arith))
    (all_fit f widths (start + 1) n (λ e low high. h e (omega (arith, low)) (omega (arith, high))))

-- of each element the words between others
pub parts_fit : (n : ℕ) (front own back ws : List ℕ) → FitWidths ws (repeated n (front ++ (own ++ back)))
    → FitWidths (parts n (length (front ++ (own ++ back))) (length front) (length own) ws) (repeated n own)
parts_fit n front own back ws h = all_fit (λ e. take l (drop (e * k + o) ws)) own 0 n (λ e low high.
    let r : ℕ = n - (e + 1) in
    let all : n ≡ e + suc r = omega (arith, high) in
    let there : drop (e * k + o) (repeated n widths) ≡ drop o (widths ++ repeated r widths) = ap (λ i. drop (e * k + o) (repeated i widths)) all ∙
    drop_repeated e (suc r) o widths in
    let form : widths ++ repeated r widths ≡ front ++ (own ++ (back ++ repeated r widths)) = append_assoc front (own ++ back) (repeated r widths) ∙
    ap (λ ys. front ++ ys) (append_assoc own back (repeated r widths)) in
    let past : drop o (widths ++ repeated r widths) ≡ own ++ (back ++ repeated r widths) = ap (drop o) form ∙
    drop-append_seam front (own ++ (back ++ repeated r widths)) in
    let piece : take l (drop (e * k + o) (repeated n widths)) ≡ own = ap (take l) (there ∙ past) ∙ take-append_seam own (back ++ repeated r widths) in
    rw piece at (fit_take l (drop (e * k + o) ws) (drop (e * k + o) (repeated n widths)) (fit_drop (e * k + o) ws (repeated n widths) h)))
  where
    widths : List ℕ
    widths = front ++ (own ++ back)

    k : ℕ
    k = length widths

    o : ℕ
    o = length front

    l : ℕ
    l = length own

-- element e of n, where each has so many words in rows of these widths
pub element_fit : (n m e : ℕ) (widths ws : List ℕ) → e < n → FitWidths ws (repeated (n * m) widths)
    → FitWidths (take (m * length widths) (drop (e * (m * length widths)) ws)) (repeated m widths)
element_fit n m e widths ws below h =
    let row : List ℕ = repeated m widths in
    let r : ℕ = n - (e + 1) in
    let all : n ≡ e + suc r = omega (arith, below) in
    let long : length row ≡ m * length widths = length-repeated m widths in
    let place : e * (m * length widths) ≡ e * length row + 0 = (let a : e * length row + 0 ≡ e * length row = omega arith in ap (λ i. e * i) (sym long) ∙
    sym a) in
    let rows : FitWidths ws (repeated n row) = rw (repeated_mul n m widths) at h in
    let there : drop (e * length row + 0) (repeated n row) ≡ row ++ repeated r row = ap (λ i. drop (e * length row + 0) (repeated i row)) all ∙
    drop_repeated e (suc r) 0 row in
    let piece : take (length row) (drop (e * length row + 0) (repeated n row)) ≡ row = ap (take (length row)) there ∙ take-append_seam row (repeated r row) in
    rw (place, ← long) (rw piece at (fit_take (length row) (drop (e * length row + 0) ws) (drop (e * length row + 0) (repeated n row))
    (fit_drop (e * length row + 0) ws (repeated n row) rows)))
