-- Lists in which each entry comes from those before it.
use Rattle.std.proofs.Common.{◌≡◌, ℕ, zero, suc, ◌+◌, ◌<◌, List, [], ◌∷◌, ◌++◌, length, Some, slice_get, refl, ap, sym, ◌∙◌, arith, length-append}
use Rattle.std.proofs.lemmas.Option.{slice_get-get_or, get_or_from_slice_get, slice_get_within, none-some, same_Some}
use Rattle.std.proofs.lemmas.List.{get_or_append_left, get_or_push}
use Rattle.ae_seq.specs.Typing.{grown}

-- ---- reads of a longer list

pub get_in_front : {X : Type 0} (xs ys : List X) (i : ℕ) (x : X) → slice_get xs i ≡ Some x → slice_get (xs ++ ys) i ≡ Some x
get_in_front xs ys i x h =
    let p = slice_get_within xs i x h in
    let q : i < length (xs ++ ys) = omega (arith, length-append xs ys) in
    slice_get-get_or (xs ++ ys) i x q ∙ ap Some (get_or_append_left xs ys x i p ∙ get_or_from_slice_get xs i x x h)

pub get_last : {X : Type 0} (xs : List X) (x : X) → slice_get (xs ++ x ∷ []) (length xs) ≡ Some x
get_last xs x =
    slice_get-get_or (xs ++ x ∷ []) (length xs) x (omega (arith, length-append xs (x ∷ []))) ∙ ap Some (get_or_push xs x x (length xs) refl)

pub get_of_front : {X : Type 0} (xs ys : List X) (i : ℕ) (x : X) → slice_get (xs ++ ys) i ≡ Some x → i < length xs → slice_get xs i ≡ Some x
get_of_front xs ys i x h p = slice_get-get_or xs i x p ∙ ap Some (sym (get_or_append_left xs ys x i p) ∙ get_or_from_slice_get (xs ++ ys) i x x h)

-- ---- entries

-- those that are known stay
pub grown-front : {A B : Type 0} (step : List B → A → B) (known : List B) (xs : List A) (i : ℕ) (y : B) → slice_get known i ≡ Some y
    → slice_get (grown step known xs) i ≡ Some y
grown-front step known [] i y h = h
grown-front step known (x ∷ xs) i y h = grown-front step (known ++ step known x ∷ []) xs i y (get_in_front known (step known x ∷ []) i y h)

-- entry number k after those, and what it comes from
pub record Entry {A B : Type 0} (step : List B → A → B) (known : List B) (xs : List A) (k : ℕ) (x : A) : Type 0 where
  pub before : List B
  pub long : length before ≡ length known + k
  pub is : slice_get (grown step known xs) (length known + k) ≡ Some (step before x)
  pub same : (i : ℕ) (y : B) → slice_get before i ≡ Some y → slice_get (grown step known xs) i ≡ Some y

pub entry : {A B : Type 0} (step : List B → A → B) (known : List B) (xs : List A) (k : ℕ) (x : A) → slice_get xs k ≡ Some x → Entry step known xs k x
entry step known [] k x h = absurd (none-some x h)
entry step known (y ∷ ys) zero x h =
    let e : y ≡ x = same_Some y x h in
    let z : length known + 0 ≡ length known = omega arith in
    record {
      before = known;
      long = omega arith;
      is = rw z (rw (← e) (grown-front step (known ++ step known y ∷ []) ys (length known) (step known y) (get_last known (step known y))));
      same = λ i b at. grown-front step known (y ∷ ys) i b at;
    }
entry step known (y ∷ ys) (suc k) x h =
    let n = entry step (known ++ step known y ∷ []) ys k x h in
    let l : length (known ++ step known y ∷ []) ≡ length known + 1 = length-append known (step known y ∷ []) in
    let m : length (known ++ step known y ∷ []) + k ≡ length known + suc k = omega (arith, l) in
    record {
      before = n.before;
      long = n.long ∙ m;
      is = rw m at n.is;
      same = n.same;
    }
