-- Lists that correspond place by place.
use Rattle.std.proofs.Common.{◌≡◌, inl, inr, Bool, true, false, List, [], ◌∷◌, map, refl, sym, ap, ◌∙◌}
use Rattle.std.specs.Prelude.{filter}
use Rattle.std.proofs.lemmas.Bool.{cases_Bool, cond-true, cond-false}
use Rattle.ae_judge.specs.Names.{Among}

kept_among : {X : Type 0} (x : X) (ys zs : List X) → ys ≡ zs → Among x ys → Among x zs
kept_among x ys zs e b = rw e at b

pub among_filter : {X : Type 0} (test : X → Bool) (x : X) (xs : List X) → Among x (filter test xs) → Among x xs × (test x ≡ true)
among_filter test x [] a = absurd a
among_filter test x (y ∷ xs) a = elim (cases_Bool (test y)) [
  | inl t ↦ elim (kept_among x _ _ (cond-true _ (y ∷ filter test xs) (filter test xs) t) a) [
    | inl e ↦ (inl e, ap test (sym e) ∙ t)
    | inr later ↦ let r = among_filter test x xs later in (inr r.0, r.1)
  ]
  | inr f ↦ let r = among_filter test x xs (kept_among x _ _ (cond-false _ (y ∷ filter test xs) (filter test xs) f) a) in (inr r.0, r.1)
]

pub filter_among : {X : Type 0} (test : X → Bool) (x : X) (xs : List X) → Among x xs → test x ≡ true → Among x (filter test xs)
filter_among test x [] a h = a
filter_among test x (y ∷ xs) a h = elim (cases_Bool (test y)) [
  | inl t ↦ rw (cond-true _ (y ∷ filter test xs) (filter test xs) t) (elim a [ inl e ↦ inl e | inr later ↦ inr (filter_among test x xs later h) ])
  | inr f ↦ rw (cond-false _ (y ∷ filter test xs) (filter test xs) f)
      (elim a [ inl e ↦ absurd (let z : test x ≡ false = ap test (sym e) ∙ f in cc) | inr later ↦ filter_among test x xs later h ])
]

pub map_each : {X Y : Type 0} (f g : X → Y) (xs : List X) → map f xs ≡ map g xs → (x : X) → Among x xs → f x ≡ g x
map_each f g [] h x a = absurd a
map_each f g (y ∷ xs) h x a = elim a [
  | inl e ↦ ap f (sym e) ∙ (let s : f y ≡ g y = cc in s) ∙ ap g e
  | inr later ↦ map_each f g xs (let t : map f xs ≡ map g xs = cc in t) x later
]

pub each_map : {X Y : Type 0} (f g : X → Y) (xs : List X) → ((x : X) → Among x xs → f x ≡ g x) → map f xs ≡ map g xs
each_map f g [] h = refl
each_map f g (y ∷ xs) h = ap (λ v. v ∷ map f xs) (h y (inl refl)) ∙ ap (λ l. g y ∷ l) (each_map f g xs (λ x a. h x (inr a)))
