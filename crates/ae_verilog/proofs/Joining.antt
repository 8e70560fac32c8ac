-- Text behind text, and the steps of loops that write.
use Rattle.std.proofs.Common.{◌≡◌, ℕ, ◌+◌, ◌<◌, List, [], ◌∷◌, ◌++◌, ◌⊎◌, inl, inr, sym, ap, ◌∙◌, subst, append_assoc, append-nil, length, take, get_or, arith, length-take-le}
use Rattle.std.proofs.lemmas.List.{take_more, get_or_default}
use Rattle.std.proofs.lemmas.Bool.{cases_eq}
use Rattle.std.proofs.lemmas.Grind.{flat_map-append}
use Rattle.std.proofs.lemmas.Fmt.{decimal_digit}
use Rattle.std.specs.Prelude.{decimal}
use Rattle.std.specs.List.{flat_map}
use Rattle.ae_verilog.specs.NetlistModule.{each_numbered}

-- two texts one behind the other
pub joined : (a b c x y : List ℕ) → b ≡ a ++ x → c ≡ b ++ y → c ≡ a ++ (x ++ y)
joined a b c x y one two = two ∙ ap (λ l. l ++ y) one ∙ append_assoc a x y

-- one more of a list
pub listed_push : {X A : Type 0} (f : ℕ → X → List A) (k : ℕ) (xs : List X) (x : X) → each_numbered f k (xs ++ x ∷ []) ≡ each_numbered f k xs
    ++ f (k + length xs) x
listed_push f k [] x = append-nil (f k x) ∙ ap (λ n. f n x) (let e : k ≡ k + 0 = omega arith in e)
listed_push f k (y ∷ ys) x =
    ap (λ l. f k y ++ l) (listed_push f (k + 1) ys x)
    ∙ sym (append_assoc (f k y) (each_numbered f (k + 1) ys) (f (k + 1 + length ys) x))
    ∙ ap (λ n. (f k y ++ each_numbered f (k + 1) ys) ++ f n x) (let e : k + 1 + length ys ≡ k + length (y ∷ ys) = omega arith in e)

listed_take : {X : Type 0} (f : ℕ → X → List ℕ) (xs : List X) (i : ℕ) (d : X) → i < length xs
    → each_numbered f 0 (take (i + 1) xs) ≡ each_numbered f 0 (take i xs) ++ f i (get_or xs i d)
listed_take f xs i d inside =
    ap (each_numbered f 0) (take_more xs i d inside) ∙ listed_push f 0 (take i xs) (get_or xs i d)
    ∙ ap (λ n. each_numbered f 0 (take i xs) ++ f n (get_or xs i d))
    (let e : 0 + length (take i xs) ≡ i = omega (arith, length-take-le i xs (omega arith)) in e)

-- one turn of a loop that writes each element with its number
pub listed_more : {X : Type 0} (f : ℕ → X → List ℕ) (xs : List X) (i : ℕ) (d : X) (a b c : List ℕ) → i < length xs → b ≡ a ++ each_numbered f 0 (take i xs)
    → c ≡ b ++ f i (get_or xs i d) → c ≡ a ++ each_numbered f 0 (take (i + 1) xs)
listed_more f xs i d a b c inside before here = joined a b c _ _ before here ∙ ap (λ l. a ++ l) (sym (listed_take f xs i d inside))

mapped_take : {X : Type 0} (f : X → List ℕ) (xs : List X) (i : ℕ) (d : X) → i < length xs → flat_map f (take (i + 1) xs) ≡ flat_map f (take i xs)
    ++ f (get_or xs i d)
mapped_take f xs i d inside =
    ap (flat_map f) (take_more xs i d inside) ∙ flat_map-append f (take i xs) (get_or xs i d ∷ [])
    ∙ ap (λ l. flat_map f (take i xs) ++ l) (append-nil (f (get_or xs i d)))

-- one turn of a loop that writes each element
pub mapped_more : {X : Type 0} (f : X → List ℕ) (xs : List X) (i : ℕ) (d : X) (a b c : List ℕ) → i < length xs → b ≡ a ++ flat_map f (take i xs) → c ≡ b
    ++ f (get_or xs i d) → c ≡ a ++ flat_map f (take (i + 1) xs)
mapped_more f xs i d a b c inside before here = joined a b c _ _ before here ∙ ap (λ l. a ++ l) (sym (mapped_take f xs i d inside))

-- what holds of the first elements
abbrev pub OfFirst : {X : Type 0} → (X → Type 0) → List X → ℕ → Type 0
OfFirst P xs i = (k : ℕ) (d : _) → k < i → k < length xs → P (get_or xs k d)

-- one more has it
pub first_more : {X : Type 0} (P : X → Type 0) (xs : List X) (i : ℕ) (d : X) → i < length xs → OfFirst P xs i → P (get_or xs i d) → OfFirst P xs (i + 1)
first_more P xs i d inside before here k e below within = elim (lt_or_eq k i below) [
  | inl less ↦ before k e less within
  | inr same ↦ subst (λ n. P (get_or xs n e)) (sym same) (subst P (get_or_default xs i d e inside) here)
]
  where
    lt_or_eq : (k i : ℕ) → k < i + 1 → (k < i) ⊎ (k ≡ i)
    lt_or_eq k i h = elim (cases_eq k i) [ inl same ↦ inr same | inr other ↦ inl (omega arith) ]

pub one_digit : (n : ℕ) → n < 10 → decimal n ≡ (48 + n) ∷ []
one_digit n h = decimal_digit n h
