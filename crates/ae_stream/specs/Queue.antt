-- A queue of two words, in each element of a list.
use Rattle.std.specs.Prelude.{slice_get, unwrap_or, ◌≡◌, ℕ, ◌+◌, ◌<◌, ◌&&◌, ◌||◌, not, if◌then◌else◌, Bool, true, false, List, [], ◌∷◌, ◌++◌, length, map}
use Rattle.std.specs.List.{filter}

abbrev pub content : {W : Type 0} → (one two : Bool) → (a b : W) → List W
content false two a b = []
content true false a b = a ∷ []
content true true a b = a ∷ b ∷ []

abbrev pub next_one : (one two push pop : Bool) → Bool
next_one one two push pop = two || (push || (one && not pop))

abbrev pub next_two : (one two push pop : Bool) → Bool
next_two one two push pop = (two && not pop) || (one && (push && not pop))

abbrev pub next_a : {W : Type 0} → (one two pop : Bool) → (a b made : W) → W
next_a one two pop a b made = if pop || not one then (if two then b else made) else a

abbrev pub next_b : {W : Type 0} → (two : Bool) → (b made : W) → W
next_b two b made = if two then b else made

-- nothing is put in where two stand, nothing taken where none stands, and where two stand one stands
pub record IsFair (one two push pop : Bool) : Type 0 where
  pub second : two ≡ true → one ≡ true
  pub room : push ≡ true → two ≡ false
  pub some : pop ≡ true → one ≡ true

-- the state of a queue in each element of a list, and what is put in and taken out there
pub record Queue (X W : Type 0) : Type 0 where
  pub one : X → Bool
  pub two : X → Bool
  pub push : X → Bool
  pub pop : X → Bool
  pub a : X → W
  pub b : X → W
  pub made : X → W

pub record IsAfter {X W : Type 0} (q : Queue X W) (x y : X) : Type 0 where
  pub one : q.one y ≡ next_one (q.one x) (q.two x) (q.push x) (q.pop x)
  pub two : q.two y ≡ next_two (q.one x) (q.two x) (q.push x) (q.pop x)
  pub a : q.a y ≡ next_a (q.one x) (q.two x) (q.pop x) (q.a x) (q.b x) (q.made x)
  pub b : q.b y ≡ next_b (q.two x) (q.b x) (q.made x)

pub record IsQueue {X W : Type 0} (q : Queue X W) (xs : List X) (d : X) : Type 0 where
  pub fair : (t : ℕ) → t < length xs
      → IsFair (q.one (unwrap_or (slice_get xs t) d)) (q.two (unwrap_or (slice_get xs t) d))
      (q.push (unwrap_or (slice_get xs t) d)) (q.pop (unwrap_or (slice_get xs t) d))
  pub after : (t : ℕ) → t + 1 < length xs → IsAfter q (unwrap_or (slice_get xs t) d)
      (unwrap_or (slice_get xs (t + 1)) d)

abbrev pub stands : {X W : Type 0} → Queue X W → X → List W
stands q x = content (q.one x) (q.two x) (q.a x) (q.b x)

abbrev pub put : {X W : Type 0} → Queue X W → List X → List W
put q xs = map q.made (filter q.push xs)

abbrev pub got : {X W : Type 0} → Queue X W → List X → List W
got q xs = map q.a (filter q.pop xs)

-- one is the first part of the other
pub record Begins {W : Type 0} (part all : List W) : Type 0 where
  pub rest : List W
  pub joined : part ++ rest ≡ all
