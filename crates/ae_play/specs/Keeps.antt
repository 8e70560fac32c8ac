-- What is kept of a run, clock by clock.
use Rattle.std.specs.Prelude.{◌≡◌, ℕ, zero, suc, List}

-- from the first to the last in so many clocks, where clock c takes its row and the words that it shows
abbrev pub Keeps : {K : Type 0} → (takes : ℕ → List ℕ → List ℕ → K → K → Type 0) → (row shown : ℕ → List ℕ)
    → (first : K) → (count : ℕ) → (last : K) → Type 0
Keeps takes row shown first zero last = last ≡ first
Keeps {K} takes row shown first (suc c) last =
    (before : K) × Keeps takes row shown first c before × takes c (row c) (shown c) before last
