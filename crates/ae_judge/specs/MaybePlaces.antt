-- Places that may be missing, each kept as a number: 0 where there is none, and else one more than it.
use Rattle.std.specs.Prelude.{◌≡◌, ℕ, Option, Some, None, zero, suc}

abbrev pub kept_place : ℕ → Option ℕ
kept_place zero = None
kept_place (suc k) = Some k

abbrev pub kept_number : Option ℕ → ℕ
kept_number None = 0
kept_number (Some k) = suc k

-- nothing of what is kept is lost
pub kept_again : (k : ℕ) → kept_number (kept_place k) ≡ k
kept_again zero = λ i. 0
kept_again (suc k) = λ i. suc k
