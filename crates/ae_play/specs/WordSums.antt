-- What a clock adds to the sums of a run.
use Rattle.std.specs.Prelude.{◌≡◌, ℕ, ◌+◌, ◌*◌, ◌≤◌, Bool, if◌then◌else◌, List, length}
use Rattle.std.specs.List.{sum}
use Rattle.ae_play.specs.declared.sums.Sums.{Sums}

-- the sums with the words of one clock more, in which all results stand or not
pub record AreWithClock (stands : Bool) (words : List ℕ) (before sums : Sums) : Type 0 where
  pub valid : sums.valid ≡ before.valid + (if stands then length words else 0)
  pub valid_sum : sums.valid_sum ≡ before.valid_sum + (if stands then sum words else 0)
  pub whole_sum : sums.whole_sum ≡ before.whole_sum + sum words

-- those of so many clocks, each with fewer than 2 ^ 32 words below 2 ^ 64
pub record HaveRoom (clocks : ℕ) (sums : Sums) : Type 0 where
  pub valid : sums.valid ≤ clocks * 4294967295
  pub valid_sum : sums.valid_sum ≤ clocks * (4294967295 * 18446744073709551615)
  pub whole_sum : sums.whole_sum ≤ clocks * (4294967295 * 18446744073709551615)
