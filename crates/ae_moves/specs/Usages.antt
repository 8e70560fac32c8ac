-- How the words of an input column are taken, use by use.
use Rattle.std.specs.Prelude.{◌≡◌, ℕ, ◌+◌, ◌-◌, ◌<◌, List, [], ◌∷◌, length, Option, Some, None, ◌&&◌, ◌==◌, nat_le, nat_lt, if◌then◌else◌, get_or, slice_set}
use Rattle.ae_sttype.specs.Moves.{SourceTree, place, constant, TripTree, source_clock, are_held, uses_of}
use Rattle.ae_moves.specs.declared.mems.Usage.{Usage}
use Rattle.ae_moves.specs.Rings.{rings}

-- one use more, of a word from a clock with an age
abbrev pub used : Option Usage → (clock age period : ℕ) → Usage
used None c a p = record { clock = c; held = nat_le a p }
used (Some u) c a p = record { clock = u.clock; held = u.held && ((c == u.clock) && nat_le a p) }

-- the usages by column, with that of a word in clock c from this source
abbrev pub use_from : (d period : ℕ) (us : List (Option Usage)) (c : ℕ) → SourceTree → List (Option Usage)
use_from d p us c (place k q) = slice_set us q (Some (used (get_or us q None) k (c + d - k) p))
use_from d p us c (constant w) = us

-- after all uses: the clock of the first, and whether they are held
abbrev pub usage_of : (period d : ℕ) → List TripTree → Option Usage
usage_of p d [] = None
usage_of p d (t ∷ ts) = Some (record { clock = source_clock t.source; held = are_held p d (t ∷ ts) })

-- the usage of each of so many columns
pub record AreUsages (period d columns : ℕ) (trips : List TripTree) (us : List (Option Usage)) : Type 0 where
  pub long : length us ≡ columns
  pub each : (q : ℕ) → q < columns → get_or us q None ≡ usage_of period d (uses_of q trips)

abbrev pub held_from : Option Usage → (age : ℕ) → Option ℕ
held_from None a = None
held_from (Some u) a = if u.held && nat_lt 1 a then Some u.clock else None

abbrev pub usage_mems : Option Usage → (age : ℕ) → ℕ
usage_mems None a = rings a
usage_mems (Some u) a = if u.held then 0 else rings a

abbrev pub usage_registers : Option Usage → ℕ
usage_registers None = 0
usage_registers (Some u) = if u.held then 1 else 7
