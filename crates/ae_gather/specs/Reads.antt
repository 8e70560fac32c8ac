-- Output columns that read words of input columns from rings, one in each clock.
use Rattle.std.specs.Prelude.{◌≡◌, ℕ, ◌+◌, ◌-◌, ◌^◌, ◌<◌, ◌==◌, ◌&&◌, Bool, true, false, if◌then◌else◌, nat_le, List, length, Option, Some, None, get_or, slice_get, sum_by}
use Rattle.ae_moves.specs.declared.trip.Source.{Source}
use Rattle.ae_moves.specs.declared.trip.Source.TheVariants.{Place, Fixed}
use Rattle.ae_moves.specs.declared.trip.Trip.{Trip}
use Rattle.ae_gather.specs.declared.reads.Reads.{Reads}

abbrev pub is_from : Option ℕ → ℕ → Bool
is_from (Some y) x = y == x
is_from None x = false

-- output column q reads the word that column x has in clock k of a block from the ring of x: it is due two clocks later or more, and the ring holds it still
abbrev pub is_read : Reads → (due k x q : ℕ) → Bool
is_read reads due k x q =
    is_from (get_or reads.from.items q None)
    x && (get_or reads.rings.items x false && (nat_le (k + 2) due && nat_le due (k + 2 ^ reads.bits)))

-- a word that is read comes from a column of its own, in the clock in which it is due
abbrev pub read_source : Reads → (due q : ℕ) → Source → Source
read_source reads due q (Place k x) =
    if is_read reads due k x q then Place due (length reads.rings.items + q) else Place k x
read_source reads due q (Fixed w) = Fixed w

abbrev pub read_trip : (d : ℕ) → Reads → Trip → Trip
read_trip d reads trip =
    record {
      clock = trip.clock;
      column = trip.column;
      source = read_source reads (trip.clock + d) trip.column trip.source;
    }

-- the place of a word that is read: a clock before it is due, as many clocks old as the place is short of a whole turn of the ring
abbrev pub IsPlaceOf : Reads → (q due w : ℕ) → Source → Type 0
IsPlaceOf reads q due w (Place k x) = is_read reads due k x q ≡ true → w + (due - k - 1) ≡ 2 ^ reads.bits
IsPlaceOf reads q due w (Fixed v) = Unit {0}

-- a trip with a place instead of its word
abbrev pub placed : Trip → ℕ → Trip
placed trip w = record { clock = trip.clock; column = trip.column; source = Fixed w }

-- the first so many trips, each with the place of its word where that is read
pub record ArePlaced (count d : ℕ) (reads : Reads) (trips places : List Trip) : Type 0 where
  pub long : length places ≡ count
  pub each : (n : ℕ) (trip : Trip) → n < count → slice_get trips n ≡ Some trip → (w : ℕ)
      × (slice_get places n ≡ Some (placed trip w)) × (w < 2 ^ reads.bits)
      × IsPlaceOf reads trip.column (trip.clock + d) w trip.source

-- how many columns have a ring
abbrev pub ring_count : List Bool → ℕ
ring_count rings = sum_by (λ has. if has then 1 else 0) rings
