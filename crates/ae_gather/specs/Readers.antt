-- Rings of input columns, and nets that read them at places that change from clock to clock.
use Rattle.std.specs.Prelude.{◌≡◌, ℕ, ◌+◌, ◌-◌, ◌*◌, ◌^◌, ◌<◌, ◌≤◌, true, false, List, length, Option, Some, None, get_or, slice_get}
use Rattle.ae_netlist.specs.declared.cell.NetId.{NetId}
use Rattle.ae_netlist.specs.declared.cell.SizedCell.{SizedCell}
use Rattle.ae_netlist.specs.Circuit.{IsNet, IsMemory}
use Rattle.ae_netlist.specs.Runs.{Clock, word_at, InEveryResetRun}
use Rattle.ae_clocked.specs.Rings.{IsRing}
use Rattle.ae_moves.specs.declared.trip.Source.TheVariants.{Fixed}
use Rattle.ae_moves.specs.declared.trip.Trip.{Trip}
use Rattle.ae_gather.specs.declared.reads.Reads.{Reads}
use Rattle.ae_clocked.specs.declared.ring.Ring.{Ring}
use Rattle.ae_columns.specs.Columns.{net_of}

-- where a place is so many clocks short of a whole turn of the ring, y has a clock later the word that x had so many clocks before
abbrev pub ReadsPlaces : List Clock → (start bits x place y : ℕ) → Type 0
ReadsPlaces run start bits x place y =
    (c tap : ℕ) → 1 ≤ tap → tap ≤ c → tap ≤ 2 ^ bits → start + (c + 1) < length run
    → word_at run (start + c) place + tap ≡ 2 ^ bits
    → word_at run (start + (c + 1)) y ≡ word_at run (start + (c - tap)) x

-- net y has in each clock the word of x that was asked for in the clock before, by its place
pub record IsReader (cells : List SizedCell) (rst bits x place y : ℕ) : Type 0 where
  pub words : InEveryResetRun cells rst (λ run start. ReadsPlaces run start bits x place y)

-- a ring of the words of a net
pub record RingOf (cells : List SizedCell) (rst bits x : ℕ) (ring : Ring) : Type 0 where
  pub width : ℕ
  pub net : IsNet cells x width
  pub wide : ring.bits ≡ bits
  pub memory : IsMemory cells ring.memory.0 width (2 ^ bits)
  pub counter : IsNet cells ring.counter.0 bits
  pub keeps : IsRing cells rst bits x ring.counter.0 ring.memory.0

-- each of the first columns that has a ring, with it
pub record AreRings (count : ℕ) (cells : List SizedCell) (rst : ℕ) (reads : Reads) (ins : List NetId)
    (rings : List (Option Ring)) : Type 0 where
  pub long : length rings ≡ count
  pub each : (x : ℕ) (ring : Ring) → slice_get rings x ≡ Some (Some ring)
      → RingOf cells rst reads.bits (net_of ins x) ring
  pub has : (x : ℕ) → x < count → get_or reads.rings.items x false ≡ true → (ring : Ring)
      × (slice_get rings x ≡ Some (Some ring))

-- a net that reads the words of x at the places that another net shows
pub record ReadsRing (cells : List SizedCell) (rst bits x place y : ℕ) : Type 0 where
  pub width : ℕ
  pub from : IsNet cells x width
  pub net : IsNet cells y width
  pub reads : IsReader cells rst bits x place y

-- what an output column reads, where it reads from a column that has a ring
pub record ReadsColumn (cells : List SizedCell) (rst : ℕ) (reads : Reads) (from : Option ℕ) (ins : List NetId)
    (place y : ℕ) : Type 0 where
  pub net : (w : ℕ) × IsNet cells y w
  pub words : (x : ℕ) → from ≡ Some x → get_or reads.rings.items x false ≡ true
      → ReadsRing cells rst reads.bits (net_of ins x) place y

-- the nets of the input columns, and behind them what each of the first output columns reads
pub record AreReads (count : ℕ) (cells : List SizedCell) (rst : ℕ) (reads : Reads)
    (ins places all : List NetId) : Type 0 where
  pub long : length all ≡ length ins + count
  pub first : (q : ℕ) → q < length ins → net_of all q ≡ net_of ins q
  pub each : (q : ℕ) → q < count → ReadsColumn cells rst reads (get_or reads.from.items q None) ins (net_of places q)
      (net_of all (length ins + q))

-- each net shows a place, a clock before each trip of its column is due
abbrev pub ShowsPlaces : List SizedCell → (rst period d arrival : ℕ) → (nets : List NetId) → List Trip → Type 0
ShowsPlaces cells rst period d arrival nets places =
    InEveryResetRun cells rst (λ run start.
    (b n c w : ℕ) (trip : Trip)
    → slice_get places n ≡ Some trip → trip.source ≡ Fixed w → arrival + d + b * period + trip.clock ≡ c + 1
    → start + c < length run
    → word_at run (start + c) (net_of nets trip.column) ≡ w)
