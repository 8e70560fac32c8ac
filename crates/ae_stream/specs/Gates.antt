-- The gates of the control, in each clock behind the reset.
use Rattle.std.specs.Prelude.{◌≡◌, ℕ, ◌&&◌, ◌||◌, not, if◌then◌else◌, Bool, true}
use Rattle.ae_netlist.specs.Runs.{Clock}
use Rattle.ae_stream.specs.Streams.{Ends, bit}
use Rattle.ae_stream.specs.Control.{Control}

-- its other nets: the reset; the first clock of a block; that the block that has begun is real; that results of real
-- blocks are still to come
pub record Gates : Type 0 where
  pub reset : ℕ
  pub first : ℕ
  pub current : ℕ
  pub busy : ℕ

-- whether the circuit may step for what the source shows
abbrev pub may_go : (first valid busy takes current : Bool) → Bool
may_go first valid busy takes current = if first then valid || busy else (not takes || (not current || valid))

pub record HasGates (x : Control) (g : Gates) (ends : Ends) (c : Clock) : Type 0 where
  pub begins : bit g.first c ≡ true → bit x.takes c ≡ true
  pub here : bit x.here c ≡ (if bit g.first c then bit ends.source.valid c else bit g.current c)
  pub ready : bit ends.source.ready c ≡ (not (bit x.two c) && (bit x.takes c && (bit g.first c || bit g.current c)))
  pub enable : bit x.enable c ≡ (bit g.reset c || (not (bit x.two c)
      && may_go (bit g.first c) (bit ends.source.valid c) (bit g.busy c) (bit x.takes c) (bit g.current c)))
