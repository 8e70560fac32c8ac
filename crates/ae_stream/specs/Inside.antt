-- Where the circuit inside stands: it is the first cells of a netlist of which a copy is held.
use Rattle.std.specs.Prelude.{◌≡◌, ℕ, ◌+◌, ◌<◌, ◌≤◌, length, take}
use Rattle.ae_netlist.specs.Circuit.{Circuit, Extends, IsFormed}
use Rattle.ae_netlist.specs.Runs.{Clock}
use Rattle.ae_rewrite.specs.Blocks.{outlet_net}
use Rattle.ae_stall.specs.Held.{IsHeld}
use Rattle.ae_stall.specs.Images.{placed}
use Rattle.ae_stream.specs.Control.{Control}
use Rattle.ae_stream.specs.Streams.{Ends}

-- the first nets of a clock, so many
abbrev pub first_nets : (count : ℕ) → Clock → Clock
first_nets count c = record { words = take count c.words; stores = take count c.stores }

-- the circuit is the first cells of this netlist, and of that a copy is held where the circuit is to step, with two more inputs
-- behind the reset; the columns of both ends are those of the circuit, and its outputs are what is made
pub record IsHeldInside (x : Control) (ends : Ends) (n marked copied new : Circuit) : Type 0 where
  pub formed : IsFormed n.cells
  pub first : Extends n.cells marked.cells
  pub some : 0 < length n.cells
  pub held : IsHeld 2 x.enable marked copied new
  pub longer : length marked.cells + 2 ≤ length copied.cells
  pub ins : (q : ℕ) → q < ends.in_columns → (1 + q < length n.cells) × (ends.ins q ≡ placed 2 (1 + q))
  pub outs : (q : ℕ) → q < ends.columns → (outlet_net n.outlets q < length n.cells)
      × (x.made q ≡ placed 2 (outlet_net n.outlets q))
