-- When a netlist does what another one does, with no more cells.
use Rattle.std.specs.Prelude.{◌≡◌, ℕ, ◌<◌, ◌≤◌, List, length, map, take, Some, slice_get}
use Rattle.ae_netlist.specs.declared.cell.Port.{Port}
use Rattle.ae_netlist.specs.declared.cell.Outlet.{Outlet}
use Rattle.ae_netlist.specs.Circuit.{Circuit, IsFormed, HaveNets, width_of}
use Rattle.ae_netlist.specs.Counts.{AreWhole, IsNumbered, cells_of, count_of, number_of, is_input, is_memory, is_mul}
use Rattle.ae_netlist.specs.Runs.{Clock, word_at, IsRun}
use Rattle.ae_tidy.specs.Needed.{IsLean}

-- the outputs, in order: the port of each, and how wide the net is that it shows
abbrev pub shown_ports : Circuit → List (Port × ℕ)
shown_ports c = map (λ (o : Outlet). (o.port, width_of c.cells o.net.0)) c.outlets

-- two runs in which, clock by clock, inputs of one number have the same word, and so have outputs of one number
pub record ShowTheSame (old new : Circuit) (before after : List Clock) : Type 0 where
  pub long : length before ≡ length after
  pub inputs : (t k n m : ℕ) → t < length after → IsNumbered is_input old.cells k n → IsNumbered is_input new.cells k m
      → word_at before t n ≡ word_at after t m
  pub outputs : (t k : ℕ) (o p : Outlet) → t < length after → slice_get old.outlets k ≡ Some o
      → slice_get new.outlets k ≡ Some p → word_at before t o.net.0 ≡ word_at after t p.net.0

-- inputs, outputs and products are those of the old netlist; every run shows what one of the old netlist shows; and
-- every cell is needed
pub record IsTidied (old new : Circuit) : Type 0 where
  pub inputs : cells_of is_input new.cells ≡ cells_of is_input old.cells
  pub first : (k : ℕ) → number_of is_input old.cells k ≡ k → take k new.cells ≡ take k old.cells
  pub outputs : shown_ports new ≡ shown_ports old
  pub runs : (after : List Clock) → IsRun new.cells after → (before : List Clock) × IsRun old.cells before
      × ShowTheSame old new before after
  pub formed : IsFormed new.cells
  pub shown : HaveNets new.cells new.outlets
  pub whole : AreWhole old.cells → AreWhole new.cells
  pub small : length new.cells ≤ length old.cells
  pub muls : count_of is_mul new.cells ≡ count_of is_mul old.cells
  pub memories : count_of is_memory new.cells ≤ count_of is_memory old.cells
  pub limit : new.limit ≤ old.limit
  pub lean : IsLean new
