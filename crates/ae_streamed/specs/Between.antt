-- A circuit between two channels, as a netlist.
use Rattle.std.specs.Prelude.{◌≡◌, ℕ, ◌+◌, ◌*◌, ◌/◌, ◌<◌, ◌≤◌, List, [], ◌∷◌, length, map, sum_by, Some, slice_get}
use Rattle.ae_seq.specs.ProgramTree.{ProgramTree}
use Rattle.ae_sttype.specs.StTree.{StTree}
use Rattle.ae_sttype.specs.Moves.{columns_of}
use Rattle.ae_netlist.specs.declared.cell.NetId.{NetId}
use Rattle.ae_netlist.specs.declared.cell.Outlet.{Outlet}
use Rattle.ae_netlist.specs.declared.cell.Port.{Port}
use Rattle.ae_netlist.specs.declared.cell.Port.TheVariants.{Stream}
use Rattle.ae_netlist.specs.declared.cell.Handshake.TheVariants.{SinkReady, SinkValid, SourceReady, SourceValid}
use Rattle.ae_netlist.specs.declared.cell.SizedCell.{SizedCell}
use Rattle.ae_netlist.specs.Circuit.{Circuit, Extends, IsNet}
use Rattle.ae_netlist.specs.Counts.{AreWhole, cells_of, count_of, is_input, is_mul}
use Rattle.ae_netlist.specs.Runs.{Clock, IsReset, IsRun}
use Rattle.ae_rewrite.specs.Blocks.{MakesBlocks, outlet_net}
use Rattle.ae_stall.specs.Held.{IsHeld}
use Rattle.ae_stall.specs.Images.{bit_input, placed_net, with_inputs}
use Rattle.ae_stream.specs.Streams.{Ends, Stays, Streams}
use Rattle.ae_stream.specs.Fed.{CanBeFed}
use Rattle.ae_stream.specs.Paths.{HasNoPaths}
use Rattle.ae_stream.specs.Progress.{GoesOn}
use Rattle.ae_control.specs.declared.driver.Controlled.{Controlled}
use Rattle.ae_control.specs.declared.driver.Wires.{Wires}
use Rattle.ae_streamed.specs.declared.marking.Marks.{Marks}
use Rattle.ae_control.specs.Cells.{AddsControl}
use Rattle.ae_control.specs.Controls.{HasControlNets, IsControl, net}
use Rattle.ae_control.specs.Columns.{AreColumns}
use Rattle.ae_streamed.specs.Count.{stream_cells, wrapped_cells}

-- ---- its ports

-- that words stand at the source, and that those at the sink are taken
abbrev pub source_valid : Port
source_valid = Stream SourceValid

abbrev pub sink_ready : Port
sink_ready = Stream SinkReady

abbrev pub channel_inputs : List Port
channel_inputs = source_valid ∷ sink_ready ∷ []

-- that the source is asked, and that words stand at the sink
abbrev pub source_ready : Port
source_ready = Stream SourceReady

abbrev pub sink_valid : Port
sink_valid = Stream SinkValid

abbrev pub ports_of : List Outlet → List Port
ports_of outlets = map (λ (o : Outlet). o.port) outlets

-- ---- how it is made: a copy of the circuit and its marks with two more inputs behind the reset, and a control

-- what the control reads: the reset, the two inputs behind it, and the marks where the copy has them
abbrev pub wires_of : Marks → Wires
wires_of m = record {
  reset = net 0;
  valid = net 1;
  ready = net 2;
  first = placed_net 2 m.first;
  last = placed_net 2 m.last;
  wants = placed_net 2 m.wants;
  late = placed_net 2 m.late;
  behind = placed_net 2 m.behind;
}

pub record AreMarkNets (cells : List SizedCell) (m : Marks) : Type 0 where
  pub first : IsNet cells m.first.0 1
  pub last : IsNet cells m.last.0 1
  pub wants : IsNet cells m.wants.0 1
  pub late : IsNet cells m.late.0 1
  pub behind : IsNet cells m.behind.0 1

-- the nets of these outputs in the copy
abbrev pub copied_nets : List Outlet → List NetId
copied_nets outlets = map (λ (o : Outlet). placed_net 2 o.net) outlets

-- outputs: that the source is asked, that words stand at the sink, and for each old output one: every fourth net
pub record AreShownBy (c : Controlled) (at : ℕ) (old outlets : List Outlet) : Type 0 where
  pub ports : ports_of outlets ≡ source_ready ∷ sink_valid ∷ ports_of old
  pub long : length outlets ≡ 2 + length old
  pub asks : outlet_net outlets 0 ≡ c.asks.0
  pub one : outlet_net outlets 1 ≡ c.one.0
  pub columns : (k : ℕ) → k < length old → outlet_net outlets (2 + k) ≡ at + 4 * k

-- behind these cells come a control and queues for these nets, and they are shown
pub record HasDriver (old new : Circuit) (m : Marks) (blocks wait : ℕ) (made : List NetId) (outlets : List Outlet)
    (c : Controlled) : Type 0 where
  pub extends : Extends old.cells new.cells
  pub added : AddsControl old.cells new.cells
  pub limit : new.limit ≡ old.limit
  pub control : IsControl (length old.cells) new.cells (wires_of m) blocks wait c
  pub nets : HasControlNets (length old.cells) new.cells c
  pub at : ℕ
  pub behind : length old.cells ≤ at
  pub columns : AreColumns at new.cells c made
  pub shown : AreShownBy c at outlets new.outlets

-- the inputs are those of a netlist, with those of the channels behind the first, which is the reset
abbrev pub HasChannelInputs : (old new : List SizedCell) → Type 0
HasChannelInputs old new = cells_of is_input new ≡ with_inputs (map bit_input channel_inputs) (cells_of is_input old)

-- a copy of a marked netlist, held by the control that is around it
pub record IsWrapped (marked new : Circuit) (m : Marks) (blocks wait : ℕ) : Type 0 where
  pub by : Controlled
  pub copied : Circuit
  pub held : IsHeld 2 by.enable.0 marked copied new
  pub longer : length marked.cells + 2 ≤ length copied.cells
  pub valid : slice_get new.cells 1 ≡ Some (bit_input source_valid)
  pub ready : slice_get new.cells 2 ≡ Some (bit_input sink_ready)
  pub control : IsControl (length marked.cells + 2) new.cells (wires_of m) blocks wait by
  pub asks : IsNet new.cells by.asks.0 1
  pub stands : IsNet new.cells by.one.0 1
  pub few : length new.cells ≤ wrapped_cells (length marked.cells) (length marked.outlets) blocks
  pub muls : count_of is_mul new.cells ≡ count_of is_mul marked.cells
  pub inputs : HasChannelInputs marked.cells new.cells
  pub whole : AreWhole marked.cells → AreWhole new.cells
  pub at : ℕ
  pub columns : AreColumns at new.cells by (copied_nets marked.outlets)
  pub shown : AreShownBy by at marked.outlets new.outlets

-- ---- what it does

-- the ends of both channels. Inputs: the reset, that words stand at the source, that those at the sink are taken, and
-- the columns of the source. Outputs: that the source is asked, that words stand at the sink, and its columns
abbrev pub channel_ends : (in_columns columns : ℕ) → List Outlet → Ends
channel_ends in_columns columns outlets = record {
  in_columns = in_columns;
  columns = columns;
  source = record { valid = 1; ready = outlet_net outlets 0 };
  sink = record { valid = outlet_net outlets 1; ready = 2 };
  ins = λ q. 3 + q;
  outs = λ q. outlet_net outlets (2 + q);
}

-- those around a circuit with parameters of these layouts and so many outputs
abbrev pub ends_for : (inputs : List StTree) → (columns : ℕ) → Circuit → Ends
ends_for inputs columns new = channel_ends (sum_by columns_of inputs) columns new.outlets

abbrev pub InResetRuns : List SizedCell → (List Clock → (start : ℕ) → Type 0) → Type 0
InResetRuns cells P = (run : List Clock) (start : ℕ) → IsRun cells run → IsReset run 0 start → P run start

-- the circuit stands between two channels: of each program whose blocks it makes, the sink gets the results of what the
-- source gave, at whatever pace both go, words that stand at the sink stay until they are taken, and it goes on; no
-- path leads from an input to an output within a clock. Its inputs and outputs are those of the circuit and of the
-- channels. It has few cells beside twice the circuit, no more products, and its memories are whole
pub record IsStream (old new : Circuit) (slowdown latency : ℕ) (inputs outputs : List StTree) : Type 0 where
  pub valid : slice_get new.cells 1 ≡ Some (bit_input source_valid)
  pub ready : slice_get new.cells 2 ≡ Some (bit_input sink_ready)
  pub input_ports : HasChannelInputs old.cells new.cells
  pub ports : ports_of new.outlets ≡ source_ready ∷ sink_valid ∷ ports_of old.outlets
  pub asks : IsNet new.cells (outlet_net new.outlets 0) 1
  pub stands : IsNet new.cells (outlet_net new.outlets 1) 1
  pub streams : (p : ProgramTree) → CanBeFed old.cells p inputs → MakesBlocks old p slowdown latency inputs outputs
      → InResetRuns new.cells (λ run start.
      Streams (ends_for inputs (length old.outlets) new) run start p slowdown inputs outputs)
  pub stays : InResetRuns new.cells (λ run start.
      Stays (ends_for inputs (length old.outlets) new) (length old.outlets) run start)
  pub goes_on : InResetRuns new.cells (λ run start.
      GoesOn (ends_for inputs (length old.outlets) new) run start slowdown latency inputs outputs)
  pub no_paths : InResetRuns new.cells (λ a start. (b : List Clock) → IsRun new.cells b → IsReset b 0 start
      → HasNoPaths (ends_for inputs (length old.outlets) new) a b start)
  pub few : length new.cells ≤ stream_cells old inputs outputs (latency / slowdown)
  pub muls : count_of is_mul new.cells ≡ count_of is_mul old.cells
  pub whole : AreWhole old.cells → AreWhole new.cells
