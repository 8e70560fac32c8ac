-- What it is that an instance was lowered.
use Rattle.std.specs.Prelude.{◌≡◌, ℕ, ◌+◌, ◌*◌, ◌/◌, ◌≤◌, List, length, map, take, drop, Option, Some, None, slice_get, get_or}
use Rattle.ae_netlist.specs.declared.cell.NetId.{NetId}
use Rattle.ae_netlist.specs.declared.cell.SizedCell.{SizedCell}
use Rattle.ae_ops.specs.Waves.{AreNets}
use Rattle.ae_ops.specs.Blocks.{KeepsLaw, Part, stream_of, stream_widths}
use Rattle.ae_rewrite.specs.StProgramTree.{StNodeTree, StFuncTree, st_func_trees}
use Rattle.ae_rewrite.specs.Sound.{item_layout, item_layouts, IsSound}
use Rattle.ae_delay.specs.declared.own.OwnCosts.{OwnCosts}
use Rattle.ae_delay.specs.Costs.{NodeTiming, all_costs, arrivals_of, func_costs, node_timings}
use Rattle.ae_delay.specs.Timings.{AreArrivals}
use Rattle.ae_retime.specs.Slacks.{AreSlacks}
use Rattle.ae_flow.specs.Flow.{Callee, callee, item_words, words_at}
use Rattle.ae_flow.specs.Fitted.{AreFitted, elements_stream}
use Rattle.ae_ports.specs.Ports.{streams_of}
use Rattle.ae_lower.specs.declared.calls.TimedProgram.{TimedProgram}
use Rattle.ae_lower.specs.Parts.{mapped_by, plain_part}

-- item i of an instance as a part, where its blocks arrive so many clocks after the parameters
abbrev pub item_part : (known : List Callee) → StFuncTree → (latency i : ℕ) → Part
item_part known s d i =
    plain_part s.budget d (streams_of s.ins) (stream_of (item_layout (item_layouts s) i))
    (λ vs. words_at (item_words known s vs) i)

-- nets that are item i of an instance
pub record IsItem (cells : List SizedCell) (rst at : ℕ) (known : List Callee) (s : StFuncTree)
    (ins : List (List NetId)) (latency i : ℕ) (nets : List NetId) : Type 0 where
  pub there : AreNets cells (stream_widths (stream_of (item_layout (item_layouts s) i))) nets
  pub law : KeepsLaw cells rst at (item_part known s latency i) ins nets

-- a bundle for each of the first items
pub record AreStanding (cells : List SizedCell) (s : StFuncTree) (count : ℕ) (items : List (List NetId)) : Type 0 where
  pub long : length items ≡ count
  pub each : (i : ℕ) (nets : List NetId) → slice_get items i ≡ Some nets
      → AreNets cells (stream_widths (stream_of (item_layout (item_layouts s) i))) nets

-- so many items, each at its arrival
pub record AreItems (cells : List SizedCell) (rst at : ℕ) (known : List Callee) (s : StFuncTree) (arrivals : List ℕ)
    (ins : List (List NetId)) (count : ℕ) (items : List (List NetId)) : Type 0 where
  pub long : length items ≡ count
  pub each : (i : ℕ) (nets : List NetId) → slice_get items i ≡ Some nets
      → IsItem cells rst at known s ins (get_or arrivals i 0) i nets

-- bundles for some items, all so late
pub record AreChosen (cells : List SizedCell) (rst at : ℕ) (known : List Callee) (s : StFuncTree)
    (ins : List (List NetId)) (latency : ℕ) (chosen : List ℕ) (bundles : List (List NetId)) : Type 0 where
  pub long : length bundles ≡ length chosen
  pub each : (r i : ℕ) (nets : List NetId) → slice_get chosen r ≡ Some i → slice_get bundles r ≡ Some nets
      → IsItem cells rst at known s ins latency i nets

-- the costs of instance number k
abbrev pub costs_in : List OwnCosts → Option StFuncTree → OwnCosts
costs_in known None = record { latency = 0; load = 0; muls = 0; mems = 0 }
costs_in known (Some s) = func_costs known s

abbrev pub instance_costs : List StFuncTree → (k : ℕ) → OwnCosts
instance_costs instances k = costs_in (all_costs (take k instances)) (slice_get instances k)

-- a program whose operators fit, with its arrivals
pub record IsTimed (instances : List StFuncTree) (told : List (List ℕ)) : Type 0 where
  pub sound : IsSound instances
  pub fitted : AreFitted instances
  pub arrivals : AreArrivals instances told

abbrev pub instances_of : TimedProgram → List StFuncTree
instances_of whole = st_func_trees whole.program.now

-- a program whose operators fit, with its arrivals and its slacks
pub record IsTimedProgram (whole : TimedProgram) : Type 0 where
  pub timed : IsTimed (instances_of whole) whole.timing.now.arrivals
  pub slacks : AreSlacks (instances_of whole) whole.slacks.now

-- instance number k, so light that each of its items arrives early enough (no item arrives later than the load)
pub record IsLight (instances : List StFuncTree) (k at : ℕ) (s : StFuncTree) : Type 0 where
  pub found : slice_get instances k ≡ Some s
  pub early : at + (instance_costs instances k).load ≤ 100000

-- ---- nodes

-- the nodes of an instance, and the arrivals of its items
abbrev pub timings_in : List StFuncTree → (k : ℕ) → StFuncTree → List NodeTiming
timings_in instances k s = node_timings (all_costs (take k instances)) s

abbrev pub arrivals_in : List StFuncTree → (k : ℕ) → StFuncTree → List ℕ
arrivals_in instances k s = arrivals_of s.ins (timings_in instances k s)

-- node j of instance number k, and its timing
pub record IsNodeAt (instances : List StFuncTree) (k j : ℕ) (s : StFuncTree) (n : StNodeTree)
    (t : NodeTiming) : Type 0 where
  pub func : slice_get instances k ≡ Some s
  pub node : slice_get s.nodes j ≡ Some n
  pub timing : slice_get (timings_in instances k s) j ≡ Some t

-- ---- bodies

-- the nets of one of so many lanes
abbrev pub lane_nets : (copies lane : ℕ) → List NetId → List NetId
lane_nets copies l nets = take (length nets / copies) (drop (l * (length nets / copies)) nets)

-- a body on each of so many lanes, whose blocks follow one another, so many with elements in so many rounds
abbrev pub bodies_part : (known : List Callee) → (f : StFuncTree) → (slots rounds copies latency : ℕ) → Part
bodies_part known f n rounds m d =
    plain_part (rounds * f.budget) d (map (elements_stream n m) f.ins) (elements_stream n m (callee known f).out)
    (mapped_by (callee known f).flow f.ins (n * m))
