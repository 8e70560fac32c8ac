-- A part that does what a node does keeps the law of the node, within its costs.
use Rattle.std.proofs.Common.{ℕ, ◌≡◌, ◌+◌, ◌≤◌, List, [], length, map, arith, sym, subst, ◌*◌, slice_get}
use Rattle.std.specs.Prelude.{unwrap_or}
use Rattle.ae_netlist.specs.declared.cell.NetId.{NetId}
use Rattle.ae_netlist.specs.declared.cell.SizedCell.{SizedCell}
use Rattle.ae_netlist.specs.Circuit.{Circuit}
use Rattle.ae_netlist.specs.Counts.{AreWhole, count_of, is_memory, is_mul}
use Rattle.ae_gates.specs.Cells.{Grows}
use Rattle.ae_ops.specs.Waves.{Wave, AreNets}
use Rattle.ae_ops.specs.Blocks.{Stream, Part, BlockLaw, AllAreWords, AreBundles, KeepsLaw, stream_widths}
use Rattle.ae_rewrite.specs.StProgramTree.{StOpTree, StNodeTree, StFuncTree}
use Rattle.ae_rewrite.specs.Sound.{item_layout, item_layouts}
use Rattle.ae_flow.specs.Flow.{Callee}
use Rattle.ae_ports.specs.Ports.{streams_of}
use Rattle.ae_lower.specs.Parts.{plain_part}
use Rattle.ae_lower.specs.Growth.{AddsMulsAndMemories, GrowsBy, IsBuilt}
use Rattle.ae_lower.specs.Nodes.{IsNodePart, IsOpPart, arguments_of, node_part, plain_costs}
use Rattle.ae_netlist.specs.Room.{HasRoom}

-- parts that agree on words of their inputs keep the same law
pub law_as : (clocks a t d : ℕ) (ins : List Stream) (out : Stream) (means : List (List ℕ) → List ℕ) (p : Part) (waves : List Wave) (wave : Wave)
    → p.period ≡ t → p.latency ≡ d → p.ins ≡ ins → p.out ≡ out → ((vs : List (List ℕ)) → AllAreWords p.ins vs → p.means vs ≡ means vs)
    → BlockLaw clocks a p waves wave → BlockLaw clocks a (plain_part t d ins out means) waves wave
law_as clocks a t d ins out means p waves wave et ed ei eo same law = record {
  makes = λ b vs ends words holds.
      let given : AllAreWords p.ins vs = rw ei words in
      let made = law.makes b vs (rw (et, ed) ends) given (rw (et, ei) holds) in
      rw (← et, ← ed, ← eo, ← same vs given) made;
}

pub node_bundles : (cells : List SizedCell) (s : StFuncTree) (n : StNodeTree) (p : Part) (args : List (List NetId))
    → ((known : List Callee) → IsNodePart known s n p)
    → AreBundles cells (streams_of (arguments_of s n)) args → AreBundles cells p.ins args
node_bundles cells s n p args does h = subst (λ ss. AreBundles cells ss args) (sym (does []).ins) h

pub node_grows : (old new : Circuit) (s : StFuncTree) (n : StNodeTree) (p : Part) → ((known : List Callee) → IsNodePart known s n p)
    → Grows old new → length new.cells ≤ length old.cells + p.most_cells → GrowsBy old new (plain_costs s n).load
node_grows old new s n p does grows few = record { grows = grows; cells = omega (arith, few, (does []).cells) }

pub node_room : (nl : Circuit) (s : StFuncTree) (n : StNodeTree) (p : Part) → ((known : List Callee) → IsNodePart known s n p)
    → HasRoom nl (16 * (plain_costs s n).load) → HasRoom nl p.most_cells
node_room nl s n p does room = omega (arith, room, (does []).cells)

pub node_adds : (old new : Circuit) (s : StFuncTree) (n : StNodeTree) (p : Part) → ((known : List Callee) → IsNodePart known s n p)
    → count_of is_mul new.cells ≡ count_of is_mul old.cells + p.products → count_of is_memory new.cells ≤ count_of is_memory old.cells + p.most_memories
    → (AreWhole old.cells → AreWhole new.cells) → AddsMulsAndMemories old new (plain_costs s n).muls (plain_costs s n).mems
node_adds old new s n p does muls memories whole =
    record { muls = omega (arith, muls, (does []).products); memories = omega (arith, memories, (does []).memories); whole = whole }

pub node_built : (new : Circuit) (rst at : ℕ) (s : StFuncTree) (n : StNodeTree) (p : Part) (args : List (List NetId)) (y : List NetId)
    → ((known : List Callee) → IsNodePart known s n p) → AreNets new.cells (stream_widths p.out) y → KeepsLaw new.cells rst at p args y
    → (known : List Callee) → IsBuilt new rst at (node_part known (plain_costs s n).latency s n) args y
node_built new rst at s n p args y does there keeps known = record {
  nets = subst (λ o. AreNets new.cells (stream_widths o) y) (does known).out there;
  law = λ all e run r start reset. law_as _ at _ _ _ _ _ p _ _ (does known).period (does known).latency (does known).ins (does known).out
      (does known).means (keeps all e run r start reset);
}

-- ---- a node with this operator on these items

pub of_node : (known : List Callee) (s : StFuncTree) (n : StNodeTree) (items : List ℕ) (op : StOpTree) (p : Part) → n.op ≡ op → n.args ≡ items
    → IsOpPart known s.budget n.copies (map (item_layout (item_layouts s)) items) (item_layout (item_layouts s) (unwrap_or (slice_get items 0) 0))
    n.type op p
    → IsNodePart known s n p
of_node known s n items op p eo ea h =
    let P : StOpTree → List ℕ → Type 0 = λ o xs. IsOpPart known s.budget n.copies (map (item_layout (item_layouts s)) xs)
    (item_layout (item_layouts s) (unwrap_or (slice_get xs 0) 0)) n.type o p in
    subst (λ o. P o n.args) (sym eo) (subst (λ xs. P op xs) (sym ea) h)
