-- A node as a part of a circuit.
use Rattle.std.specs.Prelude.{◌≡◌, ℕ, ◌*◌, ◌<◌, ◌≤◌, List, [], length, map, Some, slice_get, get_or, unwrap_or}
use Rattle.ae_sttype.specs.StTree.{StTree, lanes, element_words}
use Rattle.ae_netlist.specs.declared.cell.NetId.{NetId}
use Rattle.ae_netlist.specs.declared.cell.SizedCell.{SizedCell}
use Rattle.ae_ops.specs.Blocks.{AllAreWords, AreBundles, Part, stream_of}
use Rattle.ae_gather.specs.Gathers.{Layouts, gather_part, move_of}
use Rattle.ae_fold.specs.Shapes.{FoldShape}
use Rattle.ae_reduce.specs.Reduces.{reduce_part}
use Rattle.ae_rewrite.specs.StProgramTree.{StNodeTree, StFuncTree, StOpTree, word, join, first, second, fixed, move, fold, scan, body}
use Rattle.ae_rewrite.specs.Scheduled.{IsFilling, AreFilling}
use Rattle.ae_rewrite.specs.Sound.{IsSoundOp, item_layout, item_layouts}
use Rattle.ae_delay.specs.declared.own.OwnCosts.{OwnCosts}
use Rattle.ae_delay.specs.OwnCosts.{op_costs}
use Rattle.ae_delay.specs.Costs.{node_costs}
use Rattle.ae_flow.specs.Flow.{Callee, op_words}
use Rattle.ae_flow.specs.Fitted.{FitsNode}
use Rattle.ae_ports.specs.Ports.{streams_of}
use Rattle.ae_lower.specs.Parts.{plain_part, part_behind}
use Rattle.ae_lower.specs.Wiring.{ArePairs, AreParts}

-- the layouts of a node's arguments
abbrev pub arguments_of : StFuncTree → StNodeTree → List StTree
arguments_of s n = map (item_layout (item_layouts s)) n.args

-- a node as a part
abbrev pub node_part : (known : List Callee) (latency : ℕ) → StFuncTree → StNodeTree → Part
node_part known d s n =
    plain_part s.budget d (streams_of (arguments_of s n)) (stream_of n.type)
    (op_words known (arguments_of s n) n.type n.op)

-- a node calls no other instance
abbrev pub CallsNothing : StOpTree → Type 0
CallsNothing (word op) = Unit {0}
CallsNothing join = Unit {0}
CallsNothing first = Unit {0}
CallsNothing second = Unit {0}
CallsNothing (fixed ws) = Unit {0}
CallsNothing (move how) = Unit {0}
CallsNothing (fold op slots lanes raw) = Unit {0}
CallsNothing (scan op slots lanes) = Unit {0}
CallsNothing (body k) = ⊥

-- what a node that calls nothing costs
abbrev pub plain_costs : StFuncTree → StNodeTree → OwnCosts
plain_costs s n = node_costs [] (item_layouts s) n

-- a node that fits, whose arguments stand on these bundles
pub record IsReady (cells : List SizedCell) (s : StFuncTree) (n : StNodeTree) (args : List (List NetId)) : Type 0 where
  pub items : AreFilling s.budget (item_layouts s)
  pub below : (i a : ℕ) → slice_get n.args i ≡ Some a → a < length (item_layouts s)
  pub layout : IsFilling s.budget n.type
  pub fits : (before : List StFuncTree) × FitsNode before s n
  pub sound : (k : ℕ) × IsSoundOp k s.budget (arguments_of s n) n.type n.op
  pub bundles : AreBundles cells (streams_of (arguments_of s n)) args

-- the same, wherever its arguments stand
abbrev pub IsReadyNode : StFuncTree → StNodeTree → Type 0
IsReadyNode s n = (cells : List SizedCell) × (args : List (List NetId)) × IsReady cells s n args

-- the words of each element of argument k
abbrev pub argument_words : StFuncTree → StNodeTree → (k : ℕ) → ℕ
argument_words s n k = element_words (item_layout (arguments_of s n) k)

-- on each lane, the nets of an element of the first argument and then those of the second
abbrev pub PairsArguments : StFuncTree → StNodeTree → (args : List (List NetId)) → (out : List NetId) → Type 0
PairsArguments s n args out =
    ArePairs (get_or args 0 []) (get_or args 1 []) (lanes n.type) (argument_words s n 0) (argument_words s n 1) out

-- on each lane, the nets of some words of an element of the argument, from one on
abbrev pub TakesWords : StFuncTree → StNodeTree → (from : ℕ) → (args : List (List NetId)) → (out : List NetId) → Type 0
TakesWords s n from args out =
    AreParts (get_or args 0 []) (lanes n.type) (argument_words s n 0) from (element_words n.type) out

-- a fold, and a move of its result
abbrev pub moved_fold : FoldShape → Layouts → Part
moved_fold f l = part_behind (reduce_part f) (gather_part (move_of l))

-- a part that does what an operator does, for what the operator costs
pub record IsOpPart (known : List Callee) (budget copies : ℕ) (args : List StTree) (arg s : StTree) (op : StOpTree)
    (p : Part) : Type 0 where
  pub period : p.period ≡ budget
  pub latency : p.latency ≡ (op_costs [] arg s copies op).latency
  pub ins : p.ins ≡ streams_of args
  pub out : p.out ≡ stream_of s
  pub means : (vs : List (List ℕ)) → AllAreWords p.ins vs → p.means vs ≡ op_words known args s op vs
  pub cells : p.most_cells ≤ 16 * (op_costs [] arg s copies op).load
  pub products : p.products ≡ (op_costs [] arg s copies op).muls
  pub memories : p.most_memories ≤ (op_costs [] arg s copies op).mems

abbrev pub IsNodePart : (known : List Callee) → StFuncTree → StNodeTree → Part → Type 0
IsNodePart known s n p =
    IsOpPart known s.budget n.copies (arguments_of s n)
    (item_layout (item_layouts s) (unwrap_or (slice_get n.args 0) 0)) n.type n.op p
