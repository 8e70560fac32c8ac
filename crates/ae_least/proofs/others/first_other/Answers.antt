use Rattle.std.proofs.Common.{◌≡◌, true, false, map, rules}
use Rattle.ae_seq.specs.ProgramTree.{node_tree}
use Rattle.ae_trace.specs.Traces.{is_movement_op}
use Rattle.ae_least.specs.Others.{first_other}
use Rattle.ae_least.proofs.MovingLines.{others-here, others-next}
use Rattle.ae_least.proofs.others.first_other.Goals as goal

pub returns-then-not-moves : goal.returns-then-not-moves
returns-then-not-moves c =
    let n = node_tree c.node-item.result in
    let stays : is_movement_op n.op ≡ false = first_of (cc, search rules) in
    others-here c.args.nodes.now c.loop-node.node-index c.node-item.result
    (first_other (map node_tree c.args.nodes.now)) c.loop-node-test.true c.node-item.is c.loop-node.invariant stays

pub loop-node-preserved : goal.loop-node-preserved
loop-node-preserved c =
    let n = node_tree c.node-item.result in
    let moves : is_movement_op n.op ≡ true = first_of (cc, search rules) in
    others-next c.args.nodes.now c.loop-node.node-index c.node-item.result
    (first_other (map node_tree c.args.nodes.now)) c.loop-node-test.true c.node-item.is c.loop-node.invariant moves
