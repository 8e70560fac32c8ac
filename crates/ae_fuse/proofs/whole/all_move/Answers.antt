use Rattle.std.proofs.Common.{◌≡◌, true, false, rules}
use Rattle.ae_seq.specs.ProgramTree.{func_tree, node_tree}
use Rattle.ae_trace.specs.Traces.{are_movements, is_movement_op}
use Rattle.ae_fuse.proofs.WholeSteps.{movements-next, movements-not}
use Rattle.ae_fuse.proofs.whole.all_move.Goals as goal

pub returns-then-not-moves : goal.returns-then-not-moves
returns-then-not-moves c =
    let ns = (func_tree c.args.f.now).nodes in
    let n = node_tree c.node.result.now in
    let stays : is_movement_op n.op ≡ false = first_of (cc, search rules) in
    movements-not ns c.loop-k.k n (are_movements ns) c.node.ensures c.loop-k.invariant stays

pub loop-k-preserved : goal.loop-k-preserved
loop-k-preserved c =
    let ns = (func_tree c.args.f.now).nodes in
    let n = node_tree c.node.result.now in
    let moves : is_movement_op n.op ≡ true = first_of (cc, search rules) in
    movements-next ns c.loop-k.k n (are_movements ns) c.node.ensures c.loop-k.invariant moves
