use Rattle.std.proofs.Common.{length}
use Rattle.ae_print.proofs.PrintLemmas.{node-below}
use Rattle.ae_print.proofs.printer.put_nodes.Goals as goal

pub put_node-requires-clause-below : goal.put_node-requires-clause-below
put_node-requires-clause-below c =
    node-below c.args.version c.args.bound (length c.args.params.now) c.args.nodes.now c.loop-node.node-index c.node-item.result c.loop-node-test.true
    c.node-item.is c.loop-node.invariant.formed
