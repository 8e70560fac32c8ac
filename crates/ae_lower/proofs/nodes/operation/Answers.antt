use Rattle.std.proofs.Common.{ℕ, ◌≡◌, ◌<◌, length, Some, slice_get, refl}
use Rattle.std.proofs.lemmas.Option.{slice_get_read}
use Rattle.ae_rewrite.specs.StProgramTree.{st_func_tree, st_node_tree}
use Rattle.ae_lower.proofs.Ready.{found_item, main_some, ready_some}
use Rattle.ae_lower.proofs.nodes.operation.Goals as goal

pub first_width-width-requires : goal.first_width-width-requires
first_width-width-requires c =
    let main : ℕ = c.main_place-main.result in
    let low : main < length c.args.node.now.args.items = rw c.main_place-main.ensures (main_some c.requires.ready.0 (st_func_tree c.args.s.now)
    (st_node_tree c.args.node.now) c.requires.ready.1 c.args.op c.requires.ready.2 c.requires.is) in
    let found : slice_get c.args.node.now.args.items main ≡ Some c.index.result.now =
    slice_get_read c.args.node.now.args.items (length c.args.node.now.args.items) main c.index.result.now refl low c.index.ensures in
    rw c.layout.ensures (found_item c.requires.ready.0 (st_func_tree c.args.s.now)
    (st_node_tree c.args.node.now) c.requires.ready.1 main c.index.result.now c.requires.ready.2 found).size

pub new-requires-clause-some : goal.new-requires-clause-some
new-requires-clause-some c = ready_some c.requires.ready.0 (st_func_tree c.args.s.now) (st_node_tree c.args.node.now) c.requires.ready.1 c.requires.ready.2
