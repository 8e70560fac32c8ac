use Rattle.ae_rewrite.specs.StProgramTree.{st_func_tree, st_node_tree}
use Rattle.ae_lower.proofs.Placing.{node_adds, node_built, node_bundles, node_grows, node_room}
use Rattle.ae_lower.proofs.nodes.place.Goals as goal

pub build-requires-clause-bundles : goal.build-requires-clause-bundles
build-requires-clause-bundles g c =
    node_bundles _ (st_func_tree c.args.s.now) (st_node_tree c.args.node.now) (g.S.Stage.part c.args.stage.now) _ c.requires.does c.requires.bundles

pub returns-clause-grows : goal.returns-clause-grows
returns-clause-grows g c =
    node_grows _ _ (st_func_tree c.args.s.now) (st_node_tree c.args.node.now)
    (g.S.Stage.part c.args.stage.now) c.requires.does c.in_ok-out.ensures.grows c.in_ok-out.ensures.cells

pub returns-clause-adds : goal.returns-clause-adds
returns-clause-adds g c =
    node_adds _ _ (st_func_tree c.args.s.now) (st_node_tree c.args.node.now)
    (g.S.Stage.part c.args.stage.now) c.requires.does c.in_ok-out.ensures.muls c.in_ok-out.ensures.memories c.in_ok-out.ensures.whole

pub returns-clause-built : goal.returns-clause-built
returns-clause-built g c =
    node_built _ _ _ (st_func_tree c.args.s.now) (st_node_tree c.args.node.now)
    (g.S.Stage.part c.args.stage.now) _ c.in_ok-out.out c.requires.does c.in_ok-out.ensures.bundle c.in_ok-out.ensures.law

pub build-requires-clause-room : goal.build-requires-clause-room
build-requires-clause-room g c =
    node_room c.args.nl.now (st_func_tree c.args.s.now) (st_node_tree c.args.node.now) (g.S.Stage.part c.args.stage.now) c.requires.does c.requires.room
