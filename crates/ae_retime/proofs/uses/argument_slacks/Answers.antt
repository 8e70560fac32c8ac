use Rattle.std.proofs.Common.{ap, ◌∙◌, ◌∷◌, [], ◌<◌, length, map, refl, arith}
use Rattle.std.proofs.lemmas.List.{length-map, map-append, take_all}
use Rattle.ae_rewrite.specs.StProgramTree.{StNodeTree, st_func_tree, st_node_tree}
use Rattle.ae_delay.proofs.Instances.{node_here}
use Rattle.ae_retime.specs.Slacks.{joint_slacks}
use Rattle.ae_retime.proofs.Lists.{meets_at, meets_long, slacks_next}
use Rattle.ae_retime.proofs.uses.argument_slacks.Goals as goal

pub bounds-meets-j : goal.bounds-meets-j
bounds-meets-j c =
    omega (
      arith,
      meets_long c.args.arrivals.now c.args.s.now c.args.meets.now
          c.requires.meets,
      c.loop-j-test.true,
      c.len-j-end.ensures,
      c.args.s.now.nodes.ok,
    )

pub joint_slacks-requires-clause-below : goal.joint_slacks-requires-clause-below
joint_slacks-requires-clause-below c = λ r a f.
    let inside : c.loop-j.j < length c.args.s.now.nodes.items = omega (arith, c.loop-j-test.true, c.len-j-end.ensures, c.args.s.now.nodes.ok) in
    let at = node_here c.args.s.now c.args.s.now.nodes.items c.loop-j.j c.index-node.result.now refl inside c.index-node.ensures in
    c.requires.uses.nodes c.loop-j.j (st_node_tree c.index-node.result.now) at r a (rw c.deref.ensures.value at f)

pub joint_slacks-requires-clause-most : goal.joint_slacks-requires-clause-most
joint_slacks-requires-clause-most c =
    let inside : c.loop-j.j < length c.args.s.now.nodes.items = omega (arith, c.loop-j-test.true, c.len-j-end.ensures, c.args.s.now.nodes.ok) in
    let at = node_here c.args.s.now c.args.s.now.nodes.items c.loop-j.j c.index-node.result.now refl inside c.index-node.ensures in
    meets_at c.args.arrivals.now (st_func_tree c.args.s.now) c.args.meets.now c.loop-j.j (st_node_tree c.index-node.result.now) c.deref.result.now
    c.requires.meets at c.deref.ensures.value

pub loop-j-preserved : goal.loop-j-preserved
loop-j-preserved c =
    let inside : c.loop-j.j < length c.args.s.now.nodes.items = omega (arith, c.loop-j-test.true, c.len-j-end.ensures, c.args.s.now.nodes.ok) in
    let at = node_here c.args.s.now c.args.s.now.nodes.items c.loop-j.j c.index-node.result.now refl inside c.index-node.ensures in
    slacks_next c.args.arrivals.now (st_func_tree c.args.s.now).nodes c.loop-j.j (st_node_tree c.index-node.result.now) c.deref.result.now
    c.in_ok-joint_slacks.field-0.items (map (λ x. x.items) c.loop-j.slacks.items) _ at c.deref.ensures.value c.in_ok-joint_slacks.ensures
    (ap (map (λ x. x.items)) c.in_ok-push.ensures.items ∙ map-append (λ x. x.items) c.loop-j.slacks.items (c.in_ok-joint_slacks.field-0 ∷ []))
    c.loop-j.invariant

pub returns : goal.returns
returns c =
    c.loop-j.invariant
    ∙ ap (map (λ (n : StNodeTree). joint_slacks c.args.arrivals.now n.args))
    (take_all c.loop-j.j (st_func_tree c.args.s.now).nodes
    (omega (arith, c.loop-j-test.false, c.len-j-end.ensures, c.args.s.now.nodes.ok, length-map c.args.s.now.nodes.items st_node_tree)))
