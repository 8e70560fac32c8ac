use Rattle.std.proofs.Common.{ap, ◌∙◌, ◌<◌, length, replicate, refl, arith}
use Rattle.ae_rewrite.specs.StProgramTree.{st_func_tree, st_node_tree}
use Rattle.ae_delay.proofs.Chains.{length_deepened}
use Rattle.ae_delay.proofs.Instances.{node_here}
use Rattle.ae_retime.specs.Slacks.{joint_uses}
use Rattle.ae_retime.proofs.Lists.{chains_end, chains_next, meets_at, meets_long}
use Rattle.ae_retime.proofs.uses.item_chains.Goals as goal

pub bounds-meets-j : goal.bounds-meets-j
bounds-meets-j c =
    omega (
      arith,
      meets_long c.args.arrivals.now c.args.s.now c.args.meets.now
          c.requires.meets,
      c.loop-j-test.true,
      c.len-j-end.ensures,
      c.args.s.now.nodes.ok,
    )

pub deepen-requires-clause-below : goal.deepen-requires-clause-below
deepen-requires-clause-below c = λ r a f.
    let inside : c.loop-j.j < length c.args.s.now.nodes.items = omega (arith, c.loop-j-test.true, c.len-j-end.ensures, c.args.s.now.nodes.ok) in
    let at = node_here c.args.s.now c.args.s.now.nodes.items c.loop-j.j c.index-node.result.now refl inside c.index-node.ensures in
    rw c.loop-j.invariant.long (c.requires.uses.nodes c.loop-j.j (st_node_tree c.index-node.result.now) at r a (rw c.deref.ensures.value at f))

pub deepen-requires-clause-arrived : goal.deepen-requires-clause-arrived
deepen-requires-clause-arrived c = λ r a f.
    let inside : c.loop-j.j < length c.args.s.now.nodes.items = omega (arith, c.loop-j-test.true, c.len-j-end.ensures, c.args.s.now.nodes.ok) in
    let at = node_here c.args.s.now c.args.s.now.nodes.items c.loop-j.j c.index-node.result.now refl inside c.index-node.ensures in
    c.requires.uses.nodes c.loop-j.j (st_node_tree c.index-node.result.now) at r a (rw c.deref.ensures.value at f)

pub deepen-requires-clause-most : goal.deepen-requires-clause-most
deepen-requires-clause-most c =
    let inside : c.loop-j.j < length c.args.s.now.nodes.items = omega (arith, c.loop-j-test.true, c.len-j-end.ensures, c.args.s.now.nodes.ok) in
    let at = node_here c.args.s.now c.args.s.now.nodes.items c.loop-j.j c.index-node.result.now refl inside c.index-node.ensures in
    meets_at c.args.arrivals.now (st_func_tree c.args.s.now) c.args.meets.now c.loop-j.j (st_node_tree c.index-node.result.now) c.deref.result.now
    c.requires.meets at c.deref.ensures.value

pub loop-j-preserved : goal.loop-j-preserved
loop-j-preserved c =
    let inside : c.loop-j.j < length c.args.s.now.nodes.items = omega (arith, c.loop-j-test.true, c.len-j-end.ensures, c.args.s.now.nodes.ok) in
    let at = node_here c.args.s.now c.args.s.now.nodes.items c.loop-j.j c.index-node.result.now refl inside c.index-node.ensures in
    record {
      long = ap length c.deepen.ensures ∙ (length_deepened c.loop-j.chains.items (joint_uses c.args.arrivals.now c.deref.result.now) ∙ c.loop-j.invariant.long);
      chains = chains_next c.args.arrivals.now (st_func_tree c.args.s.now).nodes c.loop-j.j (st_node_tree c.index-node.result.now) c.deref.result.now
          (replicate (length c.args.arrivals.now) 0) c.loop-j.chains.items c.deepen.new.chains.items at c.deref.ensures.value c.deepen.ensures
          c.loop-j.invariant.chains;
    }

pub returns : goal.returns
returns c =
    chains_end c.args.arrivals.now c.args.s.now c.args.s.now.nodes.items c.loop-j.j c.deref-2.result.now c.loop-j.chains.items c.deepen-2.new.chains.items refl
    (omega (arith, c.loop-j-test.false, c.len-j-end.ensures, c.args.s.now.nodes.ok)) c.requires.long c.requires.uses c.deref-2.ensures.value
    c.loop-j.invariant.chains c.deepen-2.ensures
