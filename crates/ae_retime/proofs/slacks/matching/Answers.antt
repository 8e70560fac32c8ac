use Rattle.std.proofs.Common.{ap}
use Rattle.ae_rewrite.specs.StProgramTree.{st_func_tree, st_func_trees}
use Rattle.ae_retime.specs.Slacks.{argument_slacks, arrivals_in, item_chains, joint_slacks}
use Rattle.ae_retime.proofs.Lists.{by_more, matched, met_at, met_many, told_at, told_many, tree_at}
use Rattle.ae_retime.proofs.slacks.matching.Goals as goal

pub arrivals_of-requires : goal.arrivals_of-requires
arrivals_of-requires c = told_many c.args.p.now c.args.a.now c.count-count.result c.loop-k.k c.requires c.count-count.ensures.count c.loop-k-test.true

pub met_in-requires : goal.met_in-requires
met_in-requires c = met_many c.args.p.now c.args.a.now c.loop-k.k c.instance.result.now c.requires c.instance.ensures

pub add_func-requires : goal.add_func-requires
add_func-requires c =
    let told = told_at c.args.p.now c.args.a.now c.loop-k.k c.instance.result.now c.arrivals_of.result.now c.count-count.ensures.sound c.requires
    c.instance.ensures c.arrivals_of.ensures in
    let met = met_at c.args.p.now c.args.a.now c.loop-k.k c.instance.result.now c.arrivals_of.result.now c.met_in.result.now c.requires
    c.instance.ensures told.is c.met_in.ensures in
    record { uses = told.uses; long = told.long; meets = met }

pub loop-k-preserved : goal.loop-k-preserved
loop-k-preserved c =
    let instances = st_func_trees c.args.p.now in
    let s = st_func_tree c.instance.result.now in
    let there = tree_at c.args.p.now c.loop-k.k c.instance.result.now c.instance.ensures in
    let told = told_at c.args.p.now c.args.a.now c.loop-k.k c.instance.result.now c.arrivals_of.result.now c.count-count.ensures.sound c.requires
    c.instance.ensures c.arrivals_of.ensures in
    record {
      arguments = by_more (λ k u. argument_slacks (arrivals_in instances k u) u) instances c.loop-k.k s _ _ _ there c.loop-k.invariant.arguments
          c.in_ok-add_func.ensures.arguments (ap (λ xs. argument_slacks xs s) told.is);
      chains = by_more (λ k u. item_chains (arrivals_in instances k u) u) instances c.loop-k.k s _ _ _ there c.loop-k.invariant.chains
          c.in_ok-add_func.ensures.chains (ap (λ xs. item_chains xs s) told.is);
      results = by_more (λ k u. joint_slacks (arrivals_in instances k u) u.results) instances c.loop-k.k s _ _ _ there c.loop-k.invariant.results
          c.in_ok-add_func.ensures.results (ap (λ xs. joint_slacks xs s.results) told.is);
    }

pub returns : goal.returns
returns c =
    matched c.args.p.now c.count-count.result c.loop-k.k _ c.count-count.ensures.count c.loop-k-test.false c.loop-k.auto.k-end c.loop-k.invariant.arguments
    c.loop-k.invariant.chains c.loop-k.invariant.results
