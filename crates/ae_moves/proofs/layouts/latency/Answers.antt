use Rattle.std.proofs.Common.{map, arith}
use Rattle.ae_sttype.specs.StTree.{st_tree}
use Rattle.ae_moves.specs.declared.trip.Origin.TheVariants.{Word}
use Rattle.ae_moves.proofs.CodeLaws.{latency_all, latency_more, sizes_in, there_at}
use Rattle.ae_moves.proofs.layouts.latency.Goals as goal

pub lead-requires-clause-sizes : goal.lead-requires-clause-sizes
lead-requires-clause-sizes c = sizes_in c.args.ins.now _ _ c.requires

pub lead-requires-clause-there : goal.lead-requires-clause-there
lead-requires-clause-there c = there_at _ _ c.args.source.now c.loop-o.o (Word 0 0 0) c.requires c.loop-o-test.true

pub loop-o-preserved : goal.loop-o-preserved
loop-o-preserved c = record {
  within = omega (arith, c.loop-o-test.true);
  most = latency_more (map st_tree c.args.ins.now) (st_tree c.args.out.now) c.args.source.now c.loop-o.o _ _ _
      (Word 0 0 0) c.loop-o.invariant.most c.loop-o-test.true c.lead.ensures (omega (arith, c.max-most.ensures));
}

pub returns : goal.returns
returns c = latency_all _ _ c.args.source.now c.loop-o.o _ c.requires c.loop-o.invariant.within (omega (arith, c.loop-o-test.false)) c.loop-o.invariant.most
