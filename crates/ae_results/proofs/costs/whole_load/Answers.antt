use Rattle.std.proofs.Common.{◌∙◌, ap, arith, sum_by}
use Rattle.std.proofs.lemmas.List.{take_all}
use Rattle.std.proofs.lemmas.Option.{slice_get-get_or}
use Rattle.ae_results.specs.Results.{own_load}
use Rattle.ae_results.proofs.CostSteps.{no-costs, sum-more}
use Rattle.ae_results.proofs.costs.whole_load.Goals as goal

pub own_load-load-requires-clause-light : goal.own_load-load-requires-clause-light
own_load-load-requires-clause-light c =
    c.requires.light c.loop-own.own-index _ (slice_get-get_or c.args.costs.now c.loop-own.own-index no-costs c.loop-own-test.true)

pub loop-own-preserved : goal.loop-own-preserved
loop-own-preserved c = record {
  sum = omega (
    arith,
    sum-more (own_load c.args.whole) c.args.costs.now c.loop-own.own-index no-costs c.loop-own-test.true,
    c.own_load-load.ensures.load,
    c.loop-own.invariant.sum,
  );
  most = omega (arith, c.loop-own.invariant.most, c.own_load-load.ensures.most);
}

pub returns : goal.returns
returns c =
    c.loop-own.invariant.sum ∙ ap (sum_by (own_load c.args.whole)) (take_all c.loop-own.own-index c.args.costs.now (omega (arith, c.loop-own-test.false)))
