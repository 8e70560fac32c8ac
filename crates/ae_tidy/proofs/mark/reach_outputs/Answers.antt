-- One output more is looked at.
use Rattle.std.proofs.Common.{◌<◌, length, arith}
use Rattle.ae_tidy.proofs.Marking.{grows_refl, grows_trans, outputs_none, outputs_more, outlet_within}
use Rattle.ae_tidy.specs.Needed.{IsNeeded}
use Rattle.ae_tidy.proofs.Needing.{only_refl, only_trans, only_output}
use Rattle.ae_tidy.proofs.mark.reach_outputs.Goals as goal

pub loop-k-init : goal.loop-k-init
loop-k-init c = record { all = c.outputs-k-end.ensures; grows = grows_refl _ _; only = only_refl (IsNeeded c.args.nl.now) _ _; outputs = outputs_none _ _ }

pub reach-requires : goal.reach-requires
reach-requires c =
    let l : c.outlet_at-outlet.result.net.0 < length c.args.nl.now.cells = outlet_within c.args.nl.now c.loop-k.k c.outlet_at-outlet.result
    c.formed.ensures.outlets c.outlet_at-outlet.ensures in
    omega (arith, c.loop-k.invariant.grows.long, c.requires)

pub loop-k-preserved : goal.loop-k-preserved
loop-k-preserved c = record {
  all = c.loop-k.invariant.all;
  grows = grows_trans c.loop-k.invariant.grows c.in_ok-reach.ensures.grows;
  only = only_trans c.loop-k.invariant.only (only_output c.loop-k.k c.outlet_at-outlet.result c.outlet_at-outlet.ensures c.in_ok-reach.ensures.only);
  outputs = outputs_more _ _ _ _ _ _ c.outlet_at-outlet.result c.in_ok-reach.ensures.grows c.outlet_at-outlet.ensures c.in_ok-reach.ensures.kept
      c.loop-k.invariant.outputs;
}
