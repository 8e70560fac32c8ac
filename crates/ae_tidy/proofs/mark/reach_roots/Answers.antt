-- One cell more is looked at.
use Rattle.std.proofs.Common.{arith}
use Rattle.ae_tidy.proofs.Marking.{grows_refl, grows_trans, roots_none, roots_more}
use Rattle.ae_tidy.specs.Needed.{IsNeeded}
use Rattle.ae_tidy.proofs.Needing.{only_refl, only_trans, only_root}
use Rattle.ae_tidy.proofs.mark.reach_roots.Goals as goal

pub loop-n-init : goal.loop-n-init
loop-n-init c = record { all = c.len-n-end.ensures; grows = grows_refl _ _; only = only_refl (IsNeeded c.args.nl.now) _ _; roots = roots_none _ _ }

pub reach_root-requires : goal.reach_root-requires
reach_root-requires c = omega (arith, c.loop-n.invariant.grows.long, c.loop-n.invariant.all, c.requires)

pub loop-n-preserved : goal.loop-n-preserved
loop-n-preserved c = record {
  all = c.loop-n.invariant.all;
  grows = grows_trans c.loop-n.invariant.grows c.in_ok-reach_root.ensures.grows;
  only = only_trans c.loop-n.invariant.only (only_root c.loop-n.n c.cell_at-sized.result c.cell_at-sized.ensures c.in_ok-reach_root.ensures.only);
  roots = roots_more _ _ _ _ _ _ c.cell_at-sized.result c.in_ok-reach_root.ensures.grows c.cell_at-sized.ensures c.in_ok-reach_root.ensures.kept
      c.loop-n.invariant.roots;
}
