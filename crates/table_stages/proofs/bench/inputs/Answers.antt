use Rattle.std.proofs.Common.{arith, refl}
use Rattle.table_stages.proofs.Evenness.{even_more}
use Rattle.table_stages.proofs.Gaining.{gains_none, gains_trans}
use Rattle.table_stages.proofs.bench.inputs.Goals as goal

pub loop-lane-init : goal.loop-lane-init
loop-lane-init c = record {
  gains = gains_none _;
  nets = rw c.new-nets.ensures.items (record { long = refl; each = λ q l. absurd (omega (arith, l)) });
}

pub loop-lane-preserved : goal.loop-lane-preserved
loop-lane-preserved c = record {
  gains = gains_trans c.loop-lane.invariant.gains c.in_ok-net.ensures.gains;
  nets = rw c.in_ok-keep.ensures (even_more _ _ _ _ _ _ c.in_ok-net.ensures.gains.extends c.loop-lane.invariant.nets c.in_ok-net.ensures.net);
}
