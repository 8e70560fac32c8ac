use Rattle.std.proofs.Common.{arith, ◌∙◌}
use Rattle.ae_netlist.proofs.Growing.{extends_trans}
use Rattle.bench_calls.proofs.Lanes.{lanes_more}
use Rattle.bench_calls.proofs.moving.inputs.Goals as goal

pub loop-lane-preserved : goal.loop-lane-preserved
loop-lane-preserved c = record {
  extends = extends_trans c.loop-lane.invariant.extends c.input.ensures.extends;
  cells = omega (arith, c.loop-lane.invariant.cells, c.input.ensures.cells);
  limit = c.input.ensures.limit ∙ c.loop-lane.invariant.limit;
  lanes = rw c.in_ok-keep.ensures (lanes_more _ _ _ _ _ c.input.ensures.extends c.loop-lane.invariant.lanes c.in_ok-net.ensures.net);
}
