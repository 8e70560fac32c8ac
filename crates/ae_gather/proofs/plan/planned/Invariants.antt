use Rattle.std.proofs.Common.{◌≤◌, length, map, sum_by}
use Rattle.ae_moves.specs.Trees.{trip_tree}
use Rattle.ae_gather.proofs.Planning.{Planned}
use Rattle.ae_gather.proofs.Counting.{Counted}
use Rattle.ae_gather.proofs.Delays.{AreAges}
use Rattle.ae_gather.proofs.plan.planned.Given as goal

abbrev pub invariant-loop-trip : goal.invariant-loop-trip
invariant-loop-trip l = record {
  plan : Planned l.d l.ins l.outs l.trips l.trip-index l.lines.items l.columns.items;
  runs : Counted l.d (map trip_tree l.trips) l.trip-index l.columns.items;
  ages : AreAges l.d l.trips l.lines.items;
  taps : sum_by length l.lines.items ≤ sum_by length l.columns.items;
}
