use Rattle.std.proofs.Common.{map, arith}
use Rattle.ae_sttype.specs.StTree.{st_tree}
use Rattle.ae_moves.specs.declared.trip.Origin.TheVariants.{Word}
use Rattle.ae_moves.proofs.CodeLaws.{sizes_in, there_at, trips_all, trips_more}
use Rattle.ae_moves.proofs.layouts.all_trips.Goals as goal

pub trip_at-trip-requires-clause-sizes : goal.trip_at-trip-requires-clause-sizes
trip_at-trip-requires-clause-sizes c = sizes_in c.args.ins.now _ _ c.requires.moves

pub trip_at-trip-requires-clause-there : goal.trip_at-trip-requires-clause-there
trip_at-trip-requires-clause-there c = there_at _ _ c.args.source.now c.loop-o.o (Word 0 0 0) c.requires.moves c.loop-o-test.true

pub loop-o-preserved : goal.loop-o-preserved
loop-o-preserved c =
    let t = c.trip_at-trip.ensures in
    record {
      within = omega (arith, c.loop-o-test.true);
      trips = rw c.in_ok-push.ensures.items (trips_more (map st_tree c.args.ins.now) (st_tree c.args.out.now) c.args.source.now c.loop-o.o
          (Word 0 0 0) c.loop-o.trips.items c.trip_at-trip.result c.loop-o.invariant.trips c.loop-o-test.true t.clock t.column t.source);
    }

pub returns : goal.returns
returns c =
    trips_all _ _ c.args.source.now c.loop-o.o c.loop-o.trips.items c.requires.moves c.loop-o.invariant.within
    (omega (arith, c.loop-o-test.false)) c.loop-o.invariant.trips
