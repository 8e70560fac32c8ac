-- One layout more in each turn.
use Rattle.std.proofs.Common.{◌≡◌, Some, slice_get, false, refl, ap, sym, ◌∙◌, arith}
use Rattle.std.proofs.lemmas.Option.{slice_get-get_or}
use Rattle.ae_netlist.proofs.Growing.{net_later}
use Rattle.ae_streamed.proofs.Bits.{constant_bit, in_turn}
use Rattle.ae_streamed.proofs.Counted.{some_cells, turn_cells, turn_fits}
use Rattle.ae_streamed.proofs.layouts.beat.Goals as goal

pub loop-k-init : goal.loop-k-init
loop-k-init c = record {
  gains = constant_bit _ _ _ _ false _ c.requires.belongs c.in_ok-any.ensures.adds.grows c.in_ok-any.ensures.net c.in_ok-any.ensures.words (λ k. refl);
  adds = c.in_ok-any.ensures.adds;
}

pub loop-k-preserved : goal.loop-k-preserved
loop-k-preserved c =
    let found : slice_get c.args.layouts.now c.loop-k.k ≡ Some c.index-layouts-k.result =
    slice_get-get_or c.args.layouts.now c.loop-k.k c.index-layouts-k.result c.loop-k-test.true ∙ ap Some (sym c.index-layouts-k.is) in
    record {
      gains = in_turn c.args.nl.now c.loop-k.nl c.slot_beat.new.nl c.either.new.nl c.args.clocks.now c.loop-k.clocks c.slot_beat.new.clocks c.loop-k.any.0
          c.in_ok-one.one.0 c.in_ok-any-2.any.0 c.args.slowdown c.args.offset c.args.layouts.now c.loop-k.k
          c.index-layouts-k.result found (c.requires.sizes c.loop-k.k c.index-layouts-k.result found).1 c.loop-k.invariant.gains c.in_ok-one.ensures.gains
          c.in_ok-any-2.ensures.adds.grows c.in_ok-any-2.ensures.told;
      adds = turn_cells c.loop-k.k c.args.layouts.now c.index-layouts-k.result found c.loop-k.invariant.adds c.in_ok-one.ensures.adds
          c.in_ok-any-2.ensures.adds;
    }

pub returns-clause-adds : goal.returns-clause-adds
returns-clause-adds c = some_cells c.loop-k.k c.args.layouts.now c.loop-k.invariant.adds

pub slot_beat-requires-clause-room : goal.slot_beat-requires-clause-room
slot_beat-requires-clause-room c =
    let found : slice_get c.args.layouts.now c.loop-k.k ≡ Some c.index-layouts-k.result =
    slice_get-get_or c.args.layouts.now c.loop-k.k c.index-layouts-k.result c.loop-k-test.true ∙ ap Some (sym c.index-layouts-k.is) in
    omega (
      arith,
      c.requires.room,
      c.loop-k.invariant.adds.cells,
      c.loop-k.invariant.adds.grows.limit,
      turn_fits c.loop-k.k c.args.layouts.now c.index-layouts-k.result found,
    )

pub either-requires-clause-room : goal.either-requires-clause-room
either-requires-clause-room c =
    let found : slice_get c.args.layouts.now c.loop-k.k ≡ Some c.index-layouts-k.result =
    slice_get-get_or c.args.layouts.now c.loop-k.k c.index-layouts-k.result c.loop-k-test.true ∙ ap Some (sym c.index-layouts-k.is) in
    omega (
      arith,
      c.requires.room,
      c.loop-k.invariant.adds.cells,
      c.loop-k.invariant.adds.grows.limit,
      c.in_ok-one.ensures.adds.cells,
      c.in_ok-one.ensures.adds.grows.limit,
      turn_fits c.loop-k.k c.args.layouts.now c.index-layouts-k.result found,
    )

pub either-requires-clause-left : goal.either-requires-clause-left
either-requires-clause-left c = net_later c.in_ok-one.ensures.gains.grows.extends c.loop-k.invariant.gains.told.net
