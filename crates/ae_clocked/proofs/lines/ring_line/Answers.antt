-- The taps of a line, one after another.
use Rattle.std.proofs.Common.{ℕ, ◌≡◌, ◌+◌, ◌≤◌, ◌++◌, ◌∷◌, [], List, get_or, slice_get, Some, nat_lt, refl, arith}
use Rattle.std.proofs.lemmas.Option.{slice_get-get_or}
use Rattle.ae_clocked.specs.Delays.{AreDelays, IsTap}
use Rattle.ae_gates.proofs.Adding.{adds_most, adds_none, adds_trans, grows_trans, net_added}
use Rattle.ae_clocked.proofs.Belonging.{belongs_grows}
use Rattle.ae_clocked.proofs.Late.{below_greatest, taps_more, taps_none}
use Rattle.ae_clocked.specs.Rows.{AreLinks}
use Rattle.ae_clocked.proofs.InRow.{links_grow}
use Rattle.ae_clocked.proofs.Lining.{count_more, count_part, delays_grow, far_within, room, spare_taken, taps_grow}
use Rattle.std.proofs.lemmas.List.{take_all}
use Rattle.ae_clocked.proofs.lines.ring_line.Goals as goal

pub far_row-requires-clause-belongs : goal.far_row-requires-clause-belongs
far_row-requires-clause-belongs c = belongs_grows _ _ _ c.in_ok-nets.ensures.adds.grows c.requires.belongs

pub loop-tap-init : goal.loop-tap-init
loop-tap-init c = record {
  adds = adds_none _;
  registers = omega arith;
  tests = omega arith;
  belongs = c.in_ok-links.ensures.belongs;
  delays = delays_grow c.in_ok-links.ensures.adds.grows.extends c.in_ok-nets.ensures.delays;
  links = c.in_ok-links.ensures.links;
  taps = rw c.new-tapped.ensures.items (taps_none _ _ _ _);
}

pub tap_at-requires-clause-far : goal.tap_at-requires-clause-far
tap_at-requires-clause-far c = λ far.
    let small : get_or c.args.taps.now c.loop-tap.tap-index 0 ≤ c.greatest-most.result = rw c.greatest-most.ensures
    (below_greatest c.args.taps.now c.loop-tap.tap-index c.loop-tap-test.true) in
    rw c.deref-in-loop-tap.ensures.value (far_within c.greatest-most.result _ _ far small c.in_ok-links.ensures.long)

pub tap_at-requires-clause-links : goal.tap_at-requires-clause-links
tap_at-requires-clause-links c = λ far.
    let small : get_or c.args.taps.now c.loop-tap.tap-index 0 ≤ c.greatest-most.result = rw c.greatest-most.ensures
    (below_greatest c.args.taps.now c.loop-tap.tap-index c.loop-tap-test.true) in
    (c.args.clocks.now.rst, c.args.x.0, c.greatest-most.result, rw c.deref-in-loop-tap.ensures.value c.loop-tap.invariant.links, small)

pub loop-tap-preserved : goal.loop-tap-preserved
loop-tap-preserved c =
    let was = c.loop-tap.invariant in
    let more = c.in_ok-net.ensures in
    let taps : List ℕ = c.args.taps.now in
    let tap : ℕ = get_or taps c.loop-tap.tap-index 0 in
    let there : slice_get taps c.loop-tap.tap-index ≡ Some tap = slice_get-get_or taps c.loop-tap.tap-index 0 c.loop-tap-test.true in
    let count = count_more taps c.loop-tap.tap-index tap c.loop-tap-test.true refl in
    let delays : AreDelays c.loop-tap.nl.cells c.width_at-width.result c.args.x.0 c.deref.result.now = rw c.deref.ensures.value was.delays in
    let links : AreLinks c.loop-tap.nl.cells c.args.clocks.now.rst c.width_at-width.result c.args.x.0 c.greatest-most.result
    c.deref-in-loop-tap.result.now = rw c.deref-in-loop-tap.ensures.value was.links in
    let new : IsTap c.tap_at.new.nl.cells c.args.clocks.now.rst c.width_at-width.result c.args.x.0 tap c.in_ok-net.net.0 = more.tap c.args.clocks.now.rst
    c.args.x.0 c.greatest-most.result delays links in
    let pushed : c.push.new.self.items ≡ c.loop-tap.tapped.items ++ c.in_ok-net.net ∷ [] = c.in_ok-push.ensures.items in
    record {
      adds = adds_most _ (omega (arith, count)) (adds_trans was.adds more.adds);
      registers = omega (arith, spare_taken c.loop-tap.spare tap, was.registers, more.registers);
      tests = omega (arith, was.tests, more.tests);
      belongs = belongs_grows _ _ _ more.adds.grows was.belongs;
      delays = delays_grow more.adds.grows.extends was.delays;
      links = links_grow more.adds.grows.extends was.links;
      taps = rw pushed (taps_more _ _ _ _ _ taps _ tap _ (taps_grow more.adds.grows.extends was.taps) there new);
    }

pub chain-requires-clause-net : goal.chain-requires-clause-net
chain-requires-clause-net c = rw c.width_at-width.ensures c.requires.net

pub far_row-requires-clause-net : goal.far_row-requires-clause-net
far_row-requires-clause-net c = net_added c.in_ok-nets.ensures.adds (rw c.width_at-width.ensures c.requires.net)

pub tap_at-requires-clause-near : goal.tap_at-requires-clause-near
tap_at-requires-clause-near c = λ small.
    let most = c.nearest-near.ensures.each c.loop-tap.tap-index c.loop-tap-test.true small in
    rw c.deref.ensures.value (omega (arith, most, c.in_ok-nets.ensures.long))

pub tap_at-requires-clause-delays : goal.tap_at-requires-clause-delays
tap_at-requires-clause-delays c = (c.args.x.0, rw c.deref.ensures.value c.loop-tap.invariant.delays)

pub returns-clause-belongs : goal.returns-clause-belongs
returns-clause-belongs c = c.loop-tap.invariant.belongs

pub returns-clause-grows : goal.returns-clause-grows
returns-clause-grows c = grows_trans (grows_trans c.in_ok-nets.ensures.adds.grows c.in_ok-links.ensures.adds.grows) c.loop-tap.invariant.adds.grows

pub returns-clause-cells : goal.returns-clause-cells
returns-clause-cells c =
    let whole = take_all c.loop-tap.tap-index c.args.taps.now c.loop-tap-test.false in
    let taken = rw whole at c.loop-tap.invariant.adds.cells in
    rw (← c.greatest-most.ensures) (omega (
      arith,
      c.in_ok-nets.ensures.adds.cells,
      c.in_ok-links.ensures.adds.cells,
      taken,
      room c.nearest-near.result
          c.greatest-most.result c.nearest-near.ensures.below (rw c.greatest-most.ensures c.nearest-near.ensures.least),
    ))

pub returns-clause-muls : goal.returns-clause-muls
returns-clause-muls c = omega (arith, c.in_ok-nets.ensures.adds.muls, c.in_ok-links.ensures.adds.muls, c.loop-tap.invariant.adds.muls)

pub returns-clause-memories : goal.returns-clause-memories
returns-clause-memories c =
    rw (← c.greatest-most.ensures) (omega (arith, c.in_ok-nets.ensures.adds.memories, c.in_ok-links.ensures.adds.memories, c.loop-tap.invariant.adds.memories))

pub returns-clause-whole : goal.returns-clause-whole
returns-clause-whole c = λ h. c.loop-tap.invariant.adds.whole (c.in_ok-links.ensures.adds.whole (c.in_ok-nets.ensures.adds.whole h))

pub returns-clause-registers : goal.returns-clause-registers
returns-clause-registers c = omega (arith, c.in_ok-nets.ensures.registers, c.in_ok-links.ensures.registers, c.loop-tap.invariant.registers)

pub returns-clause-tests : goal.returns-clause-tests
returns-clause-tests c = omega (arith, c.in_ok-nets.ensures.tests, c.in_ok-links.ensures.tests, c.loop-tap.invariant.tests)

pub returns-clause-gained : goal.returns-clause-gained
returns-clause-gained c = c.in_ok-links.ensures.gained

pub returns-clause-keeps : goal.returns-clause-keeps
returns-clause-keeps c = c.in_ok-links.ensures.keeps

pub returns-clause-taps : goal.returns-clause-taps
returns-clause-taps c =
    let whole = take_all c.loop-tap.tap-index c.args.taps.now c.loop-tap-test.false in
    rw (← c.width_at-width.ensures) (rw whole at c.loop-tap.invariant.taps)

pub chain-requires-clause-room : goal.chain-requires-clause-room
chain-requires-clause-room c =
    let fits = room c.nearest-near.result c.greatest-most.result c.nearest-near.ensures.below (rw c.greatest-most.ensures c.nearest-near.ensures.least) in
    omega (arith, c.requires.room, fits, c.greatest-most.ensures)

pub far_row-requires-clause-room : goal.far_row-requires-clause-room
far_row-requires-clause-room c =
    let fits = room c.nearest-near.result c.greatest-most.result c.nearest-near.ensures.below (rw c.greatest-most.ensures c.nearest-near.ensures.least) in
    omega (arith, c.requires.room, fits, c.greatest-most.ensures, c.in_ok-nets.ensures.adds.cells, c.in_ok-nets.ensures.adds.grows.limit)

pub tap_at-requires-clause-room : goal.tap_at-requires-clause-room
tap_at-requires-clause-room c =
    let count = count_more c.args.taps.now c.loop-tap.tap-index _ c.loop-tap-test.true refl in
    let part = count_part (λ (t : ℕ). nat_lt 0 t) (c.loop-tap.tap-index + 1) c.args.taps.now in
    let fits = room c.nearest-near.result c.greatest-most.result c.nearest-near.ensures.below (rw c.greatest-most.ensures c.nearest-near.ensures.least) in
    omega (
      arith,
      c.requires.room,
      c.greatest-most.ensures,
      c.in_ok-nets.ensures.adds.cells,
      c.in_ok-nets.ensures.adds.grows.limit,
      c.in_ok-links.ensures.adds.cells,
      c.in_ok-links.ensures.adds.grows.limit,
      c.loop-tap.invariant.adds.cells,
      c.loop-tap.invariant.adds.grows.limit,
      count,
      part,
      fits,
    )
