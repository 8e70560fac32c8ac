-- The ring of the row in whose reach the tap lies.
use Rattle.std.proofs.Common.{◌≡◌, ◌+◌, ◌-◌, ◌*◌, ◌/◌, arith}
use Rattle.ae_clocked.specs.declared.row.Link.{Link}
use Rattle.ae_clocked.proofs.InRow.{row_found, row_tap}
use Rattle.ae_clocked.proofs.row.far_tap.Goals as goal

abbrev none : Link
none = record { head = record { 0 = 0 }; ring = record { memory = record { 0 = 0 }; counter = record { 0 = 0 }; bits = 0 } }

pub ring_tap-requires-clause-some : goal.ring_tap-requires-clause-some
ring_tap-requires-clause-some c =
    let holds = c.requires.links.3.rings ((c.args.tap - 1) / 4096) _ (row_found c.args.links.now c.args.tap none c.requires.late c.requires.long) in
    omega (arith, holds.low)

pub ring_tap-requires-clause-few : goal.ring_tap-requires-clause-few
ring_tap-requires-clause-few c =
    let holds = c.requires.links.3.rings ((c.args.tap - 1) / 4096) _ (row_found c.args.links.now c.args.tap none c.requires.late c.requires.long) in
    holds.high

pub ring_tap-requires-clause-within : goal.ring_tap-requires-clause-within
ring_tap-requires-clause-within c =
    let holds = c.requires.links.3.rings ((c.args.tap - 1) / 4096) _ (row_found c.args.links.now c.args.tap none c.requires.late c.requires.long) in
    omega (arith, holds.reaches, c.requires.links.4)

pub ring_tap-requires-clause-memory : goal.ring_tap-requires-clause-memory
ring_tap-requires-clause-memory c =
    let holds = c.requires.links.3.rings ((c.args.tap - 1) / 4096) _ (row_found c.args.links.now c.args.tap none c.requires.late c.requires.long) in
    holds.memory

pub ring_tap-requires-clause-counter : goal.ring_tap-requires-clause-counter
ring_tap-requires-clause-counter c =
    let holds = c.requires.links.3.rings ((c.args.tap - 1) / 4096) _ (row_found c.args.links.now c.args.tap none c.requires.late c.requires.long) in
    holds.counter

pub returns-clause-tap : goal.returns-clause-tap
returns-clause-tap c =
    let sum : 4096 * ((c.args.tap - 1) / 4096) + (c.args.tap - 4096 * ((c.args.tap - 1) / 4096)) ≡ c.args.tap = omega arith in
    row_tap _ _ c.in_ok-y.y c.args.links.now _ c.args.width c.args.tap ((c.args.tap - 1) / 4096)
    (c.args.tap - 4096 * ((c.args.tap - 1) / 4096)) c.in_ok-y.ensures.adds.grows.extends
    (row_found c.args.links.now c.args.tap none c.requires.late c.requires.long) sum c.in_ok-y.ensures.tap
