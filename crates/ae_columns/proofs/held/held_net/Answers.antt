-- The counter of the output's blocks, and the register that follows it.
use Rattle.std.proofs.Common.{ℕ, ◌≡◌, ◌+◌, ◌-◌, ◌%◌, ◌<◌, arith, ap, ◌∙◌}
use Rattle.std.proofs.lemmas.Nat.{mod_below}
use Rattle.std.proofs.Math.Nat.{mod-add-mod}
use Rattle.ae_netlist.specs.Circuit.{width_of}
use Rattle.ae_netlist.proofs.Growing.{net_later, net_width}
use Rattle.ae_gates.proofs.Added.{own_net}
use Rattle.ae_gates.proofs.Adding.{adds_trans}
use Rattle.ae_clocked.proofs.Belonging.{belongs_grows, phase_keeps}
use Rattle.ae_columns.specs.Held.{held_phase}
use Rattle.ae_columns.proofs.held.held_net.Goals as goal

pub width_at-width-requires : goal.width_at-width-requires
width_at-width-requires c = own_net (net_later c.in_ok-counter.ensures.adds.grows.extends c.requires.net)

pub returns-clause-adds : goal.returns-clause-adds
returns-clause-adds c = adds_trans c.in_ok-counter.ensures.adds c.in_ok-y.ensures.adds

pub hold-requires-clause-net : goal.hold-requires-clause-net
hold-requires-clause-net c = rw c.width_at-width.ensures (own_net (net_later c.in_ok-counter.ensures.adds.grows.extends c.requires.net))

pub hold-requires-clause-counter : goal.hold-requires-clause-counter
hold-requires-clause-counter c = (c.args.clocks.now.rst, c.in_ok-counter.ensures.counts)

pub returns-clause-belongs : goal.returns-clause-belongs
returns-clause-belongs c = belongs_grows _ _ _ c.in_ok-y.ensures.adds.grows c.in_ok-counter.ensures.belongs

pub returns-clause-keeps : goal.returns-clause-keeps
returns-clause-keeps c =
    phase_keeps _ _ _ c.in_ok-counter.counter c.in_ok-counter.ensures.rst c.in_ok-counter.ensures.keeps (λ n found. (c.in_ok-counter.ensures.again n found).2)

pub returns-clause-held : goal.returns-clause-held
returns-clause-held c =
    let t : ℕ = c.args.period in
    let wide : c.width_at-width.result ≡ width_of c.args.nl.now.cells c.args.x.0 = c.width_at-width.ensures ∙
    net_width (net_later c.in_ok-counter.ensures.adds.grows.extends c.requires.net) in
    let low : c.args.d % t < t = mod_below c.args.d t (omega arith) in
    let sum : c.args.clock + (t - c.args.d % t) ≡ c.args.clock + t - c.args.d % t = omega arith in
    let phase : (c.args.clock % t + (t - c.args.d % t)) % t ≡ held_phase t c.args.d c.args.clock = mod-add-mod c.args.clock t (t - c.args.d % t) ∙
    ap (λ n. n % t) sum in
    rw (← wide, ← phase, ← c.offset-begin.ensures) (c.in_ok-y.ensures.held c.args.clocks.now.rst c.in_ok-counter.ensures.counts)

pub hold-requires-clause-begins : goal.hold-requires-clause-begins
hold-requires-clause-begins c = rw c.offset-begin.ensures (mod_below _ _ c.requires.lasting)

pub hold-requires-clause-within : goal.hold-requires-clause-within
hold-requires-clause-within c = mod_below _ _ c.requires.lasting

pub returns-clause-counted : goal.returns-clause-counted
returns-clause-counted c = record {
  registers = omega (arith, c.in_ok-counter.ensures.registers, c.in_ok-y.ensures.counted.registers);
  tests = omega (arith, c.in_ok-counter.ensures.tests, c.in_ok-y.ensures.counted.tests);
}

pub hold-requires-clause-room : goal.hold-requires-clause-room
hold-requires-clause-room c = omega (arith, c.requires.room, c.in_ok-counter.ensures.adds.cells, c.in_ok-counter.ensures.adds.grows.limit)
