-- A counter that was made is kept, and the others go on.
use Rattle.std.proofs.Common.{◌≡◌, ap, arith}
use Rattle.ae_clocked.specs.Phases.{Kept, IsCounter}
use Rattle.ae_clocked.proofs.Belonging.{belongs_grows, belongs_more, counter_made}
use Rattle.ae_clocked.proofs.clocks.Clocks.phase.Goals as goal

pub returns-clause-counts : goal.returns-clause-counts
returns-clause-counts c =
    let rst : c.self.inside.rst.0 ≡ c.args.self.now.rst = ap (λ (v : Kept). v.rst) c.self.view_is in
    rw (← rst)
    (counter_made _ _ _ _ _ _ _ _ _ c.from.ensures c.from-2.ensures c.requires.low c.width_for-width.ensures.holds c.in_ok-net.ensures.net
    c.in_ok-net.ensures.words)

pub returns-clause-belongs : goal.returns-clause-belongs
returns-clause-belongs c =
    let rst : c.self.inside.rst.0 ≡ c.args.self.now.rst = ap (λ (v : Kept). v.rst) c.self.view_is in
    let made : IsCounter c.counter.new.nl.cells c.args.self.now.rst (record { period = c.args.period; offset = c.args.offset }) c.in_ok-net.net.0 =
    rw (← rst)
    (counter_made _ _ _ _ _ _ _ _ _ c.from.ensures c.from-2.ensures c.requires.low c.width_for-width.ensures.holds c.in_ok-net.ensures.net
    c.in_ok-net.ensures.words) in
    belongs_more c.args.self.now c.keep.new.self _ _ _ c.in_ok-keep.ensures.rst c.in_ok-keep.ensures.marks c.in_ok-keep.ensures.kept
    (belongs_grows _ _ _ c.in_ok-net.ensures.adds.grows c.requires.belongs) made

pub counter-requires-clause-rst : goal.counter-requires-clause-rst
counter-requires-clause-rst c =
    let rst : c.self.inside.rst.0 ≡ c.args.self.now.rst = ap (λ (v : Kept). v.rst) c.self.view_is in
    rw rst c.requires.belongs.rst

pub counter-requires-clause-last : goal.counter-requires-clause-last
counter-requires-clause-last c = omega (arith, c.from.ensures, c.width_for-width.ensures.holds.enough)

pub counter-requires-clause-first : goal.counter-requires-clause-first
counter-requires-clause-first c = omega (arith, c.from-2.ensures, c.width_for-width.ensures.holds.enough)

pub returns-clause-adds : goal.returns-clause-adds
returns-clause-adds c = c.in_ok-net.ensures.adds

pub returns-clause-keeps : goal.returns-clause-keeps
returns-clause-keeps c = c.in_ok-keep.ensures.kept
