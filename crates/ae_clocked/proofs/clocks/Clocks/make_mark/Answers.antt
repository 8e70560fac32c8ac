-- A mark is made and then kept.
use Rattle.std.proofs.Common.{◌≡◌, ap}
use Rattle.ae_clocked.specs.Phases.{IsPhaseMark, Kept}
use Rattle.ae_clocked.proofs.Belonging.{belongs_grows, belongs_marked}
use Rattle.ae_clocked.proofs.clocks.Clocks.make_mark.Goals as goal

pub marked-requires-clause-rst : goal.marked-requires-clause-rst
marked-requires-clause-rst c =
    let rst : c.self.inside.rst.0 ≡ c.args.self.now.rst = ap (λ (v : Kept). v.rst) c.self.view_is in
    rw rst c.requires.belongs.rst

pub marked-requires-clause-counter : goal.marked-requires-clause-counter
marked-requires-clause-counter c =
    let rst : c.self.inside.rst.0 ≡ c.args.self.now.rst = ap (λ (v : Kept). v.rst) c.self.view_is in
    rw rst c.requires.counter

pub returns-clause-mark : goal.returns-clause-mark
returns-clause-mark c =
    let rst : c.self.inside.rst.0 ≡ c.args.self.now.rst = ap (λ (v : Kept). v.rst) c.self.view_is in
    record { is_net = c.in_ok-y.ensures.net; words = rw rst at c.in_ok-y.ensures.marks }

pub returns-clause-belongs : goal.returns-clause-belongs
returns-clause-belongs c =
    let rst : c.self.inside.rst.0 ≡ c.args.self.now.rst = ap (λ (v : Kept). v.rst) c.self.view_is in
    let made : IsPhaseMark c.marked.new.nl.cells c.args.self.now.rst c.args.mark c.in_ok-y.y.0 =
    record { is_net = c.in_ok-y.ensures.net; words = rw rst at c.in_ok-y.ensures.marks } in
    belongs_marked c.args.self.now c.keep_mark.new.self _ _ _ c.in_ok-keep_mark.ensures.rst c.in_ok-keep_mark.ensures.counters
    c.in_ok-keep_mark.ensures.kept (belongs_grows _ _ _ c.in_ok-y.ensures.adds.grows c.requires.belongs) made
