-- The mark of a phase, at the clocks of blocks.
use Rattle.std.proofs.Common.{◌≡◌, ◌+◌, ◌%◌}
use Rattle.std.proofs.Math.Nat.{mod-add-mod}
use Rattle.ae_fold.proofs.Marking.{leads}
use Rattle.ae_fold.proofs.marks.lead.Goals as goal

pub returns-clause-words : goal.returns-clause-words
returns-clause-words c = λ all e run is start reset.
    let turn : (c.args.arrival % c.args.period + c.args.delay) % c.args.period ≡ (c.args.arrival + c.args.delay) % c.args.period = mod-add-mod c.args.arrival
    c.args.period c.args.delay in
    leads run start c.args.period (c.args.arrival + c.args.delay) c.args.inner _ c.requires.low
    (rw turn at (c.in_ok-y.ensures.marks all e run is start reset))
