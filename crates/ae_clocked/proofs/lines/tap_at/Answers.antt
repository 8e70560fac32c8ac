-- A near tap is a net of the chain.
use Rattle.std.proofs.lemmas.Option.{slice_get-get_or}
use Rattle.ae_clocked.proofs.Late.{late_taps}
use Rattle.ae_clocked.proofs.lines.tap_at.Goals as goal

pub returns-then-tap-lt8-clause-tap : goal.returns-then-tap-lt8-clause-tap
returns-then-tap-lt8-clause-tap c =
    λ rst x reach delays links. late_taps _ _ _ _ _ _ (delays.each c.args.tap _
    (slice_get-get_or c.args.nets.now c.args.tap _ (c.requires.near c.if-tap-lt8.true)))
