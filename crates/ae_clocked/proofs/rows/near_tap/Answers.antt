-- The last register of a chain.
use Rattle.std.proofs.Common.{length, arith, refl}
use Rattle.std.proofs.lemmas.Option.{slice_get_read}
use Rattle.ae_clocked.proofs.Late.{late_taps}
use Rattle.ae_clocked.proofs.rows.near_tap.Goals as goal

pub index-requires : goal.index-requires
index-requires c = omega (arith, c.in_ok-nets.ensures.long)

pub returns-clause-tap : goal.returns-clause-tap
returns-clause-tap c = λ rst.
    let net = c.in_ok-nets.ensures.delays.each c.args.delay c.index.result.now
    (slice_get_read c.in_ok-nets.nets.items (length c.in_ok-nets.nets.items) c.args.delay c.index.result.now refl
    (omega (arith, c.in_ok-nets.ensures.long)) c.index.ensures) in
    rw (← c.width_at-width.ensures) (late_taps _ _ _ _ _ _ net)
