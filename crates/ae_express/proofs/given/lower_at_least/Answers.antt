use Rattle.ae_vmodule.specs.Roots.{numbered}
use Rattle.std.proofs.Common.{arith}
use Rattle.ae_vmodule.specs.View.{expr_tree}
use Rattle.ae_order.proofs.SoundLaws.{sound_high}
use Rattle.ae_express.proofs.given.lower_at_least.Goals as goal

pub lower-requires-clause-high : goal.lower-requires-clause-high
lower-requires-clause-high c =
    let most = sound_high c.args.names.now.nets (expr_tree c.args.names.now.words (numbered c.args.e)) c.requires.sound in
    let own = c.in_ok-own.ensures.own in
    let wide = c.max-wide.ensures in
    omega arith

pub lower-requires-clause-widths : goal.lower-requires-clause-widths
lower-requires-clause-widths c = record { before = _; whole = c.in_ok-own.ensures.widths }

pub returns-clause-high : goal.returns-clause-high
returns-clause-high c =
    let most = sound_high c.args.names.now.nets (expr_tree c.args.names.now.words (numbered c.args.e)) c.requires.sound in
    let own = c.in_ok-own.ensures.own in
    let wide = c.max-wide.ensures in
    omega arith
