use Rattle.ae_vmodule.specs.Roots.{numbered}
use Rattle.std.proofs.Common.{arith}
use Rattle.ae_vmodule.specs.View.{expr_tree}
use Rattle.ae_judge.specs.Widths.{own_width}
use Rattle.ae_order.proofs.SoundLaws.{sound_low}
use Rattle.ae_express.proofs.forms.operand_widths.Goals as goal

pub returns-in-Word-clause-left_low : goal.returns-in-Word-clause-left_low
returns-in-Word-clause-left_low c =
    let low = sound_low c.args.names.now.nets (expr_tree c.args.names.now.words (numbered c.args.a)) c.requires.left_sound in
    let own = c.in-Word.ensures.own (own_width c.args.names.now.nets (expr_tree c.args.names.now.words (numbered c.args.a)))
    (own_width c.args.names.now.nets (expr_tree c.args.names.now.words (numbered c.args.b))) in
    let within = c.requires.within in
    omega arith

pub returns-in-Word-clause-right_low : goal.returns-in-Word-clause-right_low
returns-in-Word-clause-right_low c = returns-in-Word-clause-left_low c

pub returns-in-Shift-clause-left_low : goal.returns-in-Shift-clause-left_low
returns-in-Shift-clause-left_low c =
    let low = sound_low c.args.names.now.nets (expr_tree c.args.names.now.words (numbered c.args.a)) c.requires.left_sound in
    let own = c.in-Shift.ensures.own (own_width c.args.names.now.nets (expr_tree c.args.names.now.words (numbered c.args.a)))
    (own_width c.args.names.now.nets (expr_tree c.args.names.now.words (numbered c.args.b))) in
    let within = c.requires.within in
    omega arith
