use Rattle.ae_vmodule.specs.Roots.{numbered}
use Rattle.std.proofs.Common.{arith}
use Rattle.ae_vmodule.specs.View.{expr_tree}
use Rattle.ae_order.proofs.Answered.{ok_map}
use Rattle.ae_order.proofs.SoundLaws.{sound_low}
use Rattle.ae_express.proofs.given.own_word.Goals as goal

pub returns-clause-own : goal.returns-clause-own
returns-clause-own c =
    let least = sound_low c.args.names.now.nets (expr_tree c.args.names.now.words (numbered c.args.e)) c.requires.sound in
    ok_map c.lower_at_least.result (λ r h. omega (arith, h)) c.lower_at_least.ensures.width
