use Rattle.std.proofs.Common.{ap, ◌∙◌}
use Rattle.ae_gates.proofs.Words.{word_by, value_fits, back}
use Rattle.ae_gates.proofs.ShiftLaws.{moved_most}
use Rattle.ae_gates.specs.Shifts.{moved}
use Rattle.ae_gates.proofs.compounds.moved_by.Goals as goal

pub returns-clause-word : goal.returns-clause-word
returns-clause-word c = λ f x.
    word_by _ _
    (λ all k run is t l.
    c.shift-op.ensures.word _ _ _ _
    ∙ ap (moved c.args.way c.args.width (f run t)) c.min.ensures
    ∙ moved_most c.args.way c.args.width (f run t) c.args.places c.requires.high (value_fits _ _ all run t _ _ f x (back c.in_ok-y.ensures.adds.grows k) is l))
    (c.in_ok-y.ensures.word f f x x)
