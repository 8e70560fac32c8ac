use Rattle.std.proofs.Common.{sym, ◌∙◌}
use Rattle.ae_vcd.proofs.BodySteps.{comment_taken, other_answer}
use Rattle.ae_vcd.proofs.reader.Reader.other.Goals as goal

pub returns-then-is_comment-clause-answer : goal.returns-then-is_comment-clause-answer
returns-then-is_comment-clause-answer c =
    λ s f. comment_taken c.args.self.now s c.args.word.now f c.requires.here (sym c.is_comment.ensures ∙ c.if-is_comment.true)

pub returns-clause-answer : goal.returns-clause-answer
returns-clause-answer c =
    λ s f. other_answer c.args.self.now s c.args.word.now c.is_silent.result f c.requires.here c.requires.unmarked
    (sym c.is_comment.ensures ∙ c.if-is_comment.false) c.is_silent.ensures
