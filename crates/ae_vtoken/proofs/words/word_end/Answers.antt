use Rattle.std.proofs.Common.{arith, sym, ◌∙◌}
use Rattle.ae_vtoken.proofs.Spans.{word_more}
use Rattle.ae_vtoken.proofs.words.word_end.Goals as goal

pub word-preserved : goal.word-preserved
word-preserved c = (
  omega (arith, c.word.invariant.0),
  omega (arith, c.word-test.true),
  word_more c.args.text.now c.args.from c.word.i c.word.invariant.0 c.word-test.true c.word.invariant.2
      (sym c.is_word_byte.ensures ∙ c.if-not-is_word_byte.false),
)
