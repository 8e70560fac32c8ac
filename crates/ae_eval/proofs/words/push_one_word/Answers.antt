use Rattle.std.proofs.lemmas.Result.{on_ok_weaker}
use Rattle.ae_seqtype.specs.SeqTree.{seq_tree}
use Rattle.ae_eval.proofs.Wording.{one-pushed}
use Rattle.ae_eval.proofs.words.push_one_word.Goals as goal

pub returns : goal.returns
returns c =
    on_ok_weaker c.push_word.result (one-pushed c.args.op
    (seq_tree c.args.ty.now) c.args.start c.args.stack.now.items c.push_word.new.stack.items c.index.result.now c.word_result-word.result c.requires.fits
    c.index.ensures c.word_result-word.ensures) c.push_word.ensures
