use Rattle.std.proofs.lemmas.Result.{on_ok_weaker}
use Rattle.ae_seqtype.specs.SeqTree.{seq_tree}
use Rattle.ae_eval.proofs.Wording.{two-pushed}
use Rattle.ae_eval.proofs.words.push_two_words.Goals as goal

pub returns : goal.returns
returns c =
    on_ok_weaker c.push_word.result (two-pushed c.args.op (seq_tree c.args.ty.now)
    (seq_tree c.args.other.now) c.args.start c.args.place c.args.stack.now.items c.push_word.new.stack.items c.index.result.now c.index-2.result.now
    c.word_result-word.result c.requires.fits c.requires.fits_too c.index.ensures c.index-2.ensures c.word_result-word.ensures) c.push_word.ensures
