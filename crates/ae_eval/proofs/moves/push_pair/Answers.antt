use Rattle.std.proofs.lemmas.Result.{on_ok_weaker}
use Rattle.ae_seqtype.specs.SeqTree.{seq_tree}
use Rattle.ae_eval.proofs.Moving.{pair-pushed}
use Rattle.ae_eval.proofs.moves.push_pair.Goals as goal

pub returns : goal.returns
returns c =
    on_ok_weaker c.push_copy-2.result (pair-pushed (seq_tree c.args.ty.now)
    (seq_tree c.args.other.now) c.words.result c.words-2.result c.args.start c.args.place c.args.stack.now.items c.push_copy.new.stack.items
    c.push_copy-2.new.stack.items c.words.ensures c.words-2.ensures c.requires.fits c.requires.fits_too c.in_ok-push_copy.ensures) c.push_copy-2.ensures
