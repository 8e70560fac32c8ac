use Rattle.std.proofs.lemmas.Result.{on_ok_weaker}
use Rattle.ae_seqtype.specs.SeqTree.{seq_tree}
use Rattle.ae_eval.proofs.Moving.{up-pushed}
use Rattle.ae_eval.proofs.moves.push_up.Goals as goal

pub returns : goal.returns
returns c =
    on_ok_weaker c.push_copies.result (up-pushed c.args.count c.words.result c.args.start
    (seq_tree c.args.ty.now) c.args.stack.now.items c.push_copies.new.stack.items c.words.ensures c.requires.fits) c.push_copies.ensures
