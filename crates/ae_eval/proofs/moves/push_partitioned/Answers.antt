use Rattle.std.proofs.lemmas.Result.{on_ok_weaker}
use Rattle.ae_seqtype.specs.SeqTree.{seq_tree}
use Rattle.ae_eval.proofs.Moving.{partition-pushed}
use Rattle.ae_eval.proofs.moves.push_partitioned.Goals as goal

pub returns : goal.returns
returns c =
    on_ok_weaker c.push_copy.result (partition-pushed c.args.pieces c.args.size c.words-all.result c.args.start
    (seq_tree c.args.ty.now) c.args.stack.now.items c.push_copy.new.stack.items c.words-all.ensures c.requires.fits) c.push_copy.ensures
