use Rattle.std.proofs.Common.{◌∙◌, ap}
use Rattle.std.proofs.lemmas.Result.{on_ok_weaker}
use Rattle.ae_seqtype.specs.SeqTree.{seq_tree, words}
use Rattle.ae_eval.proofs.Moving.{shift-pushed}
use Rattle.ae_eval.proofs.moves.push_shifted.Goals as goal

pub returns : goal.returns
returns c =
    let form = ap seq_tree c.in-Seq.is in
    let k = c.words.ensures ∙ ap (λ t. words (seq_tree t)) c.deref.ensures in
    on_ok_weaker c.push_copy.result (shift-pushed c.args.count c.in-Seq.field-0 c.words.result c.words-2.result c.args.start (seq_tree c.args.ty.now)
    (seq_tree c.in-Seq.of.value) c.args.stack.now.items c.push_zeros.new.stack.items c.push_copy.new.stack.items form k c.words-2.ensures c.requires.typed
    c.requires.fits c.in_ok-push_zeros.ensures) c.push_copy.ensures
