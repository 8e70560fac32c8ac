use Rattle.std.proofs.Common.{◌∙◌, ap}
use Rattle.std.proofs.lemmas.Result.{on_ok_weaker}
use Rattle.ae_word.specs.AtomTree.{atom_tree, atom_words}
use Rattle.ae_seqtype.specs.SeqTree.{atom, seq_tree}
use Rattle.ae_eval.proofs.Moving.{snd-pushed}
use Rattle.ae_eval.proofs.moves.push_snd.Goals as goal

pub returns : goal.returns
returns c =
    let form = ap seq_tree c.in-Atom.is ∙ ap (λ a. atom (atom_tree a)) c.in-Pair.is in
    let k = c.words.ensures ∙ ap (λ t. atom_words (atom_tree t)) c.deref.ensures in
    let l = c.words-2.ensures ∙ ap (λ t. atom_words (atom_tree t)) c.deref-2.ensures in
    on_ok_weaker c.push_copy.result (snd-pushed (seq_tree c.args.ty.now) (atom_tree c.in-Pair.first.value)
    (atom_tree c.in-Pair.second.value) c.words.result c.words-2.result c.args.start c.args.stack.now.items c.push_copy.new.stack.items form k l
    c.requires.fits) c.push_copy.ensures
