use Rattle.std.proofs.Common.{◌∙◌, ap, true, false}
use Rattle.ae_word.specs.AtomTree.{WordKind, atom_tree}
use Rattle.ae_seqtype.specs.SeqTree.{atom, seq_tree}
use Rattle.ae_seq.specs.Typing.{kind_of}
use Rattle.ae_eval.proofs.words.word_result.Goals as goal

pub apply-requires-clause-fit : goal.apply-requires-clause-fit
apply-requires-clause-fit c =
    let form = ap seq_tree c.in-Atom.is ∙ ap (λ a. atom (atom_tree a)) c.in-Word.is in
    let k : WordKind = record { signed = false; width = c.in-Word.width } in
    c.requires.fit k (ap kind_of form)

pub apply-requires-in-Int-clause-fit : goal.apply-requires-in-Int-clause-fit
apply-requires-in-Int-clause-fit c =
    let form = ap seq_tree c.in-Atom.is ∙ ap (λ a. atom (atom_tree a)) c.in-Int.is in
    let k : WordKind = record { signed = true; width = c.in-Int.width } in
    rw c.op_for.ensures (c.requires.fit k (ap kind_of form))
