use Rattle.ae_word.specs.AtomTree.{atom_tree}
use Rattle.ae_seqtype.proofs.Sizes.{few-atom_words}
use Rattle.ae_seqtype.proofs.seq_type.SeqType.+few_words.Goals as goal

pub returns-in-Atom : goal.returns-in-Atom
returns-in-Atom t c =
    let fit = rw c.in-Atom.is at c.requires in
    rw (c.words.ensures, c.in-Atom.is) (few-atom_words (atom_tree c.in-Atom.atom) fit)
