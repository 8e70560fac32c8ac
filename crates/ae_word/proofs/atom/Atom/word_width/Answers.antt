use Rattle.ae_word.specs.AtomTree.{atom_tree}
use Rattle.ae_word.proofs.Ranges.{width_there}
use Rattle.ae_word.proofs.atom.Atom.word_width.Goals as goal

pub invariant_of-result : goal.invariant_of-result
invariant_of-result c = width_there (atom_tree c.args.self.now) c.args.k _ c.requires.in_size c.in-Ok.ensures
