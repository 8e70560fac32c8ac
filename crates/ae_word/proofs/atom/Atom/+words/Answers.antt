-- An atom has few words.
use Rattle.std.proofs.Common.{arith}
use Rattle.ae_word.specs.AtomTree.{atom_tree}
use Rattle.ae_word.proofs.Sizes.{atom_words-small}
use Rattle.ae_word.proofs.atom.Atom.+words.Goals as goal

pub overflow_add-result : goal.overflow_add-result
overflow_add-result t c =
    let small = rw c.in-Pair.is at (atom_words-small (atom_tree c.args.self.now) c.requires) in
    rw (c.words.ensures, c.deref.ensures, c.words-in-Pair.ensures, c.deref-in-Pair.ensures) (omega (arith, small))
