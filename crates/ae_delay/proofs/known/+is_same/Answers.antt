use Rattle.std.proofs.Common.{ap, ◌∙◌, sym}
use Rattle.ae_word.specs.AtomTree.{atom_tree}
use Rattle.ae_sttype.specs.StTree.{atom, st_tree}
use Rattle.ae_delay.proofs.SameAtoms.{atom_is}
use Rattle.ae_delay.proofs.known.+is_same.Goals as goal

pub returns-in-Atom-Atom : goal.returns-in-Atom-Atom
returns-in-Atom-Atom t c = λ h.
    ap st_tree c.in-Atom-Atom.is-0 ∙ ap atom (atom_is (atom_tree c.in-Atom-Atom.x) (atom_tree c.in-Atom-Atom.y) (sym c.is_same.ensures ∙ h)) ∙
    sym (ap st_tree c.in-Atom-Atom.is-1)
