use Rattle.std.proofs.Common.{◌∙◌, ◌<◌, length, slice_get, option_map, arith, ap, sym, subst, IsTrue}
use Rattle.ae_word.specs.AtomTree.{WordKind, AtomTree, atom_in_size, atom_kinds}
use Rattle.ae_word.proofs.Sizes.{length-atom_kinds}
use Rattle.ae_sttype.specs.StTree.{element_atom, st_tree}
use Rattle.ae_sttype.proofs.Bounds.{element_words_pos, sized_atom}
use Rattle.ae_lower.proofs.Arranged.{first_is}
use Rattle.ae_lower.proofs.stages.first_width.Goals as goal

pub word_width-requires-clause-in_size : goal.word_width-requires-clause-in_size
word_width-requires-clause-in_size c =
    subst (λ (a : AtomTree). IsTrue (atom_in_size a)) (sym c.atom.ensures) (sized_atom (st_tree c.args.s.now) c.requires.lengths)

pub word_width-requires-clause-there : goal.word_width-requires-clause-there
word_width-requires-clause-there c =
    let some : 0 < length (atom_kinds (element_atom (st_tree c.args.s.now))) = omega (
      arith,
      length-atom_kinds (element_atom (st_tree c.args.s.now)),
      element_words_pos (st_tree c.args.s.now),
    ) in
    rw c.atom.ensures some

pub returns : goal.returns
returns c =
    first_is (atom_kinds (element_atom (st_tree c.args.s.now))) c.word_width.result
    (ap (λ (a : AtomTree). option_map (λ (k : WordKind). k.width) (slice_get (atom_kinds a) 0)) (sym c.atom.ensures) ∙ c.word_width.ensures)
