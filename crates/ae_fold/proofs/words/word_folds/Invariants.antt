use Rattle.std.proofs.Common.{◌≡◌, map, take}
use Rattle.ae_word.specs.AtomTree.{atom_kinds}
use Rattle.ae_sttype.specs.StTree.{element_atom, st_tree}
use Rattle.ae_fold.specs.Folding.{fold_by}
use Rattle.ae_fold.proofs.words.word_folds.Given as goal

abbrev pub invariant-loop-j : goal.invariant-loop-j
invariant-loop-j l = l.folds.items ≡ map (fold_by l.op) (take l.j (atom_kinds (element_atom (st_tree l.element))))
