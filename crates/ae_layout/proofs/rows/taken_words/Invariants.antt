use Rattle.ae_sttype.specs.StTree.{st_tree}
use Rattle.ae_layout.proofs.PieceLemmas.{Pieces, Taken}
use Rattle.ae_layout.proofs.rows.taken_words.Given as goal

abbrev pub invariant-loop-e : goal.invariant-loop-e
invariant-loop-e l = Pieces (Taken (st_tree l.of) l.width l.rows) l.width l.e l.words.items
