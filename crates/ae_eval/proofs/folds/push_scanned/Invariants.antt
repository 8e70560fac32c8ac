use Rattle.ae_seqtype.specs.SeqTree.{seq_tree}
use Rattle.ae_eval.proofs.Scanning.{Scanning}
use Rattle.ae_eval.proofs.folds.push_scanned.Given as goal

abbrev pub invariant-loop-index : goal.invariant-loop-index
invariant-loop-index l = Scanning l.op (seq_tree l.ty) (seq_tree l.of.value) l.start l.fn.stack.items l.stack.items l.index
