use Rattle.std.proofs.Common.{◌≡◌, ◌++◌, take}
use Rattle.ae_seqtype.specs.SeqTree.{kinds, seq_tree}
use Rattle.ae_eval.specs.Stack.{combined, window}
use Rattle.ae_eval.proofs.folds.push_combined.Given as goal

abbrev pub invariant-loop-index : goal.invariant-loop-index
invariant-loop-index l =
    l.stack.items ≡ l.fn.stack.items ++ take l.index (combined l.op (kinds (seq_tree l.ty)) (window (seq_tree l.ty) l.left l.fn.stack.items)
    (window (seq_tree l.ty) l.right l.fn.stack.items))
