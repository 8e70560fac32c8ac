use Rattle.std.proofs.Common.{◌≡◌, ◌≤◌}
use Rattle.ae_eval.specs.Stack.{paired}
use Rattle.ae_fuse.proofs.labelling.paired_labels.Given as goal

abbrev pub invariant-loop-piece : goal.invariant-loop-piece
invariant-loop-piece l = record {
  pairs : l.both.items ≡ paired l.piece l.size l.other l.first l.second;
  within : l.piece ≤ l.count;
}
