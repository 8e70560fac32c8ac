use Rattle.std.proofs.Common.{◌≡◌, ◌≤◌}
use Rattle.ae_flow.specs.Flow.{parts}
use Rattle.ae_fuse.proofs.labelling.part_labels.Given as goal

abbrev pub invariant-loop-piece : goal.invariant-loop-piece
invariant-loop-piece l = record {
  parts : l.taken.items ≡ parts l.piece l.size l.from l.part l.labels;
  within : l.piece ≤ l.count;
}
