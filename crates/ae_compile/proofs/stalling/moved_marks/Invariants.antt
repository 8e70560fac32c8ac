use Rattle.std.proofs.Common.{◌≡◌, ◌++◌, map, drop}
use Rattle.ae_stall.specs.Images.{renumbered}
use Rattle.ae_compile.proofs.stalling.moved_marks.Given as goal

abbrev pub invariant-loop-mark : goal.invariant-loop-mark
invariant-loop-mark l = l.behind.items ++ map renumbered (drop l.mark-index l.marks) ≡ map renumbered l.marks
