use Rattle.std.proofs.Common.{◌≡◌, ◌≤◌}
use Rattle.ae_fuse.specs.Clocks.{clock_copies}
use Rattle.ae_fuse.proofs.clocks.copied_clocks.Given as goal

abbrev pub invariant-loop-copy : goal.invariant-loop-copy
invariant-loop-copy l = record {
  clocks : l.clocks.items ≡ clock_copies l.copy l.time l.one;
  within : l.copy ≤ l.count;
}
