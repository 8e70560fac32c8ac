use Rattle.std.proofs.Common.{◌≡◌, length}
use Rattle.ae_gather.proofs.reads.zeros.Given as goal

abbrev pub invariant-loop-i : goal.invariant-loop-i
invariant-loop-i l = record { long : length l.all.items ≡ l.i }
