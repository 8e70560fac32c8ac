use Rattle.std.proofs.Common.{◌≡◌, length}
use Rattle.ae_gather.proofs.reads.all_oldest.Given as goal

abbrev pub invariant-loop-trip : goal.invariant-loop-trip
invariant-loop-trip l = record { long : length l.all.items ≡ l.ins }
