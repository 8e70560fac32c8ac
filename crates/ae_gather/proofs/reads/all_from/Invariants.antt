use Rattle.std.proofs.Common.{◌≡◌, length}
use Rattle.ae_gather.proofs.reads.all_from.Given as goal

abbrev pub invariant-loop-q : goal.invariant-loop-q
invariant-loop-q l = record { long : length l.from.items ≡ l.q }
