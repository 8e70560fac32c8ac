use Rattle.std.proofs.Common.{◌≡◌, drop}
use Rattle.ae_seq.specs.Formed.{same_bytes}
use Rattle.ae_seq.proofs.formed.same_bytes.Given as goal

abbrev pub invariant-loop-i : goal.invariant-loop-i
invariant-loop-i l = same_bytes (drop l.i l.first) (drop l.i l.second) ≡ same_bytes l.first l.second
