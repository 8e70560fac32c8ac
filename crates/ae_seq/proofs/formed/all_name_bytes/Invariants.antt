use Rattle.std.proofs.Common.{◌≡◌, drop}
use Rattle.ae_seq.specs.Formed.{all_name_bytes}
use Rattle.ae_seq.proofs.formed.all_name_bytes.Given as goal

abbrev pub invariant-loop-b : goal.invariant-loop-b
invariant-loop-b l = all_name_bytes (drop l.b-index l.bytes) ≡ all_name_bytes l.bytes
