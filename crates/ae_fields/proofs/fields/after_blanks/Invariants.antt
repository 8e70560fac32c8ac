use Rattle.std.proofs.Common.{length, ◌≡◌, ◌≤◌}
use Rattle.ae_fields.specs.Cut.{fields}
use Rattle.ae_fields.proofs.fields.after_blanks.Given as goal

abbrev pub invariant-loop-rest : goal.invariant-loop-rest
invariant-loop-rest l = (fields l.rest ≡ fields l.fn.said) × (length l.rest ≤ length l.fn.said)

abbrev pub decreases-loop-rest : goal.decreases-loop-rest
decreases-loop-rest l = length l.rest
