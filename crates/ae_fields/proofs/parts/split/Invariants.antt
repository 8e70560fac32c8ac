use Rattle.std.proofs.Common.{◌≤◌, length}
use Rattle.ae_fields.proofs.PartLemmas.{IsPassed}
use Rattle.ae_fields.proofs.parts.split.Given as goal

abbrev pub invariant-loop-line : goal.invariant-loop-line
invariant-loop-line l = record {
  short : length l.rest ≤ length l.text;
  passed : IsPassed l.text l.rest;
}

abbrev pub decreases-loop-line : goal.decreases-loop-line
decreases-loop-line l = length l.rest
