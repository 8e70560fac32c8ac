use Rattle.std.proofs.Common.{length, ◌≡◌, ◌≤◌, ◌+◌}
use Rattle.ae_fields.specs.Cut.{lines}
use Rattle.ae_fields.specs.Grammar.{reading, reading_from}
use Rattle.ae_parse.specs.StateView.{state_of}
use Rattle.ae_parse.proofs.Soundness.{Sound}
use Rattle.ae_parse.proofs.program_text.parse.Given as goal

abbrev pub invariant-loop-line : goal.invariant-loop-line
invariant-loop-line l = record {
  read : reading_from (lines l.rest) l.number (state_of l.parser) ≡ reading l.fn.text;
  fits : l.number + length l.rest ≤ length l.fn.text + 1;
  sound : Sound l.number (state_of l.parser);
}

abbrev pub decreases-loop-line : goal.decreases-loop-line
decreases-loop-line l = length l.rest
