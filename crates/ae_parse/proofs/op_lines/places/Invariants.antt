use Rattle.std.proofs.Common.{◌≡◌, [], length}
use Rattle.ae_fields.specs.Cut.{fields}
use Rattle.ae_fields.specs.Grammar.{places_after}
use Rattle.ae_parse.proofs.op_lines.places.Given as goal

abbrev pub invariant-loop-field : goal.invariant-loop-field
invariant-loop-field l = places_after l.names [] (fields l.fn.line) ≡ places_after l.names l.found.items (fields l.rest)

abbrev pub decreases-loop-field : goal.decreases-loop-field
decreases-loop-field l = length l.rest
