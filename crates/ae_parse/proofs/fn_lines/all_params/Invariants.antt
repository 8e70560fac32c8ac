use Rattle.std.proofs.Common.{◌≡◌, length}
use Rattle.ae_fields.specs.Cut.{fields}
use Rattle.ae_fields.specs.Grammar.{params_after, no_params}
use Rattle.ae_parse.specs.StateView.{head_of}
use Rattle.ae_parse.proofs.fn_lines.all_params.Given as goal

abbrev pub invariant-loop-field : goal.invariant-loop-field
invariant-loop-field l = params_after l.version no_params (fields l.fn.line) ≡ params_after l.version (head_of l.found) (fields l.rest)

abbrev pub decreases-loop-field : goal.decreases-loop-field
decreases-loop-field l = length l.rest
