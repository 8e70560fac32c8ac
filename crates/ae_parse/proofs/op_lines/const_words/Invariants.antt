use Rattle.std.proofs.Common.{◌≡◌, [], length}
use Rattle.ae_fields.specs.Cut.{fields}
use Rattle.ae_fields.specs.Words.{words_after}
use Rattle.ae_parse.proofs.op_lines.const_words.Given as goal

abbrev pub invariant-loop-field : goal.invariant-loop-field
invariant-loop-field l = words_after l.words.items (fields l.rest) ≡ words_after [] (fields l.fn.line)

abbrev pub decreases-loop-field : goal.decreases-loop-field
decreases-loop-field l = length l.rest
