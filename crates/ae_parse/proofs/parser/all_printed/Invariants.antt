use Rattle.std.proofs.Common.{◌≡◌, drop}
use Rattle.ae_fields.specs.Cleaned.{all_printed}
use Rattle.ae_parse.proofs.parser.all_printed.Given as goal

abbrev pub invariant-loop-byte : goal.invariant-loop-byte
invariant-loop-byte l = all_printed (drop l.byte-index l.line) ≡ all_printed l.line
