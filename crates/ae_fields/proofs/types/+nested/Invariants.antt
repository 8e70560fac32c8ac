use Rattle.std.proofs.Common.{◌+◌, ◌*◌}
use Rattle.ae_fields.proofs.types.+nested.Given as goal

abbrev pub decreases-read_nested : goal.decreases-read_nested
decreases-read_nested l = l.levels * 2

abbrev pub decreases-read_sequence : goal.decreases-read_sequence
decreases-read_sequence l = l.levels * 2 + 1
