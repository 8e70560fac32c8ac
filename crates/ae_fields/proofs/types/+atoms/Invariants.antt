use Rattle.std.proofs.Common.{◌+◌, ◌*◌}
use Rattle.ae_fields.proofs.types.+atoms.Given as goal

abbrev pub decreases-read_atom : goal.decreases-read_atom
decreases-read_atom l = l.levels * 2

abbrev pub decreases-read_pair : goal.decreases-read_pair
decreases-read_pair l = l.levels * 2 + 1
