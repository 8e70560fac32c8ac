-- A power of two up to the twelfth.
use Rattle.std.proofs.Common.{◌≤◌, ◌^◌, arith}
use Rattle.std.proofs.Math.Pow.{pow_mono}
use Rattle.ae_clocked.proofs.ring.ring_depth.Goals as goal

pub returns-clause-most : goal.returns-clause-most
returns-clause-most c = let small : 2 ^ c.args.bits ≤ 2 ^ 12 = pow_mono c.requires in omega arith
