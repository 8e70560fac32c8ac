use Rattle.ae_sim.proofs.Masks.{low_bits}
use Rattle.ae_sim.proofs.plan.mask_of.Goals as goal

pub returns : goal.returns
returns c = low_bits c.args.width c.requires.high
