use Rattle.ae_fuse.proofs.laws.moves_make_blocks.Goals as goal
use Rattle.ae_fuse.proofs.Making.{moves-make-blocks}

pub returns : goal.returns
returns c = moves-make-blocks
