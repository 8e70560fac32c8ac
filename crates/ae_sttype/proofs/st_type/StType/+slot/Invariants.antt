use Rattle.ae_sttype.specs.StTree.{st_tree, st_depth}
use Rattle.ae_sttype.proofs.st_type.StType.+slot.Given as goal

abbrev pub decreases-slot : goal.decreases-slot
decreases-slot l = st_depth (st_tree l.self.now)
