use Rattle.ae_sttype.specs.StTree.{st_tree, st_depth}
use Rattle.ae_streamed.proofs.layouts.+slot_beat.Given as goal

abbrev pub decreases-slot_beat : goal.decreases-slot_beat
decreases-slot_beat l = st_depth (st_tree l.layout.now)
