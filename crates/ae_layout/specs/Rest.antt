-- What an iterator over slots has left.
use Rattle.std.specs.Prelude.{List, drop}
use Rattle.ae_sttype.specs.declared.st_type.Slot.{Slot}
use Rattle.ae_sttype.specs.StTree.{st_tree}
use Rattle.ae_sttype.specs.Slots.{slots}
use Rattle.ae_layout.specs.declared.iter.SlotIter.{SlotIter}

-- the slots that have not come yet
abbrev pub slots_left : SlotIter → List Slot
slots_left it = drop it.next (slots (st_tree it.of.now))
