-- No mark, or loops at it.
use Rattle.std.proofs.Common.{ℕ, ◌≡◌, ◌*◌, Option, None, Some, refl, arith}
use Rattle.ae_netlist.specs.Circuit.{Circuit}
use Rattle.ae_gates.proofs.Adding.{adds_same}
use Rattle.ae_fold.specs.declared.marks.SlotMark.{SlotMark}
use Rattle.ae_fold.specs.Feedback.{AddsStores}
use Rattle.ae_fold.specs.Rows.{marks_in}
use Rattle.ae_fold.proofs.Storing.{stores_is, stores_of}
use Rattle.ae_fold.proofs.slots.over_slots.Goals as goal

adds_unmarked : (a : Circuit) (mark : Option SlotMark) (most muls stores : ℕ) → mark ≡ None
    → AddsStores a a (marks_in mark * most) (marks_in mark * muls) (marks_in mark * stores)
adds_unmarked a mark most muls stores e = rw e (stores_is (omega arith) (omega arith) (omega arith) (stores_of (adds_same a a 0 refl)))

adds_marked : (a b : Circuit) (mark : Option SlotMark) (first : SlotMark) (most muls stores : ℕ) → mark ≡ Some first
    → AddsStores a b most muls stores → AddsStores a b (marks_in mark * most) (marks_in mark * muls) (marks_in mark * stores)
adds_marked a b mark first most muls stores e h = rw e (stores_is (omega arith) (omega arith) (omega arith) h)

pub returns-in-None-clause-adds : goal.returns-in-None-clause-adds
returns-in-None-clause-adds c = adds_unmarked _ _ _ _ _ c.in-None.is

pub returns-in-None-clause-ends : goal.returns-in-None-clause-ends
returns-in-None-clause-ends c = λ rst turns. rw c.in-None.is refl

pub looped-requires-clause-nets : goal.looped-requires-clause-nets
looped-requires-clause-nets c = rw c.deref.ensures.value c.requires.nets

pub looped-requires-clause-last : goal.looped-requires-clause-last
looped-requires-clause-last c = rw c.deref.ensures.value c.requires.last

pub looped-requires-clause-first : goal.looped-requires-clause-first
looped-requires-clause-first c = rw c.in-Some.is at c.requires.mark

pub looped-requires-clause-place : goal.looped-requires-clause-place
looped-requires-clause-place c = rw c.in-Some.is at c.requires.place

pub returns-in_ok-outs-in-Some-clause-adds : goal.returns-in_ok-outs-in-Some-clause-adds
returns-in_ok-outs-in-Some-clause-adds c = adds_marked _ _ _ _ _ _ _ c.in-Some.is (rw c.deref.ensures.value at c.in_ok-outs-in-Some.ensures.adds)

pub returns-in_ok-outs-in-Some-clause-ends : goal.returns-in_ok-outs-in-Some-clause-ends
returns-in_ok-outs-in-Some-clause-ends c = rw c.in-Some.is (rw c.deref.ensures.value at c.in_ok-outs-in-Some.ensures.looped)

pub looped-requires-clause-room : goal.looped-requires-clause-room
looped-requires-clause-room c = let room = rw c.in-Some.is at c.requires.room in omega (arith, room)
