use Rattle.std.proofs.Common.{rules, arith}
use Rattle.ae_sttype.specs.StTree.{st_tree}
use Rattle.ae_layout.proofs.Left.{none_left, next_left, fewer_left}
use Rattle.ae_layout.proofs.iter.SlotIterIterator.next.Goals as goal

pub returns-then-self-clause-steps : goal.returns-then-self-clause-steps
returns-then-self-clause-steps c =
    let none = none_left (st_tree c.args.self.now.of.now) c.args.self.now.next (omega arith) in
    (none, none)

pub returns-clause-steps : goal.returns-clause-steps
returns-clause-steps c = next_left (st_tree c.args.self.now.of.now) c.args.self.now.next _ c.slot-slot.ensures.place

pub returns-clause-goes : goal.returns-clause-goes
returns-clause-goes c =
    let fewer = fewer_left (st_tree c.args.self.now.of.now) c.args.self.now.next c.slot-slot.result c.slot-slot.ensures.place in
    record { on = λ _. (tt, tt, fewer); keeps = search rules; rests = search rules }
