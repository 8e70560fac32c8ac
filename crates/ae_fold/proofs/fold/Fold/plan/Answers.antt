-- The numbers of what is folded, by what is so of it.
use Rattle.ae_fold.proofs.fold.Fold.plan.Goals as goal

pub plan_of-requires-clause-slots_some : goal.plan_of-requires-clause-slots_some
plan_of-requires-clause-slots_some c = c.self.invariant.slots_some

pub plan_of-requires-clause-lanes_some : goal.plan_of-requires-clause-lanes_some
plan_of-requires-clause-lanes_some c = c.self.invariant.lanes_some

pub plan_of-requires-clause-lanes_most : goal.plan_of-requires-clause-lanes_most
plan_of-requires-clause-lanes_most c = c.self.invariant.lanes_most

pub plan_of-requires-clause-element : goal.plan_of-requires-clause-element
plan_of-requires-clause-element c = c.self.invariant.element

pub plan_of-requires-clause-period_most : goal.plan_of-requires-clause-period_most
plan_of-requires-clause-period_most c = c.self.invariant.period_most

pub plan_of-requires-clause-room : goal.plan_of-requires-clause-room
plan_of-requires-clause-room c = c.self.invariant.room

pub returns-clause-numbers : goal.returns-clause-numbers
returns-clause-numbers c = rw (← c.self.view_is) c.plan_of.ensures.numbers
