use Rattle.std.proofs.Common.{◌≡◌, ◌-◌, map, take, get_or}
use Rattle.ae_delay.specs.Costs.{latest}
use Rattle.ae_retime.proofs.uses.joint_slacks.Given as goal

abbrev pub invariant-loop-item : goal.invariant-loop-item
invariant-loop-item l = l.slacks.items ≡ map (λ a. latest l.arrivals l.items - get_or l.arrivals a 0) (take l.item-index l.items)
