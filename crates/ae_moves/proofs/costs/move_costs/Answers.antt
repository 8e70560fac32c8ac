use Rattle.std.proofs.Common.{◌≤◌, ◌∙◌, arith, ap, sum}
use Rattle.ae_moves.specs.Trees.{trip_trees}
use Rattle.ae_moves.proofs.Ages.{delay_from_ages}
use Rattle.ae_moves.proofs.Enough.{wider}
use Rattle.ae_moves.proofs.costs.move_costs.Goals as goal

pub all_ages-requires-clause-within : goal.all_ages-requires-clause-within
all_ages-requires-clause-within c =
    let h : c.args.outs ≤ 4294967296 = omega (arith, c.ranges.outs.fits) in
    wider c.args.trips.now c.args.d c.args.ins c.args.outs c.args.ins 4294967296 (omega arith) h c.requires.within

pub runs-requires-clause-within : goal.runs-requires-clause-within
runs-requires-clause-within c =
    let h : c.args.ins ≤ 4294967296 = omega (arith, c.ranges.ins.fits) in
    wider c.args.trips.now c.args.d c.args.ins c.args.outs 4294967296 c.args.outs h (omega arith) c.requires.within

pub returns-clause-delay : goal.returns-clause-delay
returns-clause-delay c =
    c.total-delay.ensures ∙ ap sum c.deref.ensures.value ∙ delay_from_ages c.args.d c.args.ins (trip_trees c.args.trips.now) _ c.in_ok-ages.ensures
