use Rattle.std.proofs.Common.{ℕ, ◌≡◌, [], ◌+◌, ◌*◌, ◌≤◌, length}
use Rattle.ae_clocked.specs.Phases.{Belongs, KeepsCounters}
use Rattle.ae_clocked.specs.KeptRings.{RingsBelong}
use Rattle.ae_rewrite.specs.StProgramTree.{st_func_tree}
use Rattle.ae_tidy.specs.Places.{AreMarks}
use Rattle.ae_lower.specs.Lowering.{instances_of, timings_in}
use Rattle.ae_lower.specs.Sections.{AreSections, HaveSections, IsSectionWithin}
use Rattle.ae_lower.proofs.Instances.{AreLowered, AreSpread, HaveSpent}
use Rattle.ae_lower.proofs.Stretches.{HaveMarks}
use Rattle.ae_lower.proofs.calls.+lowering.Given as goal

abbrev pub decreases-lower_bodies : goal.decreases-lower_bodies
decreases-lower_bodies l = 3 * l.m + 3

abbrev pub decreases-lower_instance : goal.decreases-lower_instance
decreases-lower_instance l = 3 * l.k + 2

abbrev pub decreases-lower_node : goal.decreases-lower_node
decreases-lower_node l = 3 * l.within.now.number + 1

abbrev pub invariant-lower_bodies-loop-lane : goal.invariant-lower_bodies-loop-lane
invariant-lower_bodies-loop-lane l = record {
  belongs : Belongs l.clocks l.nl.cells;
  keeps : KeepsCounters l.fn.clocks l.clocks;
  spread : AreSpread (instances_of l.whole) l.m l.at l.fn.clocks.rst l.copies l.args l.fn.nl l.nl l.lane l.out.items;
  within : l.lane ≤ l.copies;
  sections : AreSections (length l.fn.nl.cells) l.fn.sections.items
      → HaveSections (IsSectionWithin (instances_of l.whole) l.m) (length l.fn.nl.cells) (length l.nl.cells) l.fn.sections.items l.sections.items;
}

abbrev pub invariant-lower_instance-loop-j : goal.invariant-lower_instance-loop-j
invariant-lower_instance-loop-j l = record {
  belongs : Belongs l.clocks l.nl.cells;
  keeps : KeepsCounters l.fn.clocks l.clocks;
  rings : RingsBelong l.kept l.fn.clocks.rst l.nl.cells;
  spent : HaveSpent (instances_of l.whole) l.k (st_func_tree l.s) l.fn.nl l.nl l.j l.most l.kept.left;
  lowered : AreLowered (instances_of l.whole) l.k l.at l.fn.clocks.rst (st_func_tree l.s) l.ins l.fn.nl l.nl l.j l.items.items;
  marked : (count : ℕ) → AreMarks (length l.fn.nl.cells) count l.fn.marks.items → AreMarks (length l.nl.cells) (count + l.j) l.marks.items;
  nodes : l.fn.marks.items ≡ [] → HaveMarks l.fn.nl l.nl (timings_in (instances_of l.whole) l.k (st_func_tree l.s)) l.j l.marks.items;
  sections : AreSections (length l.fn.nl.cells) l.fn.sections.items
      → HaveSections (IsSectionWithin (instances_of l.whole) l.k) (length l.fn.nl.cells) (length l.nl.cells) l.fn.sections.items l.sections.items;
}
