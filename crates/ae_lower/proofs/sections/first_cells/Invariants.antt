use Rattle.std.proofs.Common.{◌≡◌, map, take}
use Rattle.ae_lower.specs.Sections.{first_cell}
use Rattle.ae_lower.proofs.sections.first_cells.Given as goal

abbrev pub invariant-loop-section : goal.invariant-loop-section
invariant-loop-section l = l.cells.items ≡ map first_cell (take l.section-index l.sections)
