-- How many registers and comparisons columns take.
use Rattle.std.specs.Prelude.{ℕ, ◌+◌, ◌-◌, ◌≤◌, Bool, if◌then◌else◌, List, length, sum_by}
use Rattle.ae_netlist.specs.Circuit.{Circuit}
use Rattle.ae_netlist.specs.Counts.{count_of, is_register}
use Rattle.ae_gates.specs.Cells.{is_test}
use Rattle.ae_columns.specs.declared.steps.Step.{Step}

-- registers and comparisons have risen by at most what a number of things made beside them has, and so many more
pub record Counted (old new : Circuit) (made_before made_after kept compared : ℕ) : Type 0 where
  pub registers : count_of is_register new.cells + made_before ≤ count_of is_register old.cells + made_after + kept
  pub tests : count_of is_test new.cells + made_before ≤ count_of is_test old.cells + made_after + compared

-- the comparisons of a column: one for each step but the first
abbrev pub steps_tests : List Step → ℕ
steps_tests steps = length steps - 1

-- how many columns are chosen early: each has a register
abbrev pub early_count : List Bool → ℕ
early_count early = sum_by (λ is. if is then 1 else 0) early
