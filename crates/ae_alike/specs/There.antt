-- A program of which no line is without a layout has a schedule.
use Rattle.std.specs.Prelude.{◌≡◌, ℕ, IsTrue, List, None}
use Rattle.ae_seq.specs.Formed.{formed}
use Rattle.ae_seq.specs.ProgramTree.{ProgramTree}
use Rattle.ae_eval.specs.Stack.{IsTyped}
use Rattle.ae_rewrite.specs.StProgramTree.{StFuncTree}
use Rattle.ae_rewrite.specs.Scheduled.{IsSchedule}
use Rattle.ae_rewrite.specs.FailingLine.{failing_line}

abbrev pub SchedulesAreThere : Type 0
SchedulesAreThere =
    (p : ProgramTree) (slowdown : ℕ) → IsTrue (formed p) → failing_line p slowdown ≡ None
    → (instances : List StFuncTree) × IsSchedule p slowdown instances

-- and a typed program has one for blocks of one clock
abbrev pub SchedulesAtOne : Type 0
SchedulesAtOne = (p : ProgramTree) → IsTyped p → (instances : List StFuncTree) × IsSchedule p 1 instances
