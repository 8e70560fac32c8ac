-- What is answered for the schedule of an input's program under a slowdown.
use Rattle.std.specs.Prelude.{◌≡◌, ℕ, List, ◌⊎◌}
use Rattle.ae_seq.specs.ProgramTree.{ProgramTree, FuncTree}
use Rattle.ae_rewrite.specs.StProgramTree.{StFuncTree}
use Rattle.ae_delay.specs.Costs.{NodeTiming}
use Rattle.ae_stalled.specs.Laws.{stall_limit}
use Rattle.ae_compile.specs.Building.{IsBuiltStalled, IsBuiltText}
use Rattle.ae_compile.specs.Costing.{HasLargeLoad, HasNoSchedule, IsCosted, load_limit}
use Rattle.ae_compile.specs.Mains.{HasMain}
use Rattle.ae_jobs.specs.declared.status.Status.{Status}
use Rattle.ae_jobs.specs.declared.status.Status.TheVariants.{Ok, TooLarge, NoSchedule}
use Rattle.ae_jobs.specs.Refusals.{refusal_line}
use Rattle.ae_jobs.specs.Programs.{IsRefusal}
use Rattle.ae_jobs.specs.PlanTexts.{plan_text}
use Rattle.ae_jobs.specs.CostTables.{table_text}

-- a line is refused as in any program, or for its layout, or for the load up to it
abbrev pub IsCostRefusal : (limit : ℕ) (part : List ℕ) (slowdown : ℕ) → Status → Type 0
IsCostRefusal limit part slowdown (NoSchedule line) = HasNoSchedule part slowdown line
IsCostRefusal limit part slowdown (TooLarge line) =
    IsRefusal part (TooLarge line) ⊎ HasLargeLoad limit part slowdown line
IsCostRefusal limit part slowdown status = IsRefusal part status

-- the text of a costed program
pub record IsCostText (text_of : ProgramTree → FuncTree → StFuncTree → List NodeTiming → List ℕ) (part : List ℕ)
    (slowdown : ℕ) (text : List ℕ) : Type 0 where
  pub program : ProgramTree
  pub instances : List StFuncTree
  pub costed : IsCosted load_limit part slowdown program instances
  pub written : HasMain program instances (λ f s ts. text ≡ text_of program f s ts)

-- what is answered and written, where a text is right or the program is refused
abbrev pub IsAnswered : (limit : ℕ) (IsRight : List ℕ → Type 0) → (part : List ℕ) (slowdown : ℕ) → Status
    → (text : List ℕ) → Type 0
IsAnswered limit IsRight part slowdown Ok text = IsRight text
IsAnswered limit IsRight part slowdown status text =
    IsCostRefusal limit part slowdown status × (text ≡ refusal_line status)

-- what `plan` and `cost` answer and write
abbrev pub IsPlanned : (part : List ℕ) (slowdown : ℕ) → Status → (text : List ℕ) → Type 0
IsPlanned part slowdown status text =
    IsAnswered load_limit (IsCostText (plan_text slowdown) part slowdown) part slowdown status text

abbrev pub IsTabled : (part : List ℕ) (slowdown : ℕ) → Status → (text : List ℕ) → Type 0
IsTabled part slowdown status text =
    IsAnswered load_limit (IsCostText table_text part slowdown) part slowdown status text

-- what `build` answers and writes
abbrev pub IsBuilt : (part : List ℕ) (slowdown : ℕ) → Status → (text : List ℕ) → Type 0
IsBuilt part slowdown status text = IsAnswered load_limit (IsBuiltText part slowdown) part slowdown status text

-- what `stall` answers and writes
abbrev pub IsStallReply : (part : List ℕ) (slowdown : ℕ) → Status → (text : List ℕ) → Type 0
IsStallReply part slowdown status text = IsAnswered stall_limit (IsBuiltStalled part slowdown) part slowdown status text
