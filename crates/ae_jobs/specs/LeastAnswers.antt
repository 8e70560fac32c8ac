-- What `least` answers and writes.
use Rattle.std.specs.Prelude.{◌≡◌, ℕ, true, List, Some, None}
use Rattle.ae_seq.specs.ProgramTree.{ProgramTree}
use Rattle.ae_rewrite.specs.FailingLine.{failing_line}
use Rattle.ae_trace.specs.Traces.{is_movement}
use Rattle.ae_least.specs.LeastTexts.{IsLeastText}
use Rattle.ae_least.specs.Others.{other_line}
use Rattle.ae_compile.specs.Programs.{IsTypedText}
use Rattle.ae_jobs.specs.declared.status.Status.{Status}
use Rattle.ae_jobs.specs.declared.status.Status.TheVariants.{Ok, NoSchedule, NotMoves}
use Rattle.ae_jobs.specs.Refusals.{refusal_line}
use Rattle.ae_jobs.specs.Programs.{IsRefusal}

-- what is answered and written for a typed program: that a line computes comes before that one has no layout
abbrev pub IsLeastOf : ProgramTree → (slowdown : ℕ) → Status → (text : List ℕ) → Type 0
IsLeastOf p slowdown Ok text = (failing_line p slowdown ≡ None) × IsLeastText p slowdown text
IsLeastOf p slowdown (NotMoves line) text = (other_line p ≡ Some line) × (text ≡ refusal_line (NotMoves line))
IsLeastOf p slowdown (NoSchedule line) text =
    (is_movement p ≡ true) × (failing_line p slowdown ≡ Some line) × (text ≡ refusal_line (NoSchedule line))
IsLeastOf p slowdown _ text = ⊥

-- what `least` answers and writes: the refusals of any program come first
pub data IsLeast (part : List ℕ) (slowdown : ℕ) (status : Status) (text : List ℕ) : Type 0 where
  Untold : IsRefusal part status → text ≡ refusal_line status → IsLeast part slowdown status text
  Told : (p : ProgramTree) → IsTypedText part p → IsLeastOf p slowdown status text → IsLeast part slowdown status text

-- the job has a result: a movement program each of whose lines has a layout
abbrev pub HasLeast : (part : List ℕ) (slowdown : ℕ) → Type 0
HasLeast part slowdown =
    (p : ProgramTree) × IsTypedText part p × (is_movement p ≡ true) × (failing_line p slowdown ≡ None)
