-- What `check` answers and writes.
use Rattle.std.specs.Prelude.{◌≡◌, ℕ, List}
use Rattle.ae_seq.specs.ProgramTree.{ProgramTree}
use Rattle.ae_compile.specs.Programs.{IsTypedText}
use Rattle.ae_jobs.specs.declared.status.Status.{Status}
use Rattle.ae_jobs.specs.declared.status.Status.TheVariants.{Ok}
use Rattle.ae_jobs.specs.CheckTexts.{check_text}
use Rattle.ae_jobs.specs.Programs.{IsRefusal}
use Rattle.ae_jobs.specs.Refusals.{refusal_line}

-- what `check` answers and writes
abbrev pub IsChecked : (part : List ℕ) → Status → (text : List ℕ) → Type 0
IsChecked part Ok text = (p : ProgramTree) × IsTypedText part p × (text ≡ check_text p)
IsChecked part status text = IsRefusal part status × (text ≡ refusal_line status)
