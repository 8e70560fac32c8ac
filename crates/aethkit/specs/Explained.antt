-- What is said of a call of the compiler to explain its answer.
use Rattle.std.specs.Prelude.{◌≡◌, ℕ, Bool, true, false, List, ◌++◌, codes}
use Rattle.ae_jobs.specs.declared.status.Status.{Status}
use Rattle.ae_jobs.specs.declared.status.Status.TheVariants.{Ok}
use Rattle.ae_tool.specs.Outcomes.{IsOutcome}

-- nothing is refused
abbrev pub is_ok : Status → Bool
is_ok Ok = true
is_ok _ = false

-- of the outcome of these words on these bytes: where nothing is refused, that nothing is to be explained; where something is,
-- the very line that is written, and more behind it
pub data IsExplained (words : List (List ℕ)) (bytes text : List ℕ) : Type 0 where
  Nothing :
      (status : Status) → is_ok status ≡ true → (answer : List ℕ) → IsOutcome words bytes status answer →
      text ≡ codes "nothing to explain\n" → IsExplained words bytes text
  Refused :
      (status : Status) → is_ok status ≡ false → (answer more : List ℕ) → IsOutcome words bytes status answer →
      text ≡ answer ++ more → IsExplained words bytes text
