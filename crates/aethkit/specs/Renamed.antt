-- The module of a program under another name, in a wrapper.
use Rattle.std.specs.Prelude.{◌≡◌, ℕ, true, List, [], ◌∷◌, ◌++◌, codes}
use Rattle.std.specs.Fmt.{decimal}
use Rattle.ae_jobs.specs.declared.status.Status.{Status}
use Rattle.ae_tool.specs.Outcomes.{IsOutcome}
use Rattle.aethkit.specs.Explained.{is_ok}

-- the words of `build S`
abbrev pub build_words : ℕ → List (List ℕ)
build_words slowdown = codes "build" ∷ decimal slowdown ∷ []

-- what `build S` writes for the bytes, where nothing is refused
pub record IsBuild (slowdown : ℕ) (bytes text : List ℕ) : Type 0 where
  pub status : Status
  pub done : is_ok status ≡ true
  pub outcome : IsOutcome (build_words slowdown) bytes status text

-- a text, and the same with a name in place of one word, the name of its module
pub record IsRenamed (name text renamed : List ℕ) : Type 0 where
  pub before : List ℕ
  pub behind : List ℕ
  pub was : text ≡ before ++ (codes "module aeth (" ++ behind)
  pub is : renamed ≡ before ++ (codes "module " ++ (name ++ (codes " (" ++ behind)))

-- what `build S` writes for the bytes, under a name
pub record IsRenamedBuild (slowdown : ℕ) (bytes name renamed : List ℕ) : Type 0 where
  pub text : List ℕ
  pub build : IsBuild slowdown bytes text
  pub differs : IsRenamed name text renamed

-- the same, and a wrapper behind it
pub record IsTop (slowdown : ℕ) (bytes name text : List ℕ) : Type 0 where
  pub renamed : List ℕ
  pub build : IsRenamedBuild slowdown bytes name renamed
  pub wrapper : List ℕ
  pub whole : text ≡ renamed ++ wrapper
