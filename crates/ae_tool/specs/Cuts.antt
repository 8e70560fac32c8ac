-- What an input says: a program, and rows of words behind a line `%%`.
use Rattle.std.specs.Prelude.{◌≡◌, ℕ, Bool, true, false, List, [], take, drop}
use Rattle.ae_fields.specs.Cut.{lines}
use Rattle.ae_fields.specs.Parts.{no_mark, IsSplit}
use Rattle.ae_fields.specs.Rows.{rows}

-- the bytes before the first `%%` line, and the rows behind it, as lists of fields: none without such a line
pub data IsCut (bytes part : List ℕ) (table : List (List (List ℕ))) : Type 0 where
  Marked : (end start : ℕ) → IsSplit bytes end start → part ≡ take end bytes → table ≡ rows (drop start bytes)
      → IsCut bytes part table
  Unmarked : no_mark (lines bytes) ≡ true → part ≡ bytes → table ≡ [] → IsCut bytes part table

-- what a job takes for the parts of its input: all of it, without rows, or what stands before and behind that line
abbrev pub AreParts : (whole : Bool) → (bytes part : List ℕ) (table : List (List (List ℕ))) → Type 0
AreParts true bytes part table = (part ≡ bytes) × (table ≡ [])
AreParts false bytes part table = IsCut bytes part table
