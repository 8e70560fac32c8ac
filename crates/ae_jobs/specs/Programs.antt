-- Why an input is no program.
use Rattle.std.specs.Prelude.{◌≡◌, ℕ, Some, List}
use Rattle.ae_seq.specs.Typing.{untyped, too_large}
use Rattle.ae_fields.specs.Grammar.{bad_line}
use Rattle.ae_compile.specs.Programs.{IsRefusedAt}
use Rattle.ae_jobs.specs.declared.status.Status.{Status}
use Rattle.ae_jobs.specs.declared.status.Status.TheVariants.{BadLine, BadType, TooLarge}

-- the first bad line, or the first line that has no type, or whose type is too large
abbrev pub IsRefusal : (part : List ℕ) → Status → Type 0
IsRefusal part (BadLine line) = bad_line part ≡ Some line
IsRefusal part (BadType line) = IsRefusedAt part (record { line = line; verdict = untyped })
IsRefusal part (TooLarge line) = IsRefusedAt part (record { line = line; verdict = too_large })
IsRefusal part _ = ⊥
