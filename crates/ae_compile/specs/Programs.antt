-- The program of an input, and why there is none.
use Rattle.std.specs.Prelude.{◌≡◌, ℕ, Some, None, List}
use Rattle.ae_seq.specs.ProgramTree.{ProgramTree}
use Rattle.ae_seq.specs.Typing.{Judged, untyped, too_large, refused_line}
use Rattle.ae_fields.specs.Grammar.{IsProgramText as Reads, bad_line}
use Rattle.ae_compile.specs.declared.faults.CompileFault.{CompileFault}
use Rattle.ae_compile.specs.declared.faults.CompileFault.TheVariants.{BadLine, BadType, TooLarge, Memory}

-- the text is this program, and no line of it is refused
pub record IsTypedText (part : List ℕ) (p : ProgramTree) : Type 0 where
  pub reads : Reads part p
  pub typed : refused_line p ≡ None

-- the text is a program with a line that is refused so
pub record IsRefusedAt (part : List ℕ) (judged : Judged) : Type 0 where
  pub program : ProgramTree
  pub reads : Reads part program
  pub refused : refused_line program ≡ Some judged

-- the first bad line, or the first line that has no type, or whose type is too large; want of memory says nothing
abbrev pub IsTypedFault : (part : List ℕ) → CompileFault → Type 0
IsTypedFault part (BadLine line) = bad_line part ≡ Some line
IsTypedFault part (BadType line) = IsRefusedAt part (record { line = line; verdict = untyped })
IsTypedFault part (TooLarge line) = IsRefusedAt part (record { line = line; verdict = too_large })
IsTypedFault part Memory = Unit {0}
IsTypedFault part _ = ⊥

-- the refused line of a program
abbrev pub IsTypeFault : CompileFault → ProgramTree → Type 0
IsTypeFault (BadType line) p = refused_line p ≡ Some (record { line = line; verdict = untyped })
IsTypeFault (TooLarge line) p = refused_line p ≡ Some (record { line = line; verdict = too_large })
IsTypeFault Memory p = Unit {0}
IsTypeFault _ p = ⊥
