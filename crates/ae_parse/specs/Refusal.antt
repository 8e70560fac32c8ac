-- Why texts are refused.
use Rattle.std.specs.Prelude.{◌≡◌, ℕ, Some, List}
use Rattle.ae_fields.specs.Grammar.{Reading, bad_line, refused}
use Rattle.ae_parse.specs.declared.program_text.ParseFault.{ParseFault}
use Rattle.ae_parse.specs.declared.program_text.ParseFault.TheVariants.{BadLine, Memory}

-- that line is the first that is refused; want of memory says nothing
abbrev pub IsRefused : ParseFault → (text : List ℕ) → Type 0
IsRefused (BadLine line) text = bad_line text ≡ Some line
IsRefused Memory text = Unit {0}

-- a reading that refuses that line
abbrev pub IsRefusedAs : ParseFault → Reading → Type 0
IsRefusedAs (BadLine line) r = r ≡ refused line
IsRefusedAs Memory r = Unit {0}
