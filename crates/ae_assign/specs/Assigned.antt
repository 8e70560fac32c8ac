-- What a register or a memory takes where an assignment may be missing.
use Rattle.std.specs.Prelude.{Option, Some, None}
use Rattle.ae_assign.specs.declared.statements.Next.{Next}
use Rattle.ae_assign.specs.declared.statements.Next.TheVariants.{Keep}

abbrev pub next_of : Option Next → Next
next_of None = Keep
next_of (Some k) = k
