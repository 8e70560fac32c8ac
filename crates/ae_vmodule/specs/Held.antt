-- The pieces of a stack, the last first.
use Rattle.std.specs.Prelude.{List, []}
use Rattle.ae_vmodule.specs.Numbered.{Piece}
use Rattle.ae_vmodule.specs.Postfix.{run}
use Rattle.ae_vmodule.specs.declared.stack.Stack.{Stack}

abbrev pub held : Stack → List Piece
held s = run s.symbols.items []
