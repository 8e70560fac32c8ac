-- Words of eight bits.
use Rattle.std.specs.Prelude.{false}
use Rattle.ae_word.specs.AtomTree.{WordKind}

abbrev pub byte_kind : WordKind
byte_kind = record { signed = false; width = 8 }
