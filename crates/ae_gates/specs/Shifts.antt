-- Shifts by a number of places.
use Rattle.std.specs.Prelude.{ℕ, ◌*◌, ◌/◌, ◌%◌, ◌^◌}
use Rattle.ae_gates.specs.declared.compounds.Way.{Way}
use Rattle.ae_gates.specs.declared.compounds.Way.TheVariants.{Left, Right}

-- a word of a width moved by so many places
abbrev pub moved : Way → (w a places : ℕ) → ℕ
moved Left w a places = (a * 2 ^ places) % 2 ^ w
moved Right w a places = a / 2 ^ places
