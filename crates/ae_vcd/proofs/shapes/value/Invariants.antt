use Rattle.std.proofs.Common.{◌≡◌, ◌<◌, ◌^◌, take, drop}
use Rattle.std.specs.Str.Parse.{AllDigits, digits_value}
use Rattle.ae_vcd.proofs.shapes.value.Given as goal

abbrev pub invariant-loop-digit : goal.invariant-loop-digit
invariant-loop-digit l = (l.value ≡ digits_value l.radix (take l.digit-index l.digits)) × (AllDigits l.radix (drop l.digit-index l.digits)) × (l.value < 2 ^ 64)
