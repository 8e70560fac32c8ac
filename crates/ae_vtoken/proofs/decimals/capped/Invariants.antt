use Rattle.std.proofs.Common.{◌≡◌, take, min}
use Rattle.std.specs.Str.Parse.{digits_value}
use Rattle.ae_vtoken.proofs.decimals.capped.Given as goal

abbrev pub invariant-loop-d : goal.invariant-loop-d
invariant-loop-d l = l.value ≡ min (digits_value 10 (take l.d-index l.digits)) 4294967295
