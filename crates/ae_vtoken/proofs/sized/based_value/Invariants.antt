use Rattle.std.proofs.Common.{◌≡◌, ◌^◌, take, min}
use Rattle.std.specs.Prelude.{◌==◌, not, filter}
use Rattle.std.specs.Str.Parse.{digits_value}
use Rattle.ae_vtoken.proofs.sized.based_value.Given as goal

-- the value so far
abbrev pub invariant-digit : goal.invariant-digit
invariant-digit l = l.value ≡ min (digits_value l.base (filter (λ c. not (c == 95)) (take l.c-index l.digits))) (2 ^ 64)
