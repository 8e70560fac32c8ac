use Rattle.std.proofs.Common.{length, ◌-◌, ◌≡◌, ◌≤◌, drop, take, true}
use Rattle.std.specs.List.{list_all}
use Rattle.std.specs.Char.{is_ascii_digit}
use Rattle.ae_vtoken.proofs.decimals.digits_end.Given as goal

abbrev pub invariant-digit : goal.invariant-digit
invariant-digit l = (l.from ≤ l.i) × (l.i ≤ length l.text) × (list_all is_ascii_digit (take (l.i - l.from) (drop l.from l.text)) ≡ true)

abbrev pub decreases-digit : goal.decreases-digit
decreases-digit l = length l.text - l.i
