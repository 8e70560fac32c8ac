use Rattle.std.proofs.Common.{length, ◌-◌, ◌≡◌, ◌≤◌, drop, take, true}
use Rattle.std.specs.List.{list_all}
use Rattle.ae_vtoken.specs.Scan.{is_based}
use Rattle.ae_vtoken.proofs.sized.based_end.Given as goal

-- up to i all are digits and `_`
abbrev pub invariant-based : goal.invariant-based
invariant-based l = (l.from ≤ l.i) × (l.i ≤ length l.text) × (list_all (is_based l.base) (take (l.i - l.from) (drop l.from l.text)) ≡ true)

abbrev pub decreases-based : goal.decreases-based
decreases-based l = length l.text - l.i
