use Rattle.std.proofs.Common.{◌≡◌, ◌≤◌, take, count_by, nat_lt}
use Rattle.ae_gather.proofs.cost.late_count.Given as goal

abbrev pub invariant-loop-age : goal.invariant-loop-age
invariant-loop-age l = record {
  count : l.count ≡ count_by (λ tap. nat_lt 0 tap) (take l.age-index l.ages);
  few : l.count ≤ l.age-index;
}
