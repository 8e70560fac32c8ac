use Rattle.std.proofs.Common.{◌≡◌, length, take}
use Rattle.ae_delay.specs.Costs.{latest, uses_at}
use Rattle.ae_delay.specs.Weighing.{deepened}
use Rattle.ae_retime.proofs.uses.deepen.Given as goal

abbrev pub invariant-loop-item : goal.invariant-loop-item
invariant-loop-item l = record {
  chains : l.chains.items ≡ deepened l.initial.chains.items (uses_at l.arrivals (latest l.arrivals l.items) (take l.item-index l.items));
  long : length l.chains.items ≡ length l.initial.chains.items;
}
