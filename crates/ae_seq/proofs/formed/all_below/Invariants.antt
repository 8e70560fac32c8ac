use Rattle.std.proofs.Common.{◌≡◌, drop}
use Rattle.ae_seq.specs.Formed.{all_below}
use Rattle.ae_seq.proofs.formed.all_below.Given as goal

abbrev pub invariant-loop-item : goal.invariant-loop-item
invariant-loop-item l = all_below l.bound (drop l.item-index l.items) ≡ all_below l.bound l.items
