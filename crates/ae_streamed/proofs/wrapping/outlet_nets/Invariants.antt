use Rattle.std.proofs.Common.{◌≡◌, length, take}
use Rattle.ae_streamed.specs.Between.{copied_nets}
use Rattle.ae_streamed.proofs.wrapping.outlet_nets.Given as goal

abbrev pub invariant-loop-k : goal.invariant-loop-k
invariant-loop-k l = record {
  all : l.k-end ≡ length l.nl.outlets;
  nets : l.nets.items ≡ copied_nets (take l.k l.nl.outlets);
}
