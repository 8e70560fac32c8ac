use Rattle.std.proofs.Common.{◌≡◌, ◌≤◌, ◌*◌, ◌/◌, ◌++◌, length, map, get_or}
use Rattle.std.specs.List.{range_with_len}
use Rattle.ae_fuse.proofs.clocks.add_words.Given as goal

abbrev pub invariant-loop-o : goal.invariant-loop-o
invariant-loop-o l = record {
  clocks : l.clocks.items ≡ l.initial.clocks.items ++ map (λ o. get_or l.elements (o / l.words) 0) (range_with_len 0 l.o);
  within : l.o ≤ length l.elements * l.words;
}
