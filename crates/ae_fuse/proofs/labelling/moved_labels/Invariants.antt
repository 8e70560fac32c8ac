use Rattle.std.proofs.Common.{◌≡◌, ◌≤◌, ◌*◌, ◌/◌, ◌%◌, map}
use Rattle.std.specs.List.{range_with_len}
use Rattle.ae_delay.specs.Moving.{origin_from}
use Rattle.ae_fuse.specs.Labels.{label_from}
use Rattle.ae_fuse.proofs.labelling.moved_labels.Given as goal

abbrev pub invariant-loop-o : goal.invariant-loop-o
invariant-loop-o l = record {
  moved : l.moved.items ≡ map (λ o. label_from l.labels l.words (origin_from l.how l.arg_atoms l.out_atoms (o / l.words) (o % l.words))) (range_with_len 0 l.o);
  within : l.o ≤ l.out_atoms * l.words;
}
