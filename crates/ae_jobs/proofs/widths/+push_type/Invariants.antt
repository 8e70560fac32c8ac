use Rattle.std.proofs.Common.{◌≡◌, ◌++◌, map}
use Rattle.ae_word.specs.AtomTree.{WordKind}
use Rattle.ae_seqtype.specs.SeqTree.{seq_tree, repeated, kinds}
use Rattle.ae_jobs.proofs.widths.+push_type.Given as goal

abbrev pub invariant-loop : goal.invariant-loop
invariant-loop l = l.widths.items ≡ l.initial.widths.items ++ map (λ (k : WordKind). k.width) (repeated l.counter (kinds (seq_tree l.of.value)))
