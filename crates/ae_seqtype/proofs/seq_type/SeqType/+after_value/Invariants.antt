use Rattle.std.proofs.Common.{◌≡◌, ◌-◌}
use Rattle.ae_seqtype.specs.SeqTree.{repeated, kinds}
use Rattle.ae_seqtype.specs.SeqTree.{seq_tree}
use Rattle.ae_seqtype.specs.ValueTree.{after}
use Rattle.ae_seqtype.proofs.seq_type.SeqType.+after_value.Given as goal

abbrev pub invariant-loop-turn : goal.invariant-loop-turn
invariant-loop-turn l =
    after (repeated (l._turn-end - l._turn) (kinds (seq_tree l.of.value))) l.rest ≡ after (kinds (seq_tree l.self)) l.words
