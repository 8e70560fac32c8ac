use Rattle.std.proofs.Common.{◌∙◌, sym, ap}
use Rattle.ae_seqtype.specs.ValueTree.{after}
use Rattle.ae_seqtype.specs.SeqTree.{kinds}
use Rattle.ae_seqtype.specs.SeqTree.{seq_tree}
use Rattle.ae_seqtype.proofs.Values.{after-turn, after-turn-none}
use Rattle.ae_seqtype.proofs.seq_type.SeqType.+after_value.Goals as goal

pub returns-in_err-rest-in-Seq : goal.returns-in_err-rest-in-Seq
returns-in_err-rest-in-Seq t c =
    let e = c.in_err-rest-in-Seq.ensures ∙ ap (λ x. after (kinds (seq_tree x)) c.loop-turn.rest.now) c.deref.ensures in
    rw c.from_residual.ensures (after-turn-none c.in-Seq.count c.loop-turn._turn
    (kinds (seq_tree c.in-Seq.of.value)) c.loop-turn.rest.now c.loop-turn-test.true e ∙ c.loop-turn.invariant)

pub loop-turn-preserved : goal.loop-turn-preserved
loop-turn-preserved t c =
    let e = c.in_ok-rest-in-Seq.ensures ∙ ap (λ x. after (kinds (seq_tree x)) c.loop-turn.rest.now) c.deref.ensures in
    sym (after-turn c.in-Seq.count c.loop-turn._turn (kinds (seq_tree c.in-Seq.of.value)) c.loop-turn.rest.now c.in_ok-rest-in-Seq.rest.now
    c.loop-turn-test.true e) ∙ c.loop-turn.invariant
