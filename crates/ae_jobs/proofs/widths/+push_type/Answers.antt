use Rattle.std.proofs.Common.{◌≡◌, ◌++◌, ℕ, map, ap, sym, ◌∙◌, arith, append_assoc}
use Rattle.std.proofs.lemmas.List.{append-nil, map-append}
use Rattle.ae_word.specs.AtomTree.{WordKind}
use Rattle.ae_seqtype.specs.declared.seq_type.SeqType.{SeqType}
use Rattle.ae_seqtype.specs.SeqTree.{seq_tree, repeated, kinds}
use Rattle.ae_seqtype.proofs.Stands.{repeated-push}
use Rattle.ae_jobs.specs.Inputs.{type_widths}
use Rattle.ae_jobs.proofs.widths.+push_type.Goals as goal

pub loop-init : goal.loop-init
loop-init t c = sym (append-nil c.args.widths.now.items)

pub loop-preserved : goal.loop-preserved
loop-preserved t c =
    let width : WordKind → ℕ = λ k. k.width in
    let ks = kinds (seq_tree c.in-Seq.of.value) in
    let old = c.args.widths.now.items in
    c.in_ok-push_type-in-Seq.ensures
    ∙ ap (λ (t : SeqType). c.loop.widths.items ++ type_widths (seq_tree t)) c.deref.ensures
    ∙ ap (λ x. x ++ map width ks) c.loop.invariant
    ∙ append_assoc old (map width (repeated c.loop.counter ks)) (map width ks)
    ∙ ap (λ x. old ++ x) (sym (ap (map width) (repeated-push c.loop.counter ks) ∙ map-append width (repeated c.loop.counter ks) ks))

pub returns-after-loop : goal.returns-after-loop
returns-after-loop t c =
    let width : WordKind → ℕ = λ k. k.width in
    let ks = kinds (seq_tree c.in-Seq.of.value) in
    let old = c.args.widths.now.items in
    let all : c.loop.counter ≡ c.in-Seq.count = omega (arith, c.loop-test.false, c.loop.auto.counter-end) in
    c.loop.invariant ∙ ap (λ k. old ++ map width (repeated k ks)) all ∙ ap (λ (t : SeqType). old ++ type_widths (seq_tree t)) (sym c.in-Seq.is)
