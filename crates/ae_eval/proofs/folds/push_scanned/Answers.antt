use Rattle.std.proofs.Common.{◌≡◌, ◌∙◌, ◌+◌, ◌*◌, ◌≤◌, ◌-◌, ◌++◌, ap, arith, subst, length, sym}
use Rattle.ae_seqtype.specs.declared.seq_type.SeqType.{SeqType}
use Rattle.ae_seqtype.specs.SeqTree.{kinds, seq_tree, words}
use Rattle.ae_eval.specs.Stack.{FitAt, combined, window}
use Rattle.ae_eval.proofs.Scanning.{scan-first, scan-next, scan-left, scan-right, scan-done, count-some}
use Rattle.ae_eval.proofs.folds.push_scanned.Goals as goal

pub loop-index-init : goal.loop-index-init
loop-index-init c =
    let form = ap seq_tree c.in-Seq.is in
    let k = c.words-size.ensures ∙ ap (λ t. words (seq_tree t)) c.deref.ensures in
    let some = count-some c.in-Seq.count (seq_tree c.args.ty.now) (seq_tree c.in-Seq.of.value) form c.requires.sized in
    scan-first c.args.op c.in-Seq.count c.args.start c.words-size.result (seq_tree c.args.ty.now)
    (seq_tree c.in-Seq.of.value) c.args.stack.now.items c.push_copy.new.stack.items form some k c.requires.fits c.in_ok-push_copy.ensures

pub push_combined-requires-clause-first : goal.push_combined-requires-clause-first
push_combined-requires-clause-first c =
    let k = c.words-size.ensures ∙ ap (λ t. words (seq_tree t)) c.deref.ensures in
    let base : c.len-base.result ≡ length c.args.stack.now.items = (let e = c.len-base.ensures in omega arith) in
    let low : 1 ≤ c.loop-index.index = omega arith in
    let P : SeqType → Type 0 = λ z. FitAt (seq_tree z) (c.len-base.result + (c.loop-index.index - 1) * c.words-size.result) c.loop-index.stack.items in
    subst P (sym c.deref-in-loop-index.ensures) (scan-left c.args.op c.in-Seq.count c.args.start c.len-base.result c.words-size.result c.loop-index.index
    (seq_tree c.args.ty.now) (seq_tree c.in-Seq.of.value) c.args.stack.now.items c.loop-index.stack.items base k low c.loop-index.invariant)

pub push_combined-requires-clause-second : goal.push_combined-requires-clause-second
push_combined-requires-clause-second c =
    let form = ap seq_tree c.in-Seq.is in
    let k = c.words-size.ensures ∙ ap (λ t. words (seq_tree t)) c.deref.ensures in
    let P : SeqType → Type 0 = λ z. FitAt (seq_tree z) (c.args.start + c.loop-index.index * c.words-size.result) c.loop-index.stack.items in
    subst P (sym c.deref-in-loop-index.ensures) (scan-right c.args.op c.in-Seq.count c.args.start c.len-base.result c.words-size.result c.loop-index.index
    (seq_tree c.args.ty.now) (seq_tree c.in-Seq.of.value) c.args.stack.now.items c.loop-index.stack.items form k c.loop-index-test.true c.requires.fits
    c.loop-index.invariant)

pub loop-index-preserved : goal.loop-index-preserved
loop-index-preserved c =
    let form = ap seq_tree c.in-Seq.is in
    let k = c.words-size.ensures ∙ ap (λ t. words (seq_tree t)) c.deref.ensures in
    let base : c.len-base.result ≡ length c.args.stack.now.items = (let e = c.len-base.ensures in omega arith) in
    let low : 1 ≤ c.loop-index.index = omega arith in
    let now = c.loop-index.stack.items in
    let P : SeqType → Type 0 = λ z. c.push_combined.new.stack.items ≡ now
    ++ combined c.args.op (kinds (seq_tree z)) (window (seq_tree z) (c.len-base.result + (c.loop-index.index - 1) * c.words-size.result) now)
    (window (seq_tree z) (c.args.start + c.loop-index.index * c.words-size.result) now) in
    scan-next c.args.op c.in-Seq.count c.args.start c.len-base.result c.words-size.result c.loop-index.index (seq_tree c.args.ty.now)
    (seq_tree c.in-Seq.of.value) c.args.stack.now.items now c.push_combined.new.stack.items c.requires.folds form base k low c.loop-index-test.true
    c.requires.fits c.loop-index.invariant (subst P c.deref-in-loop-index.ensures c.in_ok-push_combined.ensures)

pub returns : goal.returns
returns c =
    let form = ap seq_tree c.in-Seq.is in
    let some = count-some c.in-Seq.count (seq_tree c.args.ty.now) (seq_tree c.in-Seq.of.value) form c.requires.sized in
    let done : c.loop-index.index ≡ c.in-Seq.count = omega arith in
    scan-done c.args.op c.in-Seq.count c.args.start c.loop-index.index (seq_tree c.args.ty.now)
    (seq_tree c.in-Seq.of.value) c.args.stack.now.items c.loop-index.stack.items form done c.loop-index.invariant
