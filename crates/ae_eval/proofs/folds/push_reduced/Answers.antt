use Rattle.std.proofs.Common.{◌≡◌, ◌∙◌, ap, arith, length}
use Rattle.ae_seqtype.specs.SeqTree.{seq_tree, words}
use Rattle.ae_eval.proofs.Scanning.{count-some, reduce-pushed, reduce-room}
use Rattle.ae_eval.proofs.folds.push_reduced.Goals as goal

pub settle-requires-clause-room : goal.settle-requires-clause-room
settle-requires-clause-room c =
    let form = ap seq_tree c.in-Seq.is in
    let k = c.words-size.ensures ∙ ap (λ t. words (seq_tree t)) c.deref.ensures in
    let base : c.len-base.result ≡ length c.args.stack.now.items = (let e = c.len-base.ensures in omega arith) in
    let some = count-some c.in-Seq.count (seq_tree c.args.ty.now) (seq_tree c.in-Seq.of.value) form c.requires.sized in
    reduce-room c.args.op c.in-Seq.count c.args.start c.len-base.result c.words-size.result (seq_tree c.args.ty.now)
    (seq_tree c.in-Seq.of.value) c.args.stack.now.items c.push_scanned.new.stack.items form base k some c.in_ok-push_scanned.ensures

pub returns : goal.returns
returns c =
    let form = ap seq_tree c.in-Seq.is in
    let k = c.words-size.ensures ∙ ap (λ t. words (seq_tree t)) c.deref.ensures in
    let base : c.len-base.result ≡ length c.args.stack.now.items = (let e = c.len-base.ensures in omega arith) in
    let some = count-some c.in-Seq.count (seq_tree c.args.ty.now) (seq_tree c.in-Seq.of.value) form c.requires.sized in
    reduce-pushed c.args.op c.in-Seq.count c.args.start c.len-base.result c.words-size.result (seq_tree c.args.ty.now)
    (seq_tree c.in-Seq.of.value) c.args.stack.now.items c.push_scanned.new.stack.items c.settle.new.stack.items form base k some
    c.in_ok-push_scanned.ensures c.settle.ensures
