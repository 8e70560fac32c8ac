use Rattle.std.proofs.Common.{◌∙◌, ◌++◌, ap, sym, take, append_assoc, append-nil}
use Rattle.std.specs.List.{concat}
use Rattle.ae_eval.proofs.Answering.{concat-all, concat-more}
use Rattle.ae_eval.proofs.program.push_inputs.Goals as goal

pub loop-input-init : goal.loop-input-init
loop-input-init c = sym (append-nil c.args.stack.now.items)

pub loop-input-preserved : goal.loop-input-preserved
loop-input-preserved c =
    let words = c.deref.ensures.value ∙ c.input.view_is in
    let more = concat-more c.args.inputs.now c.loop-input.input-index c.input-item.result c.loop-input-test.true c.input-item.is in
    c.in_ok-push_words.ensures ∙ ap (λ ys. ys ++ c.deref.result.now) c.loop-input.invariant ∙
    ap (λ ys. (c.args.stack.now.items ++ concat (take c.loop-input.input-index c.args.inputs.now)) ++ ys) words
    ∙ append_assoc c.args.stack.now.items (concat (take c.loop-input.input-index c.args.inputs.now)) c.input-item.result
    ∙ ap (λ ys. c.args.stack.now.items ++ ys) (sym more)

pub returns : goal.returns
returns c = c.loop-input.invariant ∙ ap (λ ys. c.args.stack.now.items ++ ys) (concat-all c.args.inputs.now c.loop-input.input-index c.loop-input-test.false)
