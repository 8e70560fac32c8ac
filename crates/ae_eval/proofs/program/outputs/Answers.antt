use Rattle.std.proofs.Common.{◌<◌, ◌∙◌, List, ℕ, length, get_or, sym, arith, subst}
use Rattle.std.proofs.lemmas.List.{take_all}
use Rattle.ae_seq.specs.ProgramTree.{program_tree}
use Rattle.ae_eval.specs.Stack.{types_in}
use Rattle.ae_eval.proofs.Answering.{Outputs, outputs-first, outputs-next}
use Rattle.ae_eval.proofs.program.outputs.Goals as goal

pub loop-item-init : goal.loop-item-init
loop-item-init c = outputs-first (program_tree c.args.p.now) c.args.func c.args.stack.now c.new-found.result.items c.new-found.ensures.items

pub loop-item-preserved : goal.loop-item-preserved
loop-item-preserved c =
    let e = c.results-item-items.ensures.results in
    let there : get_or c.results-item-items.result.now c.loop-item.item-index 0 < length (types_in (program_tree c.args.p.now) c.args.func) =
    subst (λ xs. c.loop-item.item-index < length xs → get_or xs c.loop-item.item-index 0 < length (types_in (program_tree c.args.p.now) c.args.func)) (sym e)
    (c.results-item-items.ensures.there c.loop-item.item-index 0) c.loop-item-test.true in
    outputs-next (program_tree c.args.p.now) c.args.func c.loop-item.item-index c.args.stack.now c.results-item-items.result.now c.loop-item.found.items
    c.append.new.found.items c.in_ok-value.value
    c.requires.typed c.loop-item-test.true there c.loop-item.invariant c.in_ok-value.ensures.words c.in_ok-value.ensures.fits c.in_ok-append.ensures

pub returns-clause-words : goal.returns-clause-words
returns-clause-words c =
    let whole = take_all c.loop-item.item-index c.results-item-items.result.now (omega arith) ∙ c.results-item-items.ensures.results in
    let P : List ℕ → Type 0 = λ xs. Outputs (program_tree c.args.p.now) c.args.func c.args.stack.now xs c.loop-item.found.items in
    (subst P whole c.loop-item.invariant).words

pub returns-clause-fits : goal.returns-clause-fits
returns-clause-fits c =
    let whole = take_all c.loop-item.item-index c.results-item-items.result.now (omega arith) ∙ c.results-item-items.ensures.results in
    let P : List ℕ → Type 0 = λ xs. Outputs (program_tree c.args.p.now) c.args.func c.args.stack.now xs c.loop-item.found.items in
    (subst P whole c.loop-item.invariant).fits
