use Rattle.std.proofs.Common.{◌≡◌, ◌∙◌, ◌++◌, ap, subst, sym, List, ℕ, map, Vec, Global}
use Rattle.std.specs.List.{concat}
use Rattle.std.proofs.lemmas.Result.{IfOk-weaker}
use Rattle.ae_seqtype.specs.ValueTree.{flat}
use Rattle.ae_seq.specs.Meaning.{at, mean}
use Rattle.ae_seq.specs.declared.program.Program.{Program}
use Rattle.ae_seq.specs.ProgramTree.{ProgramTree, program_tree}
use Rattle.ae_eval.specs.Stack.{FitIn, params_in, types_in, values_in, values_of}
use Rattle.ae_eval.specs.Lines.{input_types, results_in}
use Rattle.ae_eval.proofs.Answering.{all-fit, mean-by}
use Rattle.ae_eval.proofs.program.Evaluator.eval.Goals as goal

pub eval_func-requires-clause-fits : goal.eval_func-requires-clause-fits
eval_func-requires-clause-fits c =
    let p = program_tree c.self.inside.program.now in
    let given = rw (← c.self.view_is) at c.requires in
    let stack = c.in_ok-push_inputs.ensures ∙ ap (λ ys. ys ++ concat c.args.inputs.now) c.new-stack.ensures.items in
    let P : ℕ → Type 0 = λ n. FitIn (params_in p n) c.push_inputs.new.stack.items in
    let Q : List ℕ → Type 0 = λ ys. FitIn (input_types p) ys in
    subst P (sym c.last_func-last.ensures.is) (subst Q (sym stack) (all-fit (input_types p) c.args.inputs.now given))

pub returns-clause-words : goal.returns-clause-words
returns-clause-words c =
    let p = program_tree c.self.inside.program.now in
    let given = rw (← c.self.view_is) at c.requires in
    let last = c.last_func-last.result in
    let stack = c.in_ok-push_inputs.ensures ∙ ap (λ ys. ys ++ concat c.args.inputs.now) c.new-stack.ensures.items in
    let same = mean-by p last c.deref-3.result.now c.eval_func.new.stack.items c.push_inputs.new.stack.items c.args.inputs.now
    c.last_func-last.ensures.typed c.last_func-last.ensures.is c.last_func-last.ensures.known given stack c.in_ok-eval_func.ensures
    c.deref-3.ensures.value in
    let own : ProgramTree = program_tree c.args.self.now in
    let here : map flat (mean p (values_of (input_types p) c.args.inputs.now)) ≡ map flat (mean own (values_of (input_types own) c.args.inputs.now)) =
    ap (λ (q : Program). map flat (mean (program_tree q) (values_of (input_types (program_tree q)) c.args.inputs.now))) c.self.view_is in
    let P : Vec (List ℕ) Global → Type 0 = λ vs. vs.items ≡ map flat (map (at (values_in (types_in p last) c.deref-3.result.now)) (results_in p last)) in
    let Q : Vec (List ℕ) Global → Type 0 = λ vs. vs.items ≡ map flat (mean own (values_of (input_types own) c.args.inputs.now)) in
    IfOk-weaker c.outputs.result P Q (λ vs e. e ∙ same ∙ here) c.outputs.ensures.words
