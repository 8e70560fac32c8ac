use Rattle.std.proofs.Common.{◌∙◌, ap, sym, subst}
use Rattle.std.proofs.lemmas.Bool.{false≢true}
use Rattle.ae_seqtype.specs.SeqTree.{seq_tree}
use Rattle.ae_seqtype.specs.ValueTree.{Fit}
use Rattle.ae_seq.specs.declared.program.Param.{Param}
use Rattle.ae_seq.specs.ProgramTree.{program_tree}
use Rattle.ae_eval.specs.Stack.{params_in}
use Rattle.ae_eval.specs.Lines.{input_types}
use Rattle.ae_eval.proofs.Answering.{read-count, read-fitting, read-unfit}
use Rattle.ae_eval.proofs.program.fits.Goals as goal

pub returns-then-params-inputs : goal.returns-then-params-inputs
returns-then-params-inputs c =
    let p = program_tree c.args.p.now in
    let types = c.params-params.ensures ∙ ap (params_in p) c.last_func.ensures.is in
    (λ no. absurd (false≢true no), λ all. absurd (c.if-params-inputs.true (read-count (input_types p) c.params-params.result.now c.args.inputs.now types all)))

pub loop-index-preserved : goal.loop-index-preserved
loop-index-preserved c =
    let p = program_tree c.args.p.now in
    let types = c.params-params.ensures ∙ ap (params_in p) c.last_func.ensures.is in
    let F : Param → Type 0 = λ z. Fit (seq_tree z.ty) c.index-inputs-index.result in
    read-fitting (input_types p) c.params-params.result.now c.args.inputs.now c.loop-index.index c.index-params-index.result c.index-inputs-index.result types
    c.if-params-inputs.false c.loop-index-test.true c.index-params-index.is c.index-inputs-index.is
    (subst F (sym c.index-params-index.is) (c.fits.ensures.0 c.if-not-fits.false)) c.loop-index.invariant

pub returns-then-not-fits : goal.returns-then-not-fits
returns-then-not-fits c =
    let p = program_tree c.args.p.now in
    let types = c.params-params.ensures ∙ ap (params_in p) c.last_func.ensures.is in
    let F : Param → Type 0 = λ z. Fit (seq_tree z.ty) c.index-inputs-index.result in (
      λ no. absurd (false≢true no),
      λ all. absurd (read-unfit (input_types p) c.params-params.result.now c.args.inputs.now c.loop-index.index c.index-params-index.result
          c.index-inputs-index.result types c.if-params-inputs.false c.loop-index-test.true c.index-params-index.is c.index-inputs-index.is
          (λ f. false≢true (sym c.if-not-fits.true ∙ c.fits.ensures.1 (subst F c.index-params-index.is f))) c.loop-index.invariant all),
    )
