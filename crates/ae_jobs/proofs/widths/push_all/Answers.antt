use Rattle.std.proofs.Common.{◌≡◌, ◌+◌, ◌++◌, ◌∷◌, [], List, map, drop, ap, sym, ◌∙◌, arith, append_assoc}
use Rattle.std.proofs.lemmas.List.{append-nil, drop_more, drop_all}
use Rattle.ae_seq.specs.ProgramTree.{ParamTree, param_tree}
use Rattle.ae_seq.specs.declared.program.Param.{Param}
use Rattle.ae_seqtype.specs.SeqTree.{SeqTree, seq_tree}
use Rattle.ae_jobs.specs.Inputs.{type_widths, widths_of}
use Rattle.ae_jobs.proofs.widths.push_all.Goals as goal

pub loop-param-preserved : goal.loop-param-preserved
loop-param-preserved c =
    let i = c.loop-param.param-index in
    let params = c.args.params.now in
    let step : drop i params ≡ c.param-item.result ∷ drop (i + 1) params = drop_more params i c.param-item.result c.loop-param-test.true ∙
    ap (λ p. p ∷ drop (i + 1) params) (sym c.param-item.is) in
    let types : List Param → List SeqTree = λ ps. map (λ (p : ParamTree). p.type) (map param_tree ps) in
    ap (λ x. x ++ widths_of (types (drop (i + 1) params))) c.in_ok-push_type.ensures
    ∙ append_assoc c.loop-param.widths.items (type_widths (seq_tree c.param-item.result.ty)) (widths_of (types (drop (i + 1) params)))
    ∙ ap (λ ps. c.loop-param.widths.items ++ widths_of (types ps)) (sym step)
    ∙ c.loop-param.invariant

pub returns : goal.returns
returns c =
    let i = c.loop-param.param-index in
    let params = c.args.params.now in
    let none : drop i params ≡ [] = drop_all i params (omega (arith, c.loop-param-test.false)) in
    let types : List Param → List SeqTree = λ ps. map (λ (p : ParamTree). p.type) (map param_tree ps) in
    sym (append-nil c.loop-param.widths.items) ∙ ap (λ ps. c.loop-param.widths.items ++ widths_of (types ps)) (sym none) ∙ c.loop-param.invariant
