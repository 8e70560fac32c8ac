use Rattle.std.proofs.Common.{◌≡◌, ◌≤◌, ◌∙◌, ap, map, arith, sym}
use Rattle.std.proofs.lemmas.Option.{same_Some}
use Rattle.ae_sttype.specs.StTree.{st_tree}
use Rattle.ae_rewrite.specs.StProgramTree.{StFuncTree, st_func_tree, st_func_trees}
use Rattle.ae_delay.specs.declared.own.OwnCosts.{OwnCosts}
use Rattle.ae_lower.specs.Circuits.{last_of, results_of}
use Rattle.ae_compile.specs.Costing.{load_limit, main_costs, whole_costs}
use Rattle.ae_seq.specs.ProgramTree.{program_tree}
use Rattle.ae_compile.proofs.Made.{known_costs}
use Rattle.ae_compile.proofs.circuits.report.Goals as goal

pub output_layouts-requires : goal.output_layouts-requires
output_layouts-requires c =
    (c.main_instance-s.ensures.known.sound.each (last_of (st_func_trees c.args.costed.now.schedule))
    (st_func_tree c.main_instance-s.result.now) c.main_instance-s.ensures.last).results

pub overflow_cast-result : goal.overflow_cast-result
overflow_cast-result c =
    let p = program_tree c.args.costed.now.program in
    let all = st_func_trees c.args.costed.now.schedule in
    let costs = ap whole_costs c.costs-costs.ensures.is ∙
    known_costs load_limit p c.args.costed.now.slowdown all c.args.costed.now.costs c.costs-costs.ensures.known in
    let load : c.load.result ≡ (main_costs p all).load = c.load.ensures ∙ ap (λ (k : OwnCosts). k.load) costs in
    let light : (main_costs p all).load ≤ 100000 = c.costs-costs.ensures.known.light in
    omega (arith, load, light)

pub returns-clause-told : goal.returns-clause-told
returns-clause-told c = λ s found.
    let all = st_func_trees c.args.costed.now.schedule in
    let own = st_func_tree c.main_instance-s.result.now in
    let same : own ≡ s = same_Some own s (sym c.main_instance-s.ensures.last ∙ found) in
    let p = program_tree c.args.costed.now.program in
    let costs = ap whole_costs c.costs-costs.ensures.is ∙
    known_costs load_limit p c.args.costed.now.slowdown all c.args.costed.now.costs c.costs-costs.ensures.known in
    let latency : c.latency.result ≡ (main_costs p all).latency = c.latency.ensures ∙ ap (λ (k : OwnCosts). k.latency) costs in
    let muls : c.muls.result ≡ (main_costs p all).muls = c.muls.ensures ∙ ap (λ (k : OwnCosts). k.muls) costs in
    let load : c.load.result ≡ (main_costs p all).load = c.load.ensures ∙ ap (λ (k : OwnCosts). k.load) costs in
    let ins : map st_tree c.in_ok-input_layouts.field-0.items ≡ s.ins = c.in_ok-input_layouts.ensures ∙ ap (λ (x : StFuncTree). x.ins) same in
    let outs : map st_tree c.in_ok-output_layouts.field-0.items ≡ results_of s = c.in_ok-output_layouts.ensures ∙ ap results_of same in
    λ i. record { slowdown = c.slowdown.ensures i; latency = latency i; muls = muls i; load = load i; enable = c.args.enable; ins = ins i; outs = outs i }
