use Rattle.std.proofs.Common.{◌≡◌, ◌≤◌, ◌∙◌, List, length, map, ap, sym, subst, arith}
use Rattle.std.specs.Prelude.{String, string_bytes}
use Rattle.std.specs.declared.alloc.Global.{Global}
use Rattle.std.proofs.lemmas.List.{length-map}
use Rattle.std.proofs.lemmas.Result.{IfOk-weaker}
use Rattle.ae_seq.specs.ProgramTree.{node_tree, program_tree, func_tree}
use Rattle.ae_seq.specs.declared.program.Node.{Node}
use Rattle.ae_rewrite.specs.StProgramTree.{st_func_trees}
use Rattle.ae_rewrite.proofs.Forms.{few-nodes}
use Rattle.ae_delay.specs.declared.own.OwnCosts.{OwnCosts}
use Rattle.ae_rewrite.specs.Interface.{main_of}
use Rattle.ae_compile.specs.Costing.{AreCosts, load_limit, whole_costs}
use Rattle.ae_compile.specs.LineNotes.{AllNamed}
use Rattle.ae_jobs.specs.CostTables.{cost_table, fused_table, table_text}
use Rattle.ae_compile.specs.Mains.{HasMain}
use Rattle.ae_compile.proofs.Made.{known_costs}
use Rattle.ae_compile.proofs.Mains.{main_named}
use Rattle.ae_jobs.proofs.Plans.{main_fused, main_table, nodes_known}
use Rattle.ae_jobs.proofs.plan_job.tabled.Goals as goal

pub cost_table-requires-clause-named : goal.cost_table-requires-clause-named
cost_table-requires-clause-named c =
    let p = program_tree c.args.costed.now.program in
    let named : AllNamed (map node_tree c.main_func-func.result.now.nodes.items) = main_named p (main_of p)
    (func_tree c.main_func-func.result.now) c.main_func-func.ensures.formed c.main_func-func.ensures.last in
    subst (λ (ns : List Node). AllNamed (map node_tree ns)) (sym c.deref.ensures.value) named

pub cost_table-requires-clause-long : goal.cost_table-requires-clause-long
cost_table-requires-clause-long c =
    let p = program_tree c.args.costed.now.program in
    let all = st_func_trees c.args.costed.now.schedule in
    let f = func_tree c.main_func-func.result.now in
    let key = c.costs-costs.ensures.known.schedule.last in
    let times = (subst (AreCosts p all) (sym c.costs-costs.ensures.is ∙ c.in-Plain.is) c.costs-costs.ensures.known.costs_are).1 in
    nodes_known p c.args.costed.now.slowdown all f key.instance c.in-Plain.timing c.costs-costs.ensures.known.schedule times c.main_func-func.ensures.last
    key.here
    ∙ length-map c.main_func-func.result.now.nodes.items node_tree ∙ ap length (sym c.deref.ensures.value)

pub cost_table-requires-clause-few : goal.cost_table-requires-clause-few
cost_table-requires-clause-few c =
    let p = program_tree c.args.costed.now.program in
    let f = func_tree c.main_func-func.result.now in
    let few : length f.nodes ≤ 4096 = few-nodes p (main_of p) f c.main_func-func.ensures.formed c.main_func-func.ensures.last in
    omega (arith, few, length-map c.main_func-func.result.now.nodes.items node_tree, ap length c.deref.ensures.value)

pub fused_table-requires : goal.fused_table-requires
fused_table-requires c =
    let k = c.args.costed.now in
    let costs = ap whole_costs c.costs-costs.ensures.is ∙
    known_costs load_limit (program_tree k.program) k.slowdown (st_func_trees k.schedule) k.costs c.costs-costs.ensures.known in
    subst (λ (x : OwnCosts). x.load ≤ load_limit) (sym costs) c.costs-costs.ensures.known.light

pub returns-in-Plain : goal.returns-in-Plain
returns-in-Plain c =
    let p = program_tree c.args.costed.now.program in
    let all = st_func_trees c.args.costed.now.schedule in
    let f = func_tree c.main_func-func.result.now in
    let costs = c.in-Plain.timing.nodes in
    let key = c.costs-costs.ensures.known.schedule.last in
    let are = subst (AreCosts p all) (sym c.costs-costs.ensures.is ∙ c.in-Plain.is) c.costs-costs.ensures.known.costs_are in
    let nodes = ap (λ (ns : List Node). cost_table (map node_tree ns) costs) c.deref.ensures.value in
    IfOk-weaker c.cost_table.result (λ (t : String Global). string_bytes t ≡ cost_table (map node_tree c.deref.result.now) costs)
    (λ (t : String Global). HasMain p all (λ g s ts. string_bytes t ≡ table_text p g s ts))
    (λ t w. main_table p all f key.instance c.in-Plain.timing (string_bytes t) are.0 c.main_func-func.ensures.last key.here are.1 (w ∙ nodes))
    c.cost_table.ensures

pub returns-in-Fused : goal.returns-in-Fused
returns-in-Fused c =
    let p = program_tree c.args.costed.now.program in
    let all = st_func_trees c.args.costed.now.schedule in
    let f = func_tree c.main_func-func.result.now in
    let is = subst (AreCosts p all) (sym c.costs-costs.ensures.is ∙ c.in-Fused.is) c.costs-costs.ensures.known.costs_are in
    let whole = ap whole_costs c.in-Fused.is in
    IfOk-weaker c.fused_table.result (λ (t : String Global). string_bytes t ≡ fused_table f.end_line (whole_costs c.costs-costs.result.now))
    (λ (t : String Global). HasMain p all (λ g s ts. string_bytes t ≡ table_text p g s ts))
    (λ t w. main_fused p all f c.in-Fused.field-0 (string_bytes t) c.main_func-func.ensures.last is (w ∙ ap (fused_table f.end_line) whole))
    c.fused_table.ensures
