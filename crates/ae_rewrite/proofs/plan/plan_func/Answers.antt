use Rattle.std.proofs.Common.{◌∙◌, sym, ap, rules, None, Some}
use Rattle.ae_seq.specs.ProgramTree.{program_tree, func_tree}
use Rattle.ae_seq.specs.Trees.{param_trees}
use Rattle.ae_rewrite.specs.Planned.{HasPlan, row_lists}
use Rattle.ae_rewrite.specs.StProgramTree.{st_trees, st_node_trees}
use Rattle.ae_rewrite.proofs.Params.{few-params-of, few-nodes-of, params-fail, laid-line, laid-all, params-are-laid, instance-of, length-params}
use Rattle.ae_rewrite.proofs.plan.plan_func.Goals as goal

pub plan_params-requires-clause-few : goal.plan_params-requires-clause-few
plan_params-requires-clause-few c = few-params-of (program_tree c.args.p.now) c.args.func c.func_of-f.result.now c.requires.formed c.func_of-f.ensures.here

pub returns-in_err-ins-clause-failing : goal.returns-in_err-ins-clause-failing
returns-in_err-ins-clause-failing c = λ line e.
    let d = c.plan_params.ensures.failing line (search rules) in
    params-fail (program_tree c.args.p.now) c.args.func c.args.budget (func_tree c.func_of-f.result.now) c.requires.formed c.func_of-f.ensures.here d.0 ∙
    ap Some (sym d.1)

pub plan_nodes-requires-clause-laid : goal.plan_nodes-requires-clause-laid
plan_nodes-requires-clause-laid c =
    rw length-params at (params-are-laid (program_tree c.args.p.now) c.args.func c.args.budget (func_tree c.func_of-f.result.now)
    (st_trees c.in_ok-ins.ins.items) c.func_of-f.ensures.here c.in_ok-ins.ensures.layouts)

pub plan_nodes-requires-clause-few : goal.plan_nodes-requires-clause-few
plan_nodes-requires-clause-few c = few-params-of (program_tree c.args.p.now) c.args.func c.func_of-f.result.now c.requires.formed c.func_of-f.ensures.here

pub plan_nodes-requires-clause-few_nodes : goal.plan_nodes-requires-clause-few_nodes
plan_nodes-requires-clause-few_nodes c = few-nodes-of (program_tree c.args.p.now) c.args.func c.func_of-f.result.now c.requires.formed c.func_of-f.ensures.here

pub returns-in_err-nodes-clause-failing : goal.returns-in_err-nodes-clause-failing
returns-in_err-nodes-clause-failing c = λ line e.
    let laid = laid-all c.args.budget (param_trees c.func_of-f.result.now.params.items) (st_trees c.in_ok-ins.ins.items) c.in_ok-ins.ensures.layouts in
    laid-line (program_tree c.args.p.now) c.args.func c.args.budget (func_tree c.func_of-f.result.now)
    (Some line) c.requires.formed c.func_of-f.ensures.here laid
    (rw length-params (c.plan_nodes.ensures.failing line (search rules)))

pub returns-clause-instance : goal.returns-clause-instance
returns-clause-instance c =
    instance-of (program_tree c.args.p.now) (HasPlan (row_lists c.args.rows.now)) c.args.func c.args.budget c.func_of-f.result.now
    (st_trees c.in_ok-ins.ins.items)
    (st_node_trees c.in_ok-nodes.nodes.items) _ c.func_of-f.ensures.here c.in_ok-ins.ensures.layouts c.in_ok-nodes.ensures.nodes (search rules)

pub returns-clause-fine : goal.returns-clause-fine
returns-clause-fine c =
    let laid = laid-all c.args.budget (param_trees c.func_of-f.result.now.params.items) (st_trees c.in_ok-ins.ins.items) c.in_ok-ins.ensures.layouts in
    laid-line (program_tree c.args.p.now) c.args.func c.args.budget (func_tree c.func_of-f.result.now) None c.requires.formed c.func_of-f.ensures.here laid
    (rw length-params c.in_ok-nodes.ensures.fine)
