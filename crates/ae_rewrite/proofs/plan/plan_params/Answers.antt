use Rattle.std.proofs.Common.{refl, ◌∙◌, sym, rules}
use Rattle.ae_seq.specs.ProgramTree.{program_tree, func_tree}
use Rattle.ae_seq.specs.Trees.{param_trees}
use Rattle.ae_rewrite.proofs.Params.{param-there, param-layout, not-laid, layouts-push, filling-none, filling-more}
use Rattle.ae_rewrite.proofs.plan.plan_params.Goals as goal

pub returns-in_err-layout_at-clause-failing : goal.returns-in_err-layout_at-clause-failing
returns-in_err-layout_at-clause-failing c = λ line e.
    let q = param-there c.args.f.now.params.items c.loop-i.i (rw c.param_count-i-end.ensures at c.loop-i-test.true) in
    let d = c.layout_at.ensures.failing line (search rules) in (
      not-laid c.args.budget (param_trees c.args.f.now.params.items) c.loop-i.i q.0 q.1
          (sym (param-layout (program_tree c.args.p.now) c.args.func c.args.budget c.loop-i.i (func_tree c.args.f.now) q.0 c.requires.here q.1) ∙ d.0),
      d.1,
    )

pub loop-i-init : goal.loop-i-init
loop-i-init c = rw c.new-ins.ensures.items (record { layouts = refl; filling = filling-none c.args.budget })

pub loop-i-preserved : goal.loop-i-preserved
loop-i-preserved c =
    let q = param-there c.args.f.now.params.items c.loop-i.i (rw c.param_count-i-end.ensures at c.loop-i-test.true) in
    rw c.in_ok-append_layout.ensures
    (record {
      layouts = layouts-push c.args.budget (param_trees c.args.f.now.params.items) c.loop-i.i q.0 _ _ q.1
          (sym (param-layout (program_tree c.args.p.now) c.args.func c.args.budget c.loop-i.i (func_tree c.args.f.now) q.0 c.requires.here q.1) ∙
          c.in_ok-layout_at.ensures.layout)
          c.loop-i.invariant.layouts;
      filling = filling-more c.args.budget _ _ c.loop-i.invariant.filling c.in_ok-layout_at.ensures.filling;
    })
