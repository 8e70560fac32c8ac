use Rattle.std.proofs.Common.{arith}
use Rattle.ae_seq.specs.ProgramTree.{program_tree}
use Rattle.ae_eval.specs.Stack.{IsTyped}
use Rattle.ae_eval.proofs.Items.{few-funcs, funcs-count}
use Rattle.ae_jobs.proofs.eval_job.last_func.Goals as goal

pub overflow_sub-result : goal.overflow_sub-result
overflow_sub-result c =
    (funcs-count c.args.p.now c.program.result.now c.len.result c.program.ensures.program c.len.ensures
    (record { is_formed = c.program.ensures.is_formed; accepted = c.program.ensures.accepted })).1

pub overflow_cast-result : goal.overflow_cast-result
overflow_cast-result c =
    let typed : IsTyped (program_tree c.args.p.now) = record { is_formed = c.program.ensures.is_formed; accepted = c.program.ensures.accepted } in
    let r = funcs-count c.args.p.now c.program.result.now c.len.result c.program.ensures.program c.len.ensures typed in
    let few = few-funcs (program_tree c.args.p.now) typed in
    omega (arith, r.0, few.0)

pub returns-clause-is : goal.returns-clause-is
returns-clause-is c =
    let r = funcs-count c.args.p.now c.program.result.now c.len.result c.program.ensures.program c.len.ensures
    (record { is_formed = c.program.ensures.is_formed; accepted = c.program.ensures.accepted }) in
    omega (arith, r.0)

pub returns-clause-known : goal.returns-clause-known
returns-clause-known c =
    let r = funcs-count c.args.p.now c.program.result.now c.len.result c.program.ensures.program c.len.ensures
    (record { is_formed = c.program.ensures.is_formed; accepted = c.program.ensures.accepted }) in
    omega (arith, r.0, r.1)
