use Rattle.std.proofs.Common.{arith}
use Rattle.ae_eval.proofs.Items.{funcs-count}
use Rattle.ae_eval.proofs.program.last_func.Goals as goal

pub overflow_sub-result : goal.overflow_sub-result
overflow_sub-result c =
    (funcs-count c.args.p.now c.program.result.now c.len.result c.program.ensures.program c.len.ensures
    (record { is_formed = c.program.ensures.is_formed; accepted = c.program.ensures.accepted })).1

pub returns-clause-is : goal.returns-clause-is
returns-clause-is c =
    let r = funcs-count c.args.p.now c.program.result.now c.len.result c.program.ensures.program c.len.ensures
    (record { is_formed = c.program.ensures.is_formed; accepted = c.program.ensures.accepted }) in
    omega (arith, r.0)

pub returns-clause-known : goal.returns-clause-known
returns-clause-known c =
    let r = funcs-count c.args.p.now c.program.result.now c.len.result c.program.ensures.program c.len.ensures
    (record { is_formed = c.program.ensures.is_formed; accepted = c.program.ensures.accepted }) in
    omega (arith, r.0, r.1)
