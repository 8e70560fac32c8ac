use Rattle.std.proofs.Common.{◌≤◌, arith, rules}
use Rattle.ae_seq.specs.ProgramTree.{program_tree}
use Rattle.ae_rewrite.specs.StProgramTree.{st_func_trees}
use Rattle.ae_compile.specs.Costing.{IsCostFault, main_costs}
use Rattle.ae_compile.proofs.Large.{cost_fault, load_within}
use Rattle.ae_compile.proofs.Mains.{parts_of}
use Rattle.ae_compile.proofs.costing.cost.Goals as goal

pub find_costs-requires-clause-schedule : goal.find_costs-requires-clause-schedule
find_costs-requires-clause-schedule c = (c.args.slowdown, c.limits.ensures.0, c.limits.ensures.1, c.in_ok-program.ensures.scheduled.schedule)

pub returns-clause-known : goal.returns-clause-known
returns-clause-known c =
    let p = program_tree c.in_ok-program.program in
    let all = st_func_trees c.in_ok-program.schedule in
    let own = c.in_ok-program.ensures in
    record {
      some = c.limits.ensures.0;
      most = c.limits.ensures.1;
      typed = record { is_formed = own.formed; accepted = own.scheduled.typed.typed };
      schedule = own.scheduled.schedule;
      sound = own.sound;
      costs_are = c.in_ok-costs.ensures.costs;
      light = load_within c.args.limit p all (parts_of p c.args.slowdown all own.scheduled.schedule) c.in_ok-costs.ensures.within;
    }

pub invariant_of-result : goal.invariant_of-result
invariant_of-result c =
    let p = program_tree c.in_ok-program.program in
    let all = st_func_trees c.in_ok-program.schedule in
    let own = c.in_ok-program.ensures in
    let load : (main_costs p all).load ≤ c.args.limit = load_within c.args.limit p all
    (parts_of p c.args.slowdown all own.scheduled.schedule) c.in_ok-costs.ensures.within in
    let most : c.args.limit ≤ 100000 = c.requires.limit in
    record {
      some = c.limits.ensures.0;
      most = c.limits.ensures.1;
      typed = record { is_formed = own.formed; accepted = own.scheduled.typed.typed };
      schedule = own.scheduled.schedule;
      sound = own.sound;
      costs_are = c.in_ok-costs.ensures.costs;
      light = omega (arith, load, most);
    }

pub returns-in_err-costs-clause-refused : goal.returns-in_err-costs-clause-refused
returns-in_err-costs-clause-refused c =
    let h : IsCostFault c.args.limit c.args.part.now c.args.slowdown c.in_err-costs.field-0.0 =
    cost_fault c.args.limit c.args.part.now c.args.slowdown (program_tree c.in_ok-program.program)
    (st_func_trees c.in_ok-program.schedule) c.in_err-costs.field-0.0 c.in_ok-program.ensures.scheduled c.in_err-costs.ensures.refused in
    search rules

pub returns-in_err-program-clause-refused : goal.returns-in_err-program-clause-refused
returns-in_err-program-clause-refused c =
    let h : IsCostFault c.args.limit c.args.part.now c.args.slowdown c.in_err-program.field-0.0 = c.in_err-program.ensures.refused c.args.limit in
    search rules
