use Rattle.std.proofs.Common.{◌≡◌, false, arith, subst, sym, rules}
use Rattle.std.specs.Prelude.{Option}
use Rattle.std.proofs.lemmas.Grind.{common_steps}
use Rattle.ae_seq.specs.ProgramTree.{program_tree}
use Rattle.ae_rewrite.specs.StProgramTree.{st_func_trees}
use Rattle.ae_delay.specs.Costs.{LineLoad}
use Rattle.ae_trace.specs.Traces.{is_movement}
use Rattle.ae_compile.specs.Costing.{IsLargeAt, costs_over}
use Rattle.ae_compile.proofs.Large.{plain_over}
use Rattle.ae_compile.proofs.Mains.{parts_of}
use Rattle.ae_compile.proofs.costing.find_costs.Goals as goal

pub returns-in_err-timing-in-Ok-None-clause-refused : goal.returns-in_err-timing-in-Ok-None-clause-refused
returns-in_err-timing-in-Ok-None-clause-refused c =
    let p = program_tree c.args.program.now in
    let all = st_func_trees c.args.schedule.now in
    let h = c.requires.schedule in
    let computes : is_movement p ≡ false = first_of (search rules, grind (arith, common_steps)) in
    let fault = c.in_err-timing-in-Ok-None.field-0.0 in
    let refused : IsLargeAt (costs_over c.args.limit p all) fault =
    subst (λ (o : Option LineLoad). IsLargeAt o fault) (sym (plain_over c.args.limit p all computes (parts_of p h.0 all h.3)))
    c.in_err-timing-in-Ok-None.ensures.refused in
    search rules
