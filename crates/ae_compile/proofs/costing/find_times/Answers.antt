use Rattle.std.proofs.Common.{Err, ap, sym, subst}
use Rattle.ae_rewrite.specs.StProgramTree.{st_func_trees}
use Rattle.ae_delay.specs.Costs.{too_large}
use Rattle.ae_delay.specs.declared.timing.DelayFault.{DelayFault}
use Rattle.ae_compile.specs.declared.faults.CompileFault.TheVariants.{TooLarge}
use Rattle.ae_compile.specs.Costing.{IsLargeAt}
use Rattle.ae_compile.proofs.costing.find_times.Goals as goal

pub returns-in-Err-Large-clause-refused : goal.returns-in-Err-Large-clause-refused
returns-in-Err-Large-clause-refused c =
    let line = c.in-Err-Large.line in
    let load = c.in-Err-Large.field-0-1 in
    let over = c.in-Err-Large.ensures.large line load (ap (λ (f : DelayFault). Err f) c.in-Err-Large.field-0-is) in
    let large : IsLargeAt (too_large c.args.limit (st_func_trees c.args.schedule.now)) (TooLarge line) = (over.total, over.at) in
    subst (λ l. IsLargeAt (too_large c.args.limit (st_func_trees c.args.schedule.now)) (TooLarge l)) (sym c.in-Err-Large.line-is) large
