use Rattle.std.proofs.Common.{subst, sym, List, []}
use Rattle.ae_netlist.specs.declared.cell.SizedCell.{SizedCell}
use Rattle.ae_netlist.specs.Rows.{AreInputs}
use Rattle.bench_calls.proofs.Inputs.{no_inputs}
use Rattle.bench_calls.proofs.stepping.run.Goals as goal

pub step-requires : goal.step-requires
step-requires c =
    record { inputs = subst (λ (cs : List SizedCell). AreInputs cs []) (sym c.loop.invariant.0) (no_inputs c.args.nl.now.cells c.requires.inputs) }
