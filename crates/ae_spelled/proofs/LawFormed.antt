-- A written module that is not too large is well formed.
use Rattle.std.proofs.Common.{ℕ, ◌+◌, ◌*◌, ◌≤◌, List, length, arith}
use Rattle.ae_netlist.specs.declared.cell.SizedCell.{SizedCell}
use Rattle.ae_netlist.specs.declared.cell.Outlet.{Outlet}
use Rattle.ae_judge.specs.Faults.{IsWellFormed}
use Rattle.ae_verilog.specs.NetlistModule.{netlist_module}
use Rattle.ae_verilog.specs.Written.{IsWritableNetlist}
use Rattle.ae_spelled.proofs.LawKnown.{none_unknown, none_undriven, none_loops}
use Rattle.ae_spelled.proofs.LawOnce.{none_twice}
use Rattle.ae_spelled.proofs.LawKinds.{none_misused, none_wide}
use Rattle.ae_spelled.proofs.LawWeight.{light}

pub well_formed : (lines : ℕ → ℕ) → (cells : List SizedCell) (outlets : List Outlet) (outs : ℕ) → IsWritableNetlist cells outlets outs
    → 1 + 4 * length cells + 4 * length outlets ≤ 10000000 → IsWellFormed (netlist_module lines cells outlets outs)
well_formed lines cells outlets outs ok small = record {
  known = none_unknown lines cells outlets outs ok;
  once = none_twice lines cells outlets outs ok;
  kinds = none_misused lines cells outlets outs ok;
  driven = none_undriven lines cells outlets outs ok;
  widths = none_wide lines cells outlets outs ok;
  no_loop = none_loops lines cells outlets outs ok;
  small = let w = light lines cells outlets outs in omega arith;
}
