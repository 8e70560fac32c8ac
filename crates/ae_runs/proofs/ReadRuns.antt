-- A run of a netlist, read by the names of a module that it realizes, is a run of the module.
use Rattle.std.proofs.Common.{ℕ, ◌≡◌, ◌+◌, ◌<◌, List, length, arith, sym, ap, ◌∙◌, subst}
use Rattle.ae_netlist.specs.declared.cell.SizedCell.{SizedCell}
use Rattle.ae_netlist.specs.Circuit.{Circuit}
use Rattle.ae_netlist.specs.Runs as netlist
use Rattle.ae_netlist.proofs.Shapes.{clock_shaped, cell_holds}
use Rattle.ae_vmodule.specs.declared.module.NetKind.{NetKind}
use Rattle.ae_vmodule.specs.declared.module.NetKind.TheVariants.{Input, Wire, OutWire, Reg, OutReg, Memory}
use Rattle.ae_vmodule.specs.ModuleTree.{ModuleTree}
use Rattle.ae_runs.specs.Values.{ModuleClock}
use Rattle.ae_runs.specs.Runs.{clock_at, FitsKind, IsModuleShaped, IsSettled, IsStep, IsModuleRun}
use Rattle.ae_runs.specs.PlainRun.{clocks_from}
use Rattle.ae_runs.specs.Named.{StandsFor, read}
use Rattle.ae_runs.specs.Realizes.{Realizes}
use Rattle.ae_netlist.proofs.ReadAt.{store_got}
use Rattle.ae_runs.proofs.Fits.{net_fits}
use Rattle.ae_runs.proofs.Made.{from_length, from_at}

-- what stands for a name holds what the name holds
stands_hold : (k : NetKind) (cells : List SizedCell) (run : List netlist.Clock) (t net width : ℕ) → netlist.IsRun cells run → t < length run
    → StandsFor k cells net width → FitsKind k width (netlist.word_at run t net) (netlist.store_at run t net)
stands_hold Input cells run t net width r l s = net_fits cells run t net width s r l
stands_hold Wire cells run t net width r l s = net_fits cells run t net width s r l
stands_hold OutWire cells run t net width r l s = net_fits cells run t net width s r l
stands_hold Reg cells run t net width r l s = net_fits cells run t net width s r l
stands_hold OutReg cells run t net width r l s = net_fits cells run t net width s r l
stands_hold (Memory depth) cells run t net width r l s = let h = cell_holds (clock_shaped r t l) net _ s.found in rw (store_got run t net) (h.1, h.2)

module _ (m : ModuleTree) (n : Circuit) (at : List ℕ → ℕ) (r : Realizes m n at) where
  -- the run by name
  abbrev pub by_name : List netlist.Clock → List ModuleClock
  by_name other = clocks_from (read at other) 0 (length other)

  pub by_name_length : (other : List netlist.Clock) → length (by_name other) ≡ length other
  by_name_length other = from_length (read at other) 0 (length other)

  pub by_name_at : (other : List netlist.Clock) (t : ℕ) → t < length other → clock_at (by_name other) t ≡ read at other t
  by_name_at other t l = from_at (read at other) 0 (length other) t l ∙ ap (read at other) (let e : 0 + t ≡ t = omega arith in e)

  pub by_name_run : (other : List netlist.Clock) → netlist.IsRun n.cells other → IsModuleRun m (by_name other)
  by_name_run other p =
      let long = by_name_length other in
      let within : (t : ℕ) → t < length (by_name other) → t < length other = λ t l. omega arith in
      record {
        shaped = λ t l. subst (IsModuleShaped m) (sym (by_name_at other t (within t l)))
            (record { holds = λ x a held. stands_hold x.kind n.cells other t (at x.name) x.width p (within t l) (r.stands x a held) });
        settles = λ t l. subst (IsSettled m) (sym (by_name_at other t (within t l))) (r.settles other p t (within t l));
        steps = λ t l.
            let h : t + 1 < length other = within (t + 1) l in
            let here : t < length other = omega arith in
            subst (λ c. IsStep m c (clock_at (by_name other) (t + 1))) (sym (by_name_at other t here))
            (subst (IsStep m (read at other t)) (sym (by_name_at other (t + 1) h)) (r.steps other p t h));
      }
