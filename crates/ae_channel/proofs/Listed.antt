-- The listing of a netlist with the ports of a module.
use Rattle.std.proofs.Common.{ℕ, ◌≡◌, ◌+◌, ◌*◌, ◌^◌, ◌<◌, ◌≤◌, List, [], length, refl, sym, subst}
use Rattle.ae_netlist.specs.Counts.{AreWhole}
use Rattle.ae_netlist.specs.Circuit.{Circuit}
use Rattle.ae_netlist.specs.declared.cell.SizedCell.{SizedCell}
use Rattle.ae_netlist.specs.declared.cell.Outlet.{Outlet}
use Rattle.ae_vmodule.specs.ModuleTree.{ModuleTree}
use Rattle.ae_vread.specs.Spells.{Spells}
use Rattle.ae_judge.specs.Faults.{IsWellFormed}
use Rattle.ae_runs.specs.SameRuns.{HasSameRuns}
use Rattle.ae_verilog.specs.NetlistModule.{HavePorts, netlist_module}
use Rattle.ae_verilog.specs.Notes.{lines_of, noted_module}
use Rattle.ae_verilog.specs.ReportLines.{ReportTree, report_lines}
use Rattle.ae_verilog.specs.Text.{stream_listing}
use Rattle.ae_verilog.specs.Written.{HaveNumbers, IsListable, IsWritableNetlist}
use Rattle.ae_spelled.specs.Short.{IsShort}
use Rattle.ae_spelled.specs.Streams.{IsModuleName, renamed}
use Rattle.ae_channel.specs.Listings.{IsListedAs, IsModuleOf}

-- the laws of listings
pub record HaveListings : Type 0 where
  pub spells : (title : List ℕ) (r : ReportTree) (cells : List SizedCell) (outlets : List Outlet) (outs : ℕ) → IsModuleName title → IsListable cells outlets
      → Spells (stream_listing title (report_lines r) cells outlets outs) (renamed title (noted_module [] cells outlets outs))
  pub short : (title : List ℕ) (r : ReportTree) (cells : List SizedCell) (outlets : List Outlet) (outs : ℕ) → IsModuleName title → IsListable cells outlets
      → HaveNumbers r [] → IsShort r [] cells outlets → length (stream_listing title (report_lines r) cells outlets outs) < 2 ^ 32
  pub runs : (lines : ℕ → ℕ) (n : Circuit) (outs : ℕ) → IsWritableNetlist n.cells n.outlets outs → HasSameRuns (netlist_module lines n.cells n.outlets outs) n
  pub formed : (lines : ℕ → ℕ) (n : Circuit) (outs : ℕ) → IsWritableNetlist n.cells n.outlets outs → 1 + 4 * length n.cells + 4 * length n.outlets ≤ 10000000
      → IsWellFormed (netlist_module lines n.cells n.outlets outs)
  pub renamed_runs : (title : List ℕ) (m : ModuleTree) (n : Circuit) → HasSameRuns m n → HasSameRuns (renamed title m) n
  pub renamed_formed : (title : List ℕ) (m : ModuleTree) → IsWellFormed m → IsWellFormed (renamed title m)
  pub once : (text : List ℕ) (m n : ModuleTree) → length text < 2 ^ 32 → Spells text m → Spells text n → m ≡ n

-- a report that is short without cells is so with few
pub short_with : (r : ReportTree) (n : Circuit) → IsShort r [] [] [] → 1 + 4 * length n.cells + 4 * length n.outlets ≤ 10000000 → IsShort r [] n.cells n.outlets
short_with r n h small = record {
  few_ins = h.few_ins;
  few_outs = h.few_outs;
  ins = h.ins;
  outs = h.outs;
  few_notes = h.few_notes;
  names = h.names;
  layouts = h.layouts;
  small = small;
}

pub is_listed : (r : ReportTree) (name : List ℕ) (n : Circuit) (text : List ℕ) → HaveListings → IsShort r [] [] []
    → 1 + 4 * length n.cells + 4 * length n.outlets ≤ 10000000
    → IsListable n.cells n.outlets → HaveNumbers r []
    → HavePorts n.cells n.outlets (length r.outs) → AreWhole n.cells → text ≡ stream_listing name (report_lines r) n.cells n.outlets (length r.outs)
    → IsListedAs r name n text
is_listed r name n text laws short small listable numbers ports whole listed = record { listed = listed; is_module = of_name }
  where
    outs : ℕ
    outs = length r.outs

    writable : IsWritableNetlist n.cells n.outlets outs
    writable = record {
      formed = listable.formed;
      shown = listable.shown;
      ports = ports;
      whole = whole;
      few = listable.few;
      inputs = listable.inputs;
      outputs = listable.outputs;
    }

    of_name : IsModuleName name → IsModuleOf name n text
    of_name named =
        let own : ModuleTree = noted_module [] n.cells n.outlets outs in
        let tree : ModuleTree = renamed name own in
        let spells : Spells text tree = subst (λ (l : List ℕ). Spells l tree) (sym listed) (laws.spells name r n.cells n.outlets outs named listable) in
        let few : length text < 2 ^ 32 = subst (λ (l : List ℕ). length l < 2 ^ 32) (sym listed)
        (laws.short name r n.cells n.outlets outs named listable numbers (short_with r n short small)) in
        record {
          tree = tree;
          called = refl;
          spells = spells;
          only = λ other spelled. laws.once text other tree few spelled spells;
          formed = laws.renamed_formed name own (laws.formed (lines_of [] (length n.cells)) n outs writable small);
          same = laws.renamed_runs name own n (laws.runs (lines_of [] (length n.cells)) n outs writable);
        }
