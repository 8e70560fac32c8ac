-- What compiling makes of a costed program.
use Rattle.std.proofs.Common.{◌≡◌, ℕ, false, List, Some, slice_get, sym, subst}
use Rattle.ae_seq.specs.ProgramTree.{FuncTree, ProgramTree}
use Rattle.ae_rewrite.specs.StProgramTree.{StFuncTree}
use Rattle.ae_rewrite.specs.Sound.{item_layouts}
use Rattle.ae_rewrite.specs.Interface.{main_of}
use Rattle.ae_netlist.specs.Circuit.{Circuit}
use Rattle.ae_ports.specs.CircuitFor.{IsCircuitFor}
use Rattle.ae_lower.specs.Circuits.{last_of}
use Rattle.ae_correct.specs.Laws.{IsLaidOut}
use Rattle.ae_verilog.specs.Notes.{ArePrinted, NoteTree}
use Rattle.ae_verilog.specs.ReportLines.{ReportTree}
use Rattle.ae_compile.specs.declared.costs.Costs.{Costs}
use Rattle.ae_compile.specs.Costing.{IsKnown, load_limit, main_costs}
use Rattle.ae_compile.specs.Compiling.{IsCompiled, IsMadeFor, report_of}
use Rattle.ae_compile.specs.LineNotes.{ArePlaced, OwnCells, told_notes}
use Rattle.ae_compile.proofs.Mains.{parts_of}

-- the parts that are made, each by the program function's instance
pub record AreMade (p : ProgramTree) (slowdown : ℕ) (instances : List StFuncTree) (n : Circuit) (marks : List ℕ) (report : ReportTree)
    (notes : List NoteTree) : Type 0 where
  pub reports : (s : StFuncTree) → slice_get instances (last_of instances) ≡ Some s → report ≡ report_of false p slowdown instances s
  pub circuit : IsMadeFor p slowdown instances n
  pub places : ArePlaced p n.cells marks
  pub own : OwnCells p instances n.cells marks
  pub notes_are : (s : StFuncTree) (f : FuncTree) → slice_get instances (last_of instances) ≡ Some s → slice_get p.funcs (main_of p) ≡ Some f
      → notes ≡ told_notes p f (item_layouts s) marks
  pub printed : ArePrinted notes

pub compiled_is : (p : ProgramTree) (slowdown : ℕ) (instances : List StFuncTree) (costs : Costs) (n : Circuit) (marks : List ℕ) (report : ReportTree)
    (notes : List NoteTree) → IsKnown load_limit p slowdown instances costs
    → AreMade p slowdown instances n marks report notes → IsCompiled p slowdown instances n report notes
compiled_is p slowdown instances costs n marks report notes k m =
    let parts = parts_of p slowdown instances k.schedule in
    let s = parts.instance in
    let told = m.reports s parts.last in
    let made = m.circuit s parts.last in
    record {
      instance = s;
      last = parts.last;
      reported = told;
      laid = subst (λ (r : ReportTree). IsLaidOut p slowdown r.ins r.outs) (sym told)
          (record { typed = k.typed; some = k.some; most = k.most; layouts = made.0 });
      circuit = subst (λ (r : ReportTree). IsCircuitFor p slowdown (main_costs p instances) r.ins r.outs n) (sym told) made.1;
      noted = record {
        func = parts.func;
        main = parts.there;
        marks = marks;
        placed = m.places parts.func parts.there;
        own = λ computes. m.own computes s parts.last;
        are = m.notes_are s parts.func parts.last parts.there;
      };
      printed = m.printed;
    }
