-- The text that a circuit for a program is written as is a listing for it.
use Rattle.std.proofs.Common.{◌+◌, ◌*◌, ◌≤◌, ℕ, List, length, sym, ◌∙◌, subst}
use Rattle.ae_netlist.specs.Circuit.{Circuit}
use Rattle.ae_netlist.proofs.OneRun.{one_run}
use Rattle.ae_seq.specs.ProgramTree.{ProgramTree}
use Rattle.ae_rewrite.specs.Blocks.{MakesBlocks}
use Rattle.ae_rewrite.specs.Interface.{HaveLayouts, result_types}
use Rattle.ae_rewrite.specs.Scheduled.{IsSchedule}
use Rattle.ae_rewrite.specs.StProgramTree.{StFuncTree}
use Rattle.ae_delay.specs.declared.own.OwnCosts.{OwnCosts}
use Rattle.ae_ports.specs.CircuitFor.{IsCircuitFor}
use Rattle.ae_ports.specs.Ports.{input_ports, streams_of}
use Rattle.ae_correct.specs.Laws.{IsLaidOut}
use Rattle.ae_verilog.specs.ReportLines.{ReportTree}
use Rattle.ae_says.proofs.ReadLines.{reads}
use Rattle.ae_headline.specs.Headline.{Computes}
use Rattle.ae_headline.specs.Laws.{BuiltTextsAreListings, Tells}
use Rattle.ae_headline.proofs.Meant.{answers, are-types}
use Rattle.ae_headline.proofs.Same.{listing_same}

computes : (p : ProgramTree) (slowdown : ℕ) (instances : List StFuncTree) (costs : OwnCosts) (r : ReportTree) (n : Circuit) → IsSchedule p slowdown instances
    → IsLaidOut p slowdown r.ins r.outs → IsCircuitFor p slowdown costs r.ins r.outs n → Tells r slowdown costs
    → Computes n p r
computes p slowdown instances costs r n h laid c tells =
    let lay : HaveLayouts p r.slowdown r.ins r.outs = subst (λ d. HaveLayouts p d r.ins r.outs) (sym tells.slowdown_is) laid.layouts in
    let t = are-types r.slowdown (result_types p) r.outs lay.results in
    record {
      types = t.types;
      answers = answers p slowdown instances t.types laid.typed h t.are;
      ins = lay.parameters;
      outs = t.laid;
      ports = record { inputs = c.inputs; no_others = c.no_others; outputs = c.outputs };
      one_run = one_run n.cells c.formed;
      makes = subst (λ d. MakesBlocks n p d r.latency r.ins r.outs) (sym tells.slowdown_is)
          (subst (λ l. MakesBlocks n p slowdown l r.ins r.outs) (sym tells.latency_is) c.makes);
      products = c.muls ∙ sym tells.muls_are;
      small = subst (λ l. length n.cells ≤ 16 * l + 1 + length (input_ports (streams_of r.ins))) (sym tells.load_is) c.small;
    }

pub built : BuiltTextsAreListings
built part p slowdown instances costs r n notes text read h laid c tells noted is = record {
  program = p;
  says = reads part p read;
  report = r;
  at = tells.slowdown_is;
  no_enable = tells.no_enable;
  circuit = n;
  computes = computes p slowdown instances costs r n h laid c tells;
  notes = notes;
  noted = noted;
  listed = is ∙ listing_same r notes n (length r.outs);
}
