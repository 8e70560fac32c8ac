-- What is proved of listings.
use Rattle.std.specs.Prelude.{◌≡◌, ℕ, ◌+◌, ◌*◌, ◌<◌, ◌≤◌, false, List, length}
use Rattle.ae_seq.specs.ProgramTree.{ProgramTree}
use Rattle.ae_eval.specs.Stack.{IsTyped}
use Rattle.ae_rewrite.specs.StProgramTree.{StFuncTree}
use Rattle.ae_rewrite.specs.Blocks.{MakesBlocks}
use Rattle.ae_rewrite.specs.Scheduled.{IsSchedule}
use Rattle.ae_delay.specs.declared.own.OwnCosts.{OwnCosts}
use Rattle.ae_netlist.specs.Circuit.{Circuit}
use Rattle.ae_vmodule.specs.ModuleTree.{ModuleTree}
use Rattle.ae_vread.specs.Spells.{Spells}
use Rattle.ae_judge.specs.Faults.{IsWellFormed}
use Rattle.ae_runs.specs.Runs.{HasOneModuleRun}
use Rattle.ae_ports.specs.CircuitFor.{IsCircuitFor}
use Rattle.ae_verilog.specs.ReportLines.{ReportTree, report_lines}
use Rattle.ae_verilog.specs.Notes.{NoteTree, ArePrinted}
use Rattle.ae_verilog.specs.Text.{whole_text}
use Rattle.ae_verilog.specs.Written.{IsWritableNetlist}
use Rattle.ae_correct.specs.Correct.{IsCorrect}
use Rattle.ae_correct.specs.Laws.{IsLaidOut}
use Rattle.ae_fields.specs.Grammar.{IsProgramText}
use Rattle.ae_headline.specs.Listing.{listing}
use Rattle.ae_headline.specs.Headline.{AreNotes, HasPorts, IsProgramListing}

-- a report of a module without an enable that tells a slowdown and costs
pub record Tells (r : ReportTree) (slowdown : ℕ) (costs : OwnCosts) : Type 0 where
  pub slowdown_is : r.slowdown ≡ slowdown
  pub latency_is : r.latency ≡ costs.latency
  pub muls_are : r.muls ≡ costs.muls
  pub load_is : r.load ≡ costs.load
  pub no_enable : r.enable ≡ false

-- where a text is read as a typed program that has a schedule, a circuit for the program, however it was made, written with a
-- report of its costs and its notes, is a listing for it
abbrev pub BuiltTextsAreListings : Type 0
BuiltTextsAreListings =
    (part : List ℕ) (p : ProgramTree) (slowdown : ℕ) (instances : List StFuncTree) (costs : OwnCosts) (r : ReportTree)
    (n : Circuit) (notes : List NoteTree) (text : List ℕ)
    → IsProgramText part p → IsSchedule p slowdown instances → IsLaidOut p slowdown r.ins r.outs
    → IsCircuitFor p slowdown costs r.ins r.outs n → Tells r slowdown costs → AreNotes p notes
    → text ≡ whole_text (report_lines r) notes n.cells n.outlets (length r.outs) → IsProgramListing part slowdown text

-- a text spells one module, which is well formed, has exactly one run on any inputs, and is correct for the program
pub record MeansModule (p : ProgramTree) (slowdown latency : ℕ) (text : List ℕ) : Type 0 where
  pub tree : ModuleTree
  pub spells : Spells text tree
  pub only : (other : ModuleTree) → Spells text other → other ≡ tree
  pub formed : IsWellFormed tree
  pub one_run : HasOneModuleRun tree
  pub correct : IsCorrect tree p slowdown latency

-- the listing of any netlist that has the ports of a program and makes its blocks, and is not too large to be written, means
-- such a module, with the latency that its report tells
abbrev pub ListingsMeanModules : Type 0
ListingsMeanModules =
    (p : ProgramTree) (n : Circuit) (r : ReportTree) (notes : List NoteTree) → IsLaidOut p r.slowdown r.ins r.outs
    → HasPorts n r.ins r.outs → MakesBlocks n p r.slowdown r.latency r.ins r.outs
    → IsWritableNetlist n.cells n.outlets (length r.outs) → ArePrinted notes
    → 1 + 4 * length n.cells + 4 * length n.outlets ≤ 10000000
    → MeansModule p r.slowdown r.latency (listing r notes n (length r.outs))

-- so does a listing for a typed program, under a slowdown that there can be
abbrev pub ProgramListingsMeanModules : Type 0
ProgramListingsMeanModules =
    (part : List ℕ) (slowdown : ℕ) (text : List ℕ) (l : IsProgramListing part slowdown text) → IsTyped l.program
    → 0 < slowdown → slowdown ≤ 4096
    → IsWritableNetlist l.circuit.cells l.circuit.outlets (length l.report.outs) → ArePrinted l.notes
    → 1 + 4 * length l.circuit.cells + 4 * length l.circuit.outlets ≤ 10000000
    → MeansModule l.program slowdown l.report.latency text
