-- A listing means, by the Verilog profile, a module that is correct for the program.
use Rattle.std.proofs.Common.{◌≡◌, ◌<◌, ◌≤◌, ℕ, List, length, subst, sym, Ok}
use Rattle.ae_vmodule.specs.ModuleTree.{ModuleTree}
use Rattle.ae_vread.specs.Spells.{Spells}
use Rattle.ae_vread.specs.Forms.{module_tokens}
use Rattle.ae_vread.specs.ItemReading.{read_module}
use Rattle.ae_vread.proofs.ReadLaws.{spelled_read}
use Rattle.ae_judge.specs.Faults.{IsWellFormed}
use Rattle.ae_runs.specs.PlainRun.{plain_run}
use Rattle.ae_runs.specs.Runs.{HasOneModuleRun}
use Rattle.ae_runs.proofs.Once.{only_one}
use Rattle.ae_runs.proofs.Made.{plain_is_run}
use Rattle.ae_verilog.specs.Notes.{lines_of, noted_module}
use Rattle.ae_verilog.specs.ReportLines.{report_lines}
use Rattle.ae_spelled.proofs.Comments.{report_comments}
use Rattle.ae_spelled.proofs.LawSame.{same_runs}
use Rattle.ae_spelled.proofs.LawFormed.{well_formed}
use Rattle.ae_spelled.proofs.Whole.{listing_spelled}
use Rattle.ae_correct.proofs.Built.{correct_by}
use Rattle.ae_correct.proofs.Keeps.{ports_there}
use Rattle.ae_headline.specs.Listing.{listing}
use Rattle.ae_headline.specs.Laws.{ListingsMeanModules, MeansModule, ProgramListingsMeanModules}
use Rattle.ae_headline.proofs.Same.{listing_same}
use Rattle.ae_headline.proofs.Types.{laid_out}

one-tree : (text : List ℕ) (m n : ModuleTree) → Spells text m → Spells text n → m ≡ n
one-tree text m n one other =
    let tokens = module_tokens one.form in
    let read : read_module tokens ≡ Ok m = spelled_read text tokens m one.written one in
    let again : read_module tokens ≡ Ok n = spelled_read text tokens n one.written other in
    cc

one-run : (m : ModuleTree) → IsWellFormed m → HasOneModuleRun m
one-run m ok given shaped =
    let made = plain_is_run m ok given shaped in
    (plain_run m given, made, λ other r t l. only_one m ok given (plain_run m given) other made r t l)

pub modules : ListingsMeanModules
modules p n r notes laid ports makes ok printed small =
    let outs : ℕ = length r.outs in
    let lines : ℕ → ℕ = lines_of notes (length n.cells) in
    let m : ModuleTree = noted_module notes n.cells n.outlets outs in
    let text : List ℕ = listing r notes n outs in
    let spelled : Spells text m = subst (λ l. Spells l m) (listing_same r notes n outs)
    (listing_spelled (report_lines r) notes n.cells n.outlets outs (report_comments r) printed
    (record { formed = ok.formed; shown = ok.shown; few = ok.few; inputs = ok.inputs; outputs = ok.outputs })) in
    let well : IsWellFormed m = well_formed lines n.cells n.outlets outs ok small in
    let have = ports_there r.ins r.outs n ports.inputs ports.no_others ports.outputs in
    record {
      tree = m;
      spells = spelled;
      only = λ other is. one-tree text other m is spelled;
      formed = well;
      one_run = one-run m well;
      correct = correct_by lines p r.slowdown r.latency r.ins r.outs n laid have makes (same_runs lines n.cells n.outlets outs ok n.limit);
    }

pub listing_modules : ProgramListingsMeanModules
listing_modules part slowdown text l typed some most ok printed small =
    let own : MeansModule l.program l.report.slowdown l.report.latency (listing l.report l.notes l.circuit (length l.report.outs)) =
    modules l.program l.circuit l.report l.notes
    (laid_out l.program l.circuit l.report typed (subst (λ s. 0 < s) (sym l.at) some) (subst (λ s. s ≤ 4096) (sym l.at) most) l.computes)
    l.computes.ports l.computes.makes ok printed small in
    subst (λ s. MeansModule l.program s l.report.latency text) l.at (subst (MeansModule l.program l.report.slowdown l.report.latency) (sym l.listed) own)
