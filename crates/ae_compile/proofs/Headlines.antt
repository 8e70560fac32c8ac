-- The text of a program's circuit is a listing for the program.
use Rattle.std.proofs.Common.{◌≡◌, ℕ, ◌+◌, Bool, true, false, List, [], ◌∷◌, if◌then◌else◌, length, map, inl, inr, refl, arith, sym, ap, ◌∙◌, subst}
use Rattle.std.proofs.lemmas.Option.{same_Some}
use Rattle.ae_seq.specs.ProgramTree.{FuncTree, NodeTree, ProgramTree}
use Rattle.ae_sttype.specs.StTree.{StTree}
use Rattle.ae_rewrite.specs.StProgramTree.{StFuncTree}
use Rattle.ae_rewrite.specs.Sound.{item_layouts}
use Rattle.ae_netlist.specs.declared.cell.SizedCell.{SizedCell}
use Rattle.ae_trace.specs.Traces.{is_movement}
use Rattle.ae_verilog.specs.Notes.{NoteTree}
use Rattle.ae_verilog.specs.ReportLines.{ReportTree}
use Rattle.ae_headline.specs.Headline.{AreNotes, AreNotesIn, IsProgramListing}
use Rattle.ae_headline.specs.Laws.{Tells}
use Rattle.ae_headline.proofs.Built.{built}
use Rattle.ae_compile.specs.Building.{IsModuleText}
use Rattle.ae_compile.specs.Compiling.{report_of}
use Rattle.ae_compile.specs.Costing.{IsCosted, load_limit, main_costs}
use Rattle.ae_compile.specs.LineNotes.{AreLineNotes, node_notes, result_notes}
use Rattle.ae_print.specs.Printed.{item_names, name_at}

notes-tell : (layouts : List StTree) (i : ℕ) (ns : List NodeTree) (ms : List ℕ) → length ms ≡ length ns
    → map {B = ℕ × List ℕ} (λ (n : NoteTree). (n.line, n.name)) (node_notes layouts i ns ms) ≡ map {B = ℕ × List ℕ} (λ (n : NodeTree). (n.line, n.name)) ns
notes-tell layouts i [] ms h = refl
notes-tell layouts i (n ∷ ns) [] h = absurd (omega (arith, h))
notes-tell layouts i (n ∷ ns) (m ∷ ms) h = ap (λ l. (n.line, n.name) ∷ l) (notes-tell layouts (i + 1) ns ms (omega (arith, h)))

results-tell : (layouts : List StTree) (f : FuncTree) (is ms : List ℕ) → length ms ≡ length is
    → map {B = ℕ × List ℕ} (λ (n : NoteTree). (n.line, n.name)) (result_notes layouts f is ms) ≡ map {B = ℕ × List ℕ}
    (λ i. (f.end_line, name_at (item_names f) i)) is
results-tell layouts f [] ms h = refl
results-tell layouts f (i ∷ is) [] h = absurd (omega (arith, h))
results-tell layouts f (i ∷ is) (m ∷ ms) h = ap (λ l. (f.end_line, name_at (item_names f) i) ∷ l) (results-tell layouts f is ms (omega (arith, h)))

told-by : (moves : Bool) (f : FuncTree) (layouts : List StTree) (ms : List ℕ) → length ms ≡ (if moves then length f.results else length f.nodes)
    → AreNotesIn f (map {B = ℕ × List ℕ} (λ (n : NoteTree). (n.line, n.name))
    (if moves then result_notes layouts f f.results ms else node_notes layouts (length f.params) f.nodes ms))
told-by true f layouts ms h = inr (results-tell layouts f f.results ms h)
told-by false f layouts ms h = inl (notes-tell layouts (length f.params) f.nodes ms h)

notes-are : (p : ProgramTree) (instances : List StFuncTree) (s : StFuncTree) (cells : List SizedCell) (notes : List NoteTree)
    → AreLineNotes p instances s cells notes → AreNotes p notes
notes-are p instances s cells notes h f main =
    let same : h.func ≡ f = same_Some h.func f (sym h.main ∙ main) in
    let own = told-by (is_movement p) h.func (item_layouts s) h.marks h.placed.long in
    let told : AreNotesIn h.func (map {B = ℕ × List ℕ} (λ (n : NoteTree). (n.line, n.name)) notes) =
    subst (λ (ns : List NoteTree). AreNotesIn h.func (map {B = ℕ × List ℕ} (λ (n : NoteTree). (n.line, n.name)) ns)) (sym h.are) own in
    subst (λ (g : FuncTree). AreNotesIn g (map {B = ℕ × List ℕ} (λ (n : NoteTree). (n.line, n.name)) notes)) same told

tells-costs : (p : ProgramTree) (slowdown : ℕ) (instances : List StFuncTree) (s : StFuncTree) (r : ReportTree) → r ≡ report_of false p slowdown instances s
    → Tells r slowdown (main_costs p instances)
tells-costs p slowdown instances s r is = record {
  slowdown_is = ap (λ (x : ReportTree). x.slowdown) is;
  latency_is = ap (λ (x : ReportTree). x.latency) is;
  muls_are = ap (λ (x : ReportTree). x.muls) is;
  load_is = ap (λ (x : ReportTree). x.load) is;
  no_enable = ap (λ (x : ReportTree). x.enable) is;
}

pub headline_of : (part : List ℕ) (slowdown : ℕ) (p : ProgramTree) (instances : List StFuncTree) (text : List ℕ)
    → IsCosted load_limit part slowdown p instances → IsModuleText p slowdown instances text → IsProgramListing part slowdown text
headline_of part slowdown p instances text c t =
    let l = t.listing in
    let d = l.compiled in
    built part p slowdown instances (main_costs p instances) l.report l.circuit l.notes text c.typed.reads c.schedule d.laid d.circuit
    (tells-costs p slowdown instances d.instance l.report d.reported)
    (notes-are p instances d.instance l.circuit.cells l.notes d.noted) l.listed
