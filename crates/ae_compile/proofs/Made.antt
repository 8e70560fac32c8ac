-- The circuit of either way is one for the program.
use Rattle.std.proofs.Common.{◌≡◌, ℕ, true, false, List, [], length, Some, slice_get, if◌then◌else◌, ap, sym, ◌∙◌, subst}
use Rattle.std.specs.Prelude.{Bool}
use Rattle.std.proofs.lemmas.List.{length-map}
use Rattle.std.proofs.lemmas.Option.{same_Some}
use Rattle.ae_seq.specs.ProgramTree.{FuncTree, ProgramTree}
use Rattle.ae_sttype.specs.StTree.{StTree}
use Rattle.ae_rewrite.specs.StProgramTree.{StFuncTree}
use Rattle.ae_rewrite.specs.Interface.{HaveLayouts}
use Rattle.ae_netlist.specs.Circuit.{Circuit}
use Rattle.ae_netlist.specs.declared.cell.SizedCell.{SizedCell}
use Rattle.ae_delay.specs.declared.own.OwnCosts.{OwnCosts}
use Rattle.ae_ports.specs.CircuitFor.{IsCircuitFor}
use Rattle.ae_tidy.specs.Needed.{IsLean}
use Rattle.ae_tidy.specs.Places.{AreMarks}
use Rattle.ae_lower.specs.Circuits.{IsCircuitOf, last_of, results_of}
use Rattle.ae_lower.specs.Laws.{CircuitsAreFor}
use Rattle.ae_lower.specs.declared.sections.Section.{Section}
use Rattle.ae_lower.proofs.Covering.{sections_empty}
use Rattle.ae_trace.specs.Traces.{is_movement}
use Rattle.ae_moves.specs.Origins.{Move}
use Rattle.ae_rewrite.specs.StProgramTree.{st_trees}
use Rattle.ae_fuse.specs.Costing.{item_move}
use Rattle.ae_results.specs.Results.{result_move}
use Rattle.ae_fuse.specs.Fused.{FusedView, IsFusedOf}
use Rattle.ae_fuse.specs.Fused.{costs_in as moves_costs}
use Rattle.ae_fuse.specs.Lowered.{IsFusedCircuit, outs_in}
use Rattle.ae_fuse.proofs.Circuits.{outs-same}
use Rattle.ae_compile.specs.declared.costs.Costs.{Costs}
use Rattle.ae_compile.specs.Compiling.{IsMadeFor}
use Rattle.ae_compile.specs.Costing.{IsKnown, arrivals_in, load_limit, main_costing, main_costs, whole_costs}
use Rattle.ae_compile.specs.LineNotes.{AreCellSections, ArePlaced, OwnCells}
use Rattle.ae_compile.proofs.Large.{arrivals_found, costs_found, moved_main, plain_main}
use Rattle.ae_compile.proofs.Mains.{main_nodes, parts_of}

pub plain_made : (p : ProgramTree) (slowdown : ℕ) (all : List StFuncTree) (costs : Costs) (n : Circuit) → CircuitsAreFor
    → IsKnown load_limit p slowdown all costs → is_movement p ≡ false
    → ((s : StFuncTree) → slice_get all (last_of all) ≡ Some s → IsCircuitOf all s n) → IsLean n → IsMadeFor p slowdown all n
plain_made p slowdown all costs n law k computes circuits lean s found =
    let made = law p slowdown all s n k.typed k.schedule k.sound found (circuits s found) lean in (
      made.0,
      subst (λ (c : OwnCosts). IsCircuitFor p slowdown c s.ins (results_of s) n)
          (sym (plain_main p all computes (parts_of p slowdown all k.schedule))) made.1,
    )

pub plain_placed : (p : ProgramTree) (slowdown : ℕ) (all : List StFuncTree) (costs : Costs) (cells : List SizedCell) (marks : List ℕ)
    → IsKnown load_limit p slowdown all costs → is_movement p ≡ false
    → ((s : StFuncTree) → slice_get all (last_of all) ≡ Some s → AreMarks (length cells) (length s.nodes) marks) → ArePlaced p cells marks
plain_placed p slowdown all costs cells marks k computes places f main =
    let parts = parts_of p slowdown all k.schedule in
    let many : length parts.instance.nodes ≡ length f.nodes = main_nodes p slowdown all f parts.instance k.schedule main parts.last in
    let count : length f.nodes ≡ (if is_movement p then length f.results else length f.nodes) = ap
    (λ (b : Bool). if b then length f.results else length f.nodes) (sym computes) in
    subst (λ n. AreMarks (length cells) n marks) (many ∙ count) (places parts.instance parts.last)

pub moved_made : (p : ProgramTree) (slowdown : ℕ) (all : List StFuncTree) (costs : Costs) (v : FusedView) (n : Circuit)
    → IsKnown load_limit p slowdown all costs → IsFusedOf p all v → IsFusedCircuit v n → IsMadeFor p slowdown all n
moved_made p slowdown all costs v n k is circuit s found =
    let made = circuit p slowdown all k.typed k.some k.most k.schedule k.sound is in
    let same : is.instance ≡ s = same_Some is.instance s (sym is.last ∙ found) in
    let ins = is.ins ∙ ap (λ (x : StFuncTree). x.ins) same in
    let outs : outs_in v ≡ results_of s = outs-same v p slowdown all k.typed k.schedule is ∙ ap results_of same in
    let P : OwnCosts → List StTree → List StTree → Type 0 = λ c xs ys. HaveLayouts p slowdown xs ys × IsCircuitFor p slowdown c xs ys n in
    subst (λ c. P c s.ins (results_of s)) (sym (moved_main p all v is))
    (subst (λ xs. P (moves_costs v) xs (results_of s)) ins (subst (λ ys. P (moves_costs v) (st_trees v.ins) ys) outs made))

pub moved_placed : (p : ProgramTree) (all : List StFuncTree) (v : FusedView) (cells : List SizedCell) (marks : List ℕ) → IsFusedOf p all v
    → AreMarks (length cells) (length v.results) marks → ArePlaced p cells marks
moved_placed p all v cells marks is placed f main =
    let same : is.func ≡ f = same_Some is.func f (sym is.there ∙ main) in
    let moves : length v.results ≡ length is.func.results =
    sym (length-map v.results (result_move (st_trees v.ins))) ∙ ap (λ (ms : List Move). length ms) is.moves ∙
    length-map is.func.results (item_move is.func is.instance) in
    let count : length f.results ≡ (if is_movement p then length f.results else length f.nodes) = ap
    (λ (b : Bool). if b then length f.results else length f.nodes) (sym is.movement) in
    subst (λ n. AreMarks (length cells) n marks) (moves ∙ (ap (λ (g : FuncTree). length g.results) same ∙ count)) placed

-- of a program that only moves words no node has cells of its own
pub moved_own : (p : ProgramTree) (all : List StFuncTree) (v : FusedView) (cells : List SizedCell) (marks : List ℕ) → IsFusedOf p all v
    → OwnCells p all cells marks
moved_own p all v cells marks is computes = absurd (let e : true ≡ false = sym is.movement ∙ computes in cc)

pub moved_sections : (p : ProgramTree) (all : List StFuncTree) (v : FusedView) (cells : ℕ) (sections : List Section) → IsFusedOf p all v → sections ≡ []
    → AreCellSections p all cells sections
moved_sections p all v cells sections is none = record {
  are = rw none (sections_empty cells);
  covered = λ computes. absurd (let e : true ≡ false = sym is.movement ∙ computes in cc);
}

-- ---- the costs that were found

pub known_costs : (limit : ℕ) (p : ProgramTree) (slowdown : ℕ) (all : List StFuncTree) (c : Costs) → IsKnown limit p slowdown all c
    → whole_costs c ≡ main_costs p all
known_costs limit p slowdown all c k = costs_found p all c (parts_of p slowdown all k.schedule) k.costs_are

pub known_arrivals : (limit : ℕ) (p : ProgramTree) (slowdown : ℕ) (all : List StFuncTree) (c : Costs) → IsKnown limit p slowdown all c
    → arrivals_in (last_of all) c ≡ Some (main_costing p all).arrivals
known_arrivals limit p slowdown all c k = arrivals_found p all c (parts_of p slowdown all k.schedule) k.costs_are
