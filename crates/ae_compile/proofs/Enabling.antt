-- The circuit of a program with an enable, and the text of its module.
use Rattle.std.proofs.Common.{◌≡◌, ℕ, ◌+◌, ◌*◌, ◌^◌, ◌<◌, ◌≤◌, Bool, true, false, if◌then◌else◌, List, [], ◌∷◌, length, length-append, map, take, filter, Some, slice_get, refl, arith, ap, sym, ◌∙◌, subst}
use Rattle.std.proofs.lemmas.List.{length-map}
use Rattle.ae_sttype.specs.StTree.{StTree}
use Rattle.ae_seq.specs.ProgramTree.{FuncTree, NodeTree, ProgramTree}
use Rattle.ae_rewrite.specs.StProgramTree.{StFuncTree}
use Rattle.ae_rewrite.specs.Sound.{item_layout, item_layouts}
use Rattle.ae_rewrite.specs.Interface.{main_of}
use Rattle.ae_delay.specs.declared.own.OwnCosts.{OwnCosts}
use Rattle.ae_netlist.specs.declared.cell.SizedCell.{SizedCell}
use Rattle.ae_netlist.specs.declared.cell.Outlet.{Outlet}
use Rattle.ae_netlist.specs.Circuit.{Circuit}
use Rattle.ae_vmodule.specs.ModuleTree.{ModuleTree}
use Rattle.ae_vread.specs.Spells.{Spells}
use Rattle.ae_judge.specs.Faults.{IsWellFormed}
use Rattle.ae_runs.specs.Runs.{HasOneModuleRun}
use Rattle.ae_runs.specs.SameRuns.{HasSameRuns}
use Rattle.ae_judge.specs.Weight.{weight}
use Rattle.ae_verilog.specs.NetlistModule.{netlist_module}
use Rattle.ae_verilog.specs.Written.{IsWritableNetlist}
use Rattle.ae_verilog.specs.Notes.{ArePrinted, NoteTree, lines_of, noted_module}
use Rattle.ae_verilog.specs.ReportLines.{ReportTree}
use Rattle.ae_ports.specs.CircuitFor.{IsCircuitFor}
use Rattle.ae_ports.specs.Ports.{SizedPort, input_cell, reset_port, streams_of}
use Rattle.ae_ports.specs.Ports as net_side
use Rattle.ae_lower.specs.Circuits.{last_of, results_of}
use Rattle.ae_trace.specs.Traces.{is_movement}
use Rattle.ae_correct.specs.Laws.{IsLaidOut}
use Rattle.ae_correct.specs.Correct.{is_port, port_of, ports_of}
use Rattle.ae_correct.proofs.Keeps.{circuit_ports, outs_of}
use Rattle.ae_correct.proofs.Nets.{HavePorts, in_net, out_net, ports_filtered}
use Rattle.ae_stall.specs.Copies.{reset_cell}
use Rattle.ae_stall.specs.Images.{renumbered, moved_outlet}
use Rattle.ae_stall.specs.Stalled.{IsStalled}
use Rattle.ae_stalled.specs.Laws.{StalledCircuitsAreCorrect, StalledCircuitsAreWritable, stall_limit}
use Rattle.ae_stalled.proofs.Ports.{enable_port, stalled_ports_are}
use Rattle.ae_compile.specs.Building.{IsStalledText, IsWritten}
use Rattle.ae_compile.specs.Compiling.{IsCompiledStalled, IsMadeFor, moved_note, report_of}
use Rattle.ae_compile.specs.declared.costs.Costs.{Costs}
use Rattle.ae_compile.specs.Costing.{IsKnown, load_limit, main_costs}
use Rattle.ae_compile.specs.LineNotes.{ArePlaced, OwnCells, item_note, node_note, node_notes, result_notes, told_notes}
use Rattle.ae_compile.proofs.Mains.{parts_of}
use Rattle.ae_compile.proofs.Modules.{HaveWriting, few_ports}

-- ---- the netlist

-- what `stall` asks of a netlist
pub record CanBeStalled (n : Circuit) : Type 0 where
  pub reset : slice_get n.cells 0 ≡ Some reset_cell
  pub most : length n.cells ≤ 1000000

head_is : (cells : List SizedCell) (p : SizedPort) (ports : List SizedPort) → take (length (p ∷ ports)) cells ≡ map input_cell (p ∷ ports)
    → slice_get cells 0 ≡ Some (input_cell p)
head_is [] p ports e = cc
head_is (c ∷ cells) p ports e = let same : c ≡ input_cell p = cc in ap (λ (x : SizedCell). Some x) same

pub can_be_stalled : (p : ProgramTree) (slowdown : ℕ) (instances : List StFuncTree) (costs : Costs) (n : Circuit)
    → IsKnown load_limit p slowdown instances costs → (main_costs p instances).load ≤ stall_limit
    → IsMadeFor p slowdown instances n → CanBeStalled n
can_be_stalled p slowdown instances costs n k light circuit =
    let key = k.schedule.last in
    let s = key.instance in
    let made = circuit s key.here in
    let laid : IsLaidOut p slowdown s.ins (results_of s) = record { typed = k.typed; some = k.some; most = k.most; layouts = made.0 } in
    let ports = few_ports (λ net. 0) p slowdown (main_costs p instances) s.ins (results_of s) n laid made.1 in
    let load : (main_costs p instances).load ≤ 50000 = light in
    record {
      reset = head_is n.cells reset_port (net_side.input_ports (streams_of s.ins))
          (circuit_ports p slowdown (main_costs p instances) s.ins (results_of s) n made.1).inputs.first;
      most = omega (arith, made.1.small, load, ports.inputs);
    }

-- ---- the notes

notes_moved : (layouts : List StTree) (i : ℕ) (ns : List NodeTree) (ms : List ℕ)
    → node_notes layouts i ns (map renumbered ms) ≡ map moved_note (node_notes layouts i ns ms)
notes_moved layouts i [] ms = refl
notes_moved layouts i (n ∷ ns) [] = refl
notes_moved layouts i (n ∷ ns) (m ∷ ms) = ap (λ rest. node_note (renumbered m) n (item_layout layouts i) ∷ rest) (notes_moved layouts (i + 1) ns ms)

results_moved : (layouts : List StTree) (f : FuncTree) (is ms : List ℕ)
    → result_notes layouts f is (map renumbered ms) ≡ map moved_note (result_notes layouts f is ms)
results_moved layouts f [] ms = refl
results_moved layouts f (i ∷ is) [] = refl
results_moved layouts f (i ∷ is) (m ∷ ms) = ap (λ rest. item_note f i (renumbered m) (item_layout layouts i) ∷ rest) (results_moved layouts f is ms)

told_moved : (moves : Bool) (layouts : List StTree) (f : FuncTree) (ms : List ℕ)
    → (if moves then result_notes layouts f f.results (map renumbered ms) else node_notes layouts (length f.params) f.nodes (map renumbered ms))
    ≡ map moved_note (if moves then result_notes layouts f f.results ms else node_notes layouts (length f.params) f.nodes ms)
told_moved true layouts f ms = results_moved layouts f f.results ms
told_moved false layouts f ms = notes_moved layouts (length f.params) f.nodes ms

-- ---- the parts in one

-- the parts that are made, each by the program function's instance
pub record AreMadeStalled (p : ProgramTree) (slowdown : ℕ) (instances : List StFuncTree) (plain n : Circuit) (marks : List ℕ) (report : ReportTree)
    (notes : List NoteTree) : Type 0 where
  pub reports : (s : StFuncTree) → slice_get instances (last_of instances) ≡ Some s → report ≡ report_of true p slowdown instances s
  pub circuit : IsMadeFor p slowdown instances plain
  pub stalled : IsStalled plain n
  pub own : OwnCells p instances plain.cells marks
  pub places : ArePlaced p plain.cells marks
  pub notes_are : (s : StFuncTree) (f : FuncTree) → slice_get instances (last_of instances) ≡ Some s → slice_get p.funcs (main_of p) ≡ Some f
      → notes ≡ told_notes p f (item_layouts s) (map renumbered marks)
  pub printed : ArePrinted notes

pub stalled_made : (p : ProgramTree) (slowdown : ℕ) (instances : List StFuncTree) (costs : Costs) (plain n : Circuit) (marks : List ℕ) (report : ReportTree)
    (notes : List NoteTree) → IsKnown load_limit p slowdown instances costs
    → AreMadeStalled p slowdown instances plain n marks report notes → IsCompiledStalled p slowdown instances n report notes
stalled_made p slowdown instances costs plain n marks report notes k m =
    let parts = parts_of p slowdown instances k.schedule in
    let s = parts.instance in
    let f = parts.func in
    let told = m.reports s parts.last in
    let made = m.circuit s parts.last in
    record {
      instance = s;
      last = parts.last;
      reported = told;
      laid = subst (λ (r : ReportTree). IsLaidOut p slowdown r.ins r.outs) (sym told)
          (record { typed = k.typed; some = k.some; most = k.most; layouts = made.0 });
      plain = plain;
      circuit = subst (λ (r : ReportTree). IsCircuitFor p slowdown (main_costs p instances) r.ins r.outs plain) (sym told) made.1;
      stalled = m.stalled;
      before = told_notes p f (item_layouts s) marks;
      noted = record {
        func = f;
        main = parts.there;
        marks = marks;
        placed = m.places f parts.there;
        own = λ computes. m.own computes s parts.last;
        are = refl;
      };
      moved = m.notes_are s f parts.last parts.there ∙ told_moved (is_movement p) (item_layouts s) f marks;
      printed = m.printed;
    }

-- ---- the module

-- the laws of its text and its correctness
pub record HaveStalledLaws : Type 0 where
  pub writing : HaveWriting
  pub writable : StalledCircuitsAreWritable
  pub correct : StalledCircuitsAreCorrect
  pub light : (lines : ℕ → ℕ) (n : Circuit) (outs : ℕ) → weight (netlist_module lines n.cells n.outlets outs) ≤ 1 + 4 * length n.cells + 4 * length n.outlets
  pub once : (m : ModuleTree) → IsWellFormed m → HasOneModuleRun m
  pub spelled : (text : List ℕ) (m n : ModuleTree) → length text < 2 ^ 32 → Spells text m → Spells text n → m ≡ n

-- how many ports it has: those of the module without the enable, and this
stalled_ports_many : (lines : ℕ → ℕ) (p : ProgramTree) (slowdown : ℕ) (costs : OwnCosts) (ins outs : List StTree) (plain n : Circuit)
    → IsCircuitFor p slowdown costs ins outs plain → IsStalled plain n
    → length (ports_of (netlist_module lines n.cells n.outlets (length outs))) ≡ 3 + length (net_side.input_ports (streams_of ins)) + length plain.outlets
stalled_ports_many lines p slowdown costs ins outs plain n c still =
    let many : ℕ = length outs in
    let given = net_side.input_ports (streams_of ins) in
    let own = circuit_ports p slowdown costs ins outs plain c in
    let have : HavePorts n.cells n.outlets (reset_port ∷ enable_port ∷ given) (outs_of outs) = stalled_ports_are plain n reset_port given
    (outs_of outs) still c.shown own in
    let shown : length plain.outlets ≡ length (outs_of outs) = sym (length-map plain.outlets (net_side.outlet_port plain.cells)) ∙ ap length own.outputs in
    let filtered : length (ports_of (netlist_module lines n.cells n.outlets many)) ≡ 1 + (length (map in_net (reset_port ∷ enable_port ∷ given)) + length
    (map (out_net many) (outs_of outs))) =
    length-map (filter is_port (netlist_module lines n.cells n.outlets many).nets) port_of ∙
    ap length (ports_filtered lines n.cells n.outlets many (reset_port ∷ enable_port ∷ given) (outs_of outs) have)
    ∙ omega (arith, length-append (map in_net (reset_port ∷ enable_port ∷ given)) (map (out_net many) (outs_of outs))) in
    omega (arith, filtered, length-map (reset_port ∷ enable_port ∷ given) in_net, length-map (outs_of outs) (out_net many), shown)

pub stalled_is : (p : ProgramTree) (slowdown : ℕ) (instances : List StFuncTree) (n : Circuit) (report : ReportTree) (notes : List NoteTree) (text : List ℕ)
    → HaveStalledLaws → (main_costs p instances).load ≤ stall_limit
    → IsCompiledStalled p slowdown instances n report notes → IsWritten report n notes text → IsStalledText p slowdown instances text
stalled_is p slowdown instances n report notes text laws light d t =
    let costs = main_costs p instances in
    let many : ℕ = length report.outs in
    let lines : ℕ → ℕ = lines_of notes (length n.cells) in
    let m : ModuleTree = noted_module notes n.cells n.outlets many in
    let load : costs.load ≤ 50000 = light in
    let ports = few_ports lines p slowdown costs report.ins report.outs d.plain d.laid d.circuit in
    let plain_writable : IsWritableNetlist d.plain.cells d.plain.outlets many = laws.writing.writable p slowdown costs report.ins report.outs d.plain d.laid
    (omega (arith, load)) d.circuit in
    let plain_same : HasSameRuns (netlist_module lines d.plain.cells d.plain.outlets many) d.plain = laws.writing.runs lines d.plain many plain_writable in
    let writable : IsWritableNetlist n.cells n.outlets many = laws.writable p slowdown costs report.ins report.outs d.plain n d.laid light d.circuit
    d.stalled in
    let same : HasSameRuns m n = laws.writing.runs lines n many writable in
    let outlets : length n.outlets ≡ length d.plain.outlets = ap (λ (os : List Outlet). length os) d.stalled.outputs ∙
    length-map d.plain.outlets moved_outlet in
    let cells = d.stalled.small in
    let small = d.circuit.small in
    let all = stalled_ports_many lines p slowdown costs report.ins report.outs d.plain n d.circuit d.stalled in
    let formed : IsWellFormed m = laws.writing.formed lines n many writable (omega (arith, cells, small, load, ports.inputs, ports.outputs, outlets)) in
    record {
      listing = record { circuit = n; report = report; notes = notes; compiled = d; listed = t.listed };
      tree = m;
      spells = t.spells;
      only = λ other spelled. laws.spelled text other m t.few spelled t.spells;
      formed = formed;
      one_run = laws.once m formed;
      correct = laws.correct lines p slowdown costs report.ins report.outs d.plain n d.laid d.circuit d.stalled plain_same same;
      products = t.stars_are ∙ (d.stalled.muls ∙ d.circuit.muls);
      light = omega (arith, laws.light lines n many, cells, small, all, outlets);
      rest = t.rest;
      reports = t.reports;
      clean = t.clean;
    }
