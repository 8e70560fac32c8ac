-- The text of a program's module.
use Rattle.std.proofs.Common.{◌≡◌, ℕ, ◌+◌, ◌*◌, ◌^◌, ◌<◌, ◌≤◌, zero, suc, List, [], ◌∷◌, length, map, filter, length-append, Some, slice_get, refl, arith, ap, sym, ◌∙◌, subst}
use Rattle.std.proofs.lemmas.List.{length-map}
use Rattle.ae_sttype.specs.StTree.{StTree, lanes, st_atoms, element_words}
use Rattle.ae_sttype.specs.Size.{IsInSize}
use Rattle.ae_sttype.proofs.Bounds.{lanes-le-atoms}
use Rattle.ae_seq.specs.ProgramTree.{ProgramTree}
use Rattle.ae_rewrite.specs.StProgramTree.{StFuncTree}
use Rattle.ae_rewrite.specs.Sound.{IsSound, item_layout, item_layouts}
use Rattle.ae_delay.proofs.Instances.{all_items}
use Rattle.ae_netlist.specs.Circuit.{Circuit}
use Rattle.ae_vmodule.specs.ModuleTree.{ModuleTree}
use Rattle.ae_vread.specs.Spells.{Spells}
use Rattle.ae_judge.specs.Faults.{IsWellFormed}
use Rattle.ae_runs.specs.Runs.{HasOneModuleRun}
use Rattle.ae_runs.specs.SameRuns.{HasSameRuns}
use Rattle.ae_judge.specs.Weight.{weight}
use Rattle.ae_verilog.specs.NetlistModule.{netlist_module}
use Rattle.ae_verilog.specs.Written.{IsWritableNetlist}
use Rattle.ae_verilog.specs.ReportLines.{ReportTree}
use Rattle.ae_ops.specs.Blocks.{stream_of}
use Rattle.ae_ports.specs.Ports.{streams_of, outlet_port, columns_in}
use Rattle.ae_ports.specs.CircuitFor.{IsCircuitFor}
use Rattle.ae_delay.specs.declared.own.OwnCosts.{OwnCosts}
use Rattle.ae_lower.specs.Circuits.{last_of, results_of}
use Rattle.ae_ports.specs.Ports as net_side
use Rattle.ae_correct.specs.Laws.{CircuitsAreCorrect, CircuitsAreWritable, IsLaidOut}
use Rattle.ae_correct.proofs.Laid.{few_ins, few_outs, ins_filling, outs_filling}
use Rattle.ae_correct.specs.Correct.{ports_of, port_of, is_port}
use Rattle.ae_ports.proofs.Columns.{stream_columns}
use Rattle.ae_correct.proofs.Keeps.{circuit_ports, ins_of, outs_of}
use Rattle.ae_correct.proofs.Nets.{in_net, out_net, ports_filtered}
use Rattle.ae_correct.proofs.Places.{columns_more, length_from}
use Rattle.ae_verilog.specs.Notes.{NoteTree, lines_of, noted_module}
use Rattle.ae_compile.specs.Building.{IsModuleText, IsWritten}
use Rattle.ae_compile.specs.Compiling.{IsCompiled}
use Rattle.ae_compile.specs.declared.costs.Costs.{Costs}
use Rattle.ae_compile.specs.Costing.{IsKnown, load_limit, main_costs}
use Rattle.ae_correct.proofs.Written.{unmapped}

-- ---- columns

product_le : (a b c most : ℕ) → a ≤ b → b * c ≤ most → a * c ≤ most
product_le zero b c most h g = omega arith
product_le (suc a) zero c most h g = absurd (omega (arith, h))
product_le (suc a) (suc b) c most h g =
    let x : suc a * c ≡ a * c + c = omega arith in
    let y : suc b * c ≡ b * c + c = omega arith in
    let rest : a * c ≤ b * c = product_le a b c (b * c) (omega (arith, h)) (omega arith) in
    omega (arith, x, y, rest, g)

pub few_columns : (s : StTree) → IsInSize s → lanes s * element_words s ≤ 16384
few_columns s h = product_le (lanes s) (st_atoms s) (element_words s) 16384 (lanes-le-atoms s h.lengths) h.in_words

all_columns : (ss : List StTree) → ((q : ℕ) (s : StTree) → slice_get ss q ≡ Some s → IsInSize s) → columns_in (streams_of ss) ≤ length ss * 16384
all_columns [] h = omega arith
all_columns (s ∷ ss) h =
    omega (arith, columns_more (stream_of s) (streams_of ss), few_columns s (h 0 s refl), stream_columns s, all_columns ss (λ q t e. h (suc q) t e))

-- ---- how many ports a circuit has

pub record HasFewPorts (lines : ℕ → ℕ) (ins outs : List StTree) (n : Circuit) : Type 0 where
  pub inputs : length (net_side.input_ports (streams_of ins)) ≤ 131072
  pub outputs : length n.outlets ≤ 131072
  pub all : length (ports_of (netlist_module lines n.cells n.outlets (length outs))) ≡ 2 + length (net_side.input_ports (streams_of ins)) + length n.outlets

-- the layouts of an instance's results are in size
pub small_results : (instances : List StFuncTree) (s : StFuncTree) → IsSound instances → slice_get instances (last_of instances) ≡ Some s
    → (q : ℕ) (t : StTree) → slice_get (results_of s) q ≡ Some t → IsInSize t
small_results instances s sound found q t e =
    let own = sound.each (last_of instances) s found in
    let m = unmapped (item_layout (item_layouts s)) s.results q t e in
    subst IsInSize m.is (all_items (last_of instances) s own m.from (own.results q m.from m.found)).size

pub few_ports : (lines : ℕ → ℕ) → (p : ProgramTree) (slowdown : ℕ) (costs : OwnCosts) (ins outs : List StTree) (n : Circuit) → IsLaidOut p slowdown ins outs
    → IsCircuitFor p slowdown costs ins outs n → HasFewPorts lines ins outs n
few_ports lines p slowdown costs ins outs n laid c =
    let many : ℕ = length outs in
    let have = circuit_ports p slowdown costs ins outs n c in
    let given = net_side.input_ports (streams_of ins) in
    let shown : length n.outlets ≡ length (outs_of outs) = sym (length-map n.outlets (outlet_port n.cells)) ∙ ap length have.outputs in
    let filtered : length (ports_of (netlist_module lines n.cells n.outlets many)) ≡ 1 + (length (map in_net (ins_of ins)) + length
    (map (out_net many) (outs_of outs))) =
    length-map (filter is_port (netlist_module lines n.cells n.outlets many).nets) port_of ∙
    ap length (ports_filtered lines n.cells n.outlets many (ins_of ins) (outs_of outs) have) ∙
    omega (arith, length-append (map in_net (ins_of ins)) (map (out_net many) (outs_of outs))) in
    let in_columns : length given ≡ columns_in (streams_of ins) = length_from _ 0 (streams_of ins) in
    let out_columns : length (outs_of outs) ≡ columns_in (streams_of outs) = length_from _ 0 (streams_of outs) in
    record {
      inputs = omega (arith, in_columns, few_ins p slowdown ins outs laid, all_columns ins (λ q t e. (ins_filling p slowdown ins outs laid q t e).size));
      outputs = omega (
        arith,
        shown,
        out_columns,
        few_outs p slowdown ins outs laid,
        all_columns outs (λ q t e. (outs_filling p slowdown ins outs laid q t e).size),
      );
      all = omega (arith, filtered, length-map (ins_of ins) in_net, length-map (outs_of outs) (out_net many), shown);
    }

-- ---- the module

-- the laws by which a netlist is written as a module
pub record HaveWriting : Type 0 where
  pub writable : CircuitsAreWritable
  pub runs : (lines : ℕ → ℕ) (n : Circuit) (outs : ℕ) → IsWritableNetlist n.cells n.outlets outs → HasSameRuns (netlist_module lines n.cells n.outlets outs) n
  pub formed : (lines : ℕ → ℕ) (n : Circuit) (outs : ℕ) → IsWritableNetlist n.cells n.outlets outs → 1 + 4 * length n.cells + 4 * length n.outlets ≤ 10000000
      → IsWellFormed (netlist_module lines n.cells n.outlets outs)

-- and those of its text and its correctness
pub record HaveLaws : Type 0 where
  pub writing : HaveWriting
  pub correct : CircuitsAreCorrect
  pub light : (lines : ℕ → ℕ) (n : Circuit) (outs : ℕ) → weight (netlist_module lines n.cells n.outlets outs) ≤ 1 + 4 * length n.cells + 4 * length n.outlets
  pub once : (m : ModuleTree) → IsWellFormed m → HasOneModuleRun m
  pub spelled : (text : List ℕ) (m n : ModuleTree) → length text < 2 ^ 32 → Spells text m → Spells text n → m ≡ n

-- the module of a compiled program's circuit
pub record HasModule (n : Circuit) (notes : List NoteTree) (many : ℕ) : Type 0 where
  pub same : HasSameRuns (noted_module notes n.cells n.outlets many) n
  pub formed : IsWellFormed (noted_module notes n.cells n.outlets many)

pub module_there : (p : ProgramTree) (slowdown : ℕ) (instances : List StFuncTree) (found : Costs) (n : Circuit) (report : ReportTree) (notes : List NoteTree)
    → HaveWriting → IsKnown load_limit p slowdown instances found → IsCompiled p slowdown instances n report notes → HasModule n notes (length report.outs)
module_there p slowdown instances found n report notes laws k d =
    let many : ℕ = length report.outs in
    let ports = few_ports (lines_of notes (length n.cells)) p slowdown (main_costs p instances) report.ins report.outs n d.laid d.circuit in
    let writable : IsWritableNetlist n.cells n.outlets many = laws.writable p slowdown
    (main_costs p instances) report.ins report.outs n d.laid k.light d.circuit in
    let small = d.circuit.small in
    let light = k.light in
    record {
      same = laws.runs (lines_of notes (length n.cells)) n many writable;
      formed = laws.formed (lines_of notes (length n.cells)) n many writable (omega (arith, small, light, ports.inputs, ports.outputs));
    }

pub module_is : (p : ProgramTree) (slowdown : ℕ) (instances : List StFuncTree) (found : Costs) (n : Circuit) (report : ReportTree) (notes : List NoteTree)
    (text : List ℕ) → HaveLaws → IsKnown load_limit p slowdown instances found → IsCompiled p slowdown instances n report notes
    → IsWritten report n notes text → IsModuleText p slowdown instances text
module_is p slowdown instances found n report notes text laws k d t =
    let many : ℕ = length report.outs in
    let m : ModuleTree = noted_module notes n.cells n.outlets many in
    let ports = few_ports (lines_of notes (length n.cells)) p slowdown (main_costs p instances) report.ins report.outs n d.laid d.circuit in
    let has = module_there p slowdown instances found n report notes laws.writing k d in
    let small = d.circuit.small in
    record {
      listing = record { circuit = n; report = report; notes = notes; compiled = d; listed = t.listed };
      tree = m;
      spells = t.spells;
      only = λ other spelled. laws.spelled text other m t.few spelled t.spells;
      formed = has.formed;
      one_run = laws.once m has.formed;
      correct = laws.correct (lines_of notes (length n.cells)) p slowdown (main_costs p instances) report.ins report.outs n d.laid d.circuit has.same;
      products = t.stars_are ∙ d.circuit.muls;
      light = omega (arith, laws.light (lines_of notes (length n.cells)) n many, small, ports.all);
      rest = t.rest;
      reports = t.reports;
      clean = t.clean;
    }
