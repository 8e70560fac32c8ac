-- What is asked of a circuit that is put between two channels is so of that of a program.
use Rattle.std.proofs.Common.{ℕ, zero, suc, ◌≡◌, ◌+◌, ◌<◌, ◌≤◌, List, [], ◌∷◌, length, map, take, sum_by, Some, slice_get, arith, refl, ap, sym, ◌∙◌, subst}
use Rattle.std.proofs.lemmas.List.{length-map}
use Rattle.std.proofs.lemmas.List.Sums.{sum_by-cons}
use Rattle.ae_sttype.specs.declared.st_type.StType.{StType}
use Rattle.ae_sttype.specs.StTree.{StTree, st_tree}
use Rattle.ae_sttype.specs.Moves.{columns_of}
use Rattle.ae_netlist.specs.declared.cell.SizedCell.{SizedCell}
use Rattle.ae_verilog.specs.declared.report.Report.{Report}
use Rattle.ae_verilog.specs.Notes.{NoteTree}
use Rattle.ae_verilog.specs.ReportLines.{ReportTree, report_tree}
use Rattle.ae_rewrite.specs.StProgramTree.{StFuncTree}
use Rattle.ae_flow.proofs.MeaningLayouts.{AllLaidOut}
use Rattle.ae_compile.specs.Compiling.{IsCompiled}
use Rattle.ae_compile.specs.Costing.{IsKnown, load_limit, main_costs}
use Rattle.ae_compile.specs.declared.costs.Costs.{Costs}
use Rattle.ae_compile.proofs.Modules.{few_ports}
use Rattle.ae_lower.specs.Circuits.{last_of}
use Rattle.ae_lower.proofs.Blocks.{keys_of}
use Rattle.ae_lower.proofs.Layouts.{inputs_laid}
use Rattle.std.proofs.lemmas.Option.{same_Some}
use Rattle.ae_channel.specs.Asked.{CanStream}
use Rattle.ae_netlist.specs.Circuit.{Circuit}
use Rattle.ae_seq.specs.ProgramTree.{ParamTree, ProgramTree}
use Rattle.ae_seq.specs.Typing.{◌>>=◌, type_at, types_of_params}
use Rattle.ae_eval.proofs.Items.{entry-at}
use Rattle.ae_rewrite.specs.Interface as interface
use Rattle.ae_rewrite.specs.Interface.{main_of, parameter_types, result_types, results_in}
use Rattle.ae_rewrite.specs.LayoutRule.{lay_of}
use Rattle.ae_rewrite.specs.Scheduled.{AreFilling}
use Rattle.ae_rewrite.proofs.Forms.{formed-of, some-funcs}
use Rattle.ae_ops.specs.Blocks.{Stream, stream_of, stream_widths}
use Rattle.ae_delay.specs.declared.own.OwnCosts.{OwnCosts}
use Rattle.ae_ports.specs.CircuitFor.{IsCircuitFor}
use Rattle.ae_ports.specs.Ports.{SizedPort, columns_in, input_cell, input_ports, outlet_port, reset_port, streams_of}
use Rattle.ae_ports.proofs.Columns.{stream_columns}
use Rattle.ae_correct.specs.Laws.{IsLaidOut}
use Rattle.ae_correct.proofs.Keeps.{outs_of}
use Rattle.ae_correct.proofs.Laid.{ins_filling, outs_filling}
use Rattle.ae_correct.proofs.Places.{length_from}
use Rattle.ae_stall.specs.Copies.{reset_cell}
use Rattle.ae_streamed.specs.Beats.{AreLayouts}
use Rattle.ae_control.proofs.Cells.{get_mapped}

-- ---- layouts

pub are_layouts : (slowdown : ℕ) (layouts : List StType) (trees : List StTree) → map st_tree layouts ≡ trees → 0 < length trees → AreFilling slowdown trees
    → AreLayouts slowdown layouts
are_layouts slowdown layouts trees is some filling = record {
  some = omega (arith, some, ap (λ (v : List StTree). length v) is, length-map layouts st_tree);
  each = λ k layout found. (let f = filling k (st_tree layout) (ap (λ v. slice_get v k) (sym is) ∙ get_mapped st_tree layouts k layout found) in
      (f.size, f.time));
}

pub some_ins : (p : ProgramTree) (slowdown : ℕ) (ins outs : List StTree) → IsLaidOut p slowdown ins outs → 0 < length ins
some_ins p slowdown ins outs h =
    let some = some-funcs p h.typed.is_formed in
    let e = entry-at p.funcs (main_of p) (omega (arith, some)) in
    let formed = formed-of p (main_of p) e.0 h.typed.is_formed e.1 in
    let own : parameter_types p ≡ types_of_params e.0.params = ap interface.types_in e.1 in
    omega (
      arith,
      formed.some_params,
      ap length own,
      length-map e.0.params (λ (q : ParamTree). q.type),
      ap length h.layouts.parameters,
      length-map (parameter_types p) (λ t. lay_of t slowdown),
      length-map ins (λ (x : StTree). Some x),
    )

pub some_outs : (p : ProgramTree) (slowdown : ℕ) (ins outs : List StTree) → IsLaidOut p slowdown ins outs → 0 < length outs
some_outs p slowdown ins outs h =
    let some = some-funcs p h.typed.is_formed in
    let e = entry-at p.funcs (main_of p) (omega (arith, some)) in
    let formed = formed-of p (main_of p) e.0 h.typed.is_formed e.1 in
    omega (
      arith,
      formed.some_results,
      ap (λ o. length (results_in o)) e.1,
      length-map (results_in (slice_get p.funcs (main_of p))) (type_at p (main_of p)),
      ap length h.layouts.results,
      length-map (result_types p) (λ o. o >>= λ t. lay_of t slowdown),
      length-map outs (λ (x : StTree). Some x),
    )

-- ---- columns

pub columns_are : (ss : List StTree) → columns_in (streams_of ss) ≡ sum_by columns_of ss
columns_are [] = refl
columns_are (s ∷ ss) =
    omega (
      arith,
      sum_by-cons columns_of s ss,
      sum_by-cons (λ (x : Stream). length (stream_widths x)) (stream_of s) (streams_of ss),
      stream_columns s,
      columns_are ss,
    )

take_short : {X : Type 0} (n : ℕ) (xs : List X) → length (take n xs) ≤ length xs
take_short zero xs = omega arith
take_short (suc n) [] = omega arith
take_short (suc n) (x ∷ xs) = omega (arith, take_short n xs)

head_is : (cells : List SizedCell) (p : SizedPort) (ports : List SizedPort) → take (length (p ∷ ports)) cells ≡ map input_cell (p ∷ ports)
    → slice_get cells 0 ≡ Some (input_cell p)
head_is [] p ports e = cc
head_is (c ∷ cells) p ports e = let same : c ≡ input_cell p = cc in ap (λ (x : SizedCell). Some x) same

module _ (p : ProgramTree) (slowdown : ℕ) (costs : OwnCosts) (ins outs : List StTree) (n : Circuit) (c : IsCircuitFor p slowdown costs ins outs n) where
  pub has_first : take (length (reset_port ∷ input_ports (streams_of ins))) n.cells ≡ map input_cell (reset_port ∷ input_ports (streams_of ins))
  has_first =
      let long : 1 + length (input_ports (streams_of ins)) ≡ length (reset_port ∷ input_ports (streams_of ins)) = omega arith in
      ap (λ k. take k n.cells) (sym long) ∙ c.inputs

  pub has_reset : slice_get n.cells 0 ≡ Some reset_cell
  has_reset = head_is n.cells reset_port (input_ports (streams_of ins)) has_first

  pub has_ins : sum_by columns_of ins < length n.cells
  has_ins =
      let ports : length (input_ports (streams_of ins)) ≡ columns_in (streams_of ins) = length_from _ 0 (streams_of ins) in
      omega (
        arith,
        ports,
        columns_are ins,
        take_short (length (reset_port ∷ input_ports (streams_of ins))) n.cells,
        ap length has_first,
        length-map (reset_port ∷ input_ports (streams_of ins)) input_cell,
      )

  pub has_outs : length n.outlets ≡ sum_by columns_of outs
  has_outs =
      let shown : length n.outlets ≡ length (outs_of outs) = sym (length-map n.outlets (outlet_port n.cells)) ∙ ap length c.outputs in
      let ports : length (outs_of outs) ≡ columns_in (streams_of outs) = length_from _ 0 (streams_of outs) in
      shown ∙ (ports ∙ columns_are outs)

-- ---- the whole

pub can_stream : (p : ProgramTree) (slowdown : ℕ) (instances : List StFuncTree) (n : Circuit) (report : Report) (notes : List NoteTree)
    → IsCompiled p slowdown instances n (report_tree report) notes → CanStream n report
can_stream p slowdown instances n report notes d =
    let costs : OwnCosts = main_costs p instances in
    let ins : List StTree = map st_tree report.ins.items in
    let outs : List StTree = map st_tree report.outs.items in
    let clocks : report.slowdown ≡ slowdown = ap (λ (r : ReportTree). r.slowdown) d.reported in
    let ports = few_ports (λ k. 0) p slowdown costs ins outs n d.laid d.circuit in
    record {
      reset = has_reset p slowdown costs ins outs n d.circuit;
      inputs = are_layouts report.slowdown report.ins.items ins refl (some_ins p slowdown ins outs d.laid)
          (subst (λ k. AreFilling k ins) (sym clocks) (ins_filling p slowdown ins outs d.laid));
      outputs = are_layouts report.slowdown report.outs.items outs refl (some_outs p slowdown ins outs d.laid)
          (subst (λ k. AreFilling k outs) (sym clocks) (outs_filling p slowdown ins outs d.laid));
      ins = has_ins p slowdown costs ins outs n d.circuit;
      outs = has_outs p slowdown costs ins outs n d.circuit;
      few = omega (arith, ports.outputs);
    }

-- the layouts of the parameters are those of their types
pub told_laid : (p : ProgramTree) (slowdown : ℕ) (instances : List StFuncTree) (found : Costs) (n : Circuit) (report : ReportTree) (notes : List NoteTree)
    → IsKnown load_limit p slowdown instances found → IsCompiled p slowdown instances n report notes
    → AllLaidOut (parameter_types p) report.ins
told_laid p slowdown instances found n report notes k d =
    let key = k.schedule.last in
    let e : key.instance ≡ d.instance = same_Some key.instance d.instance (sym key.here ∙ d.last) in
    subst (AllLaidOut (parameter_types p)) (sym (ap (λ (r : ReportTree). r.ins) d.reported))
    (inputs_laid p (keys_of instances) d.instance k.typed (k.schedule.right (last_of instances) d.instance d.last)
    (subst (λ (x : StFuncTree). x.func ≡ main_of p) e key.is_func))
