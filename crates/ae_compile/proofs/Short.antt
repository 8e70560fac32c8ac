-- The text of a program's module is short: its notes are as few and as short as the lines of the program.
use Rattle.std.proofs.Common.{◌≡◌, ℕ, zero, suc, ◌+◌, ◌<◌, ◌≤◌, Bool, true, false, if◌then◌else◌, List, [], ◌∷◌, length, map, Some, slice_get, refl, arith, ap, sym, ◌∙◌, subst}
use Rattle.std.proofs.lemmas.List.{length-map}
use Rattle.std.proofs.lemmas.Option.{none-some, same_Some, slice_get_within}
use Rattle.ae_sttype.specs.StTree.{StTree}
use Rattle.ae_sttype.specs.Size.{IsInSize}
use Rattle.ae_seq.specs.ProgramTree.{FuncTree, NodeTree, ProgramTree}
use Rattle.ae_rewrite.specs.StProgramTree.{StFuncTree}
use Rattle.ae_rewrite.specs.Sound.{item_layout, item_layouts}
use Rattle.ae_rewrite.specs.Interface.{main_of}
use Rattle.ae_rewrite.proofs.Forms.{few-nodes, formed-of}
use Rattle.ae_delay.proofs.Instances.{all_items}
use Rattle.ae_netlist.specs.declared.cell.SizedCell.{SizedCell}
use Rattle.ae_netlist.specs.declared.cell.Outlet.{Outlet}
use Rattle.ae_netlist.specs.Circuit.{Circuit}
use Rattle.ae_verilog.specs.Notes.{NoteTree, lines_of}
use Rattle.ae_verilog.specs.ReportLines.{ReportTree}
use Rattle.ae_spelled.specs.Short.{IsShort}
use Rattle.ae_lower.specs.Circuits.{last_of}
use Rattle.ae_stall.specs.Images.{moved_outlet}
use Rattle.ae_stalled.specs.Laws.{stall_limit}
use Rattle.ae_correct.proofs.Laid.{few_ins, few_outs, ins_filling, outs_filling}
use Rattle.ae_trace.specs.Traces.{is_movement}
use Rattle.ae_compile.specs.declared.costs.Costs.{Costs}
use Rattle.ae_compile.specs.Compiling.{IsCompiled, IsCompiledStalled, moved_note}
use Rattle.ae_compile.specs.Costing.{IsKnown, load_limit, main_costs}
use Rattle.ae_compile.specs.LineNotes.{AreLineNotes, item_note, node_note, node_notes, result_notes}
use Rattle.ae_compile.proofs.Mains.{main_item_short, main_items, main_short}
use Rattle.ae_compile.proofs.Modules.{few_ports}
use Rattle.ae_correct.proofs.Written.{unmapped}
use Rattle.ae_print.specs.Printed.{item_names, name_at}

-- a note tells the name of a node and the layout of its item
record IsToldOf (layouts : List StTree) (i : ℕ) (ns : List NodeTree) (k : ℕ) (n : NoteTree) : Type 0 where
  node : NodeTree
  found : slice_get ns k ≡ Some node
  name : n.name ≡ node.name
  layout : n.layout ≡ item_layout layouts (i + k)

told_of : (layouts : List StTree) (i : ℕ) (ns : List NodeTree) (ms : List ℕ) (k : ℕ) (n : NoteTree) → slice_get (node_notes layouts i ns ms) k ≡ Some n
    → IsToldOf layouts i ns k n
told_of layouts i [] ms k n e = absurd (none-some n e)
told_of layouts i (x ∷ xs) [] k n e = absurd (none-some n e)
told_of layouts i (x ∷ xs) (m ∷ ms) zero n e =
    let same : n ≡ node_note m x (item_layout layouts i) = sym (same_Some (node_note m x (item_layout layouts i)) n e) in
    record {
      node = x;
      found = refl;
      name = ap (λ (y : NoteTree). y.name) same;
      layout = ap (λ (y : NoteTree). y.layout) same ∙
          ap (item_layout layouts) (let here : i ≡ i + 0 = omega arith in here);
    }
told_of layouts i (x ∷ xs) (m ∷ ms) (suc k) n e =
    let t = told_of layouts (i + 1) xs ms k n e in
    record {
      node = t.node;
      found = t.found;
      name = t.name;
      layout = t.layout ∙
          ap (item_layout layouts) (let there : i + 1 + k ≡ i + suc k = omega arith in there);
    }

few_told : (layouts : List StTree) (i : ℕ) (ns : List NodeTree) (ms : List ℕ) → length (node_notes layouts i ns ms) ≤ length ns
few_told layouts i [] ms = omega arith
few_told layouts i (x ∷ xs) [] = omega arith
few_told layouts i (x ∷ xs) (m ∷ ms) = omega (arith, few_told layouts (i + 1) xs ms)

-- a note tells the name of the item of a result, and its layout
record IsEndOf (layouts : List StTree) (f : FuncTree) (is : List ℕ) (k : ℕ) (n : NoteTree) : Type 0 where
  item : ℕ
  found : slice_get is k ≡ Some item
  name : n.name ≡ name_at (item_names f) item
  layout : n.layout ≡ item_layout layouts item

end_of : (layouts : List StTree) (f : FuncTree) (is ms : List ℕ) (k : ℕ) (n : NoteTree) → slice_get (result_notes layouts f is ms) k ≡ Some n
    → IsEndOf layouts f is k n
end_of layouts f [] ms k n e = absurd (none-some n e)
end_of layouts f (i ∷ is) [] k n e = absurd (none-some n e)
end_of layouts f (i ∷ is) (m ∷ ms) zero n e =
    let same : n ≡ item_note f i m (item_layout layouts i) = sym (same_Some (item_note f i m (item_layout layouts i)) n e) in
    record { item = i; found = refl; name = ap (λ (y : NoteTree). y.name) same; layout = ap (λ (y : NoteTree). y.layout) same }
end_of layouts f (i ∷ is) (m ∷ ms) (suc k) n e =
    let t = end_of layouts f is ms k n e in
    record { item = t.item; found = t.found; name = t.name; layout = t.layout }

few_ends : (layouts : List StTree) (f : FuncTree) (is ms : List ℕ) → length (result_notes layouts f is ms) ≤ length is
few_ends layouts f [] ms = omega arith
few_ends layouts f (i ∷ is) [] = omega arith
few_ends layouts f (i ∷ is) (m ∷ ms) = omega (arith, few_ends layouts f is ms)

-- the notes of a program's lines
record AreShortNotes (notes : List NoteTree) : Type 0 where
  few : length notes ≤ 4096
  names : (k : ℕ) (n : NoteTree) → slice_get notes k ≡ Some n → length n.name ≤ 32
  layouts : (k : ℕ) (n : NoteTree) → slice_get notes k ≡ Some n → IsInSize n.layout

-- what is so of the program function and the layouts of its items
record IsShortFunc (layouts : List StTree) (f : FuncTree) : Type 0 where
  nodes : length f.nodes ≤ 4096
  results : length f.results ≤ 8
  items : length layouts ≡ length f.params + length f.nodes
  sized : (i : ℕ) → i < length layouts → IsInSize (item_layout layouts i)
  below : (k i : ℕ) → slice_get f.results k ≡ Some i → i < length layouts
  node_names : (j : ℕ) (n : NodeTree) → slice_get f.nodes j ≡ Some n → length n.name ≤ 32
  items_short : (i : ℕ) → length (name_at (item_names f) i) ≤ 32

told_short : (moves : Bool) (layouts : List StTree) (f : FuncTree) (ms : List ℕ) → IsShortFunc layouts f
    → AreShortNotes (if moves then result_notes layouts f f.results ms else node_notes layouts (length f.params) f.nodes ms)
told_short true layouts f ms h = record {
  few = omega (arith, h.results, few_ends layouts f f.results ms);
  names = λ k n e. (let t = end_of layouts f f.results ms k n e in subst (λ (l : List ℕ). length l ≤ 32) (sym t.name) (h.items_short t.item));
  layouts = λ k n e. (let t = end_of layouts f f.results ms k n e in subst IsInSize (sym t.layout) (h.sized t.item (h.below k t.item t.found)));
}
told_short false layouts f ms h = record {
  few = omega (arith, h.nodes, few_told layouts (length f.params) f.nodes ms);
  names = λ k n e. (let t = told_of layouts (length f.params) f.nodes ms k n e in
      subst (λ (l : List ℕ). length l ≤ 32) (sym t.name) (h.node_names k t.node t.found));
  layouts = λ k n e.
      (let t = told_of layouts (length f.params) f.nodes ms k n e in
      let inside : k < length f.nodes = slice_get_within f.nodes k t.node t.found in
      subst IsInSize (sym t.layout) (h.sized (length f.params + k) (omega (arith, inside, h.items))));
}

notes_short : (p : ProgramTree) (slowdown : ℕ) (instances : List StFuncTree) (costs : Costs) (s : StFuncTree) (cells : List SizedCell) (notes : List NoteTree)
    → IsKnown load_limit p slowdown instances costs → slice_get instances (last_of instances) ≡ Some s
    → AreLineNotes p instances s cells notes → AreShortNotes notes
notes_short p slowdown instances costs s cells notes known last h =
    let formed = known.typed.is_formed in
    let own = main_items p slowdown instances h.func s formed known.schedule known.sound h.main last in
    subst AreShortNotes (sym h.are) (told_short (is_movement p) (item_layouts s) h.func h.marks (record {
      nodes = few-nodes p (main_of p) h.func formed h.main;
      results = (formed-of p (main_of p) h.func formed h.main).few_results;
      items = own.items;
      sized = λ i low. (all_items (last_of instances) s (known.sound.each (last_of instances) s last) i low).size;
      below = own.results;
      node_names = main_short p (main_of p) h.func formed h.main;
      items_short = main_item_short p (main_of p) h.func formed h.main;
    }))

-- behind the enable they are as short
moved_short : (notes : List NoteTree) → AreShortNotes notes → AreShortNotes (map moved_note notes)
moved_short notes h = record {
  few = omega (arith, h.few, length-map notes moved_note);
  names = λ k n e. (let m = unmapped moved_note notes k n e in subst (λ (x : NoteTree). length x.name ≤ 32) m.is (h.names k m.from m.found));
  layouts = λ k n e. (let m = unmapped moved_note notes k n e in subst (λ (x : NoteTree). IsInSize x.layout) m.is (h.layouts k m.from m.found));
}

pub compiled_short : (p : ProgramTree) (slowdown : ℕ) (instances : List StFuncTree) (costs : Costs) (n : Circuit) (report : ReportTree) (notes : List NoteTree)
    → IsKnown load_limit p slowdown instances costs → IsCompiled p slowdown instances n report notes → IsShort report notes n.cells n.outlets
compiled_short p slowdown instances costs n report notes k d =
    let short = notes_short p slowdown instances costs d.instance n.cells notes k d.last d.noted in
    let ports = few_ports (lines_of notes (length n.cells)) p slowdown (main_costs p instances) report.ins report.outs n d.laid d.circuit in
    let light = k.light in
    let small = d.circuit.small in
    record {
      few_ins = few_ins p slowdown report.ins report.outs d.laid;
      few_outs = few_outs p slowdown report.ins report.outs d.laid;
      ins = λ q t e. (ins_filling p slowdown report.ins report.outs d.laid q t e).size;
      outs = λ q t e. (outs_filling p slowdown report.ins report.outs d.laid q t e).size;
      few_notes = short.few;
      names = short.names;
      layouts = short.layouts;
      small = omega (arith, small, light, ports.inputs, ports.outputs);
    }

pub stalled_short : (p : ProgramTree) (slowdown : ℕ) (instances : List StFuncTree) (costs : Costs) (n : Circuit) (report : ReportTree) (notes : List NoteTree)
    → IsKnown load_limit p slowdown instances costs → (main_costs p instances).load ≤ stall_limit
    → IsCompiledStalled p slowdown instances n report notes → IsShort report notes n.cells n.outlets
stalled_short p slowdown instances costs n report notes k light d =
    let short : AreShortNotes notes = subst AreShortNotes (sym d.moved)
    (moved_short d.before (notes_short p slowdown instances costs d.instance d.plain.cells d.before k d.last d.noted)) in
    let ports = few_ports (lines_of notes (length n.cells)) p slowdown (main_costs p instances) report.ins report.outs d.plain d.laid d.circuit in
    let load : (main_costs p instances).load ≤ 50000 = light in
    let outlets : length n.outlets ≡ length d.plain.outlets = ap (λ (os : List Outlet). length os) d.stalled.outputs ∙
    length-map d.plain.outlets moved_outlet in
    let cells = d.stalled.small in
    let small = d.circuit.small in
    record {
      few_ins = few_ins p slowdown report.ins report.outs d.laid;
      few_outs = few_outs p slowdown report.ins report.outs d.laid;
      ins = λ q t e. (ins_filling p slowdown report.ins report.outs d.laid q t e).size;
      outs = λ q t e. (outs_filling p slowdown report.ins report.outs d.laid q t e).size;
      few_notes = short.few;
      names = short.names;
      layouts = short.layouts;
      small = omega (arith, cells, small, load, ports.inputs, ports.outputs, outlets);
    }
