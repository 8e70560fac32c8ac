-- What the pieces of a line come to.
use Rattle.std.proofs.Common.{◌≡◌, ℕ, ◌-◌, ◌<◌, List, [], ◌++◌, true, false, Result, Ok, Err, OnOk, sym, ap, ◌∙◌, append_assoc, arith}
use Rattle.std.specs.Prelude.{codes, decimal, nat_lt, ◌&&◌, if◌then◌else◌}
use Rattle.std.proofs.lemmas.Bool.{cond-true, lt-ltb}
use Rattle.ae_netlist.specs.declared.cell.SizedCell.{SizedCell}
use Rattle.ae_netlist.specs.declared.cell.Port.{Port}
use Rattle.ae_netlist.specs.Circuit.{width_of}
use Rattle.ae_word.specs.declared.op.WordOp.{WordOp}
use Rattle.ae_verilog.specs.NetlistModule.{net_name, net_value, op_expression, cast_to, shifted_net, port_name}
use Rattle.ae_verilog.specs.Text.{register_edge, memory_edge, expr_text, shift_text, value_text, op_text, is_cast, range_text}
use Rattle.ae_verilog.proofs.Joining.{one_digit}
use Rattle.ae_vmodule.specs.declared.module.BinOp.{BinOp}
use Rattle.ae_vmodule.specs.ModuleTree.{binary, constant}
use Rattle.std.specs.List.{flat_map}
use Rattle.ae_netlist.specs.declared.cell.Outlet.{Outlet}
use Rattle.ae_verilog.specs.Notes.{NoteTree, lines_of}
use Rattle.ae_verilog.specs.Text.{sign_text, input_text, output_text, header_text, declaration_text, noted, assignment_text, edge_text, module_text, named_text}
use Rattle.std.specs.Prelude.{map, length}
use Rattle.std.proofs.lemmas.List.{length-map}
use Rattle.ae_sttype.specs.StTree.{st_tree}
use Rattle.ae_verilog.specs.NetlistModule.{each_numbered}
use Rattle.ae_verilog.specs.declared.report.Report.{Report}
use Rattle.ae_verilog.specs.ReportLines.{report_tree, number_line, enable_line, in_line, out_line, report_lines}

pub register_steps : {E : Type 0} (r : Result (Unit {0}) E) (old a b c d new n next : List ℕ) →
    a ≡ old ++ codes "  always @(posedge clk) " → b ≡ a ++ n → c ≡ b ++ codes " <= " → d ≡ c ++ next →
    OnOk r (new ≡ d ++ codes ";\n") → OnOk r (new ≡ old ++ register_edge n next)
register_steps (Ok u) old a b c d new n next ha hb hc hd last =
    last ∙ ap (λ l. l ++ codes ";\n") (hd ∙ ap (λ l. l ++ next) (hc ∙ ap (λ l. l ++ codes " <= ") (hb ∙ ap (λ l. l ++ n) ha))) ∙ simp append_assoc
register_steps (Err x) old a b c d new n next ha hb hc hd last = tt

pub memory_steps : {E : Type 0} (r : Result (Unit {0}) E) (old a b c d e f g h new n at next enable : List ℕ) →
    a ≡ old ++ codes "  always @(posedge clk) if (" → b ≡ a ++ enable → c ≡ b ++ codes ") " → d ≡ c ++ n → e ≡ d ++ codes "[" →
    f ≡ e ++ at → g ≡ f ++ codes "] <= " → h ≡ g ++ next →
    OnOk r (new ≡ h ++ codes ";\n") → OnOk r (new ≡ old ++ memory_edge n at next enable)
memory_steps (Ok u) old a b c d e f g h new n at next enable ha hb hc hd he hf hg hh last =
    last ∙ ap (λ l. l ++ codes ";\n") (hh ∙ ap (λ l. l ++ next) (hg ∙ ap (λ l. l ++ codes "] <= ") (hf ∙ ap (λ l. l ++ at) (he ∙ ap (λ l. l ++ codes "[")
    (hd ∙ ap (λ l. l ++ n) (hc ∙ ap (λ l. l ++ codes ") ") (hb ∙ ap (λ l. l ++ enable) ha))))))) ∙ simp append_assoc
memory_steps (Err x) old a b c d e f g h new n at next enable ha hb hc hd he hf hg hh last = tt

-- a cast to fewer bits
pub part_steps : (lines : ℕ → ℕ) → {E : Type 0} (r : Result (Unit {0}) E) (cells : List SizedCell) (to a w high : ℕ) (old one new : List ℕ) →
    w ≡ width_of cells a → to < w → high ≡ to - 1 → one ≡ old ++ net_name lines cells a →
    OnOk r (new ≡ one ++ (codes "[" ++ (decimal high ++ codes ":0]"))) → OnOk r (new ≡ old ++ expr_text (cast_to lines cells to a))
part_steps lines (Ok u) cells to a w high old one new wide narrower top first second =
    let test : nat_lt to (width_of cells a) ≡ true = lt-ltb _ _ (omega (arith, wide, narrower)) in
    let low : decimal 0 ≡ codes "0" = one_digit 0 (omega arith) in
    second ∙ ap (λ l. l ++ (codes "[" ++ (decimal high ++ codes ":0]"))) first
    ∙ append_assoc old (net_name lines cells a) _
    ∙ ap (λ n. old ++ (net_name lines cells a ++ (codes "[" ++ (decimal n ++ codes ":0]")))) top
    ∙ ap (λ z. old ++ (net_name lines cells a ++ (codes "[" ++ (decimal (to - 1) ++ (codes ":" ++ (z ++ codes "]")))))) (sym low)
    ∙ ap (λ e. old ++ expr_text e) (sym (cond-true _ _ _ test))
part_steps lines (Err x) cells to a w high old one new wide narrower top first second = tt

shift_same : (lines : ℕ → ℕ) → (cells : List SizedCell) (op : BinOp) (width a by : ℕ)
    → shift_text (net_name lines cells a) (sign_text op) width by ≡ expr_text (shifted_net lines cells op width a by)
shift_same lines cells op width a by = elim (nat_lt by width) as (λ t.
    (if t then net_name lines cells a ++ (codes " " ++ (sign_text op ++ (codes " 6'd" ++ decimal by))) else decimal width ++ codes "'d0")
    ≡ expr_text (if t then binary op (net_value lines cells a) (constant 6 by true) else constant width 0 true)) [
      | true ↦ ap (λ s. net_name lines cells a ++ (codes " " ++ (sign_text op ++ (codes " " ++ (s ++ (codes "'d" ++ decimal by))))))
          (sym (one_digit 6 (omega arith)))
      | false ↦ ap (λ z. decimal width ++ (codes "'d" ++ z)) (sym (one_digit 0 (omega arith)))
    ]

pub shift_steps : (lines : ℕ → ℕ) → {E : Type 0} (r : Result (Unit {0}) E) (cells : List SizedCell) (op : BinOp) (width a by : ℕ) (old new : List ℕ) →
    OnOk r (new ≡ old ++ shift_text (net_name lines cells a) (sign_text op) width by) → OnOk r (new ≡ old ++ expr_text (shifted_net lines cells op width a by))
shift_steps lines (Ok u) cells op width a by old new h = h ∙ ap (λ l. old ++ l) (shift_same lines cells op width a by)
shift_steps lines (Err x) cells op width a by old new h = tt

-- a wire that widens a word, between its two comment lines
pub widened_steps : (lines : ℕ → ℕ) → {E : Type 0} (r : Result (Unit {0}) E) (cells : List SizedCell) (width net : ℕ) (op : WordOp) (a b c : ℕ)
    (old one two new : List ℕ) →
    (is_cast op && nat_lt (width_of cells a) width) ≡ true →
    one ≡ old ++ codes "  // verilator lint_off WIDTH\n" → two ≡ one ++ value_text lines width net (op_expression lines cells width op a b c) →
    OnOk r (new ≡ two ++ codes "  // verilator lint_on WIDTH\n") → OnOk r (new ≡ old ++ op_text lines cells width net op a b c)
widened_steps lines (Ok u) cells width net op a b c old one two new wide first second third =
    let value : List ℕ = value_text lines width net (op_expression lines cells width op a b c) in
    third ∙ ap (λ l. l ++ codes "  // verilator lint_on WIDTH\n") (second ∙ ap (λ l. l ++ value) first)
    ∙ shape value
    ∙ ap (λ l. old ++ l) (sym (cond-true _ _ _ wide))
  where
    shape : (value : List ℕ) → ((old ++ codes "  // verilator lint_off WIDTH\n") ++ value) ++ codes "  // verilator lint_on WIDTH\n" ≡ old
        ++ (codes "  // verilator lint_off WIDTH\n" ++ (value ++ codes "  // verilator lint_on WIDTH\n"))
    shape value = simp append_assoc
widened_steps lines (Err x) cells width net op a b c old one two new wide first second third = tt

pub input_steps : {E : Type 0} (r : Result (Unit {0}) E) (width : ℕ) (port : Port) (old one two new : List ℕ) →
    one ≡ old ++ codes ",\n  input wire " → two ≡ one ++ range_text width → OnOk r (new ≡ two ++ port_name 1 port) →
    OnOk r (new ≡ old ++ (codes ",\n  input wire " ++ (range_text width ++ port_name 1 port)))
input_steps (Ok u) width port old one two new first second third =
    third ∙ ap (λ l. l ++ port_name 1 port) (second ∙ ap (λ l. l ++ range_text width) first) ∙ shape (range_text width) (port_name 1 port)
  where
    shape : (range n : List ℕ) → ((old ++ codes ",\n  input wire ") ++ range) ++ n ≡ old ++ (codes ",\n  input wire " ++ (range ++ n))
    shape range n = simp append_assoc
input_steps (Err x) width port old one two new first second third = tt

pub header_steps : {E : Type 0} (r : Result (Unit {0}) E) (title : List ℕ) (cells : List SizedCell) (outlets : List Outlet) (outs : ℕ)
    (old one two three new : List ℕ) → one ≡ old ++ (codes "module " ++ (title ++ codes " (\n  input wire clk")) → two ≡ one
    ++ flat_map (λ (sized : SizedCell). input_text sized.width sized.cell) cells →
    three ≡ two ++ flat_map (output_text cells outs) outlets → OnOk r (new ≡ three ++ codes "\n);\n") →
    OnOk r (new ≡ old ++ header_text title cells outlets outs)
header_steps (Ok u) title cells outlets outs old one two three new first second third last =
    let inputs : List ℕ = flat_map (λ (sized : SizedCell). input_text sized.width sized.cell) cells in
    let outputs : List ℕ = flat_map (output_text cells outs) outlets in
    last ∙ ap (λ l. l ++ codes "\n);\n") (third ∙ ap (λ l. l ++ outputs) (second ∙ ap (λ l. l ++ inputs) first)) ∙ shape inputs outputs
  where
    shape : (a b : List ℕ) → ((((old ++ (codes "module " ++ (title ++ codes " (\n  input wire clk"))) ++ a) ++ b) ++ codes "\n);\n") ≡ old
        ++ (codes "module " ++ (title ++ (codes " (\n  input wire clk" ++ (a ++ (b ++ codes "\n);\n")))))
    shape a b = simp append_assoc
header_steps (Err x) title cells outlets outs old one two three new first second third last = tt

pub report_steps : {E : Type 0} (r : Result (Unit {0}) E) (t : Report) (old a b c d e f g new : List ℕ) →
    a ≡ old ++ codes "// aeth 1\n" → b ≡ a ++ number_line (codes "slowdown") t.slowdown → c ≡ b ++ number_line (codes "latency") t.latency →
    d ≡ c ++ number_line (codes "muls") t.muls → e ≡ d ++ number_line (codes "load") t.load → f ≡ e ++ enable_line t.enable → g ≡ f
    ++ each_numbered in_line 0 (map st_tree t.ins.items) →
    OnOk r (new ≡ g ++ each_numbered (out_line (length t.outs.items)) 0 (map st_tree t.outs.items)) → OnOk r (new ≡ old ++ report_lines (report_tree t))
unfolding report_lines
report_steps (Ok u) t old a b c d e f g new ha hb hc hd he hf hg last =
    let outs = each_numbered (out_line (length t.outs.items)) 0 (map st_tree t.outs.items) in
    last ∙ ap (λ l. l ++ outs) (hg ∙ ap (λ l. l ++ each_numbered in_line 0 (map st_tree t.ins.items))
    (hf ∙ ap (λ l. l ++ enable_line t.enable) (he ∙ ap (λ l. l ++ number_line (codes "load") t.load)
    (hd ∙ ap (λ l. l ++ number_line (codes "muls") t.muls)
    (hc ∙ ap (λ l. l ++ number_line (codes "latency") t.latency) (hb ∙ ap (λ l. l ++ number_line (codes "slowdown") t.slowdown) ha))))))
    ∙ shape _ _ _ _ _ _ _
    ∙ ap (λ n. old ++ (codes "// aeth 1\n" ++ (number_line (codes "slowdown") t.slowdown
    ++ (number_line (codes "latency") t.latency ++ (number_line (codes "muls") t.muls ++ (number_line (codes "load") t.load
    ++ (enable_line t.enable ++ (each_numbered in_line 0 (map st_tree t.ins.items) ++ each_numbered (out_line n) 0 (map st_tree t.outs.items)))))))))
    (sym (length-map t.outs.items st_tree))
  where
    shape : (s l m k en ins outs : List ℕ) → (((((((old ++ codes "// aeth 1\n") ++ s) ++ l) ++ m) ++ k) ++ en) ++ ins) ++ outs ≡ old
        ++ (codes "// aeth 1\n" ++ (s ++ (l ++ (m ++ (k ++ (en ++ (ins ++ outs)))))))
    shape s l m k en ins outs = simp append_assoc
report_steps (Err x) t old a b c d e f g new ha hb hc hd he hf hg last = tt

pub text_steps : (lines : ℕ → ℕ) (title behind report : List ℕ) (notes : List NoteTree) (cells : List SizedCell) (outlets : List Outlet) (outs : ℕ)
    (a b c d e f g new : List ℕ) → lines ≡ lines_of notes (length cells) →
    a ≡ [] → b ≡ a ++ report → c ≡ b ++ (behind
    ++ codes "// verilator lint_off CMPCONST\n// verilator lint_off DECLFILENAME\n// verilator lint_off UNSIGNED\n// verilator lint_off UNUSEDSIGNAL\n")
    → d ≡ c ++ header_text title cells outlets outs →
    e ≡ d ++ noted (λ net (sized : SizedCell). declaration_text lines cells net sized.width sized.cell) cells 0 notes → f ≡ e
    ++ flat_map (assignment_text lines cells outs) outlets →
    g ≡ f ++ each_numbered (λ net (sized : SizedCell). edge_text lines cells net sized.cell) 0 cells → new ≡ g ++ codes "endmodule\n"
    → new ≡ named_text title behind report notes cells outlets outs
text_steps lines title behind report notes cells outlets outs a b c d e f g new told ha hb hc hd he hf hg last =
    let quiet : List ℕ = codes
    "// verilator lint_off CMPCONST\n// verilator lint_off DECLFILENAME\n// verilator lint_off UNSIGNED\n// verilator lint_off UNUSEDSIGNAL\n" in
    let head : List ℕ = header_text title cells outlets outs in
    let declared : List ℕ = noted (λ net (sized : SizedCell). declaration_text lines cells net sized.width sized.cell) cells 0 notes in
    let assigned : List ℕ = flat_map (assignment_text lines cells outs) outlets in
    let edges : List ℕ = each_numbered (λ net (sized : SizedCell). edge_text lines cells net sized.cell) 0 cells in
    last ∙ ap (λ l. l ++ codes "endmodule\n") (hg ∙ ap (λ l. l ++ edges) (hf ∙ ap (λ l. l ++ assigned) (he ∙ ap (λ l. l ++ declared)
    (hd ∙ ap (λ l. l ++ head) (hc ∙ ap (λ l. l ++ (behind ++ quiet)) (hb ∙ ap (λ l. l ++ report) ha))))))
    ∙ shape report behind quiet head declared assigned edges (codes "endmodule\n")
    ∙ ap (λ l. report ++ (behind ++ (quiet ++ module_text title l notes cells outlets outs))) told
  where
    shape : (a b c d e f g h : List ℕ) → (((((a ++ (b ++ c)) ++ d) ++ e) ++ f) ++ g) ++ h ≡ a ++ (b ++ (c ++ (d ++ (e ++ (f ++ (g ++ h))))))
    shape a b c d e f g h = simp append_assoc
