-- The text of `wave` is what it is said to be.
use Rattle.std.proofs.Common.{ℕ, ◌≡◌, ◌+◌, ◌≤◌, ◌==◌, ◌&&◌, not, true, List, [], ◌∷◌, ◌++◌, length, length-append, flat_map, codes, append_assoc, arith, refl, ap, sym, ◌∙◌, subst}
use Rattle.std.specs.Prelude.{sum_by}
use Rattle.std.specs.List.{list_all}
use Rattle.std.proofs.lemmas.List.{length-map}
use Rattle.std.proofs.lemmas.List.Folds.{list_all-append}
use Rattle.std.proofs.lemmas.List.Sums.{sum_by-cons}
use Rattle.ae_seqtype.specs.ValueTree.{ValueTree}
use Rattle.ae_sttype.specs.StTree.{StTree}
use Rattle.ae_sttype.specs.Moves.{columns_of}
use Rattle.ae_seq.specs.ProgramTree.{ProgramTree}
use Rattle.ae_rewrite.specs.StProgramTree.{StFuncTree}
use Rattle.ae_rewrite.specs.Interface.{parameter_types}
use Rattle.ae_netlist.specs.Circuit.{Circuit}
use Rattle.ae_vmodule.specs.ModuleTree.{ModuleTree}
use Rattle.ae_vread.specs.Spells.{Spells}
use Rattle.ae_ops.specs.Blocks.{stream_of}
use Rattle.ae_ports.specs.Ports.{columns_in, outlet_port, streams_of}
use Rattle.ae_ports.specs.Ports as net_side
use Rattle.ae_ports.proofs.Columns.{stream_columns}
use Rattle.ae_verilog.specs.NetlistModule.{each_numbered}
use Rattle.ae_verilog.specs.Notes.{NoteTree, lines_of, noted_module}
use Rattle.ae_verilog.specs.ReportLines.{ReportTree, is_clean, report_lines}
use Rattle.ae_verilog.specs.Text.{assignment_text, declaration_text, edge_text, header_text, noted, whole_text}
use Rattle.ae_netlist.specs.declared.cell.SizedCell.{SizedCell}
use Rattle.ae_runs.specs.Runs.{clock_at}
use Rattle.ae_runs.specs.SameRuns.{input_words, inputs_of, output_words, outputs_of}
use Rattle.ae_play.specs.Lines.{clock_count}
use Rattle.ae_play.specs.Words.{port_words}
use Rattle.ae_correct.specs.ClockTexts.{AreClockWords}
use Rattle.ae_correct.proofs.Keeps.{circuit_ports, ins_of, outs_of}
use Rattle.ae_correct.proofs.Nets.{in_net, inputs_filtered, out_net, outputs_filtered}
use Rattle.ae_correct.proofs.Places.{columns_more, length_from}
use Rattle.ae_compile.specs.Building.{IsModuleText}
use Rattle.ae_compile.specs.Compiling.{IsCompiled}
use Rattle.ae_compile.specs.Costing.{main_costs}
use Rattle.ae_compile.proofs.Modules.{few_ports}
use Rattle.ae_vcd.specs.Laws.{CommentsArePassed, TextsAreDumps}
use Rattle.ae_vcd.specs.Readings.{IsVcd}
use Rattle.ae_vcd.specs.Waves.{IsFormedWave, WaveTree}
use Rattle.ae_vcd.specs.WaveText.{commented, is_no_dollar, wave_text}
use Rattle.ae_jobs.specs.declared.run_job.Form.TheVariants.{Dump}
use Rattle.ae_jobs.specs.Inputs.{blocks_of}
use Rattle.ae_jobs.specs.RunTexts.{input_count, layout_columns, output_count, word_count}
use Rattle.ae_jobs.specs.WaveTexts.{AreWordsOf, IsWaveText, run_wave, variables_of}
use Rattle.ae_jobs.proofs.Columns.{columns_some}
use Rattle.ae_jobs.proofs.Shown.{same_report}
use Rattle.ae_seq.proofs.Judging.{left as first_true, right as second_true}

-- ---- how many variables

streams_counted : (ss : List StTree) → columns_in (streams_of ss) ≡ sum_by columns_of ss
streams_counted [] = refl
streams_counted (s ∷ ss) = omega (arith, columns_more (stream_of s) (streams_of ss), stream_columns s, sum_by-cons columns_of s ss, streams_counted ss)

pub record AreCounted (p : ProgramTree) (slowdown : ℕ) (m : ModuleTree) : Type 0 where
  pub all : length (variables_of m) ≡ word_count Dump p slowdown
  pub some : 1 ≤ length (variables_of m)
  pub few : length (variables_of m) ≤ 300000

pub counted : (p : ProgramTree) (slowdown : ℕ) (instances : List StFuncTree) (n : Circuit) (report : ReportTree) (notes : List NoteTree)
    → IsCompiled p slowdown instances n report notes
    → AreCounted p slowdown (noted_module notes n.cells n.outlets (length report.outs))
counted p slowdown instances n report notes d =
    let lines = lines_of notes (length n.cells) in
    let many : ℕ = length report.outs in
    let own : ModuleTree = noted_module notes n.cells n.outlets many in
    let have = circuit_ports p slowdown (main_costs p instances) report.ins report.outs n d.circuit in
    let ins : length (inputs_of own) ≡ length (ins_of report.ins) = ap length
    (inputs_filtered lines n.cells n.outlets many (ins_of report.ins) (outs_of report.outs) have) ∙ length-map (ins_of report.ins) in_net in
    let outs : length (outputs_of own) ≡ length (outs_of report.outs) = ap length
    (outputs_filtered lines n.cells n.outlets many (ins_of report.ins) (outs_of report.outs) have) ∙ length-map (outs_of report.outs) (out_net many) in
    let given : sum_by columns_of report.ins ≡ input_count p slowdown = sym (columns_some report.ins) ∙
    ap (sum_by layout_columns) (sym d.laid.layouts.parameters) in
    let shown : sum_by columns_of report.outs ≡ output_count p slowdown = sym (columns_some report.outs) ∙
    ap (sum_by layout_columns) (sym d.laid.layouts.results) in
    let in_columns : length (net_side.input_ports (streams_of report.ins)) ≡ columns_in (streams_of report.ins) = length_from _ 0 (streams_of report.ins) in
    let out_columns : length (outs_of report.outs) ≡ columns_in (streams_of report.outs) = length_from _ 0 (streams_of report.outs) in
    let outlets : length n.outlets ≡ length (outs_of report.outs) = sym (length-map n.outlets (outlet_port n.cells)) ∙ ap length have.outputs in
    let few = few_ports lines p slowdown (main_costs p instances) report.ins report.outs n d.laid d.circuit in
    let both = length-append (inputs_of own) (outputs_of own) in
    record {
      all = omega (arith, both, ins, outs, given, shown, in_columns, out_columns, streams_counted report.ins, streams_counted report.outs);
      some = omega (arith, both, ins);
      few = omega (arith, both, ins, outs, outlets, few.inputs, few.outputs);
    }

-- ---- the module's text is a comment of whole lines

record EndsLine (text : List ℕ) : Type 0 where
  lines : List ℕ
  is : text ≡ lines ++ 10 ∷ []

line_behind : (a b : List ℕ) → EndsLine b → EndsLine (a ++ b)
line_behind a b e = record { lines = a ++ e.lines; is = ap (λ x. a ++ x) e.is ∙ sym (append_assoc a e.lines (10 ∷ [])) }

no_dollars : (bs : List ℕ) → list_all is_clean bs ≡ true → list_all is_no_dollar bs ≡ true
no_dollars [] h = refl
no_dollars (b ∷ bs) h =
    let here = first_true (is_clean b) (list_all is_clean bs) h in
    let rest = no_dollars bs (second_true (is_clean b) (list_all is_clean bs) h) in
    λ i. second_true (not (b == 37)) (not (b == 36)) here i && rest i

ends_line : (text : List ℕ) (report : List ℕ) (notes : List NoteTree) (n : Circuit) (outs : ℕ) → text ≡ whole_text report notes n.cells n.outlets outs
    → EndsLine text
ends_line text report notes n outs is =
    let lines = lines_of notes (length n.cells) in
    let lint = codes
    "// verilator lint_off CMPCONST\n// verilator lint_off DECLFILENAME\n// verilator lint_off UNSIGNED\n// verilator lint_off UNUSEDSIGNAL\n" in
    let declared = noted (λ net (sized : SizedCell). declaration_text lines n.cells net sized.width sized.cell) n.cells 0 notes in
    let assigned = flat_map (assignment_text lines n.cells outs) n.outlets in
    let edges = each_numbered (λ net (sized : SizedCell). edge_text lines n.cells net sized.cell) 0 n.cells in
    let end = codes "endmodule\n" in
    let last : EndsLine end = record { lines = codes "endmodule"; is = refl } in
    subst EndsLine (sym is)
    (line_behind report (lint ++ (header_text (codes "aeth") n.cells n.outlets outs ++ (declared ++ (assigned ++ (edges ++ end)))))
    (line_behind lint (header_text (codes "aeth") n.cells n.outlets outs ++ (declared ++ (assigned ++ (edges ++ end))))
    (line_behind (header_text (codes "aeth") n.cells n.outlets outs) (declared ++ (assigned ++ (edges ++ end)))
    (line_behind declared (assigned ++ (edges ++ end)) (line_behind assigned (edges ++ end) (line_behind edges end last))))))

-- ---- the words of a run

pub as_words_of : (m : ModuleTree) (slowdown latency fill : ℕ) (ins : List StTree) (blocks : ℕ) (values : List (List ValueTree)) (clocks : ℕ) (words : List ℕ)
    → clocks ≡ clock_count slowdown latency blocks → blocks ≡ length values
    → AreClockWords m slowdown latency fill ins values words → AreWordsOf m clocks words
as_words_of m slowdown latency fill ins blocks values clocks words counts many w =
    let same : clock_count slowdown latency (length values) ≡ clocks = ap (clock_count slowdown latency) (sym many) ∙ sym counts in
    record {
      run = w.run;
      long = w.long ∙ ap (λ k. 1 + k) same;
      runs = w.fed.reset.run_of;
      are = w.are ∙ ap (port_words (λ c. input_words m (clock_at w.run (1 + c))) (λ c. output_words m (clock_at w.run (1 + c)))) same;
    }

-- ---- the whole text

pub wave_text_is : (fill : ℕ) (p : ProgramTree) (slowdown : ℕ) (instances : List StFuncTree) (table : List (List (List ℕ))) (n : Circuit) (report : ReportTree)
    (notes : List NoteTree) (built words : List ℕ) (clocks : ℕ) (text : List ℕ)
    → IsCompiled p slowdown instances n report notes → IsModuleText p slowdown instances built
    → Spells built (noted_module notes n.cells n.outlets (length report.outs))
    → AreClockWords (noted_module notes n.cells n.outlets (length report.outs)) slowdown report.latency fill report.ins
    (blocks_of (parameter_types p) table) words
    → IsFormedWave (run_wave (noted_module notes n.cells n.outlets (length report.outs)) clocks words) → CommentsArePassed → TextsAreDumps
    → clocks ≡ clock_count slowdown report.latency (length table)
    → text ≡ commented built (wave_text (run_wave (noted_module notes n.cells n.outlets (length report.outs)) clocks words))
    → IsWaveText fill p slowdown instances table text
wave_text_is fill p slowdown instances table n report notes built words clocks text d m spells shown formed passed dumps counts is =
    let own : ModuleTree = noted_module notes n.cells n.outlets (length report.outs) in
    let tree : own ≡ m.tree = m.only own spells in
    let same : report ≡ m.listing.report = same_report p slowdown instances n m.listing.circuit report m.listing.report notes m.listing.notes d
    m.listing.compiled in
    let latency : report.latency ≡ (main_costs p instances).latency = ap (λ (r : ReportTree). r.latency) d.reported in
    let blocks = blocks_of (parameter_types p) table in
    let here : AreClockWords m.tree slowdown report.latency fill report.ins blocks words = subst
    (λ (x : ModuleTree). AreClockWords x slowdown report.latency fill report.ins blocks words) tree shown in
    let late : AreClockWords m.tree slowdown (main_costs p instances).latency fill report.ins blocks words = subst
    (λ (l : ℕ). AreClockWords m.tree slowdown l fill report.ins blocks words) latency here in
    let count : clocks ≡ clock_count slowdown (main_costs p instances).latency (length table) = counts ∙
    ap (λ l. clock_count slowdown l (length table)) latency in
    let wave : run_wave own clocks words ≡ run_wave m.tree (clock_count slowdown (main_costs p instances).latency (length table)) words = λ i. run_wave
    (tree i) (count i) words in
    let w : WaveTree = run_wave m.tree (clock_count slowdown (main_costs p instances).latency (length table)) words in
    let whole : text ≡ commented built (wave_text w) = is ∙ ap (λ x. commented built (wave_text x)) wave in
    let ends = ends_line built (report_lines m.listing.report) m.listing.notes m.listing.circuit (length m.listing.report.outs) m.listing.listed in
    let clean : list_all is_no_dollar ends.lines ≡ true =
    no_dollars ends.lines (first_true (list_all is_clean ends.lines) (list_all is_clean (10 ∷ []))
    (sym (list_all-append is_clean ends.lines (10 ∷ [])) ∙ ap (list_all is_clean) (sym ends.is) ∙ m.clean)) in
    let dump : IsVcd (commented (ends.lines ++ 10 ∷ []) (wave_text w)) w = passed ends.lines (wave_text w) w clean (dumps w (subst IsFormedWave wave formed)) in
    record {
      built = built;
      module_text = m;
      words = words;
      shown = subst (λ (r : ReportTree). AreClockWords m.tree slowdown (main_costs p instances).latency fill r.ins blocks words) same late;
      is = whole;
      dump = subst (λ t. IsVcd t w) (sym (whole ∙ ap (λ x. commented x (wave_text w)) ends.is)) dump;
    }
