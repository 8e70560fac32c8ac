-- The lines and the sums of a run are those of the module on the blocks of the rows.
use Rattle.std.proofs.Common.{◌≡◌, ℕ, false, zero, suc, ◌+◌, ◌*◌, All, List, [], ◌∷◌, ◌++◌, length, map, take, drop, Some, slice_get, refl, ap, sym, ◌∙◌, subst}
use Rattle.std.proofs.lemmas.List.{length-map}
use Rattle.std.proofs.lemmas.Option.{same_Some, slice_get_within}
use Rattle.ae_word.specs.AtomTree.{WordKind}
use Rattle.ae_seqtype.specs.SeqTree.{SeqTree, words}
use Rattle.ae_seqtype.specs.ValueTree.{ValueTree, cut, flat}
use Rattle.ae_seqtype.proofs.Stands.{length-FitKinds}
use Rattle.ae_sttype.specs.StTree.{StTree, time}
use Rattle.ae_seq.specs.ProgramTree.{ProgramTree}
use Rattle.ae_fields.specs.Rows.{row_words, words_in}
use Rattle.ae_eval.specs.Stack.{FitIn, IsTyped, kinds_of}
use Rattle.ae_eval.specs.Lines.{input_types}
use Rattle.ae_eval.proofs.Items.{drop-at}
use Rattle.ae_rewrite.specs.Interface.{AreValues, parameter_types}
use Rattle.ae_flow.proofs.MeaningLayouts.{AllLaidOut}
use Rattle.ae_play.specs.Fed.{size_of}
use Rattle.ae_play.specs.Fed as fed
use Rattle.ae_jobs.specs.EvalRows.{AreRows, AreBlocks}
use Rattle.ae_jobs.specs.Inputs.{widths_of, values_of, blocks_of}
use Rattle.std.specs.Prelude.{codes}
use Rattle.ae_netlist.specs.Circuit.{Circuit}
use Rattle.ae_vmodule.specs.ModuleTree.{ModuleTree}
use Rattle.ae_vread.specs.Spells.{Spells}
use Rattle.ae_rewrite.specs.StProgramTree.{StFuncTree}
use Rattle.ae_lower.proofs.Blocks.{keys_of}
use Rattle.ae_lower.proofs.Layouts.{inputs_laid}
use Rattle.ae_verilog.specs.Notes.{NoteTree, noted_module}
use Rattle.ae_verilog.specs.ReportLines.{ReportTree}
use Rattle.ae_sttype.specs.Size.{IsInSize}
use Rattle.ae_play.specs.declared.sums.Sums.{Sums}
use Rattle.ae_correct.specs.ClockTexts.{AreClockSums, IsClockText}
use Rattle.ae_compile.specs.Building.{IsModuleText}
use Rattle.ae_compile.specs.declared.costs.Costs.{Costs}
use Rattle.ae_compile.specs.Costing.{IsKnown, load_limit, main_costs}
use Rattle.ae_compile.specs.Compiling.{IsCompiled, report_of}
use Rattle.ae_jobs.specs.DemoTexts.{IsSummedRun}
use Rattle.ae_jobs.specs.RunTexts.{IsRunText, input_widths}
use Rattle.ae_jobs.proofs.EvalTypes.{has_columns, same_parameters}
use Rattle.ae_jobs.proofs.Columns.{fill_clocks_in, fill_clocks_out, main_is}
use Rattle.ae_jobs.proofs.EvalSteps.{first_fits, next_row, rows_long}
use Rattle.ae_jobs.proofs.Played.{cut_rows, size_laid, values_laid}

-- ---- rows

pub row_fits : (p : ProgramTree) (columns : ℕ) (table : List (List (List ℕ))) (ws : List ℕ) (k : ℕ) (r : List (List ℕ)) → IsTyped p
    → AreRows p columns table ws → slice_get table k ≡ Some r → FitIn (input_types p) (row_words r)
row_fits p columns table ws k r typed a e =
    let n = next_row p columns table k ws (words_in (drop k table)) typed a (slice_get_within table k r e) refl in
    let split : r ∷ drop (k + 1) table ≡ n.row ∷ drop (k + 1) table = sym (drop-at table k r e) ∙ n.table_is in
    let same : n.row ≡ r = cc in
    subst (λ (x : List (List ℕ)). FitIn (input_types p) (row_words x)) same n.fits

pub row_long : (p : ProgramTree) (columns : ℕ) (table : List (List (List ℕ))) (ws : List ℕ) (k : ℕ) (r : List (List ℕ)) → IsTyped p
    → AreRows p columns table ws → slice_get table k ≡ Some r → length (row_words r) ≡ length (input_widths p)
row_long p columns table ws k r typed a e =
    length-FitKinds (row_words r) (kinds_of (input_types p)) (row_fits p columns table ws k r typed a e) ∙
    sym (ap length (has_columns p typed).kinds_are ∙ length-map (kinds_of (input_types p)) (λ (w : WordKind). w.width))

values_there : (ts : List SeqTree) (ws : List ℕ) → FitIn ts ws → AreValues ts (values_of ts ws)
values_there [] ws h = tt
values_there (t ∷ ts) ws h =
    let f = first_fits t ts ws h in ((take (words t) ws, record { fits = f.first; value = refl }), values_there ts (drop (words t) ws) f.later)

block_at : (ts : List SeqTree) (table : List (List (List ℕ))) (b : ℕ) (block : List ValueTree)
    → ((k : ℕ) (r : List (List ℕ)) → slice_get table k ≡ Some r → FitIn ts (row_words r)) → slice_get (blocks_of ts table) b ≡ Some block → AreValues ts block
block_at ts [] b block each e = cc
block_at ts (r ∷ rs) zero block each e =
    let same : values_of ts (row_words r) ≡ block = cc in subst (AreValues ts) same (values_there ts (row_words r) (each 0 r refl))
block_at ts (r ∷ rs) (suc b) block each e = block_at ts rs b block (λ k x g. each (suc k) x g) e

-- each block of the rows has a value of each parameter's type
pub blocks_values : (p : ProgramTree) (blocks : ℕ) (table : List (List (List ℕ))) (ws : List ℕ) → IsTyped p → AreBlocks p blocks table ws
    → (b : ℕ) (block : List ValueTree) → slice_get (blocks_of (parameter_types p) table) b ≡ Some block → AreValues (input_types p) block
blocks_values p blocks table ws typed a b block e =
    let here : slice_get (blocks_of (input_types p) table) b ≡ Some block = ap (λ ts. slice_get (blocks_of ts table) b) (sym (same_parameters p)) ∙ e in
    block_at (input_types p) table b block (λ k r g. row_fits p (length (input_widths p)) table ws k r typed a.rows g) here

each_block : (ts : List SeqTree) (ss : List StTree) (table : List (List (List ℕ))) → AllLaidOut ts ss
    → ((k : ℕ) (r : List (List ℕ)) → slice_get table k ≡ Some r → length (row_words r) ≡ length (widths_of ts))
    → map (fed.values_of ss) (map row_words table) ≡ map (map flat) (blocks_of ts table)
each_block ts ss [] h each = refl
each_block ts ss (r ∷ rs) h each = λ i. values_laid ts ss (row_words r) h (each 0 r refl) i ∷ each_block ts ss rs h (λ k x e. each (suc k) x e) i

-- the words that a circuit takes are those of the blocks
pub blocks_words : (p : ProgramTree) (ss : List StTree) (blocks : ℕ) (table : List (List (List ℕ))) (ws : List ℕ) → IsTyped p
    → AllLaidOut (parameter_types p) ss → AreBlocks p blocks table ws
    → fed.blocks_of ss blocks ws ≡ map (map flat) (blocks_of (parameter_types p) table)
blocks_words p ss blocks table ws typed laid a =
    let each : (k : ℕ) (r : List (List ℕ)) → slice_get table k ≡ Some r
    → length (row_words r) ≡ length (input_widths p) = λ k r e. row_long p (length (input_widths p)) table ws k r typed a.rows e in
    (λ i. map (fed.values_of ss) (cut (a.many i) (size_laid (parameter_types p) ss laid i) (a.rows.words_are i)))
    ∙ ap (map (fed.values_of ss)) (cut_rows (length (input_widths p)) table each)
    ∙ each_block (parameter_types p) ss table laid each

-- ---- the layouts that a report tells

pub told_laid : (p : ProgramTree) (slowdown : ℕ) (instances : List StFuncTree) (found : Costs) (n : Circuit) (report : ReportTree) (notes : List NoteTree)
    → IsKnown load_limit p slowdown instances found → IsCompiled p slowdown instances n report notes → AllLaidOut (parameter_types p) report.ins
told_laid p slowdown instances found n report notes k d =
    let m = main_is p slowdown instances d.instance k.schedule k.sound d.last in
    subst (AllLaidOut (parameter_types p)) (sym (ap (λ (r : ReportTree). r.ins) d.reported)) (inputs_laid p (keys_of instances) d.instance k.typed m.is m.last)

pub told_ins : (p : ProgramTree) (slowdown : ℕ) (instances : List StFuncTree) (found : Costs) (n : Circuit) (report : ReportTree) (notes : List NoteTree)
    → IsKnown load_limit p slowdown instances found → IsCompiled p slowdown instances n report notes
    → All (λ (t : StTree). IsInSize t × (time t ≡ slowdown)) report.ins
told_ins p slowdown instances found n report notes k d =
    subst (All (λ (t : StTree). IsInSize t × (time t ≡ slowdown))) (sym (ap (λ (r : ReportTree). r.ins) d.reported))
    (fill_clocks_in p slowdown instances d.instance (main_is p slowdown instances d.instance k.schedule k.sound d.last))

pub told_outs : (p : ProgramTree) (slowdown : ℕ) (instances : List StFuncTree) (found : Costs) (n : Circuit) (report : ReportTree) (notes : List NoteTree)
    → IsKnown load_limit p slowdown instances found → IsCompiled p slowdown instances n report notes
    → All (λ (t : StTree). IsInSize t × (time t ≡ slowdown)) report.outs
told_outs p slowdown instances found n report notes k d =
    subst (All (λ (t : StTree). IsInSize t × (time t ≡ slowdown))) (sym (ap (λ (r : ReportTree). r.outs) d.reported))
    (fill_clocks_out p slowdown instances d.instance (main_is p slowdown instances d.instance k.schedule k.sound d.last))

-- the words that a circuit takes are as many as the rows have
pub told_words : (p : ProgramTree) (slowdown : ℕ) (instances : List StFuncTree) (found : Costs) (n : Circuit) (report : ReportTree) (notes : List NoteTree)
    (blocks : ℕ) (table : List (List (List ℕ))) (ws : List ℕ)
    → IsKnown load_limit p slowdown instances found → IsCompiled p slowdown instances n report notes → AreBlocks p blocks table ws
    → length ws ≡ blocks * size_of report.ins
told_words p slowdown instances found n report notes blocks table ws k d a =
    let size : size_of report.ins ≡ length (input_widths p) = size_laid (parameter_types p) report.ins
    (told_laid p slowdown instances found n report notes k d) in
    rows_long p (length (input_widths p)) table ws k.typed a.rows ∙ (λ i. sym a.many i * sym size i)

-- ---- the whole text

-- one program has one report
pub same_report : (p : ProgramTree) (slowdown : ℕ) (instances : List StFuncTree) (n o : Circuit) (report other : ReportTree) (notes more : List NoteTree)
    → IsCompiled p slowdown instances n report notes → IsCompiled p slowdown instances o other more → report ≡ other
same_report p slowdown instances n o report other notes more d e =
    let same : d.instance ≡ e.instance = same_Some d.instance e.instance (sym d.last ∙ e.last) in
    d.reported ∙ ap (report_of false p slowdown instances) same ∙ sym e.reported

pub run_text_is : (fill : ℕ) (p : ProgramTree) (slowdown : ℕ) (instances : List StFuncTree) (table : List (List (List ℕ))) (n : Circuit) (report : ReportTree)
    (notes : List NoteTree) (built clocks text : List ℕ) → IsCompiled p slowdown instances n report notes
    → IsModuleText p slowdown instances built → Spells built (noted_module notes n.cells n.outlets (length report.outs))
    → IsClockText (noted_module notes n.cells n.outlets (length report.outs)) slowdown report.latency fill report.ins report.outs
    (blocks_of (parameter_types p) table) clocks
    → text ≡ (built ++ codes "%% clocks\n") ++ clocks → IsRunText fill p slowdown instances table text
run_text_is fill p slowdown instances table n report notes built clocks text d m spells shown is =
    let tree : noted_module notes n.cells n.outlets (length report.outs) ≡ m.tree = m.only (noted_module notes n.cells n.outlets (length report.outs)) spells in
    let same : report ≡ m.listing.report = same_report p slowdown instances n m.listing.circuit report m.listing.report notes m.listing.notes d
    m.listing.compiled in
    let blocks = blocks_of (parameter_types p) table in
    let here : IsClockText m.tree slowdown report.latency fill report.ins report.outs blocks clocks = subst
    (λ (x : ModuleTree). IsClockText x slowdown report.latency fill report.ins report.outs blocks clocks) tree shown in
    let late : IsClockText m.tree slowdown (main_costs p instances).latency fill report.ins report.outs blocks clocks = subst
    (λ (l : ℕ). IsClockText m.tree slowdown l fill report.ins report.outs blocks clocks) (ap (λ (r : ReportTree). r.latency) d.reported) here in
    record {
      built = built;
      module_text = m;
      clocks = clocks;
      shown = subst (λ (r : ReportTree). IsClockText m.tree slowdown (main_costs p instances).latency fill r.ins r.outs blocks clocks) same late;
      is = is;
    }

-- the same of sums
pub summed_is : (fill : ℕ) (p : ProgramTree) (slowdown : ℕ) (instances : List StFuncTree) (table : List (List (List ℕ))) (n : Circuit) (report : ReportTree)
    (notes : List NoteTree) (built : List ℕ) (sums : Sums) → IsCompiled p slowdown instances n report notes
    → IsModuleText p slowdown instances built → Spells built (noted_module notes n.cells n.outlets (length report.outs))
    → AreClockSums (noted_module notes n.cells n.outlets (length report.outs)) slowdown report.latency fill report.ins report.outs
    (blocks_of (parameter_types p) table) sums
    → IsSummedRun fill p slowdown instances table built sums
summed_is fill p slowdown instances table n report notes built sums d m spells shown =
    let tree : noted_module notes n.cells n.outlets (length report.outs) ≡ m.tree = m.only (noted_module notes n.cells n.outlets (length report.outs)) spells in
    let same : report ≡ m.listing.report = same_report p slowdown instances n m.listing.circuit report m.listing.report notes m.listing.notes d
    m.listing.compiled in
    let blocks = blocks_of (parameter_types p) table in
    let here : AreClockSums m.tree slowdown report.latency fill report.ins report.outs blocks sums = subst
    (λ (x : ModuleTree). AreClockSums x slowdown report.latency fill report.ins report.outs blocks sums) tree shown in
    let late : AreClockSums m.tree slowdown (main_costs p instances).latency fill report.ins report.outs blocks sums = subst
    (λ (l : ℕ). AreClockSums m.tree slowdown l fill report.ins report.outs blocks sums) (ap (λ (r : ReportTree). r.latency) d.reported) here in
    record {
      module_text = m;
      shown = subst (λ (r : ReportTree). AreClockSums m.tree slowdown (main_costs p instances).latency fill r.ins r.outs blocks sums) same late;
    }
