-- The rows of an input can be fed to the circuit of its program.
use Rattle.std.proofs.Common.{ℕ, suc, ◌≡◌, ◌+◌, All, List, [], ◌∷◌, ◌++◌, length, map, flat_map, Some, slice_get, refl, ap, sym, ◌∙◌, subst}
use Rattle.std.proofs.lemmas.List.Concat.{flat_map-cons}
use Rattle.ae_word.specs.AtomTree.{WordKind, atom_kinds}
use Rattle.ae_seqtype.specs.SeqTree.{SeqTree, atom, atoms, kinds, repeated}
use Rattle.ae_seqtype.specs.ValueTree.{FitKinds}
use Rattle.ae_seqtype.proofs.Stands.{FitKinds-append}
use Rattle.ae_sttype.specs.StTree.{StTree, element_atom}
use Rattle.ae_netlist.specs.declared.cell.SizedCell.{SizedCell}
use Rattle.ae_netlist.specs.Rows.{AreInputs}
use Rattle.ae_seq.specs.ProgramTree.{ProgramTree, program_tree}
use Rattle.ae_fields.specs.Rows.{row_words, words_in}
use Rattle.ae_eval.specs.Stack.{IsTyped, kinds_of}
use Rattle.ae_eval.specs.Lines.{input_types}
use Rattle.ae_flow.proofs.MeaningLayouts.{AllLaidOut, LaysOut}
use Rattle.ae_play.specs.Fed.{blocks_of, fed_rows}
use Rattle.ae_play.specs.Fits.{FitBlocks, TakesBlocks, value_kinds}
use Rattle.ae_rewrite.specs.Interface.{parameter_types}
use Rattle.ae_rewrite.specs.StProgramTree.{st_func_trees}
use Rattle.ae_verilog.specs.Notes.{note_tree}
use Rattle.ae_verilog.specs.ReportLines.{report_tree}
use Rattle.ae_compile.specs.Passes.{CompiledView, IsCompiledProgram}
use Rattle.ae_jobs.specs.EvalRows.{AreBlocks}
use Rattle.ae_jobs.specs.RunTexts.{input_widths}
use Rattle.ae_jobs.proofs.EvalTypes.{same_parameters}
use Rattle.ae_jobs.proofs.Shown.{row_fits, told_ins, told_laid, told_words}
use Rattle.ae_eval.proofs.Combining.{kinds-repeated as kinds_again}

-- ---- the words of blocks

kinds_laid : (t : SeqTree) (s : StTree) → LaysOut t s → kinds t ≡ value_kinds s
kinds_laid t s h =
    kinds_again t ∙ ap (λ a. repeated (atoms t) (atom_kinds a)) (sym h.atom) ∙ ap (λ k. repeated k (atom_kinds (element_atom s))) (sym h.atoms)

all_kinds : (ts : List SeqTree) (ss : List StTree) → AllLaidOut ts ss → kinds_of ts ≡ flat_map value_kinds ss
all_kinds [] [] h = refl
all_kinds [] (s ∷ ss) h = absurd h
all_kinds (t ∷ ts) [] h = absurd h
all_kinds (t ∷ ts) (s ∷ ss) h =
    ap (λ (ks : List WordKind). ks ++ kinds_of ts) (kinds_laid t s h.0) ∙ ap (λ (ks : List WordKind). value_kinds s ++ ks) (all_kinds ts ss h.1) ∙
    sym (flat_map-cons value_kinds s ss)

rows_fit : (ks : List WordKind) (table : List (List (List ℕ))) → ((k : ℕ) (r : List (List ℕ)) → slice_get table k ≡ Some r → FitKinds (row_words r) ks)
    → FitKinds (words_in table) (repeated (length table) ks)
rows_fit ks [] each = tt
rows_fit ks (r ∷ rs) each =
    FitKinds-append (row_words r) (words_in rs) ks (repeated (length rs) ks) (each 0 r refl) (rows_fit ks rs (λ k x e. each (suc k) x e))

pub blocks_fit : (p : ProgramTree) (ss : List StTree) (blocks : ℕ) (table : List (List (List ℕ))) (ws : List ℕ) → IsTyped p → AllLaidOut (parameter_types p) ss
    → AreBlocks p blocks table ws → FitBlocks ss blocks ws
blocks_fit p ss blocks table ws typed laid a =
    let ks : kinds_of (input_types p) ≡ flat_map value_kinds ss = ap kinds_of (same_parameters p) ∙ all_kinds (parameter_types p) ss laid in
    let fit : FitKinds (words_in table) (repeated (length table) (kinds_of (input_types p))) = rows_fit (kinds_of (input_types p)) table
    (λ k r e. row_fits p (length (input_widths p)) table ws k r typed a.rows e) in
    let fit_ws : FitKinds ws (repeated (length table) (kinds_of (input_types p))) = subst
    (λ (vs : List ℕ). FitKinds vs (repeated (length table) (kinds_of (input_types p)))) (sym a.rows.words_are) fit in
    let fit_ss : FitKinds ws (repeated (length table) (flat_map value_kinds ss)) = subst
    (λ (ls : List WordKind). FitKinds ws (repeated (length table) ls)) ks fit_ws in
    subst (λ (n : ℕ). FitKinds ws (repeated n (flat_map value_kinds ss))) (sym a.many) fit_ss

-- ---- the blocks that a circuit takes

pub blocks_taken : (d : CompiledView) (cells : List SizedCell) (fill count : ℕ) (table : List (List (List ℕ))) (ws : List ℕ) → IsCompiledProgram d
    → AreBlocks (program_tree d.costed.program) count table ws
    → ((k : ℕ) (vs : List ℕ) → FitBlocks (report_tree d.report).ins k vs → (clocks : ℕ)
    → All (AreInputs cells) (fed_rows d.costed.slowdown fill (report_tree d.report).ins (blocks_of (report_tree d.report).ins k vs) clocks))
    → TakesBlocks cells d.costed.slowdown fill (report_tree d.report).ins count ws
blocks_taken d cells fill count table ws known a feeds =
    let p = program_tree d.costed.program in
    let all = st_func_trees d.costed.schedule in
    let report = report_tree d.report in
    let notes = map note_tree d.notes in
    let laid = told_laid p d.costed.slowdown all d.costed.costs d.netlist report notes known.costed known.compiled in
    record {
      ins = told_ins p d.costed.slowdown all d.costed.costs d.netlist report notes known.costed known.compiled;
      whole = told_words p d.costed.slowdown all d.costed.costs d.netlist report notes count table ws known.costed known.compiled a;
      rows = feeds count ws (blocks_fit p report.ins count table ws known.costed.typed laid a);
    }
