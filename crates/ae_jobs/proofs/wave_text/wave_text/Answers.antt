use Rattle.std.proofs.Common.{◌≡◌, ◌^◌, ◌<◌, ◌∙◌, ℕ, List, length, map, ap, sym, subst}
use Rattle.std.specs.Prelude.{string_bytes}
use Rattle.std.proofs.lemmas.List.{length-map}
use Rattle.ae_seq.specs.ProgramTree.{program_tree}
use Rattle.ae_rewrite.specs.StProgramTree.{st_func_trees}
use Rattle.ae_rewrite.specs.Interface.{parameter_types}
use Rattle.ae_vmodule.specs.ModuleTree.{ModuleTree}
use Rattle.ae_vread.specs.Spells.{Spells}
use Rattle.ae_verilog.specs.Notes.{note_tree, noted_module}
use Rattle.ae_verilog.specs.ReportLines.{report_tree}
use Rattle.ae_play.specs.Lines.{clock_count}
use Rattle.ae_vcd.specs.Waves.{IsFormedWave, wave_tree}
use Rattle.ae_vcd.specs.WaveText.{commented, wave_text}
use Rattle.ae_jobs.specs.declared.run_job.Form.TheVariants.{Dump}
use Rattle.ae_jobs.specs.Inputs.{blocks_of}
use Rattle.ae_jobs.specs.RunTexts.{word_count}
use Rattle.ae_jobs.specs.WaveTexts.{run_wave}
use Rattle.ae_jobs.proofs.Clocks.{few_clocks}
use Rattle.ae_jobs.proofs.WaveShown.{as_words_of, wave_text_is}
use Rattle.ae_jobs.proofs.wave_text.wave_text.Goals as goal

pub run_words-requires-clause-short : goal.run_words-requires-clause-short
run_words-requires-clause-short c =
    let d = c.args.compiled.now in
    few_clocks c.args.clocks (clock_count d.costed.slowdown d.report.latency c.args.blocks)
    (word_count Dump (program_tree d.costed.program) d.costed.slowdown) c.requires.clocks c.requires.small

pub run_words-requires-clause-text : goal.run_words-requires-clause-text
run_words-requires-clause-text c = subst (λ (bs : List ℕ). length bs < 2 ^ 32) (sym c.as_str.ensures.value) c.in_ok-built.ensures.short

pub run_words-requires-clause-spells : goal.run_words-requires-clause-spells
run_words-requires-clause-spells c =
    let d = c.args.compiled.now in
    subst (λ (bs : List ℕ). Spells bs (noted_module (map note_tree d.notes) d.netlist.cells d.netlist.outlets (length (report_tree d.report).outs)))
    (sym c.as_str.ensures.value) c.in_ok-built.ensures.spells

pub run_wave-requires-clause-words : goal.run_wave-requires-clause-words
run_wave-requires-clause-words c =
    let d = c.args.compiled.now in
    let p = program_tree d.costed.program in
    let own : ModuleTree = noted_module (map note_tree d.notes) d.netlist.cells d.netlist.outlets (length (report_tree d.report).outs) in
    as_words_of own d.costed.slowdown d.report.latency c.args.fill (report_tree d.report).ins c.args.blocks
    (blocks_of (parameter_types p) c.requires.rows.0) c.args.clocks c.in_ok-all.all.items c.requires.clocks
    (c.requires.rows.1.many ∙ sym (length-map c.requires.rows.0 _)) (c.in_ok-all.ensures.words c.requires.rows.0 c.requires.rows.1)

pub returns : goal.returns
returns c = λ table a.
    let d = c.args.compiled.now in
    let p = program_tree d.costed.program in
    let all = st_func_trees d.costed.schedule in
    let report = report_tree d.report in
    let notes = map note_tree d.notes in
    let own : ModuleTree = noted_module notes d.netlist.cells d.netlist.outlets (length report.outs) in
    let words : List ℕ = c.in_ok-all.all.items in
    let tree : wave_tree c.in_ok-wave.wave ≡ run_wave own c.args.clocks words = c.in_ok-wave.ensures.wave in
    let formed : IsFormedWave (run_wave own c.args.clocks words) = subst IsFormedWave tree c.in_ok-wave.ensures.formed in
    let counts : c.args.clocks ≡ clock_count d.costed.slowdown d.report.latency (length table) = c.requires.clocks ∙
    ap (λ n. clock_count d.costed.slowdown d.report.latency n) a.many in
    let dump : c.as_str-3.result.now ≡ wave_text (run_wave own c.args.clocks words) = c.as_str-3.ensures.value ∙ c.in_ok-dump.ensures ∙ ap wave_text tree in
    let whole : string_bytes c.in_ok-text.text ≡ commented (string_bytes c.in_ok-built.built)
    (wave_text (run_wave own c.args.clocks words)) = c.in_ok-text.ensures ∙ (λ i. commented (c.as_str-2.ensures.value i) (dump i)) in
    wave_text_is c.args.fill p d.costed.slowdown all table d.netlist report notes (string_bytes c.in_ok-built.built) words c.args.clocks
    (string_bytes c.in_ok-text.text)
    c.in_ok-all.ensures.compiled.compiled c.in_ok-built.ensures.text c.in_ok-built.ensures.spells
    (c.in_ok-all.ensures.words table a) formed c.comments_are_passed.ensures c.texts_are_dumps.ensures counts whole
