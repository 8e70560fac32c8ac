use Rattle.std.proofs.Common.{◌≡◌, ◌∙◌, ◌^◌, ◌<◌, ℕ, List, All, length, map, ap, sym, subst}
use Rattle.std.specs.Prelude.{string_bytes}
use Rattle.ae_sttype.specs.declared.st_type.StType.{StType}
use Rattle.ae_sttype.specs.StTree.{StTree, st_tree, time}
use Rattle.ae_sttype.specs.Size.{IsInSize}
use Rattle.ae_seq.specs.ProgramTree.{program_tree}
use Rattle.ae_rewrite.specs.StProgramTree.{st_func_trees}
use Rattle.ae_rewrite.specs.Interface.{parameter_types}
use Rattle.ae_vread.specs.Spells.{Spells}
use Rattle.ae_verilog.specs.Notes.{note_tree, noted_module}
use Rattle.ae_verilog.specs.ReportLines.{report_tree}
use Rattle.ae_verilog.specs.declared.report.Report.{Report}
use Rattle.ae_play.specs.Fed.{blocks_of}
use Rattle.ae_play.specs.Sums.{ArePlayedSums}
use Rattle.ae_jobs.specs.Inputs.{blocks_of as row_blocks}
use Rattle.ae_jobs.proofs.Feeding.{blocks_fit, blocks_taken}
use Rattle.ae_jobs.proofs.Shown.{blocks_values, blocks_words, summed_is, told_laid, told_outs}
use Rattle.ae_jobs.proofs.demo_job.summed.Goals as goal

pub play-requires-clause-short : goal.play-requires-clause-short
play-requires-clause-short c = subst (λ (bs : List ℕ). length bs < 2 ^ 32) (sym c.as_str.ensures.value) c.in_ok-text.ensures.short

pub play-requires-clause-spells : goal.play-requires-clause-spells
play-requires-clause-spells c =
    let d = c.args.compiled.now in
    subst (λ (bs : List ℕ). Spells bs (noted_module (map note_tree d.notes) d.netlist.cells d.netlist.outlets (length (report_tree d.report).outs)))
    (sym c.as_str.ensures.value) c.in_ok-text.ensures.spells

pub sum_clocks-requires-clause-takes : goal.sum_clocks-requires-clause-takes
sum_clocks-requires-clause-takes c =
    let are = c.fed_blocks-fed.ensures in
    rw (are.slowdown, are.fill, are.ins, are.count, are.words)
    (blocks_taken c.args.compiled.now c.in_ok-played.played.cells c.args.fill c.args.blocks c.requires.rows.0 c.args.words.now
    c.report-told.ensures.known c.requires.rows.1 c.in_ok-played.ensures.feeds)

pub sum_clocks-requires-clause-outs : goal.sum_clocks-requires-clause-outs
sum_clocks-requires-clause-outs c =
    let d = c.args.compiled.now in
    let p = program_tree d.costed.program in
    let all = st_func_trees d.costed.schedule in
    let report = report_tree d.report in
    let notes = map note_tree d.notes in
    let k = c.report-told.ensures.known.costed in
    let e = c.report-told.ensures.known.compiled in
    rw c.fed_blocks-fed.ensures.slowdown
    (subst (λ (xs : List StType). All (λ (t : StTree). IsInSize t × (time t ≡ d.costed.slowdown)) (map st_tree xs))
    (sym (c.deref.ensures.value ∙ ap (λ (r : Report). r.outs.items) c.report-told.ensures.is))
    (told_outs p d.costed.slowdown all d.costed.costs d.netlist report notes k e))

pub returns : goal.returns
returns c = λ table a.
    let d = c.args.compiled.now in
    let p = program_tree d.costed.program in
    let all = st_func_trees d.costed.schedule in
    let report = report_tree d.report in
    let notes = map note_tree d.notes in
    let k = c.report-told.ensures.known.costed in
    let e = c.report-told.ensures.known.compiled in
    let laid = told_laid p d.costed.slowdown all d.costed.costs d.netlist report notes k e in
    let fit = blocks_fit p report.ins c.args.blocks table c.args.words.now k.typed laid a in
    let values = blocks_values p c.args.blocks table c.args.words.now k.typed a in
    let words = blocks_words p report.ins c.args.blocks table c.args.words.now k.typed laid a in
    let sums = c.in_ok-sums.sums in
    let are = c.fed_blocks-fed.ensures in
    let played : ArePlayedSums c.in_ok-played.played d.costed.slowdown report.latency c.args.fill report.ins report.outs
    (blocks_of report.ins c.args.blocks c.args.words.now) sums =
    subst (λ (xs : List StType). ArePlayedSums c.in_ok-played.played d.costed.slowdown report.latency c.args.fill report.ins (map st_tree xs)
    (blocks_of report.ins c.args.blocks c.args.words.now) sums) (c.deref.ensures.value ∙ ap (λ (r : Report). r.outs.items) c.report-told.ensures.is)
    (rw (are.slowdown, are.fill, are.ins, are.count, are.words, c.report-told.ensures.is) at c.in_ok-sums.ensures) in
    let shown = c.in_ok-played.ensures.sums c.args.blocks c.args.words.now (row_blocks (parameter_types p) table) sums fit values words played in
    summed_is c.args.fill p d.costed.slowdown all table d.netlist report notes
    (string_bytes c.in_ok-text.text) sums e c.in_ok-text.ensures.text c.in_ok-text.ensures.spells shown
