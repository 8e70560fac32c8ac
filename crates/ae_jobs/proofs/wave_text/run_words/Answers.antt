use Rattle.std.proofs.Common.{map}
use Rattle.ae_seq.specs.ProgramTree.{program_tree}
use Rattle.ae_rewrite.specs.StProgramTree.{st_func_trees}
use Rattle.ae_rewrite.specs.Interface.{parameter_types}
use Rattle.ae_verilog.specs.Notes.{note_tree}
use Rattle.ae_verilog.specs.ReportLines.{report_tree}
use Rattle.ae_play.specs.Fed.{blocks_of}
use Rattle.ae_play.specs.Words.{ArePlayedWords}
use Rattle.ae_jobs.specs.Inputs.{blocks_of as row_blocks}
use Rattle.ae_jobs.proofs.Feeding.{blocks_fit, blocks_taken}
use Rattle.ae_jobs.proofs.Shown.{blocks_values, blocks_words, told_laid}
use Rattle.ae_jobs.proofs.wave_text.run_words.Goals as goal

pub returns-in_err-played-clause-compiled : goal.returns-in_err-played-clause-compiled
returns-in_err-played-clause-compiled c = c.report-told.ensures.known

pub clock_words-requires-clause-takes : goal.clock_words-requires-clause-takes
clock_words-requires-clause-takes c =
    let are = c.fed_blocks-fed.ensures in
    rw (are.slowdown, are.fill, are.ins, are.count, are.words)
    (blocks_taken c.args.compiled.now c.in_ok-played.played.cells c.args.fill c.args.blocks c.requires.rows.0 c.args.words.now
    c.report-told.ensures.known c.requires.rows.1 c.in_ok-played.ensures.feeds)

pub returns-clause-words : goal.returns-clause-words
returns-clause-words c = λ table a.
    let d = c.args.compiled.now in
    let p = program_tree d.costed.program in
    let report = report_tree d.report in
    let k = c.report-told.ensures.known.costed in
    let laid = told_laid p d.costed.slowdown (st_func_trees d.costed.schedule) d.costed.costs d.netlist report
    (map note_tree d.notes) k c.report-told.ensures.known.compiled in
    let fit = blocks_fit p report.ins c.args.blocks table c.args.words.now k.typed laid a in
    let values = blocks_values p c.args.blocks table c.args.words.now k.typed a in
    let words = blocks_words p report.ins c.args.blocks table c.args.words.now k.typed laid a in
    let are = c.fed_blocks-fed.ensures in
    let played : ArePlayedWords c.in_ok-played.played d.costed.slowdown report.latency c.args.fill report.ins
    (blocks_of report.ins c.args.blocks c.args.words.now) c.in_ok-all.all.items =
    rw (are.slowdown, are.fill, are.ins, are.count, are.words, c.report-told.ensures.is) at c.in_ok-all.ensures in
    c.in_ok-played.ensures.words c.args.blocks c.args.words.now (row_blocks (parameter_types p) table) c.in_ok-all.all.items fit values words played
