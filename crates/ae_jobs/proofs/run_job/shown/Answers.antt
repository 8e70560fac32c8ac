use Rattle.ae_seq.specs.ProgramTree.{program_tree}
use Rattle.ae_jobs.specs.RunTexts.{word_count}
use Rattle.ae_play.specs.Lines.{clock_count}
use Rattle.ae_jobs.proofs.Clocks.{few_clocks}
use Rattle.ae_jobs.proofs.run_job.shown.Goals as goal

pub run_text-requires-clause-short : goal.run_text-requires-clause-short
run_text-requires-clause-short c =
    let d = c.args.compiled.now in
    few_clocks c.args.clocks (clock_count d.costed.slowdown d.report.latency c.args.blocks)
    (word_count c.args.form (program_tree d.costed.program) d.costed.slowdown) c.requires.clocks c.requires.small
