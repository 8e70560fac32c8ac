use Rattle.std.proofs.Common.{◌≡◌, ◌/◌, length, refl, arith}
use Rattle.std.specs.Prelude.{string_bytes}
use Rattle.ae_jobs.proofs.SimRows.{rows_count}
use Rattle.ae_jobs.proofs.SimRuns.{row_fits, row_has, text_is}
use Rattle.ae_jobs.proofs.sim_job.run_text.Goals as goal

pub overflow_cast-clocks : goal.overflow_cast-clocks
overflow_cast-clocks c =
    let count : length c.args.words.now / c.args.columns ≡ length c.requires.rows.0 = rows_count c.args.nl.now.cells c.args.columns c.requires.rows.0
    c.args.words.now c.requires.rows.1 in
    omega (arith, count, c.requires.rows.1.few)

pub play-requires-clause-has : goal.play-requires-clause-has
play-requires-clause-has c = λ k h.
    row_has c.args.nl.now.cells c.args.columns c.requires.rows.0 c.args.words.now c.inputs.result k c.requires.rows.1 c.inputs.ensures h

pub play-requires-clause-rows : goal.play-requires-clause-rows
play-requires-clause-rows c = λ k h.
    row_fits c.args.nl.now.cells c.args.columns c.requires.rows.0 c.args.words.now c.inputs.result k c.in_ok-sim.sim c.in_ok-sim.ensures.cells
    c.requires.rows.1 c.inputs.ensures h

pub returns : goal.returns
returns c = λ table a.
    text_is string_bytes c.args.nl.now c.args.fill c.args.columns table c.args.words.now c.inputs.result
    (length c.args.words.now / c.args.columns) c.in_ok-sim.sim c.new-out.result c.play.new.kept a c.inputs.ensures refl c.in_ok-sim.ensures.cells
    c.in_ok-sim.ensures.outlets
    c.in_ok-sim.ensures.begins c.new-out.ensures.bytes c.in_ok-play.ensures c.has_one_run_with.ensures c.fill_begins.ensures
