use Rattle.std.proofs.Common.{map}
use Rattle.ae_netlist.specs.Rows.{AreInputs}
use Rattle.ae_sttype.specs.StTree.{st_tree}
use Rattle.ae_play.specs.Fed.{blocks_of}
use Rattle.ae_play.proofs.PlayedRuns.{kept_of_run, reset_fits, row_here}
use Rattle.ae_play.proofs.blocks.play_blocks.Goals as goal

pub begun-requires-clause-row : goal.begun-requires-clause-row
begun-requires-clause-row g c =
    let b = c.args.blocks.now in
    let ins = map st_tree b.ins.now in
    reset_fits (AreInputs c.args.nl.now.cells) b.slowdown b.fill ins (blocks_of ins b.count b.words.now) c.requires.takes.rows

pub play-requires-clause-rows : goal.play-requires-clause-rows
play-requires-clause-rows g c = λ k h.
    let b = c.args.blocks.now in
    let ins = map st_tree b.ins.now in
    row_here c.args.nl.now b.slowdown b.fill ins (blocks_of ins b.count b.words.now) c.in_ok-sim.sim k c.in_ok-sim.ensures.cells c.requires.takes.rows

pub returns : goal.returns
returns g c =
    let b = c.args.blocks.now in
    let ins = map st_tree b.ins.now in
    kept_of_run c.args.nl.now b.slowdown b.fill ins (blocks_of ins b.count b.words.now) c.args.clocks
    (g.M.Monitor.takes c.args.monitor.now) c.args.kept.now c.play.new.kept c.in_ok-sim.sim
    c.in_ok-sim.ensures.cells c.in_ok-sim.ensures.outlets c.in_ok-sim.ensures.plays c.in_ok-play.ensures c.has_one_run_with.ensures c.fill_begins.ensures
    c.requires.takes.rows
