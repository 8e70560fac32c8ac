use Rattle.std.proofs.Common.{map}
use Rattle.ae_sttype.specs.StTree.{st_tree}
use Rattle.ae_play.specs.Fed.{blocks_of}
use Rattle.ae_play.proofs.Layouts.{block_count}
use Rattle.ae_play.proofs.Texts.{sums_played}
use Rattle.ae_play.proofs.sums.sum_clocks.Goals as goal

pub returns : goal.returns
returns c =
    let b = c.args.fed.now in
    let ins = map st_tree b.ins.now in
    sums_played c.args.nl.now b.slowdown c.args.latency b.fill ins (map st_tree c.args.outs.now)
    (blocks_of ins b.count b.words.now) b.count c.clock_count-clocks.result c.play_blocks.new.kept
    (block_count ins b.count b.words.now) c.clock_count-clocks.ensures c.in_ok-play_blocks.ensures
