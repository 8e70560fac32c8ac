use Rattle.std.proofs.Common.{map}
use Rattle.ae_sttype.specs.StTree.{st_tree}
use Rattle.ae_play.specs.Fed.{blocks_of}
use Rattle.ae_play.proofs.Layouts.{block_count}
use Rattle.ae_play.proofs.Texts.{words_played}
use Rattle.ae_play.proofs.words.clock_words.Goals as goal

pub returns : goal.returns
returns c =
    let b = c.args.fed.now in
    let ins = map st_tree b.ins.now in
    words_played (λ v. v.items) c.args.nl.now b.slowdown c.args.latency b.fill ins
    (blocks_of ins b.count b.words.now) b.count c.clock_count-clocks.result c.new-all.result c.play_blocks.new.kept
    c.new-all.ensures.items (block_count ins b.count b.words.now) c.clock_count-clocks.ensures c.in_ok-play_blocks.ensures
