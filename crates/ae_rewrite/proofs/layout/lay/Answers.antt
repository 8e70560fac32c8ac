use Rattle.ae_seqtype.specs.SeqTree.{seq_tree}
use Rattle.ae_rewrite.proofs.Laid.{laid_whole, laid_in_size}
use Rattle.ae_rewrite.proofs.layout.lay.Goals as goal

pub returns-clause-time : goal.returns-clause-time
returns-clause-time c = (laid_whole (seq_tree c.args.t.now) c.args.clocks _ c.requires.in_size c.requires.some c.in_ok-layout.ensures.layout).time

pub returns-clause-atoms : goal.returns-clause-atoms
returns-clause-atoms c = (laid_whole (seq_tree c.args.t.now) c.args.clocks _ c.requires.in_size c.requires.some c.in_ok-layout.ensures.layout).atoms

pub returns-clause-atom : goal.returns-clause-atom
returns-clause-atom c = (laid_whole (seq_tree c.args.t.now) c.args.clocks _ c.requires.in_size c.requires.some c.in_ok-layout.ensures.layout).atom

pub returns-clause-size : goal.returns-clause-size
returns-clause-size c = laid_in_size (seq_tree c.args.t.now) c.args.clocks _ c.requires.in_size c.requires.some c.requires.limit c.in_ok-layout.ensures.layout
