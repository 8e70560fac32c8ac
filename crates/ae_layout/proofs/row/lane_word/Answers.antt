use Rattle.ae_layout.proofs.RowWords.{kind_there}
use Rattle.ae_layout.proofs.row.lane_word.Goals as goal

pub unreachable-requires : goal.unreachable-requires
unreachable-requires c = kind_there _ _ _ _ c.atom.ensures c.requires.word c.width.ensures c.in-None-width.is
