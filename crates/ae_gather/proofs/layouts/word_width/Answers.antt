use Rattle.ae_sttype.specs.StTree.{st_tree}
use Rattle.ae_gather.proofs.CodeLaws.{no_width}
use Rattle.ae_gather.proofs.layouts.word_width.Goals as goal

pub unreachable-requires : goal.unreachable-requires
unreachable-requires c = no_width (st_tree c.args.s.now) c.args.j _ c.width.result c.atom.ensures c.width.ensures c.in-None.is c.requires
