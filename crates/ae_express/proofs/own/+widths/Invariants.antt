use Rattle.ae_vmodule.specs.Numbered.{parts_in}
use Rattle.ae_vmodule.specs.Roots.{numbered}
use Rattle.ae_express.proofs.own.+widths.Given as goal

abbrev pub decreases-own_width : goal.decreases-own_width
decreases-own_width l = parts_in (numbered l.e)
