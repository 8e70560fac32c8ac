use Rattle.ae_vmodule.specs.Numbered.{parts_in}
use Rattle.ae_vmodule.specs.Roots.{numbered}
use Rattle.ae_express.proofs.measure.+measuring.Given as goal

abbrev pub decreases-measure : goal.decreases-measure
decreases-measure l = parts_in (numbered l.e)
