use Rattle.ae_play.proofs.Fitting.{fed}
use Rattle.ae_play.proofs.fits.can_be_fed.Goals as goal

pub returns : goal.returns
returns c = fed
