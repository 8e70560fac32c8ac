use Rattle.ae_judge.proofs.Shapely.{shapely}
use Rattle.ae_judge.proofs.shape.spelled_shape.Goals as goal

pub returns : goal.returns
returns c = shapely
