use Rattle.ae_stream.proofs.Paths.{has_no_paths}
use Rattle.ae_stream.proofs.laws.wired_controls_have_no_paths.Goals as goal

pub returns : goal.returns
returns c x g row ends wanted wait a b start slowdown q r inputs outputs some ha hb =
    has_no_paths x g row ends wanted wait a b start slowdown q r inputs outputs some ha hb
