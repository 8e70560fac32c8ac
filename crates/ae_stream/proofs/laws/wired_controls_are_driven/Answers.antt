use Rattle.ae_stream.proofs.Wiring.{driven_by}
use Rattle.ae_stream.proofs.laws.wired_controls_are_driven.Goals as goal

pub returns : goal.returns
returns c x g row ends wanted wait run start slowdown q r inputs outputs any waits beat reset w words m =
    driven_by x g row ends wanted wait run start slowdown q r inputs outputs any waits beat reset w words m
