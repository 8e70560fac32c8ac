use Rattle.ae_stream.proofs.Progress.{goes_on}
use Rattle.ae_stream.proofs.laws.driven_circuits_go_on.Goals as goal

pub returns : goal.returns
returns c x g row ends run start slowdown q r inputs outputs some small beat h shown =
    goes_on x g row ends run start slowdown q r inputs outputs some small beat h shown
