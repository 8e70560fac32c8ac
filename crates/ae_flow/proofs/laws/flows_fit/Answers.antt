use Rattle.ae_flow.proofs.laws.flows_fit.Goals as goal
use Rattle.ae_flow.proofs.Flowing.{flows_fit_by}

pub returns : goal.returns
returns c instances k s vs sound fitted at fit i below = flows_fit_by instances k s vs sound fitted at fit i below
