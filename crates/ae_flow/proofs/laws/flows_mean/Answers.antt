use Rattle.ae_flow.proofs.laws.flows_mean.Goals as goal
use Rattle.ae_flow.proofs.MeaningProgram.{flows-mean}

pub returns : goal.returns
returns c = flows-mean
