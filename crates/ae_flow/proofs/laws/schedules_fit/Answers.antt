use Rattle.ae_flow.proofs.laws.schedules_fit.Goals as goal
use Rattle.ae_flow.proofs.Scheduling.{schedules_fit_by}

pub returns : goal.returns
returns c p slowdown all typed some schedule = schedules_fit_by p slowdown all typed some schedule
