-- The program is formed, and no line of it is refused.
use Rattle.ae_least.proofs.others.main_func.Goals as goal

pub returns-clause-typed : goal.returns-clause-typed
returns-clause-typed c = record { is_formed = c.program.ensures.is_formed; accepted = c.program.ensures.accepted }
