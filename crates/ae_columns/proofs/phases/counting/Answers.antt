use Rattle.ae_clocked.proofs.Belonging.{phase_keeps}
use Rattle.ae_columns.proofs.phases.counting.Goals as goal

pub returns-clause-keeps : goal.returns-clause-keeps
returns-clause-keeps c = phase_keeps _ _ _ c.in_ok-net.net c.in_ok-net.ensures.rst c.in_ok-net.ensures.keeps (λ n found. (c.in_ok-net.ensures.again n found).2)
