use Rattle.ae_gates.proofs.Added.{own_net}
use Rattle.ae_columns.proofs.choices.before_phase.Goals as goal

pub width_at-requires : goal.width_at-requires
width_at-requires c = own_net c.requires.phase.counts.is_net
