use Rattle.table_stages.proofs.Evenness.{own_widths}
use Rattle.table_stages.proofs.bench.run.Goals as goal

pub show-requires : goal.show-requires
show-requires g c = rw c.nets.ensures (own_widths _ _ _ c.in_ok-made.ensures.bundle)
