use Rattle.std.proofs.Common.{length, sym, ap, ◌∙◌}
use Rattle.ae_order.proofs.SparseLaws.{sparse_long}
use Rattle.ae_order.proofs.sparse.Sparse.len.Goals as goal

pub returns : goal.returns
returns g c = sym (sparse_long c.self.inside.count c.self.inside.index.items c.self.inside.items.items) ∙ ap length c.self.view_is
