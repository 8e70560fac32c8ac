use Rattle.ae_order.proofs.SparseLaws.{sparse_none}
use Rattle.ae_order.proofs.sparse.Sparse.none.Goals as goal

pub returns : goal.returns
returns g c = rw c.new.ensures.items (sparse_none c.args.count c.new-2.result.items)
