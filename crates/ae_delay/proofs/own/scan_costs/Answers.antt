use Rattle.std.proofs.Common.{◌≡◌, ◌*◌, ◌∙◌, ap, refl, arith}
use Rattle.ae_delay.specs.OwnCosts.{where_many}
use Rattle.ae_delay.proofs.Owned.{scan_bounded}
use Rattle.ae_delay.proofs.own.scan_costs.Goals as goal

pub returns-clause-bounded : goal.returns-clause-bounded
returns-clause-bounded c =
    let memory : c.where_many-4.result ≡ where_many c.args.slots (c.from-columns.result * c.rings.result) = c.where_many-4.ensures.many ∙
    ap (λ x. where_many c.args.slots (c.from-columns.result * x)) c.from.ensures in
    scan_bounded c.args.slots c.from-columns.result c.from-lanes.result c.levels_for-count.result.count c.inner_time-inner.result c.saturating_sub.result
    c.where_many.result c.where_many-3.result c.where_many-2.result c.where_mul.result c.where_many-4.result c.rings.result _
    (omega arith) (omega arith) c.levels_for-count.ensures.few c.inner_time-inner.ensures.few c.where_many.ensures.most c.where_many-3.ensures.most
    (omega arith) refl c.where_mul.ensures.most
    c.rings.ensures c.where_many-2.ensures.most c.where_many-2.ensures.many memory
