use Rattle.std.proofs.Common.{◌≡◌, ◌∙◌, Some, ap, sym, arith, slice_get}
use Rattle.std.specs.Prelude.{string_bytes}
use Rattle.ae_jobs.proofs.CostRows.{named_at, rows_next}
use Rattle.ae_jobs.proofs.cost_table.cost_table.Goals as goal

pub write_cost-requires : goal.write_cost-requires
write_cost-requires c = named_at c.args.nodes.now c.loop-node.node-index c.node-item.result c.requires.named c.loop-node-test.true c.node-item.is

pub loop-node-preserved : goal.loop-node-preserved
loop-node-preserved c =
    let costs = c.args.timing.now.nodes in
    let found : slice_get costs c.loop-node.node-index ≡ Some c.in-Some.cost = ap (λ k. slice_get costs k) (sym c.loop-node.invariant.1) ∙ sym c.cost.ensures ∙
    c.in-Some.is in (
      rows_next (string_bytes c.loop-node.out) (string_bytes c.write_cost.new.out) _ c.args.nodes.now costs c.loop-node.node-index c.node-item.result
          c.in-Some.cost c.loop-node-test.true c.node-item.is found c.loop-node.invariant.0 c.in_ok-write_cost.ensures,
      omega (arith, c.loop-node.invariant.1),
    )
