-- One memory more.
use Rattle.std.proofs.Common.{◌≤◌, ap, sym, length, map, arith}
use Rattle.ae_netlist.specs.Counts.{is_memory}
use Rattle.ae_sim.specs.Planned.{memory_for, memory_tree, filled_memory}
use Rattle.ae_sim.proofs.Planning.{list_next, whole_list}
use Rattle.ae_sim.proofs.plan.memories_of.Goals as goal

pub loop-n-preserved : goal.loop-n-preserved
loop-n-preserved c =
    list_next (memory_for c.args.fill) (filled_memory c.low_fill.result) is_memory c.args.nl.now.cells c.loop-n.n c.cell_at-sized.result
    (map memory_tree c.loop-n.memories.items) (map memory_tree c.push_memory.new.memories.items)
    c.cell_at-sized.ensures (ap (λ h. filled_memory h c.cell_at-sized.result) (sym (c.low_fill.ensures c.cell_at-sized.result c.cell_at-sized.ensures)))
    c.in_ok-push_memory.ensures c.loop-n.invariant

pub returns : goal.returns
returns c =
    let past : length c.args.nl.now.cells ≤ c.loop-n.n = omega (arith, c.loop-n-test.false, c.len-n-end.ensures) in
    whole_list (memory_for c.args.fill) is_memory c.args.nl.now.cells c.loop-n.n (map memory_tree c.loop-n.memories.items) past c.loop-n.invariant
