-- One number more.
use Rattle.std.proofs.Common.{◌+◌, arith}
use Rattle.std.proofs.lemmas.List.{length_push}
use Rattle.ae_netlist.specs.Counts.{is_memory, number_of}
use Rattle.ae_sim.proofs.Planning.{number_next, number_small, counted_next}
use Rattle.ae_sim.proofs.plan.memory_numbers.Goals as goal

pub overflow_add-before : goal.overflow_add-before
overflow_add-before c =
    let next = number_next is_memory c.args.nl.now.cells c.loop-n.n c.cell_at.result c.cell_at.ensures in
    let small = number_small is_memory c.args.nl.now.cells (c.loop-n.n + 1) in
    grind (arith, next, small, c.one_if_memory-before.ensures, c.loop-n.invariant.before, c.loop-n-test.true, c.len-n-end.type_inv)

pub loop-n-preserved : goal.loop-n-preserved
loop-n-preserved c =
    let next = number_next is_memory c.args.nl.now.cells c.loop-n.n c.cell_at.result c.cell_at.ensures in
    rw c.in_ok-push.ensures.items
    (record {
      long = omega (arith, length_push c.loop-n.numbers.items c.loop-n.before, c.loop-n.invariant.long);
      before = omega (arith, next, c.one_if_memory-before.ensures, c.loop-n.invariant.before);
      counts = counted_next c.loop-n.numbers.items (number_of is_memory c.args.nl.now.cells) c.loop-n.n c.loop-n.before c.loop-n.invariant.long
          c.loop-n.invariant.before c.loop-n.invariant.counts;
    })
