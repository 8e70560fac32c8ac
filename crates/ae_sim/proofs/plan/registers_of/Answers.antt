-- One register more.
use Rattle.std.proofs.Common.{◌≤◌, ap, sym, length, arith}
use Rattle.ae_netlist.specs.Counts.{is_register}
use Rattle.ae_sim.specs.Planned.{register_for, next_of}
use Rattle.ae_sim.proofs.Planning.{list_next, whole_list}
use Rattle.ae_sim.proofs.plan.registers_of.Goals as goal

pub loop-n-preserved : goal.loop-n-preserved
loop-n-preserved c =
    list_next (register_for c.args.fill) (λ s. record { next = next_of s.cell; held = c.low_fill.result }) is_register c.args.nl.now.cells c.loop-n.n
    c.cell_at-sized.result c.loop-n.registers.items c.push_register.new.registers.items
    c.cell_at-sized.ensures (ap (λ h. record { next = next_of c.cell_at-sized.result.cell; held = h })
    (sym (c.low_fill.ensures c.cell_at-sized.result c.cell_at-sized.ensures))) c.in_ok-push_register.ensures c.loop-n.invariant

pub returns : goal.returns
returns c =
    let past : length c.args.nl.now.cells ≤ c.loop-n.n = omega (arith, c.loop-n-test.false, c.len-n-end.ensures) in
    whole_list (register_for c.args.fill) is_register c.args.nl.now.cells c.loop-n.n c.loop-n.registers.items past c.loop-n.invariant
