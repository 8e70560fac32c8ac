use Rattle.std.proofs.Common.{◌-◌, sym, true, false, append-nil}
use Rattle.ae_vmodule.specs.ModuleTree.{nets}
use Rattle.ae_vread.specs.ItemReading.{drive_nets}
use Rattle.ae_vread.proofs.ItemSteps.{one_declared, all_declared}
use Rattle.ae_vread.proofs.items.drive_nets.Goals as goal

pub each-init : goal.each-init
each-init c = sym (append-nil c.args.nets.now.items)

pub each-preserved : goal.each-preserved
each-preserved c =
    one_declared c.args.high c.args.item c.args.drives.now c.each.drive-index c.drive-item.result c.args.nets.now.items c.each.nets.items _ c.net.result
    c.each-test.true c.drive-item.is c.net.ensures c.in_ok-push.ensures.items c.each.invariant

pub returns : goal.returns
returns c = all_declared c.args.high c.args.item c.args.drives.now c.each.drive-index c.args.nets.now.items c.each.nets.items c.each-test.false c.each.invariant
