use Rattle.std.proofs.Common.{◌-◌, sym, ap, ◌∙◌}
use Rattle.ae_vtoken.specs.Ahead.{ahead}
use Rattle.ae_vtoken.specs.declared.token.Sign.TheVariants.{Semicolon}
use Rattle.ae_vmodule.specs.ModuleTree.{nets}
use Rattle.ae_vmodule.specs.View.{item_tree, drive_tree}
use Rattle.ae_vread.specs.TokenTests.{after_mark}
use Rattle.ae_vread.specs.ItemReading.{item_found, drive_nets}
use Rattle.ae_vread.proofs.Meanings.{extends_same}
use Rattle.ae_vread.proofs.ItemSteps.{drives_are, all_mean, drives_declared}
use Rattle.ae_vread.proofs.reading.Reader.wire_drives.Goals as goal

pub returns-clause-read : goal.returns-clause-read
returns-clause-read c =
    let e = c.in_ok-drive_list.ensures.read in
    let end = c.in_ok-want_mark.ensures in
    let mean = all_mean drive_tree _ _ _ c.drive_list.new.self e.0 e.2 c.in_ok-drives.ensures.items in (
      item_found (drive_nets c.args.high c.args.item e.0.0) (nets e.0.0) (ahead c.want_mark.new.self.tokens),
      drives_are c.args.item c.args.high (ahead c.args.self.now.tokens) _ e.0 e.1 (ap (after_mark Semicolon) (sym e.2.rest) ∙ end.read),
      drives_declared c.args.high c.args.item _ _ c.drive_list.new.drives.items _ _ c.drive_list.new.self c.want_mark.new.self e.0 c.in_ok-drive_nets.ensures
          c.deref.ensures.value mean e.2.extends end.words,
      λ ws g. ap (item_tree ws) c.nets.ensures ∙ ap nets (mean ws (extends_same _ _ ws g (sym end.words))),
    )
