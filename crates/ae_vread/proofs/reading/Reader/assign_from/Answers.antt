use Rattle.std.proofs.Common.{◌-◌, [], refl, sym, ap, ◌∙◌}
use Rattle.ae_vtoken.specs.Ahead.{ahead}
use Rattle.ae_vtoken.specs.declared.token.Sign.TheVariants.{Semicolon}
use Rattle.ae_vmodule.specs.ModuleTree.{assigns}
use Rattle.ae_vmodule.specs.View.{item_tree, net_tree, drive_tree}
use Rattle.ae_vread.specs.TokenTests.{after_mark}
use Rattle.ae_vread.specs.ItemReading.{item_found}
use Rattle.ae_vread.proofs.Meanings.{extends_same, extends_to}
use Rattle.ae_vread.proofs.ItemSteps.{assign_is, added_none, all_mean}
use Rattle.ae_vread.proofs.reading.Reader.assign_from.Goals as goal

pub returns-clause-read : goal.returns-clause-read
returns-clause-read c others =
    let e = c.in_ok-drive_list.ensures.read in
    let end = c.in_ok-want_mark.ensures in (
      item_found [] (assigns e.0.0) (ahead c.want_mark.new.self.tokens),
      assign_is (ahead c.args.self.now.tokens) _ e.0 e.1 (ap (after_mark Semicolon) (sym e.2.rest) ∙ end.read),
      added_none net_tree others _ c.want_mark.new.self _ (extends_to _ _ _ e.2.extends end.words) refl,
      λ ws g. ap (item_tree ws) c.assigns.ensures ∙ ap assigns
          (all_mean drive_tree _ _ _ c.drive_list.new.self e.0 e.2 c.in_ok-drives.ensures.items ws (extends_same _ _ ws g (sym end.words))),
    )
