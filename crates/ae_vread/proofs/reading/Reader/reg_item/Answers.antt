use Rattle.std.proofs.Common.{◌-◌, [], sym, ap, ◌∙◌, map}
use Rattle.ae_vtoken.specs.Ahead.{ahead}
use Rattle.ae_vtoken.specs.declared.token.Sign.TheVariants.{Semicolon}
use Rattle.ae_vmodule.specs.ModuleTree.{nets}
use Rattle.ae_vmodule.specs.View.{item_tree, net_tree, drive_tree}
use Rattle.ae_vread.specs.TokenTests.{after_mark}
use Rattle.ae_vread.specs.ItemReading.{item_found}
use Rattle.ae_vread.proofs.Meanings.{no_more, extends_to}
use Rattle.ae_vread.proofs.ItemSteps.{reg_item_is, added_rest, added_from}
use Rattle.ae_vread.proofs.reading.Reader.reg_item.Goals as goal

pub returns-clause-read : goal.returns-clause-read
returns-clause-read c =
    let high = c.in_ok-high.ensures in
    let e = c.in_ok-reg_list.ensures.read in
    let end = c.in_ok-want_mark.ensures in (
      item_found e.0.0 (nets []) (ahead c.want_mark.new.self.tokens),
      reg_item_is c.args.item (ahead c.args.self.now.tokens) _ _ c.in_ok-high.high e.0 high.read e.1 (ap (after_mark Semicolon) (sym e.2.rest) ∙ end.read),
      added_from net_tree _ _ _ _ _ _ (added_rest net_tree _ _ _ c.reg_list.new.self c.want_mark.new.self e.0 e.2 end.words)
          (extends_to _ _ _ (no_more _) high.words),
      λ ws g. ap (item_tree ws) c.nets.ensures ∙ ap (λ ds. nets (map (drive_tree ws) ds)) c.new.ensures.items,
    )
