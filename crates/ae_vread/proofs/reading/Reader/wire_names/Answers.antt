use Rattle.std.proofs.Common.{◌-◌, [], sym, ap, ◌∙◌, map}
use Rattle.ae_vtoken.specs.Ahead.{ahead}
use Rattle.ae_vtoken.specs.declared.token.Sign.TheVariants.{Semicolon}
use Rattle.ae_vmodule.specs.ModuleTree.{nets}
use Rattle.ae_vmodule.specs.View.{item_tree, net_tree, drive_tree}
use Rattle.ae_vread.specs.TokenTests.{after_mark}
use Rattle.ae_vread.specs.ItemReading.{item_found}
use Rattle.ae_vread.proofs.ItemSteps.{names_are, added_rest}
use Rattle.ae_vread.proofs.reading.Reader.wire_names.Goals as goal

pub returns-clause-read : goal.returns-clause-read
returns-clause-read c =
    let e = c.in_ok-net_list.ensures.read in
    let end = c.in_ok-want_mark.ensures in (
      item_found e.0.0 (nets []) (ahead c.want_mark.new.self.tokens),
      names_are c.args.item c.args.high (ahead c.args.self.now.tokens) _ e.0 e.1 (ap (after_mark Semicolon) (sym e.2.rest) ∙ end.read),
      added_rest net_tree _ _ _ c.net_list.new.self c.want_mark.new.self e.0 e.2 end.words,
      λ ws g. ap (item_tree ws) c.nets.ensures ∙ ap (λ ds. nets (map (drive_tree ws) ds)) c.new.ensures.items,
    )
