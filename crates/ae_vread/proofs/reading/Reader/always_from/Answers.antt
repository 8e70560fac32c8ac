use Rattle.std.proofs.Common.{◌-◌, [], ap, ◌∙◌}
use Rattle.ae_vtoken.specs.Ahead.{ahead}
use Rattle.ae_vmodule.specs.ModuleTree.{always}
use Rattle.ae_vmodule.specs.View.{item_tree, net_tree, stmt_tree}
use Rattle.ae_vread.specs.ItemReading.{item_found}
use Rattle.ae_vread.proofs.Meanings.{extends_by, named_kept}
use Rattle.ae_vread.proofs.ItemSteps.{always_is, added_none}
use Rattle.ae_vread.proofs.reading.Reader.always_from.Goals as goal

pub returns-clause-read : goal.returns-clause-read
returns-clause-read c others =
    let clock = c.in_ok-clock.ensures.read in
    let x = c.in_ok-whole_statement.ensures.read in
    let body = c.in_ok-body.ensures.code x.2.top _ x.2.pieces in (
      item_found [] (always clock.0 x.0.tree) x.0.rest,
      always_is (ahead c.args.self.now.tokens) _ clock.0 x.0 clock.1 x.1,
      added_none net_tree others _ _ x.0.rest (extends_by _ _ _ c.in_ok-clock.ensures.words x.3) x.2.rest,
      λ ws g. ap (item_tree ws) c.always.ensures ∙ λ i. always (named_kept _ ws c.in_ok-clock.clock clock.0 clock.2 (extends_by _ _ _ x.3 g) i)
          ((ap (stmt_tree ws) body ∙ x.2.means ws g) i),
    )
