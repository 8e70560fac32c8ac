use Rattle.ae_rewrite.proofs.Budgets.{with-set}
use Rattle.ae_rewrite.proofs.reach.add_call.Goals as goal

pub returns : goal.returns
returns c =
    with-set c.args.needs.now.items c.args.call.func c.args.call.budget c.index_mut.result.now _ c.requires.there c.index_mut.ensures.value c.in_ok-add.ensures
