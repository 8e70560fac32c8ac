use Rattle.ae_eval.proofs.Windows.{copies-step}
use Rattle.ae_eval.proofs.stack.push_copies.Goals as goal

pub loop-turn-preserved : goal.loop-turn-preserved
loop-turn-preserved c =
    copies-step c.args.stack.now.items c.loop-turn.stack.items c.push_copy.new.stack.items c.args.start c.args.count c.loop-turn._turn c.requires
    c.loop-turn.invariant c.in_ok-push_copy.ensures
