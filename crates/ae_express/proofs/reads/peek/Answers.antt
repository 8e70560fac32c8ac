use Rattle.std.proofs.Common.{refl}
use Rattle.ae_netlist.specs.declared.cell.Cell.TheVariants.{Peek}
use Rattle.ae_gates.proofs.Words.{adds_push, pushed_net}
use Rattle.ae_express.proofs.NetLaws.{peek_word, peek_allowed}
use Rattle.ae_express.proofs.reads.peek.Goals as goal

pub push-requires-clause-allowed : goal.push-requires-clause-allowed
push-requires-clause-allowed c = peek_allowed _ _ _ _ _ c.requires.memory c.requires.address

pub returns-clause-adds : goal.returns-clause-adds
returns-clause-adds c = adds_push _ _ _ refl refl refl c.in_ok-y.ensures.added

pub returns-clause-net : goal.returns-clause-net
returns-clause-net c = pushed_net _ _ _ _ (Peek c.args.memory c.args.at) tt c.in_ok-y.ensures.ok c.in_ok-y.ensures.added

pub returns-clause-word : goal.returns-clause-word
returns-clause-word c = peek_word _ _ _ _ c.args.memory c.args.at _ _ c.args._depth c.requires.from c.in_ok-y.ensures.ok c.in_ok-y.ensures.added
