use Rattle.std.proofs.Common.{arith}
use Rattle.ae_seq.specs.ProgramTree.{program_tree}
use Rattle.ae_seqtype.specs.SeqTree.{seq_tree}
use Rattle.ae_eval.specs.Stack.{types_in}
use Rattle.ae_eval.proofs.Items.{few-funcs}
use Rattle.ae_eval.proofs.Starting.{begun-first, begun-next, begun-all}
use Rattle.ae_eval.proofs.starts.func_starts.Goals as goal

pub loop-item-init : goal.loop-item-init
loop-item-init c =
    begun-first (types_in (program_tree c.args.p.now) c.args.func) c.new-found.result.items c.push.new.self.items c.new-found.ensures.items
    c.in_ok-push.ensures.items

pub item_type-requires-clause-small : goal.item_type-requires-clause-small
item_type-requires-clause-small c = let few = few-funcs (program_tree c.args.p.now) c.requires.typed in omega arith

pub loop-item-preserved : goal.loop-item-preserved
loop-item-preserved c =
    begun-next (types_in (program_tree c.args.p.now) c.args.func) c.loop-item.item c.loop-item.end c.words.result c.loop-item.found.items
    c.push-in-loop-item.new.self.items (seq_tree c.item_type.result.now)
    c.loop-item.invariant c.item_type.ensures.is c.item_type.ensures.sized c.words.ensures c.in_ok-push-2.ensures.items

pub returns : goal.returns
returns c =
    begun-all (types_in (program_tree c.args.p.now) c.args.func) c.loop-item.item c.loop-item.end c.loop-item.found.items c.loop-item.invariant
    (let e = c.count_items-item-end.ensures.count in omega arith)
