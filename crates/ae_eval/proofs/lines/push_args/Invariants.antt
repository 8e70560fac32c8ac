use Rattle.std.proofs.Common.{take}
use Rattle.ae_seq.specs.ProgramTree.{program_tree}
use Rattle.ae_eval.specs.Stack.{types_in}
use Rattle.ae_eval.specs.Lines.{item_of, values_at}
use Rattle.ae_eval.proofs.Placing.{Passing}
use Rattle.ae_eval.proofs.lines.push_args.Given as goal

abbrev pub invariant-loop-arg : goal.invariant-loop-arg
invariant-loop-arg l =
    let p = program_tree l.p in
    Passing (types_in p l.func) (values_at p l.func (item_of p l.func l.index) l.base l.fn.stack.items)
    (take l.arg-index l.arg-items) l.fn.stack.items l.stack.items
