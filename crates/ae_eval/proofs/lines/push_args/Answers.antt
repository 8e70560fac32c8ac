use Rattle.std.proofs.Common.{◌≡◌, ◌∙◌, arith, ap, sym, subst, List, ℕ}
use Rattle.std.proofs.lemmas.List.{take_all}
use Rattle.ae_seq.specs.ProgramTree.{node_tree, program_tree}
use Rattle.ae_seqtype.specs.SeqTree.{seq_tree}
use Rattle.ae_eval.specs.Stack.{types_in}
use Rattle.ae_eval.specs.Lines.{Passed, args_for, args_of, item_of, values_at}
use Rattle.ae_eval.proofs.Placing.{arg-there, arg-room, passing-arg, passing-none}
use Rattle.ae_eval.proofs.lines.push_args.Goals as goal

pub loop-arg-init : goal.loop-arg-init
loop-arg-init c = passing-none (types_in (program_tree c.args.p.now) c.args.func) _ c.args.stack.now.items

pub place_of-place-requires-clause-there : goal.place_of-place-requires-clause-there
place_of-place-requires-clause-there c =
    rw (c.deref-arg-items.ensures.value) (arg-there (program_tree c.args.p.now) c.args.func c.args.index c.args.base c.loop-arg.arg-index
    c.args.stack.now.items (node_tree c.node-node.result.now) c.requires.typed c.requires.known c.node-node.ensures c.requires.laid
    (rw c.deref-arg-items.ensures.value at c.loop-arg-test.true)).0

pub place_of-place-requires-clause-room : goal.place_of-place-requires-clause-room
place_of-place-requires-clause-room c =
    rw (c.deref-arg-items.ensures.value)
    (let r = arg-there (program_tree c.args.p.now) c.args.func c.args.index c.args.base c.loop-arg.arg-index c.args.stack.now.items
    (node_tree c.node-node.result.now) c.requires.typed c.requires.known c.node-node.ensures c.requires.laid
    (rw c.deref-arg-items.ensures.value at c.loop-arg-test.true) in
    omega (arith, r.1, c.args.stack.now.ok))

pub push_copy-requires : goal.push_copy-requires
push_copy-requires c =
    arg-room (program_tree c.args.p.now) c.args.func c.args.index c.args.base c.loop-arg.arg-index c.place_of-place.result.start c.words.result
    c.deref-arg-items.result.now c.args.stack.now.items c.loop-arg.stack.items (node_tree c.node-node.result.now) (seq_tree c.place_of-place.result.ty.now)
    c.requires.typed c.requires.known c.node-node.ensures c.deref-arg-items.ensures.value c.requires.laid c.loop-arg-test.true c.place_of-place.ensures.is
    c.place_of-place.ensures.start c.words.ensures c.loop-arg.invariant.above

pub loop-arg-preserved : goal.loop-arg-preserved
loop-arg-preserved c =
    passing-arg (program_tree c.args.p.now) c.args.func c.args.index c.args.base c.loop-arg.arg-index c.place_of-place.result.start c.words.result
    c.deref-arg-items.result.now c.args.stack.now.items c.loop-arg.stack.items c.push_copy.new.stack.items (node_tree c.node-node.result.now)
    (seq_tree c.place_of-place.result.ty.now)
    c.requires.typed c.requires.known c.node-node.ensures c.deref-arg-items.ensures.value c.requires.laid c.loop-arg-test.true c.place_of-place.ensures.is
    c.place_of-place.ensures.start c.words.ensures c.in_ok-push_copy.ensures c.loop-arg.invariant

pub returns : goal.returns
returns c =
    let args : args_of (program_tree c.args.p.now) c.args.func c.args.index ≡ c.deref-arg-items.result.now = ap args_for c.node-node.ensures ∙
    sym c.deref-arg-items.ensures.value in
    let whole = take_all c.loop-arg.arg-index c.deref-arg-items.result.now (omega arith) in
    let P : List ℕ → Type 0 = λ xs. Passed (types_in (program_tree c.args.p.now) c.args.func)
    (values_at (program_tree c.args.p.now) c.args.func (item_of (program_tree c.args.p.now) c.args.func c.args.index) c.args.base c.args.stack.now.items)
    xs c.args.stack.now.items c.loop-arg.stack.items in
    subst P (whole ∙ sym args) c.loop-arg.invariant.passed
