use Rattle.std.proofs.Common.{◌≡◌, ◌∙◌, ◌++◌, arith, ap, length}
use Rattle.std.proofs.lemmas.Result.{on_ok_weaker}
use Rattle.ae_seqtype.specs.SeqTree.{seq_tree}
use Rattle.ae_seq.specs.ProgramTree.{node_tree, op_tree, program_tree}
use Rattle.ae_eval.specs.Lines.{item_of, values_at}
use Rattle.ae_eval.proofs.Arms.{constant-pushed, ternary-left}
use Rattle.ae_eval.proofs.lines.push_plain.Goals as goal

pub push_ternary-requires-clause-three : goal.push_ternary-requires-clause-three
push_ternary-requires-clause-three c =
    let count : c.len.result ≡ length c.node-node.result.now.args.items = omega (arith, c.len.ensures, c.node-node.result.now.args.ok) in
    ternary-left (program_tree c.args.p.now) c.args.func c.args.index c.node-node.result.now c.len.result c.requires.typed c.requires.known c.node-node.ensures
    c.requires.plain count c.in_default.not-Const
    (λ e. omega (arith, e)) (λ e. omega (arith, e))

pub returns : goal.returns
returns c =
    let p = program_tree c.args.p.now in
    on_ok_weaker c.push_words.result
    (λ e. constant-pushed p c.args.func c.args.index (node_tree c.node-node.result.now) (seq_tree c.in-Const.field-0) c.in-Const.words.items
    (values_at p c.args.func (item_of p c.args.func c.args.index) c.args.base c.args.stack.now.items) c.args.stack.now.items c.push_words.new.stack.items
    c.requires.typed c.requires.known c.node-node.ensures (ap op_tree c.in-Const.is) (e ∙ ap (λ ys. c.args.stack.now.items ++ ys) c.deref.ensures.value))
    c.push_words.ensures
