use Rattle.std.proofs.Common.{arith, ap, subst}
use Rattle.std.proofs.lemmas.Result.{on_ok_weaker}
use Rattle.ae_seq.specs.ProgramTree.{OpTree, node_tree, op_tree, program_tree}
use Rattle.ae_seqtype.specs.SeqTree.{seq_tree}
use Rattle.ae_eval.proofs.Arms.{count-read, plain-node, read-three, read-there, never-other, ThreeArgs}
use Rattle.ae_eval.proofs.lines.push_ternary.Goals as goal

pub place_of-a-requires-clause-there : goal.place_of-a-requires-clause-there
place_of-a-requires-clause-there c =
    let count = count-read (program_tree c.args.p.now) c.args.func c.args.index 3 (node_tree c.node-node.result.now) c.node-node.ensures c.requires.three in
    (read-there (program_tree c.args.p.now) c.args.func c.args.index
    (node_tree c.node-node.result.now) c.as_slice-args.result.now c.args.base c.args.stack.now.items c.requires.typed c.requires.known c.node-node.ensures
    c.as_slice-args.ensures.value c.requires.laid 0 (omega arith)).0

pub place_of-a-requires-clause-room : goal.place_of-a-requires-clause-room
place_of-a-requires-clause-room c =
    let count = count-read (program_tree c.args.p.now) c.args.func c.args.index 3 (node_tree c.node-node.result.now) c.node-node.ensures c.requires.three in
    let r = read-there (program_tree c.args.p.now) c.args.func c.args.index
    (node_tree c.node-node.result.now) c.as_slice-args.result.now c.args.base c.args.stack.now.items c.requires.typed c.requires.known c.node-node.ensures
    c.as_slice-args.ensures.value c.requires.laid 0 (omega arith) in
    omega (arith, r.1, c.args.stack.now.ok)

pub place_of-b-requires-clause-there : goal.place_of-b-requires-clause-there
place_of-b-requires-clause-there c =
    let count = count-read (program_tree c.args.p.now) c.args.func c.args.index 3 (node_tree c.node-node.result.now) c.node-node.ensures c.requires.three in
    (read-there (program_tree c.args.p.now) c.args.func c.args.index
    (node_tree c.node-node.result.now) c.as_slice-args.result.now c.args.base c.args.stack.now.items c.requires.typed c.requires.known c.node-node.ensures
    c.as_slice-args.ensures.value c.requires.laid 1 (omega arith)).0

pub place_of-b-requires-clause-room : goal.place_of-b-requires-clause-room
place_of-b-requires-clause-room c =
    let count = count-read (program_tree c.args.p.now) c.args.func c.args.index 3 (node_tree c.node-node.result.now) c.node-node.ensures c.requires.three in
    let r = read-there (program_tree c.args.p.now) c.args.func c.args.index
    (node_tree c.node-node.result.now) c.as_slice-args.result.now c.args.base c.args.stack.now.items c.requires.typed c.requires.known c.node-node.ensures
    c.as_slice-args.ensures.value c.requires.laid 1 (omega arith) in
    omega (arith, r.1, c.args.stack.now.ok)

pub place_of-c-requires-clause-there : goal.place_of-c-requires-clause-there
place_of-c-requires-clause-there c =
    let count = count-read (program_tree c.args.p.now) c.args.func c.args.index 3 (node_tree c.node-node.result.now) c.node-node.ensures c.requires.three in
    (read-there (program_tree c.args.p.now) c.args.func c.args.index
    (node_tree c.node-node.result.now) c.as_slice-args.result.now c.args.base c.args.stack.now.items c.requires.typed c.requires.known c.node-node.ensures
    c.as_slice-args.ensures.value c.requires.laid 2 (omega arith)).0

pub place_of-c-requires-clause-room : goal.place_of-c-requires-clause-room
place_of-c-requires-clause-room c =
    let count = count-read (program_tree c.args.p.now) c.args.func c.args.index 3 (node_tree c.node-node.result.now) c.node-node.ensures c.requires.three in
    let r = read-there (program_tree c.args.p.now) c.args.func c.args.index
    (node_tree c.node-node.result.now) c.as_slice-args.result.now c.args.base c.args.stack.now.items c.requires.typed c.requires.known c.node-node.ensures
    c.as_slice-args.ensures.value c.requires.laid 2 (omega arith) in
    omega (arith, r.1, c.args.stack.now.ok)

pub push_chosen-requires-clause-test_fits : goal.push_chosen-requires-clause-test_fits
push_chosen-requires-clause-test_fits c =
    let r = read-three (program_tree c.args.p.now) c.args.func c.args.index
    (node_tree c.node-node.result.now) c.as_slice-args.result.now c.args.base c.args.stack.now.items c.requires.typed c.requires.known c.node-node.ensures
    c.as_slice-args.ensures.value c.requires.laid c.place_of-a.result.start c.place_of-b.result.start c.place_of-c.result.start
    (seq_tree c.place_of-a.result.ty.now) (seq_tree c.place_of-b.result.ty.now) (seq_tree c.place_of-c.result.ty.now)
    (plain-node (program_tree c.args.p.now) c.args.func c.args.index (node_tree c.node-node.result.now) c.node-node.ensures c.requires.plain)
    (count-read (program_tree c.args.p.now) c.args.func c.args.index 3 (node_tree c.node-node.result.now) c.node-node.ensures c.requires.three)
    c.place_of-a.ensures.is c.place_of-a.ensures.start c.place_of-b.ensures.is c.place_of-b.ensures.start c.place_of-c.ensures.is
    c.place_of-c.ensures.start in
    let e = ap op_tree c.in-Word.is in
    let P = λ (o : OpTree). ThreeArgs (program_tree c.args.p.now) c.args.func c.args.index o c.args.base c.place_of-a.result.start c.place_of-b.result.start
    c.place_of-c.result.start c.args.stack.now.items (seq_tree c.place_of-a.result.ty.now) (seq_tree c.place_of-b.result.ty.now)
    (seq_tree c.place_of-c.result.ty.now) in
    let q = subst P e r in
    q.test_fits

pub push_chosen-requires-clause-first_fits : goal.push_chosen-requires-clause-first_fits
push_chosen-requires-clause-first_fits c =
    let r = read-three (program_tree c.args.p.now) c.args.func c.args.index
    (node_tree c.node-node.result.now) c.as_slice-args.result.now c.args.base c.args.stack.now.items c.requires.typed c.requires.known c.node-node.ensures
    c.as_slice-args.ensures.value c.requires.laid c.place_of-a.result.start c.place_of-b.result.start c.place_of-c.result.start
    (seq_tree c.place_of-a.result.ty.now) (seq_tree c.place_of-b.result.ty.now) (seq_tree c.place_of-c.result.ty.now)
    (plain-node (program_tree c.args.p.now) c.args.func c.args.index (node_tree c.node-node.result.now) c.node-node.ensures c.requires.plain)
    (count-read (program_tree c.args.p.now) c.args.func c.args.index 3 (node_tree c.node-node.result.now) c.node-node.ensures c.requires.three)
    c.place_of-a.ensures.is c.place_of-a.ensures.start c.place_of-b.ensures.is c.place_of-b.ensures.start c.place_of-c.ensures.is
    c.place_of-c.ensures.start in
    let e = ap op_tree c.in-Word.is in
    let P = λ (o : OpTree). ThreeArgs (program_tree c.args.p.now) c.args.func c.args.index o c.args.base c.place_of-a.result.start c.place_of-b.result.start
    c.place_of-c.result.start c.args.stack.now.items (seq_tree c.place_of-a.result.ty.now) (seq_tree c.place_of-b.result.ty.now)
    (seq_tree c.place_of-c.result.ty.now) in
    let q = subst P e r in
    q.first_fits

pub push_chosen-requires-clause-second_fits : goal.push_chosen-requires-clause-second_fits
push_chosen-requires-clause-second_fits c =
    let r = read-three (program_tree c.args.p.now) c.args.func c.args.index
    (node_tree c.node-node.result.now) c.as_slice-args.result.now c.args.base c.args.stack.now.items c.requires.typed c.requires.known c.node-node.ensures
    c.as_slice-args.ensures.value c.requires.laid c.place_of-a.result.start c.place_of-b.result.start c.place_of-c.result.start
    (seq_tree c.place_of-a.result.ty.now) (seq_tree c.place_of-b.result.ty.now) (seq_tree c.place_of-c.result.ty.now)
    (plain-node (program_tree c.args.p.now) c.args.func c.args.index (node_tree c.node-node.result.now) c.node-node.ensures c.requires.plain)
    (count-read (program_tree c.args.p.now) c.args.func c.args.index 3 (node_tree c.node-node.result.now) c.node-node.ensures c.requires.three)
    c.place_of-a.ensures.is c.place_of-a.ensures.start c.place_of-b.ensures.is c.place_of-b.ensures.start c.place_of-c.ensures.is
    c.place_of-c.ensures.start in
    let e = ap op_tree c.in-Word.is in
    let P = λ (o : OpTree). ThreeArgs (program_tree c.args.p.now) c.args.func c.args.index o c.args.base c.place_of-a.result.start c.place_of-b.result.start
    c.place_of-c.result.start c.args.stack.now.items (seq_tree c.place_of-a.result.ty.now) (seq_tree c.place_of-b.result.ty.now)
    (seq_tree c.place_of-c.result.ty.now) in
    let q = subst P e r in
    q.second_fits

pub push_chosen-requires-clause-typed : goal.push_chosen-requires-clause-typed
push_chosen-requires-clause-typed c =
    let r = read-three (program_tree c.args.p.now) c.args.func c.args.index
    (node_tree c.node-node.result.now) c.as_slice-args.result.now c.args.base c.args.stack.now.items c.requires.typed c.requires.known c.node-node.ensures
    c.as_slice-args.ensures.value c.requires.laid c.place_of-a.result.start c.place_of-b.result.start c.place_of-c.result.start
    (seq_tree c.place_of-a.result.ty.now) (seq_tree c.place_of-b.result.ty.now) (seq_tree c.place_of-c.result.ty.now)
    (plain-node (program_tree c.args.p.now) c.args.func c.args.index (node_tree c.node-node.result.now) c.node-node.ensures c.requires.plain)
    (count-read (program_tree c.args.p.now) c.args.func c.args.index 3 (node_tree c.node-node.result.now) c.node-node.ensures c.requires.three)
    c.place_of-a.ensures.is c.place_of-a.ensures.start c.place_of-b.ensures.is c.place_of-b.ensures.start c.place_of-c.ensures.is
    c.place_of-c.ensures.start in
    let e = ap op_tree c.in-Word.is in
    let P = λ (o : OpTree). ThreeArgs (program_tree c.args.p.now) c.args.func c.args.index o c.args.base c.place_of-a.result.start c.place_of-b.result.start
    c.place_of-c.result.start c.args.stack.now.items (seq_tree c.place_of-a.result.ty.now) (seq_tree c.place_of-b.result.ty.now)
    (seq_tree c.place_of-c.result.ty.now) in
    let q = subst P e r in
    q.fine

pub returns : goal.returns
returns c =
    let r = read-three (program_tree c.args.p.now) c.args.func c.args.index
    (node_tree c.node-node.result.now) c.as_slice-args.result.now c.args.base c.args.stack.now.items c.requires.typed c.requires.known c.node-node.ensures
    c.as_slice-args.ensures.value c.requires.laid c.place_of-a.result.start c.place_of-b.result.start c.place_of-c.result.start
    (seq_tree c.place_of-a.result.ty.now) (seq_tree c.place_of-b.result.ty.now) (seq_tree c.place_of-c.result.ty.now)
    (plain-node (program_tree c.args.p.now) c.args.func c.args.index (node_tree c.node-node.result.now) c.node-node.ensures c.requires.plain)
    (count-read (program_tree c.args.p.now) c.args.func c.args.index 3 (node_tree c.node-node.result.now) c.node-node.ensures c.requires.three)
    c.place_of-a.ensures.is c.place_of-a.ensures.start c.place_of-b.ensures.is c.place_of-b.ensures.start c.place_of-c.ensures.is
    c.place_of-c.ensures.start in
    let e = ap op_tree c.in-Word.is in
    let P = λ (o : OpTree). ThreeArgs (program_tree c.args.p.now) c.args.func c.args.index o c.args.base c.place_of-a.result.start c.place_of-b.result.start
    c.place_of-c.result.start c.args.stack.now.items (seq_tree c.place_of-a.result.ty.now) (seq_tree c.place_of-b.result.ty.now)
    (seq_tree c.place_of-c.result.ty.now) in
    let q = subst P e r in
    on_ok_weaker c.push_chosen.result (q.pushed c.push_chosen.new.stack.items) c.push_chosen.ensures

pub unreachable-requires : goal.unreachable-requires
unreachable-requires c =
    never-other (program_tree c.args.p.now) c.args.func c.args.index c.node-node.result.now c.requires.typed c.requires.known c.node-node.ensures
    c.requires.plain c.requires.three c.in_default.not-Word
