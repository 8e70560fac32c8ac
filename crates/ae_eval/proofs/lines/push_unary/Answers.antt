use Rattle.std.proofs.Common.{arith}
use Rattle.std.proofs.lemmas.Result.{on_ok_weaker}
use Rattle.ae_seq.specs.ProgramTree.{node_tree, program_tree}
use Rattle.ae_seqtype.specs.SeqTree.{seq_tree}
use Rattle.ae_eval.proofs.Arms.{count-read, plain-node, read-one, read-there}
use Rattle.ae_eval.proofs.lines.push_unary.Goals as goal

pub place_of-a-requires-clause-there : goal.place_of-a-requires-clause-there
place_of-a-requires-clause-there c =
    let count = count-read (program_tree c.args.p.now) c.args.func c.args.index 1 (node_tree c.node-node.result.now) c.node-node.ensures c.requires.one in
    (read-there (program_tree c.args.p.now) c.args.func c.args.index
    (node_tree c.node-node.result.now) c.as_slice-args.result.now c.args.base c.args.stack.now.items c.requires.typed c.requires.known c.node-node.ensures
    c.as_slice-args.ensures.value c.requires.laid 0 (omega arith)).0

pub place_of-a-requires-clause-room : goal.place_of-a-requires-clause-room
place_of-a-requires-clause-room c =
    let count = count-read (program_tree c.args.p.now) c.args.func c.args.index 1 (node_tree c.node-node.result.now) c.node-node.ensures c.requires.one in
    let r = read-there (program_tree c.args.p.now) c.args.func c.args.index
    (node_tree c.node-node.result.now) c.as_slice-args.result.now c.args.base c.args.stack.now.items c.requires.typed c.requires.known c.node-node.ensures
    c.as_slice-args.ensures.value c.requires.laid 0 (omega arith) in
    omega (arith, r.1, c.args.stack.now.ok)

pub push_one-requires-clause-fits : goal.push_one-requires-clause-fits
push_one-requires-clause-fits c =
    (read-one (program_tree c.args.p.now) c.args.func c.args.index
    (node_tree c.node-node.result.now) c.as_slice-args.result.now c.args.base c.args.stack.now.items c.requires.typed c.requires.known c.node-node.ensures
    c.as_slice-args.ensures.value c.requires.laid c.place_of-a.result.start (seq_tree c.place_of-a.result.ty.now)
    (plain-node (program_tree c.args.p.now) c.args.func c.args.index (node_tree c.node-node.result.now) c.node-node.ensures c.requires.plain)
    (count-read (program_tree c.args.p.now) c.args.func c.args.index 1 (node_tree c.node-node.result.now) c.node-node.ensures c.requires.one)
    c.place_of-a.ensures.is c.place_of-a.ensures.start).fits

pub push_one-requires-clause-one : goal.push_one-requires-clause-one
push_one-requires-clause-one c =
    (read-one (program_tree c.args.p.now) c.args.func c.args.index
    (node_tree c.node-node.result.now) c.as_slice-args.result.now c.args.base c.args.stack.now.items c.requires.typed c.requires.known c.node-node.ensures
    c.as_slice-args.ensures.value c.requires.laid c.place_of-a.result.start (seq_tree c.place_of-a.result.ty.now)
    (plain-node (program_tree c.args.p.now) c.args.func c.args.index (node_tree c.node-node.result.now) c.node-node.ensures c.requires.plain)
    (count-read (program_tree c.args.p.now) c.args.func c.args.index 1 (node_tree c.node-node.result.now) c.node-node.ensures c.requires.one)
    c.place_of-a.ensures.is c.place_of-a.ensures.start).one

pub push_one-requires-clause-fine : goal.push_one-requires-clause-fine
push_one-requires-clause-fine c =
    (read-one (program_tree c.args.p.now) c.args.func c.args.index
    (node_tree c.node-node.result.now) c.as_slice-args.result.now c.args.base c.args.stack.now.items c.requires.typed c.requires.known c.node-node.ensures
    c.as_slice-args.ensures.value c.requires.laid c.place_of-a.result.start (seq_tree c.place_of-a.result.ty.now)
    (plain-node (program_tree c.args.p.now) c.args.func c.args.index (node_tree c.node-node.result.now) c.node-node.ensures c.requires.plain)
    (count-read (program_tree c.args.p.now) c.args.func c.args.index 1 (node_tree c.node-node.result.now) c.node-node.ensures c.requires.one)
    c.place_of-a.ensures.is c.place_of-a.ensures.start).fine

pub push_one-requires-clause-result : goal.push_one-requires-clause-result
push_one-requires-clause-result c =
    (read-one (program_tree c.args.p.now) c.args.func c.args.index
    (node_tree c.node-node.result.now) c.as_slice-args.result.now c.args.base c.args.stack.now.items c.requires.typed c.requires.known c.node-node.ensures
    c.as_slice-args.ensures.value c.requires.laid c.place_of-a.result.start (seq_tree c.place_of-a.result.ty.now)
    (plain-node (program_tree c.args.p.now) c.args.func c.args.index (node_tree c.node-node.result.now) c.node-node.ensures c.requires.plain)
    (count-read (program_tree c.args.p.now) c.args.func c.args.index 1 (node_tree c.node-node.result.now) c.node-node.ensures c.requires.one)
    c.place_of-a.ensures.is c.place_of-a.ensures.start).result

pub push_one-requires-clause-folding : goal.push_one-requires-clause-folding
push_one-requires-clause-folding c =
    (read-one (program_tree c.args.p.now) c.args.func c.args.index
    (node_tree c.node-node.result.now) c.as_slice-args.result.now c.args.base c.args.stack.now.items c.requires.typed c.requires.known c.node-node.ensures
    c.as_slice-args.ensures.value c.requires.laid c.place_of-a.result.start (seq_tree c.place_of-a.result.ty.now)
    (plain-node (program_tree c.args.p.now) c.args.func c.args.index (node_tree c.node-node.result.now) c.node-node.ensures c.requires.plain)
    (count-read (program_tree c.args.p.now) c.args.func c.args.index 1 (node_tree c.node-node.result.now) c.node-node.ensures c.requires.one)
    c.place_of-a.ensures.is c.place_of-a.ensures.start).folding

pub returns : goal.returns
returns c =
    on_ok_weaker c.push_one.result ((read-one (program_tree c.args.p.now) c.args.func c.args.index
    (node_tree c.node-node.result.now) c.as_slice-args.result.now c.args.base c.args.stack.now.items c.requires.typed c.requires.known c.node-node.ensures
    c.as_slice-args.ensures.value c.requires.laid c.place_of-a.result.start (seq_tree c.place_of-a.result.ty.now)
    (plain-node (program_tree c.args.p.now) c.args.func c.args.index (node_tree c.node-node.result.now) c.node-node.ensures c.requires.plain)
    (count-read (program_tree c.args.p.now) c.args.func c.args.index 1 (node_tree c.node-node.result.now) c.node-node.ensures c.requires.one)
    c.place_of-a.ensures.is c.place_of-a.ensures.start).pushed c.push_one.new.stack.items) c.push_one.ensures
