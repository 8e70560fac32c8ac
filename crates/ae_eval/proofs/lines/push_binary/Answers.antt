use Rattle.std.proofs.Common.{arith}
use Rattle.std.proofs.lemmas.Result.{on_ok_weaker}
use Rattle.ae_seq.specs.ProgramTree.{node_tree, program_tree}
use Rattle.ae_seqtype.specs.SeqTree.{seq_tree}
use Rattle.ae_eval.proofs.Arms.{count-read, plain-node, read-two, read-there}
use Rattle.ae_eval.proofs.lines.push_binary.Goals as goal

pub place_of-a-requires-clause-there : goal.place_of-a-requires-clause-there
place_of-a-requires-clause-there c =
    let count = count-read (program_tree c.args.p.now) c.args.func c.args.index 2 (node_tree c.node-node.result.now) c.node-node.ensures c.requires.two in
    (read-there (program_tree c.args.p.now) c.args.func c.args.index
    (node_tree c.node-node.result.now) c.as_slice-args.result.now c.args.base c.args.stack.now.items c.requires.typed c.requires.known c.node-node.ensures
    c.as_slice-args.ensures.value c.requires.laid 0 (omega arith)).0

pub place_of-a-requires-clause-room : goal.place_of-a-requires-clause-room
place_of-a-requires-clause-room c =
    let count = count-read (program_tree c.args.p.now) c.args.func c.args.index 2 (node_tree c.node-node.result.now) c.node-node.ensures c.requires.two in
    let r = read-there (program_tree c.args.p.now) c.args.func c.args.index
    (node_tree c.node-node.result.now) c.as_slice-args.result.now c.args.base c.args.stack.now.items c.requires.typed c.requires.known c.node-node.ensures
    c.as_slice-args.ensures.value c.requires.laid 0 (omega arith) in
    omega (arith, r.1, c.args.stack.now.ok)

pub place_of-b-requires-clause-there : goal.place_of-b-requires-clause-there
place_of-b-requires-clause-there c =
    let count = count-read (program_tree c.args.p.now) c.args.func c.args.index 2 (node_tree c.node-node.result.now) c.node-node.ensures c.requires.two in
    (read-there (program_tree c.args.p.now) c.args.func c.args.index
    (node_tree c.node-node.result.now) c.as_slice-args.result.now c.args.base c.args.stack.now.items c.requires.typed c.requires.known c.node-node.ensures
    c.as_slice-args.ensures.value c.requires.laid 1 (omega arith)).0

pub place_of-b-requires-clause-room : goal.place_of-b-requires-clause-room
place_of-b-requires-clause-room c =
    let count = count-read (program_tree c.args.p.now) c.args.func c.args.index 2 (node_tree c.node-node.result.now) c.node-node.ensures c.requires.two in
    let r = read-there (program_tree c.args.p.now) c.args.func c.args.index
    (node_tree c.node-node.result.now) c.as_slice-args.result.now c.args.base c.args.stack.now.items c.requires.typed c.requires.known c.node-node.ensures
    c.as_slice-args.ensures.value c.requires.laid 1 (omega arith) in
    omega (arith, r.1, c.args.stack.now.ok)

pub push_two-requires-clause-fits : goal.push_two-requires-clause-fits
push_two-requires-clause-fits c =
    (read-two (program_tree c.args.p.now) c.args.func c.args.index
    (node_tree c.node-node.result.now) c.as_slice-args.result.now c.args.base c.args.stack.now.items c.requires.typed c.requires.known c.node-node.ensures
    c.as_slice-args.ensures.value c.requires.laid c.place_of-a.result.start c.place_of-b.result.start (seq_tree c.place_of-a.result.ty.now)
    (seq_tree c.place_of-b.result.ty.now) (plain-node (program_tree c.args.p.now) c.args.func c.args.index
    (node_tree c.node-node.result.now) c.node-node.ensures c.requires.plain)
    (count-read (program_tree c.args.p.now) c.args.func c.args.index 2 (node_tree c.node-node.result.now) c.node-node.ensures c.requires.two)
    c.place_of-a.ensures.is c.place_of-a.ensures.start c.place_of-b.ensures.is c.place_of-b.ensures.start).fits

pub push_two-requires-clause-fits_too : goal.push_two-requires-clause-fits_too
push_two-requires-clause-fits_too c =
    (read-two (program_tree c.args.p.now) c.args.func c.args.index
    (node_tree c.node-node.result.now) c.as_slice-args.result.now c.args.base c.args.stack.now.items c.requires.typed c.requires.known c.node-node.ensures
    c.as_slice-args.ensures.value c.requires.laid c.place_of-a.result.start c.place_of-b.result.start (seq_tree c.place_of-a.result.ty.now)
    (seq_tree c.place_of-b.result.ty.now) (plain-node (program_tree c.args.p.now) c.args.func c.args.index
    (node_tree c.node-node.result.now) c.node-node.ensures c.requires.plain)
    (count-read (program_tree c.args.p.now) c.args.func c.args.index 2 (node_tree c.node-node.result.now) c.node-node.ensures c.requires.two)
    c.place_of-a.ensures.is c.place_of-a.ensures.start c.place_of-b.ensures.is c.place_of-b.ensures.start).fits_too

pub push_two-requires-clause-two : goal.push_two-requires-clause-two
push_two-requires-clause-two c =
    (read-two (program_tree c.args.p.now) c.args.func c.args.index
    (node_tree c.node-node.result.now) c.as_slice-args.result.now c.args.base c.args.stack.now.items c.requires.typed c.requires.known c.node-node.ensures
    c.as_slice-args.ensures.value c.requires.laid c.place_of-a.result.start c.place_of-b.result.start (seq_tree c.place_of-a.result.ty.now)
    (seq_tree c.place_of-b.result.ty.now) (plain-node (program_tree c.args.p.now) c.args.func c.args.index
    (node_tree c.node-node.result.now) c.node-node.ensures c.requires.plain)
    (count-read (program_tree c.args.p.now) c.args.func c.args.index 2 (node_tree c.node-node.result.now) c.node-node.ensures c.requires.two)
    c.place_of-a.ensures.is c.place_of-a.ensures.start c.place_of-b.ensures.is c.place_of-b.ensures.start).two

pub push_two-requires-clause-fine : goal.push_two-requires-clause-fine
push_two-requires-clause-fine c =
    (read-two (program_tree c.args.p.now) c.args.func c.args.index
    (node_tree c.node-node.result.now) c.as_slice-args.result.now c.args.base c.args.stack.now.items c.requires.typed c.requires.known c.node-node.ensures
    c.as_slice-args.ensures.value c.requires.laid c.place_of-a.result.start c.place_of-b.result.start (seq_tree c.place_of-a.result.ty.now)
    (seq_tree c.place_of-b.result.ty.now) (plain-node (program_tree c.args.p.now) c.args.func c.args.index
    (node_tree c.node-node.result.now) c.node-node.ensures c.requires.plain)
    (count-read (program_tree c.args.p.now) c.args.func c.args.index 2 (node_tree c.node-node.result.now) c.node-node.ensures c.requires.two)
    c.place_of-a.ensures.is c.place_of-a.ensures.start c.place_of-b.ensures.is c.place_of-b.ensures.start).fine

pub returns : goal.returns
returns c =
    on_ok_weaker c.push_two.result ((read-two (program_tree c.args.p.now) c.args.func c.args.index
    (node_tree c.node-node.result.now) c.as_slice-args.result.now c.args.base c.args.stack.now.items c.requires.typed c.requires.known c.node-node.ensures
    c.as_slice-args.ensures.value c.requires.laid c.place_of-a.result.start c.place_of-b.result.start (seq_tree c.place_of-a.result.ty.now)
    (seq_tree c.place_of-b.result.ty.now) (plain-node (program_tree c.args.p.now) c.args.func c.args.index
    (node_tree c.node-node.result.now) c.node-node.ensures c.requires.plain)
    (count-read (program_tree c.args.p.now) c.args.func c.args.index 2 (node_tree c.node-node.result.now) c.node-node.ensures c.requires.two)
    c.place_of-a.ensures.is c.place_of-a.ensures.start c.place_of-b.ensures.is c.place_of-b.ensures.start).pushed c.push_two.new.stack.items)
    c.push_two.ensures
