use Rattle.std.proofs.Common.{arith}
use Rattle.ae_seq.specs.ProgramTree.{program_tree}
use Rattle.ae_seqtype.specs.SeqTree.{seq_tree}
use Rattle.ae_eval.specs.Stack.{types_in}
use Rattle.ae_eval.proofs.Items.{entry-at}
use Rattle.ae_eval.proofs.Placing.{kept-result, placed-in, result-room}
use Rattle.ae_eval.proofs.lines.keep_result.Goals as goal

pub place_of-result-requires-clause-room : goal.place_of-result-requires-clause-room
place_of-result-requires-clause-room c =
    let there = entry-at (types_in (program_tree c.args.p.now) c.args.func) c.first_result-item.result c.first_result-item.ensures.there in
    let q = placed-in (types_in (program_tree c.args.p.now) c.args.func) c.args.base c.first_result-item.result c.args.stack.now.items there.0 c.requires.base
    c.requires.fits there.1 in
    omega (arith, q.room, c.args.stack.now.ok)

pub settle-requires-clause-down : goal.settle-requires-clause-down
settle-requires-clause-down c =
    (result-room (program_tree c.args.p.now) c.args.func c.args.base c.first_result-item.result c.place_of-result.result.start c.words.result
    c.args.stack.now.items (seq_tree c.place_of-result.result.ty.now)
    c.requires.base c.requires.fits c.place_of-result.ensures.is c.place_of-result.ensures.start c.words.ensures).0

pub settle-requires-clause-room : goal.settle-requires-clause-room
settle-requires-clause-room c =
    (result-room (program_tree c.args.p.now) c.args.func c.args.base c.first_result-item.result c.place_of-result.result.start c.words.result
    c.args.stack.now.items (seq_tree c.place_of-result.result.ty.now)
    c.requires.base c.requires.fits c.place_of-result.ensures.is c.place_of-result.ensures.start c.words.ensures).1

pub returns : goal.returns
returns c =
    kept-result (program_tree c.args.p.now) c.args.func c.args.base c.first_result-item.result c.place_of-result.result.start c.words.result
    c.args.stack.now.items c.settle.new.stack.items (seq_tree c.place_of-result.result.ty.now)
    c.requires.base c.requires.fits c.first_result-item.ensures.is c.place_of-result.ensures.is c.place_of-result.ensures.start c.words.ensures c.settle.ensures
