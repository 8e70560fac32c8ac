use Rattle.std.proofs.Common.{◌+◌, ap, arith}
use Rattle.ae_seq.specs.ProgramTree.{program_tree}
use Rattle.ae_eval.specs.Stack.{starts_from, types_in}
use Rattle.ae_eval.proofs.Items.{few-funcs}
use Rattle.ae_eval.proofs.Starting.{starts-within, starts-own, start-inside, start-read}
use Rattle.ae_eval.proofs.starts.place_of.Goals as goal

pub item_type-ty-requires-clause-small : goal.item_type-ty-requires-clause-small
item_type-ty-requires-clause-small c = let few = few-funcs (program_tree c.args.p.now) c.requires.typed in omega arith

pub offset_bounds-starts-func : goal.offset_bounds-starts-func
offset_bounds-starts-func c = let few = few-funcs (program_tree c.args.p.now) c.requires.typed in omega arith

pub bounds-starts-func : goal.bounds-starts-func
bounds-starts-func c = starts-within c.args.starts.now c.args.func _ (c.requires.starts c.args.func c.requires.known)

pub index-requires : goal.index-requires
index-requires c =
    let ts = types_in (program_tree c.args.p.now) c.args.func in
    let own = starts-own c.args.starts.now c.args.func c.index-starts-func.result (starts_from 0 ts)
    (c.requires.starts c.args.func c.requires.known) c.index-starts-func.is in
    omega (arith, start-inside ts c.index-starts-func.result.items c.args.item own (omega arith), c.index-starts-func.result.ok)

pub overflow_add-start : goal.overflow_add-start
overflow_add-start c =
    let ts = types_in (program_tree c.args.p.now) c.args.func in
    let own = starts-own c.args.starts.now c.args.func c.index-starts-func.result (starts_from 0 ts)
    (c.requires.starts c.args.func c.requires.known) c.index-starts-func.is in
    let read = start-read ts c.index-starts-func.result.items c.args.item c.index.result.now own (omega arith) c.index.ensures in
    omega (arith, read)

pub returns-clause-start : goal.returns-clause-start
returns-clause-start c =
    let ts = types_in (program_tree c.args.p.now) c.args.func in
    let own = starts-own c.args.starts.now c.args.func c.index-starts-func.result (starts_from 0 ts)
    (c.requires.starts c.args.func c.requires.known) c.index-starts-func.is in
    let read = start-read ts c.index-starts-func.result.items c.args.item c.index.result.now own (omega arith) c.index.ensures in
    ap (λ x. c.args.base + x) read
