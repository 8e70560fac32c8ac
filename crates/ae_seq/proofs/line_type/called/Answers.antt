use Rattle.std.proofs.Common.{inl, inr, false, true, [], refl}
use Rattle.std.proofs.lemmas.List.{length-map}
use Rattle.std.proofs.lemmas.Option.{slice_get-get_or}
use Rattle.ae_seq.specs.ProgramTree.{func_tree}
use Rattle.ae_seq.specs.Trees.{func_trees, items_of, lent_types, types_of, type_trees}
use Rattle.ae_seq.proofs.Types.{called-at, called-past, slice_get-view}
use Rattle.ae_seq.proofs.line_type.called.Goals as goal
use Rattle.ae_seq.proofs.line_type.called.Goals.{then-callee-funcs-via-then-callee-funcs, then-callee-funcs-via-else-callee-funcs+then-callee-types}

pub returns-then-callee-funcs : goal.returns-then-callee-funcs
returns-then-callee-funcs c = elim c.then-callee-funcs.branch [
  | then-callee-funcs-via-then-callee-funcs w ↦ called-past (func_trees c.args.funcs.now) (types_of c.args.types.now) c.args.callee
      (lent_types c.args.args.now) (inl (simp length-map w.if-callee-funcs.true))
  | then-callee-funcs-via-else-callee-funcs+then-callee-types w ↦ called-past (func_trees c.args.funcs.now) (types_of c.args.types.now) c.args.callee
      (lent_types c.args.args.now) (inr (simp length-map w.if-callee-types.true))
]

pub returns-then-not-same_types : goal.returns-then-not-same_types
returns-then-not-same_types c =
    let func = c.index-funcs-callee.result in
    let tss = types_of c.args.types.now in
    let f = slice_get-view func_tree c.args.funcs.now c.args.callee func c.if-callee-funcs.false c.index-funcs-callee.is in
    let t = slice_get-get_or tss c.args.callee [] (simp length-map c.if-callee-types.false) in
    let same = rw c.as_slice.ensures.value at c.same_types.ensures in
    rw (called-at (func_trees c.args.funcs.now) tss c.args.callee (func_tree func) _ (lent_types c.args.args.now) f t, ← same, c.if-not-same_types.true) refl

pub returns : goal.returns
returns c =
    let func = c.index-funcs-callee.result in
    let tss = types_of c.args.types.now in
    let f = slice_get-view func_tree c.args.funcs.now c.args.callee func c.if-callee-funcs.false c.index-funcs-callee.is in
    let own = c.index-types-callee.result in
    let t = slice_get-view items_of c.args.types.now c.args.callee own c.if-callee-types.false c.index-types-callee.is in
    let same = rw c.as_slice.ensures.value at c.same_types.ensures in
    rw (
      called-at (func_trees c.args.funcs.now) tss c.args.callee (func_tree func) (type_trees own.items) (lent_types c.args.args.now) f t,
      ← same,
      c.if-not-same_types.false,
    )
    (rw c.deref.ensures.value at c.result_type.ensures)
