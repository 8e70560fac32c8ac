use Rattle.std.proofs.Common.{◌≡◌, ◌∙◌, ◌+◌, sym, ap, refl, arith, [], ◌∷◌, List, drop, None, append_assoc, length-append, append-nil, subst, Vec, Global}
use Rattle.ae_seqtype.specs.declared.seq_type.SeqType.{SeqType}
use Rattle.std.proofs.lemmas.List.{drop_all}
use Rattle.std.proofs.lemmas.Result.{err_from_is_err_and}
use Rattle.ae_seq.specs.Accepted.{IsCausedBy}
use Rattle.ae_seq.specs.ProgramTree.{func_tree}
use Rattle.ae_seq.specs.Signatures.{signatures_by}
use Rattle.ae_seq.specs.Trees.{func_trees, type_trees, types_of}
use Rattle.ae_seq.specs.Typing.{judged_func, refused}
use Rattle.ae_seq.proofs.Types.{slice_get-view}
use Rattle.ae_seq.proofs.Judging.{judged-step, drop-read, signatures_by-nil, IsCausedBy-first, AllSized-push}
use Rattle.ae_seq.proofs.checker.all_types.Goals as goal

pub loop-func-init : goal.loop-func-init
loop-func-init c =
    rw (c.new-types.ensures.items, signatures_by-nil (func_trees c.args.funcs.now))
    (record { count = refl; verdict = refl; typed = λ more h. h; sized = tt })

pub returns-in_err-own-clause-cause : goal.returns-in_err-own-clause-cause
returns-in_err-own-clause-cause c =
    let p = err_from_is_err_and c.from_residual.result c.from_residual.ensures.1 in
    let fs = func_trees c.args.funcs.now in
    let known = signatures_by fs (types_of c.loop-func.types.items) in
    let step = drop-read c.args.funcs.now c.loop-func.func-index c.func-item.result c.loop-func-test.true c.func-item.is in
    let Q : List (Vec SeqType Global) → Type 0 = λ xs. IsCausedBy c.in_err-own.field-0.0
    (refused (judged_func (signatures_by fs (types_of xs)) (func_tree c.func-item.result))) in
    let here = subst Q c.deref.ensures.value c.in_err-own.ensures.cause in
    let verdict = rw step at c.loop-func.invariant.verdict in
    rw (p.1, p.2, ← verdict) (IsCausedBy-first c.in_err-own.field-0.0 (judged_func known (func_tree c.func-item.result)) _ here)

pub loop-func-preserved : goal.loop-func-preserved
loop-func-preserved c =
    let fs = func_trees c.args.funcs.now in
    let tss = types_of c.loop-func.types.items in
    let own = type_trees c.in_ok-own.own.items in
    let f = func_tree c.func-item.result in
    let later = func_trees (drop (c.loop-func.func-index + 1) c.args.funcs.now) in
    let step = drop-read c.args.funcs.now c.loop-func.func-index c.func-item.result c.loop-func-test.true c.func-item.is in
    let read = slice_get-view func_tree c.args.funcs.now c.loop-func.func-index c.func-item.result c.loop-func-test.true c.func-item.is in
    let types = rw c.deref.ensures.value at c.in_ok-own.ensures.types in
    let Q : List (Vec SeqType Global) → Type 0 = λ xs. refused (judged_func (signatures_by fs (types_of xs)) f) ≡ None in
    let clean = subst Q c.deref.ensures.value c.in_ok-own.ensures.fine in
    let next = judged-step fs later tss f own (rw c.loop-func.invariant.count read) types clean in
    let verdict = rw step at c.loop-func.invariant.verdict in
    let typed = rw step at c.loop-func.invariant.typed in
    rw (c.in_ok-append.ensures)
    (record {
      count = length-append tss (own ∷ []) ∙ ap (λ k. k + 1) c.loop-func.invariant.count;
      verdict = next.0 ∙ verdict;
      typed = λ more h. rw append_assoc (typed (own ∷ more) (next.1 more h));
      sized = AllSized-push tss own c.loop-func.invariant.sized c.in_ok-own.ensures.sized;
    })

pub returns-clause-fine : goal.returns-clause-fine
returns-clause-fine c =
    let over = drop_all c.loop-func.func-index c.args.funcs.now (omega arith) in
    let verdict = rw over at c.loop-func.invariant.verdict in
    sym verdict

pub returns-clause-types : goal.returns-clause-types
returns-clause-types c =
    let over = drop_all c.loop-func.func-index c.args.funcs.now (omega arith) in
    let typed = rw over at c.loop-func.invariant.typed in
    rw append-nil at (typed [] tt)
