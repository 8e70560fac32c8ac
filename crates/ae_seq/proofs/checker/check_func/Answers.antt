use Rattle.std.proofs.Common.{◌≡◌, ◌∙◌, ◌+◌, sym, ap, subst, refl, List, drop, map, Some}
use Rattle.std.proofs.lemmas.List.{drop_all}
use Rattle.ae_seqtype.specs.SeqTree.{seq_tree}
use Rattle.ae_seqtype.specs.declared.seq_type.SeqType.{SeqType}
use Rattle.ae_seq.specs.ProgramTree.{func_tree, node_tree}
use Rattle.ae_seq.specs.Signatures.{signatures_by}
use Rattle.ae_seq.specs.Trees.{func_trees, node_trees, option_type, type_trees, types_of}
use Rattle.ae_seq.specs.Typing.{all_in_size, grown, judged_nodes, node_type, param_types, refused}
use Rattle.ae_seq.proofs.Judging.{drop-read, large-node, large-params, node-step, not-sized, sized-params, sized-push, untyped-node}
use Rattle.ae_seq.proofs.checker.check_func.Goals as goal

pub returns-in_default-clause-cause : goal.returns-in_default-clause-cause
returns-in_default-clause-cause c =
    let known = signatures_by (func_trees c.args.funcs.now) (types_of c.args.types.now) in
    let f = func_tree c.args.func.now in
    let sized = rw c.in_default.is at c.in_ok-items.ensures.sized in
    large-params known f (not-sized (all_in_size (param_types f)) sized.1)

pub loop-node-init : goal.loop-node-init
loop-node-init c =
    let known = signatures_by (func_trees c.args.funcs.now) (types_of c.args.types.now) in
    let ns = node_trees c.args.func.now.nodes.items in
    let own = rw c.in-Some.is at c.in_ok-items.ensures.some in
    let sized = rw c.in-Some.is at c.in_ok-items.ensures.sized in
    record {
      verdict = ap (λ ts. refused (judged_nodes known (map Some ts) ns)) own;
      types = ap (λ ts. grown (node_type known) (map Some ts) ns) own;
      sized = rw own (sized.0 refl);
    }

pub returns-in_default-2-clause-cause : goal.returns-in_default-2-clause-cause
returns-in_default-2-clause-cause c =
    let known = signatures_by (func_trees c.args.funcs.now) (types_of c.args.types.now) in
    let f = func_tree c.args.func.now in
    let items = type_trees c.loop-node.items.items in
    let n = c.node-item.result in
    let later = node_trees (drop (c.loop-node.node-index + 1) c.args.func.now.nodes.items) in
    let sized = rw c.in-Some.is at c.in_ok-items.ensures.sized in
    let inside = rw c.deref-node-items.ensures.value at c.loop-node-test.true in
    let read = rw c.deref-node-items.ensures.value at c.node-item.is in
    let step = drop-read c.args.func.now.nodes.items c.loop-node.node-index n inside read in
    let Q : List SeqType → Type 0 = λ xs. option_type c.in_ok-ty.field-0 ≡ node_type known (map Some (type_trees xs)) (node_tree n) in
    let here = sym (subst Q c.deref.ensures.value c.in_ok-ty.ensures) ∙ ap option_type c.in_default-2.is in
    let verdict = rw step at c.loop-node.invariant.verdict in
    sized-params known f (sized.0 refl) ∙ sym verdict ∙ untyped-node known (map Some items) (node_tree n) later here

pub returns-then-not-in_size-clause-cause : goal.returns-then-not-in_size-clause-cause
returns-then-not-in_size-clause-cause c =
    let known = signatures_by (func_trees c.args.funcs.now) (types_of c.args.types.now) in
    let f = func_tree c.args.func.now in
    let items = type_trees c.loop-node.items.items in
    let n = c.node-item.result in
    let t = seq_tree c.in-Some-2.ty in
    let later = node_trees (drop (c.loop-node.node-index + 1) c.args.func.now.nodes.items) in
    let sized = rw c.in-Some.is at c.in_ok-items.ensures.sized in
    let inside = rw c.deref-node-items.ensures.value at c.loop-node-test.true in
    let read = rw c.deref-node-items.ensures.value at c.node-item.is in
    let step = drop-read c.args.func.now.nodes.items c.loop-node.node-index n inside read in
    let Q : List SeqType → Type 0 = λ xs. option_type c.in_ok-ty.field-0 ≡ node_type known (map Some (type_trees xs)) (node_tree n) in
    let here = sym (subst Q c.deref.ensures.value c.in_ok-ty.ensures) ∙ ap option_type c.in-Some-2.is in
    let verdict = rw step at c.loop-node.invariant.verdict in
    sized-params known f (sized.0 refl) ∙ sym verdict ∙ large-node known (map Some items) (node_tree n) later t here
    (sym c.in_size.ensures ∙ c.if-not-in_size.true)

pub loop-node-preserved : goal.loop-node-preserved
loop-node-preserved c =
    let known = signatures_by (func_trees c.args.funcs.now) (types_of c.args.types.now) in
    let items = type_trees c.loop-node.items.items in
    let n = c.node-item.result in
    let t = seq_tree c.in-Some-2.ty in
    let later = node_trees (drop (c.loop-node.node-index + 1) c.args.func.now.nodes.items) in
    let inside = rw c.deref-node-items.ensures.value at c.loop-node-test.true in
    let read = rw c.deref-node-items.ensures.value at c.node-item.is in
    let step = drop-read c.args.func.now.nodes.items c.loop-node.node-index n inside read in
    let Q : List SeqType → Type 0 = λ xs. option_type c.in_ok-ty.field-0 ≡ node_type known (map Some (type_trees xs)) (node_tree n) in
    let here = sym (subst Q c.deref.ensures.value c.in_ok-ty.ensures) ∙ ap option_type c.in-Some-2.is in
    let small = sym c.in_size.ensures ∙ c.if-not-in_size.false in
    let next = node-step known items (node_tree n) later t here small in
    let verdict = rw step at c.loop-node.invariant.verdict in
    let types = rw step at c.loop-node.invariant.types in
    rw c.in_ok-append_type.ensures
    (record {
      verdict = next.0 ∙ verdict;
      types = next.1 ∙ types;
      sized = sized-push items t c.loop-node.invariant.sized small;
    })

pub returns-clause-fine : goal.returns-clause-fine
returns-clause-fine c =
    let known = signatures_by (func_trees c.args.funcs.now) (types_of c.args.types.now) in
    let sized = rw c.in-Some.is at c.in_ok-items.ensures.sized in
    let past = rw c.deref-node-items.ensures.value at c.loop-node-test.false in
    let over = drop_all c.loop-node.node-index c.args.func.now.nodes.items past in
    let verdict = rw over at c.loop-node.invariant.verdict in
    sized-params known (func_tree c.args.func.now) (sized.0 refl) ∙ sym verdict

pub returns-clause-types : goal.returns-clause-types
returns-clause-types c =
    let past = rw c.deref-node-items.ensures.value at c.loop-node-test.false in
    let over = drop_all c.loop-node.node-index c.args.func.now.nodes.items past in
    sym (rw over at c.loop-node.invariant.types)
