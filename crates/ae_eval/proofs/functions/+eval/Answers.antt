use Rattle.std.proofs.Common.{◌≡◌, ◌+◌, ◌≤◌, ◌*◌, ◌++◌, take, drop, arith, ap, sym, subst, length, ℕ, IsTrue}
use Rattle.std.proofs.lemmas.Result.{on_ok_weaker}
use Rattle.ae_seqtype.specs.declared.seq_type.SeqType.{SeqType}
use Rattle.ae_seqtype.specs.SeqTree.{in_size, seq, seq_tree, words}
use Rattle.ae_eval.specs.Stack.{FitAt, FitIn, Pushed, params_in, result_of, values_in}
use Rattle.ae_eval.specs.Lines.{item_of, values_at}
use Rattle.ae_seq.specs.Meaning.{applied, meanings}
use Rattle.ae_seq.specs.ProgramTree.{node_tree, op_tree, program_tree}
use Rattle.ae_eval.proofs.Arms.{read-there}
use Rattle.ae_eval.proofs.Nodes.{each-count, each-two-count, read-each, read-each-two}
use Rattle.ae_eval.proofs.Calling.{call-args, call-node, call-pushed, evaluating-first, evaluating-laid, evaluating-last, evaluating-next, nodes-count}
use Rattle.ae_eval.proofs.Mapping.{element-room, longer, mapping-two-args, mapping-two-first, mapping-two-last, mapping-two-next, part-sized, two-within, mapping-args, mapping-first, mapping-last, mapping-next}
use Rattle.ae_eval.proofs.functions.+eval.Goals as goal

pub eval_call-returns : goal.eval_call-returns
eval_call-returns t c =
    call-pushed (program_tree c.args.p.now) c.args.func c.args.base c.args.stack.now.items c.eval_func.new.stack.items c.keep_result.new.stack.items
    c.requires.typed c.requires.known c.in_ok-eval_func.ensures c.keep_result.ensures

pub eval_func-loop-index-init : goal.eval_func-loop-index-init
eval_func-loop-index-init t c =
    evaluating-first (program_tree c.args.p.now) c.args.func c.args.base c.args.stack.now.items c.requires.typed c.requires.known c.requires.base
    c.requires.fits

pub eval_func-eval_node-requires : goal.eval_func-eval_node-requires
eval_func-eval_node-requires t c =
    let count = nodes-count (program_tree c.args.p.now) c.args.func c.nodes-count.result.now c.nodes-count.ensures in (
      omega (arith, c.decreases),
      (
        c.requires.typed,
        (
          c.requires.starts,
          (
            c.requires.known,
            (
              omega arith,
              evaluating-laid (program_tree c.args.p.now) c.args.func c.args.base c.loop-index.index c.args.stack.now.items c.loop-index.stack.items
                  c.loop-index.invariant,
            ),
          ),
        ),
      ),
    )

pub eval_func-loop-index-preserved : goal.eval_func-loop-index-preserved
eval_func-loop-index-preserved t c =
    let count = nodes-count (program_tree c.args.p.now) c.args.func c.nodes-count.result.now c.nodes-count.ensures in
    evaluating-next (program_tree c.args.p.now) c.args.func c.args.base c.loop-index.index c.args.stack.now.items c.loop-index.stack.items
    c.eval_node.new.stack.items c.requires.typed c.requires.known (omega arith) c.loop-index.invariant c.in_ok-eval_node.ensures

pub eval_func-returns : goal.eval_func-returns
eval_func-returns t c =
    let count = nodes-count (program_tree c.args.p.now) c.args.func c.nodes-count.result.now c.nodes-count.ensures in
    evaluating-last (program_tree c.args.p.now) c.args.func c.args.base c.loop-index.index c.args.stack.now.items c.loop-index.stack.items
    c.loop-index.invariant (omega arith)

pub eval_map-push_element-requires-clause-room : goal.eval_map-push_element-requires-clause-room
eval_map-push_element-requires-clause-room t c =
    let s = seq_tree c.args.ty.now in
    let t = seq_tree c.in-Seq.of.value in
    let form : s ≡ seq c.in-Seq.count t = ap seq_tree c.in-Seq.is in
    let now = c.loop-index.stack.items in
    let R : SeqType → Type 0 = λ z. c.args.start + c.loop-index.index * words (seq_tree z) + words (seq_tree z) ≤ length now in
    subst R (sym c.deref.ensures) (element-room c.in-Seq.count c.loop-index.index c.args.start t c.args.stack.now.items now c.loop-index-test.true
    (subst (λ z. FitAt z c.args.start c.args.stack.now.items) form c.requires.fits) c.loop-index.invariant.above)

pub eval_map-eval_call-requires : goal.eval_map-eval_call-requires
eval_map-eval_call-requires t c =
    let s = seq_tree c.args.ty.now in
    let t = seq_tree c.in-Seq.of.value in
    let form : s ≡ seq c.in-Seq.count t = ap seq_tree c.in-Seq.is in
    let now = c.loop-index.stack.items in
    let top : c.len-top.result ≡ length now = omega (arith, c.len-top.ensures, c.loop-index.stack.ok) in
    let E : SeqType → Type 0 = λ z. c.push_element.new.stack.items ≡ now
    ++ take (words (seq_tree z)) (drop (c.args.start + c.loop-index.index * words (seq_tree z)) now) in
    let mid = subst E c.deref.ensures c.in_ok-push_element.ensures in
    let r = mapping-args (program_tree c.args.p.now) c.args.callee c.in-Seq.count c.loop-index.index c.args.start c.len-top.result s t c.args.stack.now.items
    now c.push_element.new.stack.items form c.requires.takes c.loop-index-test.true c.requires.fits c.loop-index.invariant top mid in
    (omega (arith, c.decreases), (c.requires.typed, (c.requires.starts, (c.requires.known, (r.0, r.1)))))

pub eval_map-loop-index-preserved : goal.eval_map-loop-index-preserved
eval_map-loop-index-preserved t c =
    let s = seq_tree c.args.ty.now in
    let t = seq_tree c.in-Seq.of.value in
    let form : s ≡ seq c.in-Seq.count t = ap seq_tree c.in-Seq.is in
    let now = c.loop-index.stack.items in
    let top : c.len-top.result ≡ length now = omega (arith, c.len-top.ensures, c.loop-index.stack.ok) in
    let E : SeqType → Type 0 = λ z. c.push_element.new.stack.items ≡ now
    ++ take (words (seq_tree z)) (drop (c.args.start + c.loop-index.index * words (seq_tree z)) now) in
    let mid = subst E c.deref.ensures c.in_ok-push_element.ensures in
    mapping-next (program_tree c.args.p.now) c.args.callee c.in-Seq.count c.loop-index.index c.args.start c.len-top.result s t c.args.stack.now.items now
    c.push_element.new.stack.items c.eval_call.new.stack.items form c.requires.takes c.loop-index-test.true c.requires.fits c.loop-index.invariant top mid
    c.in_ok-eval_call.ensures

pub eval_map-loop-index-init : goal.eval_map-loop-index-init
eval_map-loop-index-init t c = mapping-first (program_tree c.args.p.now) c.args.callee (seq_tree c.args.ty.now) c.args.start c.args.stack.now.items

pub eval_map-returns : goal.eval_map-returns
eval_map-returns t c =
    let s = seq_tree c.args.ty.now in
    let t = seq_tree c.in-Seq.of.value in
    let form : s ≡ seq c.in-Seq.count t = ap seq_tree c.in-Seq.is in
    let now = c.loop-index.stack.items in
    mapping-last (program_tree c.args.p.now) c.args.callee c.in-Seq.count c.loop-index.index c.args.start s t c.args.stack.now.items now form
    (omega arith) c.loop-index.invariant

pub eval_map_two-loop-index-init : goal.eval_map_two-loop-index-init
eval_map_two-loop-index-init t c =
    mapping-two-first (program_tree c.args.p.now) c.args.callee (seq_tree c.args.ty.now)
    (seq_tree c.args.other.now) c.args.start c.args.place c.args.stack.now.items

pub eval_map_two-push_element-requires-clause-room : goal.eval_map_two-push_element-requires-clause-room
eval_map_two-push_element-requires-clause-room t c =
    let s = seq_tree c.args.ty.now in
    let z = seq_tree c.args.other.now in
    let t = seq_tree c.in-Seq.of.value in
    let w = seq_tree c.in-Seq-other.with.value in
    let form : s ≡ seq c.in-Seq.count t = ap seq_tree c.in-Seq.is in
    let other : z ≡ seq c.in-Seq-other.field-0 w = ap seq_tree c.in-Seq-other.is in
    let now = c.loop-index.stack.items in
    let R : SeqType → Type 0 = λ z. c.args.start + c.loop-index.index * words (seq_tree z) + words (seq_tree z) ≤ length now in
    subst R (sym c.deref.ensures) (element-room c.in-Seq.count c.loop-index.index c.args.start t c.args.stack.now.items now c.loop-index-test.true
    (subst (λ z. FitAt z c.args.start c.args.stack.now.items) form c.requires.fits) c.loop-index.invariant.above)

pub eval_map_two-push_element-requires-in-loop-index-clause-sized : goal.eval_map_two-push_element-requires-in-loop-index-clause-sized
eval_map_two-push_element-requires-in-loop-index-clause-sized t c =
    let s = seq_tree c.args.ty.now in
    let z = seq_tree c.args.other.now in
    let t = seq_tree c.in-Seq.of.value in
    let w = seq_tree c.in-Seq-other.with.value in
    let form : s ≡ seq c.in-Seq.count t = ap seq_tree c.in-Seq.is in
    let other : z ≡ seq c.in-Seq-other.field-0 w = ap seq_tree c.in-Seq-other.is in
    let now = c.loop-index.stack.items in
    let R : SeqType → Type 0 = λ z. IsTrue (in_size (seq_tree z)) in
    subst R (sym c.deref-in-loop-index.ensures) (part-sized c.in-Seq-other.field-0 z w other c.requires.sized_too)

pub eval_map_two-push_element-requires-in-loop-index-clause-room : goal.eval_map_two-push_element-requires-in-loop-index-clause-room
eval_map_two-push_element-requires-in-loop-index-clause-room t c =
    let s = seq_tree c.args.ty.now in
    let z = seq_tree c.args.other.now in
    let t = seq_tree c.in-Seq.of.value in
    let w = seq_tree c.in-Seq-other.with.value in
    let form : s ≡ seq c.in-Seq.count t = ap seq_tree c.in-Seq.is in
    let other : z ≡ seq c.in-Seq-other.field-0 w = ap seq_tree c.in-Seq-other.is in
    let now = c.loop-index.stack.items in
    let E : SeqType → Type 0 = λ z. c.push_element.new.stack.items ≡ now
    ++ take (words (seq_tree z)) (drop (c.args.start + c.loop-index.index * words (seq_tree z)) now) in
    let next = subst E c.deref.ensures c.in_ok-push_element.ensures in
    let R : SeqType → Type 0 = λ z. c.args.place + c.loop-index.index * words (seq_tree z) + words (seq_tree z) ≤ length c.push_element.new.stack.items in
    let lt = two-within c.in-Seq.count c.in-Seq-other.field-0 c.loop-index.index s z t w
    (params_in (program_tree c.args.p.now) c.args.callee) form other c.requires.takes c.loop-index-test.true in
    subst R (sym c.deref-in-loop-index.ensures) (element-room c.in-Seq-other.field-0 c.loop-index.index c.args.place w c.args.stack.now.items
    c.push_element.new.stack.items lt (subst (λ z. FitAt z c.args.place c.args.stack.now.items) other c.requires.fits_too)
    (longer c.args.stack.now.items now _ c.push_element.new.stack.items next c.loop-index.invariant.above))

pub eval_map_two-eval_call-requires : goal.eval_map_two-eval_call-requires
eval_map_two-eval_call-requires t c =
    let s = seq_tree c.args.ty.now in
    let z = seq_tree c.args.other.now in
    let t = seq_tree c.in-Seq.of.value in
    let w = seq_tree c.in-Seq-other.with.value in
    let form : s ≡ seq c.in-Seq.count t = ap seq_tree c.in-Seq.is in
    let other : z ≡ seq c.in-Seq-other.field-0 w = ap seq_tree c.in-Seq-other.is in
    let now = c.loop-index.stack.items in
    let top : c.len-top.result ≡ length now = omega (arith, c.len-top.ensures, c.loop-index.stack.ok) in
    let E : SeqType → Type 0 = λ z. c.push_element.new.stack.items ≡ now
    ++ take (words (seq_tree z)) (drop (c.args.start + c.loop-index.index * words (seq_tree z)) now) in
    let next = subst E c.deref.ensures c.in_ok-push_element.ensures in
    let F : SeqType → Type 0 = λ z. c.push_element-in-loop-index.new.stack.items ≡ c.push_element.new.stack.items
    ++ take (words (seq_tree z)) (drop (c.args.place + c.loop-index.index * words (seq_tree z)) c.push_element.new.stack.items) in
    let mid = subst F c.deref-in-loop-index.ensures c.in_ok-push_element-2.ensures in
    let r = mapping-two-args (program_tree c.args.p.now) c.args.callee c.in-Seq.count c.in-Seq-other.field-0 c.loop-index.index c.args.start c.args.place
    c.len-top.result s z t w c.args.stack.now.items now c.push_element.new.stack.items c.push_element-in-loop-index.new.stack.items form other
    c.requires.takes c.loop-index-test.true c.requires.fits c.requires.fits_too c.loop-index.invariant top next mid in
    (omega (arith, c.decreases), (c.requires.typed, (c.requires.starts, (c.requires.known, (r.0, r.1)))))

pub eval_map_two-loop-index-preserved : goal.eval_map_two-loop-index-preserved
eval_map_two-loop-index-preserved t c =
    let s = seq_tree c.args.ty.now in
    let z = seq_tree c.args.other.now in
    let t = seq_tree c.in-Seq.of.value in
    let w = seq_tree c.in-Seq-other.with.value in
    let form : s ≡ seq c.in-Seq.count t = ap seq_tree c.in-Seq.is in
    let other : z ≡ seq c.in-Seq-other.field-0 w = ap seq_tree c.in-Seq-other.is in
    let now = c.loop-index.stack.items in
    let top : c.len-top.result ≡ length now = omega (arith, c.len-top.ensures, c.loop-index.stack.ok) in
    let E : SeqType → Type 0 = λ z. c.push_element.new.stack.items ≡ now
    ++ take (words (seq_tree z)) (drop (c.args.start + c.loop-index.index * words (seq_tree z)) now) in
    let next = subst E c.deref.ensures c.in_ok-push_element.ensures in
    let F : SeqType → Type 0 = λ z. c.push_element-in-loop-index.new.stack.items ≡ c.push_element.new.stack.items
    ++ take (words (seq_tree z)) (drop (c.args.place + c.loop-index.index * words (seq_tree z)) c.push_element.new.stack.items) in
    let mid = subst F c.deref-in-loop-index.ensures c.in_ok-push_element-2.ensures in
    mapping-two-next (program_tree c.args.p.now) c.args.callee c.in-Seq.count c.in-Seq-other.field-0 c.loop-index.index c.args.start c.args.place
    c.len-top.result s z t w c.args.stack.now.items now c.push_element.new.stack.items c.push_element-in-loop-index.new.stack.items
    c.eval_call.new.stack.items form other c.requires.takes c.loop-index-test.true c.requires.fits c.requires.fits_too c.loop-index.invariant top next mid
    c.in_ok-eval_call.ensures

pub eval_map_two-returns : goal.eval_map_two-returns
eval_map_two-returns t c =
    let s = seq_tree c.args.ty.now in
    let z = seq_tree c.args.other.now in
    let t = seq_tree c.in-Seq.of.value in
    let w = seq_tree c.in-Seq-other.with.value in
    let form : s ≡ seq c.in-Seq.count t = ap seq_tree c.in-Seq.is in
    let other : z ≡ seq c.in-Seq-other.field-0 w = ap seq_tree c.in-Seq-other.is in
    let now = c.loop-index.stack.items in
    mapping-two-last (program_tree c.args.p.now) c.args.callee c.in-Seq.count c.in-Seq-other.field-0 c.loop-index.index c.args.start c.args.place s z t w
    c.args.stack.now.items now form other c.requires.takes (omega arith) c.loop-index.invariant

pub eval_node-eval_call-requires : goal.eval_node-eval_call-requires
eval_node-eval_call-requires t c =
    let old = c.args.stack.now.items in
    let top : c.len-top.result ≡ length old = omega (arith, c.len-top.ensures, c.args.stack.now.ok) in
    let r = call-args (program_tree c.args.p.now) c.args.func c.args.index c.in-Call.callee (node_tree c.node-node.result.now)
    (values_at (program_tree c.args.p.now) c.args.func (item_of (program_tree c.args.p.now) c.args.func c.args.index) c.args.base c.args.stack.now.items)
    old c.push_args.new.stack.items c.requires.typed c.requires.known c.node-node.ensures (ap op_tree c.in-Call.is) c.in_ok-push_args-in-Call.ensures in
    let P : ℕ → Type 0 = λ n. FitIn (params_in (program_tree c.args.p.now) c.in-Call.callee) (drop n c.push_args.new.stack.items) in
    (omega (arith, c.decreases, r.below), (c.requires.typed, (c.requires.starts, (r.known, (omega (arith, r.above), subst P (sym top) r.fits)))))

pub eval_node-returns-in_ok-push_args-in-Call : goal.eval_node-returns-in_ok-push_args-in-Call
eval_node-returns-in_ok-push_args-in-Call t c =
    let old = c.args.stack.now.items in
    let top : c.len-top.result ≡ length old = omega (arith, c.len-top.ensures, c.args.stack.now.ok) in
    let m = program_tree c.args.p.now in
    let E : ℕ → Type 0 = λ n. Pushed (result_of m c.in-Call.callee) (take n c.push_args.new.stack.items) c.eval_call.new.stack.items
    (applied (meanings m.funcs) c.in-Call.callee (values_in (params_in m c.in-Call.callee) (drop n c.push_args.new.stack.items))) in
    on_ok_weaker c.eval_call.result (λ e. call-node (program_tree c.args.p.now) c.args.func c.args.index c.in-Call.callee (node_tree c.node-node.result.now)
    (values_at (program_tree c.args.p.now) c.args.func (item_of (program_tree c.args.p.now) c.args.func c.args.index) c.args.base c.args.stack.now.items)
    old c.push_args.new.stack.items c.eval_call.new.stack.items c.requires.typed c.requires.known c.node-node.ensures
    (ap op_tree c.in-Call.is) c.in_ok-push_args-in-Call.ensures (subst E top e)) c.eval_call.ensures

pub eval_node-place_of-a-requires-clause-there : goal.eval_node-place_of-a-requires-clause-there
eval_node-place_of-a-requires-clause-there t c =
    let count = each-count (program_tree c.args.p.now) c.args.func c.args.index c.in-Map.callee
    (node_tree c.node-node.result.now) c.requires.typed c.requires.known c.node-node.ensures (ap op_tree c.in-Map.is) in
    (read-there (program_tree c.args.p.now) c.args.func c.args.index
    (node_tree c.node-node.result.now) c.as_slice-args.result.now c.args.base c.args.stack.now.items c.requires.typed c.requires.known c.node-node.ensures
    c.as_slice-args.ensures.value c.requires.laid 0 (omega arith)).0

pub eval_node-place_of-a-requires-clause-room : goal.eval_node-place_of-a-requires-clause-room
eval_node-place_of-a-requires-clause-room t c =
    let count = each-count (program_tree c.args.p.now) c.args.func c.args.index c.in-Map.callee
    (node_tree c.node-node.result.now) c.requires.typed c.requires.known c.node-node.ensures (ap op_tree c.in-Map.is) in
    let r = read-there (program_tree c.args.p.now) c.args.func c.args.index
    (node_tree c.node-node.result.now) c.as_slice-args.result.now c.args.base c.args.stack.now.items c.requires.typed c.requires.known c.node-node.ensures
    c.as_slice-args.ensures.value c.requires.laid 0 (omega arith) in
    omega (arith, r.1, c.args.stack.now.ok)

pub eval_node-place_of-first-requires-clause-there : goal.eval_node-place_of-first-requires-clause-there
eval_node-place_of-first-requires-clause-there t c =
    let count = each-two-count (program_tree c.args.p.now) c.args.func c.args.index c.in-Map2.callee
    (node_tree c.node-node.result.now) c.requires.typed c.requires.known c.node-node.ensures (ap op_tree c.in-Map2.is) in
    (read-there (program_tree c.args.p.now) c.args.func c.args.index
    (node_tree c.node-node.result.now) c.as_slice-args.result.now c.args.base c.args.stack.now.items c.requires.typed c.requires.known c.node-node.ensures
    c.as_slice-args.ensures.value c.requires.laid 0 (omega arith)).0

pub eval_node-place_of-first-requires-clause-room : goal.eval_node-place_of-first-requires-clause-room
eval_node-place_of-first-requires-clause-room t c =
    let count = each-two-count (program_tree c.args.p.now) c.args.func c.args.index c.in-Map2.callee
    (node_tree c.node-node.result.now) c.requires.typed c.requires.known c.node-node.ensures (ap op_tree c.in-Map2.is) in
    let r = read-there (program_tree c.args.p.now) c.args.func c.args.index
    (node_tree c.node-node.result.now) c.as_slice-args.result.now c.args.base c.args.stack.now.items c.requires.typed c.requires.known c.node-node.ensures
    c.as_slice-args.ensures.value c.requires.laid 0 (omega arith) in
    omega (arith, r.1, c.args.stack.now.ok)

pub eval_node-place_of-second-requires-clause-there : goal.eval_node-place_of-second-requires-clause-there
eval_node-place_of-second-requires-clause-there t c =
    let count = each-two-count (program_tree c.args.p.now) c.args.func c.args.index c.in-Map2.callee
    (node_tree c.node-node.result.now) c.requires.typed c.requires.known c.node-node.ensures (ap op_tree c.in-Map2.is) in
    (read-there (program_tree c.args.p.now) c.args.func c.args.index
    (node_tree c.node-node.result.now) c.as_slice-args.result.now c.args.base c.args.stack.now.items c.requires.typed c.requires.known c.node-node.ensures
    c.as_slice-args.ensures.value c.requires.laid 1 (omega arith)).0

pub eval_node-place_of-second-requires-clause-room : goal.eval_node-place_of-second-requires-clause-room
eval_node-place_of-second-requires-clause-room t c =
    let count = each-two-count (program_tree c.args.p.now) c.args.func c.args.index c.in-Map2.callee
    (node_tree c.node-node.result.now) c.requires.typed c.requires.known c.node-node.ensures (ap op_tree c.in-Map2.is) in
    let r = read-there (program_tree c.args.p.now) c.args.func c.args.index
    (node_tree c.node-node.result.now) c.as_slice-args.result.now c.args.base c.args.stack.now.items c.requires.typed c.requires.known c.node-node.ensures
    c.as_slice-args.ensures.value c.requires.laid 1 (omega arith) in
    omega (arith, r.1, c.args.stack.now.ok)

pub eval_node-eval_map-requires : goal.eval_node-eval_map-requires
eval_node-eval_map-requires t c =
    let r = read-each (program_tree c.args.p.now) c.args.func c.args.index c.in-Map.callee
    (node_tree c.node-node.result.now) c.as_slice-args.result.now c.args.base c.args.stack.now.items c.requires.typed c.requires.known c.node-node.ensures
    c.as_slice-args.ensures.value c.requires.laid c.place_of-a.result.start (seq_tree c.place_of-a.result.ty.now)
    (ap op_tree c.in-Map.is) c.place_of-a.ensures.is c.place_of-a.ensures.start in
    (omega (arith, c.decreases, r.below), (c.requires.typed, (c.requires.starts, (r.known, (c.place_of-a.ensures.sized, (r.fits, r.takes))))))

pub eval_node-eval_map_two-requires : goal.eval_node-eval_map_two-requires
eval_node-eval_map_two-requires t c =
    let r = read-each-two (program_tree c.args.p.now) c.args.func c.args.index c.in-Map2.callee
    (node_tree c.node-node.result.now) c.as_slice-args.result.now c.args.base c.args.stack.now.items c.requires.typed c.requires.known c.node-node.ensures
    c.as_slice-args.ensures.value c.requires.laid c.place_of-first.result.start c.place_of-second.result.start (seq_tree c.place_of-first.result.ty.now)
    (seq_tree c.place_of-second.result.ty.now) (ap op_tree c.in-Map2.is) c.place_of-first.ensures.is c.place_of-first.ensures.start
    c.place_of-second.ensures.is c.place_of-second.ensures.start in (
      omega (arith, c.decreases, r.below),
      (
        c.requires.typed,
        (c.requires.starts, (r.known, (c.place_of-first.ensures.sized, (c.place_of-second.ensures.sized, (r.fits, (r.fits_too, r.takes)))))),
      ),
    )

pub eval_node-returns-in-Map : goal.eval_node-returns-in-Map
eval_node-returns-in-Map t c =
    on_ok_weaker c.eval_map.result ((read-each (program_tree c.args.p.now) c.args.func c.args.index c.in-Map.callee
    (node_tree c.node-node.result.now) c.as_slice-args.result.now c.args.base c.args.stack.now.items c.requires.typed c.requires.known c.node-node.ensures
    c.as_slice-args.ensures.value c.requires.laid c.place_of-a.result.start (seq_tree c.place_of-a.result.ty.now)
    (ap op_tree c.in-Map.is) c.place_of-a.ensures.is c.place_of-a.ensures.start).pushed c.eval_map.new.stack.items) c.eval_map.ensures

pub eval_node-returns-in-Map2 : goal.eval_node-returns-in-Map2
eval_node-returns-in-Map2 t c =
    on_ok_weaker c.eval_map_two.result ((read-each-two (program_tree c.args.p.now) c.args.func c.args.index c.in-Map2.callee
    (node_tree c.node-node.result.now) c.as_slice-args.result.now c.args.base c.args.stack.now.items c.requires.typed c.requires.known c.node-node.ensures
    c.as_slice-args.ensures.value c.requires.laid c.place_of-first.result.start c.place_of-second.result.start (seq_tree c.place_of-first.result.ty.now)
    (seq_tree c.place_of-second.result.ty.now) (ap op_tree c.in-Map2.is) c.place_of-first.ensures.is c.place_of-first.ensures.start
    c.place_of-second.ensures.is c.place_of-second.ensures.start).pushed c.eval_map_two.new.stack.items) c.eval_map_two.ensures

pub eval_map_two-push_element-requires-clause-sized : goal.eval_map_two-push_element-requires-clause-sized
eval_map_two-push_element-requires-clause-sized t c =
    let R : SeqType → Type 0 = λ z. IsTrue (in_size (seq_tree z)) in
    subst R (sym c.deref.ensures) (part-sized c.in-Seq.count (seq_tree c.args.ty.now) (seq_tree c.in-Seq.of.value) (ap seq_tree c.in-Seq.is) c.requires.sized)

pub eval_node-bounds-args-0 : goal.eval_node-bounds-args-0
eval_node-bounds-args-0 t c =
    let count = each-count (program_tree c.args.p.now) c.args.func c.args.index c.in-Map.callee
    (node_tree c.node-node.result.now) c.requires.typed c.requires.known c.node-node.ensures (ap op_tree c.in-Map.is) in
    let e = ap length c.as_slice-args.ensures.value in
    omega (arith, count, e)

pub eval_node-bounds-args-0-in-Map2 : goal.eval_node-bounds-args-0-in-Map2
eval_node-bounds-args-0-in-Map2 t c =
    let count = each-two-count (program_tree c.args.p.now) c.args.func c.args.index c.in-Map2.callee
    (node_tree c.node-node.result.now) c.requires.typed c.requires.known c.node-node.ensures (ap op_tree c.in-Map2.is) in
    let e = ap length c.as_slice-args.ensures.value in
    omega (arith, count, e)

pub eval_node-bounds-args-1 : goal.eval_node-bounds-args-1
eval_node-bounds-args-1 t c =
    let count = each-two-count (program_tree c.args.p.now) c.args.func c.args.index c.in-Map2.callee
    (node_tree c.node-node.result.now) c.requires.typed c.requires.known c.node-node.ensures (ap op_tree c.in-Map2.is) in
    let e = ap length c.as_slice-args.ensures.value in
    omega (arith, count, e)
