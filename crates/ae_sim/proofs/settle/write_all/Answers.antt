-- The memories before the place are written, and the others stand as they were.
use Rattle.std.proofs.Common.{◌≡◌, ◌<◌, ◌≤◌, ◌∙◌, length, Some, slice_get, ap, sym, arith}
use Rattle.std.proofs.lemmas.Option.{slice_get-get_or, slice_get_within}
use Rattle.ae_sim.specs.declared.plan.Memory.{Memory}
use Rattle.ae_sim.proofs.Edges.{after_none, after_more}
use Rattle.ae_sim.proofs.settle.write_all.Goals as goal

pub write-requires-clause-at : goal.write-requires-clause-at
write-requires-clause-at c =
    let l : c.loop-k.k < length c.args.memories.now.items = grind (arith, c.loop-k-test.true, c.len-k-end.ensures) in
    let here : slice_get c.loop-k.memories.items c.loop-k.k ≡ Some c.index_mut.result.now = slice_get-get_or c.loop-k.memories.items c.loop-k.k
    c.index_mut.result.now (omega (arith, l, c.loop-k.invariant.long)) ∙ ap (λ (x : Memory). Some x) (sym c.index_mut.ensures.value) in
    (c.requires.inside c.loop-k.k c.index_mut.result.now (sym (c.loop-k.invariant.behind c.loop-k.k (omega arith)) ∙ here)).0

pub write-requires-clause-next : goal.write-requires-clause-next
write-requires-clause-next c =
    let l : c.loop-k.k < length c.args.memories.now.items = grind (arith, c.loop-k-test.true, c.len-k-end.ensures) in
    let here : slice_get c.loop-k.memories.items c.loop-k.k ≡ Some c.index_mut.result.now = slice_get-get_or c.loop-k.memories.items c.loop-k.k
    c.index_mut.result.now (omega (arith, l, c.loop-k.invariant.long)) ∙ ap (λ (x : Memory). Some x) (sym c.index_mut.ensures.value) in
    (c.requires.inside c.loop-k.k c.index_mut.result.now (sym (c.loop-k.invariant.behind c.loop-k.k (omega arith)) ∙ here)).1

pub write-requires-clause-enable : goal.write-requires-clause-enable
write-requires-clause-enable c =
    let l : c.loop-k.k < length c.args.memories.now.items = grind (arith, c.loop-k-test.true, c.len-k-end.ensures) in
    let here : slice_get c.loop-k.memories.items c.loop-k.k ≡ Some c.index_mut.result.now = slice_get-get_or c.loop-k.memories.items c.loop-k.k
    c.index_mut.result.now (omega (arith, l, c.loop-k.invariant.long)) ∙ ap (λ (x : Memory). Some x) (sym c.index_mut.ensures.value) in
    (c.requires.inside c.loop-k.k c.index_mut.result.now (sym (c.loop-k.invariant.behind c.loop-k.k (omega arith)) ∙ here)).2

pub loop-k-init : goal.loop-k-init
loop-k-init c = after_none _ _

pub loop-k-preserved : goal.loop-k-preserved
loop-k-preserved c =
    let l : c.loop-k.k < length c.args.memories.now.items = grind (arith, c.loop-k-test.true, c.len-k-end.ensures) in
    let here : slice_get c.loop-k.memories.items c.loop-k.k ≡ Some c.index_mut.result.now = slice_get-get_or c.loop-k.memories.items c.loop-k.k
    c.index_mut.result.now (omega (arith, l, c.loop-k.invariant.long)) ∙ ap (λ (x : Memory). Some x) (sym c.index_mut.ensures.value) in
    after_more c.args.words.now c.args.memories.now.items c.loop-k.memories.items c.loop-k.k c.index_mut.result.now c.write.new.memory c.loop-k.invariant here
    c.write.ensures.at c.write.ensures.next c.write.ensures.enable c.write.ensures.words

pub returns : goal.returns
returns c =
    let past : length c.args.memories.now.items ≤ c.loop-k.k = grind (arith, c.loop-k-test.false, c.len-k-end.ensures) in
    record {
      long = c.loop-k.invariant.long;
      written = λ k m found.
          let b : k < length c.args.memories.now.items = slice_get_within c.args.memories.now.items k m found in
          c.loop-k.invariant.before k m (omega arith) found;
    }
