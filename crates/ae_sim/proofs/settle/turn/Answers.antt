-- The registers before the place have turned, and the others stand as they were.
use Rattle.std.proofs.Common.{◌≡◌, ◌<◌, ◌≤◌, ◌∙◌, length, Some, slice_get, get_or, ap, sym, arith}
use Rattle.std.proofs.lemmas.Option.{slice_get-get_or, get_or_from_slice_get}
use Rattle.ae_sim.specs.declared.plan.Register.{Register}
use Rattle.ae_sim.specs.Planned.{turned}
use Rattle.ae_sim.proofs.Edges.{still, turn_more, all_turned}
use Rattle.ae_sim.proofs.settle.turn.Goals as goal

pub bounds-words-next : goal.bounds-words-next
bounds-words-next c =
    let l : c.loop-k.k < length c.args.registers.now.items = grind (arith, c.loop-k-test.true, c.len-k-end.ensures) in
    let found : slice_get c.args.registers.now.items c.loop-k.k ≡ Some
    (get_or c.args.registers.now.items c.loop-k.k c.index.result.now) = slice_get-get_or c.args.registers.now.items c.loop-k.k c.index.result.now l in
    let here : slice_get c.loop-k.registers.items c.loop-k.k ≡ Some (get_or c.args.registers.now.items c.loop-k.k c.index.result.now) =
    ap (λ xs. slice_get xs c.loop-k.k) c.loop-k.invariant ∙ (still (turned c.args.words.now) c.args.registers.now.items c.loop-k.k ∙ found) in
    let same : c.index.result.now ≡ get_or c.args.registers.now.items c.loop-k.k c.index.result.now = c.index.ensures ∙
    get_or_from_slice_get c.loop-k.registers.items c.loop-k.k _ c.index.result.now here in
    c.requires.inside c.loop-k.k c.index.result.now (found ∙ ap (λ (x : Register). Some x) (sym same))

pub loop-k-preserved : goal.loop-k-preserved
loop-k-preserved c =
    let l : c.loop-k.k < length c.args.registers.now.items = grind (arith, c.loop-k-test.true, c.len-k-end.ensures) in
    turn_more c.args.words.now c.args.registers.now.items c.loop-k.registers.items c.loop-k.k c.index.result.now c.index_mut.result.now l c.loop-k.invariant
    c.index.ensures c.index_mut.ensures.value

pub returns : goal.returns
returns c =
    let l : length c.args.registers.now.items ≤ c.loop-k.k = grind (arith, c.loop-k-test.false, c.len-k-end.ensures) in
    all_turned (turned c.args.words.now) c.args.registers.now.items c.loop-k.registers.items c.loop-k.k l c.loop-k.invariant
