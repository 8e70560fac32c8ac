-- One pair more.
use Rattle.std.proofs.Common.{◌≡◌, ◌+◌, ◌*◌, ◌/◌, ◌++◌, ◌∷◌, [], min, length, ap, ◌∙◌, arith, ℕ, ◌≤◌, refl, sym}
use Rattle.std.proofs.lemmas.List.{length_push}
use Rattle.ae_fold.proofs.Feeding.{adds_is}
use Rattle.ae_fold.proofs.Looping.{fold_product, nets_grow, fold_low, fold_high, fold_op}
use Rattle.ae_reduce.proofs.Treeing.{adds_pair, halves, left_below, left_net, pairs_more, least, right_net, pairs_none, pair_room}
use Rattle.std.proofs.Math.Nat.{mul-le-mul_right}
use Rattle.std.proofs.lemmas.Nat.{div-add-mod'}
use Rattle.ae_netlist.specs.Circuit.{Circuit}
use Rattle.ae_gates.specs.Cells.{Adds}
use Rattle.ae_gates.proofs.Adding.{adds_same}
use Rattle.ae_fold.specs.Folding.{products_in}
use Rattle.ae_reduce.proofs.tree.level.Goals as goal

adds_first : (a : Circuit) (n muls : ℕ) → Adds a a (0 + 8 * min 0 n) (min 0 n * muls)
adds_first a n muls =
    let z : min 0 n ≡ 0 = omega arith in
    let none : 0 * muls ≡ 0 = omega arith in
    adds_is (omega arith) (sym (ap (λ k. k * muls) z ∙ none)) (adds_same a a 0 refl)

lanes_small : (lanes stride : ℕ) → lanes ≤ 4096 → stride ≤ 16384 → lanes * stride ≤ 67108864
lanes_small lanes stride few small = let up : lanes * stride ≤ 4096 * stride = mul-le-mul_right stride few in omega arith

level_small : (lanes stride : ℕ) → lanes ≤ 4096 → stride ≤ 16384 → (lanes + 1) / 2 * stride ≤ 67108864
level_small lanes stride few small = lanes_small ((lanes + 1) / 2) stride (omega arith) small

pub pair-requires-clause-there : goal.pair-requires-clause-there
pair-requires-clause-there c = omega (arith, left_below c.args.lanes c.args.stride c.loop-q.q c.requires.placed c.loop-q-test.true)

pub pair-requires-clause-first : goal.pair-requires-clause-first
pair-requires-clause-first c =
    left_net _ c.args.folds.now c.args.nets.now c.args.lanes c.args.stride c.loop-q.q c.requires.folds
    (nets_grow c.loop-q.invariant.adds.grows.extends c.requires.nets) c.requires.long c.requires.placed c.requires.whole c.loop-q-test.true

pub pair-requires-clause-second : goal.pair-requires-clause-second
pair-requires-clause-second c = λ l.
    right_net _ c.args.folds.now c.args.nets.now c.args.stride c.loop-q.q c.requires.folds
    (nets_grow c.loop-q.invariant.adds.grows.extends c.requires.nets) c.requires.whole l

pub loop-q-preserved : goal.loop-q-preserved
loop-q-preserved c =
    let old = c.loop-q.invariant in
    let more = c.in_ok-net.ensures in
    let pushed : c.push.new.self.items ≡ c.loop-q.outs.items ++ c.in_ok-net.net ∷ [] = c.in_ok-push.ensures.items in
    record {
      adds = adds_pair c.args.lanes c.args.stride c.loop-q.q (length c.args.nets.now) _ _ c.requires.placed c.requires.long
          (fold_product c.args.folds.now c.loop-q.q c.requires.folds) old.adds more.adds;
      long = rw pushed (length_push c.loop-q.outs.items c.in_ok-net.net ∙ ap (λ n. n + 1) old.long);
      pairs = rw pushed (pairs_more _ _ c.args.folds.now c.args.nets.now c.args.stride c.loop-q.q c.loop-q.outs.items c.in_ok-net.net old.long
          more.adds.grows.extends old.pairs more.pair);
    }

pub returns-clause-adds : goal.returns-clause-adds
returns-clause-adds c =
    let h = halves c.args.lanes c.args.stride in
    let e : c.loop-q.q ≡ (c.args.lanes + 1) / 2 * c.args.stride = omega arith in
    let m : min c.loop-q.q (c.args.lanes / 2 * c.args.stride) ≡ c.args.lanes / 2 * c.args.stride = least c.args.lanes c.args.stride c.loop-q.q e in
    rw (← e) (rw m at c.loop-q.invariant.adds)

pub loop-q-init : goal.loop-q-init
loop-q-init c =
    rw c.new-outs.ensures.items
    (record { adds = adds_first _ (c.args.lanes / 2 * c.args.stride) (products_in c.args.folds.now); long = refl; pairs = pairs_none _ _ _ _ })

pub overflow_add-q-end : goal.overflow_add-q-end
overflow_add-q-end c = omega (arith, c.requires.few)

pub overflow_mul-q-end : goal.overflow_mul-q-end
overflow_mul-q-end c = omega (arith, level_small c.args.lanes c.args.stride c.requires.few c.requires.small)

pub nonzero_rem-fold : goal.nonzero_rem-fold
nonzero_rem-fold c = omega (arith, c.requires.folds.some)

pub bounds-folds-q : goal.bounds-folds-q
bounds-folds-q c = omega (arith, c.requires.folds.some)

pub nonzero_div-left : goal.nonzero_div-left
nonzero_div-left c = omega (arith, c.requires.placed)

pub overflow_mul-left : goal.overflow_mul-left
overflow_mul-left c =
    omega (arith, div-add-mod' c.loop-q.q c.args.stride, c.loop-q-test.true, level_small c.args.lanes c.args.stride c.requires.few c.requires.small)

pub overflow_add-left : goal.overflow_add-left
overflow_add-left c =
    omega (
      arith,
      left_below c.args.lanes c.args.stride c.loop-q.q c.requires.placed c.loop-q-test.true,
      lanes_small c.args.lanes c.args.stride c.requires.few
          c.requires.small,
    )

pub overflow_add-left-in-loop-q : goal.overflow_add-left-in-loop-q
overflow_add-left-in-loop-q c =
    omega (
      arith,
      left_below c.args.lanes c.args.stride c.loop-q.q c.requires.placed c.loop-q-test.true,
      lanes_small c.args.lanes c.args.stride c.requires.few
          c.requires.small,
      c.requires.small,
    )

pub pair-requires-clause-low : goal.pair-requires-clause-low
pair-requires-clause-low c = fold_low c.args.folds.now c.loop-q.q c.requires.folds

pub pair-requires-clause-high : goal.pair-requires-clause-high
pair-requires-clause-high c = fold_high c.args.folds.now c.loop-q.q c.requires.folds

pub pair-requires-clause-folds : goal.pair-requires-clause-folds
pair-requires-clause-folds c = fold_op c.args.folds.now c.loop-q.q c.requires.folds

pub returns-clause-long : goal.returns-clause-long
returns-clause-long c = omega (arith, c.loop-q.invariant.long)

pub returns-clause-pairs : goal.returns-clause-pairs
returns-clause-pairs c = c.loop-q.invariant.pairs

pub pair-requires-clause-room : goal.pair-requires-clause-room
pair-requires-clause-room c =
    let part = pair_room c.args.lanes c.args.stride c.loop-q.q (length c.args.nets.now) c.requires.placed c.requires.long c.loop-q-test.true in
    omega (arith, c.requires.room, c.loop-q.invariant.adds.cells, c.loop-q.invariant.adds.grows.limit, part)
