-- One loop more.
use Rattle.std.proofs.Common.{◌≤◌, ◌*◌, ◌≡◌, ◌+◌, ◌-◌, ◌++◌, ◌∷◌, [], length, ap, ◌∙◌, refl, arith}
use Rattle.std.proofs.lemmas.List.{length_push}
use Rattle.ae_netlist.proofs.Growing.{net_later}
use Rattle.ae_gates.proofs.Adding.{adds_same}
use Rattle.ae_fold.proofs.Storing.{may_place_grows, stores_is, stores_of, stores_once, turns_grow}
use Rattle.ae_fold.proofs.Looping.{backs_more, backs_none, fold_product, loops_more, loops_none, nets_grow, fold_high, fold_low, fold_op}
use Rattle.std.proofs.Math.Nat.{mul-le-mul_right}
use Rattle.ae_fold.proofs.loops.accumulate_all.Goals as goal

pub loop-p-init : goal.loop-p-init
loop-p-init c =
    rw c.new-loops.ensures.items
    (record {
      adds = stores_is (omega arith) (omega arith) (omega arith) (stores_of (adds_same _ _ 0 refl));
      long = refl;
      backs = backs_none _ _ _;
      loops = λ rst turns. loops_none _ _ _ _ _ _ _;
    })

pub accumulate-requires-clause-net : goal.accumulate-requires-clause-net
accumulate-requires-clause-net c = (nets_grow c.loop-p.invariant.adds.grows.extends c.requires.nets).each (c.args.from + c.loop-p.p) (omega arith)

pub loop-p-preserved : goal.loop-p-preserved
loop-p-preserved c =
    let old = c.loop-p.invariant in
    let more = c.in_ok-one.ensures in
    let pushed : c.push.new.self.items ≡ c.loop-p.loops.items ++ c.in_ok-one.one ∷ [] = c.in_ok-push.ensures.items in
    record {
      adds = stores_once c.loop-p.p (c.args.inner + 9) _ _ _ (fold_product c.args.folds.now (c.args.from + c.loop-p.p) c.requires.folds) old.adds more.adds;
      long = rw pushed (length_push c.loop-p.loops.items c.in_ok-one.one ∙ ap (λ n. n + 1) old.long);
      backs = rw pushed (backs_more _ _ _ c.args.from c.loop-p.p c.loop-p.loops.items c.in_ok-one.one old.long more.adds.grows.extends old.backs more.back);
      loops = λ rst turns.
          let turning = turns_grow _ _ rst c.args.ring old.adds.grows.extends turns in
          rw pushed
          (loops_more _ _ rst _ c.args.nets.now c.args.from _ _ c.loop-p.p c.loop-p.loops.items c.in_ok-one.one old.long more.adds.grows.extends
          (old.loops rst turns) (record { net = more.net; old = more.back; words = more.words rst turning; late = more.late rst turning }));
    }

pub overflow_sub-p-end : goal.overflow_sub-p-end
overflow_sub-p-end c = omega (arith, c.requires.within)

pub overflow_add-fold : goal.overflow_add-fold
overflow_add-fold c = omega (arith, c.requires.within, c.loop-p-test.true)

pub overflow_add-from : goal.overflow_add-from
overflow_add-from c = omega (arith, c.requires.within, c.loop-p-test.true)

pub nonzero_rem-fold : goal.nonzero_rem-fold
nonzero_rem-fold c = omega (arith, c.requires.folds.some)

pub bounds-folds-from : goal.bounds-folds-from
bounds-folds-from c = omega (arith, c.requires.folds.some)

pub bounds-nets-from : goal.bounds-nets-from
bounds-nets-from c = omega (arith, c.requires.within, c.loop-p-test.true)

pub accumulate-requires-clause-low : goal.accumulate-requires-clause-low
accumulate-requires-clause-low c = fold_low c.args.folds.now (c.args.from + c.loop-p.p) c.requires.folds

pub accumulate-requires-clause-high : goal.accumulate-requires-clause-high
accumulate-requires-clause-high c = fold_high c.args.folds.now (c.args.from + c.loop-p.p) c.requires.folds

pub accumulate-requires-clause-folds : goal.accumulate-requires-clause-folds
accumulate-requires-clause-folds c = fold_op c.args.folds.now (c.args.from + c.loop-p.p) c.requires.folds

pub accumulate-requires-clause-first : goal.accumulate-requires-clause-first
accumulate-requires-clause-first c = net_later c.loop-p.invariant.adds.grows.extends c.requires.first

pub accumulate-requires-clause-place : goal.accumulate-requires-clause-place
accumulate-requires-clause-place c = may_place_grows _ _ _ c.args.ring c.loop-p.invariant.adds.grows.extends c.requires.place

pub accumulate-requires-clause-lasting : goal.accumulate-requires-clause-lasting
accumulate-requires-clause-lasting c = c.requires.lasting

pub returns-clause-adds : goal.returns-clause-adds
returns-clause-adds c =
    let e : c.loop-p.p ≡ length c.args.nets.now - c.args.from = omega arith in
    rw e at c.loop-p.invariant.adds

pub returns-clause-long : goal.returns-clause-long
returns-clause-long c = omega (arith, c.loop-p.invariant.long)

pub returns-clause-backs : goal.returns-clause-backs
returns-clause-backs c = c.loop-p.invariant.backs

pub returns-clause-loops : goal.returns-clause-loops
returns-clause-loops c = c.loop-p.invariant.loops

pub accumulate-requires-clause-room : goal.accumulate-requires-clause-room
accumulate-requires-clause-room c =
    let part : (c.loop-p.p + 1) * (c.args.inner + 9) ≤ (length c.args.nets.now - c.args.from) * (c.args.inner + 9) = mul-le-mul_right (c.args.inner + 9)
    (omega (arith, c.loop-p-test.true)) in
    omega (arith, c.requires.room, c.loop-p.invariant.adds.cells, c.loop-p.invariant.adds.grows.limit, part)
