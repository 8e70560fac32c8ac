-- One net more.
use Rattle.std.proofs.Common.{◌≡◌, ◌+◌, ◌++◌, ◌∷◌, [], length, ap, ◌∙◌, arith, ℕ, ◌-◌, ◌*◌, refl, sym}
use Rattle.std.proofs.lemmas.List.{length_push}
use Rattle.ae_fold.proofs.Feeding.{adds_is}
use Rattle.ae_fold.proofs.Looping.{fold_high, fold_low, fold_op, fold_product, nets_grow}
use Rattle.ae_scan.proofs.Sweeping.{adds_join, before_net, joins_more, joins_none}
use Rattle.ae_netlist.specs.Circuit.{Circuit}
use Rattle.ae_gates.specs.Cells.{Adds}
use Rattle.ae_gates.proofs.Adding.{adds_same}
use Rattle.ae_fold.specs.Folding.{products_in}
use Rattle.ae_scan.proofs.sweep.level.Goals as goal

adds_first : (a : Circuit) (reach muls : ℕ) → Adds a a (0 * 9) ((0 - reach) * muls)
adds_first a reach muls =
    let z : 0 - reach ≡ 0 = omega arith in
    let none : 0 * muls ≡ 0 = omega arith in
    adds_is (omega arith) (sym (ap (λ k. k * muls) z ∙ none)) (adds_same a a 0 refl)

pub join-requires-clause-low : goal.join-requires-clause-low
join-requires-clause-low c = fold_low c.args.folds.now c.loop-q.q c.requires.folds

pub join-requires-clause-high : goal.join-requires-clause-high
join-requires-clause-high c = fold_high c.args.folds.now c.loop-q.q c.requires.folds

pub join-requires-clause-folds : goal.join-requires-clause-folds
join-requires-clause-folds c = fold_op c.args.folds.now c.loop-q.q c.requires.folds

pub join-requires-clause-own : goal.join-requires-clause-own
join-requires-clause-own c = (nets_grow c.loop-q.invariant.adds.grows.extends c.requires.nets).each c.loop-q.q c.loop-q-test.true

pub join-requires-clause-before : goal.join-requires-clause-before
join-requires-clause-before c = λ le.
    before_net _ c.args.folds.now c.args.nets.now c.args.reach c.loop-q.q c.requires.folds.some c.requires.whole
    (nets_grow c.loop-q.invariant.adds.grows.extends c.requires.nets) c.loop-q-test.true le

pub loop-q-preserved : goal.loop-q-preserved
loop-q-preserved c =
    let old = c.loop-q.invariant in
    let more = c.in_ok-net.ensures in
    let pushed : c.push.new.self.items ≡ c.loop-q.outs.items ++ c.in_ok-net.net ∷ [] = c.in_ok-push.ensures.items in
    record {
      adds = adds_join c.loop-q.q c.args.reach _ _ (fold_product c.args.folds.now c.loop-q.q c.requires.folds) old.adds more.adds;
      long = rw pushed (length_push c.loop-q.outs.items c.in_ok-net.net ∙ ap (λ n. n + 1) old.long);
      joins = rw pushed (joins_more _ _ c.args.folds.now c.args.nets.now c.args.reach c.loop-q.q c.loop-q.outs.items c.in_ok-net.net old.long
          more.adds.grows.extends old.joins more.join);
    }

pub returns-clause-adds : goal.returns-clause-adds
returns-clause-adds c =
    let e : c.loop-q.q ≡ length c.args.nets.now = omega arith in
    rw (← e) c.loop-q.invariant.adds

pub loop-q-init : goal.loop-q-init
loop-q-init c =
    rw c.new-outs.ensures.items
    (record { adds = adds_first _ c.args.reach (products_in c.args.folds.now); long = refl; joins = joins_none _ _ _ _ })

pub nonzero_rem-fold : goal.nonzero_rem-fold
nonzero_rem-fold c = omega (arith, c.requires.folds.some)

pub bounds-folds-q : goal.bounds-folds-q
bounds-folds-q c = omega (arith, c.requires.folds.some)

pub join-requires-clause-there : goal.join-requires-clause-there
join-requires-clause-there c = c.loop-q-test.true

pub returns-clause-long : goal.returns-clause-long
returns-clause-long c = omega (arith, c.loop-q.invariant.long)

pub returns-clause-joins : goal.returns-clause-joins
returns-clause-joins c = c.loop-q.invariant.joins

pub join-requires-clause-room : goal.join-requires-clause-room
join-requires-clause-room c = omega (arith, c.requires.room, c.loop-q.invariant.adds.cells, c.loop-q.invariant.adds.grows.limit, c.loop-q-test.true)
