-- One net more behind the loops.
use Rattle.std.proofs.Common.{◌≡◌, ◌+◌, ◌++◌, ◌∷◌, [], ap, ◌∙◌, arith, refl}
use Rattle.std.proofs.lemmas.List.{length_push}
use Rattle.ae_gates.proofs.Adding.{net_added, adds_same}
use Rattle.ae_fold.proofs.Feeding.{adds_is}
use Rattle.ae_fold.proofs.Looping.{adds_once, fold_op, fold_product, nets_grow, fold_high, fold_low}
use Rattle.ae_fold.proofs.Ending.{back_net, followers_more, loop_there, followers_none}
use Rattle.ae_fold.proofs.slots.followers.Goals as goal

pub follow-requires-clause-net : goal.follow-requires-clause-net
follow-requires-clause-net c = (nets_grow c.loop-q.invariant.adds.grows.extends c.requires.nets).each c.loop-q.q (omega arith)

pub follow-requires-clause-first : goal.follow-requires-clause-first
follow-requires-clause-first c = net_added c.loop-q.invariant.adds c.requires.first

pub follow-requires-clause-back : goal.follow-requires-clause-back
follow-requires-clause-back c =
    back_net _ c.args.folds.now c.args.from c.args.stride c.loop-q.q c.args.loops.now _ c.requires.folds.some c.requires.placed c.requires.whole
    c.requires.lanes
    (λ p one found. net_added c.loop-q.invariant.adds (c.requires.backs p one found))
    (loop_there c.args.loops.now c.args.stride c.loop-q.q c.requires.long c.requires.placed)

pub follow-requires-clause-folds : goal.follow-requires-clause-folds
follow-requires-clause-folds c = fold_op c.args.folds.now c.loop-q.q c.requires.folds

pub loop-q-preserved : goal.loop-q-preserved
loop-q-preserved c =
    let old = c.loop-q.invariant in
    let more = c.in_ok-net.ensures in
    let pushed : c.push.new.self.items ≡ c.loop-q.outs.items ++ c.in_ok-net.net ∷ [] = c.in_ok-push.ensures.items in
    record {
      adds = adds_once c.loop-q.q 10 _ _ (fold_product c.args.folds.now c.loop-q.q c.requires.folds) old.adds more.adds;
      long = rw pushed (length_push c.loop-q.outs.items c.in_ok-net.net ∙ ap (λ n. n + 1) old.long);
      follow = rw pushed
          (followers_more _ _ c.args.folds.now c.args.nets.now c.args.stride _ c.loop-q.q c.args.loops.now c.loop-q.outs.items _ c.in_ok-net.net old.long
          more.adds.grows.extends old.follow
          (loop_there c.args.loops.now c.args.stride c.loop-q.q c.requires.long c.requires.placed) (record { net = more.net; words = more.words }));
    }

pub loop-q-init : goal.loop-q-init
loop-q-init c =
    rw c.new-outs.ensures.items
    (record { adds = adds_is (omega arith) (omega arith) (adds_same _ _ 0 refl); long = refl; follow = followers_none _ _ _ _ _ _ })

pub nonzero_rem-fold : goal.nonzero_rem-fold
nonzero_rem-fold c = omega (arith, c.requires.folds.some)

pub nonzero_rem-q : goal.nonzero_rem-q
nonzero_rem-q c = omega (arith, c.requires.placed)

pub bounds-folds-q : goal.bounds-folds-q
bounds-folds-q c = omega (arith, c.requires.folds.some)

pub bounds-nets-q : goal.bounds-nets-q
bounds-nets-q c = omega (arith, c.requires.last, c.loop-q-test.true)

pub bounds-loops-q : goal.bounds-loops-q
bounds-loops-q c = omega (arith, c.requires.placed, c.requires.long)

pub follow-requires-clause-low : goal.follow-requires-clause-low
follow-requires-clause-low c = fold_low c.args.folds.now c.loop-q.q c.requires.folds

pub follow-requires-clause-high : goal.follow-requires-clause-high
follow-requires-clause-high c = fold_high c.args.folds.now c.loop-q.q c.requires.folds

pub returns-clause-adds : goal.returns-clause-adds
returns-clause-adds c =
    let e : c.loop-q.q ≡ c.args.from = omega arith in
    rw e at c.loop-q.invariant.adds

pub returns-clause-long : goal.returns-clause-long
returns-clause-long c = omega (arith, c.loop-q.invariant.long)

pub returns-clause-follow : goal.returns-clause-follow
returns-clause-follow c = c.loop-q.invariant.follow

pub follow-requires-clause-room : goal.follow-requires-clause-room
follow-requires-clause-room c = omega (arith, c.requires.room, c.loop-q.invariant.adds.cells, c.loop-q.invariant.adds.grows.limit, c.loop-q-test.true)
