-- One level more.
use Rattle.std.proofs.Common.{◌≡◌, ◌^◌, ◌<◌, length, ◌∙◌, arith}
use Rattle.ae_fold.proofs.Looping.{nets_grow}
use Rattle.ae_fold.specs.Folding.{products_in}
use Rattle.ae_scan.specs.Sweeps.{AreJoins}
use Rattle.ae_scan.proofs.Sweeping.{adds_level, joins_nets, less_more, no_levels, reach_more, reach_small, reach_whole, windowed_end, windowed_more, windowed_none, level_room}
use Rattle.ae_scan.proofs.sweep.sweep.Goals as goal

pub loop-i-init : goal.loop-i-init
loop-i-init c = record {
  adds = no_levels _ c.args.lanes c.args.stride (products_in c.args.folds.now);
  less = omega arith;
  reach = omega arith;
  nets = c.requires.nets;
  long = c.requires.long;
  windows = windowed_none _ _ _ _ _;
}

pub level-requires-clause-nets : goal.level-requires-clause-nets
level-requires-clause-nets c = rw c.deref.ensures.value c.loop-i.invariant.nets

pub level-requires-clause-whole : goal.level-requires-clause-whole
level-requires-clause-whole c =
    reach_whole c.args.folds.now c.args.stride c.loop-i.i c.loop-i.reach c.requires.folds.some c.requires.whole c.loop-i.invariant.reach

pub overflow_mul-reach : goal.overflow_mul-reach
overflow_mul-reach c =
    let low : 2 ^ c.loop-i.i < c.args.lanes = c.requires.least c.loop-i.i c.loop-i-test.true in
    omega (arith, reach_small c.args.lanes c.args.stride c.loop-i.i c.loop-i.reach c.loop-i.invariant.reach low c.requires.few c.requires.small)

pub loop-i-preserved : goal.loop-i-preserved
loop-i-preserved c =
    let old = c.loop-i.invariant in
    let more = c.in_ok-last.ensures in
    let low : 2 ^ c.loop-i.i < c.args.lanes = c.requires.least c.loop-i.i c.loop-i-test.true in
    let joins : AreJoins c.level.new.nl.cells c.args.folds.now c.loop-i.last.items c.loop-i.reach c.in_ok-last.last.items = rw c.deref.ensures.value at
    more.joins in
    let long : length c.in_ok-last.last.items ≡ length c.loop-i.last.items = rw c.deref.ensures.value at more.long in
    record {
      adds = adds_level c.args.lanes c.args.stride c.loop-i.i c.loop-i.reach _ _ old.less old.reach old.long low old.adds
          (rw c.deref.ensures.value at more.adds);
      less = less_more c.args.lanes c.args.stride c.loop-i.i old.less low;
      reach = reach_more c.args.stride c.loop-i.i c.loop-i.reach old.reach;
      nets = joins_nets _ _ _ _ _ joins;
      long = long ∙ old.long;
      windows = windowed_more _ _ c.args.folds.now c.args.stride c.args.lanes c.args.nets.items c.loop-i.i c.loop-i.reach c.loop-i.last.items
          c.in_ok-last.last.items more.adds.grows.extends c.requires.folds c.requires.whole
          (nets_grow old.adds.grows.extends c.requires.nets) c.requires.long c.requires.some (long ∙ old.long) old.reach old.windows joins;
    }

pub returns-clause-adds : goal.returns-clause-adds
returns-clause-adds c =
    let e : c.loop-i.i ≡ c.args.levels = omega arith in
    rw e at c.loop-i.invariant.adds

pub returns-clause-words : goal.returns-clause-words
returns-clause-words c =
    let e : c.loop-i.i ≡ c.args.levels = omega arith in
    windowed_end _ c.args.folds.now c.args.stride c.args.lanes c.args.nets.items c.args.levels c.loop-i.last.items c.requires.folds.some c.requires.whole
    c.requires.placed c.requires.deep c.loop-i.invariant.long c.loop-i.invariant.nets (rw e at c.loop-i.invariant.windows)

pub level-requires-clause-room : goal.level-requires-clause-room
level-requires-clause-room c =
    let old = c.loop-i.invariant in
    let part = level_room c.args.lanes c.args.stride c.loop-i.i c.args.levels (length c.loop-i.last.items) old.long c.loop-i-test.true in
    rw c.deref.ensures.value (omega (arith, c.requires.room, old.adds.cells, old.adds.grows.limit, part))
