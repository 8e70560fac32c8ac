-- One level more.
use Rattle.std.proofs.Common.{◌≡◌, ◌-◌, ◌*◌, ◌^◌, ◌≤◌, length, refl, arith}
use Rattle.ae_fold.proofs.Feeding.{adds_is}
use Rattle.ae_fold.proofs.Blocks.{turns_of}
use Rattle.ae_reduce.specs.Trees.{ArePairs}
use Rattle.ae_reduce.proofs.Treeing.{adds_level, alike_end, alike_more, halved, halves, pairs_nets, level_room}
use Rattle.ae_reduce.proofs.tree.tree.Goals as goal

pub level-requires-clause-nets : goal.level-requires-clause-nets
level-requires-clause-nets c = rw c.deref.ensures.value c.loop-i.invariant.nets

pub level-requires-clause-long : goal.level-requires-clause-long
level-requires-clause-long c = rw c.deref.ensures.value c.loop-i.invariant.long

pub loop-i-preserved : goal.loop-i-preserved
loop-i-preserved c =
    let old = c.loop-i.invariant in
    let more = c.in_ok-last.ensures in
    let h = halves c.loop-i.count c.args.stride in
    let pairs : ArePairs c.level.new.nl.cells c.args.folds.now c.loop-i.last.items c.args.stride c.in_ok-last.last.items = rw c.deref.ensures.value at
    more.pairs in
    record {
      adds = adds_level c.args.lanes c.loop-i.count c.args.stride c.loop-i.i _ old.less old.adds more.adds;
      less = omega (arith, old.less);
      nets = pairs_nets _ _ _ _ _ pairs;
      long = more.long;
      some = omega (arith, old.some);
      few = omega (arith, old.few);
      deep = halved c.loop-i.count c.args.levels c.loop-i.i c.loop-i-test.true old.deep;
      alike = alike_more _ _ c.args.folds.now _ c.args.stride c.args.lanes c.args.nets.items c.loop-i.count c.loop-i.i c.loop-i.last.items
          c.in_ok-last.last.items more.adds.grows.extends c.requires.folds (turns_of c.args.stride (length c.args.folds.now) c.requires.whole)
          old.nets old.some old.long more.long old.alike pairs;
    }

pub returns-clause-adds : goal.returns-clause-adds
returns-clause-adds c =
    let e : c.loop-i.i ≡ c.args.levels = omega arith in
    let zero_left : c.args.levels - c.loop-i.i ≡ 0 = omega arith in
    let few : c.loop-i.count ≤ 2 ^ 0 = rw zero_left at c.loop-i.invariant.deep in
    let one : c.loop-i.count ≡ 1 = omega (arith, few, c.loop-i.invariant.some) in
    let s : 1 * c.args.stride ≡ c.args.stride = omega arith in
    let made = rw (e, one, s) at c.loop-i.invariant.adds in
    adds_is (omega arith) refl made

pub returns-clause-long : goal.returns-clause-long
returns-clause-long c =
    let zero_left : c.args.levels - c.loop-i.i ≡ 0 = omega arith in
    let few : c.loop-i.count ≤ 2 ^ 0 = rw zero_left at c.loop-i.invariant.deep in
    let one : c.loop-i.count ≡ 1 = omega (arith, few, c.loop-i.invariant.some) in
    let long : length c.loop-i.last.items ≡ 1 * c.args.stride = rw one at c.loop-i.invariant.long in
    omega arith

pub returns-clause-words : goal.returns-clause-words
returns-clause-words c =
    let e : c.loop-i.i ≡ c.args.levels = omega arith in
    let zero_left : c.args.levels - c.loop-i.i ≡ 0 = omega arith in
    let few : c.loop-i.count ≤ 2 ^ 0 = rw zero_left at c.loop-i.invariant.deep in
    let one : c.loop-i.count ≡ 1 = omega (arith, few, c.loop-i.invariant.some) in
    let long : length c.loop-i.last.items ≡ 1 * c.args.stride = rw one at c.loop-i.invariant.long in
    alike_end _ c.args.folds.now _ c.args.stride c.args.lanes c.args.nets.items c.loop-i.count c.args.levels
    ((c.args.lanes - 1) * c.args.stride) c.loop-i.last.items c.requires.folds.some (turns_of c.args.stride (length c.args.folds.now) c.requires.whole)
    one (omega arith) refl c.loop-i.invariant.nets (rw e at c.loop-i.invariant.alike)

pub level-requires-clause-room : goal.level-requires-clause-room
level-requires-clause-room c =
    let old = c.loop-i.invariant in
    let part = level_room c.args.lanes c.loop-i.count c.args.stride c.loop-i.i c.args.levels old.less c.loop-i-test.true in
    omega (arith, c.requires.room, old.adds.cells, old.adds.grows.limit, part)
