-- One bundle more, and the growth so far.
use Rattle.std.proofs.Common.{◌≡◌, length, take, arith}
use Rattle.std.proofs.lemmas.List.{length-take-le, take_all, take_more}
use Rattle.ae_gates.proofs.Adding.{grows_refl}
use Rattle.ae_lower.proofs.Growing.{by_trans, keeps_none, spends_none, spends_trans, spends_up, room_behind}
use Rattle.ae_lower.proofs.Delaying.{delay_more, delay_most, delayed_more, delayed_none, item_at, own_grow}
use Rattle.ae_lower.proofs.items.joined.Goals as goal
use Rattle.ae_clocked.proofs.InRow.{keeps_trans}

pub waited-requires-clause-nets : goal.waited-requires-clause-nets
waited-requires-clause-nets c =
    own_grow c.index-items-k.result c.loop-r.invariant.grows.grows.extends
    (c.requires.nets _ _ (item_at c.args.items.now c.args.chosen.now c.loop-r.r c.index-items-k.result c.requires.below c.loop-r-test.true c.index-items-k.is))

pub waited-requires-clause-rings : goal.waited-requires-clause-rings
waited-requires-clause-rings c = rw c.loop-r.invariant.keeps.rst c.loop-r.invariant.rings

pub returns-clause-grows : goal.returns-clause-grows
returns-clause-grows c =
    let all : take c.loop-r.r c.args.chosen.now ≡ c.args.chosen.now = take_all c.loop-r.r c.args.chosen.now c.loop-r-test.false in
    rw all at c.loop-r.invariant.grows

pub returns-clause-delayed : goal.returns-clause-delayed
returns-clause-delayed c =
    let all : take c.loop-r.r c.args.chosen.now ≡ c.args.chosen.now = take_all c.loop-r.r c.args.chosen.now c.loop-r-test.false in
    rw all at c.loop-r.invariant.delayed

pub returns-clause-belongs : goal.returns-clause-belongs
returns-clause-belongs c = c.loop-r.invariant.belongs

pub returns-clause-keeps : goal.returns-clause-keeps
returns-clause-keeps c = c.loop-r.invariant.keeps

pub returns-clause-rings : goal.returns-clause-rings
returns-clause-rings c = c.loop-r.invariant.rings

pub returns-clause-spends : goal.returns-clause-spends
returns-clause-spends c = c.loop-r.invariant.spends

pub waited-requires-clause-belongs : goal.waited-requires-clause-belongs
waited-requires-clause-belongs c = c.loop-r.invariant.belongs

pub loop-r-init : goal.loop-r-init
loop-r-init c = record {
  belongs = c.requires.belongs;
  keeps = keeps_none c.args.clocks.now;
  grows = record { grows = grows_refl c.args.nl.now; cells = omega arith };
  rings = c.requires.rings;
  spends = spends_none c.args.nl.now c.args.kept.now.left;
  delayed = rw c.new-late.ensures.items (delayed_none _ _ _ _);
}

pub loop-r-preserved : goal.loop-r-preserved
loop-r-preserved c =
    let was = c.loop-r.invariant in
    let made = c.in_ok-bundle.ensures in
    let at = item_at c.args.items.now c.args.chosen.now c.loop-r.r c.index-items-k.result c.requires.below c.loop-r-test.true c.index-items-k.is in
    let many : length (take c.loop-r.r c.args.chosen.now) ≡ c.loop-r.r = length-take-le c.loop-r.r c.args.chosen.now (omega (arith, c.loop-r-test.true)) in
    record {
      belongs = made.belongs;
      keeps = keeps_trans was.keeps made.keeps;
      grows = by_trans _ (delay_more c.args.items.now c.args.waits.now c.args.chosen.now c.loop-r.r c.index-items-k.result at c.requires.long
          c.loop-r-test.true) was.grows made.grows;
      rings = rw was.keeps.rst at made.rings;
      spends = spends_up (omega arith) (omega arith) (spends_trans was.spends made.spends);
      delayed = rw (c.in_ok-push.ensures.items, take_more c.args.chosen.now c.loop-r.r 0 c.loop-r-test.true)
          (delayed_more _ _ _ _ c.args.items.now c.args.waits.now c.loop-r.r _ _ c.loop-r.late.items c.index-items-k.result c.in_ok-bundle.bundle
          many was.grows.grows.extends made.grows.grows.extends at made.nets (rw was.keeps.rst at made.late) was.delayed);
    }

pub waited-requires-clause-room : goal.waited-requires-clause-room
waited-requires-clause-room c =
    room_behind _ (delay_most c.args.items.now c.args.waits.now c.args.chosen.now c.loop-r.r c.index-items-k.result
    (item_at c.args.items.now c.args.chosen.now c.loop-r.r c.index-items-k.result c.requires.below c.loop-r-test.true c.index-items-k.is) c.requires.long
    c.loop-r-test.true) c.loop-r.invariant.grows c.requires.room
