-- The loops, the nets behind them, and all nets in order.
use Rattle.std.proofs.Common.{◌≡◌, ◌-◌, length, ◌∙◌, arith}
use Rattle.ae_fold.specs.Folding.{products_in}
use Rattle.ae_fold.proofs.Looping.{loops_grow, nets_grow}
use Rattle.ae_fold.proofs.Ending.{loops_adds}
use Rattle.ae_netlist.proofs.Growing.{net_later}
use Rattle.ae_fold.proofs.slots.looped.Goals as goal

pub followers-requires-clause-nets : goal.followers-requires-clause-nets
followers-requires-clause-nets c = nets_grow c.in_ok-loops.ensures.adds.grows.extends c.requires.nets

pub returns-clause-adds : goal.returns-clause-adds
returns-clause-adds c =
    loops_adds _ _ _ c.args.from c.args.stride c.args.inner (length c.args.nets.now)
    (products_in c.args.folds.now) _ c.requires.last c.in_ok-loops.ensures.adds c.in_ok-outs.ensures.adds

pub returns-clause-looped : goal.returns-clause-looped
returns-clause-looped c = λ rst turns. record {
  loops = c.in_ok-loops.loops.items;
  followers = c.in_ok-outs.outs.items;
  long = c.in_ok-loops.ensures.long ∙ omega (arith, c.requires.last);
  before = c.in_ok-outs.ensures.long;
  over = loops_grow c.in_ok-outs.ensures.adds.grows.extends (c.in_ok-loops.ensures.loops rst turns);
  follow = rw c.deref.ensures.value at c.in_ok-outs.ensures.follow;
  is = rw c.deref-2.ensures.value at c.in_ok-append_loops.ensures.ok;
}

pub accumulate_all-requires-clause-nets : goal.accumulate_all-requires-clause-nets
accumulate_all-requires-clause-nets c = c.requires.nets

pub accumulate_all-requires-clause-within : goal.accumulate_all-requires-clause-within
accumulate_all-requires-clause-within c = omega (arith, c.requires.last)

pub followers-requires-clause-folds : goal.followers-requires-clause-folds
followers-requires-clause-folds c = c.requires.folds

pub followers-requires-clause-first : goal.followers-requires-clause-first
followers-requires-clause-first c = net_later c.in_ok-loops.ensures.adds.grows.extends c.requires.first

pub followers-requires-clause-backs : goal.followers-requires-clause-backs
followers-requires-clause-backs c = λ p one found. c.in_ok-loops.ensures.backs p one (rw c.deref.ensures.value at found)

pub followers-requires-clause-long : goal.followers-requires-clause-long
followers-requires-clause-long c = rw c.deref.ensures.value (c.in_ok-loops.ensures.long ∙ omega (arith, c.requires.last))

pub accumulate_all-requires-clause-room : goal.accumulate_all-requires-clause-room
accumulate_all-requires-clause-room c =
    let e : length c.args.nets.now - c.args.from ≡ c.args.stride = omega (arith, c.requires.last) in
    rw e (omega (arith, c.requires.room))

pub followers-requires-clause-room : goal.followers-requires-clause-room
followers-requires-clause-room c =
    let e : length c.args.nets.now - c.args.from ≡ c.args.stride = omega (arith, c.requires.last) in
    let made = rw e at c.in_ok-loops.ensures.adds in
    omega (arith, c.requires.room, made.cells, made.grows.limit)
