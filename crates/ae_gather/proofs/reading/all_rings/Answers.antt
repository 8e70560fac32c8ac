-- One ring more.
use Rattle.std.proofs.Common.{◌≡◌, ◌≤◌, ◌+◌, Bool, false, cond, length, take, slice_get, Some, refl, arith}
use Rattle.std.proofs.lemmas.List.{take_all}
use Rattle.std.proofs.lemmas.Option.{get_or_from_slice_get, slice_get_read}
use Rattle.ae_netlist.proofs.Growing.{net_later}
use Rattle.ae_gates.proofs.Added.{own_net}
use Rattle.ae_clocked.proofs.Making.{memories_most, memories_trans}
use Rattle.ae_moves.proofs.Lists.{sum_next, sum_part}
use Rattle.ae_gather.proofs.Ringing.{rings_more}
use Rattle.ae_columns.proofs.Counted.{counted_trans}
use Rattle.ae_gather.proofs.reading.all_rings.Goals as goal
use Rattle.ae_clocked.proofs.InRow.{keeps_trans}

pub ring_of-requires-clause-net : goal.ring_of-requires-clause-net
ring_of-requires-clause-net c = own_net (net_later c.loop-q.invariant.adds.grows.extends (c.requires.nets c.loop-q.q c.loop-q-test.true).1)

pub returns-clause-belongs : goal.returns-clause-belongs
returns-clause-belongs c = c.loop-q.invariant.belongs

pub returns-clause-keeps : goal.returns-clause-keeps
returns-clause-keeps c = c.loop-q.invariant.keeps

pub returns-clause-adds : goal.returns-clause-adds
returns-clause-adds c =
    let end : length c.args.reads.now.rings.items ≤ c.loop-q.q = rw c.requires.long at c.loop-q-test.false in
    let all : take c.loop-q.q c.args.reads.now.rings.items ≡ c.args.reads.now.rings.items = take_all c.loop-q.q c.args.reads.now.rings.items end in
    rw all at c.loop-q.invariant.adds

pub loop-q-preserved : goal.loop-q-preserved
loop-q-preserved c =
    let was = c.loop-q.invariant in
    let new = c.in_ok-ring.ensures in
    let has : Bool = c.index.result.now in
    let there : slice_get c.args.reads.now.rings.items c.loop-q.q ≡ Some has = slice_get_read c.args.reads.now.rings.items
    (length c.args.reads.now.rings.items) c.loop-q.q has refl (omega (arith, c.loop-q-test.true, c.requires.long)) c.index.ensures in
    let more = sum_next (λ (x : Bool). cond x 1 0) c.args.reads.now.rings.items c.loop-q.q has there in
    record {
      belongs = new.belongs;
      keeps = keeps_trans was.keeps new.keeps;
      adds = memories_most _ _ (omega (arith, more)) (omega (arith, more)) (memories_trans was.adds new.adds);
      counted = counted_trans was.counted new.counted;
      rings = rw c.in_ok-push.ensures.items (rings_more c.loop-q.q _ _ _ _ _ _ _ has new.adds.grows.extends was.rings (rw was.keeps.rst at new.ring) new.has
          (get_or_from_slice_get c.args.reads.now.rings.items c.loop-q.q has false there));
    }

pub ring_of-requires-clause-room : goal.ring_of-requires-clause-room
ring_of-requires-clause-room c =
    let has : Bool = c.index.result.now in
    let there : slice_get c.args.reads.now.rings.items c.loop-q.q ≡ Some has = slice_get_read c.args.reads.now.rings.items
    (length c.args.reads.now.rings.items) c.loop-q.q has refl (omega (arith, c.loop-q-test.true, c.requires.long)) c.index.ensures in
    let more = sum_next (λ (x : Bool). cond x 1 0) c.args.reads.now.rings.items c.loop-q.q has there in
    let part = sum_part (λ (x : Bool). cond x 1 0) c.args.reads.now.rings.items (c.loop-q.q + 1) in
    omega (arith, c.requires.room, c.loop-q.invariant.adds.cells, c.loop-q.invariant.adds.grows.limit, more, part)
