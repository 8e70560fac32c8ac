-- One read more.
use Rattle.std.proofs.Common.{◌<◌, length, None, arith}
use Rattle.std.proofs.lemmas.Option.{slice_get-get_or}
use Rattle.ae_moves.proofs.Lists.{sum_next, sum_part}
use Rattle.ae_gather.specs.Counts.{reader_registers}
use Rattle.ae_columns.proofs.Counted.{counted_most, counted_trans}
use Rattle.ae_gates.proofs.Adding.{adds_most, adds_trans, net_added}
use Rattle.ae_gather.proofs.Ringing.{reads_more, reads_whole, rings_grow}
use Rattle.ae_gather.proofs.reading.all_reads.Goals as goal

pub read_net-requires-clause-rings : goal.read_net-requires-clause-rings
read_net-requires-clause-rings c = (c.requires.rings.0, rings_grow c.loop-q.invariant.adds.grows.extends c.requires.rings.1)

pub loop-q-preserved : goal.loop-q-preserved
loop-q-preserved c =
    let was = c.loop-q.invariant in
    let new = c.in_ok-net.ensures in
    record {
      adds = adds_most _ (omega arith) (adds_trans was.adds new.adds);
      counted = (let own = slice_get-get_or c.args.reads.now.from.items c.loop-q.q None (omega (arith, c.loop-q-test.true, c.len-q-end.ensures)) in
          counted_most _ _ (omega (arith, sum_next (reader_registers c.args.reads.now.rings.items) c.args.reads.now.from.items c.loop-q.q _ own)) (omega arith)
          (counted_trans was.counted new.counted));
      reads = λ rst rings. rw c.in_ok-push.ensures.items (reads_more c.loop-q.q _ _ _ _ _ _ _ _ new.adds.grows.extends (was.reads rst rings)
          (new.reads rst (rings_grow was.adds.grows.extends rings)));
    }

pub returns-clause-reads : goal.returns-clause-reads
returns-clause-reads c = λ rst rings. reads_whole c.loop-q.q _ _ _ _ _ _ _ (omega (arith, c.loop-q-test.false)) (c.loop-q.invariant.reads rst rings)

pub returns-clause-counted : goal.returns-clause-counted
returns-clause-counted c =
    counted_most _ _ (sum_part (reader_registers c.args.reads.now.rings.items) c.args.reads.now.from.items c.loop-q.q) (omega arith)
    c.loop-q.invariant.counted

pub read_net-requires-clause-place : goal.read_net-requires-clause-place
read_net-requires-clause-place c =
    let l : c.loop-q.q < length c.args.reads.now.from.items = omega (arith, c.loop-q-test.true, c.len-q-end.ensures) in
    net_added c.loop-q.invariant.adds (c.requires.places c.loop-q.q l)

pub read_net-requires-clause-room : goal.read_net-requires-clause-room
read_net-requires-clause-room c =
    let l : c.loop-q.q < length c.args.reads.now.from.items = omega (arith, c.loop-q-test.true, c.len-q-end.ensures) in
    omega (arith, c.requires.room, c.loop-q.invariant.adds.cells, c.loop-q.invariant.adds.grows.limit, l)
