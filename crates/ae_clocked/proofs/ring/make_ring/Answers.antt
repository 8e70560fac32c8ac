-- A counter is found or made, and a memory at it.
use Rattle.std.proofs.Common.{◌≡◌, arith, eq-eqb}
use Rattle.ae_netlist.proofs.Growing.{extends_trans, net_later}
use Rattle.ae_netlist.proofs.Carried.{every_from}
use Rattle.ae_clocked.proofs.Belonging.{belongs_grows, phase_keeps}
use Rattle.ae_clocked.proofs.Making.{counter_net, counter_counts, memories_after}
use Rattle.ae_clocked.proofs.ring.make_ring.Goals as goal

pub store-requires-clause-place : goal.store-requires-clause-place
store-requires-clause-place c =
    counter_net _ _ _ c.bits_for-bits.result _ c.ring_depth-depth.ensures.holds (omega (arith, c.bits_for-bits.ensures.low)) c.in_ok-counter.ensures.counts

pub store-requires-clause-net : goal.store-requires-clause-net
store-requires-clause-net c = net_later c.in_ok-counter.ensures.adds.grows.extends c.requires.net

pub returns-clause-adds : goal.returns-clause-adds
returns-clause-adds c = memories_after c.in_ok-counter.ensures.adds c.in_ok-memory.ensures.adds

pub returns-clause-belongs : goal.returns-clause-belongs
returns-clause-belongs c = belongs_grows _ _ _ c.in_ok-memory.ensures.adds.grows c.in_ok-counter.ensures.belongs

pub returns-clause-keeps : goal.returns-clause-keeps
returns-clause-keeps c =
    phase_keeps _ _ _ c.in_ok-counter.counter c.in_ok-counter.ensures.rst c.in_ok-counter.ensures.keeps (λ n found. (c.in_ok-counter.ensures.again n found).2)

pub returns-clause-ring : goal.returns-clause-ring
returns-clause-ring c =
    let place = counter_net _ _ _ c.bits_for-bits.result _ c.ring_depth-depth.ensures.holds
    (omega (arith, c.bits_for-bits.ensures.low)) c.in_ok-counter.ensures.counts in
    let counts = counter_counts _ _ _ c.bits_for-bits.result _ c.ring_depth-depth.ensures.holds c.in_ok-counter.ensures.counts in
    let grows = c.in_ok-memory.ensures.adds.grows.extends in
    record {
      low = c.bits_for-bits.ensures.low;
      high = c.bits_for-bits.ensures.high;
      reaches = c.bits_for-bits.ensures.enough;
      least = c.bits_for-bits.ensures.least;
      memory = c.in_ok-memory.ensures.memory;
      counter = net_later grows place;
      ring = record {
        counts = λ all e run is start reset k l. counts all (extends_trans grows e) run is start reset k l;
        takes = every_from _ _ _ c.in_ok-memory.ensures.store;
      };
    }

pub returns-clause-far : goal.returns-clause-far
returns-clause-far c = λ most.
    let depth : c.ring_depth-depth.result ≡ 4096 = omega (
      arith,
      c.ring_depth-depth.ensures.holds,
      c.ring_depth-depth.ensures.most,
      c.bits_for-bits.ensures.enough,
    ) in
    rw (eq-eqb _ _ depth) at (c.in_ok-counter.ensures.keeps (record { period = 4096; offset = 0 }))

pub returns-clause-again : goal.returns-clause-again
returns-clause-again c = λ net most found.
    let depth : c.ring_depth-depth.result ≡ 4096 = omega (
      arith,
      c.ring_depth-depth.ensures.holds,
      c.ring_depth-depth.ensures.most,
      c.bits_for-bits.ensures.enough,
    ) in
    (c.in_ok-counter.ensures.again net (rw depth found)).2

pub store-requires-clause-room : goal.store-requires-clause-room
store-requires-clause-room c = omega (arith, c.requires.room, c.in_ok-counter.ensures.adds.cells, c.in_ok-counter.ensures.adds.grows.limit)
