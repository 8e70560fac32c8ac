-- A memory, the place so many words behind the counter, and a register of what stands there.
use Rattle.std.proofs.Common.{◌≡◌, ◌+◌, ◌-◌, ◌^◌, arith}
use Rattle.ae_netlist.proofs.Growing.{net_later}
use Rattle.ae_netlist.proofs.Carried.{carries_later}
use Rattle.ae_gates.proofs.Adding.{adds_trans, grows_trans}
use Rattle.ae_gates.proofs.Added.{back, grows_length}
use Rattle.ae_clocked.proofs.Making.{memories_before, memories_most, memory_grows}
use Rattle.ae_fold.proofs.Storing.{ring_later}
use Rattle.ae_fold.proofs.feedback.ringed.Goals as goal

pub store-requires-clause-place : goal.store-requires-clause-place
store-requires-clause-place c = c.requires.place.net

pub constant-requires-clause-fits : goal.constant-requires-clause-fits
constant-requires-clause-fits c = omega (arith, c.from.ensures, c.ring_depth-places.ensures.holds, c.requires.late)

pub sum-requires-clause-left : goal.sum-requires-clause-left
sum-requires-clause-left c =
    net_later (grows_trans c.in_ok-memory.ensures.adds.grows c.in_ok-back.ensures.adds.grows).extends c.requires.place.net

pub sum-requires-clause-right : goal.sum-requires-clause-right
sum-requires-clause-right c = c.in_ok-back.ensures.net

pub look-requires-clause-memory : goal.look-requires-clause-memory
look-requires-clause-memory c =
    memory_grows (grows_trans c.in_ok-back.ensures.adds.grows c.in_ok-place.ensures.adds.grows).extends c.in_ok-memory.ensures.memory

pub look-requires-clause-place : goal.look-requires-clause-place
look-requires-clause-place c = c.in_ok-place.ensures.net

pub delayed-requires-clause-net : goal.delayed-requires-clause-net
delayed-requires-clause-net c = c.in_ok-word.ensures.net

pub returns-clause-adds : goal.returns-clause-adds
returns-clause-adds c =
    memories_most 6 1 (omega arith) (omega arith)
    (memories_before c.in_ok-memory.ensures.adds
    (adds_trans (adds_trans (adds_trans c.in_ok-back.ensures.adds c.in_ok-place.ensures.adds) c.in_ok-word.ensures.adds) c.in_ok-kept.ensures.adds))

pub returns-clause-net : goal.returns-clause-net
returns-clause-net c = c.in_ok-kept.ensures.net

pub returns-clause-words : goal.returns-clause-words
returns-clause-words c = λ all k run is start counts.
    let g1 = c.in_ok-memory.ensures.adds.grows in
    let g2 = c.in_ok-back.ensures.adds.grows in
    let g3 = c.in_ok-place.ensures.adds.grows in
    let g4 = c.in_ok-word.ensures.adds.grows in
    let l1 = grows_length g1 in
    let l2 = grows_length g2 in
    let l3 = grows_length g3 in
    let l4 = grows_length g4 in
    let k4 = back c.in_ok-kept.ensures.adds.grows k in
    let k3 = back g4 k4 in
    let k2 = back g3 k3 in
    let k1 = back g2 k2 in
    let sum : c.from.result + (c.args.delay - 1) ≡ 2 ^ c.args.at.bits = omega (
      arith,
      c.from.ensures,
      c.ring_depth-places.ensures.holds,
      c.requires.late,
      c.requires.place.reaches,
    ) in
    ring_later run start c.args.at.bits c.from.result c.args.delay c.in_ok-memory.memory c.args.at.net c.in_ok-back.back c.in_ok-place.place c.in_ok-word.word
    c.in_ok-kept.kept c.args.x (c.in_ok-memory.ensures.store all k1 run is) counts
    (c.in_ok-back.ensures.words all (carries_later _ _ l1 k2) run is)
    (c.in_ok-place.ensures.words all (carries_later _ _ (omega (arith, l1, l2)) k3) run is)
    (c.in_ok-word.ensures.words all (carries_later _ _ (omega (arith, l1, l2, l3)) k4) run is)
    (c.in_ok-kept.ensures.words all (carries_later _ _ (omega (arith, l1, l2, l3, l4)) k) run is) sum c.requires.late

pub constant-requires-clause-room : goal.constant-requires-clause-room
constant-requires-clause-room c = omega (arith, c.requires.room, c.in_ok-memory.ensures.adds.cells, c.in_ok-memory.ensures.adds.grows.limit)

pub sum-requires-clause-room : goal.sum-requires-clause-room
sum-requires-clause-room c =
    omega (
      arith,
      c.requires.room,
      c.in_ok-memory.ensures.adds.cells,
      c.in_ok-memory.ensures.adds.grows.limit,
      c.in_ok-back.ensures.adds.cells,
      c.in_ok-back.ensures.adds.grows.limit,
    )

pub look-requires-clause-room : goal.look-requires-clause-room
look-requires-clause-room c =
    omega (
      arith,
      c.requires.room,
      c.in_ok-memory.ensures.adds.cells,
      c.in_ok-memory.ensures.adds.grows.limit,
      c.in_ok-back.ensures.adds.cells,
      c.in_ok-back.ensures.adds.grows.limit,
      c.in_ok-place.ensures.adds.cells,
      c.in_ok-place.ensures.adds.grows.limit,
    )

pub delayed-requires-clause-room : goal.delayed-requires-clause-room
delayed-requires-clause-room c =
    omega (
      arith,
      c.requires.room,
      c.in_ok-memory.ensures.adds.cells,
      c.in_ok-memory.ensures.adds.grows.limit,
      c.in_ok-back.ensures.adds.cells,
      c.in_ok-back.ensures.adds.grows.limit,
      c.in_ok-place.ensures.adds.cells,
      c.in_ok-place.ensures.adds.grows.limit,
      c.in_ok-word.ensures.adds.cells,
      c.in_ok-word.ensures.adds.grows.limit,
    )
