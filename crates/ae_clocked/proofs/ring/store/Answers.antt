-- A memory is added and connected.
use Rattle.std.proofs.Common.{arith}
use Rattle.ae_gates.proofs.Adding.{net_added}
use Rattle.ae_clocked.proofs.Storing.{fresh_memory, fresh_written, stored_cells, stored_memory, stored_adds, stored_words, stored_registers, stored_tests}
use Rattle.ae_clocked.proofs.ring.store.Goals as goal

pub connect_memory-requires-clause-memory : goal.connect_memory-requires-clause-memory
connect_memory-requires-clause-memory c = fresh_memory _ _ _ c.args.width c.ring_depth-depth.result c.in_ok-m.ensures.ok c.in_ok-m.ensures.added

pub connect_memory-requires-clause-written : goal.connect_memory-requires-clause-written
connect_memory-requires-clause-written c =
    fresh_written _ _ _ c.args.at c.args.x c.in_ok-always.always c.args.width c.args.bits c.ring_depth-depth.result c.in_ok-m.ensures.ok c.in_ok-m.ensures.added
    (net_added c.in_ok-always.ensures.adds c.requires.place) (omega (arith, c.ring_depth-depth.ensures.holds))
    (net_added c.in_ok-always.ensures.adds c.requires.net) c.in_ok-always.ensures.net

pub returns-clause-adds : goal.returns-clause-adds
returns-clause-adds c =
    let cells = stored_cells _ _ _ _ _ _ _ c.args.width c.ring_depth-depth.result c.in_ok-m.ensures.ok c.in_ok-m.ensures.added c.connect_memory.ensures in
    stored_adds _ _ _ c.in_ok-m.m _ _ _ _ c.args.bits _ c.formed.ensures.cells c.in_ok-always.ensures.adds c.in_ok-always.ensures.net
    (net_added c.in_ok-always.ensures.adds c.requires.place) (omega (arith, c.ring_depth-depth.ensures.holds)) cells

pub returns-clause-memory : goal.returns-clause-memory
returns-clause-memory c =
    let cells = stored_cells _ _ _ _ _ _ _ c.args.width c.ring_depth-depth.result c.in_ok-m.ensures.ok c.in_ok-m.ensures.added c.connect_memory.ensures in
    rw (← c.ring_depth-depth.ensures.holds) (stored_memory _ _ _ _ _ _ _ _ c.in_ok-m.ensures.ok cells)

pub returns-clause-store : goal.returns-clause-store
returns-clause-store c =
    let cells = stored_cells _ _ _ _ _ _ _ c.args.width c.ring_depth-depth.result c.in_ok-m.ensures.ok c.in_ok-m.ensures.added c.connect_memory.ensures in
    rw (← c.ring_depth-depth.ensures.holds) (stored_words _ _ _ _ _ _ _ _ _ c.in_ok-always.ensures.adds.grows c.in_ok-always.ensures.net
    c.in_ok-always.ensures.words c.in_ok-m.ensures.ok cells)

pub returns-clause-registers : goal.returns-clause-registers
returns-clause-registers c =
    let cells = stored_cells _ _ _ _ _ _ _ c.args.width c.ring_depth-depth.result c.in_ok-m.ensures.ok c.in_ok-m.ensures.added c.connect_memory.ensures in
    omega (arith, stored_registers _ _ _ _ _ _ _ cells, c.in_ok-always.ensures.registers)

pub returns-clause-tests : goal.returns-clause-tests
returns-clause-tests c =
    let cells = stored_cells _ _ _ _ _ _ _ c.args.width c.ring_depth-depth.result c.in_ok-m.ensures.ok c.in_ok-m.ensures.added c.connect_memory.ensures in
    omega (arith, stored_tests _ _ _ _ _ _ _ cells, c.in_ok-always.ensures.tests)

pub push_memory-requires-clause-room : goal.push_memory-requires-clause-room
push_memory-requires-clause-room c = omega (arith, c.requires.room, c.in_ok-always.ensures.adds.cells, c.in_ok-always.ensures.adds.grows.limit)
