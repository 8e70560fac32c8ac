-- One cell more is connected.
use Rattle.std.proofs.Common.{◌≡◌, ◌∙◌, false, true, arith, ap, sym}
use Rattle.ae_netlist.specs.Circuit.{Circuit}
use Rattle.ae_streamed.proofs.Remade.{begun_other, made_idle, memory_idle, memory_made, memory_there, memory_written, register_made, register_next, register_there}
use Rattle.ae_streamed.proofs.room.connect_cell.Goals as goal
use Rattle.ae_clocked.proofs.Connecting.{own_register}

pub connect-requires-clause-register : goal.connect-requires-clause-register
connect-requires-clause-register c =
    own_register (register_there c.args.nl.now.cells c.args.new.now.cells c.args.n c.cell_at-sized.result c.in-Reg.next c.cell_at-sized.ensures c.in-Reg.is
    c.requires.made)

pub connect-requires-clause-next : goal.connect-requires-clause-next
connect-requires-clause-next c =
    register_next c.args.nl.now.cells c.args.new.now.cells c.args.n c.cell_at-sized.result c.in-Reg.next c.formed.ensures.cells c.cell_at-sized.ensures
    c.in-Reg.is c.requires.made

pub connect_memory-requires-clause-memory : goal.connect_memory-requires-clause-memory
connect_memory-requires-clause-memory c =
    memory_there c.args.nl.now.cells c.args.new.now.cells c.args.n c.cell_at-sized.result c.in-Mem.depth c.in-Mem.at c.in-Mem.next c.in-Mem.enable
    c.cell_at-sized.ensures c.in-Mem.is c.requires.made

pub connect_memory-requires-clause-written : goal.connect_memory-requires-clause-written
connect_memory-requires-clause-written c =
    memory_written c.args.nl.now.cells c.args.new.now.cells c.args.n c.cell_at-sized.result c.in-Mem.depth c.in-Mem.at c.in-Mem.next c.in-Mem.enable
    c.formed.ensures.cells c.cell_at-sized.ensures c.in-Mem.is c.requires.made
    (λ h. let e : false ≡ true = sym c.if-is_idle.false ∙ c.is_idle.ensures.1 h in absurd (grind (arith, e)))

pub returns-in-Reg-clause-made : goal.returns-in-Reg-clause-made
returns-in-Reg-clause-made c =
    register_made c.args.nl.now.cells c.args.new.now.cells c.connect.new.self.cells c.args.n c.cell_at-sized.result c.in-Reg.next c.cell_at-sized.ensures
    c.in-Reg.is c.requires.made (ap (λ (v : Circuit). v.cells) c.connect.ensures)

pub returns-else-is_idle-clause-made : goal.returns-else-is_idle-clause-made
returns-else-is_idle-clause-made c =
    memory_made c.args.nl.now.cells c.args.new.now.cells c.connect_memory.new.self.cells c.args.n c.cell_at-sized.result c.in-Mem.depth c.in-Mem.at
    c.in-Mem.next c.in-Mem.enable c.cell_at-sized.ensures c.in-Mem.is c.requires.made
    (ap (λ (v : Circuit). v.cells) c.connect_memory.ensures)

pub returns-then-is_idle-clause-made : goal.returns-then-is_idle-clause-made
returns-then-is_idle-clause-made c =
    made_idle c.args.nl.now.cells c.args.new.now.cells c.args.n c.cell_at-sized.result c.cell_at-sized.ensures c.requires.made
    (memory_idle c.args.n c.in-Mem.depth c.in-Mem.at c.in-Mem.next c.in-Mem.enable c.cell_at-sized.result.cell c.in-Mem.is
    (c.is_idle.ensures.0 c.if-is_idle.true))

pub returns-in-Input-clause-made : goal.returns-in-Input-clause-made
returns-in-Input-clause-made c =
    made_idle c.args.nl.now.cells c.args.new.now.cells c.args.n c.cell_at-sized.result c.cell_at-sized.ensures c.requires.made
    (begun_other c.args.n c.cell_at-sized.result.cell (λ next e. grind (arith, c.in-Input.is, e)) (λ depth at next enable e. grind (arith, c.in-Input.is, e)))
