-- One cell more is added.
use Rattle.std.proofs.Common.{ap, arith, sym}
use Rattle.ae_netlist.specs.declared.cell.Cell.{Cell}
use Rattle.ae_netlist.specs.Circuit.{Circuit, new_memory, new_register}
use Rattle.std.proofs.Common.{length}
use Rattle.ae_streamed.proofs.Remade.{begun_fits, begun_more, begun_other, may_add, memory_begun, memory_deep, register_begun}
use Rattle.ae_streamed.proofs.room.begin_cell.Goals as goal

pub returns-in_ok-push_register-in-Reg-clause-begun : goal.returns-in_ok-push_register-in-Reg-clause-begun
returns-in_ok-push_register-in-Reg-clause-begun c =
    begun_more c.args.nl.now.cells c.args.new.now.cells c.push_register.new.self.cells c.args.n c.cell_at-sized.result
    (new_register (length c.args.new.now.cells) c.cell_at-sized.result.width) c.cell_at-sized.ensures c.requires.begun
    (register_begun c.cell_at-sized.result _ c.args.n (length c.args.new.now.cells) c.in-Reg.is c.requires.begun.long)
    (ap (λ (v : Circuit). v.cells) c.in_ok-push_register-in-Reg.ensures.added)

pub push_memory-requires-clause-some : goal.push_memory-requires-clause-some
push_memory-requires-clause-some c =
    (memory_deep c.args.nl.now.cells c.args.new.now.cells c.args.n c.cell_at-sized.result c.in-Mem.depth _ _ _ c.in-Mem.is
    (begun_fits c.args.nl.now.cells c.args.new.now.cells c.args.n c.cell_at-sized.result c.formed.ensures.cells c.cell_at-sized.ensures c.requires.begun)).0

pub push_memory-requires-clause-most : goal.push_memory-requires-clause-most
push_memory-requires-clause-most c =
    (memory_deep c.args.nl.now.cells c.args.new.now.cells c.args.n c.cell_at-sized.result c.in-Mem.depth _ _ _ c.in-Mem.is
    (begun_fits c.args.nl.now.cells c.args.new.now.cells c.args.n c.cell_at-sized.result c.formed.ensures.cells c.cell_at-sized.ensures c.requires.begun)).1

pub returns-in_ok-push_memory-in-Mem-clause-begun : goal.returns-in_ok-push_memory-in-Mem-clause-begun
returns-in_ok-push_memory-in-Mem-clause-begun c =
    begun_more c.args.nl.now.cells c.args.new.now.cells c.push_memory.new.self.cells c.args.n c.cell_at-sized.result
    (new_memory (length c.args.new.now.cells) c.cell_at-sized.result.width c.in-Mem.depth) c.cell_at-sized.ensures c.requires.begun
    (memory_begun c.cell_at-sized.result c.in-Mem.depth _ _ _ c.args.n (length c.args.new.now.cells) c.in-Mem.is c.requires.begun.long)
    (ap (λ (v : Circuit). v.cells) c.in_ok-push_memory-in-Mem.ensures.added)

pub push-requires-clause-allowed : goal.push-requires-clause-allowed
push-requires-clause-allowed c =
    let fits = begun_fits c.args.nl.now.cells c.args.new.now.cells c.args.n c.cell_at-sized.result c.formed.ensures.cells c.cell_at-sized.ensures
    c.requires.begun in
    may_add c.args.nl.now.cells c.args.new.now.cells c.args.n c.cell_at-sized.result.width c.cell_at-sized.result.cell
    (λ next e. grind (arith, c.in-Input.is, e))
    (λ depth at next enable e. grind (arith, c.in-Input.is, e)) fits.cell

pub returns-in_ok-push-in-Input : goal.returns-in_ok-push-in-Input
returns-in_ok-push-in-Input c = record {
  begun = begun_more c.args.nl.now.cells c.args.new.now.cells c.push.new.self.cells c.args.n c.cell_at-sized.result c.cell_at-sized.result
      c.cell_at-sized.ensures c.requires.begun
      (sym (ap (λ (v : Cell). record { width = c.cell_at-sized.result.width; cell = v })
      (begun_other c.args.n c.cell_at-sized.result.cell (λ next e. grind (arith, c.in-Input.is, e))
      (λ depth at next enable e. grind (arith, c.in-Input.is, e)))))
      (ap (λ (v : Circuit). v.cells) c.in_ok-push-in-Input.ensures.added);
  limit = ap (λ (v : Circuit). v.limit) c.in_ok-push-in-Input.ensures.added;
  outlets = ap (λ (v : Circuit). v.outlets) c.in_ok-push-in-Input.ensures.added;
}
