-- The memory is connected with its gate.
use Rattle.std.proofs.Common.{◌≡◌, ◌∷◌, ◌++◌, [], set, ap, ◌∙◌}
use Rattle.ae_word.specs.declared.op.WordOp.TheVariants.{And}
use Rattle.ae_netlist.specs.declared.cell.NetId.{NetId}
use Rattle.ae_netlist.specs.declared.cell.Cell.TheVariants.{Op, Mem}
use Rattle.ae_netlist.specs.Circuit.{Circuit, depth_of, width_of}
use Rattle.ae_stall.specs.Images.{net, memory_gate}
use Rattle.ae_stall.proofs.Holding.{memory_allowed, memory_held, memory_there, memory_written}
use Rattle.ae_stall.proofs.hold.hold_memory.Goals as goal

pub push-requires-clause-allowed : goal.push-requires-clause-allowed
push-requires-clause-allowed c =
    rw c.placed-enable.ensures (memory_allowed c.args.how.more c.args.how.by.0 c.args.nl.now.cells c.requires.held.0 c.args.new.now.cells c.args.n
    c.requires.found.0 c.requires.found.1 c.args.at c.args.next c.args.enable c.formed.ensures.cells c.requires.found.2 c.requires.connected
    c.requires.held.1)

pub connect_memory-requires-clause-memory : goal.connect_memory-requires-clause-memory
connect_memory-requires-clause-memory c =
    let grown : c.push.new.new.cells ≡ c.args.new.now.cells ++ memory_gate c.args.how.more c.args.how.by.0 c.args.enable.0 ∷ [] =
    ap (λ (v : Circuit). v.cells) c.in_ok-push.ensures ∙ (λ i. c.args.new.now.cells
    ++ (record { width = 1; cell = Op And (c.args.how.by ∷ c.placed-enable.ensures i ∷ c.args.how.by ∷ []) }) ∷ []) in
    memory_there c.args.how.more c.args.how.by.0 c.args.nl.now.cells c.requires.held.0 c.args.new.now.cells c.args.n c.requires.found.0 c.requires.found.1
    c.args.at c.args.next c.args.enable c.formed.ensures.cells c.requires.found.2 c.requires.connected c.requires.held.1 c.push.new.new.cells
    c.placed-own.result.0 c.len.result (ap (λ (x : NetId). x.0) c.placed-own.ensures) c.len.ensures grown

pub connect_memory-requires-clause-written : goal.connect_memory-requires-clause-written
connect_memory-requires-clause-written c =
    let grown : c.push.new.new.cells ≡ c.args.new.now.cells ++ memory_gate c.args.how.more c.args.how.by.0 c.args.enable.0 ∷ [] =
    ap (λ (v : Circuit). v.cells) c.in_ok-push.ensures ∙ (λ i. c.args.new.now.cells
    ++ (record { width = 1; cell = Op And (c.args.how.by ∷ c.placed-enable.ensures i ∷ c.args.how.by ∷ []) }) ∷ []) in
    rw (c.placed-at.ensures, c.placed-next.ensures)
    (memory_written c.args.how.more c.args.how.by.0 c.args.nl.now.cells c.requires.held.0 c.args.new.now.cells c.args.n c.requires.found.0 c.requires.found.1
    c.args.at c.args.next c.args.enable c.formed.ensures.cells c.requires.found.2 c.requires.connected c.requires.held.1 c.push.new.new.cells
    c.placed-own.result.0 c.len.result (ap (λ (x : NetId). x.0) c.placed-own.ensures) c.len.ensures grown)

pub returns-clause-held : goal.returns-clause-held
returns-clause-held c = λ copied part.
    let grown : c.push.new.new.cells ≡ c.args.new.now.cells ++ memory_gate c.args.how.more c.args.how.by.0 c.args.enable.0 ∷ [] =
    ap (λ (v : Circuit). v.cells) c.in_ok-push.ensures ∙ (λ i. c.args.new.now.cells
    ++ (record { width = 1; cell = Op And (c.args.how.by ∷ c.placed-enable.ensures i ∷ c.args.how.by ∷ []) }) ∷ []) in
    memory_held c.args.how.more c.args.how.by.0 c.args.nl.now.cells copied c.args.new.now.cells c.args.n c.requires.found.0 c.requires.found.1 c.args.at
    c.args.next c.args.enable c.formed.ensures.cells c.requires.found.2 c.requires.connected part c.push.new.new.cells c.placed-own.result.0 c.len.result
    (ap (λ (x : NetId). x.0) c.placed-own.ensures) c.len.ensures grown
    c.connect_memory.new.self.cells
    (ap (λ (v : Circuit). v.cells) c.connect_memory.ensures
    ∙ (λ i. set c.push.new.new.cells c.placed-own.result.0
    (record {
      width = width_of c.push.new.new.cells c.placed-own.result.0;
      cell = Mem (depth_of c.push.new.new.cells c.placed-own.result.0) (c.placed-at.ensures i) (c.placed-next.ensures i) (net c.len.result);
    })))
