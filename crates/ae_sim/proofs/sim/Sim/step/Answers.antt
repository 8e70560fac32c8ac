-- The words are those of the next clock of every run that plays one row more.
use Rattle.std.proofs.Common.{ℕ, ◌≡◌, ◌∙◌, List, length, map, sym, ap, Some, slice_get, arith}
use Rattle.std.proofs.lemmas.List.{length-map}
use Rattle.ae_netlist.specs.declared.cell.SizedCell.{SizedCell}
use Rattle.ae_netlist.specs.Counts.{is_memory, count_of}
use Rattle.ae_netlist.specs.Rows.{Firsts}
use Rattle.ae_netlist.proofs.Given.{store_in, word_in}
use Rattle.ae_netlist.proofs.Settled.{IsSettled}
use Rattle.ae_sim.specs.declared.plan.Memory.{Memory}
use Rattle.ae_sim.specs.Planned.{IsAfter, held_of, turned}
use Rattle.ae_sim.specs.Playing.{HasPlayed}
use Rattle.ae_sim.proofs.Played.{HasTurned, step_played}
use Rattle.ae_sim.proofs.State.{next_inside, memory_inside, stepped, has_turned}
use Rattle.ae_sim.proofs.sim.Sim.step.Goals as goal

pub turn-requires : goal.turn-requires
turn-requires c =
    let long : length c.as_slice-4.result.now ≡ length c.self.inside.nl.now.cells = ap length c.as_slice-4.ensures.value ∙ c.settle.ensures.long in
    record {
      inside = λ k r h. omega (
        arith,
        long,
        next_inside c.self.inside.nl.now.cells c.self.inside.registers.items k r c.formed.ensures.cells
            c.self.invariant.nexts h,
      );
    }

pub write_all-requires : goal.write_all-requires
write_all-requires c =
    let all : length c.as_slice-5.result.now ≡ length c.self.inside.nl.now.cells = ap length c.as_slice-5.ensures.value ∙ c.settle.ensures.long in
    let long : length c.self.inside.memories.items ≡ count_of is_memory c.self.inside.nl.now.cells = sym
    (length-map c.self.inside.memories.items (λ (m : Memory). m.words.items)) ∙ c.self.invariant.held.memories in
    record {
      inside = λ k m h.
          let w = memory_inside c.self.inside.nl.now.cells c.self.inside.memories.items c.settle.new.words.items k m c.formed.ensures.cells long
          c.self.invariant.ports h in
          (omega (arith, all, w.1.at), omega (arith, all, w.1.next), omega (arith, all, w.1.enable));
    }

pub invariant_of-self : goal.invariant_of-self
invariant_of-self c =
    let words : List ℕ = c.settle.new.words.items in
    let registers : c.turn.new.registers.items ≡ map (turned words) c.self.inside.registers.items = rw c.as_slice-4.ensures.value at c.turn.ensures in
    let after : (k : ℕ) (m : Memory) → slice_get c.self.inside.memories.items k ≡ Some m
    → IsAfter words m c.write_all.new.memories.items k = rw c.as_slice-5.ensures.value at c.write_all.ensures.written in
    let s = stepped c.self.inside.nl.now.cells c.self.inside.registers.items c.self.inside.memories.items c.write_all.new.memories.items words
    c.formed.ensures.cells c.self.invariant.held c.self.invariant.nexts c.self.invariant.ports
    c.settle.ensures.fits c.write_all.ensures.long after in
    rw registers (record {
      numbered = c.self.invariant.numbered;
      counts = c.self.invariant.counts;
      long = c.settle.ensures.long;
      held = s.0;
      nexts = s.1;
      ports = s.2;
    })

pub returns-clause-plays : goal.returns-clause-plays
returns-clause-plays c = λ fill rows old.
    let cells : List SizedCell = c.self.inside.nl.now.cells in
    let words : List ℕ = c.settle.new.words.items in
    let held : Firsts = held_of c.self.inside.registers.items c.self.inside.memories.items in
    let registers : c.turn.new.registers.items ≡ map (turned words) c.self.inside.registers.items = rw c.as_slice-4.ensures.value at c.turn.ensures in
    let after : (k : ℕ) (m : Memory) → slice_get c.self.inside.memories.items k ≡ Some m
    → IsAfter words m c.write_all.new.memories.items k = rw c.as_slice-5.ensures.value at c.write_all.ensures.written in
    let before : HasPlayed (record { cells = cells; outlets = c.self.inside.nl.now.outlets; words = c.self.inside.words.items; held = held }) fill
    rows = rw c.self.view_is old in
    let settled : IsSettled cells (word_in cells held c.args.inputs.now)
    (store_in cells held) words = rw (c.as_slice-2.ensures.value, c.as_slice-3.ensures.value) at c.settle.ensures.settled in
    let turn : HasTurned cells held (held_of (map (turned words) c.self.inside.registers.items) c.write_all.new.memories.items) words =
    has_turned cells c.self.inside.registers.items c.self.inside.memories.items c.write_all.new.memories.items words c.self.invariant.held
    c.self.invariant.nexts c.self.invariant.ports after in
    rw registers (step_played cells c.self.inside.nl.now.outlets fill rows c.args.inputs.now c.self.inside.words.items words held
    (held_of (map (turned words) c.self.inside.registers.items) c.write_all.new.memories.items) c.formed.ensures.cells settled turn before)
