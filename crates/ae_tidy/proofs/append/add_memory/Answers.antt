-- The memory that is connected is the one just added.
use Rattle.std.proofs.Common.{ℕ, ◌≡◌, List, [], ◌∷◌, ◌++◌, length, ap, ◌∙◌, inl, inr}
use Rattle.ae_netlist.specs.declared.cell.NetId.{NetId}
use Rattle.ae_netlist.specs.declared.cell.Cell.TheVariants.{Mem}
use Rattle.ae_netlist.specs.declared.cell.SizedCell.{SizedCell}
use Rattle.ae_netlist.specs.Circuit.{Circuit, IsAddress, IsWritten, depth_in, depth_of, new_memory, width_of}
use Rattle.ae_netlist.proofs.Gets.{get_left, get_pushed}
use Rattle.ae_netlist.proofs.Growing.{width_is, net_later, net_width, extends_append}
use Rattle.ae_tidy.proofs.Lists.{set_last}
use Rattle.ae_tidy.proofs.append.add_memory.Goals as goal

last_wide : (cells : List SizedCell) (w depth : ℕ) → width_of (cells ++ new_memory (length cells) w depth ∷ []) (length cells) ≡ w
last_wide cells w depth = width_is _ _ _ (get_pushed cells (new_memory (length cells) w depth))

last_deep : (cells : List SizedCell) (w depth : ℕ) → depth_of (cells ++ new_memory (length cells) w depth ∷ []) (length cells) ≡ depth
unfolding depth_of
last_deep cells w depth = ap depth_in (get_pushed cells (new_memory (length cells) w depth))

address_push : (cells : List SizedCell) (x : SizedCell) (at depth : ℕ) → IsAddress cells at depth → IsAddress (cells ++ x ∷ []) at depth
address_push cells x at depth h =
    let net = net_later (extends_append cells (x ∷ [])) h.net in
    let w : width_of (cells ++ x ∷ []) at ≡ width_of cells at = net_width net in
    record {
      net = rw w net;
      inside = elim h.inside [
        | inl e ↦ inl (rw w e)
        | inr k ↦ inr (record { width = k.width; constant = k.constant; found = get_left cells (x ∷ []) at _ k.found; below = k.below })
      ];
    }

written_push : (cells : List SizedCell) (x : SizedCell) (w depth at next enable : ℕ) → IsWritten cells w depth at next enable
    → IsWritten (cells ++ x ∷ []) w depth at next enable
written_push cells x w depth at next enable h =
    record {
      address = address_push cells x at depth h.address;
      word = net_later (extends_append cells (x ∷ [])) h.word;
      bit = net_later (extends_append cells (x ∷ [])) h.bit;
    }

pub connect_memory-requires-clause-memory : goal.connect_memory-requires-clause-memory
connect_memory-requires-clause-memory c =
    let w : ℕ = c.args.width in
    let cells : List SizedCell = c.args.nl.now.cells in
    let own : NetId = record { 0 = length cells } in
    let grown : c.add_late.new.nl.cells ≡ cells ++ new_memory (length cells) w c.args.depth ∷ [] = ap (λ (v : Circuit). v.cells) c.in_ok-net.ensures.added in
    let at : c.in_ok-net.net.0 ≡ length cells = ap (λ (n : NetId). n.0) c.in_ok-net.ensures.net in
    rw (grown, at, last_wide cells w c.args.depth, last_deep cells w c.args.depth)
    (record { at = own; next = own; enable = own; found = get_pushed cells (new_memory (length cells) w c.args.depth) })

pub connect_memory-requires-clause-written : goal.connect_memory-requires-clause-written
connect_memory-requires-clause-written c =
    let w : ℕ = c.args.width in
    let cells : List SizedCell = c.args.nl.now.cells in
    let grown : c.add_late.new.nl.cells ≡ cells ++ new_memory (length cells) w c.args.depth ∷ [] = ap (λ (v : Circuit). v.cells) c.in_ok-net.ensures.added in
    let at : c.in_ok-net.net.0 ≡ length cells = ap (λ (n : NetId). n.0) c.in_ok-net.ensures.net in
    rw (grown, at, last_wide cells w c.args.depth, last_deep cells w c.args.depth)
    (written_push cells (new_memory (length cells) w c.args.depth) w c.args.depth c.args.at.0 c.args.next.0 c.args.enable.0 c.requires.written)

pub returns-clause-added : goal.returns-clause-added
returns-clause-added c =
    let w : ℕ = c.args.width in
    let cells : List SizedCell = c.args.nl.now.cells in
    let before : c.add_late.new.nl ≡ record c.args.nl.now { cells = cells ++ new_memory (length cells) w c.args.depth ∷ [] } = c.in_ok-net.ensures.added in
    let at : c.in_ok-net.net.0 ≡ length cells = ap (λ (n : NetId). n.0) c.in_ok-net.ensures.net in
    let e = rw (before, at, last_wide cells w c.args.depth, last_deep cells w c.args.depth) at c.connect_memory.ensures in
    e
    ∙ ap (λ (l : List SizedCell). record { limit = c.args.nl.now.limit; cells = l; outlets = c.args.nl.now.outlets })
    (set_last cells (new_memory (length cells) w c.args.depth) (record { width = w; cell = Mem c.args.depth c.args.at c.args.next c.args.enable }))
