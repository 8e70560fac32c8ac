-- The register that is connected is the one just added.
use Rattle.std.proofs.Common.{ℕ, ◌≡◌, List, [], ◌∷◌, ◌++◌, length, ap, ◌∙◌}
use Rattle.ae_netlist.specs.declared.cell.NetId.{NetId}
use Rattle.ae_netlist.specs.declared.cell.Cell.TheVariants.{Reg}
use Rattle.ae_netlist.specs.declared.cell.SizedCell.{SizedCell}
use Rattle.ae_netlist.specs.Circuit.{Circuit, new_register, width_of}
use Rattle.ae_netlist.proofs.Gets.{get_pushed}
use Rattle.ae_netlist.proofs.Growing.{width_is, net_later, extends_append}
use Rattle.ae_tidy.proofs.Lists.{set_last}
use Rattle.ae_tidy.proofs.append.add_register.Goals as goal

last_wide : (cells : List SizedCell) (w : ℕ) → width_of (cells ++ new_register (length cells) w ∷ []) (length cells) ≡ w
last_wide cells w = width_is _ _ _ (get_pushed cells (new_register (length cells) w))

pub connect-requires-clause-register : goal.connect-requires-clause-register
connect-requires-clause-register c =
    let w : ℕ = c.args.width in
    let cells : List SizedCell = c.args.nl.now.cells in
    let grown : c.add_late.new.nl.cells ≡ cells ++ new_register (length cells) w ∷ [] = ap (λ (v : Circuit). v.cells) c.in_ok-net.ensures.added in
    let at : c.in_ok-net.net.0 ≡ length cells = ap (λ (n : NetId). n.0) c.in_ok-net.ensures.net in
    rw (grown, at, last_wide cells w) (record { next = record { 0 = length cells }; found = get_pushed cells (new_register (length cells) w) })

pub connect-requires-clause-next : goal.connect-requires-clause-next
connect-requires-clause-next c =
    let w : ℕ = c.args.width in
    let cells : List SizedCell = c.args.nl.now.cells in
    let grown : c.add_late.new.nl.cells ≡ cells ++ new_register (length cells) w ∷ [] = ap (λ (v : Circuit). v.cells) c.in_ok-net.ensures.added in
    let at : c.in_ok-net.net.0 ≡ length cells = ap (λ (n : NetId). n.0) c.in_ok-net.ensures.net in
    rw (grown, at, last_wide cells w) (net_later (extends_append cells _) c.requires.next)

pub returns-clause-added : goal.returns-clause-added
returns-clause-added c =
    let w : ℕ = c.args.width in
    let cells : List SizedCell = c.args.nl.now.cells in
    let before : c.add_late.new.nl ≡ record c.args.nl.now { cells = cells ++ new_register (length cells) w ∷ [] } = c.in_ok-net.ensures.added in
    let at : c.in_ok-net.net.0 ≡ length cells = ap (λ (n : NetId). n.0) c.in_ok-net.ensures.net in
    let e = rw (before, at, last_wide cells w) at c.connect.ensures in
    e ∙ ap (λ (l : List SizedCell). record { limit = c.args.nl.now.limit; cells = l; outlets = c.args.nl.now.outlets })
    (set_last cells (new_register (length cells) w) (record { width = w; cell = Reg c.args.next }))
