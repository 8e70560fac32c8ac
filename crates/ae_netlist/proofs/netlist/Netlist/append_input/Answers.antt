-- A netlist with one more input is formed, and its inputs are numbered.
use Rattle.std.proofs.Common.{◌≡◌, ◌∙◌, ◌<◌, length, ◌++◌, ◌∷◌, [], ap, arith, length-append}
use Rattle.ae_netlist.specs.declared.cell.NetId.{NetId}
use Rattle.ae_netlist.specs.Circuit.{Circuit, SizedCellFits}
use Rattle.ae_netlist.specs.Counts.{is_input}
use Rattle.ae_netlist.proofs.Growing.{formed_push, nets_later, keeps_extends, extends_append}
use Rattle.ae_netlist.proofs.Counting.{numbers_push}
use Rattle.ae_netlist.proofs.netlist.Netlist.append_input.Goals as goal

pub invariant_of-self-in-Ok : goal.invariant_of-self-in-Ok
invariant_of-self-in-Ok c =
    let net : NetId = record { 0 = c.len-net.result } in
    let same : c.self.inside.cells.items ≡ c.args.self.now.cells = ap (λ (v : Circuit). v.cells) c.self.view_is in
    let room : length c.self.inside.cells.items < c.self.inside.limit = rw (same, ap (λ (v : Circuit). v.limit) c.self.view_is) c.requires.room in
    let fits : SizedCellFits c.self.inside.cells.items (c.self.inside.cells.items ++ c.args.sized ∷ [])
    (length c.self.inside.cells.items) c.args.sized = rw same c.requires.fits in
    let cells : c.push.new.self.items ≡ c.self.inside.cells.items ++ c.args.sized ∷ [] = c.in_ok-push.ensures.items ∙
    ap (λ s. c.self.inside.cells.items ++ s ∷ []) c.of.ensures in
    let inputs : c.push-2.new.self ≡ c.self.inside.inputs ++ net ∷ [] = c.in-Ok.ensures.ok in
    rw (cells, inputs) (
      omega (arith, room, length-append c.self.inside.cells.items (c.args.sized ∷ [])),
      formed_push _ _ c.self.invariant.1 fits,
      nets_later _ _ _ (keeps_extends (extends_append _ _)) c.self.invariant.2,
      numbers_push is_input _ c.args.sized _ net c.requires.input (grind (arith, c.len-net.ensures)) c.self.invariant.3,
      c.self.invariant.4,
      c.self.invariant.5,
    )
