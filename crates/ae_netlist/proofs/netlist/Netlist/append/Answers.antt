-- A netlist with one more sized is formed.
use Rattle.std.proofs.Common.{◌≡◌, ◌∙◌, ◌<◌, length, ◌++◌, ◌∷◌, [], ap, arith, length-append}
use Rattle.ae_netlist.specs.Circuit.{Circuit, SizedCellFits}
use Rattle.ae_netlist.proofs.Growing.{formed_push, nets_later, keeps_extends, extends_append}
use Rattle.ae_netlist.specs.Counts.{is_input}
use Rattle.ae_netlist.proofs.Counting.{others_push}
use Rattle.ae_netlist.proofs.netlist.Netlist.append.Goals as goal

pub invariant_of-self-2 : goal.invariant_of-self-2
invariant_of-self-2 c =
    let same : c.self.inside.cells.items ≡ c.args.self.now.cells = ap (λ (v : Circuit). v.cells) c.self.view_is in
    let room : length c.self.inside.cells.items < c.self.inside.limit = rw (same, ap (λ (v : Circuit). v.limit) c.self.view_is) c.requires.room in
    let fits : SizedCellFits c.self.inside.cells.items (c.self.inside.cells.items ++ c.args.sized ∷ [])
    (length c.self.inside.cells.items) c.args.sized = rw same c.requires.fits in
    let cells : c.push.new.self.items ≡ c.self.inside.cells.items ++ c.args.sized ∷ [] = c.in_ok-push.ensures.items ∙
    ap (λ s. c.self.inside.cells.items ++ s ∷ []) c.of.ensures in
    rw cells (
      omega (arith, room, length-append c.self.inside.cells.items (c.args.sized ∷ [])),
      formed_push _ _ c.self.invariant.1 fits,
      nets_later _ _ _ (keeps_extends (extends_append _ _)) c.self.invariant.2,
      others_push is_input _ c.args.sized _ c.requires.other c.self.invariant.3,
      c.self.invariant.4,
      c.self.invariant.5,
    )
