-- A mask cuts the fill to the width.
use Rattle.std.proofs.Common.{◌≡◌, ◌∙◌, Some, sym, ap, ◌^◌, ◌-◌, bit_and}
use Rattle.std.proofs.lemmas.Nat.{and_mask}
use Rattle.ae_netlist.specs.declared.cell.SizedCell.{SizedCell}
use Rattle.ae_sim.proofs.plan.low_fill.Goals as goal

pub returns : goal.returns
returns c = λ sized found.
    let same : Some sized ≡ Some c.cell_at-sized.result = sym found ∙ c.cell_at-sized.ensures in
    let is : c.cell_at-sized.result ≡ sized = cc in
    ap (bit_and c.args.fill) (c.mask_of.ensures ∙ ap (λ (s : SizedCell). 2 ^ s.width - 1) is) ∙ and_mask c.args.fill sized.width
