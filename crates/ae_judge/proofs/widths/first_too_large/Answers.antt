use Rattle.std.proofs.Common.{◌≡◌, true, false, get_or, Some, ap, ◌∙◌, sym}
use Rattle.ae_vmodule.specs.View.{net_tree}
use Rattle.ae_vmodule.specs.declared.module.VNet.{VNet}
use Rattle.ae_judge.specs.Faults.{is_too_large}
use Rattle.ae_judge.proofs.Wide.{large_found, large_next}
use Rattle.ae_judge.proofs.widths.first_too_large.Goals as goal

pub returns-then-is_too_large : goal.returns-then-is_too_large
returns-then-is_too_large c =
    let ws = c.args.names.now.words in
    let large : is_too_large (net_tree ws (get_or c.args.nets.now c.net.net-index c.net-item.result)) ≡ true =
    ap (λ v. is_too_large (net_tree ws v)) (sym c.net-item.is) ∙ sym (c.is_too_large.ensures ws) ∙ c.if-is_too_large.true in
    ap Some (c.item.ensures ∙ ap (λ (v : VNet). v.item) c.net-item.is)
    ∙ sym (large_found ws c.args.nets.now c.net.net-index c.net-item.result c.net-test.true large) ∙ c.net.invariant

pub net-preserved : goal.net-preserved
net-preserved c =
    let ws = c.args.names.now.words in
    let small : is_too_large (net_tree ws (get_or c.args.nets.now c.net.net-index c.net-item.result)) ≡ false =
    ap (λ v. is_too_large (net_tree ws v)) (sym c.net-item.is) ∙ sym (c.is_too_large.ensures ws) ∙ c.if-is_too_large.false in
    large_next ws c.args.nets.now c.net.net-index c.net-item.result c.net-test.true small ∙ c.net.invariant
