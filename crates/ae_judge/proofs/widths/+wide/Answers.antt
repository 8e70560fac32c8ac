use Rattle.std.proofs.Common.{◌≡◌, ◌+◌, ◌||◌, ◌∙◌, sym, ap, arith}
use Rattle.std.specs.Prelude.{nat_lt}
use Rattle.ae_vmodule.specs.Numbered as n
use Rattle.ae_vmodule.specs.Numbered.{NumberedExpr, parts_in}
use Rattle.ae_vmodule.specs.Roots.{numbered}
use Rattle.ae_vmodule.specs.View.{expr_tree}
use Rattle.ae_judge.specs.Widths.{own_width}
use Rattle.ae_judge.specs.Faults.{is_too_wide}
use Rattle.ae_judge.proofs.Wide.{chain_next}
use Rattle.ae_judge.proofs.widths.+wide.Goals as goal

-- a part more
pub total_within-part-preserved : goal.total_within-part-preserved
total_within-part-preserved t c =
    let ns = c.args.names.now.nets in
    let tree = expr_tree c.args.names.now.words in
    let inv = c.part.invariant in
    let a = tree (numbered c.in-More.part) in
    let rest = tree (numbered c.in-More.more) in
    let root : n.concat_more (numbered c.in-More.part) (numbered c.in-More.more) ≡ numbered c.part.parts = c.in-More.ensures in
    let own = own_width ns in (
      inv.0 + own a,
      omega (arith, inv.1, c.in_ok-own-in-More.ensures.width, c.min-total.ensures),
      omega (arith, inv.2, ap (λ (t : NumberedExpr). own (tree t)) root),
      chain_next ns a rest _ inv.0 c.in_ok-own-in-More.ensures.some
          (inv.3 ∙ sym (ap (λ (t : NumberedExpr). is_too_wide ns (tree t) || nat_lt 64 (inv.0 + own (tree t))) root)),
      omega (arith, inv.4, ap parts_in root),
    )
