use Rattle.std.proofs.Common.{◌≡◌, ◌∙◌, refl, sym, subst}
use Rattle.ae_sttype.specs.StTree.{StTree, st_tree}
use Rattle.ae_fold.specs.Shapes.{FoldShape}
use Rattle.ae_flow.specs.Fitted.{IsArranged}
use Rattle.ae_lower.proofs.Arranged.{arranged_size}
use Rattle.ae_lower.proofs.stages.scanning.Goals as goal

pub of_shape-requires : goal.of_shape-requires
of_shape-requires c =
    let t : StTree = c.requires.arranged.0 in
    let e : st_tree c.in_ok-element.element ≡ t = c.in_ok-element.ensures ∙ c.elements_of.ensures c.args.slots t c.requires.arranged.1.0 in
    record {
      op = c.requires.op;
      slots_some = c.requires.spread.some_slots;
      slots_most = c.requires.spread.few_slots;
      lanes_some = c.requires.spread.some_lanes;
      lanes_most = c.requires.spread.few_lanes;
      element = rw e (arranged_size c.args.slots c.args.lanes t (st_tree c.args.out.now) c.requires.arranged.1.0 c.requires.out);
      period_some = c.requires.some;
      period_most = c.requires.most;
      room = rw e c.requires.arranged.1.1;
    }

pub returns : goal.returns
returns c =
    let t : StTree = c.requires.arranged.0 in
    let e : st_tree c.in_ok-element.element ≡ t = c.in_ok-element.ensures ∙ c.elements_of.ensures c.args.slots t c.requires.arranged.1.0 in
    let P : FoldShape → Type 0 =
    λ r. (r.op ≡ c.args.op) × (r.slots ≡ c.args.slots) × (r.lanes ≡ c.args.lanes) × (r.period ≡ c.args.budget)
    × IsArranged c.args.slots c.args.lanes (st_tree r.element) (st_tree c.args.out.now) in
    record { is = subst P (sym (c.of.ensures ∙ c.of_shape.ensures)) (refl, refl, refl, refl, rw e c.requires.arranged.1.0) }
