-- The one element that comes in the raw layout has a fold.
use Rattle.std.proofs.Common.{◌≡◌, sym, subst}
use Rattle.ae_sttype.specs.StTree.{StTree, st_tree}
use Rattle.ae_flow.specs.Fitted.{IsOneOf}
use Rattle.ae_lower.proofs.Arranged.{one_size}
use Rattle.ae_lower.proofs.Streams.{one_only}
use Rattle.ae_lower.proofs.stages.reducing.Goals as goal

pub of_shape-requires : goal.of_shape-requires
of_shape-requires c =
    let raw : StTree = st_tree c.args.raw.now in
    let one : IsOneOf (st_tree c.in_ok-element.element) raw = subst (λ (t : StTree). IsOneOf t raw) (sym c.in_ok-element.ensures) c.element_of.ensures in
    let e : st_tree c.in_ok-element.element ≡ c.requires.one.0 = one_only _ _ raw one c.requires.one.1.0 in
    record {
      op = c.requires.op;
      slots_some = c.requires.spread.some_slots;
      slots_most = c.requires.spread.few_slots;
      lanes_some = c.requires.spread.some_lanes;
      lanes_most = c.requires.spread.few_lanes;
      element = one_size _ raw one c.requires.raw;
      period_some = c.requires.some;
      period_most = c.requires.most;
      room = rw e c.requires.one.1.1;
    }
