use Rattle.std.proofs.Common.{◌≡◌, ◌+◌, ◌∙◌, ℕ, List, Some, slice_get, length, take, sum_by, ap, arith, refl, length-append}
use Rattle.std.proofs.lemmas.Option.{slice_get_read}
use Rattle.ae_sttype.specs.StTree.{st_tree}
use Rattle.ae_sttype.specs.Moves.{columns_of}
use Rattle.ae_rewrite.specs.StProgramTree.{st_trees}
use Rattle.ae_results.proofs.CostSteps.{columns-next, firsts-next}
use Rattle.ae_results.proofs.costs.all_columns.Goals as goal

pub columns_in-own-requires : goal.columns_in-own-requires
columns_in-own-requires c =
    c.requires.sizes c.loop-layout.layout-index c.layout-item.result
    (slice_get_read c.args.ins.now (length c.args.ins.now) c.loop-layout.layout-index c.layout-item.result refl c.loop-layout-test.true c.layout-item.is)

pub loop-layout-preserved : goal.loop-layout-preserved
loop-layout-preserved c =
    let k = c.loop-layout.layout-index in
    let ls = c.args.ins.now in
    let t = c.layout-item.result in
    let found : slice_get ls k ≡ Some t = slice_get_read ls (length ls) k t refl c.loop-layout-test.true c.layout-item.is in
    let more : sum_by columns_of (take (k + 1) (st_trees ls)) ≡ sum_by columns_of (take k (st_trees ls)) + columns_of (st_tree t) = columns-next ls k t found in
    let was = c.loop-layout.invariant in
    record {
      many = ap length c.in_ok-push.ensures.items ∙ length-append c.loop-layout.firsts.items _ ∙ omega (arith, was.many);
      each = λ i low. ap (λ (fs : List ℕ). slice_get fs i) c.in_ok-push.ensures.items ∙
          firsts-next ls k c.loop-layout.count c.loop-layout.firsts.items was.many was.all was.each i low;
      all = omega (arith, more, was.all, c.columns_in-own.ensures.columns);
      few = omega (arith, was.few, c.columns_in-own.ensures.few);
    }
