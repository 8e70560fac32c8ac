use Rattle.std.proofs.Common.{◌≡◌, ◌*◌, ap, ◌∙◌, arith}
use Rattle.ae_sttype.specs.StTree.{lanes, element_words, st_tree}
use Rattle.ae_sttype.proofs.Bounds.{time_pos}
use Rattle.ae_fold.proofs.Planning.{columns_small, columns_some}
use Rattle.ae_fold.proofs.fold.plan_of.Goals as goal

pub overflow_mul-result : goal.overflow_mul-result
overflow_mul-result c =
    let t = st_tree c.args.element.now in
    let e : c.lanes.result * c.element_words.result ≡ lanes t * element_words t = ap (λ n. n * c.element_words.result) c.lanes.ensures ∙
    ap (λ n. lanes t * n) c.element_words.ensures in
    omega (arith, columns_small t c.requires.element, e)

pub returns-clause-plan : goal.returns-clause-plan
returns-clause-plan c =
    let t = st_tree c.args.element.now in
    let e : c.lanes.result * c.element_words.result ≡ lanes t * element_words t = ap (λ n. n * c.element_words.result) c.lanes.ensures ∙
    ap (λ n. lanes t * n) c.element_words.ensures in
    record {
      some = c.requires.slots_some;
      wide = c.requires.lanes_some;
      few = c.requires.lanes_most;
      deep = c.levels.ensures.deep;
      least = c.levels.ensures.least;
      shallow = c.levels.ensures.small;
      lasting = rw c.time.ensures (omega (arith, time_pos t c.requires.element.lengths));
      room = rw c.time.ensures c.requires.room;
      high = c.requires.period_most;
      placed = rw e (columns_some t c.requires.element);
      small = rw e (columns_small t c.requires.element);
    }
