use Rattle.std.proofs.Common.{◌≡◌, ◌∙◌, ◌+◌, Some, Vec, Global, ℕ, slice_get, length, take, ap, arith, refl}
use Rattle.std.proofs.lemmas.List.{map_push, take_all}
use Rattle.std.proofs.lemmas.Option.{slice_get_read}
use Rattle.ae_sttype.specs.StTree.{st_tree}
use Rattle.ae_rewrite.specs.StProgramTree.{st_trees}
use Rattle.ae_flow.specs.Flow.{layout_words}
use Rattle.ae_fuse.specs.Labels.{layout_numbers}
use Rattle.ae_fuse.proofs.NumberSteps.{all_words, numbers-more, words-more}
use Rattle.ae_fuse.proofs.numbers.first_labels.Goals as goal

pub count_words-count-requires : goal.count_words-count-requires
count_words-count-requires c =
    c.requires.sizes c.loop-layout.layout-index c.layout-item.result
    (slice_get_read c.args.ins.now (length c.args.ins.now) c.loop-layout.layout-index c.layout-item.result refl c.loop-layout-test.true c.layout-item.is)

pub loop-layout-preserved : goal.loop-layout-preserved
loop-layout-preserved c =
    let k = c.loop-layout.layout-index in
    let ls = c.args.ins.now in
    let t = c.layout-item.result in
    let found : slice_get ls k ≡ Some t = slice_get_read ls (length ls) k t refl c.loop-layout-test.true c.layout-item.is in
    let more : all_words (st_trees (take (k + 1) ls)) ≡ all_words (st_trees (take k ls)) + layout_words (st_tree t) = words-more ls k t found in
    record {
      labels = rw c.in_ok-push.ensures.items
          (map_push (λ (w : Vec ℕ Global). w.items) c.loop-layout.labels.items c.in_ok-own.own
          ∙ numbers-more ls k c.loop-layout.first c.count_words-count.result t _ c.in_ok-own.own.items found c.loop-layout.invariant.labels
          c.loop-layout.invariant.first c.count_words-count.ensures.words c.in_ok-own.ensures);
      first = omega (arith, more, c.loop-layout.invariant.first, c.count_words-count.ensures.words);
      few = omega (arith, c.loop-layout.invariant.few, c.count_words-count.ensures.few);
    }

pub returns : goal.returns
returns c =
    c.loop-layout.invariant.labels ∙ ap (λ ls. layout_numbers 1 (st_trees ls))
    (take_all c.loop-layout.layout-index c.args.ins.now (omega (arith, c.loop-layout-test.false)))
