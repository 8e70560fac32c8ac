-- Each turn looks at one layout more.
use Rattle.std.proofs.Common.{◌≡◌, Some, slice_get, max, map, take, length, ap, sym, ◌∙◌, subst, arith}
use Rattle.std.proofs.Math.Seq.{take-length}
use Rattle.std.proofs.lemmas.Option.{slice_get-get_or}
use Rattle.ae_sttype.specs.StTree.{st_tree}
use Rattle.ae_control.proofs.Cells.{next_first}
use Rattle.ae_streamed.proofs.Last.{IsLastOf, beat_below, last_is, last_more, last_none, of_one}
use Rattle.ae_streamed.proofs.streaming.last_beat.Goals as goal

pub loop-k-init : goal.loop-k-init
loop-k-init c = last_none

pub returns-clause-below : goal.returns-clause-below
returns-clause-below c =
    let end : c.loop-k.k ≡ length c.args.layouts.now = omega (arith, c.loop-k-test.false, c.loop-k.auto.k-end) in
    let whole : map st_tree (take c.loop-k.k c.args.layouts.now) ≡ map st_tree c.args.layouts.now = ap (λ v. map st_tree (take v c.args.layouts.now)) end ∙
    ap (map st_tree) (take-length c.args.layouts.now) in
    let last = last_is c.args.layouts.now c.args.slowdown c.loop-k.last c.requires (subst (λ v. IsLastOf v c.loop-k.last) whole c.loop-k.invariant) in
    beat_below c.args.layouts.now c.args.slowdown c.loop-k.last
    (λ k layout found. (let good = c.requires.each k layout found in (good.0.lengths, good.1))) last.stands

pub returns-clause-last : goal.returns-clause-last
returns-clause-last c =
    let end : c.loop-k.k ≡ length c.args.layouts.now = omega (arith, c.loop-k-test.false, c.loop-k.auto.k-end) in
    let whole : map st_tree (take c.loop-k.k c.args.layouts.now) ≡ map st_tree c.args.layouts.now = ap (λ v. map st_tree (take v c.args.layouts.now)) end ∙
    ap (map st_tree) (take-length c.args.layouts.now) in
    last_is c.args.layouts.now c.args.slowdown c.loop-k.last c.requires (subst (λ v. IsLastOf v c.loop-k.last) whole c.loop-k.invariant)

pub loop-k-preserved : goal.loop-k-preserved
loop-k-preserved c =
    let found : slice_get c.args.layouts.now c.loop-k.k ≡ Some c.index-layouts-k.result =
    slice_get-get_or c.args.layouts.now c.loop-k.k c.index-layouts-k.result c.loop-k-test.true ∙ ap Some (sym c.index-layouts-k.is) in
    rw c.later-last.ensures
    (subst (λ v. IsLastOf v (max c.loop-k.last c.last_clock.result)) (sym (next_first st_tree c.args.layouts.now c.loop-k.k c.index-layouts-k.result found))
    (last_more (map st_tree (take c.loop-k.k c.args.layouts.now)) (st_tree c.index-layouts-k.result) c.loop-k.last c.last_clock.result c.loop-k.invariant
    (of_one (st_tree c.index-layouts-k.result) c.last_clock.result c.last_clock.ensures)))
