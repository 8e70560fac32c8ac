-- All origins, one by one.
use Rattle.std.proofs.Common.{◌≡◌, ◌<◌, IsTrue, length, map, Some, slice_get, get_or, inl, inr, refl, arith, sym, ◌∙◌}
use Rattle.std.proofs.lemmas.Bool.{cases_eq, false≢true}
use Rattle.std.proofs.lemmas.List.{length-map}
use Rattle.std.proofs.lemmas.Option.{slice_get-get_or, slice_get_within}
use Rattle.ae_moves.specs.declared.trip.Origin.TheVariants.{Word}
use Rattle.ae_moves.specs.Trees.{origin_tree}
use Rattle.ae_moves.proofs.Lists.{get_mapped}
use Rattle.ae_moves.proofs.origins.are_origins.Goals as goal

pub returns-then-not-origin_fits : goal.returns-then-not-origin_fits
returns-then-not-origin_fits c =
    let at = get_mapped origin_tree c.args.source.now c.loop-o.o _ (slice_get-get_or c.args.source.now c.loop-o.o (Word 0 0 0) c.loop-o-test.true) in (
      λ x. absurd (false≢true x),
      λ all. (let t : IsTrue c.origin_fits.result = c.origin_fits.ensures.1
          (λ width wide. all c.loop-o.o width _ at (rw c.element_words-words.ensures at wide)) in absurd (false≢true (sym c.if-not-origin_fits.true ∙ t))),
    )

pub loop-o-preserved : goal.loop-o-preserved
loop-o-preserved c = λ n width origin l f wide. elim (cases_eq n c.loop-o.o) [
  | inl e ↦
      let at = get_mapped origin_tree c.args.source.now c.loop-o.o _ (slice_get-get_or c.args.source.now c.loop-o.o (Word 0 0 0) c.loop-o-test.true) in
      let g : slice_get (map origin_tree c.args.source.now) c.loop-o.o ≡ Some origin = rw e at f in
      let same : origin_tree (get_or c.args.source.now c.loop-o.o (Word 0 0 0)) ≡ origin = cc in
      let has = rw c.element_words-words.ensures at (c.origin_fits.ensures.0 c.if-not-origin_fits.false) in
      rw (← same) (has width (rw e at wide))
  | inr ne ↦ c.loop-o.invariant n width origin (omega arith) f wide
]

pub returns : goal.returns
returns c = (
  λ x n width origin f wide. (let l : n < length (map origin_tree c.args.source.now) = slice_get_within (map origin_tree c.args.source.now) n origin f in
      c.loop-o.invariant n width origin (omega (arith, length-map c.args.source.now origin_tree, c.loop-o-test.false)) f wide),
  λ x. refl,
)
