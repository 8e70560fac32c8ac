-- Section after section is copied.
use Rattle.std.proofs.Common.{ℕ, ◌≡◌, ◌<◌, List, Some, length, map, slice_get, arith, ap, sym, refl, ◌∙◌, subst}
use Rattle.std.proofs.lemmas.List.{length-map}
use Rattle.std.proofs.lemmas.Option.{slice_get-get_or}
use Rattle.ae_tidy.specs.Places.{AreCut}
use Rattle.ae_lower.specs.Sections.{AreCopied, first_cell}
use Rattle.ae_lower.proofs.Covering.{cells_marks, copied_all, copied_more, sections_wider}
use Rattle.ae_lower.proofs.sections.copied_sections.Goals as goal

pub loop-i-preserved : goal.loop-i-preserved
loop-i-preserved c =
    let sections = c.args.sections.now in
    let places = c.in_ok-places.places.items in
    let i : ℕ = c.loop-i.i in
    let there : i < length sections = omega (arith, c.loop-i-test.true) in
    let same : c.deref.result.now ≡ map first_cell sections = c.deref.ensures.value ∙ c.in_ok-cells.ensures in
    let long : i < length places = omega (arith, there, c.in_ok-places.ensures.marks.long, ap length same, length-map sections first_cell) in
    let here : slice_get places i ≡ Some c.index.result.now = slice_get-get_or places i c.index.result.now long ∙ ap Some (sym c.index.ensures) in
    let begun = c.in_ok-begin.ensures.ok (c.loop-i.invariant.copied.are i c.index.result.now (omega arith) here) in
    let within = c.in_ok-places.ensures.marks.within i c.index.result.now here in
    record {
      are = sections_wider c.index.result.now (length c.args.made.now) c.begin.new.sections.items within begun.are;
      copied = copied_more sections c.loop-i.copied.items c.begin.new.sections.items places (length c.args.made.now)
          (length c.deref.result.now) i c.index.result.now _ _ c.in_ok-places.ensures.marks here (slice_get-get_or sections i _ there) refl begun
          c.loop-i.invariant.copied;
    }

pub returns-clause-copied : goal.returns-clause-copied
returns-clause-copied c = λ m own here.
    let sections = c.args.sections.now in
    let places = c.in_ok-places.places.items in
    let same : c.deref.result.now ≡ map first_cell sections = c.deref.ensures.value ∙ c.in_ok-cells.ensures in
    let cut : AreCut c.args.made.now (map first_cell sections) places =
    subst (λ (xs : List ℕ). AreCut c.args.made.now xs places) same
    (c.in_ok-places.ensures.cut c.requires.sections.0 (length sections) (rw same (cells_marks c.requires.sections.0 sections c.requires.sections.1))) in
    let long : length places ≡ length sections = omega (arith, c.in_ok-places.ensures.marks.long, ap length same, length-map sections first_cell) in
    let end : c.loop-i.i ≡ length sections = omega (arith, c.loop-i-test.false, c.loop-i.auto.i-end) in
    copied_all c.args.made.now sections c.loop-i.copied.items places m own cut long
    (subst (λ (n : ℕ). AreCopied sections places n c.loop-i.copied.items) end c.loop-i.invariant.copied) here
