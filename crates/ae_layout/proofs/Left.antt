-- The slots that an iterator has left, one step on and at the end.
use Rattle.std.proofs.Common.{◌≡◌, ℕ, ◌+◌, ◌<◌, ◌≤◌, [], ◌∷◌, drop, length, slice_get, Some, ap, ◌∙◌, arith, length-drop}
use Rattle.std.proofs.lemmas.List.{drop_all, drop_more}
use Rattle.std.proofs.lemmas.Option.{get_or_from_slice_get, slice_get_within}
use Rattle.ae_sttype.specs.declared.st_type.Slot.{Slot}
use Rattle.ae_sttype.specs.StTree.{StTree, st_atoms}
use Rattle.ae_sttype.specs.Slots.{slots}
use Rattle.ae_sttype.proofs.Places.{length-slots}

pub none_left : (s : StTree) (i : ℕ) → st_atoms s ≤ i → drop i (slots s) ≡ []
none_left s i h = drop_all i (slots s) (omega (arith, length-slots s))

pub next_left : (s : StTree) (i : ℕ) (w : Slot) → slice_get (slots s) i ≡ Some w → drop i (slots s) ≡ w ∷ drop (i + 1) (slots s)
next_left s i w h =
    drop_more (slots s) i w (slice_get_within (slots s) i w h)
    ∙ ap (λ x. x ∷ drop (i + 1) (slots s)) (get_or_from_slice_get (slots s) i w w h)

pub fewer_left : (s : StTree) (i : ℕ) (w : Slot) → slice_get (slots s) i ≡ Some w → length (drop (i + 1) (slots s)) < length (drop i (slots s))
fewer_left s i w h = omega (arith, length-drop (i + 1) (slots s), length-drop i (slots s), slice_get_within (slots s) i w h)
