-- The first items and nets of the other kinds of fault.
use Rattle.std.proofs.Common.{ℕ, ◌≡◌, Bool, true, false, not, ◌&&◌, List, [], slice_get, Option, Some, None, refl, sym, ap, ◌∙◌, arith, ◌⊎◌, inl, inr}
use Rattle.std.specs.Prelude.{flat_map, option_map, find}
use Rattle.std.proofs.lemmas.Bool.{or_cases, and_parts}
use Rattle.ae_vmodule.specs.ModuleTree.{NetTree, ItemTree, nets, assigns, always, ModuleTree}
use Rattle.ae_judge.specs.Names.{Among, is_input_kind, clock_name, is_named, is_clock, item_reads, item_targets}
use Rattle.ae_judge.specs.Shape.{IsShapely}
use Rattle.ae_judge.specs.Places.{HasNames}
use Rattle.ae_judge.specs.Faults.{ItemAt, is_misused_in_item, HasKind, HasUndriven, is_too_large, is_too_wide_in_item, HasWidth}
use Rattle.ae_judge.specs.Judging.{IsFirstOf, earlier, first_from, has_place, with_names, misused_in, misuses, is_undriven, first_too_large}
use Rattle.ae_judge.proofs.Members.{find_some, find_none}
use Rattle.ae_judge.proofs.Scan.{clash, first_map}
use Rattle.ae_judge.proofs.Unknowns.{any_among, among_any, among_in, not_in, no_names, first_passes, find_before, in_order}
use Rattle.ae_judge.proofs.Doubled.{first_either, names_many, or_right, or_left}

not_false : (b : Bool) → not b ≡ true → b ≡ false
not_false true h = absurd (let e : false ≡ true = h in cc)
not_false false h = refl

module _ (m : ModuleTree) where
  same_misuse : (i : ItemTree) → misused_in m.nets (clock_name m) i ≡ is_misused_in_item m i
  unfolding is_clock
  same_misuse (nets drives) = refl
  same_misuse (assigns drives) = refl
  same_misuse (always clock body) = refl

  same_clock : (n : List ℕ) → is_named n (clock_name m) ≡ is_clock m n
  unfolding is_clock
  same_clock n = refl

  kind_to : (i : ItemTree) → misuses m.nets (clock_name m) i ≡ true → (is_misused_in_item m i ≡ true)
      ⊎ ((n : List ℕ) × Among n (item_reads i) × (is_clock m n ≡ true))
  kind_to i h = elim (or_cases _ _ h) [
    | inl a ↦ inl (sym (same_misuse i) ∙ a)
    | inr a ↦ let r = any_among (λ n. is_named n (clock_name m)) (item_reads i) a in inr (r.0, r.1, sym (same_clock r.0) ∙ r.2)
  ]

  kind_from : (i : ItemTree) → (is_misused_in_item m i ≡ true) ⊎ ((n : List ℕ) × Among n (item_reads i) × (is_clock m n ≡ true))
      → misuses m.nets (clock_name m) i ≡ true
  kind_from i h = elim h [
    | inl a ↦ or_left _ _ (same_misuse i ∙ a)
    | inr r ↦ or_right _ _ (among_any (λ n. is_named n (clock_name m)) (item_reads i) r.0 r.1 (same_clock r.0 ∙ r.2))
  ]

  pub kind_first : IsFirstOf (HasKind m) (first_from (λ _. misuses m.nets (clock_name m)) 1 m.items)
  kind_first =
      first_map
      (λ k p. (p.1, (p.0, p.2, p.3), kind_to p.1 p.4))
      (λ k h. (h.1.0, h.0, h.1.1, h.1.2, kind_from h.0 h.2))
      (first_from (λ _. misuses m.nets (clock_name m)) 1 m.items) (first_passes (λ _. misuses m.nets (clock_name m)) 1 m.items)

  driven_names : HasNames (with_names [] (flat_map item_targets m.items)) (flat_map item_targets m.items)
  driven_names = names_many [] [] (flat_map item_targets m.items) no_names

  undriven_to : (x : NetTree) → is_undriven (with_names [] (flat_map item_targets m.items)) x ≡ true → (is_input_kind x.kind ≡ false)
      × (Among x.name (flat_map item_targets m.items) → ⊥)
  undriven_to x h =
      let r = and_parts _ _ h in
      (not_false _ r.0, λ a. clash _ (among_in (flat_map item_targets m.items) x.name a) (sym (driven_names x.name) ∙ not_false _ r.1))

  undriven_from : (x : NetTree) → is_input_kind x.kind ≡ false → (Among x.name (flat_map item_targets m.items) → ⊥)
      → is_undriven (with_names [] (flat_map item_targets m.items)) x ≡ true
  undriven_from x i a =
      let d : has_place (with_names [] (flat_map item_targets m.items)) x.name ≡ false = driven_names x.name ∙
      not_in (flat_map item_targets m.items) x.name a in
      λ j. not (i j) && not (d j)

  pub undriven_first : IsFirstOf (HasUndriven m) (first_from (λ _. is_undriven (with_names [] (flat_map item_targets m.items))) 0 m.nets)
  undriven_first =
      first_map
      (λ p h. let s : h.0 ≡ p = omega (arith, h.2) in let u = undriven_to h.1 h.4 in (h.1, ap (slice_get m.nets) (sym s) ∙ h.3, u.0, u.1))
      (λ p h. (p, h.0, omega arith, h.1, undriven_from h.0 h.2 h.3))
      (first_from (λ _. is_undriven (with_names [] (flat_map item_targets m.items))) 0 m.nets)
      (first_passes (λ _. is_undriven (with_names [] (flat_map item_targets m.items))) 0 m.nets)

  abbrev IsLargeAt : ℕ → Type 0
  IsLargeAt k = (x : NetTree) × Among x m.nets × (x.item ≡ k) × (is_too_large x ≡ true)

  abbrev IsWideAt : ℕ → Type 0
  IsWideAt k = (i : ItemTree) × ItemAt m k i × (is_too_wide_in_item m.nets i ≡ true)

  large_is : IsShapely m → (o : Option NetTree) → find is_too_large m.nets ≡ o → IsFirstOf IsLargeAt (option_map (λ (x : NetTree). x.item) o)
  large_is shape None e = λ k h. clash _ h.3 (find_none is_too_large m.nets h.0 e h.1)
  large_is shape (Some y) e =
      let r = find_some is_too_large m.nets y e in (
        (y, r.0, refl, r.1),
        λ j l h.
            let b = find_before is_too_large m.nets h.0 y e h.1 h.3 in
            let o = in_order m shape b.0 b.1 y h.0 b.4 b.2 b.3 in
            omega (arith, o, h.2),
      )

  wide_first : IsFirstOf IsWideAt (first_from (λ _. is_too_wide_in_item m.nets) 1 m.items)
  wide_first =
      first_map (λ k p. (p.1, (p.0, p.2, p.3), p.4)) (λ k h. (h.1.0, h.0, h.1.1, h.1.2, h.2))
      (first_from (λ _. is_too_wide_in_item m.nets) 1 m.items) (first_passes (λ _. is_too_wide_in_item m.nets) 1 m.items)

  pub width_first : IsShapely m → IsFirstOf (HasWidth m) (earlier (first_too_large m.nets) (first_from (λ _. is_too_wide_in_item m.nets) 1 m.items))
  width_first shape =
      first_either IsLargeAt IsWideAt (first_too_large m.nets) (first_from (λ _. is_too_wide_in_item m.nets) 1 m.items)
      (large_is shape (find is_too_large m.nets) refl) wide_first
