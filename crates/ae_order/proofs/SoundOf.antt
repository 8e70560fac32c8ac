-- The expressions of a regular module have a value.
use Rattle.std.proofs.Common.{ℕ, zero, suc, ◌≡◌, ◌+◌, ◌<◌, ◌≤◌, ◌^◌, inl, inr, Bool, true, false, List, [], ◌∷◌, Some, None, slice_get, refl, sym, ap, ◌∙◌, subst, arith, add-one}
use Rattle.std.specs.Prelude.{bytes_eq, nat_lt, not, ◌&&◌, if◌then◌else◌}
use Rattle.std.specs.List.{AllByRecursion}
use Rattle.std.proofs.lemmas.Bool.{cases_Bool, cond-true, cond-false, or_parts, both_ways, leb-false}
use Rattle.std.proofs.lemmas.Bool.Decides.{nat_tests}
use Rattle.ae_vmodule.specs.ModuleTree.{ExprTree, name, constant, place, part, index, unary, binary, choice, concat_one, concat_more, NetTree, DriveTree, ItemTree, nets, assigns, always, ModuleTree}
use Rattle.ae_judge.specs.Names.{Among, is_memory_name, is_ranged, depth_of, depth_of_kind, names_in, drives_of, equations}
use Rattle.ae_judge.specs.Widths.{declared_width, own_width}
use Rattle.ae_judge.specs.Faults.{NetAt, is_place, is_misused, is_too_large, is_outside_of, is_too_wide, is_too_wide_in_drive, is_too_wide_in_item}
use Rattle.ae_judge.specs.Shape.{IsLettered, IsConstant, IsPlaced, IsShapely, EachInDrive, EachInItem, IsLetteredItem, IsPlacedItem}
use Rattle.ae_judge.specs.Regular.{IsRegular}
use Rattle.ae_runs.specs.Named.{IsNamed, place_of}
use Rattle.ae_order.specs.Sound.{IsSound, IsSoundIndex, place_number}
use Rattle.ae_judge.proofs.Members.{same_bytes, bytes_same, among_at, among_left, among_right, none_passes}
use Rattle.ae_runs.proofs.Declared.{IsData, not_true, not_false, ordered, net_found, drive_at, equation_readable, item_at}

pub not_less : (a b : ℕ) → nat_lt a b ≡ false → b ≤ a
not_less a b h = grind (arith, nat_tests)

-- a name that is declared has a place
pub place_some : (ns : List NetTree) (n : List ℕ) (p : ℕ) (x : NetTree) → slice_get ns p ≡ Some x → x.name ≡ n → (y : NetTree)
    × (slice_get ns (place_of ns n) ≡ Some y) × (y.name ≡ n)
unfolding place_of
place_some [] n p x h e = absurd (let s : None ≡ Some x = h in cc)
place_some (z ∷ zs) n p x h e = elim (cases_Bool (bytes_eq z.name n)) [
  | inl t ↦ (z, ap (slice_get (z ∷ zs)) (cond-true _ 0 (place_of zs n + 1) t), same_bytes z.name n t)
  | inr f ↦
      let later : (q : ℕ) × (slice_get zs q ≡ Some x) = behind p h f in
      let r = place_some zs n later.0 x later.1 e in
      (r.0, ap (slice_get (z ∷ zs)) (cond-false _ 0 (place_of zs n + 1) f ∙ add-one (place_of zs n)) ∙ r.1, r.2)
]
  where
    behind : (p : ℕ) → slice_get (z ∷ zs) p ≡ Some x → bytes_eq z.name n ≡ false → (q : ℕ) × (slice_get zs q ≡ Some x)
    behind zero h f = let s : z ≡ x = cc in absurd (both_ways _ f (bytes_same z.name n (ap (λ (u : NetTree). u.name) s ∙ e)))
    behind (suc q) h f = (q, h)

pub not_place : (e : ExprTree) → is_place e ≡ false → IsPlaced true e → IsPlaced false e
not_place (place k) f h = absurd (cc)
not_place _ f h = h

pub is_the_place : (e : ExprTree) → is_place e ≡ true → e ≡ place (place_number e)
is_the_place (place k) t = refl
is_the_place _ t = absurd (cc)

pub outside_varying : (e : ExprTree) (width depth w : ℕ) → is_place e ≡ false → is_outside_of true width depth w e ≡ nat_lt depth (2 ^ w)
outside_varying (place k) width depth w f = absurd (cc)
outside_varying _ width depth w f = refl

pub inside_place : (memory : Bool) (width depth w k : ℕ) → is_outside_of memory width depth w (place k) ≡ false → k < (if memory then depth else width)
inside_place true width depth w k h = leb-false depth k h
inside_place false width depth w k h = leb-false width k h

-- what is no memory is indexed by a place
must_be_memory : (memory ranged : Bool) → (not memory && not (ranged && false)) ≡ false → memory ≡ true
must_be_memory true ranged h = refl
must_be_memory false true h = absurd (cc)
must_be_memory false false h = absurd (cc)

module _ (m : ModuleTree) (ok : IsRegular m) (shape : IsShapely m) where
  pub one_place : (p q : ℕ) (x y : NetTree) → NetAt m p x → NetAt m q y → x.name ≡ y.name → p ≡ q
  one_place p q x y hx hy e = elim (ordered p q) [
    | inl l ↦ absurd (ok.once y.item (inl (p, q, x, y, l, hx, hy, e, refl)))
    | inr r ↦ elim r [
      | inl same ↦ same
      | inr g ↦ absurd (ok.once x.item (inl (q, p, y, x, g, hy, hx, sym e, refl)))
    ]
  ]

  pub place_is : (p : ℕ) (x : NetTree) → NetAt m p x → place_of m.nets x.name ≡ p
  place_is p x h = let r = place_some m.nets x.name p x h refl in one_place (place_of m.nets x.name) p r.0 x r.1 h r.2

  pub sized : (x : NetTree) → Among x m.nets → (x.width ≤ 64) × (depth_of_kind x.kind ≤ 65536)
  sized x a =
      let small : is_too_large x ≡ false = not_true _ (λ t. ok.widths x.item (inl (x, a, refl, t))) in
      let p = or_parts _ _ small in
      (not_less 64 x.width p.0, not_less 65536 (depth_of_kind x.kind) p.1)

  pub named_of : (x : NetTree) → Among x m.nets → IsNamed m.nets x.name
  named_of x a =
      let p = among_at x m.nets a in
      let e = place_is p.0 x p.1 in
      record {
        net = x;
        found = net_found m ok x a;
        only = λ q y h s. one_place (place_of m.nets x.name) q x y (ap (slice_get m.nets) e ∙ p.1) h (sym s);
        at = ap (slice_get m.nets) e ∙ p.1;
        low = shape.wide x a;
        high = (sized x a).0;
        deep = (sized x a).1;
      }

  named_data : (n : List ℕ) → IsData m n → IsNamed m.nets n
  named_data n d = subst (IsNamed m.nets) d.named (named_of d.net d.there)

  pub sound_of : (e : ExprTree) → ((n : List ℕ) → Among n (names_in e) → IsData m n) → is_misused m.nets e ≡ false → is_too_wide m.nets e ≡ false
      → IsLettered e → IsPlaced false e → IsSound m.nets e
  sound_of (name n) known right fits letters placed = record { named = named_data n (known n (inl refl)); word = right; letters = letters }
  sound_of (constant size value fit) known right fits letters placed = subst (IsConstant size value) (not_false fit fits) placed
  sound_of (place k) known right fits letters placed = absurd (let s : false ≡ true = placed in cc)
  sound_of (part n high low) known right fits letters placed =
      let p = or_parts _ _ fits in (
        record { named = named_data n (known n (inl refl)); word = (or_parts _ _ right).0; letters = letters },
        not_less high low p.0,
        leb-false (declared_width m.nets n) high p.1,
      )
  sound_of (index n at) known right fits letters placed =
      let r = or_parts _ _ right in
      let f = or_parts _ _ fits in
      let named = named_data n (known n (inl refl)) in (
        named,
        elim (cases_Bool (is_place at)) [
          | inl t ↦
              let e = is_the_place at t in
              let inside = inside_place (is_memory_name m.nets n) (declared_width m.nets n) (depth_of m.nets n) (own_width m.nets at) (place_number at)
              (subst (λ u. is_outside_of (is_memory_name m.nets n) (declared_width m.nets n) (depth_of m.nets n) (own_width m.nets at) u ≡ false) e f.1) in
              subst (λ b. IsSoundIndex b m.nets n (place_number at) (own_width m.nets at) (IsSound m.nets at)) (sym t) inside
          | inr o ↦
              let memory = must_be_memory (is_memory_name m.nets n) (is_ranged m.nets n)
              (subst (λ b. (not (is_memory_name m.nets n) && not (is_ranged m.nets n && b)) ≡ false) o r.1) in
              let deep : nat_lt (depth_of m.nets n) (2 ^ own_width m.nets at) ≡ false =
              sym (outside_varying at (declared_width m.nets n) (depth_of m.nets n) (own_width m.nets at) o)
              ∙ subst (λ b. is_outside_of b (declared_width m.nets n) (depth_of m.nets n) (own_width m.nets at) at ≡ false) memory f.1 in
              subst (λ b. IsSoundIndex b m.nets n (place_number at) (own_width m.nets at) (IsSound m.nets at)) (sym o)
              (record {
                memory = memory;
                inside = not_less (depth_of m.nets n) (2 ^ own_width m.nets at) deep;
                sound = sound_of at (λ k a. known k (inr a)) r.0 f.0 letters.1 (not_place at o placed);
              })
        ],
      )
  sound_of (unary op a) known right fits letters placed = sound_of a known right fits letters placed
  sound_of (binary op a b) known right fits letters placed =
      let r = or_parts _ _ right in
      let f = or_parts _ _ fits in (
        sound_of a (λ n x. known n (among_left n (names_in a) (names_in b) x)) r.0 f.0 letters.0 placed.0,
        sound_of b (λ n x. known n (among_right n (names_in a) (names_in b) x)) r.1 f.1 letters.1 placed.1,
      )
  sound_of (choice test a b) known right fits letters placed =
      let r = or_parts _ _ right in
      let s = or_parts _ _ r.1 in
      let f = or_parts _ _ fits in
      let g = or_parts _ _ f.1 in (
        sound_of test (λ n x. known n (among_left n (names_in test) _ x)) r.0 f.0 letters.0 placed.0,
        sound_of a (λ n x. known n (among_right n (names_in test) _ (among_left n (names_in a) (names_in b) x))) s.0 g.0 letters.1 placed.1,
        sound_of b (λ n x. known n (among_right n (names_in test) _ (among_right n (names_in a) (names_in b) x))) s.1 g.1 letters.2 placed.2,
      )
  sound_of (concat_one a) known right fits letters placed = sound_of a known right (or_parts _ _ fits).0 letters placed
  sound_of (concat_more a rest) known right fits letters placed =
      let r = or_parts _ _ right in
      let f = or_parts _ _ fits in
      let g = or_parts _ _ f.1 in (
        sound_of a (λ n x. known n (among_left n (names_in a) (names_in rest) x)) r.0 f.0 letters.0 placed.0,
        sound_of rest (λ n x. known n (among_right n (names_in a) (names_in rest) x)) r.1 g.0 letters.1 placed.1,
        not_less 64 _ g.1,
      )

  pub all_at : {X : Type 0} (P : X → Type 0) (xs : List X) (k : ℕ) (x : X) → AllByRecursion P xs → slice_get xs k ≡ Some x → P x
  all_at P [] k x h e = absurd (let s : None ≡ Some x = e in cc)
  all_at P (y ∷ xs) zero x h e = subst P (let s : y ≡ x = cc in s) h.0
  all_at P (y ∷ xs) (suc k) x h e = all_at P xs k x h.1 e

  drive_each : (P Q : ExprTree → Type 0) (i : ItemTree) (d : DriveTree) → EachInItem P Q i → Among d (drives_of i) → P d.value
  drive_each P Q (nets drives) d h a = let k = among_at d drives a in all_at (EachInDrive P) drives k.0 d h k.1
  drive_each P Q (assigns drives) d h a = let k = among_at d drives a in all_at (EachInDrive P) drives k.0 d h k.1
  drive_each P Q (always clock body) d h a = absurd a

  drive_fits : (i : ItemTree) (d : DriveTree) → is_too_wide_in_item m.nets i ≡ false → Among d (drives_of i) → is_too_wide m.nets d.value ≡ false
  drive_fits (nets drives) d h a = none_passes (is_too_wide_in_drive m.nets) drives d h a
  drive_fits (assigns drives) d h a = none_passes (is_too_wide_in_drive m.nets) drives d h a
  drive_fits (always clock body) d h a = absurd a

  -- the value of an equation
  pub equation_sound : (d : DriveTree) → Among d (equations m) → IsSound m.nets d.value
  equation_sound d a =
      let r = drive_at m ok d a in
      let read = equation_readable m ok d a in
      let fits : is_too_wide_in_item m.nets r.1 ≡ false = not_true _ (λ t. ok.widths (r.0 + 1) (inr (r.1, item_at m ok r.0 r.1 r.2, t))) in
      sound_of d.value read.known read.right (drive_fits r.1 d fits r.3)
      (drive_each IsLettered IsLettered r.1 d (all_at IsLetteredItem m.items r.0 r.1 shape.lettered r.2) r.3)
      (drive_each (IsPlaced false) (IsPlaced true) r.1 d (all_at IsPlacedItem m.items r.0 r.1 shape.placed r.2) r.3)
