-- The names that lists of expressions read, and lists of equations.
use Rattle.std.proofs.Common.{ℕ, zero, suc, ◌≡◌, ◌+◌, ◌<◌, ◌≤◌, List, [], ◌∷◌, ◌++◌, length, map, take, set, Option, Some, None, slice_get, refl, sym, ap, ◌∙◌, arith, append_assoc, append-nil, add-one, inl, inr, IfSome, length-append}
use Rattle.std.specs.Prelude.{flat_map, option_map}
use Rattle.std.proofs.lemmas.Bool.{cases_lt}
use Rattle.ae_vmodule.specs.ModuleTree.{ExprTree, NetTree, DriveTree, ItemTree, ModuleTree}
use Rattle.ae_judge.specs.Names.{names_in, drives_of, equations}
use Rattle.ae_runs.specs.Named.{place_of}
use Rattle.ae_order.specs.Drives.{IsFlat, noted, places_in, read_before, with_drive}
use Rattle.ae_order.proofs.Turns.{take_whole}
use Rattle.ae_order.proofs.DriveLaws.{noted_append}
use Rattle.ae_netlist.proofs.Gets.{get_left, get_pushed}

map_join : {X Y : Type 0} (f : X → Y) (xs ys : List X) → map f (xs ++ ys) ≡ map f xs ++ map f ys
map_join f [] ys = refl
map_join f (x ∷ xs) ys = ap (λ zs. f x ∷ zs) (map_join f xs ys)

flat_push : {X Y : Type 0} (g : X → List Y) (xs : List X) (x : X) → flat_map g (xs ++ x ∷ []) ≡ flat_map g xs ++ g x
flat_push g [] x = append-nil (g x)
flat_push g (y ∷ xs) x = ap (λ zs. g y ++ zs) (flat_push g xs x) ∙ sym (append_assoc (g y) (flat_map g xs) (g x))

-- the names of one part more
pub more_names : (f : List ℕ → ℕ) (old held new : List ℕ) (ps : List ExprTree) (i : ℕ) (x : ExprTree) → held ≡ old ++ map f (flat_map names_in (take i ps))
    → new ≡ held ++ map f (names_in x)
    → take (i + 1) ps ≡ take i ps ++ x ∷ [] → new ≡ old ++ map f (flat_map names_in (take (i + 1) ps))
more_names f old held new ps i x h n t =
    n ∙ ap (λ xs. xs ++ map f (names_in x)) h ∙ append_assoc old (map f (flat_map names_in (take i ps))) (map f (names_in x))
    ∙ ap (λ xs. old ++ xs) (sym (map_join f (flat_map names_in (take i ps)) (names_in x)) ∙ ap (map f) (sym (flat_push names_in (take i ps) x)) ∙
    ap (λ qs. map f (flat_map names_in qs)) (sym t))

-- one equation more
pub more_noted : (ns : List NetTree) (vs held : List (Option ExprTree)) (ds : List DriveTree) (i p : ℕ) (d : DriveTree) → held ≡ noted ns vs (take i ds)
    → take (i + 1) ds ≡ take i ds ++ d ∷ [] → p ≡ place_of ns d.name
    → set held p (Some d.value) ≡ noted ns vs (take (i + 1) ds)
more_noted ns vs held ds i p d h t e =
    ap (λ k. set held k (Some d.value)) e ∙ ap (λ us. with_drive ns us d) h ∙ sym (noted_append ns vs (take i ds) (d ∷ [])) ∙ ap (noted ns vs) (sym t)

pub map_written : {X Y : Type 0} (f : X → Y) (xs : List X) (i : ℕ) (x : X) → map f (set xs i x) ≡ set (map f xs) i (f x)
map_written f [] i x = refl
map_written f (y ∷ xs) zero x = refl
map_written f (y ∷ xs) (suc i) x = ap (λ zs. f y ∷ zs) (map_written f xs i x)

-- one item more
pub more_items : (ns : List NetTree) (vs held new : List (Option ExprTree)) (is : List ItemTree) (i : ℕ) (x : ItemTree)
    → held ≡ noted ns vs (flat_map drives_of (take i is)) → new ≡ noted ns held (drives_of x)
    → take (i + 1) is ≡ take i is ++ x ∷ [] → new ≡ noted ns vs (flat_map drives_of (take (i + 1) is))
more_items ns vs held new is i x h n t =
    n ∙ ap (λ us. noted ns us (drives_of x)) h ∙ sym (noted_append ns vs (flat_map drives_of (take i is)) (drives_of x))
    ∙ ap (noted ns vs) (sym (flat_push drives_of (take i is) x) ∙ ap (flat_map drives_of) (sym t))

pub all_equations : (m : ModuleTree) → flat_map drives_of m.items ≡ equations m
unfolding equations
all_equations m = refl

-- what is so of a value that may be there
pub if_some : {R : Type 0} (f : R → ExprTree) (P : ExprTree → Type 0) (o : Option R) → ((e : ExprTree) → option_map f o ≡ Some e → P e)
    → IfSome o (λ r. P (f r))
if_some f P None h = tt
if_some f P (Some r) h = h (f r) refl

take_found : {X : Type 0} (xs : List X) (k : ℕ) (x : X) → slice_get xs k ≡ Some x → take (suc k) xs ≡ take k xs ++ x ∷ []
take_found [] k x h = absurd (let s : None ≡ Some x = h in cc)
take_found (y ∷ xs) zero x h = ap (λ u. u ∷ []) (let s : y ≡ x = cc in s)
take_found (y ∷ xs) (suc k) x h = ap (λ ys. y ∷ ys) (take_found xs k x h)

module _ (ns : List NetTree) (vs : List (Option ExprTree)) where
  starts_more : (k n : ℕ) (starts starts' targets : List ℕ) → IsFlat ns vs k starts targets → starts' ≡ starts ++ n ∷ [] → n ≡ length targets
      → (length starts' ≡ k + 1) × ((i : ℕ) → i < k + 1 → slice_get starts' i ≡ Some (length (read_before ns vs i)))
  starts_more k n starts starts' targets h s l =
      let long = h.long in
      let grown = length-append starts (n ∷ []) in
      let same = ap length s in (
        omega arith,
        λ i below. elim (cases_lt i k) [
          | inl b ↦ ap (λ xs. slice_get xs i) s ∙ get_left starts (n ∷ []) i _ (h.at i b)
          | inr g ↦
              let e : i ≡ length starts = omega arith in
              let f : length starts ≡ i = omega arith in
              ap (λ xs. slice_get xs i) s ∙ ap (slice_get (starts ++ n ∷ [])) e ∙ get_pushed starts n ∙
              ap Some (l ∙ ap length h.all ∙ ap (λ j. length (read_before ns vs j)) (sym long ∙ f))
        ],
      )

  -- one value more
  pub flat_more : (k n : ℕ) (starts starts' targets targets' : List ℕ) (v : Option ExprTree) → slice_get vs k ≡ Some v → IsFlat ns vs k starts targets
      → starts' ≡ starts ++ n ∷ [] → n ≡ length targets → targets' ≡ targets ++ places_in ns v
      → IsFlat ns vs (k + 1) starts' targets'
  flat_more k n starts starts' targets targets' v found h s l t =
      let r = starts_more k n starts starts' targets h s l in
      record {
        long = r.0;
        at = r.1;
        all = t ∙ ap (λ xs. xs ++ places_in ns v) h.all ∙ sym (flat_push (places_in ns) (take k vs) v) ∙
            ap (flat_map (places_in ns)) (sym (take_found vs k v found)) ∙ ap (λ j. flat_map (places_in ns) (take j vs)) (sym (add-one k));
      }

  -- and the end
  pub flat_last : (k n : ℕ) (starts starts' targets : List ℕ) → length vs ≤ k → IsFlat ns vs k starts targets → starts' ≡ starts ++ n ∷ [] → n ≡ length targets
      → IsFlat ns vs (k + 1) starts' targets
  flat_last k n starts starts' targets end h s l =
      let r = starts_more k n starts starts' targets h s l in
      record {
        long = r.0;
        at = r.1;
        all = h.all ∙ ap (flat_map (places_in ns)) (take_whole vs k end ∙ sym (take_whole vs (k + 1) (omega arith)));
      }
