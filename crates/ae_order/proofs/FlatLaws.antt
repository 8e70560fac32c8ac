-- Lists of targets one after the other.
use Rattle.std.proofs.Common.{ℕ, zero, suc, ◌≡◌, ◌+◌, ◌-◌, ◌<◌, ◌≤◌, List, [], ◌∷◌, ◌++◌, length, take, Option, Some, None, slice_get, refl, sym, ap, ◌∙◌, subst, arith, add-one, length-append}
use Rattle.std.specs.Prelude.{flat_map}
use Rattle.std.proofs.lemmas.Option.{slice_get_within}
use Rattle.ae_vmodule.specs.ModuleTree.{ExprTree, NetTree}
use Rattle.ae_judge.specs.Names.{Among}
use Rattle.ae_order.specs.Graph.{Needs, IsGraph}
use Rattle.ae_order.specs.Drives.{IsFlat, places_in, read_before}
use Rattle.ae_judge.proofs.Members.{among_at, among_from}

get_front : {X : Type 0} (xs ys : List X) (k : ℕ) (x : X) → k < length xs → slice_get (xs ++ ys) k ≡ Some x → slice_get xs k ≡ Some x
get_front [] ys k x l h = absurd (omega arith)
get_front (y ∷ xs) ys zero x l h = h
get_front (y ∷ xs) ys (suc k) x l h = get_front xs ys k x (omega arith) h

get_back : {X : Type 0} (xs ys : List X) (k : ℕ) (x : X) → slice_get (xs ++ ys) (length xs + k) ≡ Some x → slice_get ys k ≡ Some x
get_back [] ys k x h = subst (λ i. slice_get ys i ≡ Some x) (let e : 0 + k ≡ k = omega arith in e) h
get_back (y ∷ xs) ys k x h =
    get_back xs ys k x (subst (λ i. slice_get (y ∷ (xs ++ ys)) i ≡ Some x) (let e : length (y ∷ xs) + k ≡ suc (length xs + k) = omega arith in e) h)

put_front : {X : Type 0} (xs ys : List X) (k : ℕ) (x : X) → slice_get xs k ≡ Some x → slice_get (xs ++ ys) k ≡ Some x
put_front [] ys k x h = cc
put_front (y ∷ xs) ys zero x h = h
put_front (y ∷ xs) ys (suc k) x h = put_front xs ys k x h

put_back : {X : Type 0} (xs ys : List X) (k : ℕ) (x : X) → slice_get ys k ≡ Some x → slice_get (xs ++ ys) (length xs + k) ≡ Some x
put_back [] ys k x h = subst (λ i. slice_get ys i ≡ Some x) (let e : k ≡ 0 + k = omega arith in e) h
put_back (y ∷ xs) ys k x h =
    subst (λ i. slice_get (y ∷ (xs ++ ys)) i ≡ Some x) (let e : suc (length xs + k) ≡ length (y ∷ xs) + k = omega arith in e) (put_back xs ys k x h)

module _ {X Y : Type 0} (f : X → List Y) where
  before : List X → ℕ → ℕ
  before xs i = length (flat_map f (take i xs))

  -- what stands in the stretch of an item is of the item
  in_flat : (xs : List X) (i k : ℕ) (y : Y) → i < length xs → slice_get (flat_map f xs) k ≡ Some y → length (flat_map f (take i xs)) ≤ k
      → k < length (flat_map f (take (suc i) xs)) → (x : X) × (slice_get xs i ≡ Some x) × Among y (f x)
  in_flat [] i k y l h a b = absurd (omega arith)
  in_flat (x ∷ xs) zero k y l h a b =
      let n = length-append (f x) [] in
      (x, refl, among_from y (f x) k (get_front (f x) (flat_map f xs) k y (omega arith) h))
  in_flat (x ∷ xs) (suc i) k y l h a b =
      let p = length-append (f x) (flat_map f (take i xs)) in
      let q = length-append (f x) (flat_map f (take (suc i) xs)) in
      let e : k ≡ length (f x) + (k - length (f x)) = omega arith in
      in_flat xs i (k - length (f x)) y (omega arith) (get_back (f x) (flat_map f xs) (k - length (f x)) y
      (subst (λ j. slice_get (f x ++ flat_map f xs) j ≡ Some y) e h)) (omega arith) (omega arith)

  -- and what is of an item stands there
  to_flat : (xs : List X) (i : ℕ) (x : X) (y : Y) → slice_get xs i ≡ Some x → Among y (f x)
      → (k : ℕ) × (slice_get (flat_map f xs) k ≡ Some y) × (length (flat_map f (take i xs)) ≤ k) × (k < length (flat_map f (take (suc i) xs)))
  to_flat [] i x y h a = absurd (let e : None ≡ Some x = h in cc)
  to_flat (z ∷ xs) zero x y h a =
      let e : z ≡ x = (let s : Some z ≡ Some x = h in cc) in
      let r = among_at y (f z) (subst (λ u. Among y (f u)) (sym e) a) in
      let l = slice_get_within (f z) r.0 y r.1 in
      let n = length-append (f z) [] in
      (r.0, put_front (f z) (flat_map f xs) r.0 y r.1, omega arith, omega arith)
  to_flat (z ∷ xs) (suc i) x y h a =
      let r = to_flat xs i x y h a in
      let p = length-append (f z) (flat_map f (take i xs)) in
      let q = length-append (f z) (flat_map f (take (suc i) xs)) in
      let s = r.2 in
      let t = r.3 in
      (length (f z) + r.0, put_back (f z) (flat_map f xs) r.0 y r.1, omega arith, omega arith)

  stretch_grows : (xs : List X) (i : ℕ) → length (flat_map f (take i xs)) ≤ length (flat_map f (take (suc i) xs))
  stretch_grows [] zero = omega arith
  stretch_grows [] (suc i) = omega arith
  stretch_grows (x ∷ xs) zero = omega arith
  stretch_grows (x ∷ xs) (suc i) =
      let p = length-append (f x) (flat_map f (take i xs)) in
      let q = length-append (f x) (flat_map f (take (suc i) xs)) in
      let r = stretch_grows xs i in
      omega arith

  stretch_within : (xs : List X) (i : ℕ) → length (flat_map f (take i xs)) ≤ length (flat_map f xs)
  stretch_within [] zero = omega arith
  stretch_within [] (suc i) = omega arith
  stretch_within (x ∷ xs) zero = omega arith
  stretch_within (x ∷ xs) (suc i) =
      let p = length-append (f x) (flat_map f (take i xs)) in
      let q = length-append (f x) (flat_map f xs) in
      let r = stretch_within xs i in
      omega arith

take_all : {X : Type 0} (xs : List X) (i : ℕ) → length xs ≤ i → take i xs ≡ xs
take_all [] zero l = refl
take_all [] (suc i) l = refl
take_all (x ∷ xs) zero l = absurd (omega arith)
take_all (x ∷ xs) (suc i) l = ap (λ ys. x ∷ ys) (take_all xs i (omega arith))

some_same : {X : Type 0} {o : Option X} (a b : X) → o ≡ Some a → o ≡ Some b → a ≡ b
some_same a b p q = let e : Some a ≡ Some b = sym p ∙ q in cc

module _ (ns : List NetTree) (vs : List (Option ExprTree)) (starts targets : List ℕ) (flat : IsFlat ns vs (length vs + 1) starts targets) where
  pub all_targets : targets ≡ flat_map (places_in ns) vs
  all_targets = flat.all ∙ ap (flat_map (places_in ns)) (take_all vs (length vs + 1) (omega arith))

  -- what a node needs is what its value reads
  pub needs_read : (p q : ℕ) → Needs starts targets p q → (v : Option ExprTree) × (slice_get vs p ≡ Some v) × Among q (places_in ns v)
  needs_read p q h =
      let l : p + 1 < length starts = slice_get_within starts (p + 1) h.last h.ends in
      let long = flat.long in
      let first : h.first ≡ length (read_before ns vs p) = some_same _ _ h.begins (flat.at p (omega arith)) in
      let last : h.last ≡ length (read_before ns vs (p + 1)) = some_same _ _ h.ends (flat.at (p + 1) (omega arith)) in
      let last_too : h.last ≡ length (flat_map (places_in ns) (take (suc p) vs)) = rw add-one at last in
      let from = h.from in
      let below = h.below in
      in_flat (places_in ns) vs p h.at q (omega arith) (subst (λ (ts : List ℕ). slice_get ts h.at ≡ Some q) all_targets h.found) (omega arith) (omega arith)

  pub read_needs : (p q : ℕ) (v : Option ExprTree) → slice_get vs p ≡ Some v → Among q (places_in ns v) → Needs starts targets p q
  read_needs p q v h a =
      let r = to_flat (places_in ns) vs p v q h a in
      let l : p < length vs = slice_get_within vs p v h in
      let last : slice_get starts (p + 1) ≡ Some (length (flat_map (places_in ns) (take (suc p) vs))) = flat.at (p + 1) (omega arith) ∙
      ap (λ k. Some (length (flat_map (places_in ns) (take k vs)))) (add-one p) in
      record {
        first = length (read_before ns vs p);
        last = length (flat_map (places_in ns) (take (suc p) vs));
        at = r.0;
        begins = flat.at p (omega arith);
        ends = last;
        from = r.2;
        below = r.3;
        found = subst (λ (ts : List ℕ). slice_get ts r.0 ≡ Some q) (sym all_targets) r.1;
      }

  pub flat_graph : ((q : ℕ) → Among q targets → q < length vs) → IsGraph starts targets
  flat_graph inside = record {
    some = (let long = flat.long in omega arith);
    stretch = λ a first last b e.
        let l : a + 1 < length starts = slice_get_within starts (a + 1) last e in
        let long = flat.long in
        let f : first ≡ length (read_before ns vs a) = some_same _ _ b (flat.at a (omega arith)) in
        let g : last ≡ length (flat_map (places_in ns) (take (suc a) vs)) = some_same _ _ e (flat.at (a + 1) (omega arith)) ∙
        ap (λ k. length (flat_map (places_in ns) (take k vs))) (add-one a) in
        let u = stretch_grows (places_in ns) vs a in
        let v = stretch_within (places_in ns) vs (suc a) in
        let t : length targets ≡ length (flat_map (places_in ns) vs) = ap length all_targets in
        (omega arith, omega arith);
    node = λ k b h. let l = inside b (among_from b targets k h) in let long = flat.long in omega arith;
  }
