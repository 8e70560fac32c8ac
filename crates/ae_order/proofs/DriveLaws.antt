-- The equations by places, and loops by places.
use Rattle.std.proofs.Common.{ℕ, ◌⊎◌, zero, suc, ◌≡◌, ◌+◌, ◌<◌, inl, inr, List, [], ◌∷◌, ◌++◌, length, set, replicate, Option, Some, None, slice_get, refl, sym, ap, ◌∙◌, subst, arith, length-set, Result, Ok, Err, IfOk, IfErr, OnOk}
use Rattle.std.proofs.lemmas.Bool.{cases_eq}
use Rattle.std.proofs.lemmas.Option.{slice_get_within, slice_get-get_or}
use Rattle.ae_vmodule.specs.ModuleTree.{ExprTree, NetTree, DriveTree, ModuleTree}
use Rattle.ae_judge.specs.Names.{Among, names_in, equations}
use Rattle.ae_judge.specs.Faults.{NetAt, Feeds, Reaches, at_once, through, HasLoop, Never}
use Rattle.ae_judge.specs.Shape.{IsShapely}
use Rattle.ae_judge.specs.Regular.{IsRegular}
use Rattle.ae_order.specs.Graph as g
use Rattle.ae_order.specs.Walks.{Fails}
use Rattle.ae_order.specs.declared.sort.OrderFault.{OrderFault}
use Rattle.ae_order.specs.declared.sort.OrderFault.TheVariants.{Loop, Memory}
use Rattle.ae_runs.specs.Named.{IsNamed, place_of}
use Rattle.ae_order.specs.Sound.{IsSound}
use Rattle.ae_order.specs.Drives.{AreDriven, AreSoundValues, FeedsAt, IsFlat, IsLoopFault, IsWireOrder, names_read, noted, places_in, values_of, with_drive}
use Rattle.ae_order.proofs.GraphWalks.{none_loops}
use Rattle.ae_order.proofs.SymbolNames.{among_read, read_among}
use Rattle.ae_judge.proofs.Members.{among_from, among_map, among_unmap, among_unflat, some_or_not}
use Rattle.ae_runs.proofs.Declared.{named_net, driven_net, equation_once, equation_readable}
use Rattle.ae_order.proofs.FlatLaws.{needs_read, read_needs, all_targets}
use Rattle.ae_order.proofs.SoundOf.{equation_sound, named_of, place_is}
use Rattle.ae_netlist.proofs.Gets.{get_set_other, get_set_same}

pub noted_long : (ns : List NetTree) (vs : List (Option ExprTree)) (ds : List DriveTree) → length (noted ns vs ds) ≡ length vs
noted_long ns vs [] = refl
noted_long ns vs (d ∷ ds) = noted_long ns (with_drive ns vs d) ds ∙ length-set vs (place_of ns d.name) (Some d.value)

pub noted_append : (ns : List NetTree) (vs : List (Option ExprTree)) (ds es : List DriveTree) → noted ns vs (ds ++ es) ≡ noted ns (noted ns vs ds) es
noted_append ns vs [] es = refl
noted_append ns vs (d ∷ ds) es = noted_append ns (with_drive ns vs d) ds es

-- at a place where none of them is nothing changes
noted_free : (ns : List NetTree) (vs : List (Option ExprTree)) (ds : List DriveTree) (p : ℕ) → ((d : DriveTree) → Among d ds → place_of ns d.name ≡ p → ⊥)
    → slice_get (noted ns vs ds) p ≡ slice_get vs p
noted_free ns vs [] p none = refl
noted_free ns vs (d ∷ ds) p none =
    noted_free ns (with_drive ns vs d) ds p (λ e a. none e (inr a))
    ∙ get_set_other vs (place_of ns d.name) p (Some d.value) (λ e. none d (inl refl) (sym e))

noted_driven : (ns : List NetTree) (vs : List (Option ExprTree)) (ds : List DriveTree) (d : DriveTree) (p : ℕ) → Among d ds → place_of ns d.name ≡ p
    → p < length vs → ((e : DriveTree) → Among e ds → place_of ns e.name ≡ p → e ≡ d)
    → slice_get (noted ns vs ds) p ≡ Some (Some d.value)
noted_driven ns vs [] d p a at l only = absurd a
noted_driven ns vs (e ∷ ds) d p a at l only =
    let more : p < length (with_drive ns vs e) = (let s = length-set vs (place_of ns e.name) (Some e.value) in omega arith) in
    let test : (x : DriveTree) → (place_of ns x.name ≡ p) ⊎ (place_of ns x.name ≡ p → ⊥) = λ x. cases_eq (place_of ns x.name) p in
    elim (some_or_not (λ (x : DriveTree). place_of ns x.name ≡ p) test ds) [
      | inl r ↦
          let s : r.0 ≡ d = only r.0 (inr r.1) r.2 in
          noted_driven ns (with_drive ns vs e) ds d p (subst (λ x. Among x ds) s r.1) at more (λ x b h. only x (inr b) h)
      | inr none ↦ elim a [
        | inl s ↦
            let here : place_of ns e.name ≡ p = subst (λ (x : DriveTree). place_of ns x.name ≡ p) (sym s) at in
            noted_free ns (with_drive ns vs e) ds p (λ x b h. none (x, b, h))
            ∙ ap (λ k. slice_get (set vs k (Some e.value)) p) here
            ∙ get_set_same vs p (Some e.value) _ (slice_get-get_or vs p None l)
            ∙ ap (λ (x : DriveTree). Some (Some x.value)) s
        | inr later ↦ absurd (none (d, later, at))
      ]
    ]

nothing_noted : (n p : ℕ) → p < n → slice_get (replicate {A = Option ExprTree} n None) p ≡ Some None
nothing_noted zero p l = absurd (omega arith)
nothing_noted (suc n) zero l = refl
nothing_noted (suc n) (suc p) l = nothing_noted n p (omega arith)

none_long : (n : ℕ) → length (replicate {A = Option ExprTree} n None) ≡ n
none_long zero = refl
none_long (suc n) = ap suc (none_long n)

module _ (m : ModuleTree) (ok : IsRegular m) (shape : IsShapely m) where
  target_named : (d : DriveTree) → Among d (equations m) → IsNamed m.nets d.name
  target_named d a = let r = driven_net m ok d a in subst (IsNamed m.nets) r.2 (named_of m ok shape r.0 r.1)

  pub values_long : length (values_of m) ≡ length m.nets
  values_long = noted_long m.nets _ (equations m) ∙ none_long (length m.nets)

  -- the net of an equation is at the place of its name
  target_at : (d : DriveTree) → Among d (equations m) → (x : NetTree) × NetAt m (place_of m.nets d.name) x × (x.name ≡ d.name)
  target_at d a = let h = target_named d a in (h.net, h.at, (named_net m.nets d.name h.net h.found).1)

  same_target : (d e : DriveTree) → Among d (equations m) → Among e (equations m) → place_of m.nets e.name ≡ place_of m.nets d.name → e ≡ d
  same_target d e a b h =
      let r = target_at d a in
      let s = target_at e b in
      let o : Some s.0 ≡ Some r.0 = sym s.1 ∙ ap (slice_get m.nets) h ∙ r.1 in
      let x : s.0 ≡ r.0 = cc in
      equation_once m ok e d b a (sym s.2 ∙ ap (λ (u : NetTree). u.name) x ∙ r.2)

  pub value_driven : (d : DriveTree) → Among d (equations m) → slice_get (values_of m) (place_of m.nets d.name) ≡ Some (Some d.value)
  value_driven d a =
      let r = target_at d a in
      let l = slice_get_within m.nets (place_of m.nets d.name) r.0 r.1 in
      let n = none_long (length m.nets) in
      noted_driven m.nets _ (equations m) d (place_of m.nets d.name) a refl (omega arith) (λ e b h. same_target d e a b h)

  pub value_free : (p : ℕ) → p < length m.nets → ((d : DriveTree) → Among d (equations m) → place_of m.nets d.name ≡ p → ⊥)
      → slice_get (values_of m) p ≡ Some None
  value_free p l none = noted_free m.nets _ (equations m) p none ∙ nothing_noted (length m.nets) p l

  -- the equation of a value
  pub value_equation : (p : ℕ) (v : ExprTree) → slice_get (values_of m) p ≡ Some (Some v) → (d : DriveTree) × Among d (equations m)
      × (place_of m.nets d.name ≡ p) × (d.value ≡ v)
  value_equation p v h =
      let l = slice_get_within (values_of m) p (Some v) h in
      let n = values_long in
      elim (some_or_not (λ (d : DriveTree). place_of m.nets d.name ≡ p) (λ d. cases_eq (place_of m.nets d.name) p) (equations m)) [
        | inl r ↦
            let s : Some (Some r.0.value) ≡ Some (Some v) = sym (value_driven r.0 r.1) ∙ ap (slice_get (values_of m)) r.2 ∙ h in
            (r.0, r.1, r.2, (let e : r.0.value ≡ v = cc in e))
        | inr none ↦
            let s : Some None ≡ Some (Some v) = sym (value_free p (omega arith) (λ d a e. none (d, a, e))) ∙ h in
            absurd (cc)
      ]

  pub values_sound : AreSoundValues m.nets (values_of m)
  values_sound p e h = let r = value_equation p e h in subst (IsSound m.nets) r.3 (equation_sound m ok shape r.0 r.1)

  pub equations_driven : AreDriven m.nets (equations m)
  equations_driven k d h = target_named d (among_from d (equations m) k h)

  -- what an equation reads is named, and has its place
  read_named : (d : DriveTree) → Among d (equations m) → (n : List ℕ) → Among n (names_in d.value) → (x : NetTree) × NetAt m (place_of m.nets n) x
      × (x.name ≡ n)
  read_named d a n b =
      let r = (equation_readable m ok d a).known n b in
      let h = subst (IsNamed m.nets) r.named (named_of m ok shape r.net r.there) in
      (h.net, h.at, (named_net m.nets n h.net h.found).1)

  module _ (starts targets : List ℕ) (flat : IsFlat m.nets (values_of m) (length (values_of m) + 1) starts targets) where
    pub targets_inside : (q : ℕ) → Among q targets → q < length (values_of m)
    targets_inside q a =
        let n = values_long in
        let r = among_unflat (places_in m.nets) q (values_of m) (subst (Among q) (all_targets m.nets (values_of m) starts targets flat) a) in
        inside r.0 r.1 r.2 r.3
      where
        inside : (p : ℕ) (v : Option ExprTree) → slice_get (values_of m) p ≡ Some v → Among q (places_in m.nets v) → q < length (values_of m)
        inside p None h b = absurd b
        inside p (Some e) h b =
            let d = value_equation p e h in
            let u = among_unmap (place_of m.nets) q (names_read e) b in
            let x = read_named d.0 d.1 u.0 (subst (λ v. Among u.0 (names_in v)) (sym d.3) (read_among u.0 e u.1)) in
            let l = slice_get_within m.nets (place_of m.nets u.0) x.0 x.1 in
            let long = values_long in
            let same = u.2 in
            omega arith

    feeds_of : (p q : ℕ) (v : Option ExprTree) → slice_get (values_of m) p ≡ Some v → Among q (places_in m.nets v) → FeedsAt m p q
    feeds_of p q None h b = absurd b
    feeds_of p q (Some e) h b =
        let d = value_equation p e h in
        let u = among_unmap (place_of m.nets) q (names_read e) b in
        let reads = subst (λ v. Among u.0 (names_in v)) (sym d.3) (read_among u.0 e u.1) in
        let x = target_at d.0 d.1 in
        let y = read_named d.0 d.1 u.0 reads in
        record {
          net = x.0;
          other = y.0;
          at = subst (λ k. NetAt m k x.0) d.2 x.1;
          other_at = subst (λ k. NetAt m k y.0) u.2 y.1;
          feeds = (d.0, d.1, sym x.2, subst (λ n. Among n (names_in d.0.value)) (sym y.2) reads);
        }

    pub needs_feeds : (p q : ℕ) → g.Needs starts targets p q → FeedsAt m p q
    needs_feeds p q h = let r = needs_read m.nets (values_of m) starts targets flat p q h in feeds_of p q r.0 r.1 r.2

    pub feeds_needs : (p q : ℕ) → FeedsAt m p q → g.Needs starts targets p q
    feeds_needs p q f =
        let d : DriveTree = f.feeds.0 in
        let p_is : place_of m.nets d.name ≡ p = ap (place_of m.nets) f.feeds.2 ∙ place_is m ok shape p f.net f.at in
        let q_is : place_of m.nets f.other.name ≡ q = place_is m ok shape q f.other f.other_at in
        read_needs m.nets (values_of m) starts targets flat p q (Some d.value)
        (subst (λ k. slice_get (values_of m) k ≡ Some (Some d.value)) p_is (value_driven d f.feeds.1))
        (subst (λ k. Among k (places_in m.nets (Some d.value))) q_is
        (among_map (place_of m.nets) f.other.name (names_read d.value) (among_read f.other.name d.value f.feeds.3)))

    -- a loop of places is one of names
    same_at : (p : ℕ) (x y : NetTree) → NetAt m p x → NetAt m p y → x.name ≡ y.name
    same_at p x y hx hy = let s : Some x ≡ Some y = sym hx ∙ hy in let e : x ≡ y = cc in ap (λ (u : NetTree). u.name) e

    reach_names : (p q : ℕ) → g.Reaches starts targets p q → (x y : NetTree) → NetAt m p x → NetAt m q y → Reaches m x.name y.name
    reach_names _ _ (g.At_once p q n) x y hx hy =
        let f = needs_feeds p q n in
        at_once x.name y.name (subst (λ k. Feeds m k y.name) (same_at p f.net x f.at hx)
        (subst (Feeds m f.net.name) (same_at q f.other y f.other_at hy) f.feeds))
    reach_names _ _ (g.Through p q r n rest) x y hx hy =
        let f = needs_feeds p q n in
        through x.name f.other.name y.name (subst (λ k. Feeds m k f.other.name) (same_at p f.net x f.at hx) f.feeds)
        (reach_names q r rest f.other y f.other_at hy)

    start_at : (p q : ℕ) → g.Reaches starts targets p q → (x : NetTree) × NetAt m p x
    start_at _ _ (g.At_once p q n) = let f = needs_feeds p q n in (f.net, f.at)
    start_at _ _ (g.Through p q r n rest) = let f = needs_feeds p q n in (f.net, f.at)

    pub loop_of : (p : ℕ) → g.Reaches starts targets p p → HasLoop m p
    loop_of p r = let x = start_at p p r in (x.0, x.1, reach_names p p r x.0 x.0 x.1 x.1)

    reach_places : (a b : List ℕ) → Reaches m a b → (p : ℕ) (x : NetTree) → NetAt m p x → x.name ≡ a → (q : ℕ) (y : NetTree) → NetAt m q y → y.name ≡ b
        → g.Reaches starts targets p q
    reach_places _ _ (at_once a b f) p x hx ex q y hy ey =
        g.At_once p q (feeds_needs p q (record {
          net = x;
          other = y;
          at = hx;
          other_at = hy;
          feeds = subst (λ k. Feeds m k y.name) (sym ex) (subst (Feeds m a) (sym ey) f);
        }))
    reach_places _ _ (through a b c f rest) p x hx ex q y hy ey =
        let n = read_named f.0 f.1 b f.3 in
        let mid = place_of m.nets b in
        g.Through p mid q (feeds_needs p mid (record {
          net = x;
          other = n.0;
          at = hx;
          other_at = n.1;
          feeds = subst (λ k. Feeds m k n.0.name) (sym ex) (subst (Feeds m a) (sym n.2) f);
        }))
        (reach_places b c rest mid n.0 n.1 n.2 q y hy ey)

    pub order_is : (order : List ℕ) → g.IsOrder starts targets order → IsWireOrder m order
    order_is order o = record {
      places = λ k p h. let long = flat.long in let n = values_long in let l = o.nodes k p h in omega arith;
      every = λ p l. o.every p (let long = flat.long in let n = values_long in omega arith);
      after = λ k p q h f. o.after k p q h (feeds_needs p q f);
      once = o.once;
    }

    pub no_loop_of : (order : List ℕ) → g.IsOrder starts targets order → Never (HasLoop m)
    no_loop_of order o = λ p h. none_loops starts targets order o p (reach_places h.0.name h.0.name h.2 p h.0 h.1 refl p h.0 h.1 refl)

-- the graph of the code is that of the module
pub flat_is : (m : ModuleTree) (ns : List NetTree) (vs : List (Option ExprTree)) (k : ℕ) (starts targets : List ℕ) → ns ≡ m.nets → vs ≡ values_of m
    → k ≡ length vs → IsFlat ns vs (k + 1) starts targets
    → IsFlat m.nets (values_of m) (length (values_of m) + 1) starts targets
flat_is m ns vs k starts targets e f l h =
    subst (λ (us : List (Option ExprTree)). IsFlat m.nets us (length us + 1) starts targets) f
    (subst (λ (xs : List NetTree). IsFlat xs vs (length vs + 1) starts targets) e (subst (λ (n : ℕ). IsFlat ns vs (n + 1) starts targets) l h))

pub fault_is : (m : ModuleTree) (starts targets : List ℕ) → ((p : ℕ) → g.Reaches starts targets p p → HasLoop m p) → (f : OrderFault) → Fails starts targets f
    → IsLoopFault m f
fault_is m starts targets loop (Loop p) h = loop p h
fault_is m starts targets loop Memory h = tt

pub on_ok_from : {A E Q : Type 0} {P : A → Type 0} (r : Result A E) → ((y : A) → P y → Q) → IfOk r P → OnOk r Q
on_ok_from (Ok y) f h = f y h
on_ok_from (Err e) f h = tt

pub err_map : {A E : Type 0} {P Q : E → Type 0} (r : Result A E) → ((e : E) → P e → Q e) → IfErr r P → IfErr r Q
err_map (Ok y) f h = tt
err_map (Err e) f h = f e h
