-- Values that stand one after another, one more for each node.
use Rattle.std.proofs.Common.{◌≡◌, ℕ, zero, suc, ◌+◌, ◌≤◌, List, [], ◌∷◌, ◌++◌, length, take, drop, map, Option, Some, None, slice_get, refl, arith, sym, ap, ◌∙◌, subst, length-append, length-take, length-drop, append_assoc, append-nil}
use Rattle.std.specs.Option.{option_map}
use Rattle.std.proofs.lemmas.List.{map-append, length-map, take-append-drop, take_more, take_all, take-append-le, drop-append-le, drop-drop}
use Rattle.std.proofs.lemmas.Option.{slice_get-map, slice_get_within, get_or_from_slice_get}
use Rattle.std.proofs.Math.Seq.{take-append_seam}
use Rattle.ae_seqtype.specs.SeqTree.{SeqTree, words, kinds}
use Rattle.ae_seqtype.specs.ValueTree.{ValueTree, value_of, Fit, FitKinds}
use Rattle.ae_seqtype.proofs.Sizes.{length-kinds}
use Rattle.ae_seqtype.proofs.Stands.{length-FitKinds, length-Fit, FitKinds-append, FitKinds-split}
use Rattle.ae_seq.specs.ProgramTree.{FuncTree, NodeTree}
use Rattle.ae_seq.specs.Typing.{Signature, grown, item_types, node_type, param_types}
use Rattle.ae_seq.specs.Meaning.{Meaning, at, item_values, node_value}
use Rattle.ae_eval.specs.Stack.{FitIn, Pushed, kinds_of, values_in, words_of}

kinds_of-append : (ts us : List SeqTree) → kinds_of (ts ++ us) ≡ kinds_of ts ++ kinds_of us
kinds_of-append [] us = refl
kinds_of-append (t ∷ ts) us = ap (λ ks. kinds t ++ ks) (kinds_of-append ts us) ∙ sym (append_assoc (kinds t) (kinds_of ts) (kinds_of us))

length-kinds_of : (ts : List SeqTree) → length (kinds_of ts) ≡ words_of ts
length-kinds_of [] = refl
length-kinds_of (t ∷ ts) = omega (arith, length-append (kinds t) (kinds_of ts), length-kinds t, length-kinds_of ts)

pub length-FitIn : (ts : List SeqTree) (ws : List ℕ) → FitIn ts ws → length ws ≡ words_of ts
length-FitIn ts ws h = length-FitKinds ws (kinds_of ts) h ∙ length-kinds_of ts

first-fits : (t : SeqTree) (ts : List SeqTree) (ws : List ℕ) → FitIn (t ∷ ts) ws → Fit t (take (words t) ws) × FitIn ts (drop (words t) ws)
first-fits t ts ws h =
    let s = FitKinds-split (kinds t) (kinds_of ts) ws h in
    let size = length-kinds t in
    (rw size at s.0, rw size at s.1)

-- one more value
pub FitIn-push : (ts : List SeqTree) (t : SeqTree) (us r : List ℕ) → FitIn ts us → Fit t r → FitIn (ts ++ t ∷ []) (us ++ r)
FitIn-push ts t us r h g =
    let one : FitKinds r (kinds_of (t ∷ [])) = subst (λ ks. FitKinds r ks) (sym (append-nil (kinds t))) g in
    subst (λ ks. FitKinds (us ++ r) ks) (sym (kinds_of-append ts (t ∷ []))) (FitKinds-append us r _ _ h one)

pub values_in-push : (ts : List SeqTree) (t : SeqTree) (us r : List ℕ) → length us ≡ words_of ts → length r ≡ words t
    → values_in (ts ++ t ∷ []) (us ++ r) ≡ values_in ts us ++ value_of t r ∷ []
values_in-push [] t [] r h e = ap (λ ys. value_of t ys ∷ []) (take_all (words t) r (omega arith))
values_in-push [] t (u ∷ us) r h e = absurd (omega arith)
values_in-push (s ∷ ts) t us r h e =
    let room : words s ≤ length us = omega arith in
    rw (take-append-le (words s) us r room, drop-append-le (words s) us r room)
    (ap (λ vs. value_of s (take (words s) us) ∷ vs) (values_in-push ts t (drop (words s) us) r (omega (arith, length-drop (words s) us)) e))

-- where an item's words stand, and its value
pub record ItemAt (ts : List SeqTree) (ws : List ℕ) (i : ℕ) (t : SeqTree) : Type 0 where
  pub room : words_of (take i ts) + words t ≤ length ws
  pub fits : Fit t (take (words t) (drop (words_of (take i ts)) ws))
  pub value : at (values_in ts ws) i ≡ value_of t (take (words t) (drop (words_of (take i ts)) ws))

pub item-at : (ts : List SeqTree) (ws : List ℕ) (i : ℕ) (t : SeqTree) → FitIn ts ws → slice_get ts i ≡ Some t → ItemAt ts ws i t
item-at [] ws i t h e = cc
item-at (s ∷ ts) ws zero t h e =
    let same : s ≡ t = cc in
    let long = length-FitIn (s ∷ ts) ws h in
    let P : SeqTree → Type 0 = λ z. ItemAt (s ∷ ts) ws zero z in
    subst P same (record { room = omega arith; fits = (first-fits s ts ws h).0; value = refl })
item-at (s ∷ ts) ws (suc i) t h e =
    let long = length-FitIn (s ∷ ts) ws h in
    let r = item-at ts (drop (words s) ws) i t (first-fits s ts ws h).1 e in
    let room = r.room in
    let D = drop-drop (words_of (take i ts)) (words s) ws in
    record {
      room = omega (arith, length-drop (words s) ws);
      fits = subst (λ ys. Fit t (take (words t) ys)) D r.fits;
      value = r.value ∙ ap (λ ys. value_of t (take (words t) ys)) D;
    }

pub grown-first : {A B : Type 0} (step : List B → A → B) (known : List B) (xs : List A) → (rest : List B) × (grown step known xs ≡ known ++ rest)
grown-first step known [] = ([], sym (append-nil known))
grown-first step known (x ∷ xs) =
    let r = grown-first step (known ++ step known x ∷ []) xs in
    (step known x ∷ r.0, r.1 ∙ append_assoc known (step known x ∷ []) r.0)

pub slice_get-seam : {B : Type 0} (xs ys : List B) (y : B) (n : ℕ) → n ≡ length xs → slice_get (xs ++ y ∷ ys) n ≡ Some y
slice_get-seam [] ys y n e = rw e refl
slice_get-seam (x ∷ xs) ys y zero e = absurd (omega arith)
slice_get-seam (x ∷ xs) ys y (suc n) e = slice_get-seam xs ys y n (omega arith)

known-type : (p o : Option SeqTree) → option_map (λ (t : SeqTree). Some t) p ≡ Some o → (t : SeqTree) × (p ≡ Some t) × (o ≡ Some t)
known-type None o h = cc
known-type (Some t) o h = (t, refl, cc)

-- one more type is known after a node
pub record TypesStep (known : List Signature) (ts : List SeqTree) (n : ℕ) (node : NodeTree) (rest : List NodeTree) : Type 0 where
  pub type : SeqTree
  pub own : slice_get ts n ≡ Some type
  pub node_is : node_type known (map (λ (t : SeqTree). Some t) (take n ts)) node ≡ Some type
  pub next : take (n + 1) ts ≡ take n ts ++ type ∷ []
  pub later : grown (node_type known) (map (λ (t : SeqTree). Some t) (take (n + 1) ts)) rest ≡ map (λ (t : SeqTree). Some t) ts

pub types-step : (sigs : List Signature) (ts : List SeqTree) (n : ℕ) (l : NodeTree) (rest : List NodeTree) → n ≤ length ts
    → grown (node_type sigs) (map (λ (t : SeqTree). Some t) (take n ts)) (l ∷ rest) ≡ map (λ (t : SeqTree). Some t) ts → TypesStep sigs ts n l rest
types-step sigs ts n l rest h e =
    let some = λ (t : SeqTree). Some t in
    let known = map some (take n ts) in
    let o = node_type sigs known l in
    let r = grown-first (node_type sigs) (known ++ o ∷ []) rest in
    let form = sym e ∙ r.1 ∙ append_assoc known (o ∷ []) r.0 in
    let long : n ≡ length known = sym (length-map (take n ts) some ∙ (let q : length (take n ts) ≡ n = omega (arith, length-take n ts) in q)) in
    let got = slice_get-seam known r.0 o n long in
    let there = known-type (slice_get ts n) o (sym (slice_get-map some ts n) ∙ ap (λ xs. slice_get xs n) form ∙ got) in
    let t = there.0 in
    let within = slice_get_within ts n t there.1 in
    let next : take (n + 1) ts ≡ take n ts ++ t ∷ [] = take_more ts n t within ∙ ap (λ x. take n ts ++ x ∷ []) (get_or_from_slice_get ts n t t there.1) in
    record {
      type = t;
      own = there.1;
      node_is = there.2;
      next = next;
      later = rw (next, map-append some (take n ts) (t ∷ []), ← there.2) e;
    }

-- what holds before each node: the values of the first n items stand from base on
pub record Framed (sigs : List Signature) (known : List Meaning) (ts : List SeqTree) (vs : List ValueTree) (base n : ℕ) (old now : List ℕ)
    (rest : List NodeTree) : Type 0 where
  pub above : base ≤ length now
  pub kept : take base now ≡ take base old
  pub fits : FitIn (take n ts) (drop base now)
  pub types : grown (node_type sigs) (map (λ (t : SeqTree). Some t) (take n ts)) rest ≡ map (λ (t : SeqTree). Some t) ts
  pub values : grown (node_value known) (values_in (take n ts) (drop base now)) rest ≡ vs

-- what was put on top
pub on-top : (o : Option SeqTree) (old new : List ℕ) (v : ValueTree) → Pushed o old new v → new ≡ old ++ drop (length old) new
on-top o old new v h = sym (take-append-drop (length old) new) ∙ ap (λ ys. ys ++ drop (length old) new) h.kept

pub frame-step : (sigs : List Signature) (known : List Meaning) (ts : List SeqTree) (vs : List ValueTree) (base n : ℕ) (old now new : List ℕ) (l : NodeTree)
    (rest : List NodeTree)
    → n ≤ length ts → Framed sigs known ts vs base n old now (l ∷ rest)
    → Pushed (slice_get ts n) now new (node_value known (values_in (take n ts) (drop base now)) l)
    → Framed sigs known ts vs base (n + 1) old new rest
frame-step sigs known ts vs base n old now new l rest h f p =
    let s = types-step sigs ts n l rest h f.types in
    let t = s.type in
    let us = drop base now in
    let r = drop (length now) new in
    let one = p.stands t s.own in
    let above = f.above in
    let all : new ≡ now ++ r = on-top _ now new _ p in
    let back : drop base new ≡ us ++ r = ap (drop base) all ∙ drop-append-le base now r above in
    let front : take base new ≡ take base old = ap (take base) all ∙ take-append-le base now r above ∙ f.kept in
    let fit : FitIn (take (n + 1) ts) (drop base new) = rw (s.next, back) (FitIn-push (take n ts) t us r f.fits one.fits) in
    let value : values_in (take (n + 1) ts) (drop base new) ≡ values_in (take n ts) us ++ node_value known (values_in (take n ts) us) l ∷ [] =
    ap (λ zs. values_in zs (drop base new)) s.next ∙ ap (values_in (take n ts ++ t ∷ [])) back
    ∙ values_in-push (take n ts) t us r (length-FitIn (take n ts) us f.fits) (length-Fit t r one.fits)
    ∙ ap (λ v. values_in (take n ts) us ++ v ∷ []) one.value in
    record {
      above = rw all (omega (arith, length-append now r));
      kept = front;
      fits = fit;
      types = s.later;
      values = ap (λ xs. grown (node_value known) xs rest) value ∙ f.values;
    }

pub same-somes : (us vs : List SeqTree) → map (λ (t : SeqTree). Some t) us ≡ map (λ (t : SeqTree). Some t) vs → us ≡ vs
same-somes [] [] e = refl
same-somes [] (v ∷ vs) e = cc
same-somes (u ∷ us) [] e = cc
same-somes (u ∷ us) (v ∷ vs) e =
    let head : u ≡ v = cc in
    let tail : map (λ (t : SeqTree). Some t) us ≡ map (λ (t : SeqTree). Some t) vs = cc in
    let rest = same-somes us vs tail in
    cc

pub types-first : (ps ts : List SeqTree) (rest : List (Option SeqTree)) → map (λ (t : SeqTree). Some t) ts ≡ map (λ (t : SeqTree). Some t) ps ++ rest
    → (qs : List SeqTree) × (ts ≡ ps ++ qs)
types-first [] ts rest e = (ts, refl)
types-first (p ∷ ps) [] rest e = cc
types-first (p ∷ ps) (t ∷ ts) rest e =
    let head : t ≡ p = cc in
    let tail : map (λ (t : SeqTree). Some t) ts ≡ map (λ (t : SeqTree). Some t) ps ++ rest = cc in
    let r = types-first ps ts rest tail in
    (r.0, (let q = r.1 in cc))

pub frame-first : (sigs : List Signature) (known : List Meaning) (f : FuncTree) (ts : List SeqTree) (base : ℕ) (old : List ℕ)
    → item_types sigs f ≡ map (λ (t : SeqTree). Some t) ts → base ≤ length old → FitIn (param_types f) (drop base old)
    → Framed sigs known ts (item_values known f (values_in (param_types f) (drop base old))) base (length (param_types f)) old old f.nodes
frame-first sigs known f ts base old typed above fits =
    let ps = param_types f in
    let g = grown-first (node_type sigs) (map (λ (t : SeqTree). Some t) ps) f.nodes in
    let split = types-first ps ts g.0 (sym typed ∙ g.1) in
    let front : take (length ps) ts ≡ ps = ap (λ zs. take (length ps) zs) split.1 ∙ take-append_seam ps split.0 in
    record {
      above = above;
      kept = refl;
      fits = subst (λ zs. FitIn zs (drop base old)) (sym front) fits;
      types = ap (λ zs. grown (node_type sigs) (map (λ (t : SeqTree). Some t) zs) f.nodes) front ∙ typed;
      values = ap (λ zs. grown (node_value known) (values_in zs (drop base old)) f.nodes) front;
    }

pub frame-last : (sigs : List Signature) (known : List Meaning) (ts : List SeqTree) (vs : List ValueTree) (base n : ℕ) (old now : List ℕ)
    → Framed sigs known ts vs base n old now []
    → (take base now ≡ take base old) × (FitIn ts (drop base now)) × (values_in ts (drop base now) ≡ vs)
frame-last sigs known ts vs base n old now f =
    let whole : take n ts ≡ ts = same-somes (take n ts) ts f.types in
    (f.kept, subst (λ zs. FitIn zs (drop base now)) whole f.fits, ap (λ zs. values_in zs (drop base now)) (sym whole) ∙ f.values)
