-- A function on each element of a sequence, on the elements of two.
use Rattle.std.proofs.Common.{◌≡◌, ℕ, zero, suc, ◌+◌, ◌*◌, ◌<◌, ◌≤◌, List, [], ◌∷◌, ◌++◌, length, take, drop, map, get_or, Option, Some, None, IsTrue, refl, arith, sym, ap, ◌∙◌, subst, length-append, append-nil, append_assoc}
use Rattle.std.proofs.lemmas.List.{take_all, take-append-drop, take-append-le, drop-append-le}
use Rattle.std.proofs.lemmas.Bool.Decides.{nat_tests}
use Rattle.std.proofs.Math.Seq.{drop-append_seam, take-append_seam}
use Rattle.ae_seqtype.specs.SeqTree.{SeqTree, seq, words, kinds, in_size}
use Rattle.ae_seqtype.specs.ValueTree.{ValueTree, value_of, Fit, FitKinds, Stands, end, elements, listed}
use Rattle.ae_seqtype.proofs.Stands.{length-Fit, Stands-none, Stands-push}
use Rattle.ae_seq.specs.ProgramTree.{ProgramTree}
use Rattle.ae_seq.specs.Meaning.{applied, map_two, meanings}
use Rattle.ae_eval.specs.Stack.{FitAt, FitIn, Pushed, params_in, result_of, values_in, window}
use Rattle.ae_eval.specs.Lines.{TakesEach, TakesEachTwo, each_of}
use Rattle.ae_eval.proofs.Framing.{FitIn-push, values_in-push}
use Rattle.ae_eval.proofs.Pieces.{count-elements, element-stands, map-step, piece-ends}
use Rattle.ae_eval.proofs.Scanning.{right-window}
use Rattle.ae_eval.proofs.Windows.{window-append}

-- the value of a function on one value, on two
abbrev pub one_by : ProgramTree → ℕ → ValueTree → ValueTree
one_by p c x = applied (meanings p.funcs) c (x ∷ [])

abbrev pub two_by : ProgramTree → ℕ → ValueTree → ValueTree → ValueTree
two_by p c x y = applied (meanings p.funcs) c (x ∷ y ∷ [])

-- ---- one value, two values one after another

one-fits : (t : SeqTree) (r : List ℕ) → Fit t r → FitIn (t ∷ []) r
one-fits t r h = subst (λ ks. FitKinds r ks) (sym (append-nil (kinds t))) h

one-value : (t : SeqTree) (r : List ℕ) → Fit t r → values_in (t ∷ []) r ≡ value_of t r ∷ []
one-value t r h = ap (λ ys. value_of t ys ∷ []) (take_all (words t) r (omega (arith, length-Fit t r h)))

two-fit : (t u : SeqTree) (r q : List ℕ) → Fit t r → Fit u q → FitIn (t ∷ u ∷ []) (r ++ q)
two-fit t u r q h g = FitIn-push (t ∷ []) u r q (one-fits t r h) g

two-values : (t u : SeqTree) (r q : List ℕ) → Fit t r → Fit u q → values_in (t ∷ u ∷ []) (r ++ q) ≡ value_of t r ∷ value_of u q ∷ []
two-values t u r q h g =
    let long = length-Fit t r h in
    values_in-push (t ∷ []) u r q (omega arith) (length-Fit u q g) ∙ ap (λ vs. vs ++ value_of u q ∷ []) (one-value t r h)

-- ---- an element that is put on top

pub element-room : (n i start : ℕ) (t : SeqTree) (old now : List ℕ) → i < n → FitAt (seq n t) start old → length old ≤ length now
    → start + i * words t + words t ≤ length now
element-room n i start t old now lt f above =
    let room = f.room in
    let ends = piece-ends n i (words t) lt in
    omega arith

element-on : (n i start : ℕ) (t : SeqTree) (old now : List ℕ) → i < n → FitAt (seq n t) start old → take (length old) now ≡ old
    → Stands t (take (words t) (drop (start + i * words t) now)) (get_or (elements (value_of (seq n t) (window (seq n t) start old))) i end)
element-on n i start t old now lt f kept =
    let P : List ℕ → Type 0 = λ ys. Stands t ys (get_or (elements (value_of (seq n t) (window (seq n t) start old))) i end) in
    subst P (sym (right-window n t start (words t) i old now refl lt f kept)) (element-stands n i t (window (seq n t) start old) lt f.fits)

-- ---- a function on each element

pub record Mapping (p : ProgramTree) (c : ℕ) (s : SeqTree) (start : ℕ) (old now : List ℕ) (i : ℕ) : Type 0 where
  pub above : length old ≤ length now
  pub kept : take (length old) now ≡ old
  pub stands : (u : SeqTree) → result_of p c ≡ Some u → Stands (seq i u) (drop (length old) now)
      (listed (map (one_by p c) (take i (elements (value_of s (window s start old))))))

nothing-on : (old : List ℕ) → drop (length old) old ≡ []
nothing-on [] = refl
nothing-on (x ∷ old) = nothing-on old

pub mapping-first : (p : ProgramTree) (c : ℕ) (s : SeqTree) (start : ℕ) (old : List ℕ) → Mapping p c s start old old 0
mapping-first p c s start old = record {
  above = omega arith;
  kept = take_all (length old) old (omega arith);
  stands = λ u h. subst (λ ys. Stands (seq 0 u) ys (listed [])) (sym (nothing-on old)) (Stands-none u);
}

-- what a call on an element finds and leaves
record Turn (p : ProgramTree) (c n i start top : ℕ) (t : SeqTree) (old now mid : List ℕ) : Type 0 where
  base : top ≤ length mid
  front : take top mid ≡ now
  fits : FitIn (params_in p c) (drop top mid)
  value : values_in (params_in p c) (drop top mid) ≡ get_or (elements (value_of (seq n t) (window (seq n t) start old))) i end ∷ []

turn : (p : ProgramTree) (c n i start top : ℕ) (t : SeqTree) (old now mid : List ℕ) → params_in p c ≡ t ∷ [] → i < n → FitAt (seq n t) start old
    → take (length old) now ≡ old → top ≡ length now → mid ≡ now ++ take (words t) (drop (start + i * words t) now)
    → Turn p c n i start top t old now mid
turn p c n i start top t old now mid params lt f kept et em =
    let r = take (words t) (drop (start + i * words t) now) in
    let one = element-on n i start t old now lt f kept in
    let back : drop top mid ≡ r = ap (λ j. drop j mid) et ∙ ap (drop (length now)) em ∙ drop-append_seam now r in
    let front : take top mid ≡ now = ap (λ j. take j mid) et ∙ ap (take (length now)) em ∙ take-append_seam now r in
    let long = ap length em in
    let F : List SeqTree → Type 0 = λ ts. FitIn ts r in
    let G : List ℕ → Type 0 = λ ys. FitIn (params_in p c) ys in
    record {
      base = omega (arith, long, length-append now r);
      front = front;
      fits = subst G (sym back) (subst F (sym params) (one-fits t r one.fits));
      value = ap (values_in (params_in p c)) back ∙ ap (λ ts. values_in ts r) params ∙ one-value t r one.fits ∙ ap (λ v. v ∷ []) one.value;
    }

pub mapping-args : (p : ProgramTree) (c n i start top : ℕ) (s t : SeqTree) (old now mid : List ℕ) → s ≡ seq n t → TakesEach s (params_in p c) → i < n
    → FitAt s start old → Mapping p c s start old now i → top ≡ length now → mid ≡ now ++ take (words t) (drop (start + i * words t) now)
    → (top ≤ length mid) × FitIn (params_in p c) (drop top mid)
mapping-args p c n i start top s t old now mid es takes lt f m et em =
    let r = turn p c n i start top t old now mid (subst (λ z. TakesEach z (params_in p c)) es takes) lt (subst (λ z. FitAt z start old) es f) m.kept et em in
    (r.base, r.fits)

mapping-core : (p : ProgramTree) (c n i start top : ℕ) (t : SeqTree) (old now mid new : List ℕ) → TakesEach (seq n t) (params_in p c) → i < n
    → FitAt (seq n t) start old → Mapping p c (seq n t) start old now i → top ≡ length now → mid ≡ now ++ take (words t) (drop (start + i * words t) now)
    → Pushed (result_of p c) (take top mid) new (applied (meanings p.funcs) c (values_in (params_in p c) (drop top mid)))
    → Mapping p c (seq n t) start old new (i + 1)
mapping-core p c n i start top t old now mid new takes lt f m et em push =
    let q = turn p c n i start top t old now mid takes lt f m.kept et em in
    let ws = window (seq n t) start old in
    let xs = elements (value_of (seq n t) ws) in
    let above = m.above in
    let F : List ℕ → Type 0 = λ ys. Pushed (result_of p c) ys new (applied (meanings p.funcs) c (values_in (params_in p c) (drop top mid))) in
    let on = subst F q.front push in
    let r = drop (length now) new in
    let all : new ≡ now ++ r = sym (take-append-drop (length now) new) ∙ ap (λ ys. ys ++ r) on.kept in
    let back : drop (length old) new ≡ drop (length old) now ++ r = ap (drop (length old)) all ∙ drop-append-le (length old) now r above in
    let front : take (length old) new ≡ old = ap (take (length old)) all ∙ take-append-le (length old) now r above ∙ m.kept in
    let long = ap length all in
    record {
      above = omega (arith, long, length-append now r);
      kept = front;
      stands = λ u h.
          (let V : ValueTree → Type 0 = λ v. Stands u r v in
          let one = subst V (ap (applied (meanings p.funcs) c) q.value) (on.stands u h) in
          let B : List ℕ → Type 0 = λ ys. Stands (seq (i + 1) u) ys (listed (map (one_by p c) (take (i + 1) xs))) in
          subst B (sym back) (map-step n t u ws (drop (length old) now) r i (one_by p c) lt (m.stands u h) one));
    }

pub mapping-next : (p : ProgramTree) (c n i start top : ℕ) (s t : SeqTree) (old now mid new : List ℕ) → s ≡ seq n t → TakesEach s (params_in p c) → i < n
    → FitAt s start old → Mapping p c s start old now i → top ≡ length now → mid ≡ now ++ take (words t) (drop (start + i * words t) now)
    → Pushed (result_of p c) (take top mid) new (applied (meanings p.funcs) c (values_in (params_in p c) (drop top mid))) → Mapping p c s start old new (i + 1)
mapping-next p c n i start top s t old now mid new es takes lt f m et em push =
    let P : SeqTree → Type 0 = λ z. TakesEach z (params_in p c) → FitAt z start old → Mapping p c z start old now i → Mapping p c z start old new (i + 1) in
    subst P (sym es) (λ k g h. mapping-core p c n i start top t old now mid new k lt g h et em push) takes f m

each-seq : (n : ℕ) (t : SeqTree) (o : Option SeqTree) (z : SeqTree) → each_of (seq n t) o ≡ Some z → (u : SeqTree) × (o ≡ Some u) × (seq n u ≡ z)
each-seq n t None z h = cc
each-seq n t (Some u) z h = (u, refl, cc)

mapping-end : (p : ProgramTree) (c n i start : ℕ) (t : SeqTree) (old now : List ℕ) → i ≡ n → Mapping p c (seq n t) start old now i
    → Pushed (each_of (seq n t) (result_of p c)) old now (listed (map (one_by p c) (elements (value_of (seq n t) (window (seq n t) start old)))))
mapping-end p c n i start t old now ei m =
    let ws = window (seq n t) start old in
    let xs = elements (value_of (seq n t) ws) in
    let count = count-elements n t ws in
    let whole : take i xs ≡ xs = take_all i xs (omega arith) in
    record {
      kept = m.kept;
      stands = λ z h.
          (let r = each-seq n t (result_of p c) z h in
          let A : List ValueTree → Type 0 = λ ys. Stands (seq i r.0) (drop (length old) now) (listed (map (one_by p c) ys)) in
          let B : ℕ → Type 0 = λ j. Stands (seq j r.0) (drop (length old) now) (listed (map (one_by p c) xs)) in
          let C : SeqTree → Type 0 = λ y. Stands y (drop (length old) now) (listed (map (one_by p c) xs)) in
          subst C r.2 (subst B ei (subst A whole (m.stands r.0 r.1))));
    }

pub mapping-last : (p : ProgramTree) (c n i start : ℕ) (s t : SeqTree) (old now : List ℕ) → s ≡ seq n t → i ≡ n → Mapping p c s start old now i
    → Pushed (each_of s (result_of p c)) old now (listed (map (one_by p c) (elements (value_of s (window s start old)))))
mapping-last p c n i start s t old now es ei m =
    let P : SeqTree → Type 0 = λ z. Mapping p c z start old now i
    → Pushed (each_of z (result_of p c)) old now (listed (map (one_by p c) (elements (value_of z (window z start old))))) in
    subst P (sym es) (λ h. mapping-end p c n i start t old now ei h) m

-- ---- a function on the elements of two sequences in pairs

map_two-more : (g : ValueTree → ValueTree → ValueTree) (xs ys : List ValueTree) (i : ℕ) → i < length xs → i < length ys
    → map_two g (take (i + 1) xs) (take (i + 1) ys) ≡ map_two g (take i xs) (take i ys) ++ g (get_or xs i end) (get_or ys i end) ∷ []
map_two-more g [] ys i h k = absurd (omega arith)
map_two-more g (x ∷ xs) [] i h k = absurd (omega arith)
map_two-more g (x ∷ xs) (y ∷ ys) zero h k = refl
map_two-more g (x ∷ xs) (y ∷ ys) (suc i) h k =
    let sum : suc i + 1 ≡ suc (i + 1) = omega arith in
    rw sum (ap (λ zs. g x y ∷ zs) (map_two-more g xs ys i (omega arith) (omega arith)))

pub record MappingTwo (p : ProgramTree) (c : ℕ) (s z : SeqTree) (start place : ℕ) (old now : List ℕ) (i : ℕ) : Type 0 where
  pub above : length old ≤ length now
  pub kept : take (length old) now ≡ old
  pub stands : (u : SeqTree) → result_of p c ≡ Some u
      → Stands (seq i u) (drop (length old) now) (listed (map_two (two_by p c) (take i (elements (value_of s (window s start old))))
      (take i (elements (value_of z (window z place old))))))

pub mapping-two-first : (p : ProgramTree) (c : ℕ) (s z : SeqTree) (start place : ℕ) (old : List ℕ) → MappingTwo p c s z start place old old 0
mapping-two-first p c s z start place old = record {
  above = omega arith;
  kept = take_all (length old) old (omega arith);
  stands = λ u h. subst (λ ys. Stands (seq 0 u) ys (listed [])) (sym (nothing-on old)) (Stands-none u);
}

record TurnTwo (p : ProgramTree) (c n m i start place top : ℕ) (t w : SeqTree) (old now mid : List ℕ) : Type 0 where
  base : top ≤ length mid
  front : take top mid ≡ now
  fits : FitIn (params_in p c) (drop top mid)
  value : values_in (params_in p c) (drop top mid)
      ≡ get_or (elements (value_of (seq n t) (window (seq n t) start old))) i end ∷ get_or (elements (value_of (seq m w) (window (seq m w) place old))) i end
      ∷ []

turn-two : (p : ProgramTree) (c n m i start place top : ℕ) (t w : SeqTree) (old now next mid : List ℕ) → params_in p c ≡ t ∷ w ∷ [] → i < n → i < m
    → FitAt (seq n t) start old → FitAt (seq m w) place old → length old ≤ length now → take (length old) now ≡ old → top ≡ length now
    → next ≡ now ++ take (words t) (drop (start + i * words t) now) → mid ≡ next ++ take (words w) (drop (place + i * words w) next)
    → TurnTwo p c n m i start place top t w old now mid
turn-two p c n m i start place top t w old now next mid params lt lm f g above kept et en em =
    let r = take (words t) (drop (start + i * words t) now) in
    let q = take (words w) (drop (place + i * words w) now) in
    let one = element-on n i start t old now lt f kept in
    let two = element-on m i place w old now lm g kept in
    let room = element-room m i place w old now lm g above in
    let piece : take (words w) (drop (place + i * words w) next) ≡ q = ap (λ ys. take (words w) (drop (place + i * words w) ys)) en ∙
    window-append (place + i * words w) (words w) now r room in
    let all : mid ≡ now ++ (r ++ q) = em ∙ ap (λ ys. next ++ ys) piece ∙ ap (λ ys. ys ++ q) en ∙ append_assoc now r q in
    let back : drop top mid ≡ r ++ q = ap (λ j. drop j mid) et ∙ ap (drop (length now)) all ∙ drop-append_seam now (r ++ q) in
    let front : take top mid ≡ now = ap (λ j. take j mid) et ∙ ap (take (length now)) all ∙ take-append_seam now (r ++ q) in
    let long = ap length all in
    let F : List SeqTree → Type 0 = λ ts. FitIn ts (r ++ q) in
    let G : List ℕ → Type 0 = λ ys. FitIn (params_in p c) ys in
    let x = get_or (elements (value_of (seq n t) (window (seq n t) start old))) i end in
    record {
      base = omega (arith, long, length-append now (r ++ q));
      front = front;
      fits = subst G (sym back) (subst F (sym params) (two-fit t w r q one.fits two.fits));
      value = ap (values_in (params_in p c)) back ∙ ap (λ ts. values_in ts (r ++ q)) params ∙ two-values t w r q one.fits two.fits ∙
          ap (λ v. v ∷ value_of w q ∷ []) one.value ∙ ap (λ v. x ∷ v ∷ []) two.value;
    }

module _ (p : ProgramTree) (c n m i start place top : ℕ) (t w : SeqTree) (old now next mid : List ℕ) where
  pub mapping-two-args-core : TakesEachTwo (seq n t) (seq m w) (params_in p c) → i < n → FitAt (seq n t) start old → FitAt (seq m w) place old
      → MappingTwo p c (seq n t) (seq m w) start place old now i → top ≡ length now
      → next ≡ now ++ take (words t) (drop (start + i * words t) now) → mid ≡ next ++ take (words w) (drop (place + i * words w) next)
      → (top ≤ length mid) × FitIn (params_in p c) (drop top mid)
  mapping-two-args-core takes lt f g h et en em =
      let same = takes.0 in
      let r = turn-two p c n m i start place top t w old now next mid takes.1 lt (omega arith) f g h.above h.kept et en em in
      (r.base, r.fits)

  pub mapping-two-core : (new : List ℕ) → TakesEachTwo (seq n t) (seq m w) (params_in p c) → i < n → FitAt (seq n t) start old → FitAt (seq m w) place old
      → MappingTwo p c (seq n t) (seq m w) start place old now i → top ≡ length now
      → next ≡ now ++ take (words t) (drop (start + i * words t) now) → mid ≡ next ++ take (words w) (drop (place + i * words w) next)
      → Pushed (result_of p c) (take top mid) new (applied (meanings p.funcs) c (values_in (params_in p c) (drop top mid)))
      → MappingTwo p c (seq n t) (seq m w) start place old new (i + 1)
  mapping-two-core new takes lt f g h et en em push =
      let same = takes.0 in
      let lm : i < m = omega arith in
      let q = turn-two p c n m i start place top t w old now next mid takes.1 lt lm f g h.above h.kept et en em in
      let xs = elements (value_of (seq n t) (window (seq n t) start old)) in
      let ys = elements (value_of (seq m w) (window (seq m w) place old)) in
      let a = count-elements n t (window (seq n t) start old) in
      let b = count-elements m w (window (seq m w) place old) in
      let above = h.above in
      let F : List ℕ → Type 0 = λ zs. Pushed (result_of p c) zs new (applied (meanings p.funcs) c (values_in (params_in p c) (drop top mid))) in
      let on = subst F q.front push in
      let r = drop (length now) new in
      let all : new ≡ now ++ r = sym (take-append-drop (length now) new) ∙ ap (λ zs. zs ++ r) on.kept in
      let back : drop (length old) new ≡ drop (length old) now ++ r = ap (drop (length old)) all ∙ drop-append-le (length old) now r above in
      let front : take (length old) new ≡ old = ap (take (length old)) all ∙ take-append-le (length old) now r above ∙ h.kept in
      let long = ap length all in
      let more = map_two-more (two_by p c) xs ys i (omega arith) (omega arith) in
      record {
        above = omega (arith, long, length-append now r);
        kept = front;
        stands = λ u e.
            (let V : ValueTree → Type 0 = λ v. Stands u r v in
            let one = subst V (ap (applied (meanings p.funcs) c) q.value) (on.stands u e) in
            let B : List ℕ → Type 0 = λ zs. Stands (seq (i + 1) u) zs (listed (map_two (two_by p c) (take (i + 1) xs) (take (i + 1) ys))) in
            let C : List ValueTree → Type 0 = λ vs. Stands (seq (i + 1) u) (drop (length old) now ++ r) (listed vs) in
            subst B (sym back) (subst C (sym more) (Stands-push i u (drop (length old) now) r (map_two (two_by p c) (take i xs) (take i ys))
            (two_by p c (get_or xs i end) (get_or ys i end)) (h.stands u e) one)));
      }

pub mapping-two-args : (p : ProgramTree) (c n m i start place top : ℕ) (s z t w : SeqTree) (old now next mid : List ℕ) → s ≡ seq n t → z ≡ seq m w
    → TakesEachTwo s z (params_in p c) → i < n → FitAt s start old → FitAt z place old → MappingTwo p c s z start place old now i → top ≡ length now
    → next ≡ now ++ take (words t) (drop (start + i * words t) now) → mid ≡ next ++ take (words w) (drop (place + i * words w) next)
    → (top ≤ length mid) × FitIn (params_in p c) (drop top mid)
mapping-two-args p c n m i start place top s z t w old now next mid es ez takes lt f g h et en em =
    let P : SeqTree → Type 0 = λ y. TakesEachTwo y z (params_in p c) → FitAt y start old → MappingTwo p c y z start place old now i → (top ≤ length mid)
    × FitIn (params_in p c) (drop top mid) in
    let Q : SeqTree → Type 0 = λ y. TakesEachTwo (seq n t) y (params_in p c) → FitAt y place old → MappingTwo p c (seq n t) y start place old now i
    → (top ≤ length mid) × FitIn (params_in p c) (drop top mid) in
    subst P (sym es) (λ a b d. subst Q (sym ez) (λ a' b' d'. mapping-two-args-core p c n m i start place top t w old now next mid a' lt b b' d' et en em) a g
    d) takes f h

pub mapping-two-next : (p : ProgramTree) (c n m i start place top : ℕ) (s z t w : SeqTree) (old now next mid new : List ℕ) → s ≡ seq n t → z ≡ seq m w
    → TakesEachTwo s z (params_in p c) → i < n → FitAt s start old → FitAt z place old → MappingTwo p c s z start place old now i → top ≡ length now
    → next ≡ now ++ take (words t) (drop (start + i * words t) now) → mid ≡ next ++ take (words w) (drop (place + i * words w) next)
    → Pushed (result_of p c) (take top mid) new (applied (meanings p.funcs) c (values_in (params_in p c) (drop top mid)))
    → MappingTwo p c s z start place old new (i + 1)
mapping-two-next p c n m i start place top s z t w old now next mid new es ez takes lt f g h et en em push =
    let P : SeqTree → Type 0 = λ y. TakesEachTwo y z (params_in p c) → FitAt y start old → MappingTwo p c y z start place old now i
    → MappingTwo p c y z start place old new (i + 1) in
    let Q : SeqTree → Type 0 = λ y. TakesEachTwo (seq n t) y (params_in p c) → FitAt y place old → MappingTwo p c (seq n t) y start place old now i
    → MappingTwo p c (seq n t) y start place old new (i + 1) in
    subst P (sym es) (λ a b d. subst Q (sym ez) (λ a' b' d'. mapping-two-core p c n m i start place top t w old now next mid new a' lt b b' d' et en em push) a
    g d) takes f h

mapping-two-end : (p : ProgramTree) (c n m i start place : ℕ) (t w : SeqTree) (old now : List ℕ) → n ≡ m → i ≡ n
    → MappingTwo p c (seq n t) (seq m w) start place old now i
    → Pushed (each_of (seq n t) (result_of p c)) old now (listed
    (map_two (two_by p c) (elements (value_of (seq n t) (window (seq n t) start old))) (elements (value_of (seq m w) (window (seq m w) place old)))))
mapping-two-end p c n m i start place t w old now em ei h =
    let xs = elements (value_of (seq n t) (window (seq n t) start old)) in
    let ys = elements (value_of (seq m w) (window (seq m w) place old)) in
    let a = count-elements n t (window (seq n t) start old) in
    let b = count-elements m w (window (seq m w) place old) in
    let first : take i xs ≡ xs = take_all i xs (omega arith) in
    let second : take i ys ≡ ys = take_all i ys (omega arith) in
    record {
      kept = h.kept;
      stands = λ y e.
          (let r = each-seq n t (result_of p c) y e in
          let A : List ValueTree → Type 0 = λ zs. Stands (seq i r.0) (drop (length old) now) (listed (map_two (two_by p c) zs (take i ys))) in
          let B : List ValueTree → Type 0 = λ zs. Stands (seq i r.0) (drop (length old) now) (listed (map_two (two_by p c) xs zs)) in
          let C : ℕ → Type 0 = λ j. Stands (seq j r.0) (drop (length old) now) (listed (map_two (two_by p c) xs ys)) in
          let D : SeqTree → Type 0 = λ y. Stands y (drop (length old) now) (listed (map_two (two_by p c) xs ys)) in
          subst D r.2 (subst C ei (subst B second (subst A first (h.stands r.0 r.1)))));
    }

pub mapping-two-last : (p : ProgramTree) (c n m i start place : ℕ) (s z t w : SeqTree) (old now : List ℕ) → s ≡ seq n t → z ≡ seq m w
    → TakesEachTwo s z (params_in p c) → i ≡ n → MappingTwo p c s z start place old now i
    → Pushed (each_of s (result_of p c)) old now (listed (map_two (two_by p c) (elements (value_of s (window s start old)))
    (elements (value_of z (window z place old)))))
mapping-two-last p c n m i start place s z t w old now es ez takes ei h =
    let P : SeqTree → Type 0 = λ y. TakesEachTwo y z (params_in p c) → MappingTwo p c y z start place old now i
    → Pushed (each_of y (result_of p c)) old now (listed
    (map_two (two_by p c) (elements (value_of y (window y start old))) (elements (value_of z (window z place old))))) in
    let Q : SeqTree → Type 0 = λ y. TakesEachTwo (seq n t) y (params_in p c) → MappingTwo p c (seq n t) y start place old now i
    → Pushed (each_of (seq n t) (result_of p c)) old now
    (listed (map_two (two_by p c) (elements (value_of (seq n t) (window (seq n t) start old))) (elements (value_of y (window y place old))))) in
    subst P (sym es) (λ a d. subst Q (sym ez) (λ a' d'. mapping-two-end p c n m i start place t w old now a'.0 ei d') a d) takes h

-- ---- what the code asks

part-sized-core : (n : ℕ) (t : SeqTree) → IsTrue (in_size (seq n t)) → IsTrue (in_size t)
part-sized-core n t h = grind (arith, nat_tests)

pub part-sized : (n : ℕ) (s t : SeqTree) → s ≡ seq n t → IsTrue (in_size s) → IsTrue (in_size t)
part-sized n s t e h =
    part-sized-core n t (subst (λ z. IsTrue (in_size z)) e h)

pub two-within : (n m i : ℕ) (s z t w : SeqTree) (ps : List SeqTree) → s ≡ seq n t → z ≡ seq m w → TakesEachTwo s z ps → i < n → i < m
two-within n m i s z t w ps es ez takes lt =
    let a = subst (λ y. TakesEachTwo y z ps) es takes in
    let b = subst (λ y. TakesEachTwo (seq n t) y ps) ez a in
    let same = b.0 in
    omega arith

pub longer : (old now r next : List ℕ) → next ≡ now ++ r → length old ≤ length now → length old ≤ length next
longer old now r next e h = let long = ap length e in omega (arith, long, length-append now r)
