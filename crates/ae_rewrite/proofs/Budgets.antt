-- Budgets that are reached, as they are added.
use Rattle.std.proofs.Common.{◌≡◌, ℕ, zero, suc, ◌+◌, ◌-◌, ◌<◌, ◌≤◌, List, [], ◌∷◌, ◌++◌, length, get_or, Option, Some, None, Bool, true, false, ◌||◌, nat_eq, refl, ap, sym, ◌∙◌, arith, inl, inr, ◌⊎◌, slice_get, IsTrue, Vec, cond, subst}
use Rattle.std.specs.declared.alloc.Global.{Global}
use Rattle.std.specs.Option.{option_map}
use Rattle.std.proofs.Math.ListN.{set}
use Rattle.std.proofs.lemmas.Bool.{cases_eq, eq-eqb, eqb-true, false≢true}
use Rattle.std.proofs.lemmas.List.{length-map, length-set, map-append}
use Rattle.std.proofs.lemmas.Option.{slice_get-map, none-some, same_Some, slice_get_within, slice_get_read, slice_get-get_or}
use Rattle.ae_seq.specs.ProgramTree.{ProgramTree, FuncTree, NodeTree}
use Rattle.ae_seq.specs.Formed.{formed}
use Rattle.ae_rewrite.specs.declared.calls.Call.{Call}
use Rattle.ae_rewrite.specs.Calls.{called_by}
use Rattle.ae_rewrite.specs.Scheduled.{IsReached, as_program, as_called}
use Rattle.ae_rewrite.specs.Planned.{Adds, AreCallsAmong, IsAmong, IsClosedAt, IsCall, IsEachOnce, number_items, number_lists, with_number, is_in, IsWith, IfCalled, IsNodeOf, AllEmpty, Reaches}
use Rattle.ae_rewrite.proofs.Grown.{get_in_front, get_last}
use Rattle.ae_rewrite.proofs.Lines.{called-above}

-- ---- a number among others

-- an element of a longer list is an old one or the new one
pub get_of_push : {X : Type 0} (xs : List X) (y : X) (i : ℕ) (x : X) → slice_get (xs ++ y ∷ []) i ≡ Some x → (slice_get xs i ≡ Some x)
    ⊎ ((i ≡ length xs) × (x ≡ y))
get_of_push [] y zero x h = inr (refl, sym (same_Some y x h))
get_of_push [] y (suc i) x h = absurd (none-some x h)
get_of_push (z ∷ xs) y zero x h = inl h
get_of_push (z ∷ xs) y (suc i) x h = elim (get_of_push xs y i x h) [
  | inl old ↦ inl old
  | inr new ↦ inr (omega (arith, new.0), new.1)
]

or-cases : (a b : Bool) → (a || b) ≡ true → (a ≡ true) ⊎ (b ≡ true)
or-cases true b h = inl refl
or-cases false b h = inr h

or-none : (a b : Bool) → (a || b) ≡ false → (a ≡ false) × (b ≡ false)
or-none true b h = absurd (false≢true (sym h))
or-none false b h = (refl, h)

found : (u : ℕ) (xs : List ℕ) → is_in u xs ≡ true → (i : ℕ) × (slice_get xs i ≡ Some u)
found u [] h = absurd (false≢true h)
found u (x ∷ xs) h = elim (or-cases (nat_eq x u) (is_in u xs) h) [
  | inl here ↦ (0, ap Some (eqb-true x u here))
  | inr later ↦ let r = found u xs later in (suc r.0, r.1)
]

missing : (u : ℕ) (xs : List ℕ) (i : ℕ) → is_in u xs ≡ false → slice_get xs i ≡ Some u → ⊥
missing u [] i h at = none-some u at
missing u (x ∷ xs) zero h at = false≢true (sym (or-none (nat_eq x u) (is_in u xs) h).0 ∙ eq-eqb x u (same_Some x u at))
missing u (x ∷ xs) (suc i) h at = missing u xs i (or-none (nat_eq x u) (is_in u xs) h).1 at

-- a list with the number: it has all, and the number, and each once if it was so
pub record With (xs : List ℕ) (u : ℕ) (new : List ℕ) : Type 0 where
  pub kept : (i x : ℕ) → slice_get xs i ≡ Some x → slice_get new i ≡ Some x
  pub at : ℕ
  pub there : slice_get new at ≡ Some u
  pub only : (i x : ℕ) → slice_get new i ≡ Some x → (slice_get xs i ≡ Some x) ⊎ (x ≡ u)
  pub once : IsEachOnce xs → IsEachOnce new

with-by : (xs : List ℕ) (u : ℕ) (b : Bool) → is_in u xs ≡ b → With xs u (cond b xs (xs ++ u ∷ []))
with-by xs u true h = let r = found u xs h in record { kept = λ i x at. at; at = r.0; there = r.1; only = λ i x at. inl at; once = λ o. o }
with-by xs u false h = record {
  kept = λ i x at. get_in_front xs (u ∷ []) i x at;
  at = length xs;
  there = get_last xs u;
  only = λ i x at. elim (get_of_push xs u i x at) [ inl old ↦ inl old | inr new ↦ inr new.1 ];
  once = λ o i k x a b. elim (get_of_push xs u i x a) [
    | inl old ↦ elim (get_of_push xs u k x b) [
      | inl too ↦ o i k x old too
      | inr new ↦ absurd (missing u xs i h (old ∙ ap Some new.1))
    ]
    | inr new ↦ elim (get_of_push xs u k x b) [
      | inl old ↦ absurd (missing u xs k h (old ∙ ap Some new.1))
      | inr too ↦ new.0 ∙ sym too.0
    ]
  ];
}

with-is : (xs : List ℕ) (u : ℕ) → With xs u (with_number xs u)
with-is xs u = with-by xs u (is_in u xs) refl

-- ---- one list among others

get-set : {X : Type 0} (xs : List X) (i : ℕ) (x : X) → i < length xs → slice_get (set xs i x) i ≡ Some x
get-set [] i x h = absurd (omega arith)
get-set (y ∷ xs) zero x h = refl
get-set (y ∷ xs) (suc i) x h = get-set xs i x (omega arith)

get-other : {X : Type 0} (xs : List X) (i k : ℕ) (x : X) → (k ≡ i → ⊥) → slice_get (set xs i x) k ≡ slice_get xs k
get-other [] i k x h = refl
get-other (y ∷ xs) zero zero x h = absurd (h refl)
get-other (y ∷ xs) zero (suc k) x h = refl
get-other (y ∷ xs) (suc i) zero x h = refl
get-other (y ∷ xs) (suc i) (suc k) x h = get-other xs i k x (λ e. h (ap suc e))

pub with-set : (old : List (Vec ℕ Global)) (g u : ℕ) (was v : Vec ℕ Global) → g < length old → was ≡ get_or old g was → v.items ≡ with_number was.items u →
    IsWith (number_lists old) g u (number_lists (set old g v))
with-set old g u was v h is made = record {
  count = simp (length-map, length-set);
  own = λ us at.
      let read = slice_get-map number_items old g ∙ ap (option_map number_items) (slice_get_read old (length old) g was refl h is) in
      let e : was.items ≡ us = same_Some _ _ (sym read ∙ at) in
      slice_get-map number_items (set old g v) g ∙ ap (option_map number_items) (get-set old g v h) ∙ ap Some made ∙ ap (λ xs. Some (with_number xs u)) e;
  others = λ f ne. slice_get-map number_items (set old g v) f ∙ ap (option_map number_items) (get-other old g f v ne) ∙ sym (slice_get-map number_items old f);
}

own-of : (old : List (List ℕ)) (g : ℕ) → g < length old → (us : List ℕ) × (slice_get old g ≡ Some us)
own-of old g h = (get_or old g [], slice_get-get_or old g [] h)

pub among-new : (old new : List (List ℕ)) (g u : ℕ) → g < length old → IsWith old g u new → IsAmong new g u
among-new old new g u h w =
    let us = own-of old g h in
    let x = with-is us.0 u in
    record { own = with_number us.0 u; here = w.own us.0 us.1; at = x.at; is = x.there }

pub adds-with : (p : ProgramTree) (R : ℕ → Type 0) (f : ℕ) (old new : List (List ℕ)) (g u : ℕ) → g < length old → g < f → ((s : ℕ) → R s → IsReached p s g u)
    → IsWith old g u new → Adds p R f old new
adds-with p R f old new g u h below reached w =
    let us = own-of old g h in
    let x = with-is us.0 u in
    let mine : slice_get new g ≡ Some (with_number us.0 u) = w.own us.0 us.1 in
    record {
      count = w.count;
      high = λ k p. w.others k (λ e. absurd (omega (arith, e, p, below)));
      kept = λ k v a. elim (cases_eq k g) [
        | inl e ↦ let same : us.0 ≡ a.own = same_Some _ _ (sym us.1 ∙ ap (slice_get old) (sym e) ∙ a.here) in
            record { own = with_number us.0 u; here = ap (slice_get new) e ∙ mine; at = a.at; is = x.kept a.at v (ap (λ xs. slice_get xs a.at) same ∙ a.is) }
        | inr ne ↦ record { own = a.own; here = w.others k ne ∙ a.here; at = a.at; is = a.is }
      ];
      reached = λ s r all k v a. elim (cases_eq k g) [
        | inl e ↦
            let same : with_number us.0 u ≡ a.own = same_Some _ _ (sym mine ∙ ap (slice_get new) (sym e) ∙ a.here) in
            elim (x.only a.at v (ap (λ xs. slice_get xs a.at) same ∙ a.is)) [
              | inl was ↦ all k v (record { own = us.0; here = ap (slice_get old) e ∙ us.1; at = a.at; is = was })
              | inr is ↦ rw (e, is) (reached s r)
            ]
        | inr ne ↦ all k v (record { own = a.own; here = sym (w.others k ne) ∙ a.here; at = a.at; is = a.is })
      ];
      once = λ all k vs at. elim (cases_eq k g) [
        | inl e ↦ subst IsEachOnce (same_Some _ _ (sym mine ∙ ap (slice_get new) (sym e) ∙ at)) (x.once (all g us.0 us.1))
        | inr ne ↦ all k vs (sym (w.others k ne) ∙ at)
      ];
    }

pub adds-none : (p : ProgramTree) (R : ℕ → Type 0) (f : ℕ) (bs : List (List ℕ)) → Adds p R f bs bs
adds-none p R f bs = record { count = refl; high = λ k h. refl; kept = λ k u a. a; reached = λ s r all. all; once = λ all. all }

pub adds-then : (p : ProgramTree) (R : ℕ → Type 0) (f : ℕ) (a b c : List (List ℕ)) → Adds p R f a b → Adds p R f b c → Adds p R f a c
adds-then p R f a b c x y = record {
  count = y.count ∙ x.count;
  high = λ k h. y.high k h ∙ x.high k h;
  kept = λ k u m. y.kept k u (x.kept k u m);
  reached = λ s r all. y.reached s r (x.reached s r all);
  once = λ all. y.once (x.once all);
}

-- ---- a node

pub call-below : (p : ProgramTree) (f u m : ℕ) (n : NodeTree) (c : Call) → IsTrue (formed p) → IsNodeOf p f n → called_by p f u n ≡ Some c → f ≤ m → c.func < m
call-below p f u m n c h at is le = omega (arith, called-above p f u at.of at.k n c h at.known at.here is)

pub call-adds : (p : ProgramTree) (f u : ℕ) (n : NodeTree) (c : Call) (old new : List (List ℕ)) → IsTrue (formed p) → IsNodeOf p f n
    → called_by p f u n ≡ Some c → f ≤ length old →
    IsWith old c.func c.budget new → Adds p (λ s. IsReached p s f u) f old new
call-adds p f u n c old new h at is le w =
    adds-with p (λ s. IsReached p s f u) f old new c.func c.budget (call-below p f u (length old) n c h at is le)
    (called-above p f u at.of at.k n c h at.known at.here is)
    (λ s r. as_called c.func c.budget f u at.k at.of n c r at.known at.here is refl refl) w

-- ---- the nodes of a function under a budget

pub record Visits (p : ProgramTree) (f u : ℕ) (old new : List (List ℕ)) (k : ℕ) : Type 0 where
  pub added : Adds p (λ s. IsReached p s f u) f old new
  pub calls : AreCallsAmong p f u k new

pub visits-start : (p : ProgramTree) (f u : ℕ) (bs : List (List ℕ)) → Visits p f u bs bs 0
visits-start p f u bs = record { added = adds-none p (λ s. IsReached p s f u) f bs; calls = λ k c h. absurd (omega arith) }

of-call : (o : Option Call) (P : Call → Type 0) (c : Call) → IfCalled o P → o ≡ Some c → P c
of-call None P c h e = absurd (none-some c e)
of-call (Some d) P c h e = subst P (same_Some d c e) h

same-call : (p : ProgramTree) (f u k : ℕ) (of : FuncTree) (n : NodeTree) (c : Call) → slice_get p.funcs f ≡ Some of → slice_get of.nodes k ≡ Some n
    → IsCall p f u k c → called_by p f u n ≡ Some c
same-call p f u k of n c at here is =
    let e : is.of ≡ of = same_Some _ _ (sym is.known ∙ at) in
    let m : is.node ≡ n = same_Some _ _ (sym is.here ∙ ap (λ (x : FuncTree). slice_get x.nodes k) e ∙ here) in
    ap (called_by p f u) (sym m) ∙ is.is

pub visits-more : (p : ProgramTree) (f u : ℕ) (old now new : List (List ℕ)) (k : ℕ) (of : FuncTree) (n : NodeTree) → slice_get p.funcs f ≡ Some of
    → slice_get of.nodes k ≡ Some n →
    Visits p f u old now k → Adds p (λ s. IsReached p s f u) f now new → IfCalled (called_by p f u n) (λ c. IsAmong new c.func c.budget)
    → Visits p f u old new (k + 1)
visits-more p f u old now new k of n at here v added called = record {
  added = adds-then p (λ s. IsReached p s f u) f old now new v.added added;
  calls = λ i c h is. elim (cases_eq i k) [
    | inl e ↦ of-call (called_by p f u n) (λ c. IsAmong new c.func c.budget) c called (same-call p f u k of n c at here (rw e at is))
    | inr ne ↦ added.kept c.func c.budget (v.calls i c (omega arith) is)
  ];
}

pub visits-end : (p : ProgramTree) (f u : ℕ) (old new : List (List ℕ)) (k : ℕ) (of : FuncTree) → slice_get p.funcs f ≡ Some of → length of.nodes ≤ k
    → Visits p f u old new k → IsClosedAt p f u new
visits-end p f u old new k of at h v i c is =
    let e : is.of ≡ of = same_Some _ _ (sym is.known ∙ at) in
    let inside = slice_get_within is.of.nodes i is.node is.here in
    let same = ap (λ (x : FuncTree). length x.nodes) e in
    v.calls i c (omega (arith, inside, same, h)) is

-- ---- the budgets of a function

abbrev pub OwnReached : ProgramTree → (f : ℕ) → List (List ℕ) → ℕ → Type 0
OwnReached p f bs s = (u : ℕ) → IsAmong bs f u → IsReached p s f u

pub record VisitsAll (p : ProgramTree) (f : ℕ) (own : List ℕ) (old new : List (List ℕ)) (k : ℕ) : Type 0 where
  pub mine : slice_get old f ≡ Some own
  pub added : Adds p (OwnReached p f old) f old new
  pub closed : (i u : ℕ) → i < k → slice_get own i ≡ Some u → IsClosedAt p f u new

pub all-start : (p : ProgramTree) (f : ℕ) (own : List ℕ) (bs : List (List ℕ)) → slice_get bs f ≡ Some own → VisitsAll p f own bs bs 0
all-start p f own bs at = record { mine = at; added = adds-none p (OwnReached p f bs) f bs; closed = λ i u h. absurd (omega arith) }

pub closed-kept : (p : ProgramTree) (R : ℕ → Type 0) (f g u : ℕ) (now new : List (List ℕ)) → Adds p R f now new → IsClosedAt p g u now → IsClosedAt p g u new
closed-kept p R f g u now new a closed k c is = a.kept c.func c.budget (closed k c is)

pub all-more : (p : ProgramTree) (f : ℕ) (own : List ℕ) (old now new : List (List ℕ)) (k u : ℕ) → VisitsAll p f own old now k → slice_get own k ≡ Some u →
    Adds p (λ s. IsReached p s f u) f now new → IsClosedAt p f u new → VisitsAll p f own old new (k + 1)
all-more p f own old now new k u v at added closed = record {
  mine = v.mine;
  added = record {
    count = added.count ∙ v.added.count;
    high = λ g h. added.high g h ∙ v.added.high g h;
    kept = λ g x m. added.kept g x (v.added.kept g x m);
    reached = λ s r all. added.reached s (r u (record { own = own; here = v.mine; at = k; is = at })) (v.added.reached s r all);
    once = λ all. added.once (v.added.once all);
  };
  closed = λ i x h is. elim (cases_eq i k) [
    | inl e ↦ let same : u ≡ x = same_Some _ _ (sym at ∙ ap (slice_get own) (sym e) ∙ is) in rw (← same) closed
    | inr ne ↦ closed-kept p (λ s. IsReached p s f u) f f x now new added (v.closed i x (omega arith) is)
  ];
}

pub all-end : (p : ProgramTree) (f : ℕ) (own : List ℕ) (old new : List (List ℕ)) (k : ℕ) → VisitsAll p f own old new k → length own ≤ k → (u : ℕ)
    → IsAmong new f u → IsClosedAt p f u new
all-end p f own old new k v h u a =
    let mine : slice_get new f ≡ Some own = v.added.high f (omega arith) ∙ v.mine in
    let e : a.own ≡ own = same_Some _ _ (sym a.here ∙ mine) in
    let at : slice_get own a.at ≡ Some u = ap (λ xs. slice_get xs a.at) (sym e) ∙ a.is in
    let inside = slice_get_within own a.at u at in
    v.closed a.at u (omega (arith, inside, h)) at

-- ---- all functions

pub reaches-start : (p : ProgramTree) (s m : ℕ) (old new : List (List ℕ)) → m ≡ length p.funcs - 1 → length old ≡ m → AllEmpty old
    → Adds p (λ t. IsReached p t m s) m old new → IsClosedAt p m s new →
    Reaches p s m new
reaches-start p s m old new is count none a closed = record {
  count = a.count ∙ count ∙ is;
  reached = a.reached s (as_program m s is refl) (λ f u x. absurd (none f u x));
  once = a.once (λ f us at i k u x y. absurd (none f u (record { own = us; here = at; at = i; is = x })));
  program = rw is at closed;
  closed = λ f u h x.
      let inside = slice_get_within new f x.own x.here in
      absurd (omega (arith, inside, a.count, count, h));
}

pub reaches-more : (p : ProgramTree) (s m : ℕ) (old new : List (List ℕ)) → Reaches p s (m + 1) old → Adds p (OwnReached p m old) m old new
    → ((u : ℕ) → IsAmong new m u → IsClosedAt p m u new) →
    Reaches p s m new
reaches-more p s m old new r a closed = record {
  count = a.count ∙ r.count;
  reached = a.reached s (λ u x. r.reached m u x) r.reached;
  once = a.once r.once;
  program = closed-kept p (OwnReached p m old) m (length p.funcs - 1) s old new a r.program;
  closed = λ f u h x. elim (cases_eq f m) [
    | inl e ↦ rw e (closed u (rw e at x))
    | inr ne ↦ closed-kept p (OwnReached p m old) m f u old new a
        (r.closed f u (omega arith) (record { own = x.own; here = sym (a.high f h) ∙ x.here; at = x.at; is = x.is }))
  ];
}

pub empty-push : (vs : List (Vec ℕ Global)) (v : Vec ℕ Global) → v.items ≡ [] → AllEmpty (number_lists vs) → AllEmpty (number_lists (vs ++ v ∷ []))
empty-push vs v e none f u a =
    let read : slice_get (number_lists vs ++ v.items ∷ []) f ≡ Some a.own = ap (λ xs. slice_get xs f) (sym (map-append number_items vs (v ∷ []))) ∙ a.here in
    elim (get_of_push (number_lists vs) v.items f a.own read) [
      | inl old ↦ none f u (record { own = a.own; here = old; at = a.at; is = a.is })
      | inr new ↦ none-some u (ap (λ xs. slice_get xs a.at) (sym e ∙ sym new.1) ∙ a.is)
    ]

pub number-at : (xs : List ℕ) (i : ℕ) → i < length xs → slice_get xs i ≡ Some (get_or xs i 0)
number-at xs i h = slice_get-get_or xs i 0 h
