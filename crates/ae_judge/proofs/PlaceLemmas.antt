-- Names with places, one by one.
use Rattle.std.proofs.Common.{ℕ, zero, suc, ◌≡◌, ◌+◌, ◌<◌, ◌≤◌, Bool, true, false, ◌||◌, List, [], ◌∷◌, ◌++◌, length, Option, Some, None, is_some, if◌then◌else◌, refl, sym, ap, ◌∙◌, subst, inl, inr, arith, slice_get, slice_set, replicate, map, drop}
use Rattle.std.specs.Prelude.{IfSome, bytes_eq, find, option_and_then, option_map, take, unwrap_or, nat_eq}
use Rattle.std.proofs.Common.{get_or}
use Rattle.std.proofs.lemmas.List.{drop_all, drop_more, take_more, length-take, length-map, get_or-map}
use Rattle.std.proofs.lemmas.Option.{slice_get_within, get_or_from_slice_get}
use Rattle.ae_vmodule.specs.View.{net_tree, word_at}
use Rattle.ae_vmodule.specs.declared.module.VNet.{VNet}
use Rattle.std.specs.List.{AllByRecursion, IsDistinct, list_any}
use Rattle.std.specs.Option.{option_or}
use Rattle.std.specs.Borrow.{Bor}
use Rattle.std.proofs.lemmas.Bool.{cases_Bool, cases_eq, cond-true, cond-false, both_ways}
use Rattle.std.proofs.lemmas.Bool.Decides.{nat_tests}
use Rattle.indexmap.specs.IndexMap.{insert_entry}
use Rattle.std.specs.Map.{lookup}
use Rattle.ae_vmodule.specs.ModuleTree.{NetTree}
use Rattle.ae_judge.specs.Names.{net_named}
use Rattle.ae_judge.specs.Places.{Entry, place_in, with_place, places_of, HasNames, place_named, Finds, place_noted, AreNoted, ArePlaces}
use Rattle.ae_judge.proofs.Members.{find_some, same_bytes, bytes_same, other_bytes}
use Rattle.ae_judge.proofs.Loops.{or_false, or_assoc}

abbrev or_else : {X : Type 0} → Option X → Option X → Option X
or_else None o = o
or_else (Some x) o = Some x

if_append : {X : Type 0} (c : Bool) (x : X) (a b : Option X) → (if c then Some x else or_else a b) ≡ or_else (if c then Some x else a) b
if_append true x a b = refl
if_append false x a b = refl

place_append : (es : List Entry) (m : List ℕ) (p : ℕ) (n : List ℕ)
    → place_in (es ++ (m, p) ∷ []) n ≡ or_else (place_in es n) (if bytes_eq n m then Some p else None)
place_append [] m p n = refl
place_append (e ∷ es) m p n =
    ap (λ o. if bytes_eq n e.0 then Some e.1 else o) (place_append es m p n)
    ∙ if_append (bytes_eq n e.0) e.1 (place_in es n) (if bytes_eq n m then Some p else None)

-- the places after one name is put in
pub place_with : (es : List Entry) (m : List ℕ) (p : ℕ) (n : List ℕ)
    → place_in (with_place es m p) n ≡ or_else (place_in es n) (if bytes_eq n m then Some p else None)
place_with es m p n = by (place_in es m) refl
  where
    same : (o : Option ℕ) → place_in es m ≡ o → is_some o ≡ true → or_else (place_in es n) (if bytes_eq n m then Some p else None) ≡ place_in es n
    same None e s = absurd (let f : false ≡ true = s in cc)
    same (Some q) e s = elim (cases_Bool (bytes_eq n m)) [
      | inl h ↦
          let f : place_in es n ≡ Some q = ap (place_in es) (same_bytes n m h) ∙ e in
          ap (λ o. or_else o (if bytes_eq n m then Some p else None)) f ∙ sym f
      | inr h ↦ ap (or_else (place_in es n)) (cond-false _ (Some p) None h) ∙ none (place_in es n)
    ]
      where
        none : (o : Option ℕ) → or_else o None ≡ o
        none None = refl
        none (Some x) = refl

    by : (o : Option ℕ) → place_in es m ≡ o → place_in (with_place es m p) n ≡ or_else (place_in es n) (if bytes_eq n m then Some p else None)
    by None e = ap (λ o. place_in (if is_some o then es else es ++ (m, p) ∷ []) n) e ∙ place_append es m p n
    by (Some q) e = ap (λ o. place_in (if is_some o then es else es ++ (m, p) ∷ []) n) e ∙ sym (same (Some q) e refl)

-- names

is_some_or : (a b : Option ℕ) → is_some (or_else a b) ≡ (is_some a || is_some b)
is_some_or None b = refl
is_some_or (Some x) b = refl

is_some_if : (c : Bool) (p : ℕ) → is_some (if c then Some p else None) ≡ c
is_some_if true p = refl
is_some_if false p = refl

-- whether a name is there after another is put in
pub has_with : (es : List Entry) (m : List ℕ) (p : ℕ) (n : List ℕ) → is_some (place_in (with_place es m p) n) ≡ (is_some (place_in es n) || bytes_eq n m)
has_with es m p n =
    ap is_some (place_with es m p n) ∙ is_some_or (place_in es n) (if bytes_eq n m then Some p else None)
    ∙ ap (λ b. is_some (place_in es n) || b) (is_some_if (bytes_eq n m) p)

pub any_append : {X : Type 0} (test : X → Bool) (xs ys : List X) → list_any test (xs ++ ys) ≡ (list_any test xs || list_any test ys)
any_append test [] ys = refl
any_append test (x ∷ xs) ys = ap (λ b. test x || b) (any_append test xs ys) ∙ sym (or_assoc (test x) (list_any test xs) (list_any test ys))

pub names_more : (es : List Entry) (ns : List (List ℕ)) (m : List ℕ) (p : ℕ) → HasNames es ns → HasNames (with_place es m p) (ns ++ m ∷ [])
names_more es ns m p h n =
    ap is_some (place_with es m p n) ∙ is_some_or (place_in es n) (if bytes_eq n m then Some p else None)
    ∙ (λ i. h n i || is_some_if (bytes_eq n m) p i)
    ∙ ap (λ b. list_any (bytes_eq n) ns || b) (sym (or_false (bytes_eq n m)))
    ∙ sym (any_append (bytes_eq n) ns (m ∷ []))

-- nets

pub get_within : {X : Type 0} (xs : List X) (p : ℕ) → p < length xs → (x : X) × (slice_get xs p ≡ Some x)
get_within [] p h = absurd (omega arith)
get_within (x ∷ xs) zero h = (x, refl)
get_within (x ∷ xs) (suc p) h = get_within xs p (omega arith)

bytes_turned : (xs ys : List ℕ) → bytes_eq xs ys ≡ bytes_eq ys xs
bytes_turned xs ys = elim (cases_Bool (bytes_eq ys xs)) [
  | inl h ↦ bytes_same xs ys (sym (same_bytes ys xs h)) ∙ sym h
  | inr h ↦ other_bytes xs ys (λ e. both_ways _ h (bytes_same ys xs (sym e))) ∙ sym h
]

map_or : {X Y : Type 0} (f : X → Y) (a b : Option X) → option_map f (or_else a b) ≡ or_else (option_map f a) (option_map f b)
map_or f None b = refl
map_or f (Some x) b = refl

map_if : {X Y : Type 0} (f : X → Y) (b : Bool) (x : X) → option_map f (if b then Some x else None) ≡ (if b then Some (f x) else None)
map_if f true x = refl
map_if f false x = refl

named_append : (xs : List NetTree) (x : NetTree) (n : List ℕ)
    → place_named (xs ++ x ∷ []) n ≡ or_else (place_named xs n) (if bytes_eq x.name n then Some (length xs) else None)
named_append [] x n = refl
named_append (y ∷ ys) x n = by (named_append ys x n) (bytes_eq y.name n)
  where
    by : place_named (ys ++ x ∷ []) n ≡ or_else (place_named ys n) (if bytes_eq x.name n then Some (length ys) else None) → (b : Bool)
        → (if b then Some 0 else option_map suc (place_named (ys ++ x ∷ []) n))
        ≡ or_else (if b then Some 0 else option_map suc (place_named ys n)) (if bytes_eq x.name n then Some (suc (length ys)) else None)
    by rest true = refl
    by rest false =
        ap (option_map suc) rest
        ∙ map_or suc (place_named ys n) (if bytes_eq x.name n then Some (length ys) else None)
        ∙ ap (or_else (option_map suc (place_named ys n))) (map_if suc (bytes_eq x.name n) (length ys))

pub finds_more : (ns : List NetTree) (es : List Entry) (x : NetTree) → Finds ns es → Finds (ns ++ x ∷ []) (with_place es x.name (length ns))
finds_more ns es x h n =
    place_with es x.name (length ns) n
    ∙ ap (λ o. or_else o (if bytes_eq n x.name then Some (length ns) else None)) (h n)
    ∙ ap (λ b. or_else (place_named ns n) (if b then Some (length ns) else None)) (bytes_turned n x.name)
    ∙ sym (named_append ns x n)

pub finds_none : Finds [] []
finds_none = λ n. refl

-- the net at the place of a name
pub place_at : (ns : List NetTree) (n : List ℕ) (p : ℕ) → place_named ns n ≡ Some p → (x : NetTree) × (slice_get ns p ≡ Some x) × (bytes_eq x.name n ≡ true)
place_at [] n p e = absurd (let s : None ≡ Some p = e in cc)
place_at (x ∷ xs) n p e = elim (cases_Bool (bytes_eq x.name n)) [
  | inl h ↦
      let s : 0 ≡ p = (let t : Some 0 ≡ Some p = sym (cond-true _ (Some 0) (option_map suc (place_named xs n)) h) ∙ e in cc) in
      (x, ap (slice_get (x ∷ xs)) (sym s), h)
  | inr h ↦ behind (place_at xs n) (place_named xs n) refl (sym (cond-false _ (Some 0) (option_map suc (place_named xs n)) h) ∙ e)
]
  where
    behind : ((q : ℕ) → place_named xs n ≡ Some q → (y : NetTree) × (slice_get xs q ≡ Some y) × (bytes_eq y.name n ≡ true)) → (o : Option ℕ)
        → place_named xs n ≡ o → option_map suc o ≡ Some p → (y : NetTree) × (slice_get (x ∷ xs) p ≡ Some y) × (bytes_eq y.name n ≡ true)
    behind rest None i f = absurd (let s : None ≡ Some p = f in cc)
    behind rest (Some q) i f =
        let s : suc q ≡ p = (let t : Some (suc q) ≡ Some p = f in cc) in
        let r = rest q i in
        (r.0, ap (slice_get (x ∷ xs)) (sym s) ∙ r.1, r.2)

pub place_net : (ns : List NetTree) (n : List ℕ) → option_and_then (slice_get ns) (place_named ns n) ≡ net_named ns n
unfolding net_named
place_net [] n = refl
place_net (x ∷ xs) n = by (place_net xs n) (bytes_eq x.name n)
  where
    skip : (o : Option ℕ) → option_and_then (slice_get (x ∷ xs)) (option_map suc o) ≡ option_and_then (slice_get xs) o
    skip None = refl
    skip (Some p) = refl

    by : option_and_then (slice_get xs) (place_named xs n) ≡ find (λ (y : NetTree). bytes_eq y.name n) xs → (b : Bool)
        → option_and_then (slice_get (x ∷ xs)) (if b then Some 0 else option_map suc (place_named xs n))
        ≡ (if b then Some x else find (λ (y : NetTree). bytes_eq y.name n) xs)
    by rest true = refl
    by rest false = skip (place_named xs n) ∙ rest

within_get : {X : Type 0} (xs : List X) (p : ℕ) (x : X) → slice_get xs p ≡ Some x → p < length xs
within_get [] p x e = absurd (let s : None ≡ Some x = e in cc)
within_get (y ∷ ys) zero x e = omega arith
within_get (y ∷ ys) (suc p) x e = let l = within_get ys p x e in omega arith

pub place_within : (ns : List NetTree) (n : List ℕ) → IfSome (place_named ns n) (λ p. p < length ns)
place_within ns n = by (place_named ns n) refl
  where
    by : (o : Option ℕ) → place_named ns n ≡ o → IfSome o (λ p. p < length ns)
    by None e = tt
    by (Some p) e = let r = place_at ns n p e in within_get ns p r.0 r.1

-- names of one place are one
pub place_same : (ns : List NetTree) (m n : List ℕ) (p : ℕ) → place_named ns m ≡ Some p → place_named ns n ≡ Some p → m ≡ n
place_same ns m n p e f =
    let a = place_at ns m p e in
    let b = place_at ns n p f in
    let s : a.0 ≡ b.0 = (let t : Some a.0 ≡ Some b.0 = sym a.1 ∙ b.1 in cc) in
    sym (same_bytes a.0.name m a.2) ∙ ap (λ (x : NetTree). x.name) s ∙ same_bytes b.0.name n b.2

-- the entries of the code

abbrev pub CodeEntry : Type 0
CodeEntry = Bor (List ℕ) × ℕ

pub lookup_place : (n : List ℕ) (es : List CodeEntry) → lookup (λ (k : Bor (List ℕ)). bytes_eq n k.now) es ≡ place_in (places_of es) n
lookup_place n [] = refl
lookup_place n (e ∷ es) = ap (λ o. if bytes_eq n e.0.now then Some e.1 else o) (lookup_place n es)

-- the entries after a name is put in, unless it is there
pub put_place : (eq : Bor (List ℕ) → Bor (List ℕ) → Bool) → ((k x : Bor (List ℕ)) → eq k x ≡ bytes_eq k.now x.now)
    → (es : List CodeEntry) (k : Bor (List ℕ)) (p : ℕ)
    → places_of (insert_entry eq es k (unwrap_or (lookup (eq k) es) p)) ≡ with_place (places_of es) k.now p
put_place eq same [] k p = refl
put_place eq same (e ∷ es) k p =
    by (put_place eq same es k p) (eq k e.0)
    ∙ ap (λ c. if is_some (if c then Some e.1 else place_in (places_of es) k.now) then places_of (e ∷ es) else places_of (e ∷ es) ++ (k.now, p) ∷ [])
    (same k e.0)
  where
    front : (b : Bool) (x : Entry) (xs ys : List Entry) → x ∷ (if b then xs else xs ++ ys) ≡ (if b then x ∷ xs else (x ∷ xs) ++ ys)
    front true x xs ys = refl
    front false x xs ys = refl

    by : places_of (insert_entry eq es k (unwrap_or (lookup (eq k) es) p)) ≡ with_place (places_of es) k.now p → (c : Bool)
        → places_of (if c then (e.0, unwrap_or (if c then Some e.1 else lookup (eq k) es) p) ∷ es else e
        ∷ insert_entry eq es k (unwrap_or (if c then Some e.1 else lookup (eq k) es) p))
        ≡ (if is_some (if c then Some e.1 else place_in (places_of es) k.now) then places_of (e ∷ es) else places_of (e ∷ es) ++ (k.now, p) ∷ [])
    by rest true = refl
    by rest false =
        ap (λ xs. (e.0.now, e.1) ∷ xs) rest
        ∙ front (is_some (place_in (places_of es) k.now)) (e.0.now, e.1) (places_of es) ((k.now, p) ∷ [])

-- a name was there where there are not more than before
pub same_length : (b : Bool) (n : ℕ) → nat_eq (n + (if b then 0 else 1)) n ≡ b
same_length true n = grind (arith, nat_tests)
same_length false n = grind (arith, nat_tests)

-- the next net of the code
pub finds_next : (ws : List (List ℕ)) (vs : List VNet) (es : List Entry) (i : ℕ) (d : VNet) → i < length vs → Finds (take i (map (net_tree ws) vs)) es
    → Finds (take (i + 1) (map (net_tree ws) vs)) (with_place es (word_at ws (get_or vs i d).name) i)
finds_next ws vs es i d l h =
    let xs : List NetTree = map (net_tree ws) vs in
    let long : length xs ≡ length vs = simp length-map in
    let here : get_or xs i (net_tree ws d) ≡ net_tree ws (get_or vs i d) = get_or-map (net_tree ws) vs i d (net_tree ws d) l in
    let e : take (i + 1) xs ≡ take i xs ++ net_tree ws (get_or vs i d) ∷ [] = take_more xs i (net_tree ws d) (omega arith) ∙
    ap (λ (x : NetTree). take i xs ++ x ∷ []) here in
    let n : length (take i xs) ≡ i = omega (arith, length-take i xs) in
    let made = finds_more (take i xs) es (net_tree ws (get_or vs i d)) h in
    subst (λ ns. Finds ns (with_place es (word_at ws (get_or vs i d).name) i)) (sym e)
    (subst (λ k. Finds (take i xs ++ net_tree ws (get_or vs i d) ∷ []) (with_place es (word_at ws (get_or vs i d).name) k)) n made)

-- a declared name is that which was looked for
pub named_is : (ns : List NetTree) (n : List ℕ) (x : NetTree) → net_named ns n ≡ Some x → x.name ≡ n
unfolding net_named
named_is ns n x h = same_bytes x.name n ((find_some (λ (y : NetTree). bytes_eq y.name n) ns x h).1)

-- lists in which one element is set

pub set_long : {X : Type 0} (xs : List X) (p : ℕ) (x : X) → length (slice_set xs p x) ≡ length xs
set_long [] p x = refl
set_long (y ∷ ys) zero x = refl
set_long (y ∷ ys) (suc p) x = ap suc (set_long ys p x)

pub set_same : {X : Type 0} (xs : List X) (p : ℕ) (x : X) → p < length xs → slice_get (slice_set xs p x) p ≡ Some x
set_same [] p x l = absurd (omega arith)
set_same (y ∷ ys) zero x l = refl
set_same (y ∷ ys) (suc p) x l = set_same ys p x (omega arith)

pub set_other : {X : Type 0} (xs : List X) (p q : ℕ) (x : X) → (p ≡ q → ⊥) → slice_get (slice_set xs p x) q ≡ slice_get xs q
set_other [] p q x other = refl
set_other (y ∷ ys) zero zero x other = absurd (other refl)
set_other (y ∷ ys) zero (suc q) x other = refl
set_other (y ∷ ys) (suc p) zero x other = refl
set_other (y ∷ ys) (suc p) (suc q) x other = set_other ys p q x (λ e. other (ap suc e))

-- the places of names, noted by their numbers

differs : (w : List ℕ) (vs : List (List ℕ)) (j : ℕ) → AllByRecursion (λ v. bytes_eq w v ≡ false) vs → j < length vs → w ≡ word_at vs j → ⊥
differs w [] j a l e = absurd (omega arith)
differs w (v ∷ vs) zero a l e = both_ways _ a.0 (bytes_same w v e)
differs w (v ∷ vs) (suc j) a l e = differs w vs j a.1 (omega arith) e

apart_at : (ws : List (List ℕ)) (i j : ℕ) → IsDistinct bytes_eq ws → i < length ws → j < length ws → word_at ws i ≡ word_at ws j → i ≡ j
unfolding IsDistinct
apart_at [] i j d h l e = absurd (omega arith)
apart_at (w ∷ ws) zero zero d h l e = refl
apart_at (w ∷ ws) zero (suc j) d h l e = absurd (differs w ws j d.0 (omega arith) e)
apart_at (w ∷ ws) (suc i) zero d h l e = absurd (differs w ws i d.0 (omega arith) (sym e))
apart_at (w ∷ ws) (suc i) (suc j) d h l e = ap suc (apart_at ws i j d.1 (omega arith) (omega arith) e)

some_word : (ws : List (List ℕ)) (i : ℕ) → (word_at ws i ≡ [] → ⊥) → i < length ws
some_word [] i some = absurd (some refl)
some_word (w ∷ ws) zero some = omega arith
some_word (w ∷ ws) (suc i) some = let l = some_word ws i some in omega arith

other_place : (es : List Entry) (m : List ℕ) (q : ℕ) (v : List ℕ) → bytes_eq v m ≡ false → place_in (with_place es m q) v ≡ place_in es v
other_place es m q v h = place_with es m q v ∙ ap (λ b. or_else (place_in es v) (if b then Some q else None)) h ∙ none (place_in es v)
  where
    none : (o : Option ℕ) → or_else o None ≡ o
    none None = refl
    none (Some x) = refl

this_place : (es : List Entry) (m : List ℕ) (q : ℕ) → place_in (with_place es m q) m ≡ option_or (place_in es m) (Some q)
this_place es m q =
    place_with es m q m ∙ ap (λ b. or_else (place_in es m) (if b then Some q else None)) (bytes_same m m refl) ∙ same (place_in es m)
  where
    same : (o : Option ℕ) → or_else o (Some q) ≡ option_or o (Some q)
    same None = refl
    same (Some x) = refl

other_noted : (es : List Entry) (m : List ℕ) (q : ℕ) (v : List ℕ) → (v ≡ m → ⊥) → place_noted (with_place es m q) v ≡ place_noted es v
other_noted es m q [] h = refl
other_noted es m q (c ∷ cs) h = other_place es m q (c ∷ cs) (other_bytes (c ∷ cs) m h)

some_noted : (es : List Entry) (v : List ℕ) → (v ≡ [] → ⊥) → place_noted es v ≡ place_in es v
some_noted es [] some = absurd (some refl)
some_noted es (c ∷ cs) some = refl

pub note_empty : (ws : List (List ℕ)) (es : List Entry) (ps : List (Option ℕ)) (e : Option ℕ) (q : ℕ) → AreNoted ws es ps e
    → AreNoted ws (with_place es [] q) ps (option_or e (Some q))
note_empty ws es ps e q h = record {
  long = h.long;
  each = λ k l. h.each k l ∙ ap Some (sym (stays (word_at ws k)));
  blank = ap (λ o. option_or o (Some q)) h.blank ∙ sym (this_place es [] q);
}
  where
    stays : (v : List ℕ) → place_noted (with_place es [] q) v ≡ place_noted es v
    stays [] = refl
    stays (c ∷ cs) = other_noted es [] q (c ∷ cs) (λ s. let t : c ∷ cs ≡ [] = s in cc)

noted_here : (ws : List (List ℕ)) (es : List Entry) (ps : List (Option ℕ)) (e : Option ℕ) (i : ℕ) → (word_at ws i ≡ [] → ⊥) → AreNoted ws es ps e
    → slice_get ps i ≡ Some (place_in es (word_at ws i))
noted_here ws es ps e i some h = h.each i (some_word ws i some) ∙ ap Some (some_noted es (word_at ws i) some)

pub note_more : (ws : List (List ℕ)) (es : List Entry) (ps : List (Option ℕ)) (e : Option ℕ) (i q : ℕ) (d : Option ℕ) → IsDistinct bytes_eq ws
    → (word_at ws i ≡ [] → ⊥) → AreNoted ws es ps e
    → AreNoted ws (with_place es (word_at ws i) q) (slice_set ps i (option_or (get_or ps i d) (Some q))) e
note_more ws es ps e i q d apart some h = record {
  long = set_long ps i (option_or (get_or ps i d) (Some q)) ∙ h.long;
  each = λ k l. elim (cases_eq k i) [
    | inl s ↦
        ap (slice_get (slice_set ps i (option_or (get_or ps i d) (Some q)))) s ∙ set_same ps i (option_or (get_or ps i d) (Some q)) within
        ∙ ap Some (ap (λ o. option_or o (Some q)) (get_or_from_slice_get ps i (place_in es w) d here)
        ∙ sym (this_place es w q) ∙ sym (some_noted (with_place es w q) w some) ∙ ap (λ j. place_noted (with_place es w q) (word_at ws j)) (sym s))
    | inr ne ↦
        set_other ps i k (option_or (get_or ps i d) (Some q)) (λ s. ne (sym s)) ∙ h.each k l
        ∙ ap Some (sym (other_noted es w q (word_at ws k) (λ s. ne (apart_at ws k i apart l (some_word ws i some) s))))
  ];
  blank = h.blank ∙ sym (other_place es w q [] (other_bytes [] w (λ s. some (sym s))));
}
  where
    w : List ℕ
    w = word_at ws i

    here : slice_get ps i ≡ Some (place_in es w)
    here = noted_here ws es ps e i some h

    within : i < length ps
    within = slice_get_within ps i (place_in es w) here

pub noted_there : (ws : List (List ℕ)) (es : List Entry) (ps : List (Option ℕ)) (e : Option ℕ) (i : ℕ) (d : Option ℕ) → (word_at ws i ≡ [] → ⊥)
    → AreNoted ws es ps e → get_or ps i d ≡ place_in es (word_at ws i)
noted_there ws es ps e i d some h = get_or_from_slice_get ps i (place_in es (word_at ws i)) d (noted_here ws es ps e i some h)

pub none_noted : (ws : List (List ℕ)) (n : ℕ) → n ≡ length ws → AreNoted ws [] (replicate n None) None
none_noted ws n long = record {
  long = replicate_long n ∙ long;
  each = λ k l. replicated n k (omega (arith, l, long)) ∙ ap Some (sym (nothing (word_at ws k)));
  blank = refl;
}
  where
    no_place : Option ℕ
    no_place = None

    replicate_long : (n : ℕ) → length (replicate n no_place) ≡ n
    replicate_long zero = refl
    replicate_long (suc n) = ap suc (replicate_long n)

    replicated : (n k : ℕ) → k < n → slice_get (replicate n no_place) k ≡ Some None
    replicated zero k l = absurd (omega arith)
    replicated (suc n) zero l = refl
    replicated (suc n) (suc k) l = replicated n k (omega arith)

    nothing : (v : List ℕ) → place_noted [] v ≡ None
    nothing [] = refl
    nothing (c ∷ cs) = refl

pub places_found : (ws : List (List ℕ)) (ns : List NetTree) (es : List Entry) (ps : List (Option ℕ)) (e : Option ℕ) → Finds ns es → AreNoted ws es ps e
    → ArePlaces ws ns ps
places_found ws ns es ps e finds h k p there =
    by (word_at ws k) (let s : Some (place_noted es (word_at ws k)) ≡ Some (Some p) = sym
    (h.each k (omega (arith, slice_get_within ps k (Some p) there, h.long))) ∙ there in cc)
  where
    by : (v : List ℕ) → place_noted es v ≡ Some p → place_named ns v ≡ Some p
    by [] s = absurd (let t : None ≡ Some p = s in cc)
    by (c ∷ cs) s = sym (finds (c ∷ cs)) ∙ s

-- the nets from one on, where the first is looked at
pub net_there : (ws : List (List ℕ)) (vs : List VNet) (i : ℕ) (d : VNet) → i < length vs
    → slice_get (map (net_tree ws) vs) i ≡ Some (net_tree ws (get_or vs i d))
net_there ws [] i d l = absurd (omega arith)
net_there ws (v ∷ vs) zero d l = refl
net_there ws (v ∷ vs) (suc i) d l = net_there ws vs i d (omega arith)

-- a place behind so many nets
abbrev pub behind : ℕ → Option ℕ → Option ℕ
behind k None = None
behind k (Some p) = Some (k + p)

drop_at : (ns : List NetTree) (i : ℕ) (x : NetTree) → slice_get ns i ≡ Some x → drop i ns ≡ x ∷ drop (i + 1) ns
drop_at ns i x found = drop_more ns i x (slice_get_within ns i x found) ∙ ap (λ u. u ∷ drop (i + 1) ns) (get_or_from_slice_get ns i x x found)

pub named_head : (ns : List NetTree) (i : ℕ) (x : NetTree) (n : List ℕ) → slice_get ns i ≡ Some x → bytes_eq x.name n ≡ true
    → Some i ≡ behind i (place_named (drop i ns) n)
named_head ns i x n e h =
    ap Some (let z : i ≡ i + 0 = omega arith in z)
    ∙ sym (ap (λ (xs : List NetTree). behind i (place_named xs n)) (drop_at ns i x e)
    ∙ ap (behind i) (cond-true _ (Some 0) (option_map suc (place_named (drop (i + 1) ns) n)) h))

pub named_tail : (ns : List NetTree) (i : ℕ) (x : NetTree) (n : List ℕ) → slice_get ns i ≡ Some x → bytes_eq x.name n ≡ false
    → behind (i + 1) (place_named (drop (i + 1) ns) n) ≡ behind i (place_named (drop i ns) n)
named_tail ns i x n e h =
    one (place_named (drop (i + 1) ns) n)
    ∙ sym (ap (λ (xs : List NetTree). behind i (place_named xs n)) (drop_at ns i x e)
    ∙ ap (behind i) (cond-false _ (Some 0) (option_map suc (place_named (drop (i + 1) ns) n)) h))
  where
    one : (o : Option ℕ) → behind (i + 1) o ≡ behind i (option_map suc o)
    one None = refl
    one (Some p) = ap Some (let z : i + 1 + p ≡ i + suc p = omega arith in z)

pub named_none : (ns : List NetTree) (i : ℕ) (n : List ℕ) → length ns ≤ i → None ≡ behind i (place_named (drop i ns) n)
named_none ns i n l = sym (ap (λ (xs : List NetTree). behind i (place_named xs n)) (drop_all i ns l))
