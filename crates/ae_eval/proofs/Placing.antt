-- Items and their words on a stack.
use Rattle.std.proofs.Common.{◌≡◌, ℕ, ◌+◌, ◌<◌, ◌≤◌, List, [], ◌∷◌, ◌++◌, length, take, drop, map, get_or, Option, Some, None, slice_get, refl, arith, sym, ap, ◌∙◌, subst, length-append, length-drop}
use Rattle.std.proofs.lemmas.List.{map-append, take_all, drop_all, take-append-drop, take-take, drop-drop, take-append-le, drop-append-le, take_more}
use Rattle.std.proofs.lemmas.Option.{slice_get_within, get_or_from_slice_get}
use Rattle.ae_seqtype.specs.SeqTree.{SeqTree, words}
use Rattle.ae_seqtype.specs.ValueTree.{ValueTree, value_of, Fit, Stands}
use Rattle.ae_seqtype.proofs.Stands.{length-Fit}
use Rattle.ae_seq.specs.ProgramTree.{FuncTree, NodeTree, ProgramTree}
use Rattle.ae_seq.specs.Typing.{◌>>=◌}
use Rattle.ae_seq.specs.Meaning.{at}
use Rattle.ae_eval.specs.Stack.{FitAt, FitIn, IsTyped, Pushed, first_type, result_of, types_in, values_in, window, words_of}
use Rattle.ae_eval.specs.Lines.{ItemsHave, Laid, Passed, item_of, nodes_in, results_for, results_in, values_at}
use Rattle.ae_eval.proofs.Windows.{pushed-on, window-append}
use Rattle.ae_eval.proofs.Framing.{FitIn-push, item-at, length-FitIn, values_in-push}
use Rattle.ae_eval.proofs.Items.{arg-below, entry-at, line-facts, slice_get-take}

-- where an item of a function stands, and its value
pub record Placed (ts : List SeqTree) (vs : List ValueTree) (base i : ℕ) (stack : List ℕ) (t : SeqTree) : Type 0 where
  pub room : base + words_of (take i ts) + words t ≤ length stack
  pub fits : FitAt t (base + words_of (take i ts)) stack
  pub value : at vs i ≡ value_of t (window t (base + words_of (take i ts)) stack)

pub placed-in : (ts : List SeqTree) (base i : ℕ) (stack : List ℕ) (t : SeqTree) → base ≤ length stack → FitIn ts (drop base stack) → slice_get ts i ≡ Some t
    → Placed ts (values_in ts (drop base stack)) base i stack t
placed-in ts base i stack t above fit e =
    let r = item-at ts (drop base stack) i t fit e in
    let D = drop-drop (words_of (take i ts)) base stack in
    let room : base + words_of (take i ts) + words t ≤ length stack = (let q = r.room in omega (arith, length-drop base stack)) in
    record {
      room = room;
      fits = record { room = room; fits = subst (λ ys. Fit t (take (words t) ys)) D r.fits };
      value = r.value ∙ ap (λ ys. value_of t (take (words t) ys)) D;
    }

pub placed : (p : ProgramTree) (k n base i : ℕ) (stack : List ℕ) (t : SeqTree) → Laid p k n base stack → i < n → slice_get (types_in p k) i ≡ Some t
    → Placed (types_in p k) (values_at p k n base stack) base i stack t
placed p k n base i stack t h below e =
    let ts = types_in p k in
    let r = placed-in (take n ts) base i stack t h.above h.fits (slice_get-take n i ts below ∙ e) in
    let same : take i (take n ts) ≡ take i ts = take-take i n ts (omega arith) in
    let start : base + words_of (take i (take n ts)) ≡ base + words_of (take i ts) = ap (λ zs. base + words_of zs) same in
    let R : ℕ → Type 0 = λ s. s + words t ≤ length stack in
    let F : ℕ → Type 0 = λ s. FitAt t s stack in
    record {
      room = subst R start r.room;
      fits = subst F start r.fits;
      value = r.value ∙ ap (λ s. value_of t (window t s stack)) start;
    }

-- ---- the first result alone

first-by : (o : Option FuncTree) (ts : List SeqTree) (r : ℕ) (t : SeqTree) → slice_get (results_for o) 0 ≡ Some r → slice_get ts r ≡ Some t
    → first_type ts o ≡ Some t
first-by None ts r t h e = cc
first-by (Some f) ts r t h e = ap (λ (o : Option ℕ). o >>= λ k. slice_get ts k) h ∙ e

pub kept-result : (p : ProgramTree) (k base r start size : ℕ) (old new : List ℕ) (t : SeqTree) → base ≤ length old → FitIn (types_in p k) (drop base old)
    → slice_get (results_in p k) 0 ≡ Some r → slice_get (types_in p k) r ≡ Some t
    → start ≡ base + words_of (take r (types_in p k)) → size ≡ words t → new ≡ take base old ++ take size (drop start old)
    → Pushed (result_of p k) (take base old) new (at (values_in (types_in p k) (drop base old)) (get_or (results_in p k) 0 0))
kept-result p k base r start size old new t above fit first e es ew en =
    let ts = types_in p k in
    let q = placed-in ts base r old t above fit e in
    let own : result_of p k ≡ Some t = first-by (slice_get p.funcs k) ts r t first e in
    let item : get_or (results_in p k) 0 0 ≡ r = get_or_from_slice_get (results_in p k) 0 r 0 first in
    let out : take size (drop start old) ≡ window t (base + words_of (take r ts)) old = ap (λ n. take n (drop start old)) ew ∙ ap (λ s. window t s old) es in
    let value : at (values_in ts (drop base old)) (get_or (results_in p k) 0 0) ≡ value_of t (take size (drop start old)) =
    ap (at (values_in ts (drop base old))) item ∙ q.value ∙ ap (value_of t) (sym out) in
    pushed-on (result_of p k) (take base old) new (take size (drop start old)) (at (values_in ts (drop base old)) (get_or (results_in p k) 0 0)) en
    (λ u g.
    let same : t ≡ u = cc in
    let P : SeqTree → Type 0 = λ z. Stands z (take size (drop start old)) (at (values_in ts (drop base old)) (get_or (results_in p k) 0 0)) in
    subst P same (record { fits = subst (Fit t) (sym out) q.fits.fits; value = sym value }))

pub result-room : (p : ProgramTree) (k base r start size : ℕ) (old : List ℕ) (t : SeqTree) → base ≤ length old → FitIn (types_in p k) (drop base old)
    → slice_get (types_in p k) r ≡ Some t
    → start ≡ base + words_of (take r (types_in p k)) → size ≡ words t → (base ≤ start) × (start + size ≤ length old)
result-room p k base r start size old t above fit e es ew =
    let q = placed-in (types_in p k) base r old t above fit e in
    let room = q.room in
    (omega arith, omega arith)

-- ---- arguments

pub record Passing (ts : List SeqTree) (vs : List ValueTree) (items : List ℕ) (old now : List ℕ) : Type 0 where
  pub above : length old ≤ length now
  pub passed : Passed ts vs items old now

pub passing-none : (ts : List SeqTree) (vs : List ValueTree) (old : List ℕ) → Passing ts vs [] old old
passing-none ts vs old =
    let none : drop (length old) old ≡ [] = drop_all (length old) old (omega arith) in
    let front : take (length old) old ≡ old = take_all (length old) old (omega arith) in
    record {
      above = omega arith;
      passed = record {
        kept = front;
        types = [];
        have = tt;
        fits = subst (λ ys. FitIn [] ys) (sym none) tt;
        values = refl;
      };
    }

items-push : (ts : List SeqTree) (is : List ℕ) (us : List SeqTree) (i : ℕ) (t : SeqTree) → ItemsHave ts is us → slice_get ts i ≡ Some t
    → ItemsHave ts (is ++ i ∷ []) (us ++ t ∷ [])
items-push ts [] [] i t h e = (e, tt)
items-push ts [] (u ∷ us) i t h e = absurd h
items-push ts (j ∷ is) [] i t h e = absurd h
items-push ts (j ∷ is) (u ∷ us) i t h e = (h.0, items-push ts is us i t h.1 e)

pub passing-next : (ts : List SeqTree) (vs : List ValueTree) (is : List ℕ) (base i start size : ℕ) (old now new : List ℕ) (t : SeqTree)
    → Passing ts vs is old now → Placed ts vs base i old t → slice_get ts i ≡ Some t
    → start ≡ base + words_of (take i ts) → size ≡ words t → new ≡ now ++ take size (drop start now) → Passing ts vs (is ++ i ∷ []) old new
passing-next ts vs is base i start size old now new t h q e es ew en =
    let g = h.passed in
    let above = h.above in
    let r = window t (base + words_of (take i ts)) old in
    let form : now ≡ old ++ drop (length old) now = sym (take-append-drop (length old) now) ∙ ap (λ ys. ys ++ drop (length old) now) g.kept in
    let piece : take size (drop start now) ≡ r =
    ap (λ n. take n (drop start now)) ew ∙ ap (λ s. window t s now) es ∙ ap (λ ys. window t (base + words_of (take i ts)) ys) form
    ∙ window-append (base + words_of (take i ts)) (words t) old (drop (length old) now) q.room in
    let all : new ≡ now ++ r = en ∙ ap (λ ys. now ++ ys) piece in
    let back : drop (length old) new ≡ drop (length old) now ++ r = ap (drop (length old)) all ∙ drop-append-le (length old) now r above in
    let front : take (length old) new ≡ old = ap (take (length old)) all ∙ take-append-le (length old) now r above ∙ g.kept in
    let us = g.types in
    let more = length-append now r in
    let value : values_in (us ++ t ∷ []) (drop (length old) new) ≡ map (at vs) (is ++ i ∷ []) =
    ap (values_in (us ++ t ∷ [])) back
    ∙ values_in-push us t (drop (length old) now) r (length-FitIn us (drop (length old) now) g.fits) (length-Fit t r q.fits.fits)
    ∙ ap (λ xs. xs ++ value_of t r ∷ []) g.values
    ∙ ap (λ v. map (at vs) is ++ v ∷ []) (sym q.value)
    ∙ sym (map-append (at vs) is (i ∷ [])) in
    record {
      above = rw all (omega arith);
      passed = record {
        kept = front;
        types = us ++ t ∷ [];
        have = items-push ts is us i t g.have e;
        fits = subst (λ ys. FitIn (us ++ t ∷ []) ys) (sym back) (FitIn-push us t (drop (length old) now) r g.fits q.fits.fits);
        values = value;
      };
    }

-- an argument of a node
pub arg-placed : (p : ProgramTree) (k j base i : ℕ) (stack : List ℕ) (l : NodeTree) (t : SeqTree) → IsTyped p → k < length p.funcs
    → slice_get (nodes_in p k) j ≡ Some l → Laid p k (item_of p k j) base stack → i < length l.args
    → slice_get (types_in p k) (get_or l.args i 0) ≡ Some t → Placed (types_in p k) (values_at p k (item_of p k j) base stack) base (get_or l.args i 0) stack t
arg-placed p k j base i stack l t h known node laid within e =
    let facts = line-facts p k j l h known node in
    placed p k (item_of p k j) base (get_or l.args i 0) stack t laid (arg-below (item_of p k j) i 0 l.args facts.below within) e

pub arg-there : (p : ProgramTree) (k j base i : ℕ) (stack : List ℕ) (l : NodeTree) → IsTyped p → k < length p.funcs → slice_get (nodes_in p k) j ≡ Some l
    → Laid p k (item_of p k j) base stack → i < length l.args
    → (get_or l.args i 0 < length (types_in p k)) × (base + words_of (take (get_or l.args i 0) (types_in p k)) ≤ length stack)
arg-there p k j base i stack l h known node laid within =
    let facts = line-facts p k j l h known node in
    let below = arg-below (item_of p k j) i 0 l.args facts.below within in
    let end = slice_get_within (types_in p k) (item_of p k j) facts.type facts.own in
    let inside : get_or l.args i 0 < length (types_in p k) = omega arith in
    let there = entry-at (types_in p k) (get_or l.args i 0) inside in
    let q = arg-placed p k j base i stack l there.0 h known node laid within there.1 in
    (inside, let room = q.room in omega arith)

pub passing-arg : (p : ProgramTree) (k j base i start size : ℕ) (args old now new : List ℕ) (l : NodeTree) (t : SeqTree) → IsTyped p → k < length p.funcs
    → slice_get (nodes_in p k) j ≡ Some l → args ≡ l.args → Laid p k (item_of p k j) base old → i < length args
    → slice_get (types_in p k) (get_or args i 0) ≡ Some t → start ≡ base + words_of (take (get_or args i 0) (types_in p k)) → size ≡ words t → new ≡ now
    ++ take size (drop start now)
    → Passing (types_in p k) (values_at p k (item_of p k j) base old) (take i args) old now
    → Passing (types_in p k) (values_at p k (item_of p k j) base old) (take (i + 1) args) old new
passing-arg p k j base i start size args old now new l t h known node ea laid within e es ew en g =
    let vs = values_at p k (item_of p k j) base old in
    let a = get_or args i 0 in
    let P : List ℕ → Type 0 = λ xs. i < length xs → slice_get (types_in p k) (get_or xs i 0) ≡ Some t → Placed (types_in p k) vs base (get_or xs i 0) old t in
    let q = subst P (sym ea) (arg-placed p k j base i old l t h known node laid) within e in
    let Q : List ℕ → Type 0 = λ xs. Passing (types_in p k) vs xs old new in
    subst Q (sym (take_more args i 0 within)) (passing-next (types_in p k) vs (take i args) base a start size old now new t g q e es ew en)

pub arg-room : (p : ProgramTree) (k j base i start size : ℕ) (args old now : List ℕ) (l : NodeTree) (t : SeqTree) → IsTyped p → k < length p.funcs
    → slice_get (nodes_in p k) j ≡ Some l → args ≡ l.args → Laid p k (item_of p k j) base old → i < length args
    → slice_get (types_in p k) (get_or args i 0) ≡ Some t → start ≡ base + words_of (take (get_or args i 0) (types_in p k)) → size ≡ words t
    → length old ≤ length now → start + size ≤ length now
arg-room p k j base i start size args old now l t h known node ea laid within e es ew above =
    let vs = values_at p k (item_of p k j) base old in
    let P : List ℕ → Type 0 = λ xs. i < length xs → slice_get (types_in p k) (get_or xs i 0) ≡ Some t → Placed (types_in p k) vs base (get_or xs i 0) old t in
    let q = subst P (sym ea) (arg-placed p k j base i old l t h known node laid) within e in
    let room = q.room in
    omega arith
