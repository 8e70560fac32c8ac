-- The types of an accepted program's items.
use Rattle.std.proofs.Common.{◌≡◌, ℕ, zero, suc, Bool, true, false, ◌&&◌, List, [], ◌∷◌, ◌++◌, take, map, Option, Some, None, IsTrue, slice_get, refl, sym, ap, ◌∙◌, subst}
use Rattle.std.proofs.lemmas.List.{map-append}
use Rattle.ae_seqtype.specs.SeqTree.{SeqTree, in_size}
use Rattle.ae_seq.specs.ProgramTree.{FuncTree, NodeTree, ProgramTree}
use Rattle.ae_seq.specs.Typing.{Judged, Signature, Verdict, all_in_size, fine, untyped, too_large, grown, item_types, judged, judged_func, judged_nodes, node_type, param_types, refused, refused_or, signature, signatures, size_verdict, verdict}
use Rattle.ae_eval.specs.Stack.{IsTyped, somes, types_for, types_in}

pub both-none : (j : Judged) (v : Verdict) (o : Option Judged) → refused_or j v o ≡ None → (v ≡ fine) × (o ≡ None)
both-none j fine o h = (refl, h)
both-none j untyped o h = cc
both-none j too_large o h = cc

first-none : (xs ys : List Judged) → refused (xs ++ ys) ≡ None → refused xs ≡ None
first-none [] ys h = refl
first-none (j ∷ xs) ys h =
    let r = both-none j j.verdict (refused (xs ++ ys)) h in
    let rest = first-none xs ys r.1 in
    rw (r.0, rest) refl

later-none : (xs ys : List Judged) → refused (xs ++ ys) ≡ None → refused ys ≡ None
later-none [] ys h = h
later-none (j ∷ xs) ys h = later-none xs ys (both-none j j.verdict (refused (xs ++ ys)) h).1

fine-size : (b : Bool) → size_verdict b ≡ fine → b ≡ true
fine-size true h = refl
fine-size false h = cc

fine-type : (o : Option SeqTree) → verdict o ≡ fine → (t : SeqTree) × (o ≡ Some t) × (in_size t ≡ true)
fine-type None h = cc
fine-type (Some t) h = (t, refl, fine-size (in_size t) h)

and-push : (a b c : Bool) → (a && b) ≡ true → (b ≡ true → c ≡ true) → (a && c) ≡ true
and-push true b c h f = f h
and-push false b c h f = h

sized-push : (ts : List SeqTree) (t : SeqTree) → all_in_size ts ≡ true → in_size t ≡ true → all_in_size (ts ++ t ∷ []) ≡ true
sized-push [] t h g = rw g refl
sized-push (u ∷ ts) t h g = and-push (in_size u) (all_in_size ts) (all_in_size (ts ++ t ∷ [])) h (λ k. sized-push ts t k g)

-- items that are typed and in size
pub record Items (os : List (Option SeqTree)) : Type 0 where
  pub types : List SeqTree
  pub all : os ≡ map Some types
  pub sized : all_in_size types ≡ true

grown-items : (known : List Signature) (us : List SeqTree) (ns : List NodeTree) → all_in_size us ≡ true → refused (judged_nodes known (map Some us) ns) ≡ None
    → Items (grown (node_type known) (map Some us) ns)
grown-items known us [] s h = record { types = us; all = refl; sized = s }
grown-items known us (n ∷ ns) s h =
    let o = node_type known (map Some us) n in
    let r = both-none (record { line = n.line; verdict = verdict o }) (verdict o) (refused (judged_nodes known (map Some us ++ o ∷ []) ns)) h in
    let t = fine-type o r.0 in
    let form : map Some us ++ o ∷ [] ≡ map Some (us ++ t.0 ∷ []) = ap (λ p. map Some us ++ p ∷ []) t.1 ∙
    sym (map-append {B = Option SeqTree} (λ x. Some x) us (t.0 ∷ [])) in
    let P : List (Option SeqTree) → Type 0 = λ os. refused (judged_nodes known os ns) ≡ None in
    let Q : List (Option SeqTree) → Type 0 = λ os. Items (grown (node_type known) os ns) in
    subst Q (sym form) (grown-items known (us ++ t.0 ∷ []) ns (sized-push us t.0 s t.2) (subst P form r.1))

func-items : (known : List Signature) (f : FuncTree) → refused (judged_func known f) ≡ None → Items (item_types known f)
func-items known f h =
    let r = both-none (record { line = f.line; verdict = size_verdict (all_in_size (param_types f)) }) (size_verdict (all_in_size (param_types f)))
    (refused (judged_nodes known (map Some (param_types f)) f.nodes)) h in
    grown-items known (param_types f) f.nodes (fine-size (all_in_size (param_types f)) r.0) r.1

items-of : (known : List Signature) (fs : List FuncTree) (k : ℕ) (f : FuncTree) → refused (judged known fs) ≡ None → slice_get fs k ≡ Some f
    → Items (item_types (grown signature known (take k fs)) f)
items-of known [] k f h e = cc
items-of known (g ∷ fs) zero f h e =
    let same : g ≡ f = cc in
    let P : FuncTree → Type 0 = λ x. Items (item_types known x) in
    subst P same (func-items known g (first-none (judged_func known g) _ h))
items-of known (g ∷ fs) (suc k) f h e = items-of (known ++ signature known g ∷ []) fs k f (later-none (judged_func known g) _ h) e

somes-of : (ts : List SeqTree) → somes (map Some ts) ≡ ts
somes-of [] = refl
somes-of (t ∷ ts) = ap (λ xs. t ∷ xs) (somes-of ts)

-- the types of the items of a function of a typed program
pub record FuncTypes (p : ProgramTree) (k : ℕ) (f : FuncTree) : Type 0 where
  pub all : item_types (signatures (take k p.funcs)) f ≡ map Some (types_in p k)
  pub sized : IsTrue (all_in_size (types_in p k))

pub func-types : (p : ProgramTree) (k : ℕ) (f : FuncTree) → IsTyped p → slice_get p.funcs k ≡ Some f → FuncTypes p k f
func-types p k f h e =
    let i = items-of [] p.funcs k f h.accepted e in
    let known = signatures (take k p.funcs) in
    let own : types_in p k ≡ i.types = ap (types_for known) e ∙ ap somes i.all ∙ somes-of i.types in
    let P : List SeqTree → Type 0 = λ ts. all_in_size ts ≡ true in
    record { all = i.all ∙ ap (λ (ts : List SeqTree). map Some ts) (sym own); sized = subst P (sym own) i.sized }
