-- The first refused line, one function after another.
use Rattle.std.proofs.Common.{true, false, Bool, ◌&&◌, ◌≡◌, ℕ, ◌+◌, ◌<◌, List, [], ◌∷◌, ◌++◌, length, get_or, drop, map, Option, Some, None, slice_get, refl, sym, ap, ◌∙◌, IsTrue}
use Rattle.std.proofs.lemmas.List.{drop_more, map-append}
use Rattle.std.proofs.lemmas.Option.{slice_get-map}
use Rattle.std.specs.Option.{option_map}
use Rattle.ae_seqtype.specs.SeqTree.{SeqTree, in_size}
use Rattle.ae_seq.specs.declared.checker.CheckFault.{CheckFault}
use Rattle.ae_seq.specs.declared.checker.CheckFault.TheVariants.{BadType, Large, Memory}
use Rattle.ae_seq.specs.Accepted.{AllSized, IsCausedBy}
use Rattle.ae_seq.specs.ProgramTree.{FuncTree, NodeTree}
use Rattle.ae_seq.specs.Signatures.{HaveTypes, result_in, signatures_by}
use Rattle.ae_seq.specs.Typing.{all_in_size, fine, grown, item_types, judged, judged_func, judged_nodes, node_type, param_types, refused, refused_or, result_type, signature, size_verdict, too_large, untyped, verdict, ◌>>=◌, Judged, Signature, Verdict}

pub signatures_by-nil : (fs : List FuncTree) → signatures_by fs [] ≡ []
signatures_by-nil [] = refl
signatures_by-nil (f ∷ fs) = refl

-- one more function
pub signatures_by-push : (fs : List FuncTree) (tss : List (List SeqTree)) (ts : List SeqTree) (f : FuncTree) → slice_get fs (length tss) ≡ Some f
    → signatures_by fs (tss ++ ts ∷ []) ≡ signatures_by fs tss ++ record { params = param_types f; result = result_in f ts } ∷ []
signatures_by-push [] tss ts f h = cc
signatures_by-push (g ∷ fs) [] ts f h = rw (let e : g ≡ f = cc in e, signatures_by-nil fs) refl
signatures_by-push (g ∷ fs) (us ∷ tss) ts f h = ap (λ xs. record { params = param_types g; result = result_in g us } ∷ xs) (signatures_by-push fs tss ts f h)

same_or_none : (o : Option SeqTree) → (option_map (λ (t : SeqTree). Some t) o >>= λ p. p) ≡ o
same_or_none None = refl
same_or_none (Some t) = refl

pub result-known : (r : Option ℕ) (ts : List SeqTree) → (r >>= λ k. slice_get (map Some ts) k >>= λ o. o) ≡ (r >>= λ k. slice_get ts k)
result-known None ts = refl
result-known (Some k) ts = rw (slice_get-map {B = Option SeqTree} (λ t. Some t) ts k) (same_or_none (slice_get ts k))

-- what a function needs, where its items have these types
pub signature-known : (known : List Signature) (f : FuncTree) (ts : List SeqTree) → item_types known f ≡ map Some ts
    → signature known f ≡ record { params = param_types f; result = result_in f ts }
signature-known known f ts h =
    let r : result_type f (item_types known f) ≡ result_in f ts = ap (result_type f) h ∙ result-known (slice_get f.results 0) ts in
    ap (λ (o : Option SeqTree). record { params = param_types f; result = o }) r

refused_or-some : (j : Judged) (v : Verdict) (o : Option Judged) (k : Judged) (p : Option Judged) → (o ≡ Some k → p ≡ Some k) → refused_or j v o ≡ Some k
    → refused_or j v p ≡ Some k
refused_or-some j fine o k p h e = h e
refused_or-some j untyped o k p h e = e
refused_or-some j too_large o k p h e = e

refused_or-none : (j : Judged) (v : Verdict) (o p : Option Judged) → (o ≡ None → p ≡ None → p ≡ None) → refused_or j v o ≡ None → (o ≡ None)
    × (refused_or j v p ≡ p)
refused_or-none j fine o p h e = (e, refl)
refused_or-none j untyped o p h e = cc
refused_or-none j too_large o p h e = cc

-- the first refused line of two lists
pub refused-first : (xs ys : List Judged) (k : Judged) → refused xs ≡ Some k → refused (xs ++ ys) ≡ Some k
refused-first [] ys k h = cc
refused-first (j ∷ xs) ys k h = refused_or-some j j.verdict (refused xs) k (refused (xs ++ ys)) (refused-first xs ys k) h

pub refused-later : (xs ys : List Judged) → refused xs ≡ None → refused (xs ++ ys) ≡ refused ys
refused-later [] ys h = refl
refused-later (j ∷ xs) ys h =
    let r = refused_or-none j j.verdict (refused xs) (refused (xs ++ ys)) (λ a b. b) h in
    r.1 ∙ refused-later xs ys r.0

-- a cause found in the first of two lists
pub IsCausedBy-first : (e : CheckFault) (xs ys : List Judged) → IsCausedBy e (refused xs) → IsCausedBy e (refused (xs ++ ys))
IsCausedBy-first (BadType l) xs ys h = refused-first xs ys _ h
IsCausedBy-first (Large l) xs ys h = refused-first xs ys _ h
IsCausedBy-first Memory xs ys h = h

-- the rest of a list after a read
pub drop-read : {A : Type 0} (xs : List A) (i : ℕ) (x : A) → i < length xs → x ≡ get_or xs i x → drop i xs ≡ x ∷ drop (i + 1) xs
drop-read xs i x h e = drop_more xs i x h ∙ ap (λ y. y ∷ drop (i + 1) xs) (sym e)

-- what a function with types leaves to the functions after it
pub judged-step : (fs rest : List FuncTree) (tss : List (List SeqTree)) (f : FuncTree) (ts : List SeqTree) → slice_get fs (length tss) ≡ Some f
    → item_types (signatures_by fs tss) f ≡ map Some ts → refused (judged_func (signatures_by fs tss) f) ≡ None
    → (refused (judged (signatures_by fs (tss ++ ts ∷ [])) rest) ≡ refused (judged (signatures_by fs tss) (f ∷ rest)))
    × ((later : List (List SeqTree)) → HaveTypes (signatures_by fs (tss ++ ts ∷ [])) rest later → HaveTypes (signatures_by fs tss) (f ∷ rest) (ts ∷ later))
judged-step fs rest tss f ts h types clean =
    let known = signatures_by fs tss in
    let e = signatures_by-push fs tss ts f h ∙ ap (λ (s : Signature). known ++ s ∷ []) (sym (signature-known known f ts types)) in
    (rw e (sym (refused-later (judged_func known f) _ clean)), λ later g. (types, rw e at g))

-- one more function whose types are in size
pub AllSized-push : (tss : List (List SeqTree)) (ts : List SeqTree) → AllSized tss → IsTrue (all_in_size ts) → AllSized (tss ++ ts ∷ [])
AllSized-push [] ts h g = (g, tt)
AllSized-push (us ∷ tss) ts h g = (h.0, AllSized-push tss ts h.1 g)

-- one more node
pub node-step : (known : List Signature) (items : List SeqTree) (n : NodeTree) (rest : List NodeTree) (t : SeqTree)
    → node_type known (map Some items) n ≡ Some t → in_size t ≡ true
    → (refused (judged_nodes known (map Some (items ++ t ∷ [])) rest) ≡ refused (judged_nodes known (map Some items) (n ∷ rest)))
    × (grown (node_type known) (map Some (items ++ t ∷ [])) rest ≡ grown (node_type known) (map Some items) (n ∷ rest))
node-step known items n rest t h s =
    let m = map-append {B = Option SeqTree} (λ x. Some x) items (t ∷ []) in
    rw (m, h, s) (refl, refl)

pub true-and : (a b : Bool) → a ≡ true → b ≡ true → (a && b) ≡ true
true-and a b h g = rw h g

pub left : (a b : Bool) → (a && b) ≡ true → a ≡ true
left true b h = refl
left false b h = h

pub right : (a b : Bool) → (a && b) ≡ true → b ≡ true
right true b h = h
right false b h = cc

pub sized-push : (ts : List SeqTree) (t : SeqTree) → IsTrue (all_in_size ts) → in_size t ≡ true → IsTrue (all_in_size (ts ++ t ∷ []))
sized-push [] t h g = true-and (in_size t) true g refl
sized-push (u ∷ ts) t h g = true-and (in_size u) _ (left (in_size u) _ h) (sized-push ts t (right (in_size u) _ h) g)

-- ---- the first refused line of a function

pub not-sized : (b : Bool) → (IsTrue b → false ≡ true) → b ≡ false
not-sized true h = sym (h refl)
not-sized false h = refl

pub large-params : (known : List Signature) (f : FuncTree) → all_in_size (param_types f) ≡ false →
    refused (judged_func known f) ≡ Some (record { line = f.line; verdict = too_large })
large-params known f h =
    ap (λ b. refused_or (record { line = f.line; verdict = size_verdict b }) (size_verdict b)
    (refused (judged_nodes known (map Some (param_types f)) f.nodes))) h

pub sized-params : (known : List Signature) (f : FuncTree) → all_in_size (param_types f) ≡ true →
    refused (judged_func known f) ≡ refused (judged_nodes known (map Some (param_types f)) f.nodes)
sized-params known f h =
    ap (λ b. refused_or (record { line = f.line; verdict = size_verdict b }) (size_verdict b)
    (refused (judged_nodes known (map Some (param_types f)) f.nodes))) h

-- the first node that has no type, or one that is too large
pub untyped-node : (known : List Signature) (items : List (Option SeqTree)) (n : NodeTree) (ns : List NodeTree) → node_type known items n ≡ None
    → refused (judged_nodes known items (n ∷ ns)) ≡ Some (record { line = n.line; verdict = untyped })
untyped-node known items n ns h = ap (λ o. refused_or (record { line = n.line; verdict = verdict o }) (verdict o)
    (refused (judged_nodes known (items ++ o ∷ []) ns))) h

pub large-node : (known : List Signature) (items : List (Option SeqTree)) (n : NodeTree) (ns : List NodeTree) (t : SeqTree) →
    node_type known items n ≡ Some t → in_size t ≡ false
    → refused (judged_nodes known items (n ∷ ns)) ≡ Some (record { line = n.line; verdict = too_large })
large-node known items n ns t h s =
    ap (λ o. refused_or (record { line = n.line; verdict = verdict o }) (verdict o) (refused (judged_nodes known (items ++ o ∷ []) ns))) h
    ∙ ap (λ b. refused_or (record { line = n.line; verdict = size_verdict b }) (size_verdict b) (refused (judged_nodes known (items ++ Some t ∷ []) ns))) s
