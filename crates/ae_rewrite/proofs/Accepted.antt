-- In a program of which no line is refused the type of each item is in size.
use Rattle.std.proofs.Common.{◌≡◌, ℕ, zero, suc, List, [], ◌∷◌, ◌++◌, map, take, Option, Some, None, Bool, true, false, refl, ap, sym, ◌∙◌, arith, inl, inr, slice_get, IsTrue}
use Rattle.std.proofs.lemmas.Option.{none-some, same_Some, option_and_then_some}
use Rattle.std.proofs.lemmas.Bool.Decides.{nat_tests}
use Rattle.ae_seqtype.specs.SeqTree.{SeqTree, in_size}
use Rattle.ae_seq.specs.ProgramTree.{ProgramTree, FuncTree, NodeTree}
use Rattle.ae_seq.specs.Typing.{type_at, item_types, node_type, signature, signatures, Signature, param_types, grown, judged, judged_func, judged_nodes, refused, refused_or, refused_line, verdict, size_verdict, all_in_size, Judged, Verdict, fine, untyped, too_large, ◌>>=◌}
use Rattle.ae_rewrite.proofs.Budgets.{get_of_push}

none_by : (j : Judged) (v : Verdict) (later : Option Judged) → refused_or j v later ≡ None → (v ≡ fine) × (later ≡ None)
none_by j fine later h = (refl, h)
none_by j untyped later h = absurd (none-some j (sym h))
none_by j too_large later h = absurd (none-some j (sym h))

none_left : (xs ys : List Judged) → refused (xs ++ ys) ≡ None → refused xs ≡ None
none_left [] ys h = refl
none_left (j ∷ xs) ys h =
    let s = none_by j j.verdict (refused (xs ++ ys)) h in
    ap (λ v. refused_or j v (refused xs)) s.0 ∙ none_left xs ys s.1

none_right : (xs ys : List Judged) → refused (xs ++ ys) ≡ None → refused ys ≡ None
none_right [] ys h = h
none_right (j ∷ xs) ys h = none_right xs ys (none_by j j.verdict (refused (xs ++ ys)) h).1

-- none of the lines of one function is refused
func_fine : (known : List Signature) (fs : List FuncTree) (k : ℕ) (f : FuncTree) → refused (judged known fs) ≡ None → slice_get fs k ≡ Some f
    → refused (judged_func (grown signature known (take k fs)) f) ≡ None
func_fine known [] k f h at = absurd (none-some f at)
func_fine known (g ∷ fs) zero f h at =
    let e : g ≡ f = same_Some g f at in rw (← e) (none_left (judged_func known g) (judged (known ++ signature known g ∷ []) fs) h)
func_fine known (g ∷ fs) (suc k) f h at =
    func_fine (known ++ signature known g ∷ []) fs k f (none_right (judged_func known g) (judged (known ++ signature known g ∷ []) fs) h) at

-- each type in a list is in size
abbrev AllSized : List (Option SeqTree) → Type 0
AllSized items = (i : ℕ) (t : SeqTree) → slice_get items i ≡ Some (Some t) → IsTrue (in_size t)

fine_size : (b : Bool) → size_verdict b ≡ fine → b ≡ true
fine_size true h = refl
fine_size false h = cc

fine_type : (o : Option SeqTree) → verdict o ≡ fine → (t : SeqTree) → o ≡ Some t → IsTrue (in_size t)
fine_type None h t e = absurd (none-some t e)
fine_type (Some u) h t e = let s : u ≡ t = same_Some u t e in rw (← s) (fine_size (in_size u) h)

sized_more : (items : List (Option SeqTree)) (o : Option SeqTree) → AllSized items → ((t : SeqTree) → o ≡ Some t → IsTrue (in_size t))
    → AllSized (items ++ o ∷ [])
sized_more items o all one i t at = elim (get_of_push items o i (Some t) at) [
  | inl old ↦ all i t old
  | inr new ↦ one t (sym new.1)
]

nodes_sized : (known : List Signature) (items : List (Option SeqTree)) (ns : List NodeTree) → AllSized items → refused (judged_nodes known items ns) ≡ None
    → AllSized (grown (node_type known) items ns)
nodes_sized known items [] all h = all
nodes_sized known items (n ∷ ns) all h =
    let t = node_type known items n in
    let s = none_by (record { line = n.line; verdict = verdict t }) (verdict t) (refused (judged_nodes known (items ++ t ∷ []) ns)) h in
    nodes_sized known (items ++ t ∷ []) ns (sized_more items t all (fine_type t s.0)) s.1

params_sized : (ts : List SeqTree) → IsTrue (all_in_size ts) → AllSized (map (λ (t : SeqTree). Some t) ts)
params_sized [] h i t at = absurd (none-some (Some t) at)
params_sized (u ∷ ts) h zero t at = let s : u ≡ t = same_Some u t (same_Some (Some u) (Some t) at) in rw (← s) (grind (arith, nat_tests))
params_sized (u ∷ ts) h (suc i) t at = params_sized ts (grind (arith, nat_tests)) i t at

items_sized : (known : List Signature) (f : FuncTree) → refused (judged_func known f) ≡ None → AllSized (item_types known f)
items_sized known f h =
    let b : Bool = all_in_size (param_types f) in
    let s = none_by (record { line = f.line; verdict = size_verdict b }) (size_verdict b)
    (refused (judged_nodes known (map (λ (t : SeqTree). Some t) (param_types f)) f.nodes)) h in
    nodes_sized known (map (λ (t : SeqTree). Some t) (param_types f)) f.nodes (params_sized (param_types f) (fine_size b s.0)) s.1

pub type_sized : (p : ProgramTree) (f i : ℕ) (t : SeqTree) → refused_line p ≡ None → type_at p f i ≡ Some t → IsTrue (in_size t)
type_sized p f i t accepted is =
    option_and_then_some (λ g. slice_get (item_types (signatures (take f p.funcs)) g) i >>= λ o. o) (slice_get p.funcs f) t is (λ g at found.
    let own = func_fine [] p.funcs f g accepted at in
    option_and_then_some (λ (o : Option SeqTree). o) (slice_get (item_types (signatures (take f p.funcs)) g) i) t found (λ o here some.
    items_sized (signatures (take f p.funcs)) g own i t (here ∙ ap (λ (x : Option SeqTree). Some x) some)))
