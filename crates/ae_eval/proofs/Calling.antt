-- Functions on a stack: node by node, and a call.
use Rattle.std.proofs.Common.{◌≡◌, ℕ, ◌+◌, ◌<◌, ◌≤◌, true, List, [], ◌∷◌, length, take, drop, map, Option, Some, slice_get, get_or, arith, sym, ap, ◌∙◌, subst, length-take}
use Rattle.std.proofs.lemmas.List.{drop_all, get_or-take, length-map}
use Rattle.std.proofs.lemmas.Option.{slice_get_within, get_or_from_slice_get, unwrap_or-slice_get}
use Rattle.std.specs.Prelude.{unwrap_or}
use Rattle.std.proofs.lemmas.Bool.Decides.{nat_tests}
use Rattle.ae_seqtype.specs.SeqTree.{SeqTree}
use Rattle.ae_seqtype.specs.ValueTree.{ValueTree}
use Rattle.ae_seq.specs.declared.program.Node.{Node}
use Rattle.ae_seq.specs.ProgramTree.{OpTree, call, FuncTree, NodeTree, ProgramTree, node_tree}
use Rattle.ae_seq.specs.Trees.{node_trees}
use Rattle.ae_seq.specs.Formed.{is_line}
use Rattle.ae_seq.specs.Typing.{called, op_type, param_types, signatures}
use Rattle.ae_seq.specs.Meaning.{Meaning, applied, at, item_values, meaning, meanings, no_function, op_value}
use Rattle.ae_eval.specs.Stack.{Evaluated, FitIn, IsTyped, Pushed, items_in, params_for, params_in, result_of, types_in, values_for, values_in}
use Rattle.ae_eval.specs.Lines.{ItemsHave, Laid, Passed, args_for, args_of, item_of, line_value, nodes_for, nodes_in, results_for, results_in, value_for, values_at}
use Rattle.ae_eval.proofs.Accepting.{func-types}
use Rattle.ae_eval.proofs.Arms.{same-items}
use Rattle.ae_eval.proofs.Framing.{Framed, frame-first, frame-last, frame-step}
use Rattle.ae_eval.proofs.Items.{CallFacts, call-facts, drop-at, entry-at, formed-at, line-facts, meaning-of}

-- ---- node by node

pub record Evaluating (p : ProgramTree) (k base j : ℕ) (old now : List ℕ) : Type 0 where
  pub frame : Framed (signatures (take k p.funcs)) (take k (meanings p.funcs)) (types_in p k) (items_in p k (values_in (params_in p k) (drop base old))) base
      (item_of p k j) old now (drop j (nodes_in p k))

pub evaluating-first : (p : ProgramTree) (k base : ℕ) (old : List ℕ) → IsTyped p → k < length p.funcs → base ≤ length old
    → FitIn (params_in p k) (drop base old) → Evaluating p k base 0 old old
evaluating-first p k base old h known above fits =
    let at-k = entry-at p.funcs k known in
    let f = at-k.0 in
    let sigs = signatures (take k p.funcs) in
    let means = take k (meanings p.funcs) in
    let ts = types_in p k in
    let own = func-types p k f h at-k.1 in
    let first = frame-first sigs means f ts base old own.all above (subst (λ o. FitIn (params_for o) (drop base old)) at-k.1 fits) in
    let none : length (param_types f) ≡ length (param_types f) + 0 = omega arith in
    let N : ℕ → Type 0 = λ n. Framed sigs means ts (item_values means f (values_in (param_types f) (drop base old))) base n old old f.nodes in
    let P : Option FuncTree → Type 0 = λ o. Framed sigs means ts (values_for means o (values_in (params_for o) (drop base old))) base
    (length (params_for o) + 0) old old (drop 0 (nodes_for o)) in
    record { frame = subst P (sym at-k.1) (subst N none first) }

pub evaluating-laid : (p : ProgramTree) (k base j : ℕ) (old now : List ℕ) → Evaluating p k base j old now → Laid p k (item_of p k j) base now
evaluating-laid p k base j old now h = let f = h.frame in record { above = f.above; fits = f.fits }

pub evaluating-next : (p : ProgramTree) (k base j : ℕ) (old now new : List ℕ) → IsTyped p → k < length p.funcs → j < length (nodes_in p k)
    → Evaluating p k base j old now
    → Pushed (slice_get (types_in p k) (item_of p k j)) now new (line_value p k j (values_at p k (item_of p k j) base now))
    → Evaluating p k base (j + 1) old new
evaluating-next p k base j old now new h known within e push =
    let there = entry-at (nodes_in p k) j within in
    let l = there.0 in
    let sigs = signatures (take k p.funcs) in
    let means = take k (meanings p.funcs) in
    let ts = types_in p k in
    let n = item_of p k j in
    let vs = items_in p k (values_in (params_in p k) (drop base old)) in
    let facts = line-facts p k j l h known there.1 in
    let inside = slice_get_within ts n facts.type facts.own in
    let P : List NodeTree → Type 0 = λ ls. Framed sigs means ts vs base n old now ls in
    let Q : Option NodeTree → Type 0 = λ o. Pushed (slice_get ts n) now new (value_for means (values_in (take n ts) (drop base now)) o) in
    let step = frame-step sigs means ts vs base n old now new l (drop (j + 1) (nodes_in p k)) (omega arith)
    (subst P (drop-at (nodes_in p k) j l there.1) e.frame) (subst Q there.1 push) in
    let next : n + 1 ≡ item_of p k (j + 1) = omega arith in
    let N : ℕ → Type 0 = λ m. Framed sigs means ts vs base m old new (drop (j + 1) (nodes_in p k)) in
    record { frame = subst N next step }

pub evaluating-last : (p : ProgramTree) (k base j : ℕ) (old now : List ℕ) → Evaluating p k base j old now → length (nodes_in p k) ≤ j
    → Evaluated p k base old now
evaluating-last p k base j old now e over =
    let vs = items_in p k (values_in (params_in p k) (drop base old)) in
    let P : List NodeTree → Type 0 = λ ls. Framed (signatures (take k p.funcs)) (take k (meanings p.funcs)) (types_in p k) vs base (item_of p k j) old now ls in
    let r = frame-last (signatures (take k p.funcs)) (take k (meanings p.funcs)) (types_in p k) vs base (item_of p k j) old now
    (subst P (drop_all j (nodes_in p k) over) e.frame) in
    record { kept = r.0; fits = r.1; values = r.2 }

pub nodes-count : (p : ProgramTree) (k : ℕ) (ns : List Node) → node_trees ns ≡ nodes_in p k → length (nodes_in p k) ≡ length ns
nodes-count p k ns e = sym (ap length e) ∙ length-map ns node_tree

-- ---- a call

at-first : (g : ℕ → ValueTree) (xs : List ℕ) (r : ℕ) → slice_get xs 0 ≡ Some r → at (map g xs) 0 ≡ g r
at-first g [] r h = cc
at-first g (x ∷ xs) r h = let same : x ≡ r = cc in ap g same

pub call-pushed : (p : ProgramTree) (k base : ℕ) (old mid new : List ℕ) → IsTyped p → k < length p.funcs → Evaluated p k base old mid
    → Pushed (result_of p k) (take base mid) new (at (values_in (types_in p k) (drop base mid)) (get_or (results_in p k) 0 0))
    → Pushed (result_of p k) (take base old) new (applied (meanings p.funcs) k (values_in (params_in p k) (drop base old)))
call-pushed p k base old mid new h known e push =
    let at-k = entry-at p.funcs k known in
    let f = at-k.0 in
    let means = take k (meanings p.funcs) in
    let args = values_in (params_in p k) (drop base old) in
    let form = formed-at p k f h at-k.1 in
    let some = form.some in
    let first = entry-at f.results 0 (omega arith) in
    let r = first.0 in
    let item : get_or (results_in p k) 0 0 ≡ r = ap (λ o. get_or (results_for o) 0 0) at-k.1 ∙ get_or_from_slice_get f.results 0 r 0 first.1 in
    let items : values_in (types_in p k) (drop base mid) ≡ item_values means f args = e.values ∙ ap (λ o. values_for means o args) at-k.1 in
    let function : unwrap_or (slice_get (meanings p.funcs) k) no_function ≡ meaning means f =
    ap (λ (o : Option Meaning). unwrap_or o no_function) (meaning-of p k f at-k.1) in
    let value : at (values_in (types_in p k) (drop base mid)) (get_or (results_in p k) 0 0) ≡ applied (meanings p.funcs) k args =
    ap (at (values_in (types_in p k) (drop base mid))) item ∙ ap (λ vs. at vs r) items
    ∙ sym (ap (λ (m : Meaning). at (m args) 0) function ∙ at-first (at (item_values means f args)) f.results r first.1) in
    let P : List ℕ → Type 0 = λ ys. Pushed (result_of p k) ys new (applied (meanings p.funcs) k args) in
    let Q : ValueTree → Type 0 = λ v. Pushed (result_of p k) (take base mid) new v in
    subst P e.kept (subst Q value push)

-- the meanings of all functions and of those above give a function above the same meaning
pub applied-above : (p : ProgramTree) (k c : ℕ) (vs : List ValueTree) → c < k → applied (take k (meanings p.funcs)) c vs ≡ applied (meanings p.funcs) c vs
applied-above p k c vs below = ap (λ (m : Meaning). at (m vs) 0) (unwrap_or-slice_get (take k (meanings p.funcs)) c no_function
    ∙ get_or-take k (meanings p.funcs) c no_function below ∙ sym (unwrap_or-slice_get (meanings p.funcs) c no_function))

-- ---- a node that calls a function

pub record CallArgs (p : ProgramTree) (k j c : ℕ) (old mid : List ℕ) : Type 0 where
  pub below : c < k
  pub known : c < length p.funcs
  pub above : length old ≤ length mid
  pub fits : FitIn (params_in p c) (drop (length old) mid)

above-by : (v k : ℕ) (op : OpTree) (c : ℕ) → is_line v k op ≡ true → op ≡ call c → c < k
above-by v k op c h e = let q = subst (λ o. is_line v k o ≡ true) e h in grind (arith, nat_tests, q)

record Called (p : ProgramTree) (k j c : ℕ) (l : NodeTree) : Type 0 where
  below : c < k
  types : List SeqTree
  have : ItemsHave (types_in p k) l.args types
  facts : (u : SeqTree) → slice_get (types_in p k) (item_of p k j) ≡ Some u → CallFacts p c types u
  type : SeqTree
  own : slice_get (types_in p k) (item_of p k j) ≡ Some type

called-node : (p : ProgramTree) (k j c : ℕ) (l : NodeTree) → IsTyped p → k < length p.funcs → slice_get (nodes_in p k) j ≡ Some l → l.op ≡ call c
    → Called p k j c l
called-node p k j c l h known node e =
    let facts = line-facts p k j l h known node in
    let below = above-by p.version k l.op c facts.line e in
    let typed : called (signatures (take k p.funcs)) c facts.args ≡ Some facts.type = ap (λ o. op_type (signatures (take k p.funcs)) o facts.args) (sym e) ∙
    facts.typed in
    record {
      below = below;
      types = facts.args;
      have = facts.have;
      facts = λ u g. (let own = facts.own in let same : facts.type ≡ u = cc in
          call-facts p k c facts.args u h below known (typed ∙ ap (λ (t : SeqTree). Some t) same));
      type = facts.type;
      own = facts.own;
    }

pub call-args : (p : ProgramTree) (k j c : ℕ) (l : NodeTree) (vs : List ValueTree) (old mid : List ℕ) → IsTyped p → k < length p.funcs
    → slice_get (nodes_in p k) j ≡ Some l → l.op ≡ call c → Passed (types_in p k) vs (args_of p k j) old mid → CallArgs p k j c old mid
call-args p k j c l vs old mid h known node e passed =
    let r = called-node p k j c l h known node e in
    let facts = r.facts r.type r.own in
    let args : args_of p k j ≡ l.args = ap args_for node in
    let same = same-items (types_in p k) l.args passed.types r.types (subst (λ xs. ItemsHave (types_in p k) xs passed.types) args passed.have) r.have in
    let params : passed.types ≡ params_in p c = same ∙ sym facts.params in
    let front = ap length passed.kept in
    record {
      below = r.below;
      known = facts.known;
      above = omega (arith, front, length-take (length old) mid);
      fits = subst (λ ts. FitIn ts (drop (length old) mid)) params passed.fits;
    }

pub call-node : (p : ProgramTree) (k j c : ℕ) (l : NodeTree) (vs : List ValueTree) (old mid new : List ℕ) → IsTyped p → k < length p.funcs
    → slice_get (nodes_in p k) j ≡ Some l → l.op ≡ call c → Passed (types_in p k) vs (args_of p k j) old mid
    → Pushed (result_of p c) (take (length old) mid) new (applied (meanings p.funcs) c (values_in (params_in p c) (drop (length old) mid)))
    → Pushed (slice_get (types_in p k) (item_of p k j)) old new (line_value p k j vs)
call-node p k j c l vs old mid new h known node e passed push =
    let r = called-node p k j c l h known node e in
    let facts = r.facts r.type r.own in
    let args : args_of p k j ≡ l.args = ap args_for node in
    let same = same-items (types_in p k) l.args passed.types r.types (subst (λ xs. ItemsHave (types_in p k) xs passed.types) args passed.have) r.have in
    let params : params_in p c ≡ passed.types = facts.params ∙ sym same in
    let given : values_in (params_in p c) (drop (length old) mid) ≡ map (at vs) l.args = ap (λ ts. values_in ts (drop (length old) mid)) params ∙
    passed.values ∙ ap (map (at vs)) args in
    let value : applied (meanings p.funcs) c (values_in (params_in p c) (drop (length old) mid)) ≡ line_value p k j vs =
    ap (applied (meanings p.funcs) c) given ∙ sym (applied-above p k c (map (at vs) l.args) r.below)
    ∙ ap (λ o. op_value (take k (meanings p.funcs)) o (map (at vs) l.args)) (sym e) ∙ sym (ap (value_for (take k (meanings p.funcs)) vs) node) in
    let type : result_of p c ≡ slice_get (types_in p k) (item_of p k j) = facts.result ∙ sym r.own in
    let P : Option SeqTree → Type 0 = λ o. Pushed o old new (line_value p k j vs) in
    let Q : List ℕ → Type 0 = λ ys. Pushed (result_of p c) ys new (line_value p k j vs) in
    let R : ValueTree → Type 0 = λ v. Pushed (result_of p c) (take (length old) mid) new v in
    subst P type (subst Q passed.kept (subst R value push))
