-- Parameters, nodes and results of a function that is read.
use Rattle.std.proofs.Common.{◌≡◌, ℕ, suc, ◌+◌, ◌<◌, true, false, ◌&&◌, nat_lt, List, [], ◌∷◌, ◌++◌, length, Some, refl, sym, ap, ◌∙◌, arith, length-append, append_assoc}
use Rattle.std.proofs.lemmas.Bool.{lt-ltb}
use Rattle.ae_seq.specs.ProgramTree.{OpTree, ParamTree, NodeTree}
use Rattle.ae_seq.specs.Formed.{all_below, all_distinct, all_names, is_among, is_line, is_name, has_arguments, formed_nodes, formed_params, is_spelled, node_names, param_names, within}
use Rattle.ae_fields.specs.Cut.{pieces}
use Rattle.ae_fields.specs.Grammar.{Head, Part, two_of, param_from, no_params, with_param, params_after, params_of, places_after}
use Rattle.ae_fields.specs.Scopes.{place, is_known}
use Rattle.ae_fields.specs.TypeForm.{type_of}
use Rattle.ae_fields.proofs.NameForms.{known-agree, distinct-push, names-push, place-below, not-so}
use Rattle.ae_fields.proofs.OptionLemmas.{bind-some, where-some, some-is}
use Rattle.ae_parse.proofs.TypeSound.{spelled-so}
use Rattle.ae_seq.proofs.Judging.{left as and-first, right as and-second}
use Rattle.ae_fields.proofs.PartLemmas.{and-both}

below-push : (n : ℕ) (ks : List ℕ) (k : ℕ) → all_below n ks ≡ true → k < n → all_below n (ks ++ k ∷ []) ≡ true
below-push n [] k h l = and-both _ _ (lt-ltb k n l) refl
below-push n (j ∷ ks) k h l = and-both _ _ (and-first _ _ h) (below-push n ks k (and-second (nat_lt j n) _ h) l)

-- places are below the number of items
pub places-below : (items : List (List ℕ)) (ks : List ℕ) (fs : List (List ℕ)) (rs : List ℕ) → all_below (length items) ks ≡ true
    → places_after items ks fs ≡ Some rs → all_below (length items) rs ≡ true
places-below items ks [] rs h e = ap (all_below (length items)) (sym (some-is _ _ e)) ∙ h
places-below items ks (f ∷ fs) rs h e =
    let a = bind-some (place f items) _ _ e in
    places-below items (ks ++ a.0 ∷ []) fs rs (below-push (length items) ks a.0 h (place-below f items a.0 a.1)) a.2

-- ---- parameters

pub record HeadSound (version : ℕ) (h : Head) : Type 0 where
  pub items : h.items ≡ param_names h.params
  pub types : formed_params version h.params ≡ true
  pub named : all_names h.items ≡ true
  pub distinct : all_distinct h.items ≡ true

params-push : (version : ℕ) (ps : List ParamTree) (p : ParamTree) → formed_params version ps ≡ true → is_spelled version p.type ≡ true
    → formed_params version (ps ++ p ∷ []) ≡ true
params-push version [] p h s = and-both _ _ s refl
params-push version (q ∷ ps) p h s = and-both _ _ (and-first _ _ h) (params-push version ps p (and-second (is_spelled version q.type) _ h) s)

param-names-push : (ps : List ParamTree) (p : ParamTree) → param_names (ps ++ p ∷ []) ≡ param_names ps ++ p.name ∷ []
param-names-push [] p = refl
param-names-push (q ∷ ps) p = ap (λ ns. q.name ∷ ns) (param-names-push ps p)

one-param : (version : ℕ) (h g : Head) (p : ParamTree) (f : List ℕ) → param_from version f ≡ Some p → with_param h p ≡ Some g → HeadSound version h
    → HeadSound version g
one-param version h g p f e w s =
    let a = bind-some (two_of (pieces 58 f)) _ _ e in
    let b = where-some _ _ _ a.2 in
    let c = bind-some (type_of version a.0.1) _ _ b.1 in
    let is : record { name = a.0.0; type = c.0 } ≡ p = some-is _ _ c.2 in
    let d = where-some _ _ _ w in
    let g_is : record { params = h.params ++ p ∷ []; items = h.items ++ p.name ∷ [] } ≡ g = some-is _ _ d.1 in
    let named : is_name p.name ≡ true = ap (λ (x : ParamTree). is_name x.name) (sym is) ∙ b.0 in
    let typed : is_spelled version p.type ≡ true = ap (λ (x : ParamTree). is_spelled version x.type) (sym is) ∙ spelled-so version a.0.1 c.0 c.1 in
    let new : is_among p.name h.items ≡ false = sym (known-agree p.name h.items) ∙ not-so (is_known p.name h.items) d.0 in
    let t : HeadSound version (record { params = h.params ++ p ∷ []; items = h.items ++ p.name ∷ [] }) = record {
      items = ap (λ ns. ns ++ p.name ∷ []) s.items ∙ sym (param-names-push h.params p);
      types = params-push version h.params p s.types typed;
      named = names-push h.items p.name s.named named;
      distinct = distinct-push h.items p.name s.distinct new;
    } in
    rw g_is at t

params-sound : (version : ℕ) (h : Head) (fs : List (List ℕ)) (g : Head) → params_after version h fs ≡ Some g → HeadSound version h → HeadSound version g
params-sound version h [] g e s = rw (some-is _ _ e) at s
params-sound version h (f ∷ fs) g e s =
    let a = bind-some (param_from version f) _ _ e in
    let b = bind-some (with_param h a.0) _ _ a.2 in
    params-sound version b.0 fs g b.2 (one-param version h b.0 a.0 f a.1 b.1 s)

pub record FewParams (version : ℕ) (h : Head) : Type 0 where
  pub sound : HeadSound version h
  pub few : within 1 8 (length h.params) ≡ true

pub few-params-sound : (version : ℕ) (fs : List (List ℕ)) (h : Head) → params_of version fs ≡ Some h → FewParams version h
few-params-sound version fs h e =
    let a = bind-some (params_after version no_params fs) _ _ e in
    let b = where-some _ _ _ a.2 in
    let s = params-sound version no_params fs a.0 a.1 (record { items = refl; types = refl; named = refl; distinct = refl }) in
    let t : FewParams version a.0 = record { sound = s; few = b.0 } in
    rw (some-is _ _ b.1) at t

-- ---- a function that is not at its end, with so many functions above it

pub record PartSound (version funcs : ℕ) (p : Part) : Type 0 where
  pub name : is_name p.name ≡ true
  pub few : within 1 8 (length p.params) ≡ true
  pub types : formed_params version p.params ≡ true
  pub nodes : formed_nodes version funcs (length p.params) p.nodes ≡ true
  pub items : p.items ≡ param_names p.params ++ node_names p.nodes
  pub named : all_names p.items ≡ true
  pub distinct : all_distinct p.items ≡ true

append-none : {A : Type 0} (xs : List A) → xs ++ [] ≡ xs
append-none [] = refl
append-none (x ∷ xs) = ap (λ ys. x ∷ ys) (append-none xs)

pub begun-sound : (version funcs line : ℕ) (name : List ℕ) (h : Head) → is_name name ≡ true → FewParams version h
    → PartSound version funcs (record { name = name; params = h.params; nodes = []; items = h.items; line = line })
begun-sound version funcs line name h n s = record {
  name = n;
  few = s.few;
  types = s.sound.types;
  nodes = refl;
  items = s.sound.items ∙ sym (append-none (param_names h.params));
  named = s.sound.named;
  distinct = s.sound.distinct;
}

node-names-push : (ns : List NodeTree) (n : NodeTree) → node_names (ns ++ n ∷ []) ≡ node_names ns ++ n.name ∷ []
node-names-push [] n = refl
node-names-push (m ∷ ns) n = ap (λ xs. m.name ∷ xs) (node-names-push ns n)

nodes-push : (version funcs items : ℕ) (ns : List NodeTree) (n : NodeTree) → formed_nodes version funcs items ns ≡ true
    → is_line version funcs n.op ≡ true → has_arguments n.op (length n.args) ≡ true → all_below (items + length ns) n.args ≡ true
    → formed_nodes version funcs items (ns ++ n ∷ []) ≡ true
nodes-push version funcs items [] n h a b c =
    let z : items + 0 ≡ items = omega arith in
    and-both _ _ (and-both _ _ (and-both _ _ a b) (ap (λ k. all_below k n.args) (sym z) ∙ c)) refl
nodes-push version funcs items (m ∷ ns) n h a b c =
    let s : items + suc (length ns) ≡ items + 1 + length ns = omega arith in
    and-both _ _ (and-first _ _ h)
    (nodes-push version funcs (items + 1) ns n (and-second (is_line version funcs m.op && has_arguments m.op (length m.args) && all_below items m.args) _ h) a
    b (ap (λ k. all_below k n.args) (sym s) ∙ c))

length-params : (ps : List ParamTree) → length (param_names ps) ≡ length ps
length-params [] = refl
length-params (p ∷ ps) = ap (λ n. suc n) (length-params ps)

length-nodes : (ns : List NodeTree) → length (node_names ns) ≡ length ns
length-nodes [] = refl
length-nodes (n ∷ ns) = ap (λ k. suc k) (length-nodes ns)

-- as many items as parameters and nodes
pub items-count : (version funcs : ℕ) (p : Part) → PartSound version funcs p → length p.items ≡ length p.params + length p.nodes
items-count version funcs p s =
    ap length s.items ∙ length-append (param_names p.params) (node_names p.nodes) ∙ (λ i. length-params p.params i + length-nodes p.nodes i)

pub node-sound : (version funcs n : ℕ) (p : Part) (name : List ℕ) (op : OpTree) (args : List ℕ) → PartSound version funcs p → is_name name ≡ true
    → is_known name p.items ≡ false
    → is_line version funcs op ≡ true → has_arguments op (length args) ≡ true → all_below (length p.items) args ≡ true
    → PartSound version funcs (record {
      name = p.name;
      params = p.params;
      nodes = p.nodes ++ record { name = name; op = op; args = args; line = n } ∷ [];
      items = p.items ++ name ∷ [];
      line = p.line;
    })
node-sound version funcs n p name op args s nm new line many below =
    let node : NodeTree = record { name = name; op = op; args = args; line = n } in
    record {
      name = s.name;
      few = s.few;
      types = s.types;
      nodes = nodes-push version funcs (length p.params) p.nodes node s.nodes line many
          (ap (λ k. all_below k args) (sym (items-count version funcs p s)) ∙ below);
      items = ap (λ ns. ns ++ name ∷ []) s.items ∙ append_assoc (param_names p.params) (node_names p.nodes) (name ∷ []) ∙
          ap (λ ns. param_names p.params ++ ns) (sym (node-names-push p.nodes node));
      named = names-push p.items name s.named nm;
      distinct = distinct-push p.items name s.distinct (sym (known-agree name p.items) ∙ new);
    }
