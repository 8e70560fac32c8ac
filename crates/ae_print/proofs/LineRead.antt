-- Written statements are read back, one line after the other.
use Rattle.std.proofs.Common.{◌≡◌, ℕ, suc, ◌+◌, ◌<◌, ◌≤◌, Bool, true, false, not, ◌&&◌, ◌==◌, nat_le, nat_lt, List, [], ◌∷◌, ◌++◌, length, map, Some, if◌then◌else◌, refl, sym, ap, ◌∙◌, arith, codes, append_assoc, length-append}
use Rattle.std.proofs.lemmas.Bool.{le-leb, lt-ltb, ltb-true}
use Rattle.std.proofs.lemmas.List.{get_or_append_left}
use Rattle.std.proofs.lemmas.Option.{unwrap_or-slice_get}
use Rattle.std.specs.Str.{bytes_eq}
use Rattle.ae_seqtype.specs.TypeText.{type_text}
use Rattle.ae_seqtype.specs.SeqTree.{parts_in_size, depth}
use Rattle.ae_seq.specs.ProgramTree.{ParamTree, NodeTree}
use Rattle.ae_seq.specs.Formed.{all_below, all_distinct, all_name_bytes, all_names, begins_with_letter, formed_nodes, formed_params, has_arguments, is_among, is_line, is_name, is_spelled, node_names, param_names, same_bytes}
use Rattle.ae_fields.specs.Grammar.{Known, Part, State, Head, param_of, param_from, with_param, params_after, places_after, with_node, node_on, node_with, node_named, node, finish, inside, by_part, first_line, step, by_state}
use Rattle.ae_seq.specs.Typing.{where_ok, ◌>>=◌}
use Rattle.ae_print.specs.Printed.{name_at, op_fields, node_fields, param_field, words_fit, nodes_fit, nodes_from}
use Rattle.ae_fields.specs.Scopes.{place, is_known}
use Rattle.ae_fields.specs.TypeForm.{type_of}
use Rattle.ae_fields.specs.Words.{below}
use Rattle.ae_fields.proofs.NameForms.{known-agree, place-at, distinct-new, distinct-front, same-agree}
use Rattle.ae_print.proofs.OpRead.{operator_on, FuncsFound, op-read}
use Rattle.ae_print.proofs.SolidForms.{param-cut}
use Rattle.ae_fields.proofs.StepCases.{node_state}
use Rattle.ae_print.proofs.TextForms.{reading_of}
use Rattle.ae_print.proofs.TypeRead.{type-read}
use Rattle.ae_seq.proofs.Judging.{left as and-first, right as and-second}

pub append-none : {A : Type 0} (xs : List A) → xs ++ [] ≡ xs
append-none [] = refl
append-none (x ∷ xs) = ap (λ ys. x ∷ ys) (append-none xs)

pub length-map : {A B : Type 0} (f : A → B) (xs : List A) → length (map f xs) ≡ length xs
length-map f [] = refl
length-map f (x ∷ xs) = ap (λ n. suc n) (length-map f xs)

-- the first names of `all` are those of `names`
abbrev pub Extends : (all names : List (List ℕ)) → Type 0
Extends all names = (k : ℕ) → k < length names → name_at all k ≡ name_at names k

pub extends-append : (names later : List (List ℕ)) → Extends (names ++ later) names
extends-append names later k h = rw (unwrap_or-slice_get (names ++ later) k [], unwrap_or-slice_get names k []) (get_or_append_left names later [] k h)

place-named : (names : List (List ℕ)) (k : ℕ) → all_distinct names ≡ true → k < length names → place (name_at names k) names ≡ Some k
place-named names k d h = rw (unwrap_or-slice_get names k []) (place-at names k d h)

pub places-read : (all items : List (List ℕ)) (before ks : List ℕ) → Extends all items → all_distinct items ≡ true → all_below (length items) ks ≡ true
    → places_after items before (map (name_at all) ks) ≡ Some (before ++ ks)
places-read all items before [] x d h = ap (λ r. Some r) (sym (append-none before))
places-read all items before (k ∷ ks) x d h =
    let l = ltb-true k (length items) (and-first _ _ h) in
    ap (λ o. o >>= λ j. places_after items (before ++ j ∷ []) (map (name_at all) ks)) (ap (λ n. place n items) (x k l) ∙ place-named items k d l)
    ∙ places-read all items (before ++ k ∷ []) ks x d (and-second (nat_lt k (length items)) _ h) ∙ ap (λ r. Some r) (append_assoc before (k ∷ []) ks)

pub funcs-found : (n : ℕ) (all names : List (List ℕ)) → Extends all names → all_distinct names ≡ true → n ≤ length names → FuncsFound n all names
funcs-found n all names x d h k l =
    ap (λ m. below n (place m names)) (x k (omega arith)) ∙ ap (below n) (place-named names k d (omega arith)) ∙ ap (λ t. where_ok t (Some k)) (lt-ltb k n l)

-- ---- parameters

param-read : (version : ℕ) (p : ParamTree) → is_name p.name ≡ true → is_spelled version p.type ≡ true → param_from version (param_field p) ≡ Some p
param-read version p n s =
    let parts = and-first (parts_in_size p.type) _ (and-first (parts_in_size p.type && nat_le (depth p.type) 6) _ s) in
    ap (λ o. o >>= param_of version) (param-cut p.name p.type n parts)
    ∙ ap (λ t. where_ok t (type_of version (type_text p.type) >>= λ u. Some (record { name = p.name; type = u }))) (n)
    ∙ ap (λ o. o >>= λ u. Some (record { name = p.name; type = u })) (type-read version p.type s)

new-known : (n : List ℕ) (ns : List (List ℕ)) → is_among n ns ≡ false → not (is_known n ns) ≡ true
new-known n ns h = ap not (known-agree n ns ∙ h)

pub params-read : (version : ℕ) (h : Head) (ps : List ParamTree) → formed_params version ps ≡ true → all_names (param_names ps) ≡ true
    → all_distinct (h.items ++ param_names ps) ≡ true
    → params_after version h (map param_field ps) ≡ Some (record { params = h.params ++ ps; items = h.items ++ param_names ps })
params-read version h [] f n d = λ i. Some (record { params = sym (append-none h.params) i; items = sym (append-none h.items) i })
params-read version h (p ∷ ps) f n d =
    let g : Head = record { params = h.params ++ p ∷ []; items = h.items ++ p.name ∷ [] } in
    let items : (h.items ++ p.name ∷ []) ++ param_names ps ≡ h.items ++ p.name ∷ param_names ps = append_assoc h.items (p.name ∷ []) (param_names ps) in
    ap (λ o. o >>= λ q. with_param h q >>= λ e. params_after version e (map param_field ps)) (param-read version p (and-first _ _ n) (and-first _ _ f))
    ∙ ap (λ t. where_ok t (Some g) >>= λ e. params_after version e (map param_field ps))
    (new-known p.name h.items (distinct-new h.items p.name (param_names ps) d))
    ∙ params-read version g ps (and-second (is_spelled version p.type) _ f) (and-second (is_name p.name) _ n) (ap all_distinct items ∙ d)
    ∙ (λ i. Some (record { params = append_assoc h.params (p ∷ []) ps i; items = items i }))

-- ---- lines

pub step-later : (n : ℕ) (s : State) (f : List ℕ) (fs : List (List ℕ)) → n ≤ 4096 → (s.known.version == 0) ≡ false
    → step n s (f ∷ fs) ≡ by_part n s.known s.part f fs
step-later n s f fs h v =
    ap (λ t. where_ok t (if s.known.version == 0 then first_line n s f fs else by_part n s.known s.part f fs)) (le-leb n 4096 h)
    ∙ ap (λ t. if t then first_line n s f fs else by_part n s.known s.part f fs) v

name-no-end : (f : List ℕ) → is_name f ≡ true → bytes_eq f (codes "end") ≡ false
name-no-end f h = by (bytes_eq f (codes "end")) refl
  where
    no : not (bytes_eq f (codes "end")) ≡ true
    no = ap not (same-agree f (codes "end")) ∙ and-second
        (nat_le (length f) 32 && begins_with_letter f && all_name_bytes f && not (same_bytes f (codes "fn"))) _ h

    by : (t : Bool) → bytes_eq f (codes "end") ≡ t → t ≡ false
    by true e = absurd (let x = sym (ap not e) ∙ no in cc)
    by false e = refl

node-on : (n : ℕ) (k : Known) (p : Part) (name : List ℕ) (fs : List (List ℕ))
    → node_named n k p name fs ≡ (operator_on k.version (length k.funcs) k.names fs >>= node_with n k p name)
node-on n k p name [] = refl
node-on n k p name (w ∷ fs) = refl

pub record NodeFits (k : Known) (p : Part) (all items : List (List ℕ)) (m : NodeTree) : Type 0 where
  pub found : FuncsFound (length k.funcs) all k.names
  pub extends : Extends items p.items
  pub distinct : all_distinct p.items ≡ true
  pub new : is_among m.name p.items ≡ false
  pub name : is_name m.name ≡ true
  pub line : is_line k.version (length k.funcs) m.op ≡ true
  pub fit : words_fit m.op ≡ true
  pub many : has_arguments m.op (length m.args) ≡ true
  pub below : all_below (length p.items) m.args ≡ true

pub node-read : (n : ℕ) (k : Known) (p : Part) (all items : List (List ℕ)) (m : NodeTree) → NodeFits k p all items m
    → inside n k p m.name (codes "=" ∷ (op_fields all m.op ++ map (name_at items) m.args)) ≡ Some (node_state n k p m.name m.op m.args)
node-read n k p all items m f =
    let named : is_name m.name ≡ true = f.name in
    let args : List (List ℕ) = map (name_at items) m.args in
    let fs : List (List ℕ) = op_fields all m.op ++ args in
    ap (λ t. if t then finish n k p (codes "=" ∷ fs) else node n k p m.name (codes "=" ∷ fs)) (name-no-end m.name named)
    ∙ ap (λ t. where_ok t (node_named n k p m.name fs)) named
    ∙ node-on n k p m.name fs
    ∙ ap (λ o. o >>= node_with n k p m.name) (op-read k.version (length k.funcs) all k.names m.op args f.found f.line f.fit
    (ap (has_arguments m.op) (length-map (name_at items) m.args) ∙ f.many))
    ∙ ap (λ o. o >>= node_on n k p m.name m.op) (places-read items p.items [] m.args f.extends f.distinct f.below)
    ∙ ap (λ t. where_ok t (with_node n k p m.name m.op m.args)) f.many
    ∙ ap (λ t. where_ok t (Some (node_state n k p m.name m.op m.args))) (new-known m.name p.items f.new)

abbrev pub with_nodes : Part → (n : ℕ) → List NodeTree → Part
with_nodes p n ms = record { name = p.name; params = p.params; nodes = p.nodes ++ nodes_from n ms; items = p.items ++ node_names ms; line = p.line }

pub nodes-read : (ms : List NodeTree) (n : ℕ) (k : Known) (p : Part) (all items : List (List ℕ)) (rest : List (List (List ℕ)))
    → (k.version == 0) ≡ false → FuncsFound (length k.funcs) all k.names → items ≡ p.items ++ node_names ms → all_distinct items ≡ true
    → formed_nodes k.version (length k.funcs) (length p.items) ms ≡ true → all_names (node_names ms) ≡ true → nodes_fit ms ≡ true → n + length ms ≤ 4097
    → reading_of (map (node_fields all items) ms ++ rest) n (record { known = k; part = Some p }) ≡ reading_of rest (n + length ms)
    (record { known = k; part = Some (with_nodes p n ms) })
nodes-read [] n k p all items rest v found is d f names fit low =
    let z : n ≡ n + 0 = omega arith in
    λ i. reading_of rest (z i) (record {
      known = k;
      part = Some
          (record { name = p.name; params = p.params; nodes = sym (append-none p.nodes) i; items = sym (append-none p.items) i; line = p.line });
    })
nodes-read (m ∷ ms) n k p all items rest v found is d f names fit low =
    let line = and-first _ _ f in
    let line2 = and-first _ _ line in
    let own_distinct : all_distinct (p.items ++ m.name ∷ node_names ms) ≡ true = ap all_distinct (sym is) ∙ d in
    let node_fits : NodeFits k p all items m = record {
      found = found;
      extends = λ j h. ap (λ ns. name_at ns j) is ∙ extends-append p.items (m.name ∷ node_names ms) j h;
      distinct = distinct-front p.items (m.name ∷ node_names ms) own_distinct;
      new = distinct-new p.items m.name (node_names ms) own_distinct;
      name = and-first _ _ names;
      line = and-first _ _ line2;
      fit = and-first _ _ fit;
      many = and-second (is_line k.version (length k.funcs) m.op) _ line2;
      below = and-second (is_line k.version (length k.funcs) m.op && has_arguments m.op (length m.args)) _ line;
    } in
    let q : Part = record {
      name = p.name;
      params = p.params;
      nodes = p.nodes ++ record { name = m.name; op = m.op; args = m.args; line = n } ∷ [];
      items = p.items ++ m.name ∷ [];
      line = p.line;
    } in
    let more : p.items ++ m.name ∷ node_names ms ≡ q.items ++ node_names ms = sym (append_assoc p.items (m.name ∷ []) (node_names ms)) in
    let count : length q.items ≡ length p.items + 1 = length-append p.items (m.name ∷ []) in
    let later : formed_nodes k.version (length k.funcs) (length p.items + 1) ms ≡ true = and-second
    (is_line k.version (length k.funcs) m.op && has_arguments m.op (length m.args) && all_below (length p.items) m.args) _ f in
    let number : n + 1 + length ms ≡ n + suc (length ms) = omega arith in
    ap (λ o. by_state n o (reading_of (map (node_fields all items) ms ++ rest) (n + 1)))
    (step-later n (record { known = k; part = Some p }) m.name (codes "=" ∷ (op_fields all m.op ++ map (name_at items) m.args)) (omega arith) v ∙
    node-read n k p all items m node_fits)
    ∙ nodes-read ms (n + 1) k q all items rest v found (is ∙ more) d (ap (λ j. formed_nodes k.version (length k.funcs) j ms) count ∙ later)
    (and-second (is_name m.name) _ names) (and-second (words_fit m.op) _ fit) (omega arith)
    ∙ (λ i. reading_of rest (number i) (record {
      known = k;
      part = Some (record {
        name = p.name;
        params = p.params;
        nodes = append_assoc p.nodes (record { name = m.name; op = m.op; args = m.args; line = n } ∷ []) (nodes_from (n + 1) ms) i;
        items = sym more i;
        line = p.line;
      });
    }))
