-- Names and fields as they are written.
use Rattle.std.proofs.Common.{◌≡◌, ℕ, zero, suc, ◌+◌, ◌-◌, ◌<◌, ◌≤◌, Bool, true, ◌&&◌, nat_lt, List, [], ◌∷◌, ◌++◌, length, map, get_or, drop, refl, sym, ap, ◌∙◌, arith, string_bytes, append_assoc, subst}
use Rattle.std.proofs.lemmas.List.{drop_more, get_or-append_right}
use Rattle.std.proofs.lemmas.Option.{unwrap_or-slice_get}
use Rattle.std.specs.Prelude.{slice_get, unwrap_or}
use Rattle.std.proofs.lemmas.Bool.{ltb-true, lt-ltb}
use Rattle.ae_seq.specs.ProgramTree.{op_tree, FuncTree, ParamTree, NodeTree, func_tree, param_tree, node_tree}
use Rattle.ae_seq.specs.declared.program.Func.{Func}
use Rattle.ae_seq.specs.declared.program.Param.{Param}
use Rattle.ae_seq.specs.declared.program.Node.{Node}
use Rattle.ae_seq.specs.Formed.{all_below, formed_func, formed_funcs, formed_nodes, has_arguments, is_line, most_results, func_names, node_names, param_names}
use Rattle.ae_seq.specs.Trees.{func_trees, node_trees, param_trees}
use Rattle.ae_print.specs.Printed.{name_at, spaced, joined, text_of, func_statements, funcs_statements, nodes_fit, funcs_fit}
use Rattle.ae_print.proofs.ProgramRead.{func-fits}
use Rattle.std.proofs.lemmas.Grind.{common_steps}
use Rattle.ae_print.proofs.LineRead.{extends-append, append-none, length-map as length-trees}
use Rattle.ae_seq.proofs.Judging.{left as and-first, right as and-second}
use Rattle.ae_fields.proofs.PartLemmas.{and-both}

twice-at : {A B : Type 0} (f : A → B) (g : B → List ℕ) (xs : List A) (k : ℕ) (d : A) → k < length xs
    → unwrap_or (slice_get (map g (map f xs)) k) [] ≡ g (f (get_or xs k d))
twice-at f g [] k d h = absurd (omega arith)
twice-at f g (x ∷ xs) zero d h = refl
twice-at f g (x ∷ xs) (suc k) d h = twice-at f g xs k d (omega arith)

pub func-name-at : (fs : List Func) (k : ℕ) (d : Func) → k < length fs → string_bytes (get_or fs k d).name ≡ name_at (func_names (func_trees fs)) k
func-name-at fs k d h = sym (twice-at func_tree (λ (f : FuncTree). f.name) fs k d h)

param-name-at : (ps : List Param) (k : ℕ) (d : Param) → k < length ps → string_bytes (get_or ps k d).name ≡ name_at (param_names (param_trees ps)) k
param-name-at ps k d h = sym (twice-at param_tree (λ (p : ParamTree). p.name) ps k d h)

node-name-at : (ns : List Node) (k : ℕ) (d : Node) → k < length ns → string_bytes (get_or ns k d).name ≡ name_at (node_names (node_trees ns)) k
node-name-at ns k d h = sym (twice-at node_tree (λ (n : NodeTree). n.name) ns k d h)

pub length-params : (ps : List Param) → length (param_names (param_trees ps)) ≡ length ps
length-params [] = refl
length-params (p ∷ ps) = ap (λ n. suc n) (length-params ps)

pub front-item : (ps : List Param) (ns : List Node) (k : ℕ) (d : Param) → k < length ps
    → string_bytes (get_or ps k d).name ≡ name_at (param_names (param_trees ps) ++ node_names (node_trees ns)) k
front-item ps ns k d h =
    let l = length-params ps in
    param-name-at ps k d h ∙ sym (extends-append (param_names (param_trees ps)) (node_names (node_trees ns)) k (omega arith))

pub back-item : (ps : List Param) (ns : List Node) (k : ℕ) (d : Node) → length ps ≤ k → k < length ps + length ns
    → string_bytes (get_or ns (k - length ps) d).name ≡ name_at (param_names (param_trees ps) ++ node_names (node_trees ns)) k
back-item ps ns k d low h =
    node-name-at ns (k - length ps) d (omega arith)
    ∙ (unwrap_or-slice_get (node_names (node_trees ns)) (k - length ps) []
    ∙ sym (get_or-append_right (param_names (param_trees ps)) (node_names (node_trees ns)) (length ps) k [] (length-params ps) low)
    ∙ sym (unwrap_or-slice_get (param_names (param_trees ps) ++ node_names (node_trees ns)) k []))

-- fields and lines one after the other
pub spaced_append : (xs ys : List (List ℕ)) → spaced (xs ++ ys) ≡ spaced xs ++ spaced ys
spaced_append [] ys = refl
spaced_append (x ∷ xs) ys = ap (λ zs. 32 ∷ x ++ zs) (spaced_append xs ys) ∙ ap (λ zs. 32 ∷ zs) (sym (append_assoc x (spaced xs) (spaced ys)))

pub text_append : (xs ys : List (List (List ℕ))) → text_of (xs ++ ys) ≡ text_of xs ++ text_of ys
text_append [] ys = refl
text_append (x ∷ xs) ys = ap (λ zs. joined x ++ (10 ∷ zs)) (text_append xs ys) ∙ sym (append_assoc (joined x) (10 ∷ text_of xs) (text_of ys))

pub below-weaker : (n m : ℕ) (ks : List ℕ) → n ≤ m → all_below n ks ≡ true → all_below m ks ≡ true
below-weaker n m [] h b = refl
below-weaker n m (k ∷ ks) h b =
    let l = ltb-true k n (and-first _ _ b) in and-both _ _ (lt-ltb k m (omega arith)) (below-weaker n m ks h (and-second (nat_lt k n) _ b))

-- the arguments of the next node are items
pub node-below : (version bound p : ℕ) (ns : List Node) (i : ℕ) (d : Node) → i < length ns → d ≡ get_or ns i d
    → formed_nodes version bound (p + i) (node_trees (drop i ns)) ≡ true
    → all_below (p + length ns) d.args.items ≡ true
node-below version bound p ns i d h is f =
    let x = get_or ns i d in
    let g : formed_nodes version bound (p + i) (node_trees (x ∷ drop (i + 1) ns)) ≡ true = ap (λ ms. formed_nodes version bound (p + i) (node_trees ms))
    (sym (drop_more ns i d h)) ∙ f in
    let b : all_below (p + i) x.args.items ≡ true = and-second (is_line version bound (op_tree x.op) && has_arguments (op_tree x.op) (length x.args.items)) _
    (and-first _ _ g) in
    below-weaker (p + i) (p + length ns) d.args.items (omega arith) (ap (λ (m : Node). all_below (p + i) m.args.items) is ∙ b)

-- fields in two parts
pub two-parts : (a b : List ℕ) (ops args : List (List ℕ)) → b ≡ a ++ spaced ops → b ++ spaced args ≡ a ++ spaced (ops ++ args)
two-parts a b ops args w = ap (λ z. z ++ spaced args) w ∙ append_assoc a (spaced ops) (spaced args) ∙ ap (λ z. a ++ z) (sym (spaced_append ops args))

-- lines in two parts
pub two-texts : (a b : List ℕ) (xs ys : List (List (List ℕ))) → b ≡ a ++ text_of xs → b ++ text_of ys ≡ a ++ text_of (xs ++ ys)
two-texts a b xs ys w = ap (λ z. z ++ text_of ys) w ∙ append_assoc a (text_of xs) (text_of ys) ∙ ap (λ z. a ++ z) (sym (text_append xs ys))

pub record NextFunc (version : ℕ) (fs : List Func) (i : ℕ) (d : Func) : Type 0 where
  pub nodes : formed_nodes version i (length d.params.items) (node_trees d.nodes.items) ≡ true
  pub below : all_below (length d.params.items + length d.nodes.items) d.results.items ≡ true
  pub later : formed_funcs version (i + 1) (func_trees (drop (i + 1) fs)) ≡ true

next-of : (version i : ℕ) (fs : List Func) (x : Func) → formed_funcs version i (func_trees (x ∷ drop (i + 1) fs)) ≡ true → NextFunc version fs i x
next-of version i fs x f =
    let fits = func-fits version i (most_results version (func_trees (drop (i + 1) fs))) (func_tree x) (and-first _ _ f) in
    let p = length-trees param_tree x.params.items in
    let n = length-trees node_tree x.nodes.items in
    record {
      nodes = ap (λ k. formed_nodes version i k (node_trees x.nodes.items)) (sym p) ∙ fits.nodes;
      below = (λ j. all_below (sym p j + sym n j) x.results.items) ∙ fits.below;
      later = and-second (formed_func version i (most_results version (func_trees (drop (i + 1) fs))) (func_tree x)) _ f;
    }

-- the function that comes next
pub next-func : (version : ℕ) (fs : List Func) (i : ℕ) (d : Func) → i < length fs → d ≡ get_or fs i d → formed_funcs version i (func_trees (drop i fs)) ≡ true
    → NextFunc version fs i d
next-func version fs i d h is f =
    let x = get_or fs i d in
    let g : formed_funcs version i (func_trees (x ∷ drop (i + 1) fs)) ≡ true = ap (λ ms. formed_funcs version i (func_trees ms)) (sym (drop_more fs i d h)) ∙
    f in
    subst (λ (e : Func). NextFunc version fs i e) (sym is) (next-of version i fs x g)

pub next-text : (b new t : List ℕ) (all : List (List ℕ)) (fs : List Func) (i : ℕ) (d : Func) → i < length fs → d ≡ get_or fs i d → b
    ++ text_of (funcs_statements all (func_trees (drop i fs))) ≡ t
    → new ≡ b ++ text_of (func_statements all (func_tree d)) → new ++ text_of (funcs_statements all (func_trees (drop (i + 1) fs))) ≡ t
next-text b new t all fs i d h is so w =
    two-texts b new (func_statements all (func_tree d)) (funcs_statements all (func_trees (drop (i + 1) fs))) w
    ∙ ap (λ (x : Func). b ++ text_of (func_statements all (func_tree x) ++ funcs_statements all (func_trees (drop (i + 1) fs)))) is
    ∙ ap (λ ms. b ++ text_of (funcs_statements all (func_trees ms))) (sym (drop_more fs i d h)) ∙ so

pub next-fit : (fs : List Func) (i : ℕ) (d : Func) (t : Bool) → i < length fs → d ≡ get_or fs i d → funcs_fit (func_trees (drop i fs)) ≡ t
    → nodes_fit (node_trees d.nodes.items) ≡ true
    → funcs_fit (func_trees (drop (i + 1) fs)) ≡ t
next-fit fs i d t h is so fit =
    let x = get_or fs i d in
    ap (λ b. b && funcs_fit (func_trees (drop (i + 1) fs))) (sym fit)
    ∙ ap (λ (e : Func). nodes_fit (node_trees e.nodes.items) && funcs_fit (func_trees (drop (i + 1) fs))) is
    ∙ ap (λ ms. funcs_fit (func_trees ms)) (sym (drop_more fs i d h)) ∙ so

none-left : {A : Type 0} (xs : List A) (i : ℕ) → length xs ≤ i → drop i xs ≡ []
none-left xs i h = grind (arith, common_steps)

pub last-text : (b t : List ℕ) (all : List (List ℕ)) (fs : List Func) (i : ℕ) → length fs ≤ i → b
    ++ text_of (funcs_statements all (func_trees (drop i fs))) ≡ t → b ≡ t
last-text b t all fs i h so = sym (append-none b) ∙ ap (λ (ms : List Func). b ++ text_of (funcs_statements all (func_trees ms))) (sym (none-left fs i h)) ∙ so

pub last-fit : (fs : List Func) (i : ℕ) (t : Bool) → length fs ≤ i → funcs_fit (func_trees (drop i fs)) ≡ t → t ≡ true
last-fit fs i t h so = sym so ∙ ap (λ (ms : List Func). funcs_fit (func_trees ms)) (none-left fs i h)
