-- The statements of a formed program may stand on lines.
use Rattle.std.proofs.Common.{◌≡◌, ℕ, zero, suc, ◌+◌, ◌^◌, ◌<◌, ◌≤◌, Bool, true, false, ◌&&◌, ◌==◌, nat_le, nat_lt, List, [], ◌∷◌, ◌++◌, length, map, if◌then◌else◌, refl, ◌∙◌, arith, codes, length-append}
use Rattle.std.proofs.lemmas.Bool.{leb-true, ltb-true}
use Rattle.std.specs.Fmt.{decimal}
use Rattle.std.specs.List.{list_all}
use Rattle.ae_word.specs.declared.op.WordOp.{WordOp}
use Rattle.ae_word.specs.declared.op.WordOp.TheVariants.{Add, Sub, Mul, And, Or, Xor, Not, Min, Max, Eq, Lt, Mux, Shl, Shr, Cast, SLt, SMin, SMax, Sar, SCast}
use Rattle.ae_word.specs.WordTable.{folds, row_of}
use Rattle.ae_seqtype.specs.SeqTree.{parts_in_size, depth}
use Rattle.ae_seq.specs.ProgramTree.{OpTree, word, cast_int, pair, fst, snd, const, zip, call, each, each_two, reduce, scan, shift, up, select, partition, unpartition, ParamTree, NodeTree, FuncTree, ProgramTree}
use Rattle.ae_seq.specs.Formed.{all_below, all_distinct, all_names, formed, formed_func, formed_funcs, formed_nodes, formed_params, func_names, has_arguments, is_line, is_name, is_spelled, item_count, line_count, most_results, node_names, param_names, within}
use Rattle.ae_print.specs.Printed.{name_at, op_fields, words_fit, nodes_fit, funcs_fit, node_fields, param_field, end_fields, item_names, func_statements, funcs_statements, version_statements, statements}
use Rattle.ae_print.proofs.ProgramRead.{FuncFits, func-fits, length-params, length-nodes, length-names as length-funcs}
use Rattle.ae_print.proofs.SolidForms.{solid-name, solid-decimal, solid-letter, solid-type, solid-param}
use Rattle.ae_print.proofs.TextForms.{solid, stated, all-append}
use Rattle.ae_seq.proofs.Judging.{left as and-first, right as and-second}
use Rattle.ae_fields.proofs.PartLemmas.{and-both}

small-solid : (bound n : ℕ) → nat_le n bound ≡ true → bound < 2 ^ 64 → solid (decimal n) ≡ true
small-solid bound n h b = let l = leb-true n bound h in solid-decimal n (omega arith)

width-solid : (v : ℕ) → within 1 64 v ≡ true → solid (117 ∷ decimal v) ≡ true
width-solid v h = let l = leb-true v 64 (and-second (nat_le 1 v) _ h) in solid-letter 117 v refl (omega arith)

signed-solid : (v : ℕ) → within 1 64 v ≡ true → solid (105 ∷ decimal v) ≡ true
signed-solid v h = let l = leb-true v 64 (and-second (nat_le 1 v) _ h) in solid-letter 105 v refl (omega arith)

word-solid : (version n : ℕ) (op : WordOp) → is_line version n (word op) ≡ true → list_all solid ((row_of op).fields) ≡ true
word-solid version n Add h = refl
word-solid version n Sub h = refl
word-solid version n Mul h = refl
word-solid version n And h = refl
word-solid version n Or h = refl
word-solid version n Xor h = refl
word-solid version n Not h = refl
word-solid version n Min h = refl
word-solid version n Max h = refl
word-solid version n Eq h = refl
word-solid version n Lt h = refl
word-solid version n Mux h = refl
word-solid version n (Shl k) h = and-both _ _ (small-solid 63 k h (omega arith)) refl
word-solid version n (Shr k) h = and-both _ _ (small-solid 63 k h (omega arith)) refl
word-solid version n (Cast v) h = and-both _ _ (width-solid v h) refl
word-solid version n SLt h = absurd cc
word-solid version n SMin h = absurd cc
word-solid version n SMax h = absurd cc
word-solid version n (Sar k) h = absurd cc
word-solid version n (SCast k) h = absurd cc

fold-solid : (op : WordOp) → folds op ≡ true → list_all solid ((row_of op).fields) ≡ true
fold-solid Add h = refl
fold-solid Sub h = refl
fold-solid Mul h = refl
fold-solid And h = refl
fold-solid Or h = refl
fold-solid Xor h = refl
fold-solid Not h = refl
fold-solid Min h = refl
fold-solid Max h = refl
fold-solid Eq h = refl
fold-solid Lt h = refl
fold-solid Mux h = refl
fold-solid (Shl k) h = absurd cc
fold-solid (Shr k) h = absurd cc
fold-solid (Cast k) h = absurd cc
fold-solid SLt h = absurd cc
fold-solid SMin h = absurd cc
fold-solid SMax h = absurd cc
fold-solid (Sar k) h = absurd cc
fold-solid (SCast k) h = absurd cc

name-at : (ns : List (List ℕ)) (k : ℕ) → all_names ns ≡ true → k < length ns → solid (name_at ns k) ≡ true
name-at [] k h l = absurd (omega arith)
name-at (n ∷ ns) zero h l = solid-name n (and-first _ _ h)
name-at (n ∷ ns) (suc k) h l = name-at ns k (and-second (is_name n) _ h) (omega arith)

names-at : (ns : List (List ℕ)) (bound : ℕ) (ks : List ℕ) → all_names ns ≡ true → bound ≤ length ns → all_below bound ks ≡ true
    → list_all solid (map (name_at ns) ks) ≡ true
names-at ns bound [] h l b = refl
names-at ns bound (k ∷ ks) h l b =
    let m = ltb-true k bound (and-first _ _ b) in
    and-both _ _ (name-at ns k h (omega arith)) (names-at ns bound ks h l (and-second (nat_lt k bound) _ b))

words-solid : (ws : List ℕ) → list_all (λ w. nat_lt w (2 ^ 64)) ws ≡ true → list_all solid (map decimal ws) ≡ true
words-solid [] h = refl
words-solid (w ∷ ws) h = and-both _ _ (solid-decimal w (ltb-true w (2 ^ 64) (and-first _ _ h))) (words-solid ws (and-second (nat_lt w (2 ^ 64)) _ h))

func-at : (all : List (List ℕ)) (n k : ℕ) → all_names all ≡ true → n ≤ length all → nat_lt k n ≡ true → solid (name_at all k) ≡ true
func-at all n k names l h = let m = ltb-true k n h in name-at all k names (omega arith)

op-solid : (version n : ℕ) (all : List (List ℕ)) (op : OpTree) → all_names all ≡ true → n ≤ length all → is_line version n op ≡ true → words_fit op ≡ true
    → list_all solid (op_fields all op) ≡ true
op-solid version n all (word op) names l h fit = word-solid version n op h
op-solid version n all (cast_int v) names l h fit = and-both _ _ (signed-solid v (and-second (version == 2) _ h)) refl
op-solid version n all pair names l h fit = refl
op-solid version n all fst names l h fit = refl
op-solid version n all snd names l h fit = refl
op-solid version n all (const t ws) names l h fit =
    and-both _ _ (solid-type t (and-first (parts_in_size t) _ (and-first (parts_in_size t && nat_le (depth t) 6) _ h))) (words-solid ws fit)
op-solid version n all zip names l h fit = refl
op-solid version n all (call k) names l h fit = and-both _ _ (func-at all n k names l h) refl
op-solid version n all (each k) names l h fit = and-both _ _ (func-at all n k names l h) refl
op-solid version n all (each_two k) names l h fit = and-both _ _ (func-at all n k names l h) refl
op-solid version n all (reduce op) names l h fit = fold-solid op h
op-solid version n all (scan op) names l h fit = fold-solid op (and-second (version == 2) _ h)
op-solid version n all (shift k) names l h fit = and-both _ _ (small-solid 4096 k h (omega arith)) refl
op-solid version n all (up k) names l h fit = and-both _ _ (small-solid 4096 k (and-second (nat_le 1 k) _ h) (omega arith)) refl
op-solid version n all (select k) names l h fit = and-both _ _ (small-solid 4096 k h (omega arith)) refl
op-solid version n all (partition a b) names l h fit =
    and-both _ _ (small-solid 4096 a (and-second (nat_le 1 a) _ (and-first (within 1 4096 a) _ h)) (omega arith))
    (and-both _ _ (small-solid 4096 b (and-second (nat_le 1 b) _ (and-second (within 1 4096 a) _ h)) (omega arith)) refl)
op-solid version n all unpartition names l h fit = refl

nodes-stated : (version n j : ℕ) (all items : List (List ℕ)) (ms : List NodeTree) → all_names all ≡ true → n ≤ length all → all_names items ≡ true
    → j + length ms ≤ length items
    → formed_nodes version n j ms ≡ true → all_names (node_names ms) ≡ true → nodes_fit ms ≡ true → list_all stated (map (node_fields all items) ms) ≡ true
nodes-stated version n j all items [] names l inames il f mnames fit = refl
nodes-stated version n j all items (m ∷ ms) names l inames il f mnames fit =
    let line = and-first _ _ f in
    let line2 = and-first _ _ line in
    let below = and-second (is_line version n m.op && has_arguments m.op (length m.args)) _ line in
    let ops = op-solid version n all m.op names l (and-first _ _ line2) (and-first _ _ fit) in
    let args = names-at items j m.args inames (omega arith) below in
    and-both _ _ (and-both _ _ (solid-name m.name (and-first _ _ mnames))
    (and-both _ _ refl (all-append solid (op_fields all m.op) (map (name_at items) m.args) ops args)))
    (nodes-stated version n (j + 1) all items ms names l inames (omega arith)
    (and-second (is_line version n m.op && has_arguments m.op (length m.args) && all_below j m.args) _ f) (and-second (is_name m.name) _ mnames)
    (and-second (words_fit m.op) _ fit))

params-solid : (version : ℕ) (ps : List ParamTree) → formed_params version ps ≡ true → all_names (param_names ps) ≡ true
    → list_all solid (map param_field ps) ≡ true
params-solid version [] f h = refl
params-solid version (p ∷ ps) f h =
    let parts = and-first (parts_in_size p.type) _ (and-first (parts_in_size p.type && nat_le (depth p.type) 6) _
    (and-first (is_spelled version p.type) _ f)) in
    and-both _ _ (solid-param p.name p.type (and-first _ _ h) parts)
    (params-solid version ps (and-second (is_spelled version p.type) _ f) (and-second (is_name p.name) _ h))

names-append : (ms ns : List (List ℕ)) → all_names ms ≡ true → all_names ns ≡ true → all_names (ms ++ ns) ≡ true
names-append [] ns h g = g
names-append (m ∷ ms) ns h g = and-both _ _ (and-first _ _ h) (names-append ms ns (and-second (is_name m) _ h) g)

end-stated : (items : List (List ℕ)) (rs : List ℕ) → 1 ≤ length rs → list_all solid (map (name_at items) rs) ≡ true → stated (end_fields items rs) ≡ true
end-stated items [] l h = absurd (omega arith)
end-stated items (r ∷ rs) l h = and-both _ _ refl h

func-stated : (version n most : ℕ) (all : List (List ℕ)) (f : FuncTree) → all_names all ≡ true → n ≤ length all → FuncFits version n most f
    → nodes_fit f.nodes ≡ true → list_all stated (func_statements all f) ≡ true
func-stated version n most all f names l fits fit =
    let inames = names-append (param_names f.params) (node_names f.nodes) fits.param_names_are fits.node_names_are in
    let count : length (item_names f) ≡ item_count f = length-append (param_names f.params) (node_names f.nodes) ∙
    (λ i. length-params f.params i + length-nodes f.nodes i) in
    let some = leb-true 1 (length f.results) (and-first _ _ fits.results) in
    let results = names-at (item_names f) (item_count f) f.results inames (omega arith) fits.below in
    let nodes = nodes-stated version n (length f.params) all (item_names f) f.nodes names l inames (omega arith) fits.nodes fits.node_names_are fit in
    and-both _ _ (and-both _ _ refl (and-both _ _ (solid-name f.name fits.name) (params-solid version f.params fits.types fits.param_names_are)))
    (all-append stated (map (node_fields all (item_names f)) f.nodes) (end_fields (item_names f) f.results ∷ []) nodes
    (and-both _ _ (end-stated (item_names f) f.results some results) refl))

funcs-stated : (version n : ℕ) (all : List (List ℕ)) (fs : List FuncTree) → all_names all ≡ true → n + length fs ≤ length all
    → formed_funcs version n fs ≡ true → funcs_fit fs ≡ true → list_all stated (funcs_statements all fs) ≡ true
funcs-stated version n all [] names l f fit = refl
funcs-stated version n all (g ∷ fs) names l f fit =
    let fits = func-fits version n (most_results version fs) g (and-first _ _ f) in
    all-append stated (func_statements all g) (funcs_statements all fs)
    (func-stated version n (most_results version fs) all g names (omega arith) fits (and-first _ _ fit))
    (funcs-stated version (n + 1) all fs names (omega arith) (and-second (formed_func version n (most_results version fs) g) _ f)
    (and-second (nodes_fit g.nodes) _ fit))

funcs-named : (version n : ℕ) (fs : List FuncTree) → formed_funcs version n fs ≡ true → all_names (func_names fs) ≡ true
funcs-named version n [] h = refl
funcs-named version n (f ∷ fs) h =
    let fits = func-fits version n (most_results version fs) f (and-first _ _ h) in
    and-both _ _ fits.name (funcs-named version (n + 1) fs (and-second (formed_func version n (most_results version fs) f) _ h))

pub program-stated : (p : ProgramTree) → formed p ≡ true → funcs_fit p.funcs ≡ true → list_all stated (statements p) ≡ true
program-stated p h fit =
    let f = and-second (within 1 2 p.version && nat_le 1 (length p.funcs) && nat_le (line_count p) 4096 && all_distinct (func_names p.funcs)) _ h in
    let n = length-funcs p.funcs in
    all-append stated (version_statements p.version) (funcs_statements (func_names p.funcs) p.funcs) (by (p.version == 2))
    (funcs-stated p.version 0 (func_names p.funcs) p.funcs (funcs-named p.version 0 p.funcs f) (omega arith) f fit)
  where
    by : (t : Bool) → list_all stated (if t then (codes "aeth" ∷ codes "2" ∷ []) ∷ [] else []) ≡ true
    by true = refl
    by false = refl
