-- What is so of the program function of a typed program, and of its instance.
use Rattle.std.proofs.Common.{◌≡◌, ℕ, zero, suc, ◌+◌, ◌-◌, ◌≤◌, true, List, [], ◌∷◌, ◌++◌, length, length-append, map, take, Some, slice_get, ap, sym, ◌∙◌, arith, IsTrue}
use Rattle.std.specs.Prelude.{unwrap_or}
use Rattle.std.proofs.lemmas.List.{length-map}
use Rattle.std.proofs.lemmas.Option.{none-some, same_Some}
use Rattle.std.proofs.lemmas.Bool.Decides.{nat_tests}
use Rattle.ae_seq.specs.ProgramTree.{ProgramTree, FuncTree, NodeTree, ParamTree}
use Rattle.ae_seq.specs.Formed.{formed, formed_funcs, formed_func, most_results, all_names, all_name_bytes, is_name, named_items, node_names, param_names}
use Rattle.ae_sttype.specs.StTree.{StTree}
use Rattle.ae_rewrite.specs.LayoutRule.{lay_of}
use Rattle.ae_rewrite.specs.StProgramTree.{StFuncTree, StNodeTree}
use Rattle.ae_rewrite.specs.Scheduled.{HasKey, IsSchedule, node_layouts, param_layouts}
use Rattle.ae_rewrite.specs.Sound.{IsSound, item_layouts}
use Rattle.ae_rewrite.specs.Interface.{main_of}
use Rattle.ae_rewrite.proofs.Forms.{formed-of, few-nodes, both-left as both_left, both-right as both_right}
use Rattle.ae_compile.specs.LineNotes.{AllNamed}
use Rattle.ae_compile.specs.Costing.{HasParts}
use Rattle.ae_compile.specs.Mains.{IsInstanceOf}
use Rattle.ae_flow.proofs.Placed.{nodes_many}
use Rattle.ae_print.specs.Printed.{item_names, name_at}

-- ---- the instance of the program function

record MainInstance (p : ProgramTree) (f : FuncTree) (s : StFuncTree) : Type 0 where
  items : length (item_layouts s) ≡ length f.params + length f.nodes
  nodes : length s.nodes ≡ length f.nodes
  results : s.results ≡ f.results

as_many : (clocks : ℕ) (ps : List ParamTree) (ss : List StTree) → param_layouts clocks ps ≡ map (λ (x : StTree). Some x) ss → length ss ≡ length ps
as_many clocks ps ss h = sym (length-map ss (λ (x : StTree). Some x)) ∙ (ap length (sym h) ∙ length-map ps (λ (q : ParamTree). lay_of q.type clocks))

main_by : (p : ProgramTree) (slowdown : ℕ) (all : List StFuncTree) (f : FuncTree) (s : StFuncTree) → IsSchedule p slowdown all
    → slice_get p.funcs (main_of p) ≡ Some f → slice_get all (length all - 1) ≡ Some s → MainInstance p f s
main_by p slowdown all f s h at last =
    let key = h.last in
    let same : key.instance ≡ s = same_Some key.instance s (sym key.here ∙ last) in
    let own = h.right (length all - 1) s last in
    let number : s.func ≡ main_of p = ap (λ (x : StFuncTree). x.func) (sym same) ∙ key.is_func in
    let of : own.of ≡ f = same_Some own.of f (sym own.known ∙ (ap (slice_get p.funcs) number ∙ at)) in
    let params : length s.ins ≡ length own.of.params = as_many s.budget own.of.params s.ins own.ins in
    let nodes : length s.nodes ≡ length own.of.nodes = nodes_many p (HasKey (take (length all - 1) all)) s.func s.budget
    (length own.of.params) own.of.nodes s.nodes own.nodes in
    rw (← of) (record {
      items = length-append s.ins (node_layouts s.nodes) ∙ omega (arith, params, nodes, length-map s.nodes (λ (x : StNodeTree). x.type));
      nodes = nodes;
      results = own.results;
    })

pub main_items : (p : ProgramTree) (slowdown : ℕ) (all : List StFuncTree) (f : FuncTree) (s : StFuncTree) → IsTrue (formed p) → IsSchedule p slowdown all
    → IsSound all → slice_get p.funcs (main_of p) ≡ Some f → slice_get all (length all - 1) ≡ Some s → IsInstanceOf f s
main_items p slowdown all f s good h sound at last =
    let m = main_by p slowdown all f s h at last in
    let form = formed-of p (main_of p) f good at in
    let params : length f.params ≤ 8 = form.few_params in
    let nodes : length f.nodes ≤ 4096 = few-nodes p (main_of p) f good at in
    record {
      items = m.items;
      few = omega (arith, params, nodes);
      results = λ i r g. (sound.each (length all - 1) s last).results i r (rw m.results g);
    }

pub main_nodes : (p : ProgramTree) (slowdown : ℕ) (all : List StFuncTree) (f : FuncTree) (s : StFuncTree) → IsSchedule p slowdown all
    → slice_get p.funcs (main_of p) ≡ Some f → slice_get all (length all - 1) ≡ Some s → length s.nodes ≡ length f.nodes
main_nodes p slowdown all f s h at last = (main_by p slowdown all f s h at last).nodes

pub parts_of : (p : ProgramTree) (slowdown : ℕ) (all : List StFuncTree) → IsSchedule p slowdown all → HasParts p all
parts_of p slowdown all h =
    let key = h.last in
    let own = h.right (length all - 1) key.instance key.here in
    record { func = own.of; there = ap (slice_get p.funcs) (sym key.is_func) ∙ own.known; instance = key.instance; last = key.here }

-- ---- names

pub name_plain : (n : List ℕ) → IsTrue (is_name n) → all_name_bytes n ≡ true
name_plain n h = grind (arith, nat_tests)

names_plain : (ns : List NodeTree) → IsTrue (all_names (node_names ns)) → AllNamed ns
names_plain [] h = tt
names_plain (n ∷ ns) h =
    (name_plain n.name (both_left (is_name n.name) (all_names (node_names ns)) h), names_plain ns (both_right (is_name n.name) (all_names (node_names ns)) h))

name_short : (n : List ℕ) → IsTrue (is_name n) → length n ≤ 32
name_short n h = grind (arith, nat_tests)

-- so is the name of any item, that of a parameter or of a node
items_short : (ps ns : List (List ℕ)) → IsTrue (all_names ps) → IsTrue (all_names ns) → (i : ℕ) → length (unwrap_or (slice_get (ps ++ ns) i) []) ≤ 32
items_short [] [] h g i = omega arith
items_short [] (n ∷ ns) h g zero = name_short n (both_left (is_name n) (all_names ns) g)
items_short [] (n ∷ ns) h g (suc i) = items_short [] ns h (both_right (is_name n) (all_names ns) g) i
items_short (p ∷ ps) ns h g zero = name_short p (both_left (is_name p) (all_names ps) h)
items_short (p ∷ ps) ns h g (suc i) = items_short ps ns (both_right (is_name p) (all_names ps) h) g i

names_short : (ns : List NodeTree) → IsTrue (all_names (node_names ns)) → (j : ℕ) (n : NodeTree) → slice_get ns j ≡ Some n → length n.name ≤ 32
names_short [] h j n at = absurd (none-some n at)
names_short (x ∷ xs) h zero n at = rw (← same_Some x n at) (name_short x.name (both_left (is_name x.name) (all_names (node_names xs)) h))
names_short (x ∷ xs) h (suc j) n at = names_short xs (both_right (is_name x.name) (all_names (node_names xs)) h) j n at

funcs_named : (v n : ℕ) (fs : List FuncTree) (k : ℕ) (f : FuncTree) → IsTrue (formed_funcs v n fs) → slice_get fs k ≡ Some f → IsTrue (named_items f)
funcs_named v n [] k f h at = absurd (none-some f at)
funcs_named v n (g ∷ fs) zero f h at =
    let e : g ≡ f = same_Some g f at in
    rw (← e) (both_right _ (named_items g) (both_left (formed_func v n (most_results v fs) g) (formed_funcs v (n + 1) fs) h))
funcs_named v n (g ∷ fs) (suc k) f h at = funcs_named v (n + 1) fs k f (both_right (formed_func v n (most_results v fs) g) (formed_funcs v (n + 1) fs) h) at

pub main_items_named : (p : ProgramTree) (k : ℕ) (f : FuncTree) → IsTrue (formed p) → slice_get p.funcs k ≡ Some f → IsTrue (named_items f)
main_items_named p k f h at = let own : IsTrue (formed_funcs p.version 0 p.funcs) = grind (arith, nat_tests) in funcs_named p.version 0 p.funcs k f own at

nodes_named : (f : FuncTree) → IsTrue (named_items f) → IsTrue (all_names (node_names f.nodes))
nodes_named f items = grind (arith, nat_tests)

params_named : (f : FuncTree) → IsTrue (named_items f) → IsTrue (all_names (param_names f.params))
params_named f items = grind (arith, nat_tests)

pub main_named : (p : ProgramTree) (k : ℕ) (f : FuncTree) → IsTrue (formed p) → slice_get p.funcs k ≡ Some f → AllNamed f.nodes
main_named p k f h at = names_plain f.nodes (nodes_named f (main_items_named p k f h at))

pub main_short : (p : ProgramTree) (k : ℕ) (f : FuncTree) → IsTrue (formed p) → slice_get p.funcs k ≡ Some f → (j : ℕ) (n : NodeTree)
    → slice_get f.nodes j ≡ Some n → length n.name ≤ 32
main_short p k f h at = names_short f.nodes (nodes_named f (main_items_named p k f h at))

pub main_item_short : (p : ProgramTree) (k : ℕ) (f : FuncTree) → IsTrue (formed p) → slice_get p.funcs k ≡ Some f → (i : ℕ)
    → length (name_at (item_names f) i) ≤ 32
main_item_short p k f h at =
    let items : IsTrue (named_items f) = main_items_named p k f h at in
    items_short (param_names f.params) (node_names f.nodes) (params_named f items) (nodes_named f items)
