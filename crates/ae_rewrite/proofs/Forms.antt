-- What a formed program says of its functions and nodes.
use Rattle.std.proofs.Common.{◌≡◌, ℕ, zero, suc, ◌+◌, ◌<◌, ◌≤◌, List, [], ◌∷◌, length, Bool, true, false, ◌&&◌, ◌==◌, if◌then◌else◌, Some, slice_get, refl, ap, arith, IsTrue}
use Rattle.std.proofs.lemmas.Bool.{false≢true}
use Rattle.std.proofs.lemmas.Bool.Decides.{nat_tests}
use Rattle.std.proofs.lemmas.Option.{none-some, same_Some}
use Rattle.ae_seq.specs.ProgramTree.{ProgramTree, FuncTree, NodeTree}
use Rattle.ae_seq.specs.Formed.{formed, formed_funcs, formed_func, formed_nodes, formed_params, most_results, is_line, has_arguments, all_below, func_lines, within, item_count, named_items, is_name}

pub record IsFormedFunc (version funcs : ℕ) (f : FuncTree) : Type 0 where
  pub some_params : 0 < length f.params
  pub few_params : length f.params ≤ 8
  pub nodes : IsTrue (formed_nodes version funcs (length f.params) f.nodes)
  pub some_results : 0 < length f.results
  pub few_results : length f.results ≤ 8
  pub results : IsTrue (all_below (item_count f) f.results)

pub both-left : (a b : Bool) → IsTrue (a && b) → IsTrue a
both-left true b h = refl
both-left false b h = h

pub both-right : (a b : Bool) → IsTrue (a && b) → IsTrue b
both-right true b h = h
both-right false b h = absurd (false≢true h)

formed-func : (v n m : ℕ) (f : FuncTree) → m ≤ 8 → IsTrue (formed_func v n m f) → IsFormedFunc v n f
formed-func v n m f limit h =
    let to_items = both-left _ (named_items f) h in
    let results = both-right _ (all_below (item_count f) f.results) to_items in
    let to_results = both-left _ (all_below (item_count f) f.results) to_items in
    let some = both-right _ (within 1 m (length f.results)) to_results in
    let to_nodes = both-left _ (within 1 m (length f.results)) to_results in
    let nodes = both-right _ (formed_nodes v n (length f.params) f.nodes) to_nodes in
    let to_params = both-left _ (formed_params v f.params) (both-left _ (formed_nodes v n (length f.params) f.nodes) to_nodes) in
    let params = both-right (is_name f.name) (within 1 8 (length f.params)) to_params in
    record {
      some_params = grind (arith, nat_tests, params);
      few_params = grind (arith, nat_tests, params);
      nodes = nodes;
      some_results = grind (arith, nat_tests, some);
      few_results = let low : length f.results ≤ m = grind (arith, nat_tests, some) in omega (arith, low, limit);
      results = results;
    }

pub few_most : (v : ℕ) (fs : List FuncTree) → most_results v fs ≤ 8
few_most v [] = by_version (v == 2)
  where
    by_version : (b : Bool) → (if b then 8 else 1) ≤ 8
    by_version true = omega arith
    by_version false = omega arith
few_most v (f ∷ fs) = omega arith

formed-at : (v n : ℕ) (fs : List FuncTree) (k : ℕ) (f : FuncTree) → IsTrue (formed_funcs v n fs) → slice_get fs k ≡ Some f → IsFormedFunc v (n + k) f
formed-at v n [] k f h at = absurd (none-some f at)
formed-at v n (g ∷ fs) zero f h at =
    let e : g ≡ f = same_Some g f at in
    let own = both-left (formed_func v n (most_results v fs) g) (formed_funcs v (n + 1) fs) h in
    let z : n + 0 ≡ n = omega arith in
    rw (z, ← e) (formed-func v n (most_results v fs) g (few_most v fs) own)
formed-at v n (g ∷ fs) (suc k) f h at =
    let rest = both-right (formed_func v n (most_results v fs) g) (formed_funcs v (n + 1) fs) h in
    let m : n + 1 + k ≡ n + suc k = omega arith in
    rw (← m) (formed-at v (n + 1) fs k f rest at)

pub formed-of : (p : ProgramTree) (k : ℕ) (f : FuncTree) → IsTrue (formed p) → slice_get p.funcs k ≡ Some f → IsFormedFunc p.version k f
formed-of p k f h at =
    let own : IsTrue (formed_funcs p.version 0 p.funcs) = grind (arith, nat_tests) in
    let z : 0 + k ≡ k = omega arith in
    rw z at (formed-at p.version 0 p.funcs k f own at)

pub some-funcs : (p : ProgramTree) → IsTrue (formed p) → 0 < length p.funcs
some-funcs p h = grind (arith, nat_tests)

-- ---- lengths

funcs-few : (fs : List FuncTree) → length fs ≤ func_lines fs
funcs-few [] = omega arith
funcs-few (f ∷ fs) = omega (arith, funcs-few fs)

nodes-few : (fs : List FuncTree) (k : ℕ) (f : FuncTree) → slice_get fs k ≡ Some f → length f.nodes ≤ func_lines fs
nodes-few [] k f at = absurd (none-some f at)
nodes-few (g ∷ fs) zero f at = let e : length g.nodes ≡ length f.nodes = ap (λ (x : FuncTree). length x.nodes) (same_Some g f at) in omega arith
nodes-few (g ∷ fs) (suc k) f at = omega (arith, nodes-few fs k f at)

lines-few : (p : ProgramTree) → IsTrue (formed p) → func_lines p.funcs ≤ 4096
lines-few p h = let e : func_lines p.funcs + (if p.version == 2 then 1 else 0) ≤ 4096 = grind (arith, nat_tests) in omega (arith, e)

pub few-nodes : (p : ProgramTree) (k : ℕ) (f : FuncTree) → IsTrue (formed p) → slice_get p.funcs k ≡ Some f → length f.nodes ≤ 4096
few-nodes p k f h at = omega (arith, nodes-few p.funcs k f at, lines-few p h)

pub few-funcs : (p : ProgramTree) → IsTrue (formed p) → length p.funcs ≤ 4096
few-funcs p h = omega (arith, funcs-few p.funcs, lines-few p h)

-- ---- nodes

pub record IsFormedNode (version funcs items : ℕ) (n : NodeTree) : Type 0 where
  pub line : IsTrue (is_line version funcs n.op)
  pub arguments : IsTrue (has_arguments n.op (length n.args))
  pub below : IsTrue (all_below items n.args)

formed-node : (v funcs items : ℕ) (ns : List NodeTree) (k : ℕ) (n : NodeTree) → IsTrue (formed_nodes v funcs items ns) → slice_get ns k ≡ Some n
    → IsFormedNode v funcs (items + k) n
formed-node v funcs items [] k n h at = absurd (none-some n at)
formed-node v funcs items (m ∷ ns) zero n h at =
    let e : m ≡ n = same_Some m n at in
    let z : items + 0 ≡ items = omega arith in
    rw (z, ← e) (record { line = grind (arith, nat_tests); arguments = grind (arith, nat_tests); below = grind (arith, nat_tests) })
formed-node v funcs items (m ∷ ns) (suc k) n h at =
    let rest : IsTrue (formed_nodes v funcs (items + 1) ns) = grind (arith, nat_tests) in
    let e : items + 1 + k ≡ items + suc k = omega arith in
    rw (← e) (formed-node v funcs (items + 1) ns k n rest at)

pub node-of : (p : ProgramTree) (f : ℕ) (of : FuncTree) (k : ℕ) (n : NodeTree) → IsTrue (formed p) → slice_get p.funcs f ≡ Some of
    → slice_get of.nodes k ≡ Some n → IsFormedNode p.version f (length of.params + k) n
node-of p f of k n h at here = formed-node p.version f (length of.params) of.nodes k n (formed-of p f of h at).nodes here

pub below-at : (m : ℕ) (args : List ℕ) (i a : ℕ) → IsTrue (all_below m args) → slice_get args i ≡ Some a → a < m
below-at m [] i a h at = absurd (none-some a at)
below-at m (b ∷ args) zero a h at = let e : b ≡ a = same_Some b a at in rw (← e) (grind (arith, nat_tests))
below-at m (b ∷ args) (suc i) a h at = below-at m args i a (grind (arith, nat_tests)) at
