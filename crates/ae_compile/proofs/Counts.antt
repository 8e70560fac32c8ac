-- How many parameters and results a function of a typed program has.
use Rattle.std.proofs.Common.{◌≡◌, ℕ, zero, suc, ◌+◌, ◌≤◌, ◌&&◌, nat_le, Bool, true, false, List, [], ◌∷◌, length, Some, slice_get, refl, arith, subst}
use Rattle.std.proofs.lemmas.Bool.Decides.{nat_tests}
use Rattle.ae_seq.specs.ProgramTree.{FuncTree, ProgramTree}
use Rattle.ae_seq.specs.Formed.{all_below, all_distinct, formed_func, formed_funcs, formed_nodes, formed_params, func_names, is_name, item_count, line_count, most_results, named_items, within}
use Rattle.ae_eval.specs.Stack.{IsTyped}
use Rattle.ae_eval.proofs.Items.{and-both}
use Rattle.ae_rewrite.proofs.Forms.{few_most as most}

and_five : (a b c d e : Bool) → (a && b && c && d && e) ≡ true → e ≡ true
and_five false b c d e h = cc
and_five true false c d e h = cc
and_five true true false d e h = cc
and_five true true true false e h = cc
and_five true true true true e h = h

and_seven : (a b c d e f g : Bool) → (a && b && c && d && e && f && g) ≡ true → (b ≡ true) × (e ≡ true)
and_seven false b c d e f g h = cc
and_seven true false c d e f g h = cc
and_seven true true false d e f g h = cc
and_seven true true true false e f g h = cc
and_seven true true true true false f g h = cc
and_seven true true true true true f g h = (refl, refl)

pub record FewItems (f : FuncTree) : Type 0 where
  pub some : 1 ≤ length f.params
  pub few : length f.params ≤ 8
  pub results : length f.results ≤ 8

func_few : (v k m : ℕ) (f : FuncTree) → m ≤ 8 → formed_func v k m f ≡ true → FewItems f
func_few v k m f b h =
    let r = and_seven (is_name f.name) (within 1 8 (length f.params)) (formed_params v f.params) (formed_nodes v k (length f.params) f.nodes)
    (within 1 m (length f.results)) (all_below (item_count f) f.results) (named_items f) h in
    let p = and-both (nat_le 1 (length f.params)) (nat_le (length f.params) 8) r.0 in
    let q = and-both (nat_le 1 (length f.results)) (nat_le (length f.results) m) r.1 in
    let most : length f.results ≤ m = grind (arith, nat_tests, q.1) in
    record { some = grind (arith, nat_tests, p.0); few = grind (arith, nat_tests, p.1); results = omega (arith, most, b) }

funcs_few : (v i : ℕ) (fs : List FuncTree) (k : ℕ) (f : FuncTree) → formed_funcs v i fs ≡ true → slice_get fs k ≡ Some f → FewItems f
funcs_few v i [] k f h e = cc
funcs_few v i (g ∷ fs) zero f h e =
    let same : g ≡ f = cc in
    subst FewItems same (func_few v i (most_results v fs) g (most v fs) (and-both (formed_func v i (most_results v fs) g) _ h).0)
funcs_few v i (g ∷ fs) (suc k) f h e = funcs_few v (i + 1) fs k f (and-both (formed_func v i (most_results v fs) g) _ h).1 e

pub few_at : (p : ProgramTree) (k : ℕ) (f : FuncTree) → IsTyped p → slice_get p.funcs k ≡ Some f → FewItems f
few_at p k f h e =
    funcs_few p.version 0 p.funcs k f (and_five (within 1 2 p.version) (nat_le 1 (length p.funcs)) (nat_le (line_count p) 4096)
    (all_distinct (func_names p.funcs)) (formed_funcs p.version 0 p.funcs) h.is_formed) e
