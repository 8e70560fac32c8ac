-- Own widths up to 65, and what is too wide in a concatenation.
use Rattle.std.proofs.Common.{ℕ, List, ◌≡◌, ◌+◌, ◌<◌, ◌≤◌, ◌^◌, Bool, true, false, ◌||◌, refl, sym, ap, ◌∙◌, arith, length, drop, get_or, map}
use Rattle.std.specs.Prelude.{Some, find, if◌then◌else◌, min, nat_le, nat_lt, option_map}
use Rattle.std.proofs.lemmas.Bool.Decides.{nat_tests}
use Rattle.std.proofs.lemmas.List.{drop_more}
use Rattle.ae_vmodule.specs.View.{net_tree}
use Rattle.ae_vmodule.specs.declared.module.VNet.{VNet}
use Rattle.ae_judge.specs.Judging.{first_too_large}
use Rattle.ae_vmodule.specs.ModuleTree.{ExprTree, NetTree, concat_more}
use Rattle.ae_judge.specs.Widths.{own_width}
use Rattle.ae_judge.specs.Faults.{is_too_large, is_too_wide}
use Rattle.std.proofs.Math.Nat.{pow-le-pow_right}

-- indexes

pub reaches_wide : (depth w : ℕ) → depth < 2 ^ 32 → 32 ≤ w → nat_lt depth (2 ^ w) ≡ true
reaches_wide depth w l h =
    let p : 2 ^ 32 ≤ 2 ^ w = pow-le-pow_right (omega arith) h in
    let q : depth < 2 ^ w = omega arith in
    grind (arith, nat_tests)

pub reach_both : (depth index_width w : ℕ) → depth < 2 ^ 32 → 32 ≤ index_width → min w 65 ≡ index_width → nat_le 32 index_width ≡ nat_lt depth (2 ^ w)
reach_both depth index_width w s h e =
    let far : nat_le 32 index_width ≡ true = grind (arith, nat_tests) in
    far ∙ sym (reaches_wide depth w s (omega arith))

-- concatenations

too_far : (w : Bool) (m so_far own : ℕ) → ((w || nat_lt 64 (own + m)) || nat_lt 64 (so_far + (own + m))) ≡ (w || nat_lt 64 (so_far + own + m))
too_far true m so_far own = refl
too_far false m so_far own = grind (arith, nat_tests)

pub chain_next : (ns : List NetTree) (a rest : ExprTree) (whole : Bool) (so_far : ℕ) → is_too_wide ns a ≡ false
    → whole ≡ (is_too_wide ns (concat_more a rest) || nat_lt 64 (so_far + own_width ns (concat_more a rest)))
    → whole ≡ (is_too_wide ns rest || nat_lt 64 (so_far + own_width ns a + own_width ns rest))
chain_next ns a rest whole so_far fine h =
    h ∙ ap (λ b. (b || (is_too_wide ns rest || nat_lt 64 (own_width ns a + own_width ns rest))) || nat_lt 64 (so_far + (own_width ns a + own_width ns rest)))
    fine
    ∙ too_far (is_too_wide ns rest) (own_width ns rest) so_far (own_width ns a)

pub last_part : (ns : List NetTree) (a : ExprTree) (so_far : ℕ) (whole : Bool) → is_too_wide ns a ≡ false
    → whole ≡ (is_too_wide ns a || nat_lt 64 (so_far + own_width ns a)) → whole ≡ nat_lt 64 (so_far + own_width ns a)
last_part ns a so_far whole fine h = h ∙ ap (λ b. b || nat_lt 64 (so_far + own_width ns a)) fine

-- the first net that is too large

pub large_found : (ws : List (List ℕ)) (vs : List VNet) (i : ℕ) (d : VNet) → i < length vs → is_too_large (net_tree ws (get_or vs i d)) ≡ true
    → first_too_large (map (net_tree ws) (drop i vs)) ≡ Some (get_or vs i d).item
large_found ws vs i d l here =
    ap (λ xs. first_too_large (map (net_tree ws) xs)) (drop_more vs i d l)
    ∙ ap (λ b. option_map (λ (x : NetTree). x.item) (if b then Some (net_tree ws (get_or vs i d)) else find is_too_large
    (map (net_tree ws) (drop (i + 1) vs)))) here

pub large_next : (ws : List (List ℕ)) (vs : List VNet) (i : ℕ) (d : VNet) → i < length vs → is_too_large (net_tree ws (get_or vs i d)) ≡ false
    → first_too_large (map (net_tree ws) (drop (i + 1) vs)) ≡ first_too_large (map (net_tree ws) (drop i vs))
large_next ws vs i d l here =
    sym (ap (λ xs. first_too_large (map (net_tree ws) xs)) (drop_more vs i d l)
    ∙ ap (λ b. option_map (λ (x : NetTree). x.item) (if b then Some (net_tree ws (get_or vs i d)) else find is_too_large
    (map (net_tree ws) (drop (i + 1) vs)))) here)
