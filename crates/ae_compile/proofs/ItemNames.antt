-- The names of items, those of parameters and then those of nodes.
use Rattle.std.proofs.Common.{◌≡◌, ℕ, zero, suc, ◌-◌, ◌<◌, ◌≤◌, List, [], ◌∷◌, ◌++◌, length, map, get_or, arith, ap, sym, ◌∙◌, slice_get}
use Rattle.std.specs.Prelude.{unwrap_or}
use Rattle.ae_seq.specs.declared.program.Node.{Node}
use Rattle.ae_seq.specs.declared.program.Param.{Param}
use Rattle.ae_seq.specs.ProgramTree.{node_tree, param_tree}
use Rattle.ae_seq.specs.Formed.{node_names, param_names}

pub param_at : (ps : List Param) (ns : List (List ℕ)) (i : ℕ) (q : Param) → i < length ps → q ≡ get_or ps i q
    → unwrap_or (slice_get (param_names (map param_tree ps) ++ ns) i) [] ≡ (param_tree q).name
param_at [] ns i q h e = absurd (omega (arith, h))
param_at (p ∷ ps) ns zero q h e = ap (λ (x : Param). (param_tree x).name) (sym e)
param_at (p ∷ ps) ns (suc i) q h e = param_at ps ns i q (omega (arith, h)) e

pub behind_params : (ps : List Param) (ns : List (List ℕ)) (i : ℕ) → length ps ≤ i
    → unwrap_or (slice_get (param_names (map param_tree ps) ++ ns) i) [] ≡ unwrap_or (slice_get ns (i - length ps)) []
behind_params [] ns i h = let e : i ≡ i - 0 = omega arith in ap (λ (k : ℕ). unwrap_or (slice_get ns k) []) e
behind_params (p ∷ ps) ns zero h = absurd (omega (arith, h))
behind_params (p ∷ ps) ns (suc i) h =
    let e : i - length ps ≡ suc i - suc (length ps) = omega arith in
    behind_params ps ns i (omega (arith, h)) ∙ ap (λ (k : ℕ). unwrap_or (slice_get ns k) []) e

pub node_at : (ns : List Node) (i : ℕ) (n : Node) → i < length ns → n ≡ get_or ns i n
    → unwrap_or (slice_get (node_names (map node_tree ns)) i) [] ≡ (node_tree n).name
node_at [] i n h e = absurd (omega (arith, h))
node_at (m ∷ ns) zero n h e = ap (λ (x : Node). (node_tree x).name) (sym e)
node_at (m ∷ ns) (suc i) n h e = node_at ns i n (omega (arith, h)) e
