-- Weights up to a greatest one.
use Rattle.std.proofs.Common.{ℕ, ◌≡◌, ◌+◌, ◌<◌, ◌≤◌, List, [], ◌∷◌, ◌++◌, length, take, get_or, map, refl, sym, ap, ◌∙◌, arith}
use Rattle.std.specs.Prelude.{min, sum_by}
use Rattle.std.proofs.lemmas.List.{take_more, take_all}
use Rattle.std.proofs.lemmas.List.Sums.{sum_by-cons}
use Rattle.ae_vmodule.specs.ModuleTree.{StmtTree, set, put, when, either, block_end, block_more}
use Rattle.ae_judge.specs.Weight.{stmt_weight}

module _ {X Y : Type 0} (f : Y → ℕ) (g : X → Y) where
  pushed : (x : X) (ys : List X) → sum_by f (map g (ys ++ x ∷ [])) ≡ sum_by f (map g ys) + f (g x)
  pushed x [] = omega arith
  pushed x (y ∷ ys) = omega (arith, pushed x ys, sum_by-cons f (g y) (map g (ys ++ x ∷ [])), sum_by-cons f (g y) (map g ys))

  pub sum_next : (xs : List X) (i : ℕ) (d : X) → i < length xs → sum_by f (map g (take (i + 1) xs)) ≡ sum_by f (map g (take i xs)) + f (g (get_or xs i d))
  sum_next xs i d l = ap (λ ys. sum_by f (map g ys)) (take_more xs i d l) ∙ pushed (get_or xs i d) (take i xs)

  pub weight_next : (k : ℕ) (xs : List X) (i : ℕ) (d : X) (total part : ℕ) → i < length xs → total ≡ min (sum_by f (map g (take i xs))) k
      → part ≡ min (f (g (get_or xs i d))) k
      → min (total + part) k ≡ min (sum_by f (map g (take (i + 1) xs))) k
  weight_next k xs i d total part l t p = omega (arith, sum_next xs i d l)

  pub weight_end : (k : ℕ) (xs : List X) (n total : ℕ) → length xs ≤ n → total ≡ min (sum_by f (map g (take n xs))) k → total ≡ min (sum_by f (map g xs)) k
  weight_end k xs n total l t = t ∙ ap (λ ys. min (sum_by f (map g ys)) k) (take_all n xs l)

-- the count of `if` matters up to the greatest weight
pub ifs_capped : (k : ℕ) (s : StmtTree) (ifs : ℕ) → min (stmt_weight (min ifs k) s) k ≡ min (stmt_weight ifs s) k
ifs_capped k (set n value) ifs = omega arith
ifs_capped k (put n at value) ifs = omega arith
ifs_capped k (when test taken) ifs =
    let m : min (min ifs k + 1) k ≡ min (ifs + 1) k = omega arith in
    let t : min (stmt_weight (min ifs k + 1) taken) k ≡ min (stmt_weight (ifs + 1) taken) k =
    sym (ifs_capped k taken (min ifs k + 1)) ∙ ap (λ n. min (stmt_weight n taken) k) m ∙ ifs_capped k taken (ifs + 1) in
    omega (arith, t)
ifs_capped k (either test taken otherwise) ifs =
    let m : min (min ifs k + 1) k ≡ min (ifs + 1) k = omega arith in
    let t : min (stmt_weight (min ifs k + 1) taken) k ≡ min (stmt_weight (ifs + 1) taken) k =
    sym (ifs_capped k taken (min ifs k + 1)) ∙ ap (λ n. min (stmt_weight n taken) k) m ∙ ifs_capped k taken (ifs + 1) in
    let o : min (stmt_weight (min ifs k + 1) otherwise) k ≡ min (stmt_weight (ifs + 1) otherwise) k =
    sym (ifs_capped k otherwise (min ifs k + 1)) ∙ ap (λ n. min (stmt_weight n otherwise) k) m ∙ ifs_capped k otherwise (ifs + 1) in
    omega (arith, t, o)
ifs_capped k block_end ifs = refl
ifs_capped k (block_more first rest) ifs = omega (arith, ifs_capped k first ifs, ifs_capped k rest ifs)
