-- An expression without selects, concatenations and constants that do not fit keeps its bounds.
use Rattle.std.proofs.Common.{ℕ, ◌≡◌, Bool, true, false, not, ◌||◌, List, [], ◌∷◌, ◌++◌, length, refl, sym, ◌∙◌}
use Rattle.std.specs.List.{list_any}
use Rattle.std.proofs.lemmas.Bool.{or_from, or_parts}
use Rattle.ae_vmodule.specs.Numbered as n
use Rattle.ae_vmodule.specs.Numbered.{NumberedExpr}
use Rattle.ae_vmodule.specs.ModuleTree.{NetTree}
use Rattle.ae_vmodule.specs.Postfix.{coded}
use Rattle.ae_vmodule.specs.View.{expr_tree}
use Rattle.ae_vmodule.specs.declared.symbols.Symbol.{Symbol}
use Rattle.ae_vmodule.specs.declared.symbols.Symbol.TheVariants.{Index, Unary, Binary, Choose, One, More}
use Rattle.ae_judge.specs.Faults.{is_too_wide}
use Rattle.ae_judge.specs.Symbols.{is_bounded}
use Rattle.ae_judge.proofs.Loops.{or_false}
use Rattle.ae_judge.proofs.PlaceLemmas.{any_append}

abbrev has_bounds : List Symbol → Bool
has_bounds ss = list_any is_bounded ss

split : (xs ys : List Symbol) → has_bounds (xs ++ ys) ≡ false → (has_bounds xs ≡ false) × (has_bounds ys ≡ false)
split xs ys h = or_parts (has_bounds xs) (has_bounds ys) (sym (any_append is_bounded xs ys) ∙ h)

module _ (ns : List NetTree) (ws : List (List ℕ)) where
  pub narrow : (t : NumberedExpr) → has_bounds (coded t) ≡ false → is_too_wide ns (expr_tree ws t) ≡ false
  narrow (n.name k) h = refl
  narrow (n.constant size value fits) h = sym (or_false (not fits)) ∙ h
  narrow (n.place p) h = refl
  narrow (n.part k high low) h = absurd (let e : true ≡ false = h in cc)
  narrow (n.index k at) h = absurd (let e : true ≡ false = (split (coded at) (Index k ∷ []) h).1 in cc)
  narrow (n.unary op a) h = narrow a (split (coded a) (Unary op ∷ []) h).0
  narrow (n.binary op a b) h =
      let p = split (coded a) (coded b ++ Binary op (length (coded b)) ∷ []) h in
      or_from (is_too_wide ns (expr_tree ws a)) (is_too_wide ns (expr_tree ws b)) (narrow a p.0)
      (narrow b (split (coded b) (Binary op (length (coded b)) ∷ []) p.1).0)
  narrow (n.choice test a b) h =
      let last = Choose (length (coded a)) (length (coded b)) ∷ [] in
      let p = split (coded test) (coded a ++ (coded b ++ last)) h in
      let q = split (coded a) (coded b ++ last) p.1 in
      or_from (is_too_wide ns (expr_tree ws test)) (is_too_wide ns (expr_tree ws a) || is_too_wide ns (expr_tree ws b)) (narrow test p.0)
      (or_from (is_too_wide ns (expr_tree ws a)) (is_too_wide ns (expr_tree ws b)) (narrow a q.0) (narrow b (split (coded b) last q.1).0))
  narrow (n.concat_one a) h = absurd (let e : true ≡ false = (split (coded a) (One ∷ []) h).1 in cc)
  narrow (n.concat_more a rest) h =
      let last = More (length (coded rest)) ∷ [] in
      absurd (let e : true ≡ false = (split (coded rest) last (split (coded a) (coded rest ++ last) h).1).1 in cc)
