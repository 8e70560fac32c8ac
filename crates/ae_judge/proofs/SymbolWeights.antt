-- The symbols of an expression weigh what its tree does.
use Rattle.std.proofs.Common.{ℕ, ◌+◌, ◌≡◌, Bool, true, false, List, [], ◌∷◌, ◌++◌, length, append-nil, append_assoc, refl, ap, arith}
use Rattle.std.specs.Prelude.{if◌then◌else◌}
use Rattle.ae_vmodule.specs.Numbered as n
use Rattle.ae_vmodule.specs.Numbered.{NumberedExpr}
use Rattle.ae_vmodule.specs.Postfix.{coded}
use Rattle.ae_vmodule.specs.View.{expr_tree}
use Rattle.ae_vmodule.specs.declared.module.BinOp.{BinOp}
use Rattle.ae_vmodule.specs.declared.module.BinOp.TheVariants as op
use Rattle.ae_vmodule.specs.declared.symbols.Symbol.{Symbol}
use Rattle.ae_vmodule.specs.declared.symbols.Symbol.TheVariants.{Index, Unary, Binary, Choose, One, More}
use Rattle.ae_judge.specs.Faults.{is_place}
use Rattle.ae_judge.specs.Symbols.{symbols_weight, weight_by}
use Rattle.ae_judge.specs.Weight.{expr_weight, operator_weight}

module _ (ws : List (List ℕ)) where
  abbrev heavy : NumberedExpr → ℕ
  heavy t = expr_weight (expr_tree ws t)

  abbrev placed_by : NumberedExpr → Bool
  placed_by t = is_place (expr_tree ws t)

  abbrev one_if : Bool → ℕ
  one_if b = if b then 1 else 0

  abbrev fixed_by : NumberedExpr → Bool
  fixed_by (n.name k) = false
  fixed_by (n.constant size value fits) = true
  fixed_by (n.place p) = false
  fixed_by (n.part k high low) = false
  fixed_by (n.index k at) = false
  fixed_by (n.unary o a) = false
  fixed_by (n.binary o a b) = false
  fixed_by (n.choice test a b) = false
  fixed_by (n.concat_one a) = false
  fixed_by (n.concat_more a rest) = false

  -- what is known of the weight before the symbol behind the last is
  abbrev known : NumberedExpr → ℕ
  known (n.name k) = 0
  known (n.constant size value fits) = 1
  known (n.place p) = 0
  known (n.part k high low) = 1
  known (n.index k at) = heavy (n.index k at)
  known (n.unary o a) = heavy (n.unary o a)
  known (n.binary o a b) = heavy (n.binary o a b)
  known (n.choice test a b) = heavy (n.choice test a b)
  known (n.concat_one a) = heavy (n.concat_one a)
  known (n.concat_more a rest) = heavy (n.concat_more a rest)

  whole : (t : NumberedExpr) → known t + one_if (placed_by t) ≡ heavy t
  whole (n.name k) = omega arith
  whole (n.constant size value fits) = omega arith
  whole (n.place p) = omega arith
  whole (n.part k high low) = omega arith
  whole (n.index k at) = omega arith
  whole (n.unary o a) = omega arith
  whole (n.binary o a b) = omega arith
  whole (n.choice test a b) = omega arith
  whole (n.concat_one a) = omega arith
  whole (n.concat_more a rest) = omega arith

  shift : (t : NumberedExpr) → operator_weight op.Shl (expr_tree ws t) ≡ (if fixed_by t then 1 else 6)
  shift (n.name k) = refl
  shift (n.constant size value fits) = refl
  shift (n.place p) = refl
  shift (n.part k high low) = refl
  shift (n.index k at) = refl
  shift (n.unary o a) = refl
  shift (n.binary o a b) = refl
  shift (n.choice test a b) = refl
  shift (n.concat_one a) = refl
  shift (n.concat_more a rest) = refl

  by_last : (o : BinOp) (t : NumberedExpr) → operator_weight o (expr_tree ws t) ≡ weight_by (fixed_by t) o
  by_last op.Mul t = refl
  by_last op.Add t = refl
  by_last op.Sub t = refl
  by_last op.Shl t = shift t
  by_last op.Shr t = shift t
  by_last op.Lt t = refl
  by_last op.Le t = refl
  by_last op.Gt t = refl
  by_last op.Ge t = refl
  by_last op.Eq t = refl
  by_last op.Ne t = refl
  by_last op.And t = refl
  by_last op.Xor t = refl
  by_last op.Or t = refl
  by_last op.Both t = refl
  by_last op.Either t = refl

  -- the symbols of an expression, and those behind them
  pub weight_front : (placed fixed : Bool) (t : NumberedExpr) (rest : List Symbol)
      → symbols_weight placed fixed (coded t ++ rest)
      ≡ one_if placed + known t + symbols_weight (placed_by t) (fixed_by t) rest
  weight_front placed fixed (n.name k) rest = omega arith
  weight_front placed fixed (n.constant size value fits) rest = omega arith
  weight_front placed fixed (n.place p) rest = omega arith
  weight_front placed fixed (n.part k high low) rest = omega arith
  weight_front placed fixed (n.index k at) rest =
      omega (
        arith,
        ap (symbols_weight placed fixed) (append_assoc (coded at) (Index k ∷ []) rest),
        weight_front placed fixed at (Index k ∷ rest),
        whole at,
      )
  weight_front placed fixed (n.unary o a) rest =
      omega (
        arith,
        ap (symbols_weight placed fixed) (append_assoc (coded a) (Unary o ∷ []) rest),
        weight_front placed fixed a (Unary o ∷ rest),
        whole a,
      )
  weight_front placed fixed (n.binary o a b) rest =
      let last = Binary o (length (coded b)) in
      omega (
        arith,
        ap (symbols_weight placed fixed) (append_assoc (coded a) (coded b ++ last ∷ []) rest),
        weight_front placed fixed a ((coded b ++ last ∷ []) ++ rest),
        whole a,
        ap (symbols_weight (placed_by a) (fixed_by a)) (append_assoc (coded b) (last ∷ []) rest),
        weight_front (placed_by a) (fixed_by a) b (last ∷ rest),
        whole b,
        by_last o b,
      )
  weight_front placed fixed (n.choice test a b) rest =
      let last = Choose (length (coded a)) (length (coded b)) in
      omega (
        arith,
        ap (symbols_weight placed fixed) (append_assoc (coded test) (coded a ++ (coded b ++ last ∷ [])) rest),
        weight_front placed fixed test ((coded a ++ (coded b ++ last ∷ [])) ++ rest),
        whole test,
        ap (symbols_weight (placed_by test) (fixed_by test)) (append_assoc (coded a) (coded b ++ last ∷ []) rest),
        weight_front (placed_by test) (fixed_by test) a ((coded b ++ last ∷ []) ++ rest),
        whole a,
        ap (symbols_weight (placed_by a) (fixed_by a)) (append_assoc (coded b) (last ∷ []) rest),
        weight_front (placed_by a) (fixed_by a) b (last ∷ rest),
        whole b,
      )
  weight_front placed fixed (n.concat_one a) rest =
      omega (
        arith,
        ap (symbols_weight placed fixed) (append_assoc (coded a) (One ∷ []) rest),
        weight_front placed fixed a (One ∷ rest),
        whole a,
      )
  weight_front placed fixed (n.concat_more a b) rest =
      let last = More (length (coded b)) in
      omega (
        arith,
        ap (symbols_weight placed fixed) (append_assoc (coded a) (coded b ++ last ∷ []) rest),
        weight_front placed fixed a ((coded b ++ last ∷ []) ++ rest),
        whole a,
        ap (symbols_weight (placed_by a) (fixed_by a)) (append_assoc (coded b) (last ∷ []) rest),
        weight_front (placed_by a) (fixed_by a) b (last ∷ rest),
        whole b,
      )

  pub weight_coded : (t : NumberedExpr) → symbols_weight false false (coded t) ≡ heavy t
  weight_coded t = omega (arith, ap (symbols_weight false false) (append-nil (coded t)), weight_front false false t [], whole t)
