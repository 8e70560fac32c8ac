-- The value of a constant.
use Rattle.std.specs.Prelude.{◌≡◌, ℕ}
use Rattle.ae_vmodule.specs.ModuleTree.{ExprTree, constant}

abbrev pub IsConstantOf : ℕ → ExprTree → Type 0
IsConstantOf k (constant size value fits) = k ≡ value
IsConstantOf k _ = ⊥
