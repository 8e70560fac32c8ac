-- How wide names and expressions are by themselves.
use Rattle.std.specs.Prelude.{ℕ, ◌+◌, ◌-◌, max, if◌then◌else◌, List, Option, Some, None}
use Rattle.ae_vmodule.specs.declared.module.UnOp.{UnOp}
use Rattle.ae_vmodule.specs.declared.module.UnOp.TheVariants.{Not, Flip}
use Rattle.ae_vmodule.specs.declared.module.BinOp.{BinOp}
use Rattle.ae_vmodule.specs.declared.module.BinOp.TheVariants.{Mul, Add, Sub, Shl, Shr, Lt, Le, Gt, Ge, Eq, Ne, And, Xor, Or, Both, Either}
use Rattle.ae_vmodule.specs.ModuleTree.{ExprTree, name, constant, place, part, index, unary, binary, choice, concat_one, concat_more, NetTree}
use Rattle.ae_judge.specs.Names.{net_named, is_memory_name}

abbrev pub declared_width_in : Option NetTree → ℕ
declared_width_in None = 0
declared_width_in (Some x) = x.width

-- the width with which a name is declared; a memory's is that of its words
abbrev pub declared_width : List NetTree → List ℕ → ℕ
declared_width ns n = declared_width_in (net_named ns n)

abbrev pub unary_width : UnOp → ℕ → ℕ
unary_width Not a = 1
unary_width Flip a = a

-- the own width of an operator, where a and b are those of its operands
abbrev pub binary_width : BinOp → (a b : ℕ) → ℕ
binary_width Mul a b = max a b
binary_width Add a b = max a b
binary_width Sub a b = max a b
binary_width Shl a b = a
binary_width Shr a b = a
binary_width Lt a b = 1
binary_width Le a b = 1
binary_width Gt a b = 1
binary_width Ge a b = 1
binary_width Eq a b = 1
binary_width Ne a b = 1
binary_width And a b = max a b
binary_width Xor a b = max a b
binary_width Or a b = max a b
binary_width Both a b = 1
binary_width Either a b = 1

-- the own width of an expression
abbrev pub own_width : List NetTree → ExprTree → ℕ
own_width ns (name n) = declared_width ns n
own_width ns (constant size value fits) = size
own_width ns (place k) = 0
own_width ns (part n high low) = high - low + 1
own_width ns (index n at) = if is_memory_name ns n then declared_width ns n else 1
own_width ns (unary op a) = unary_width op (own_width ns a)
own_width ns (binary op a b) = binary_width op (own_width ns a) (own_width ns b)
own_width ns (choice test a b) = max (own_width ns a) (own_width ns b)
own_width ns (concat_one a) = own_width ns a
own_width ns (concat_more a rest) = own_width ns a + own_width ns rest
