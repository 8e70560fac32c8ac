-- The weight of a module, which bounds how large a netlist of it is.
use Rattle.std.specs.Prelude.{ℕ, ◌+◌, length, sum_by}
use Rattle.ae_vmodule.specs.declared.module.BinOp.{BinOp}
use Rattle.ae_vmodule.specs.declared.module.BinOp.TheVariants.{Mul, Add, Sub, Shl, Shr, Lt, Le, Gt, Ge, Eq, Ne, And, Xor, Or, Both, Either}
use Rattle.ae_vmodule.specs.ModuleTree.{ExprTree, name, constant, place, part, index, unary, binary, choice, concat_one, concat_more, StmtTree, set, put, when, either, block_end, block_more, DriveTree, ItemTree, nets, assigns, always, ModuleTree}

-- a shift by no constant stands for six shifts by a constant, each with a choice
abbrev pub shift_weight : ExprTree → ℕ
shift_weight (constant size value fits) = 1
shift_weight _ = 6

abbrev pub operator_weight : BinOp → ExprTree → ℕ
operator_weight Mul amount = 1
operator_weight Add amount = 1
operator_weight Sub amount = 1
operator_weight Shl amount = shift_weight amount
operator_weight Shr amount = shift_weight amount
operator_weight Lt amount = 1
operator_weight Le amount = 1
operator_weight Gt amount = 1
operator_weight Ge amount = 1
operator_weight Eq amount = 1
operator_weight Ne amount = 1
operator_weight And amount = 1
operator_weight Xor amount = 1
operator_weight Or amount = 1
operator_weight Both amount = 1
operator_weight Either amount = 1

abbrev pub expr_weight : ExprTree → ℕ
expr_weight (name n) = 0
expr_weight (constant size value fits) = 1
expr_weight (place k) = 1
expr_weight (part n high low) = 1
expr_weight (index n at) = 1 + expr_weight at
expr_weight (unary op a) = 1 + expr_weight a
expr_weight (binary op a b) = operator_weight op b + (expr_weight a + expr_weight b)
expr_weight (choice test a b) = 1 + (expr_weight test + (expr_weight a + expr_weight b))
expr_weight (concat_one a) = 1 + expr_weight a
expr_weight (concat_more a rest) = 1 + (expr_weight a + expr_weight rest)

-- a statement with so many `if` round it
abbrev pub stmt_weight : ℕ → StmtTree → ℕ
stmt_weight ifs (set n value) = 1 + ifs + expr_weight value
stmt_weight ifs (put n at value) = 1 + ifs + (expr_weight at + expr_weight value)
stmt_weight ifs (when test taken) = 1 + (expr_weight test + stmt_weight (ifs + 1) taken)
stmt_weight ifs (either test taken otherwise) =
    1 + (expr_weight test + (stmt_weight (ifs + 1) taken + stmt_weight (ifs + 1) otherwise))
stmt_weight ifs block_end = 0
stmt_weight ifs (block_more first rest) = stmt_weight ifs first + stmt_weight ifs rest

abbrev pub drive_weight : DriveTree → ℕ
drive_weight d = 1 + expr_weight d.value

abbrev pub item_weight : ItemTree → ℕ
item_weight (nets drives) = sum_by drive_weight drives
item_weight (assigns drives) = sum_by drive_weight drives
item_weight (always clock body) = stmt_weight 0 body

-- the weight of a module, with one for each declared name
abbrev pub weight : ModuleTree → ℕ
weight m = length m.nets + sum_by item_weight m.items
