-- The module that a text spells, and what can be counted in it.
use Rattle.std.specs.Prelude.{◌≡◌, ℕ, ◌+◌, List, sum_by}
use Rattle.std.specs.List.{AllByRecursion}
use Rattle.ae_vtoken.specs.Tokens.{AreTokens}
use Rattle.ae_vread.specs.Forms.{ModuleForm, module_tokens, module_of, IsItem}
use Rattle.ae_vmodule.specs.ModuleTree.{ExprTree, name, constant, place, part, index, unary, binary, choice, concat_one, concat_more, StmtTree, set, put, when, either, block_end, block_more, DriveTree, ItemTree, nets, assigns, always, ModuleTree}
use Rattle.ae_vmodule.specs.declared.module.BinOp.{BinOp}
use Rattle.ae_vmodule.specs.declared.module.BinOp.TheVariants.{Mul, Add, Sub, Shl, Shr, Lt, Le, Gt, Ge, Eq, Ne, And, Xor, Or, Both, Either}

-- the text is a form of the module, token by token
pub record Spells (text : List ℕ) (m : ModuleTree) : Type 0 where
  pub form : ModuleForm
  pub formed : AllByRecursion IsItem form.items
  pub written : AreTokens text (module_tokens form)
  pub tree : module_of form ≡ m

-- how many times a binary `*` stands in it
abbrev pub star : BinOp → ℕ
star Mul = 1
star Add = 0
star Sub = 0
star Shl = 0
star Shr = 0
star Lt = 0
star Le = 0
star Gt = 0
star Ge = 0
star Eq = 0
star Ne = 0
star And = 0
star Xor = 0
star Or = 0
star Both = 0
star Either = 0

abbrev pub expr_stars : ExprTree → ℕ
expr_stars (name n) = 0
expr_stars (constant size value fits) = 0
expr_stars (place n) = 0
expr_stars (part n high low) = 0
expr_stars (index n at) = expr_stars at
expr_stars (unary op a) = expr_stars a
expr_stars (binary op a b) = star op + (expr_stars a + expr_stars b)
expr_stars (choice test a b) = expr_stars test + (expr_stars a + expr_stars b)
expr_stars (concat_one a) = expr_stars a
expr_stars (concat_more a rest) = expr_stars a + expr_stars rest

abbrev pub stmt_stars : StmtTree → ℕ
stmt_stars (set n value) = expr_stars value
stmt_stars (put n at value) = expr_stars at + expr_stars value
stmt_stars (when test then) = expr_stars test + stmt_stars then
stmt_stars (either test then otherwise) = expr_stars test + (stmt_stars then + stmt_stars otherwise)
stmt_stars block_end = 0
stmt_stars (block_more first rest) = stmt_stars first + stmt_stars rest

abbrev pub drive_stars : DriveTree → ℕ
drive_stars d = expr_stars d.value

abbrev pub item_stars : ItemTree → ℕ
item_stars (nets drives) = sum_by drive_stars drives
item_stars (assigns drives) = sum_by drive_stars drives
item_stars (always clock body) = stmt_stars body

abbrev pub stars : ModuleTree → ℕ
stars m = sum_by item_stars m.items
