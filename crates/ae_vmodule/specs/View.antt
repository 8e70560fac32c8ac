-- The tree of a module of the code: its names stand by their numbers among the different names of its text.
use Rattle.std.specs.Prelude.{ℕ, List, [], get_or, map}
use Rattle.ae_vmodule.specs.ModuleTree as m
use Rattle.ae_vmodule.specs.ModuleTree.{ExprTree, StmtTree, NetTree, DriveTree, ItemTree, ModuleTree}
use Rattle.ae_vmodule.specs.Numbered as n
use Rattle.ae_vmodule.specs.Numbered.{NumberedExpr, NumberedStmt}
use Rattle.ae_vmodule.specs.Items.{nets, assigns, always}
use Rattle.ae_vmodule.specs.Postfix.{decoded_stmt}
use Rattle.ae_vmodule.specs.Roots.{code_expr}
use Rattle.ae_vmodule.specs.declared.module.VNet.{VNet}
use Rattle.ae_vmodule.specs.declared.module.Drive.{Drive}
use Rattle.ae_vmodule.specs.declared.items.VItem.{VItem}
use Rattle.ae_vmodule.specs.declared.module.VModule.{VModule}

-- the name of a number
abbrev pub word_at : List (List ℕ) → ℕ → List ℕ
word_at ws k = get_or ws k []

-- an expression with its names
abbrev pub expr_tree : List (List ℕ) → NumberedExpr → ExprTree
expr_tree ws (n.name k) = m.name (word_at ws k)
expr_tree ws (n.constant size value fits) = m.constant size value fits
expr_tree ws (n.place p) = m.place p
expr_tree ws (n.part k high low) = m.part (word_at ws k) high low
expr_tree ws (n.index k at) = m.index (word_at ws k) (expr_tree ws at)
expr_tree ws (n.unary op a) = m.unary op (expr_tree ws a)
expr_tree ws (n.binary op a b) = m.binary op (expr_tree ws a) (expr_tree ws b)
expr_tree ws (n.choice test a b) = m.choice (expr_tree ws test) (expr_tree ws a) (expr_tree ws b)
expr_tree ws (n.concat_one a) = m.concat_one (expr_tree ws a)
expr_tree ws (n.concat_more a rest) = m.concat_more (expr_tree ws a) (expr_tree ws rest)

-- a statement with its names
abbrev pub stmt_tree : List (List ℕ) → NumberedStmt → StmtTree
stmt_tree ws (n.set k value) = m.set (word_at ws k) (expr_tree ws value)
stmt_tree ws (n.put k at value) = m.put (word_at ws k) (expr_tree ws at) (expr_tree ws value)
stmt_tree ws (n.when test then) = m.when (expr_tree ws test) (stmt_tree ws then)
stmt_tree ws (n.either test then otherwise) = m.either (expr_tree ws test) (stmt_tree ws then) (stmt_tree ws otherwise)
stmt_tree ws n.block_end = m.block_end
stmt_tree ws (n.block_more first rest) = m.block_more (stmt_tree ws first) (stmt_tree ws rest)

abbrev pub net_tree : List (List ℕ) → VNet → NetTree
net_tree ws v = record { name = word_at ws v.name; width = v.width; ranged = v.ranged; kind = v.kind; item = v.item }

abbrev pub drive_tree : List (List ℕ) → Drive → DriveTree
drive_tree ws d = record { name = word_at ws d.name; value = expr_tree ws (code_expr d.value) }

abbrev pub item_tree : List (List ℕ) → VItem → ItemTree
item_tree ws (nets drives) = m.nets (map (drive_tree ws) drives)
item_tree ws (assigns drives) = m.assigns (map (drive_tree ws) drives)
item_tree ws (always clock body) = m.always (word_at ws clock) (stmt_tree ws (decoded_stmt body))

abbrev pub module_tree : VModule → ModuleTree
module_tree v =
    record {
      name = word_at v.words v.name;
      nets = map (net_tree v.words) v.nets.items;
      items = map (item_tree v.words) v.items.items;
    }
