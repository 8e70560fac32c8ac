-- An expression and a statement by their outermost parts.
use Rattle.ae_vmodule.specs.Numbered as n
use Rattle.ae_vmodule.specs.Numbered.{NumberedExpr, NumberedStmt}
use Rattle.ae_vmodule.specs.Listed.{listed}
use Rattle.ae_vmodule.specs.Postfix.{decoded, decoded_stmt}
use Rattle.ae_vmodule.specs.declared.symbols.Code.{Code}
use Rattle.ae_vmodule.specs.declared.symbols.StmtCode.{StmtCode}
use Rattle.ae_vmodule.specs.declared.symbols.Expr.{Expr}
use Rattle.ae_vmodule.specs.declared.symbols.Stmt.{Stmt}
use Rattle.ae_vmodule.specs.declared.symbols.Root.{Root}
use Rattle.ae_vmodule.specs.declared.symbols.Root.TheVariants.{Name, Const, Place, Part, Index, Unary, Binary, Choose, One, More}
use Rattle.ae_vmodule.specs.declared.symbols.StmtRoot as s
use Rattle.ae_vmodule.specs.declared.symbols.StmtRoot.TheVariants.{Set, Put, When, Either, End, Then}

abbrev pub code_expr : Code → NumberedExpr
code_expr c = decoded (listed c.symbols)

abbrev pub code_stmt : StmtCode → NumberedStmt
code_stmt c = decoded_stmt (listed c.symbols)

abbrev pub numbered : Expr → NumberedExpr
numbered e = decoded e.symbols.now

abbrev pub numbered_stmt : Stmt → NumberedStmt
numbered_stmt s = decoded_stmt s.symbols.now

abbrev pub root_expr : Root → NumberedExpr
root_expr (Name k) = n.name k
root_expr (Const size value fits) = n.constant size value fits
root_expr (Place p) = n.place p
root_expr (Part k high low) = n.part k high low
root_expr (Index k at) = n.index k (numbered at)
root_expr (Unary op a) = n.unary op (numbered a)
root_expr (Binary op a b) = n.binary op (numbered a) (numbered b)
root_expr (Choose test a b) = n.choice (numbered test) (numbered a) (numbered b)
root_expr (One a) = n.concat_one (numbered a)
root_expr (More a rest) = n.concat_more (numbered a) (numbered rest)

abbrev pub root_stmt : s.StmtRoot → NumberedStmt
root_stmt (Set k value) = n.set k (numbered value)
root_stmt (Put k at value) = n.put k (numbered at) (numbered value)
root_stmt (When test then) = n.when (numbered test) (numbered_stmt then)
root_stmt (Either test then otherwise) = n.either (numbered test) (numbered_stmt then) (numbered_stmt otherwise)
root_stmt End = n.block_end
root_stmt (Then first rest) = n.block_more (numbered_stmt first) (numbered_stmt rest)
