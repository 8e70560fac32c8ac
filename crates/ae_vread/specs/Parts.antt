-- Parts of a concatenation, one behind the other.
use Rattle.std.specs.Prelude.{◌≡◌, ℕ, zero, suc, ◌≤◌, List, [], ◌∷◌, length, map}
use Rattle.ae_vtoken.specs.Ahead.{ahead}
use Rattle.ae_vmodule.specs.ModuleTree.{ExprTree}
use Rattle.ae_vmodule.specs.Numbered.{NumberedExpr, Piece, expr, place, concat_one, concat_more}
use Rattle.ae_vmodule.specs.Postfix.{step}
use Rattle.ae_vmodule.specs.Held.{held}
use Rattle.ae_vmodule.specs.Words.{Extends}
use Rattle.ae_vread.specs.Reading.{Parts}
use Rattle.ae_vmodule.specs.View.{expr_tree}
use Rattle.ae_vmodule.specs.declared.symbols.Symbol.TheVariants.{One, More}
use Rattle.ae_vread.specs.declared.reading.Reader.{Reader}

-- expressions on top of pieces, the last on top
abbrev pub pushed : List NumberedExpr → List Piece → List Piece
pushed [] below = below
pushed (p ∷ ps) below = pushed ps (expr p ∷ below)

-- their concatenation
abbrev pub concat_parts : List NumberedExpr → NumberedExpr
concat_parts [] = place 0
concat_parts (p ∷ []) = concat_one p
concat_parts (p ∷ q ∷ ps) = concat_more p (concat_parts (q ∷ ps))

abbrev pub HasParts : ℕ → List Piece → Type 0
HasParts count pieces =
    (ps : List NumberedExpr) × (below : List Piece) × (1 ≤ count) × (length ps ≡ count) × (pieces ≡ pushed ps below)

-- the concatenation of the last so many expressions and one
abbrev pub gather : ℕ → List Piece → List Piece
gather zero pieces = step One pieces
gather (suc n) pieces = step (More 0) (gather n pieces)

-- the expressions have these trees, whatever names are still to come
abbrev pub MeanAll : List (List ℕ) → List NumberedExpr → List ExprTree → Type 0
MeanAll words ps trees = (ws : List (List ℕ)) → Extends words ws → map (expr_tree ws) ps ≡ trees

-- the parts that were read stand on top of other pieces
pub record HoldsParts (below : List Piece) (r : Reader) (depth count : ℕ) (p : Parts) : Type 0 where
  pub exprs : List NumberedExpr
  pub many : length exprs ≡ count
  pub pieces : held r.stack ≡ pushed exprs below
  pub means : MeanAll r.words exprs p.trees
  pub deep : depth ≡ p.depth
  pub rest : ahead r.tokens ≡ p.rest
