-- The widths of the parts of concatenations, in the order in which they are asked for where an expression becomes cells.
use Rattle.std.specs.Prelude.{◌≡◌, ℕ, List, [], ◌∷◌, ◌++◌}
use Rattle.ae_vmodule.specs.ModuleTree.{ExprTree, name, constant, place, part, index, unary, binary, choice, concat_one, concat_more, NetTree}
use Rattle.ae_judge.specs.Widths.{own_width}

-- the own width of each part of a concatenation; the last in the list is asked for first: each part's before those inside
-- it, and these before those of what stands to its right
abbrev pub part_widths : List NetTree → ExprTree → List ℕ
part_widths ns (name n) = []
part_widths ns (constant size value fits) = []
part_widths ns (place k) = []
part_widths ns (part n high low) = []
part_widths ns (index n at) = part_widths ns at
part_widths ns (unary op a) = part_widths ns a
part_widths ns (binary op a b) = part_widths ns b ++ part_widths ns a
part_widths ns (choice test a b) = part_widths ns b ++ part_widths ns a ++ part_widths ns test
part_widths ns (concat_one a) = part_widths ns a ++ own_width ns a ∷ []
part_widths ns (concat_more a rest) = part_widths ns rest ++ (part_widths ns a ++ own_width ns a ∷ [])

-- a list ends with these
pub record EndsWith (xs ys : List ℕ) : Type 0 where
  pub before : List ℕ
  pub whole : xs ≡ before ++ ys
