use Rattle.std.proofs.Common.{◌≡◌, ◌++◌, map, drop}
use Rattle.ae_sttype.specs.StTree.{st_tree}
use Rattle.ae_compile.proofs.layouts.input_layouts.Given as goal

abbrev pub invariant-loop-ty : goal.invariant-loop-ty
invariant-loop-ty l = map st_tree l.layouts.items ++ map st_tree (drop l.ty-index l.ty-items) ≡ map st_tree l.ty-items
