-- The lines of functions.
use Rattle.std.proofs.Common.{ℕ, List}
use Rattle.std.specs.List.{flat_map}
use Rattle.ae_seq.specs.ProgramTree.{FuncTree}
use Rattle.ae_says.specs.Says.{Line, func_said}

abbrev pub funcs_said : (funcs : List (List ℕ)) → List FuncTree → List Line
funcs_said funcs fs = flat_map (func_said funcs) fs
