-- The names of a text, and what a module declares them as.
use Rattle.std.specs.Prelude.{ℕ, List, map}
use Rattle.ae_vmodule.specs.ModuleTree.{NetTree}
use Rattle.ae_vmodule.specs.View.{net_tree}
use Rattle.ae_vmodule.specs.declared.module.VNet.{VNet}

pub record NameTable : Type 0 where
  -- the names, by their numbers
  pub words : List (List ℕ)
  pub nets : List NetTree

abbrev pub table_of : List (List ℕ) → List VNet → NameTable
table_of ws vs = record { words = ws; nets = map (net_tree ws) vs }
