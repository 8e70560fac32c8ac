-- The module of a circuit between two channels, under its name.
use Rattle.std.specs.Prelude.{◌≡◌, ℕ, ◌≤◌, IsTrue, List, Some, length}
use Rattle.std.specs.List.{list_all}
use Rattle.ae_vtoken.specs.Tokens.{Name, token_of}
use Rattle.ae_vmodule.specs.ModuleTree.{ModuleTree}
use Rattle.ae_verilog.specs.ReportLines.{is_clean}

-- a name that a module can have: a word of the profile that is not reserved, without `$`, and as long as every tool takes
-- names (IEEE 1364-2001, 2.7)
pub record IsModuleName (title : List ℕ) : Type 0 where
  pub token : token_of title ≡ Some (Name title)
  pub clean : IsTrue (list_all is_clean title)
  pub short : length title ≤ 1024

-- a module under another name
abbrev pub renamed : (title : List ℕ) → ModuleTree → ModuleTree
renamed title m = record { name = title; nets = m.nets; items = m.items }
