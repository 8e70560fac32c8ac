-- Names that were seen.
use Rattle.std.specs.Prelude.{ℕ, ◌≡◌, Bool, List, Some, is_some, length, map, slice_get}
use Rattle.ae_vmodule.specs.ModuleTree.{NetTree}
use Rattle.ae_vmodule.specs.View.{word_at}
use Rattle.ae_judge.specs.Places.{Entry, place_in, place_named}
use Rattle.ae_judge.specs.Table.{NameTable}

-- the names of a table that were seen, as entries
pub record SeenNames : Type 0 where
  pub table : NameTable
  pub entries : List Entry

-- names by their numbers, as entries
abbrev pub entries_of : List (List ℕ) → List ℕ → List Entry
entries_of ws ks = map (λ (k : ℕ). (word_at ws k, 0)) ks

-- the place of a declared name is marked where the name is among these
pub record AreMarked (ns : List NetTree) (es : List Entry) (marks : List Bool) : Type 0 where
  pub long : length marks ≡ length ns
  pub each : (n : List ℕ) (p : ℕ) → place_named ns n ≡ Some p → slice_get marks p ≡ Some (is_some (place_in es n))
