-- The expressions that have a value, and those whose names have their nets.
use Rattle.std.specs.Prelude.{◌≡◌, ℕ, ◌+◌, ◌^◌, ◌<◌, ◌≤◌, Bool, true, false, if◌then◌else◌, List, length, Option}
use Rattle.ae_netlist.specs.declared.cell.NetId.{NetId}
use Rattle.ae_vmodule.specs.ModuleTree.{ExprTree, name, constant, place, part, index, unary, binary, choice, concat_one, concat_more, NetTree}
use Rattle.ae_judge.specs.Names.{is_memory_name, depth_of}
use Rattle.ae_judge.specs.Widths.{declared_width, own_width}
use Rattle.ae_judge.specs.Faults.{is_place}
use Rattle.ae_runs.specs.Named.{IsNamed, IsReady}

-- a declared name that is no memory and has letters
pub record IsWordName (ns : List NetTree) (n : List ℕ) : Type 0 where
  pub named : IsNamed ns n
  pub word : is_memory_name ns n ≡ false
  pub letters : 1 ≤ length n

abbrev pub place_number : ExprTree → ℕ
place_number (place k) = k
place_number _ = 0

-- how many places a name has: a memory its words, and another name its bits
abbrev pub places_of : List NetTree → List ℕ → ℕ
places_of ns n = if is_memory_name ns n then depth_of ns n else declared_width ns n

-- an address that may vary is one of a memory that has room for all its words
pub record IsVarying (ns : List NetTree) (n : List ℕ) (own : ℕ) (Sound : Type 0) : Type 0 where
  pub memory : is_memory_name ns n ≡ true
  pub inside : 2 ^ own ≤ depth_of ns n
  pub sound : Sound

abbrev pub IsSoundIndex : Bool → (ns : List NetTree) (n : List ℕ) (k own : ℕ) (Sound : Type 0) → Type 0
IsSoundIndex true ns n k own Sound = k < places_of ns n
IsSoundIndex false ns n k own Sound = IsVarying ns n own Sound

-- each name is declared and used as its kind allows, constants fit, and selects lie inside
abbrev pub IsSound : List NetTree → ExprTree → Type 0
IsSound ns (name n) = IsWordName ns n
IsSound ns (constant size value fits) = (1 ≤ size) × (size ≤ 64) × (value < 2 ^ size)
IsSound ns (place k) = ⊥
IsSound ns (part n high low) = IsWordName ns n × (low ≤ high) × (high < declared_width ns n)
IsSound ns (index n at) =
    IsNamed ns n × IsSoundIndex (is_place at) ns n (place_number at) (own_width ns at) (IsSound ns at)
IsSound ns (unary op a) = IsSound ns a
IsSound ns (binary op a b) = IsSound ns a × IsSound ns b
IsSound ns (choice test a b) = IsSound ns test × IsSound ns a × IsSound ns b
IsSound ns (concat_one a) = IsSound ns a
IsSound ns (concat_more a rest) = IsSound ns a × IsSound ns rest × (own_width ns a + own_width ns rest ≤ 64)

-- each name that is read has its net
abbrev pub IsReadyFor : List NetTree → List (Option NetId) → ExprTree → Type 0
IsReadyFor ns nets (name n) = IsReady ns nets n
IsReadyFor ns nets (constant size value fits) = Unit {0}
IsReadyFor ns nets (place k) = Unit {0}
IsReadyFor ns nets (part n high low) = IsReady ns nets n
IsReadyFor ns nets (index n at) = IsReady ns nets n × IsReadyFor ns nets at
IsReadyFor ns nets (unary op a) = IsReadyFor ns nets a
IsReadyFor ns nets (binary op a b) = IsReadyFor ns nets a × IsReadyFor ns nets b
IsReadyFor ns nets (choice test a b) = IsReadyFor ns nets test × IsReadyFor ns nets a × IsReadyFor ns nets b
IsReadyFor ns nets (concat_one a) = IsReadyFor ns nets a
IsReadyFor ns nets (concat_more a rest) = IsReadyFor ns nets a × IsReadyFor ns nets rest
