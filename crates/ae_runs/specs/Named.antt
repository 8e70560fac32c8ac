-- The declared names of a module by their places, and the nets that stand for them.
use Rattle.std.specs.Prelude.{◌≡◌, ℕ, ◌+◌, ◌≤◌, if◌then◌else◌, List, [], ◌∷◌, length, Option, Some, slice_get, bytes_eq}
use Rattle.ae_netlist.specs.declared.cell.NetId.{NetId}
use Rattle.ae_netlist.specs.declared.cell.SizedCell.{SizedCell}
use Rattle.ae_netlist.specs.Circuit.{IsNet, IsMemory}
use Rattle.ae_netlist.specs.Runs.{Clock, word_at, store_at}
use Rattle.ae_vmodule.specs.declared.module.NetKind.{NetKind}
use Rattle.ae_vmodule.specs.declared.module.NetKind.TheVariants.{Input, Wire, OutWire, Reg, OutReg, Memory}
use Rattle.ae_vmodule.specs.ModuleTree.{NetTree}
use Rattle.ae_judge.specs.Names.{net_named, depth_of_kind}
use Rattle.ae_runs.specs.Values.{ModuleClock}

-- the place of a name's declaration, the first where there are more
unfoldable pub place_of : List NetTree → List ℕ → ℕ
place_of [] n = 0
place_of (x ∷ xs) n = if bytes_eq x.name n then 0 else place_of xs n + 1

-- the name is declared, at a width and a depth that are allowed
pub record IsNamed (ns : List NetTree) (n : List ℕ) : Type 0 where
  pub net : NetTree
  pub found : net_named ns n ≡ Some net
  pub only : (p : ℕ) (x : NetTree) → slice_get ns p ≡ Some x → x.name ≡ n → place_of ns n ≡ p
  pub at : slice_get ns (place_of ns n) ≡ Some net
  pub low : 1 ≤ net.width
  pub high : net.width ≤ 64
  pub deep : depth_of_kind net.kind ≤ 65536

-- what stands for a name of this kind
abbrev pub StandsFor : NetKind → List SizedCell → (net width : ℕ) → Type 0
StandsFor Input cells net width = IsNet cells net width
StandsFor Wire cells net width = IsNet cells net width
StandsFor OutWire cells net width = IsNet cells net width
StandsFor Reg cells net width = IsNet cells net width
StandsFor OutReg cells net width = IsNet cells net width
StandsFor (Memory depth) cells net width = IsMemory cells net width depth

-- the nets so far, by the places of their names
pub record AreNets (ns : List NetTree) (nets : List (Option NetId)) (cells : List SizedCell) : Type 0 where
  pub long : length nets ≡ length ns
  pub each : (p : ℕ) (x : NetTree) (y : NetId) → slice_get ns p ≡ Some x → slice_get nets p ≡ Some (Some y)
      → StandsFor x.kind cells y.0 x.width

-- the name has its net
pub record IsReady (ns : List NetTree) (nets : List (Option NetId)) (n : List ℕ) : Type 0 where
  pub net : NetId
  pub found : slice_get nets (place_of ns n) ≡ Some (Some net)

-- these are the nets of the names, as far as they are there
pub record AreNamed (ns : List NetTree) (nets : List (Option NetId)) (at : List ℕ → ℕ) : Type 0 where
  pub each : (n : List ℕ) (y : NetId) → slice_get nets (place_of ns n) ≡ Some (Some y) → at n ≡ y.0

-- a clock of a netlist's run as one of the module, where each name has its net
abbrev pub read : (List ℕ → ℕ) → List Clock → ℕ → ModuleClock
read at run t = record { word = λ n. word_at run t (at n); store = λ n. store_at run t (at n) }
