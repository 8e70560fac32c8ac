-- What an expression becomes in a netlist.
use Rattle.std.specs.Prelude.{ℕ, ◌+◌, ◌%◌, ◌^◌, ◌≤◌, max, List, length, Option}
use Rattle.ae_netlist.specs.declared.cell.NetId.{NetId}
use Rattle.ae_netlist.specs.Circuit.{Circuit, IsNet}
use Rattle.ae_vmodule.specs.ModuleTree.{ExprTree, NetTree}
use Rattle.ae_judge.specs.Widths.{own_width}
use Rattle.ae_runs.specs.Values.{ModuleClock, value_at}
use Rattle.ae_gates.specs.Cells.{GrowsByGates, IsWord}
use Rattle.ae_runs.specs.Named.{AreNamed, AreNets, read}

-- the netlist has grown by at most so many cells, the nets of names stand for them as before, and net y has the value of
-- the expression that is computed at width w
pub record IsLowered (from : ℕ) (ns : List NetTree) (ys : List (Option NetId)) (old new : Circuit) (most y w : ℕ)
    (e : ExprTree) : Type 0 where
  pub grows : GrowsByGates old new
  pub more : length old.cells ≤ length new.cells
  pub few : length new.cells ≤ length old.cells + most
  pub net : IsNet new.cells y w
  pub nets : AreNets ns ys new.cells
  pub word : (at : List ℕ → ℕ) → AreNamed ns ys at
      → IsWord from new.cells y w (λ run t. value_at ns (read at run t) w e)

-- what a target of this width is given: computed at the greater of both widths, and cut to the target's
abbrev pub fitted : List NetTree → ModuleClock → (width : ℕ) → ExprTree → ℕ
fitted ns c width e = value_at ns c (max (own_width ns e) width) e % 2 ^ width
