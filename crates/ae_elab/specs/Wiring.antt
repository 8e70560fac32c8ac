-- The nets of wires, each from the value of its equation.
use Rattle.std.specs.Prelude.{ℕ, ◌≡◌, ◌+◌, ◌<◌, ◌≤◌, true, false, List, [], ◌∷◌, length, Option, Some, None, slice_get}
use Rattle.ae_netlist.specs.declared.cell.NetId.{NetId}
use Rattle.ae_netlist.specs.declared.cell.SizedCell.{SizedCell}
use Rattle.ae_vmodule.specs.ModuleTree.{ExprTree, NetTree, ModuleTree}
use Rattle.ae_judge.specs.Names.{is_clock}
use Rattle.ae_judge.specs.Faults.{NetAt}
use Rattle.ae_judge.specs.Weight.{expr_weight}
use Rattle.ae_gates.specs.Cells.{IsWord}
use Rattle.ae_express.specs.Lowered.{fitted}
use Rattle.ae_runs.specs.Named.{AreNamed, AreNets, read}
use Rattle.ae_order.specs.Drives.{values_of}
use Rattle.ae_elab.specs.Declaring.{HasNet, is_given}

-- each wire that has a net has there what its equation gives it
abbrev pub AreWires : ModuleTree → ℕ → List (Option NetId) → List SizedCell → Type 0
AreWires m from nets cells =
    (p : ℕ) (x : NetTree) (e : ExprTree) (y : NetId) → NetAt m p x → slice_get (values_of m) p ≡ Some (Some e)
    → slice_get nets p ≡ Some (Some y)
    → (at : List ℕ → ℕ) → AreNamed m.nets nets at
    → IsWord from cells y.0 x.width (λ run t. fitted m.nets (read at run t) x.width e)

-- each name but the clock has a net, and each wire what its equation gives it
pub record AreWired (m : ModuleTree) (from : ℕ) (nets : List (Option NetId)) (cells : List SizedCell) : Type 0 where
  pub nets_are : AreNets m.nets nets cells
  pub each : (p : ℕ) (x : NetTree) → NetAt m p x → is_clock m x.name ≡ false → HasNet nets p
  pub wires : AreWires m from nets cells

-- the first nets of the order have been looked at, and the equations behind them not yet
pub record IsWiring (m : ModuleTree) (from : ℕ) (order : List ℕ) (k : ℕ) (nets : List (Option NetId))
    (cells : List SizedCell) : Type 0 where
  pub from_there : from ≤ length cells
  pub nets_are : AreNets m.nets nets cells
  pub given : (p : ℕ) (x : NetTree) → NetAt m p x → is_given m x ≡ true → HasNet nets p
  pub looked : (j p : ℕ) (x : NetTree) → j < k → slice_get order j ≡ Some p → NetAt m p x → is_clock m x.name ≡ false
      → HasNet nets p
  pub behind : (j p : ℕ) (e : ExprTree) → k ≤ j → slice_get order j ≡ Some p
      → slice_get (values_of m) p ≡ Some (Some e) → slice_get nets p ≡ Some None
  pub wires : AreWires m from nets cells

-- what has a net keeps it
abbrev pub KeepsNets : (old new : List (Option NetId)) → Type 0
KeepsNets old new = (p : ℕ) (y : NetId) → slice_get old p ≡ Some (Some y) → slice_get new p ≡ Some (Some y)

-- the weight of the equations whose names have no net yet, one more for each
abbrev pub open_weight_of : Option ExprTree → Option NetId → ℕ
open_weight_of None net = 0
open_weight_of (Some e) None = 1 + expr_weight e
open_weight_of (Some e) (Some y) = 0

abbrev pub open_weight : List (Option ExprTree) → List (Option NetId) → ℕ
open_weight [] nets = 0
open_weight (v ∷ vs) [] = 0
open_weight (v ∷ vs) (net ∷ nets) = open_weight_of v net + open_weight vs nets
