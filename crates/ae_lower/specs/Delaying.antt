-- Bundles that are delayed until they arrive together.
use Rattle.std.specs.Prelude.{◌≡◌, ℕ, ◌+◌, ◌*◌, List, [], ◌∷◌, length, Some, slice_get, get_or}
use Rattle.ae_netlist.specs.declared.cell.NetId.{NetId}
use Rattle.ae_netlist.specs.declared.cell.SizedCell.{SizedCell}
use Rattle.ae_ops.specs.Waves.{AreLate, AreNets}

-- the registers of the delays of chosen items, by how long each of them waits: each net is delayed on its own
abbrev pub delay_load : (items : List (List NetId)) (waits chosen : List ℕ) → ℕ
delay_load items [] chosen = 0
delay_load items (w ∷ ws) [] = 0
delay_load items (w ∷ ws) (i ∷ is) = w * length (get_or items i []) + delay_load items ws is

-- a bundle so much later
pub record IsDelayed (old new : List SizedCell) (rst slack : ℕ) (nets late : List NetId) : Type 0 where
  pub kept : (widths : List ℕ) → AreNets old widths nets → AreNets new widths late
  pub is_late : AreLate new rst slack nets late

-- one for each chosen item
pub record AreDelayed (old new : List SizedCell) (rst : ℕ) (items : List (List NetId)) (waits chosen : List ℕ)
    (bundles : List (List NetId)) : Type 0 where
  pub long : length bundles ≡ length chosen
  pub each : (r i : ℕ) (nets late : List NetId) → slice_get chosen r ≡ Some i → slice_get items i ≡ Some nets
      → slice_get bundles r ≡ Some late → IsDelayed old new rst (get_or waits r 0) nets late
