-- Bundles of one width, and the parts that take one such bundle.
use Rattle.std.specs.Prelude.{◌≡◌, ℕ, ◌<◌, List, [], ◌∷◌, length, get_or}
use Rattle.ae_netlist.specs.declared.cell.NetId.{NetId}
use Rattle.ae_netlist.specs.declared.cell.SizedCell.{SizedCell}
use Rattle.ae_netlist.specs.Circuit.{IsNet}
use Rattle.ae_ops.specs.Blocks.{Part, Stream}

-- so many nets of one width
pub record AreEven (cells : List SizedCell) (lanes width : ℕ) (nets : List NetId) : Type 0 where
  pub long : length nets ≡ lanes
  pub each : (q : ℕ) → q < length nets → IsNet cells (get_or nets q (record { 0 = 0 })).0 width

-- the part takes one value, a word of one width on each of so many lanes
pub record TakesLanes (part : Part) (lanes width : ℕ) : Type 0 where
  pub stream : Stream
  pub one : part.ins ≡ stream ∷ []
  pub lanes_are : stream.lanes ≡ lanes
  pub widths_are : stream.widths ≡ width ∷ []
