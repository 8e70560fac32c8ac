-- The queue of each column.
use Rattle.std.specs.Prelude.{◌≡◌, ℕ, ◌+◌, ◌*◌, ◌<◌, List, length, Some, slice_get, get_or}
use Rattle.ae_netlist.specs.declared.cell.NetId.{NetId}
use Rattle.ae_netlist.specs.declared.cell.SizedCell.{SizedCell}
use Rattle.ae_netlist.specs.Circuit.{IsNet}
use Rattle.ae_stream.specs.Wired.{AreQueued}
use Rattle.ae_control.specs.declared.driver.Controlled.{Controlled}
use Rattle.ae_control.specs.declared.driver.Wires.{Wires}
use Rattle.ae_control.specs.Cells.{InRunsFrom, choice, taking}
use Rattle.ae_control.specs.Controls.{MovesOn, control_of, ends_of, net, row}

-- the queue of a net: two registers, and what they take
pub record HasColumn (cells : List SizedCell) (c : Controlled) (made : NetId) (at : ℕ) : Type 0 where
  pub width : ℕ
  pub shown : slice_get cells at ≡ Some (taking width (net (at + 3)))
  pub second : slice_get cells (at + 1) ≡ Some (taking width (net (at + 2)))
  pub next : slice_get cells (at + 2) ≡ Some (choice width (row c.two.0 (at + 1) made.0))
  pub moved : slice_get cells (at + 3) ≡ Some (choice width (row c.moves.0 (at + 2) at))

abbrev pub net_at : List NetId → ℕ → ℕ
net_at nets k = (get_or nets k (net 0)).0

-- in every run in which the words at the sink move on where they are taken or none stand, each of these nets has a queue, of
-- which every fourth cell shows the word that stands first
pub record AreColumns (from : ℕ) (cells : List SizedCell) (c : Controlled) (made : List NetId) : Type 0 where
  pub nets : (k : ℕ) → k < length made → (width : ℕ) × IsNet cells (from + 4 * k) width
  pub queued : (w : Wires) (takes here shows in_columns : ℕ) (ins : ℕ → ℕ)
      → InRunsFrom from cells (λ run. MovesOn w c run
      → AreQueued (control_of c takes here shows (net_at made) (λ k. from + 4 * k + 1))
      (ends_of w c in_columns (length made) ins (λ k. from + 4 * k)) run)
