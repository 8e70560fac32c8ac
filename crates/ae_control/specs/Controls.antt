-- The cells of the control, and what they make so.
use Rattle.std.specs.Prelude.{◌≡◌, ℕ, zero, suc, ◌+◌, ◌*◌, ◌<◌, ◌≤◌, ◌&&◌, ◌||◌, not, List, [], ◌∷◌, length, Some, slice_get}
use Rattle.ae_netlist.specs.declared.cell.NetId.{NetId}
use Rattle.ae_netlist.specs.declared.cell.Cell.TheVariants.{Const}
use Rattle.ae_netlist.specs.declared.cell.SizedCell.{SizedCell}
use Rattle.ae_netlist.specs.Circuit.{Circuit, IsNet}
use Rattle.ae_netlist.specs.Runs.{Clock}
use Rattle.ae_stream.specs.Streams.{Ends, bit}
use Rattle.ae_stream.specs.Control.{Control}
use Rattle.ae_stream.specs.Gates.{Gates}
use Rattle.ae_stream.specs.Driven.{Row}
use Rattle.ae_stream.specs.Wired.{InEach, IsWired}
use Rattle.ae_control.specs.declared.driver.Controlled.{Controlled}
use Rattle.ae_control.specs.declared.driver.Places.{Places}
use Rattle.ae_control.specs.declared.driver.Wires.{Wires}
use Rattle.ae_control.specs.Cells.{InRunsFrom, IsLonger, choice, taking}

abbrev pub net : ℕ → NetId
net n = record { 0 = n }

-- the flag of a block so many before the one at the inputs: that of this one is a gate, all others are registers
abbrev pub flag_net : Places → ℕ → ℕ
flag_net at zero = at.gates
flag_net at (suc j) = at.base + 5 + j

-- the constants 0 and 1, and so many registers behind them
pub record HasBegun (old new : Circuit) (blocks : ℕ) : Type 0 where
  pub longer : IsLonger old new
  pub long : length new.cells ≡ length old.cells + (blocks + 6)
  pub low : slice_get new.cells (length old.cells) ≡ Some (record { width = 1; cell = Const 0 })
  pub high : slice_get new.cells (length old.cells + 1) ≡ Some (record { width = 1; cell = Const 1 })
  pub registers : (k : ℕ) → k < blocks + 4
      → slice_get new.cells (length old.cells + 2 + k) ≡ Some (taking 1 (net (length old.cells + 2 + k)))

-- what a control reads are nets of one bit
pub record AreWires (cells : List SizedCell) (w : Wires) : Type 0 where
  pub reset : IsNet cells w.reset.0 1
  pub valid : IsNet cells w.valid.0 1
  pub ready : IsNet cells w.ready.0 1
  pub first : IsNet cells w.first.0 1
  pub last : IsNet cells w.last.0 1
  pub wants : IsNet cells w.wants.0 1
  pub late : IsNet cells w.late.0 1
  pub behind : IsNet cells w.behind.0 1

-- and so is all that its gates read
pub record AreBits (cells : List SizedCell) (w : Wires) (at : Places) (busy : ℕ) : Type 0 where
  pub wires : AreWires cells w
  pub own : (k : ℕ) → k < at.blocks + 6 → IsNet cells (at.base + k) 1
  pub any : IsNet cells busy 1

abbrev pub row : (condition left right : ℕ) → List NetId
row condition left right = net condition ∷ net left ∷ net right ∷ []

-- the nets of each gate
abbrev pub gate_rows : Wires → Places → NetId → List (List NetId)
gate_rows w at busy =
    let low : ℕ = at.base in let high : ℕ = at.base + 1 in
    let current : ℕ = at.base + 2 in let one : ℕ = at.base + 3 in let two : ℕ = at.base + 4 in
    let g : ℕ = at.gates in
    row w.first.0 w.valid.0 current
    ∷ row w.first.0 high w.wants.0
    ∷ row w.valid.0 high busy.0
    ∷ row current w.valid.0 high
    ∷ row (g + 1) (g + 3) high
    ∷ row w.first.0 (g + 2) (g + 4)
    ∷ row two low (g + 5)
    ∷ row w.reset.0 high (g + 6)
    ∷ row w.first.0 high current
    ∷ row (g + 1) (g + 8) low
    ∷ row two low (g + 9)
    ∷ row w.behind.0 (at.base + 5 + at.blocks) (flag_net at at.blocks)
    ∷ row w.late.0 (g + 11) low
    ∷ row (g + 7) (g + 12) low
    ∷ row one w.ready.0 low
    ∷ row (g + 14) low one
    ∷ row (g + 13) high (g + 15)
    ∷ row one (g + 13) low
    ∷ row two high (g + 17)
    ∷ row one (g + 14) high
    ∷ row (g + 7) w.last.0 low
    ∷ row (g + 7) g current
    ∷ row two high (g + 16)
    ∷ row w.reset.0 low (g + 22)
    ∷ row (g + 14) low (g + 18)
    ∷ row w.reset.0 low (g + 24)
    ∷ []

-- what a flag takes, and the same but for the reset
pub record IsFlagGate (cells : List SizedCell) (reset : NetId) (at : Places) (j : ℕ) : Type 0 where
  pub turns : slice_get cells (at.gates + 26 + 2 * j)
      ≡ Some (choice 1 (row (at.gates + 20) (flag_net at j) (at.base + 5 + j)))
  pub clears : slice_get cells (at.gates + 27 + 2 * j) ≡ Some (choice 1 (row reset.0 at.base (at.gates + 26 + 2 * j)))

pub record HasFlagGates (old new : Circuit) (reset : NetId) (at : Places) (count : ℕ) : Type 0 where
  pub longer : IsLonger old new
  pub long : length new.cells ≡ length old.cells + 2 * count
  pub each : (j : ℕ) → j < count → IsFlagGate new.cells reset at j

-- whether one of so many bits is 1, which stand one behind the other: a choice for each, where the one before it says what is so else
abbrev pub any_net : (low at count : ℕ) → ℕ
any_net low at zero = low
any_net low at (suc k) = at + k

pub record HasAny (cells : List SizedCell) (first count low high at y : ℕ) : Type 0 where
  pub last : y ≡ any_net low at count
  pub each : (k : ℕ) → k < count → slice_get cells (at + k) ≡ Some (choice 1 (row (first + k) high (any_net low at k)))

-- all cells of the control, with a net that is 1 where one of the first so many flags is
pub record HasCells (cells : List SizedCell) (w : Wires) (at : Places) (wait : ℕ) (busy : NetId) : Type 0 where
  pub low : slice_get cells at.base ≡ Some (record { width = 1; cell = Const 0 })
  pub high : slice_get cells (at.base + 1) ≡ Some (record { width = 1; cell = Const 1 })
  pub gates : (k : ℕ) (nets : List NetId) → slice_get (gate_rows w at busy) k ≡ Some nets
      → slice_get cells (at.gates + k) ≡ Some (choice 1 nets)
  pub flags : (j : ℕ) → j < at.blocks + 1 → IsFlagGate cells w.reset at j
  pub registers : (k : ℕ) → k < at.blocks + 4
      → slice_get cells (at.base + 2 + k) ≡ Some (taking 1 (net (at.gates + 21 + 2 * k)))
  pub any : HasAny cells (at.base + 5) wait at.base (at.base + 1) (at.base + at.blocks + 6) busy.0

-- the nets of the control, and the ends of the two channels, with those of the columns
abbrev pub control_of : Controlled → (takes here shows : ℕ) → (made second : ℕ → ℕ) → Control
control_of c takes here shows made second = record {
  enable = c.enable.0;
  takes = takes;
  here = here;
  shows = shows;
  one = c.one.0;
  two = c.two.0;
  made = made;
  second = second;
}

abbrev pub ends_of : Wires → Controlled → (in_columns columns : ℕ) → (ins outs : ℕ → ℕ) → Ends
ends_of w c in_columns columns ins outs = record {
  in_columns = in_columns;
  columns = columns;
  source = record { valid = w.valid.0; ready = c.asks.0 };
  sink = record { valid = c.one.0; ready = w.ready.0 };
  ins = ins;
  outs = outs;
}

-- the words at the sink move on in each clock in which they are taken or none stand
abbrev pub MovesOn : Wires → Controlled → List Clock → Type 0
MovesOn w c run = InEach (λ k. bit c.moves.0 k ≡ ((bit c.one.0 k && bit w.ready.0 k) || not (bit c.one.0 k))) run

-- in every run a control is wired behind these cells that reads these nets, and the words at the sink move on; it is busy as long
-- as one of the first so many flags is 1
pub record IsControl (from : ℕ) (cells : List SizedCell) (w : Wires) (blocks wait : ℕ) (c : Controlled) : Type 0 where
  pub gates : Gates
  pub row : Row
  pub takes : ℕ
  pub here : ℕ
  pub shows : ℕ
  pub reset : gates.reset ≡ w.reset.0
  pub first : gates.first ≡ w.first.0
  pub last : row.last ≡ w.last.0
  pub late : row.late ≡ w.late.0
  pub behind : row.behind ≡ w.behind.0
  pub wired : (made second ins outs : ℕ → ℕ) (in_columns columns : ℕ) → InRunsFrom from cells (λ run.
      IsWired (control_of c takes here shows made second) gates row
      (ends_of w c in_columns columns ins outs) w.wants.0 blocks wait run)
  pub moves : InRunsFrom from cells (MovesOn w c)

-- what others read of it are nets of one bit; those that say that the circuit steps, and what the ends are told, stand behind these
-- cells
pub record HasControlNets (from : ℕ) (cells : List SizedCell) (c : Controlled) : Type 0 where
  pub behind : from ≤ c.enable.0
  pub asks_behind : from ≤ c.asks.0
  pub one_behind : from ≤ c.one.0
  pub enable : IsNet cells c.enable.0 1
  pub asks : IsNet cells c.asks.0 1
  pub one : IsNet cells c.one.0 1
  pub two : IsNet cells c.two.0 1
  pub moves : IsNet cells c.moves.0 1
