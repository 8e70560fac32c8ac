-- The runs of a netlist: lists of clocks that meet the equations of its cells, which have no order.
use Rattle.std.specs.Prelude.{◌≡◌, ℕ, ◌+◌, ◌<◌, ◌≤◌, ◌^◌, ◌==◌, List, [], length, Some, slice_get, slice_set, unwrap_or, All, if◌then◌else◌}
use Rattle.ae_word.specs.WordTable.{row_of, word_result}
use Rattle.ae_netlist.specs.declared.cell.Cell.{Cell}
use Rattle.ae_netlist.specs.declared.cell.Cell.TheVariants.{Input, Const, Op, Reg, Mem, Peek}
use Rattle.ae_netlist.specs.declared.cell.SizedCell.{SizedCell}
use Rattle.ae_netlist.specs.Circuit.{IsNet, operand, width_of, Extends}

-- what stands in one clock, net by net: the word of each net, and the words of each memory
pub record Clock : Type 0 where
  pub words : List ℕ
  pub stores : List (List ℕ)

unfoldable pub no_clock : Clock
no_clock = record { words = []; stores = [] }

-- the word of a net in a clock of a run; of formed cells no equation reads past the clocks or the nets
unfoldable pub word_at : List Clock → ℕ → ℕ → ℕ
word_at run t net = unwrap_or (slice_get (unwrap_or (slice_get run t) no_clock).words net) 0

-- the words of a memory in a clock of a run
unfoldable pub store_at : List Clock → ℕ → ℕ → List ℕ
store_at run t net = unwrap_or (slice_get (unwrap_or (slice_get run t) no_clock).stores net) []

-- what a net may hold: a memory one word for each place, and any other net one word
abbrev pub CellHolds : Cell → ℕ → ℕ → List ℕ → Type 0
CellHolds (Input port) width w store = (w < 2 ^ width) × (store ≡ [])
CellHolds (Const k) width w store = (w < 2 ^ width) × (store ≡ [])
CellHolds (Op op args) width w store = (w < 2 ^ width) × (store ≡ [])
CellHolds (Reg next) width w store = (w < 2 ^ width) × (store ≡ [])
CellHolds (Mem depth at next enable) width w store = (w ≡ 0) × (length store ≡ depth) × All (λ v. v < 2 ^ width) store
CellHolds (Peek mem at) width w store = (w < 2 ^ width) × (store ≡ [])

-- in a clock a net's word is the one that its cell makes of the words of that clock; a formed peek reads places of its memory alone
abbrev pub Settles : List SizedCell → List Clock → ℕ → ℕ → Cell → Type 0
Settles cells run t net (Input port) = Unit {0}
Settles cells run t net (Const k) = word_at run t net ≡ k
Settles cells run t net (Op op args) =
    word_at run t net ≡ word_result op (width_of cells (operand args (row_of op).main)) (word_at run t (operand args 0)) (word_at run t (operand args 1)) (word_at run t (operand args 2))
Settles cells run t net (Reg next) = Unit {0}
Settles cells run t net (Mem depth at next enable) = Unit {0}
Settles cells run t net (Peek mem at) = word_at run t net ≡ unwrap_or (slice_get (store_at run t mem.0) (word_at run t at.0)) 0

-- from a clock to the next a register takes its next word, and a memory is written where it is enabled; one that is not connected names itself
abbrev pub Steps : List Clock → ℕ → ℕ → Cell → Type 0
Steps run t net (Input port) = Unit {0}
Steps run t net (Const k) = Unit {0}
Steps run t net (Op op args) = Unit {0}
Steps run t net (Reg next) = word_at run (t + 1) net ≡ word_at run t next.0
Steps run t net (Mem depth at next enable) =
    store_at run (t + 1) net
    ≡ (if enable.0 == net then store_at run t net
    else (if word_at run t enable.0 == 1 then slice_set (store_at run t net) (word_at run t at.0) (word_at run t next.0) else store_at run t net))
Steps run t net (Peek mem at) = Unit {0}

-- every clock has something for each net, and nothing more
pub record IsShaped (cells : List SizedCell) (clock : Clock) : Type 0 where
  pub words : length clock.words ≡ length cells
  pub stores : length clock.stores ≡ length cells
  pub holds : (n w : ℕ) (x : SizedCell) (ws : List ℕ) → slice_get cells n ≡ Some x → slice_get clock.words n ≡ Some w → slice_get clock.stores n ≡ Some ws → CellHolds x.cell x.width w ws

-- a run: what is not said of a word here is free
pub record IsRun (cells : List SizedCell) (run : List Clock) : Type 0 where
  pub shaped : (t : ℕ) (clock : Clock) → slice_get run t ≡ Some clock → IsShaped cells clock
  pub settles : (t n : ℕ) (sized : SizedCell) → t < length run → slice_get cells n ≡ Some sized → Settles cells run t n sized.cell
  pub steps : (t n : ℕ) (sized : SizedCell) → t + 1 < length run → slice_get cells n ≡ Some sized → Steps run t n sized.cell

-- one bit is 1 in the first clocks, at least one, and 0 in all others
pub record IsReset (run : List Clock) (rst start : ℕ) : Type 0 where
  pub some : 1 ≤ start
  pub high : (t : ℕ) → t < start → t < length run → word_at run t rst ≡ 1
  pub low : (t : ℕ) → start ≤ t → t < length run → word_at run t rst ≡ 0

-- what is so in every run of every netlist that extends these cells
abbrev pub InEveryRun : List SizedCell → (List Clock → Type 0) → Type 0
InEveryRun cells P = (all : List SizedCell) → Extends cells all → (run : List Clock) → IsRun all run → P run

-- the same in every reset run, whose clocks are counted from the first without reset
abbrev pub InEveryResetRun : List SizedCell → ℕ → (List Clock → ℕ → Type 0) → Type 0
InEveryResetRun cells rst P = InEveryRun cells (λ run. (start : ℕ) → IsReset run rst start → P run start)

-- in clock 0 and on, net y has the word that f gives
abbrev pub HasWords : List Clock → ℕ → ℕ → (ℕ → ℕ) → Type 0
HasWords run start y f = (c : ℕ) → start + c < length run → word_at run (start + c) y ≡ f c

-- another netlist has the cells from a number on as they are here, and every net with its width
pub record Carries (from : ℕ) (cells all : List SizedCell) : Type 0 where
  pub keeps : (n : ℕ) (sized : SizedCell) → from ≤ n → slice_get cells n ≡ Some sized → slice_get all n ≡ Some sized
  pub nets : (n width : ℕ) → IsNet cells n width → IsNet all n width

-- what the cells from a number on make so, whatever the cells before them are
abbrev pub InEveryRunFrom : ℕ → List SizedCell → (List Clock → Type 0) → Type 0
InEveryRunFrom from cells P = (all : List SizedCell) → Carries from cells all → (run : List Clock) → IsRun all run → P run

-- the words that a run may choose are the given ones: those of the inputs, and what registers and memories begin with
abbrev pub AgreesAt : List Clock → List Clock → ℕ → ℕ → Cell → Type 0
AgreesAt given run t net (Input port) = word_at run t net ≡ word_at given t net
AgreesAt given run t net (Const k) = Unit {0}
AgreesAt given run t net (Op op args) = Unit {0}
AgreesAt given run t net (Reg next) = t ≡ 0 → word_at run t net ≡ word_at given t net
AgreesAt given run t net (Mem depth at next enable) = t ≡ 0 → store_at run t net ≡ store_at given t net
AgreesAt given run t net (Peek mem at) = Unit {0}

pub record Agrees (cells : List SizedCell) (given run : List Clock) : Type 0 where
  pub same : (t n : ℕ) (sized : SizedCell) → t < length given → slice_get cells n ≡ Some sized → AgreesAt given run t n sized.cell

-- a run as long as the given clocks, with their inputs and first words
pub record IsRunOn (cells : List SizedCell) (given run : List Clock) : Type 0 where
  pub long : length run ≡ length given
  pub runs : IsRun cells run
  pub agrees : Agrees cells given run

-- for any inputs and any first words there is exactly one run
abbrev pub HasOneRun : List SizedCell → Type 0
HasOneRun cells =
    (given : List Clock) → ((t : ℕ) (clock : Clock) → slice_get given t ≡ Some clock → IsShaped cells clock)
    → (run : List Clock) × IsRunOn cells given run × ((other : List Clock) → IsRunOn cells given other → other ≡ run)
