-- Runs by what stands at their inputs, clock by clock, and by what registers and memories begin with.
use Rattle.std.specs.Prelude.{◌≡◌, ℕ, ◌<◌, ◌%◌, ◌^◌, true, List, [], length, map, replicate, Some, slice_get, get_or}
use Rattle.std.specs.List.{All}
use Rattle.ae_netlist.specs.declared.cell.SizedCell.{SizedCell}
use Rattle.ae_netlist.specs.Circuit.{depth_in_cell}
use Rattle.ae_netlist.specs.Counts.{is_input, is_register, is_memory, count_of, number_of, cells_of}
use Rattle.ae_netlist.specs.Runs.{Clock, word_at, store_at, IsRun}

-- one fitting word for each input, in order
pub record AreInputs (cells : List SizedCell) (row : List ℕ) : Type 0 where
  pub long : length row ≡ count_of is_input cells
  pub fit : (k : ℕ) (sized : SizedCell) → slice_get (cells_of is_input cells) k ≡ Some sized
      → get_or row k 0 < 2 ^ sized.width

-- what registers and memories begin with, each by its number
pub record Firsts : Type 0 where
  pub registers : List ℕ
  pub memories : List (List ℕ)

-- one fitting word for each register, and as many as its depth for each memory
pub record AreFirsts (cells : List SizedCell) (firsts : Firsts) : Type 0 where
  pub registers : length firsts.registers ≡ count_of is_register cells
  pub memories : length firsts.memories ≡ count_of is_memory cells
  pub words : (k : ℕ) (sized : SizedCell) → slice_get (cells_of is_register cells) k ≡ Some sized
      → get_or firsts.registers k 0 < 2 ^ sized.width
  pub depths : (k : ℕ) (sized : SizedCell) → slice_get (cells_of is_memory cells) k ≡ Some sized
      → length (get_or firsts.memories k []) ≡ depth_in_cell sized.cell
  pub stores : (k : ℕ) (sized : SizedCell) → slice_get (cells_of is_memory cells) k ≡ Some sized
      → All (λ w. w < 2 ^ sized.width) (get_or firsts.memories k [])

-- every word is the fill, modulo 2 to its width
abbrev pub filled : List SizedCell → ℕ → Firsts
filled cells fill = record {
  registers = map (λ sized. fill % 2 ^ sized.width) (cells_of is_register cells);
  memories = map (λ sized. replicate (depth_in_cell sized.cell) (fill % 2 ^ sized.width)) (cells_of is_memory cells);
}

-- in each of these clocks each input has the word of its number in the clock's row
pub record TakesRows (cells : List SizedCell) (rows : List (List ℕ)) (run : List Clock) : Type 0 where
  pub each : (t n : ℕ) (sized : SizedCell) → t < length rows → slice_get cells n ≡ Some sized
      → is_input sized.cell ≡ true
      → word_at run t n ≡ get_or (get_or rows t []) (number_of is_input cells n) 0

-- in its first clock, if there is one, registers and memories have these words
pub record BeginsWith (cells : List SizedCell) (firsts : Firsts) (run : List Clock) : Type 0 where
  pub registers : (n : ℕ) (sized : SizedCell) → 0 < length run → slice_get cells n ≡ Some sized
      → is_register sized.cell ≡ true
      → word_at run 0 n ≡ get_or firsts.registers (number_of is_register cells n) 0
  pub memories : (n : ℕ) (sized : SizedCell) → 0 < length run → slice_get cells n ≡ Some sized
      → is_memory sized.cell ≡ true
      → store_at run 0 n ≡ get_or firsts.memories (number_of is_memory cells n) []

-- a run with one clock for each row
pub record IsRunWith (cells : List SizedCell) (rows : List (List ℕ)) (firsts : Firsts) (run : List Clock) : Type 0 where
  pub long : length run ≡ length rows
  pub runs : IsRun cells run
  pub takes : TakesRows cells rows run
  pub begins : BeginsWith cells firsts run

-- for fitting rows and first words there is exactly one run
abbrev pub HasOneRunWith : List SizedCell → Type 0
HasOneRunWith cells =
    (rows : List (List ℕ)) (firsts : Firsts) → All (AreInputs cells) rows → AreFirsts cells firsts
    → (run : List Clock) × IsRunWith cells rows firsts run
    × ((other : List Clock) → IsRunWith cells rows firsts other → other ≡ run)
