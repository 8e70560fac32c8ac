-- The rows that are put on a circuit's inputs, clock by clock, and its run on them.
use Rattle.std.proofs.Common.{ℕ, suc, ◌≡◌, ◌+◌, ◌<◌, List, [], ◌∷◌, ◌++◌, length, map, get_or, arith, sym, subst}
use Rattle.std.specs.Prelude.{All}
use Rattle.std.specs.List.{range_with_len}
use Rattle.std.proofs.lemmas.List.Elements.{All-get_or}
use Rattle.std.proofs.lemmas.List.FromFn.{get_or-map-range_with_len, length-map-range_with_len}
use Rattle.ae_netlist.specs.declared.cell.Outlet.{Outlet}
use Rattle.ae_netlist.specs.declared.cell.SizedCell.{SizedCell}
use Rattle.ae_netlist.specs.Circuit.{Circuit}
use Rattle.ae_netlist.specs.Runs.{Clock}
use Rattle.ae_netlist.specs.Rows.{AreFirsts, AreInputs, HasOneRunWith, IsRunWith, filled}
use Rattle.ae_sim.specs.Playing.{Simulated, Plays, HasPlayed}
use Rattle.ae_sttype.specs.StTree.{StTree}
use Rattle.ae_play.specs.Fed.{clock_row, fed_rows, fill_row}
use Rattle.ae_play.specs.Keeps.{Keeps}
use Rattle.ae_play.specs.Lines.{shown_words}

-- a row of reset, and one for each of so many clocks
abbrev rows : (reset : List ℕ) (row : ℕ → List ℕ) → ℕ → List (List ℕ)
rows reset row n = reset ∷ map row (range_with_len 0 n)

pub length-rows : (reset : List ℕ) (row : ℕ → List ℕ) (n : ℕ) → length (rows reset row n) ≡ n + 1
length-rows reset row n = omega (arith, length-map-range_with_len row 0 n)

pub later_row : (reset : List ℕ) (row : ℕ → List ℕ) (n t : ℕ) → t < n → get_or (rows reset row n) (suc t) [] ≡ row t
later_row reset row n t h = get_or-map-range_with_len row 0 n t t [] h (omega arith)

-- what all rows are, that of each clock is, and that of reset
pub row_fits : (P : List ℕ → Type 0) (slowdown fill : ℕ) (ss : List StTree) (blocks : List (List (List ℕ)))
    → ((n : ℕ) → All P (fed_rows slowdown fill ss blocks n)) → (c : ℕ) → P (clock_row slowdown fill ss blocks c)
row_fits P slowdown fill ss blocks all c =
    let row = clock_row slowdown fill ss blocks in
    let long : length (rows (1 ∷ fill_row fill ss) row (c + 1)) ≡ (c + 1) + 1 = length-rows (1 ∷ fill_row fill ss) row (c + 1) in
    subst P (later_row (1 ∷ fill_row fill ss) row (c + 1) c (omega arith))
    (All-get_or P (fed_rows slowdown fill ss blocks (c + 1)) (suc c) [] (omega (arith, long)) (all (c + 1)))

pub reset_fits : (P : List ℕ → Type 0) (slowdown fill : ℕ) (ss : List StTree) (blocks : List (List (List ℕ)))
    → ((n : ℕ) → All P (fed_rows slowdown fill ss blocks n)) → P (1 ∷ fill_row fill ss)
reset_fits P slowdown fill ss blocks all =
    All-get_or P (fed_rows slowdown fill ss blocks 0) 0 [] (omega (arith, length-rows (1 ∷ fill_row fill ss) (clock_row slowdown fill ss blocks) 0)) (all 0)

-- a run with one clock for each row plays these rows
pub played : (cells : List SizedCell) (fill : ℕ) (rows : List (List ℕ)) (run : List Clock) → IsRunWith cells rows (filled cells fill) run
    → Plays cells fill rows run
played cells fill rows run r = record { runs = r.runs; long = omega (arith, r.long); takes = r.takes; begins = r.begins }

-- the run on blocks, and what is kept of it, for what is kept of every such run
pub kept_of_run : {K : Type 0} (n : Circuit) (slowdown fill : ℕ) (ins : List StTree) (blocks : List (List (List ℕ))) (count : ℕ)
    (takes : ℕ → List ℕ → List ℕ → K → K → Type 0) (first last : K) (sim : Simulated)
    → sim.cells ≡ n.cells → sim.outlets ≡ n.outlets → HasPlayed sim fill ((1 ∷ fill_row fill ins) ∷ [])
    → ((first_fill : ℕ) (before : List (List ℕ)) (run : List Clock) → HasPlayed sim first_fill before
    → Plays sim.cells first_fill (before ++ map (clock_row slowdown fill ins blocks) (range_with_len 0 count)) run
    → Keeps takes (clock_row slowdown fill ins blocks) (λ c. shown_words sim.outlets run (length before + c)) first count last)
    → HasOneRunWith n.cells → AreFirsts n.cells (filled n.cells fill) → ((k : ℕ) → All (AreInputs n.cells) (fed_rows slowdown fill ins blocks k))
    → (run : List Clock) × IsRunWith n.cells (fed_rows slowdown fill ins blocks count) (filled n.cells fill) run
    × Keeps takes (clock_row slowdown fill ins blocks) (λ c. shown_words n.outlets run (1 + c)) first count last
kept_of_run n slowdown fill ins blocks count takes first last sim ce oe h keeps one firsts fit =
    let fed : List (List ℕ) = fed_rows slowdown fill ins blocks count in
    let reset : List (List ℕ) = (1 ∷ fill_row fill ins) ∷ [] in
    let run = one fed (filled n.cells fill) (fit count) firsts in
    let plays : Plays sim.cells fill fed run.0 = subst (λ (cs : List SizedCell). Plays cs fill fed run.0) (sym ce) (played n.cells fill fed run.0 run.1) in (
      run.0,
      run.1,
      subst (λ (os : List Outlet). Keeps takes (clock_row slowdown fill ins blocks) (λ c. shown_words os run.0 (1 + c)) first count last) oe
          (keeps fill reset run.0 h plays),
    )

-- the row of a clock fits a simulator of the circuit
pub row_here : (n : Circuit) (slowdown fill : ℕ) (ins : List StTree) (blocks : List (List (List ℕ))) (sim : Simulated) (c : ℕ) → sim.cells ≡ n.cells
    → ((k : ℕ) → All (AreInputs n.cells) (fed_rows slowdown fill ins blocks k)) → AreInputs sim.cells (clock_row slowdown fill ins blocks c)
row_here n slowdown fill ins blocks sim c e fit =
    subst (λ (cs : List SizedCell). AreInputs cs (clock_row slowdown fill ins blocks c)) (sym e) (row_fits (AreInputs n.cells) slowdown fill ins blocks fit c)
