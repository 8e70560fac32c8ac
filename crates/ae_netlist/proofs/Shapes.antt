-- What a run has of each clock and net, read by its number.
use Rattle.std.proofs.Common.{ℕ, ◌≡◌, ◌<◌, List, [], length, Some, slice_get, get_or, arith, subst}
use Rattle.std.proofs.lemmas.Option.{slice_get-get_or, slice_get_within, get_or_from_slice_get}
use Rattle.ae_netlist.specs.declared.cell.SizedCell.{SizedCell}
use Rattle.ae_netlist.specs.Runs.{Clock, no_clock, CellHolds, IsShaped, IsRun}

pub clock_shaped : {cells : List SizedCell} {run : List Clock} → IsRun cells run → (t : ℕ) → t < length run → IsShaped cells (get_or run t no_clock)
clock_shaped {run = run} r t l = r.shaped t (get_or run t no_clock) (slice_get-get_or run t no_clock l)

-- and back, for any list of clocks
pub each_shaped : (cells : List SizedCell) (run : List Clock) → ((t : ℕ) → t < length run → IsShaped cells (get_or run t no_clock))
    → (t : ℕ) (clock : Clock) → slice_get run t ≡ Some clock → IsShaped cells clock
each_shaped cells run shaped t clock found =
    subst (IsShaped cells) (get_or_from_slice_get run t clock no_clock found) (shaped t (slice_get_within run t clock found))

pub cell_holds : {cells : List SizedCell} {clock : Clock} → IsShaped cells clock → (n : ℕ) (sized : SizedCell) → slice_get cells n ≡ Some sized
    → CellHolds sized.cell sized.width (get_or clock.words n 0) (get_or clock.stores n [])
cell_holds {cells = cells} {clock = clock} s n sized found =
    let b : n < length cells = slice_get_within cells n sized found in
    s.holds n (get_or clock.words n 0) sized (get_or clock.stores n []) found (slice_get-get_or clock.words n 0 (omega (arith, b, s.words)))
    (slice_get-get_or clock.stores n [] (omega (arith, b, s.stores)))

pub each_holds : (cells : List SizedCell) (clock : Clock)
    → ((n : ℕ) (sized : SizedCell) → slice_get cells n ≡ Some sized → CellHolds sized.cell sized.width (get_or clock.words n 0) (get_or clock.stores n []))
    → (n word : ℕ) (sized : SizedCell) (store : List ℕ) → slice_get cells n ≡ Some sized → slice_get clock.words n ≡ Some word
    → slice_get clock.stores n ≡ Some store
    → CellHolds sized.cell sized.width word store
each_holds cells clock holds n word sized store found one whole =
    subst (λ (v : ℕ). CellHolds sized.cell sized.width v store) (get_or_from_slice_get clock.words n word 0 one)
    (subst (λ (vs : List ℕ). CellHolds sized.cell sized.width (get_or clock.words n 0) vs) (get_or_from_slice_get clock.stores n store [] whole)
    (holds n sized found))
