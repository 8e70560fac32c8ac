-- Columns, of which some are chosen early, make each trip of each block.
use Rattle.std.proofs.Common.{ℕ, ◌≡◌, ◌+◌, ◌-◌, ◌*◌, ◌%◌, ◌<◌, Bool, true, false, List, [], length, map, Some, slice_get, get_or, arith}
use Rattle.std.proofs.lemmas.Option.{slice_get_within, slice_get-get_or}
use Rattle.ae_netlist.specs.declared.cell.NetId.{NetId}
use Rattle.ae_netlist.specs.declared.cell.SizedCell.{SizedCell}
use Rattle.ae_netlist.specs.Circuit.{IsNet, Extends}
use Rattle.ae_netlist.specs.Runs.{Clock, word_at, IsRun, IsReset}
use Rattle.ae_moves.specs.declared.trip.Choice.{Choice}
use Rattle.ae_moves.specs.declared.trip.Trip.{Trip}
use Rattle.ae_moves.proofs.Lists.{get_mapped}
use Rattle.ae_columns.specs.declared.steps.Counters.{Counters}
use Rattle.ae_columns.specs.declared.steps.PhaseNet.{PhaseNet}
use Rattle.ae_columns.specs.declared.steps.Step.{Step}
use Rattle.ae_columns.specs.Plans.{choice_from, choice_in, AreWithin, IsPlan, IsReached}
use Rattle.ae_columns.specs.Columns.{IsPhaseNet}
use Rattle.ae_columns.specs.Early.{AreInTime, HasCounter, IsMade, counter_for, hastened, hastened_source, is_early}
use Rattle.ae_columns.specs.Laws.{sourced, MakesTrips, AreColumns}
use Rattle.ae_columns.proofs.Choosing.{phase_grows}
use Rattle.ae_columns.proofs.TripLaw.{column_trip}
use Rattle.ae_columns.proofs.Registered.{early_trip}

pub has_grows : (a b : List SizedCell) (rst begin period limit : ℕ) (counters : Counters) (early : Bool) → Extends a b
    → HasCounter a rst begin period limit counters early → HasCounter b rst begin period limit counters early
has_grows a b rst begin period limit counters early g h =
    record { counts = phase_grows g h.counts; periodic = h.periodic; limits = h.limits; offsets = h.offsets }

pub has_later : (cells : List SizedCell) (rst begin period limit : ℕ) (counters : Counters) (early : Bool) → early ≡ false
    → IsPhaseNet cells rst counters.later → counters.later.period ≡ period → counters.later.limit ≡ limit → counters.later.offset ≡ begin % period
    → HasCounter cells rst begin period limit counters early
has_later cells rst begin period limit counters early off h p m o = rw off (record { counts = h; periodic = p; limits = m; offsets = o })

pub has_sooner : (cells : List SizedCell) (rst begin period limit : ℕ) (counters : Counters) (early : Bool) → early ≡ true
    → IsPhaseNet cells rst counters.sooner → counters.sooner.period ≡ period → counters.sooner.limit ≡ limit
    → counters.sooner.offset ≡ (begin % period + (period - 1)) % period → HasCounter cells rst begin period limit counters early
has_sooner cells rst begin period limit counters early on h p m o = rw on (record { counts = h; periodic = p; limits = m; offsets = o })

pub has_either : (cells : List SizedCell) (rst begin period limit : ℕ) (counters : Counters) (early : Bool) → IsPhaseNet cells rst counters.later
    → counters.later.period ≡ period → counters.later.limit ≡ limit → counters.later.offset ≡ begin % period
    → IsPhaseNet cells rst counters.sooner → counters.sooner.period ≡ period → counters.sooner.limit ≡ limit
    → counters.sooner.offset ≡ (begin % period + (period - 1)) % period → HasCounter cells rst begin period limit counters early
has_either cells rst begin period limit counters true h p m o k q n r = record { counts = k; periodic = q; limits = n; offsets = r }
has_either cells rst begin period limit counters false h p m o k q n r = record { counts = h; periodic = p; limits = m; offsets = o }

made_trip : (early : Bool) (cells : List SizedCell) (rst w period d arrival limit : ℕ) (counters : Counters) (ins : List NetId) (steps : List Step) (y : NetId)
    (trip : Trip)
    → HasCounter cells rst (arrival + d) period limit counters early → trip.clock < period → trip.clock < limit
    → IsReached d trip.clock (hastened_source early trip.source) → choice_in trip.clock steps ≡ choice_from d trip.clock (hastened_source early trip.source)
    → IsMade early cells rst w (counter_for early counters) ins (λ p. choice_in p steps) y.0
    → (all : List SizedCell) → Extends cells all → (run : List Clock) → IsRun all run → (start : ℕ) → IsReset run rst start
    → (b : ℕ) → start + (arrival + d + b * period + trip.clock) < length run
    → word_at run (start + (arrival + d + b * period + trip.clock)) y.0 ≡ sourced run start (arrival + b * period) ins trip.source
made_trip true cells rst w period d arrival limit counters ins steps y trip has small below reached chooses made =
    early_trip cells rst w period d arrival counters.sooner.offset limit ins steps counters.sooner.net y trip has.offsets small below reached chooses
    (rw has.periodic at has.counts.counts) (rw (has.periodic, has.limits) at made)
made_trip false cells rst w period d arrival limit counters ins steps y trip has small below reached chooses made =
    column_trip cells rst w period d arrival counters.later.offset limit ins steps counters.later.net y trip has.offsets small below reached chooses
    (rw has.periodic at has.counts.counts) (rw has.limits at made)

pub columns_trips : (cells : List SizedCell) (rst period d arrival limit in_count out_count : ℕ) (counters : Counters) (ins out : List NetId) (widths : List ℕ)
    (early : List Bool) (trips moved : List Trip) (lines : List (List ℕ)) (columns : List (List Step))
    → moved ≡ map (hastened early) trips → AreInTime d early trips → AreWithin period d in_count out_count trips
    → ((n : ℕ) (trip : Trip) → slice_get trips n ≡ Some trip → trip.clock < limit) → IsPlan d moved lines columns → length widths ≡ length columns
    → ((q : ℕ) → q < length columns → HasCounter cells rst (arrival + d) period limit counters (is_early early q))
    → AreColumns cells rst counters ins widths early columns out → MakesTrips cells rst period d arrival ins out trips
columns_trips cells rst period d arrival limit in_count out_count counters ins out widths early trips moved lines columns is time within below plan long has
    made =
    λ all e run r start reset b n trip y found there l.
    let q : ℕ = trip.column in
    let inside : q < length out = slice_get_within out q y there in
    let lc : q < length columns = (let m : length out ≡ length columns = made.long in omega arith) in
    let steps : List Step = get_or columns q [] in
    let fs : slice_get columns q ≡ Some steps = slice_get-get_or columns q [] lc in
    let fw : slice_get widths q ≡ Some (get_or widths q 0) = slice_get-get_or widths q 0 (omega arith) in
    let at : slice_get moved n ≡ Some (hastened early trip) = rw is (get_mapped (hastened early) trips n trip found) in
    made_trip (is_early early q) cells rst (get_or widths q 0) period d arrival limit counters ins steps y trip (has q lc) (within.clock n trip found)
    (below n trip found) (time.each n trip found) (plan.chosen n (hastened early trip) steps at fs)
    (made.each q (get_or widths q 0) steps y fs fw there) all e run r start reset b l

made_net : (early : Bool) (cells : List SizedCell) (rst w : ℕ) (phase : PhaseNet) (ins : List NetId) (choice : ℕ → Choice) (y : ℕ)
    → IsMade early cells rst w phase ins choice y → IsNet cells y w
made_net true cells rst w phase ins choice y h = h.net
made_net false cells rst w phase ins choice y h = h.net

pub columns_nets : (cells : List SizedCell) (rst : ℕ) (counters : Counters) (ins : List NetId) (widths : List ℕ) (early : List Bool)
    (columns : List (List Step)) (out : List NetId) → length widths ≡ length columns → AreColumns cells rst counters ins widths early columns out
    → (q w : ℕ) (y : NetId) → slice_get widths q ≡ Some w → slice_get out q ≡ Some y → IsNet cells y.0 w
columns_nets cells rst counters ins widths early columns out long made q w y f t =
    let l : q < length columns = (let m : q < length widths = slice_get_within widths q w f in omega arith) in
    made_net (is_early early q) cells rst w (counter_for (is_early early q) counters) ins (λ p. choice_in p (get_or columns q [])) y.0
    (made.each q w (get_or columns q []) y (slice_get-get_or columns q [] l) f t)
