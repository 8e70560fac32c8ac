-- Columns of fixed words show the places that are read.
use Rattle.std.proofs.Common.{ℕ, ◌≡◌, ◌+◌, ◌-◌, ◌%◌, ◌<◌, ◌≤◌, Bool, false, List, [], length, Some, slice_get, get_or, arith, ap, ◌∙◌}
use Rattle.std.proofs.lemmas.Option.{slice_get_within, slice_get-get_or}
use Rattle.ae_netlist.specs.declared.cell.NetId.{NetId}
use Rattle.ae_netlist.specs.declared.cell.SizedCell.{SizedCell}
use Rattle.ae_netlist.specs.Circuit.{Extends}
use Rattle.ae_netlist.proofs.Growing.{extends_trans}
use Rattle.ae_netlist.specs.Runs.{word_at}
use Rattle.ae_clocked.specs.Phases.{phase_of}
use Rattle.ae_moves.specs.declared.trip.Choice.TheVariants.{Constant}
use Rattle.ae_moves.specs.declared.trip.Trip.{Trip}
use Rattle.ae_gather.specs.declared.reads.Reads.{Reads}
use Rattle.ae_columns.specs.declared.steps.Counters.{Counters}
use Rattle.ae_columns.specs.declared.steps.PhaseNet.{PhaseNet}
use Rattle.ae_columns.specs.declared.steps.Step.{Step}
use Rattle.ae_columns.specs.Columns.{IsColumn, IsPhaseNet, net_of, taken}
use Rattle.ae_columns.specs.Early.{is_early}
use Rattle.ae_columns.specs.Laws.{AreColumns, AreFitting, AreLines, FitsColumn}
use Rattle.ae_columns.specs.Plans.{AreWithin, IsPlan, choice_from, choice_in}
use Rattle.ae_gather.specs.Readers.{ShowsPlaces}
use Rattle.ae_gather.specs.Reads.{ArePlaced}
use Rattle.ae_columns.proofs.Registered.{sooner_phase}
use Rattle.ae_gather.proofs.Rereads.{placed_trip}

pub places_shown : (cells : List SizedCell) (rst period d arrival limit outs : ℕ) (phase : PhaseNet) (counters : Counters) (widths : List ℕ)
    (early : List Bool) (places : List Trip) (lines : List (List ℕ)) (columns : List (List Step)) (out : List NetId)
    → AreWithin period d 0 outs places → ((n : ℕ) (trip : Trip) → slice_get places n ≡ Some trip → trip.clock < limit) → IsPlan d places lines columns
    → length columns ≡ outs → length widths ≡ outs → ((q : ℕ) → is_early early q ≡ false)
    → counters.later ≡ phase → IsPhaseNet cells rst phase → phase.period ≡ period → phase.limit ≡ limit
    → phase.offset ≡ ((arrival + d) % period + (period - 1)) % period
    → AreColumns cells rst counters [] widths early columns out → ShowsPlaces cells rst period d arrival out places
places_shown cells rst period d arrival limit outs phase counters widths early places lines columns out within below plan long wide off is has periodic limits
    offsets made =
    λ all e run r start reset b n c w trip found fixed next l.
    let q : ℕ = trip.column in
    let lq : q < outs = within.column n trip found in
    let none : NetId = record { 0 = 0 } in
    let steps : List Step = get_or columns q [] in
    let fs : slice_get columns q ≡ Some steps = slice_get-get_or columns q [] (omega (arith, long)) in
    let fw : slice_get widths q ≡ Some (get_or widths q 0) = slice_get-get_or widths q 0 (omega (arith, wide)) in
    let fy : slice_get out q ≡ Some (get_or out q none) = slice_get-get_or out q none (omega (arith, made.long, long)) in
    let column : IsColumn cells rst (get_or widths q 0) phase.net.0 phase.limit [] (λ p. choice_in p steps) (net_of out q) = rw (off q, is) at
    (made.each q (get_or widths q 0) steps (get_or out q none) fs fw fy) in
    let at : word_at run (start + c) phase.net.0 ≡ phase_of phase.period phase.offset c = has.counts.words all e run r start reset c l in
    let small : trip.clock < period = within.clock n trip found in
    let here : word_at run (start + c) phase.net.0 ≡ trip.clock = at ∙ ap (λ p. phase_of p phase.offset c) periodic ∙ ap (λ o. phase_of period o c) offsets ∙
    sooner_phase period (arrival + d) b trip.clock c small next in
    let takes : choice_in (word_at run (start + c) phase.net.0) steps ≡ Constant w = ap (λ p. choice_in p steps) here ∙ plan.chosen n trip steps found fs ∙
    ap (choice_from d trip.clock) fixed in
    let soon : trip.clock < phase.limit = rw limits (below n trip found) in
    column.words all e run r start reset c (rw here soon) (rw takes (omega arith)) l ∙ ap (taken run start c []) takes

pub fitting_places : (cells : List SizedCell) (bits : ℕ) (widths : List ℕ) (places : List Trip) → 1 ≤ bits → bits ≤ 64
    → ((q w : ℕ) → slice_get widths q ≡ Some w → w ≡ bits) → ((n : ℕ) (trip : Trip) → slice_get places n ≡ Some trip → FitsColumn cells [] bits trip.source)
    → AreFitting cells [] widths places
fitting_places cells bits widths places low high each fits = record {
  low = λ q w f. omega (arith, each q w f);
  high = λ q w f. omega (arith, each q w f);
  fits = λ n w trip f wide. rw (each trip.column w wide) (fits n trip f);
}

pub fits_placed : (cells : List SizedCell) (d count : ℕ) (reads : Reads) (trips places : List Trip) → count ≡ length trips
    → ArePlaced count d reads trips places → (n : ℕ) (trip : Trip) → slice_get places n ≡ Some trip → FitsColumn cells [] reads.bits trip.source
fits_placed cells d count reads trips places all h n trip f = let o = placed_trip d count n reads trips places trip all h f in rw o.3 o.4

pub no_lines : (cells : List SizedCell) (rst : ℕ) (ages : List (List ℕ)) → length ages ≡ 0 → AreLines cells rst [] ages []
no_lines cells rst ages none =
    record { long = omega (arith, none); each = λ q all nets f t. (let l : q < length ages = slice_get_within ages q all f in absurd (omega (arith, none))) }

pub shows_later : (a b : List SizedCell) (rst period d arrival : ℕ) (nets : List NetId) (places : List Trip) → Extends a b
    → ShowsPlaces a rst period d arrival nets places → ShowsPlaces b rst period d arrival nets places
shows_later a b rst period d arrival nets places g h = λ all e run r start reset. h all (extends_trans g e) run r start reset
