-- Columns that choose by phases make each trip of each block.
use Rattle.std.proofs.Common.{ℕ, ◌≡◌, ◌+◌, ◌-◌, ◌*◌, ◌/◌, ◌%◌, ◌<◌, ◌≤◌, List, length, arith, refl, ap, ◌∙◌}
use Rattle.std.proofs.Math.Nat.{add-mul}
use Rattle.std.proofs.lemmas.Nat.{mod-mul-add, div-add-mod'}
use Rattle.ae_netlist.specs.declared.cell.NetId.{NetId}
use Rattle.ae_netlist.specs.declared.cell.SizedCell.{SizedCell}
use Rattle.ae_netlist.specs.Circuit.{Extends}
use Rattle.ae_netlist.specs.Runs.{Clock, word_at, IsRun, IsReset}
use Rattle.ae_clocked.specs.Phases.{phase_of, IsCounter}
use Rattle.ae_moves.specs.declared.trip.Source.{Source}
use Rattle.ae_moves.specs.declared.trip.Source.TheVariants.{Place, Fixed}
use Rattle.ae_moves.specs.declared.trip.Trip.{Trip}
use Rattle.ae_columns.specs.declared.steps.Step.{Step}
use Rattle.ae_columns.specs.Plans.{choice_from, choice_of, choice_in, IsReached}
use Rattle.ae_columns.specs.Columns.{net_of, age_of, taken, IsColumn}
use Rattle.ae_columns.specs.Laws.{sourced}

-- the phase of clock k of a block, where phase 0 is the first clock of the blocks that begin at s
pub phase_in_block : (p s b k : ℕ) → k < p → phase_of p (s % p) (s + b * p + k) ≡ k
unfolding phase_of
phase_in_block p s b k small =
    let q : ℕ = s / p in
    let parts : q * p + s % p ≡ s = div-add-mod' s p in
    let sum_b : (q + b + 1) * p ≡ (q + b) * p + 1 * p = add-mul (q + b) 1 p in
    let sum_q : (q + b) * p ≡ q * p + b * p = add-mul q b p in
    let e : s + b * p + k + p - s % p ≡ (q + b + 1) * p + k = omega (arith, parts, sum_b, sum_q) in
    ap (λ n. n % p) e ∙ mod-mul-add (q + b + 1) p k small

age_within : (d c a : ℕ) (source : Source) → IsReached d c source → age_of (choice_from d c source) ≤ a + d + c
age_within d c a (Place k column) h = omega arith
age_within d c a (Fixed w) h = omega arith

-- what the choice of a trip takes d clocks later is the word of its source
taken_is : (run : List Clock) (start a d c : ℕ) (ins : List NetId) (source : Source) → IsReached d c source
    → taken run start (a + d + c) ins (choice_from d c source) ≡ sourced run start a ins source
taken_is run start a d c ins (Place k column) h =
    let t : a + d + c - (c + d - k) ≡ a + k = omega arith in
    ap (λ n. word_at run (start + n) (net_of ins column)) t
taken_is run start a d c ins (Fixed w) h = refl

-- one column
pub column_trip : (cells : List SizedCell) (rst w period d arrival offset limit : ℕ) (ins : List NetId) (steps : List Step) (phase y : NetId) (trip : Trip)
    → offset ≡ (arrival + d) % period → trip.clock < period → trip.clock < limit → IsReached d trip.clock trip.source
    → choice_in trip.clock steps ≡ choice_of d trip
    → IsCounter cells rst (record { period = period; offset = offset }) phase.0 → IsColumn cells rst w phase.0 limit ins (λ p. choice_in p steps) y.0
    → (all : List SizedCell) → Extends cells all → (run : List Clock) → IsRun all run → (start : ℕ) → IsReset run rst start
    → (b : ℕ) → start + (arrival + d + b * period + trip.clock) < length run
    → word_at run (start + (arrival + d + b * period + trip.clock)) y.0 ≡ sourced run start (arrival + b * period) ins trip.source
column_trip cells rst w period d arrival offset limit ins steps phase y trip off small below reached chooses counter column all e run r start reset b l =
    let c : ℕ = arrival + d + b * period + trip.clock in
    let at : word_at run (start + c) phase.0 ≡ phase_of period offset c = counter.words all e run r start reset c l in
    let in_block : phase_of period ((arrival + d) % period) c ≡ trip.clock = phase_in_block period (arrival + d) b trip.clock small in
    let here : word_at run (start + c) phase.0 ≡ trip.clock = at ∙ ap (λ o. phase_of period o c) off ∙ in_block in
    let takes : choice_in (word_at run (start + c) phase.0) steps ≡ choice_of d trip = ap (λ p. choice_in p steps) here ∙ chooses in
    let again : c ≡ arrival + b * period + d + trip.clock = omega arith in
    let old : age_of (choice_of d trip) ≤ c = rw again (age_within d trip.clock (arrival + b * period) trip.source reached) in
    let word = column.words all e run r start reset c (rw here below) (rw takes old) l in
    word ∙ ap (taken run start c ins) takes ∙ ap (λ n. taken run start n ins (choice_of d trip)) again ∙
    taken_is run start (arrival + b * period) d trip.clock ins trip.source reached
