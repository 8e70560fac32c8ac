-- Lines and columns, one more at a time.
use Rattle.std.proofs.Common.{ℕ, ◌≡◌, ◌+◌, ◌-◌, ◌<◌, ◌≤◌, inl, inr, Bool, true, false, List, ◌++◌, ◌∷◌, [], length, take, Some, slice_get, get_or, arith, refl, sym, ap, ◌∙◌}
use Rattle.std.proofs.lemmas.List.{take_all, length_push, length-take-le}
use Rattle.std.proofs.lemmas.Option.{slice_get_within, slice_get-get_or}
use Rattle.ae_netlist.specs.declared.cell.NetId.{NetId}
use Rattle.ae_netlist.specs.declared.cell.SizedCell.{SizedCell}
use Rattle.ae_netlist.specs.Circuit.{IsNet, Extends}
use Rattle.ae_netlist.proofs.Gets.{get_push_cases}
use Rattle.ae_netlist.proofs.Growing.{extends_trans, net_later, net_width}
use Rattle.ae_clocked.specs.Delays.{AreTaps}
use Rattle.ae_moves.specs.declared.trip.Source.{Source}
use Rattle.ae_moves.specs.declared.trip.Source.TheVariants.{Place, Fixed}
use Rattle.ae_moves.specs.declared.trip.Trip.{Trip}
use Rattle.ae_moves.specs.declared.trip.Choice.{Choice}
use Rattle.ae_columns.specs.declared.steps.Counters.{Counters}
use Rattle.ae_columns.specs.declared.steps.PhaseNet.{PhaseNet}
use Rattle.ae_columns.specs.declared.steps.Step.{Step}
use Rattle.ae_columns.specs.Early.{IsEarlyColumn, IsMade, counter_for, first_phase, is_early}
use Rattle.ae_columns.specs.Plans.{AreUsed, choice_in, choice_of, choice_from, HasPlace, IsPlan}
use Rattle.ae_columns.specs.Columns.{net_of, IsReady, AreReady}
use Rattle.ae_columns.specs.Laws.{AreLines, AreColumns, AreFitting, FitsColumn}
use Rattle.ae_columns.proofs.Choosing.{column_grows}
use Rattle.ae_moves.proofs.Lists.{take_push}
use Rattle.ae_clocked.proofs.Lining.{taps_grow}

early_grows : (a b : List SizedCell) (rst w phase limit first : ℕ) (ins : List NetId) (choice : ℕ → Choice) (y : ℕ) → Extends a b
    → IsEarlyColumn a rst w phase limit first ins choice y → IsEarlyColumn b rst w phase limit first ins choice y
early_grows a b rst w phase limit first ins choice y g h =
    record {
      net = net_later g h.net;
      words = λ all e run r. h.words all (extends_trans g e) run r;
      begins = λ all e run r. h.begins all (extends_trans g e) run r;
    }

made_grows : (early : Bool) (a b : List SizedCell) (rst w : ℕ) (phase : PhaseNet) (ins : List NetId) (choice : ℕ → Choice) (y : ℕ) → Extends a b
    → IsMade early a rst w phase ins choice y → IsMade early b rst w phase ins choice y
made_grows true a b rst w phase ins choice y g h = early_grows a b rst w phase.net.0 phase.limit (first_phase phase) ins choice y g h
made_grows false a b rst w phase ins choice y g h = column_grows a b rst w phase.net.0 phase.limit ins choice y g h

take_length : {X : Type 0} (xs : List X) (i : ℕ) (x : X) → slice_get xs i ≡ Some x → length (take i xs) ≡ i
take_length xs i x found = let l : i < length xs = slice_get_within xs i x found in length-take-le i xs (omega arith)

pub lines_none : (cells : List SizedCell) (rst : ℕ) (ins : List NetId) → AreLines cells rst ins [] []
lines_none cells rst ins = record { long = refl; each = λ q all nets f t. (let l : q < 0 = slice_get_within [] q all f in absurd (omega arith)) }

pub lines_more : (a b : List SizedCell) (rst w x i : ℕ) (ins : List NetId) (ages : List (List ℕ)) (lines : List (List NetId)) (all : List ℕ)
    (nets : List NetId) → Extends a b → AreLines a rst ins (take i ages) lines
    → slice_get ages i ≡ Some all → x ≡ net_of ins i → IsNet a x w → AreTaps b rst w x all nets → AreLines b rst ins (take (i + 1) ages) (lines ++ nets ∷ [])
lines_more a b rst w x i ins ages lines all nets g h found is net taps =
    let n : length (take i ages) ≡ i = take_length ages i all found in
    let m : length lines ≡ i = h.long ∙ n in
    rw (take_push ages i all found) (record {
      long = length_push lines nets ∙ ap (λ k. k + 1) h.long ∙ sym (length_push (take i ages) all);
      each = λ q these those f t. elim (get_push_cases (take i ages) all q these f) [
        | inl v ↦ elim (get_push_cases lines nets q those t) [
          | inl u ↦ (let l = h.each q these those v.0 u.0 in record { width = l.width; net = net_later g l.net; taps = taps_grow g l.taps })
          | inr u ↦ (let lt : q < length (take i ages) = v.1 in let at : q ≡ length lines = u.0 in absurd (omega arith))
        ]
        | inr v ↦ elim (get_push_cases lines nets q those t) [
          | inl u ↦ (let at : q ≡ length (take i ages) = v.0 in let lt : q < length lines = u.1 in absurd (omega arith))
          | inr u ↦
              let here : q ≡ i = v.0 ∙ n in
              let same : net_of ins q ≡ x = ap (net_of ins) here ∙ sym is in
              rw (same, ← v.1, ← u.1) (record { width = w; net = net_later g net; taps = taps })
        ]
      ];
    })

pub columns_none : (cells : List SizedCell) (rst : ℕ) (counters : Counters) (ins : List NetId) (widths : List ℕ) (early : List Bool)
    → AreColumns cells rst counters ins widths early [] []
columns_none cells rst counters ins widths early =
    record { long = refl; each = λ q w steps y f t u. (let l : q < 0 = slice_get_within [] q steps f in absurd (omega arith)) }

pub columns_more : (a b : List SizedCell) (rst i v : ℕ) (counters : Counters) (ins : List NetId) (widths : List ℕ) (early : List Bool)
    (columns : List (List Step)) (out : List NetId) (all : List Step) (net : NetId) → Extends a b
    → AreColumns a rst counters ins widths early (take i columns) out
    → slice_get columns i ≡ Some all → slice_get widths i ≡ Some v
    → IsMade (is_early early i) b rst v (counter_for (is_early early i) counters) ins (λ p. choice_in p all) net.0
    → AreColumns b rst counters ins widths early (take (i + 1) columns) (out ++ net ∷ [])
columns_more a b rst i v counters ins widths early columns out all net g h found wide new =
    let n : length (take i columns) ≡ i = take_length columns i all found in
    let m : length out ≡ i = h.long ∙ n in
    rw (take_push columns i all found) (record {
      long = length_push out net ∙ ap (λ k. k + 1) h.long ∙ sym (length_push (take i columns) all);
      each = λ q w these y f t u. elim (get_push_cases (take i columns) all q these f) [
        | inl d ↦ elim (get_push_cases out net q y u) [
          | inl e ↦ made_grows (is_early early q) a b rst w (counter_for (is_early early q) counters) ins (λ p. choice_in p these) y.0 g
              (h.each q w these y d.0 t e.0)
          | inr e ↦ (let lt : q < length (take i columns) = d.1 in let at : q ≡ length out = e.0 in absurd (omega arith))
        ]
        | inr d ↦ elim (get_push_cases out net q y u) [
          | inl e ↦ (let at : q ≡ length (take i columns) = d.0 in let lt : q < length out = e.1 in absurd (omega arith))
          | inr e ↦
              let here : q ≡ i = d.0 ∙ n in
              let f2 : slice_get widths i ≡ Some w = rw here at t in
              let same : v ≡ w = cc in
              rw (here, ← same, ← d.1, ← e.1) new
        ]
      ];
    })

pub lines_whole : (cells : List SizedCell) (rst i : ℕ) (ins : List NetId) (ages : List (List ℕ)) (lines : List (List NetId)) → length ages ≤ i
    → AreLines cells rst ins (take i ages) lines → AreLines cells rst ins ages lines
lines_whole cells rst i ins ages lines l h = rw (take_all i ages l) at h

pub columns_whole : (cells : List SizedCell) (rst i : ℕ) (counters : Counters) (ins : List NetId) (widths : List ℕ) (early : List Bool)
    (columns : List (List Step)) (out : List NetId) → length columns ≤ i → AreColumns cells rst counters ins widths early (take i columns) out
    → AreColumns cells rst counters ins widths early columns out
columns_whole cells rst i counters ins widths early columns out l h = rw (take_all i columns l) at h

-- ---- a planned step can be built

step_ready : (cells : List SizedCell) (rst w : ℕ) (ins : List NetId) (ages : List (List ℕ)) (lines : List (List NetId)) (d c tap : ℕ) (source : Source)
    → AreLines cells rst ins ages lines → FitsColumn cells ins w source → HasPlace ages tap (choice_from d c source)
    → IsReady cells rst w ins lines tap (choice_from d c source)
step_ready cells rst w ins ages lines d c tap (Place k column) made fits place =
    let in_ages : column < length ages = slice_get_within ages column place.0 place.1 in
    let nets : List NetId = get_or lines column [] in
    let there : slice_get lines column ≡ Some nets = slice_get-get_or lines column [] (let l : length lines ≡ length ages = made.long in omega arith) in
    let h = made.each column place.0 nets place.1 there in
    let inside : tap < length place.0 = slice_get_within place.0 tap (c + d - k) place.2 in
    let none : NetId = record { 0 = 0 } in
    let y : NetId = get_or nets tap none in
    let found : slice_get nets tap ≡ Some y = slice_get-get_or nets tap none (let l : length nets ≡ length place.0 = h.taps.long in omega arith) in
    let same : h.width ≡ w = sym (net_width h.net) ∙ net_width fits in
    record { nets = nets; y = y; line = there; found = found; taps = rw same at (h.taps.each tap (c + d - k) y place.2 found) }
step_ready cells rst w ins ages lines d c tap (Fixed v) made fits place = fits

pub steps_ready : (cells : List SizedCell) (rst w q limit d : ℕ) (ins : List NetId) (widths : List ℕ) (trips : List Trip) (ages : List (List ℕ))
    (lines : List (List NetId)) (columns : List (List Step)) (steps : List Step)
    → AreLines cells rst ins ages lines → AreFitting cells ins widths trips → ((n : ℕ) (trip : Trip) → slice_get trips n ≡ Some trip → trip.clock < limit)
    → IsPlan d trips ages columns
    → slice_get columns q ≡ Some steps → slice_get widths q ≡ Some w → AreReady cells rst w limit ins lines steps
steps_ready cells rst w q limit d ins widths trips ages lines columns steps made fitting below plan there wide = record {
  low = fitting.low q w wide;
  high = fitting.high q w wide;
  ready = λ k step found.
      let o = plan.from q k steps step there found in
      let wide_at : slice_get widths o.1.column ≡ Some w = rw o.3 wide in
      let place : HasPlace ages step.tap (choice_of d o.1) = rw o.5 at (plan.taps q k steps step there found) in
      rw o.5 (step_ready cells rst w ins ages lines d o.1.clock step.tap o.1.source made (fitting.fits o.0 w o.1 o.2 wide_at) place);
  within = λ k step found.
      let o = plan.from q k steps step there found in
      let l : o.1.clock < limit = below o.0 o.1 o.2 in
      rw o.4 (omega arith);
}

pub fitting_grows : (a b : List SizedCell) (ins : List NetId) (widths : List ℕ) (trips : List Trip) → Extends a b → AreFitting a ins widths trips
    → AreFitting b ins widths trips
fitting_grows a b ins widths trips g h = record { low = h.low; high = h.high; fits = λ n w trip f t. each w trip.source (h.fits n w trip f t) }
  where
    each : (w : ℕ) (source : Source) → FitsColumn a ins w source → FitsColumn b ins w source
    each w (Place k column) h = net_later g h
    each w (Fixed v) h = h

-- ---- sums of what is built

pub lines_begin : (cells : List SizedCell) (rst : ℕ) (ins : List NetId) (lines : List (List NetId)) → lines ≡ [] → AreLines cells rst ins [] lines
lines_begin cells rst ins lines e = rw e (lines_none cells rst ins)

pub columns_begin : (cells : List SizedCell) (rst : ℕ) (counters : Counters) (ins : List NetId) (widths : List ℕ) (early : List Bool) (out : List NetId)
    → out ≡ [] → AreColumns cells rst counters ins widths early [] out
columns_begin cells rst counters ins widths early out e = rw e (columns_none cells rst counters ins widths early)

-- each column has a step, where each has a trip
pub begun_of : (d outs : ℕ) (trips : List Trip) (lines : List (List ℕ)) (columns : List (List Step)) → IsPlan d trips lines columns → AreUsed outs trips
    → length columns ≡ outs
    → (q : ℕ) (steps : List Step) → slice_get columns q ≡ Some steps → 1 ≤ length steps
begun_of d outs trips lines columns plan used long q steps found =
    let l : q < length columns = slice_get_within columns q steps found in
    let u = used.each q (omega arith) in
    plan.some u.0 u.1 steps u.2 (rw u.3 found)
