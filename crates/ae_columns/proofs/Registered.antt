-- A column that is chosen a clock early and then put in a register.
use Rattle.std.proofs.Common.{ℕ, zero, suc, ◌≡◌, ◌+◌, ◌-◌, ◌*◌, ◌%◌, ◌<◌, ◌≤◌, ◌==◌, if◌then◌else◌, List, ◌∷◌, [], length, arith, refl, sym, ap, ◌∙◌}
use Rattle.std.proofs.Math.Nat.{add-mod, mod-mod, add-mod_right, mod-eq_of_lt}
use Rattle.ae_word.specs.declared.op.WordOp.TheVariants.{Mux}
use Rattle.ae_netlist.specs.declared.cell.NetId.{NetId}
use Rattle.ae_netlist.specs.declared.cell.SizedCell.{SizedCell}
use Rattle.ae_netlist.specs.Circuit.{IsNet, Extends}
use Rattle.ae_netlist.specs.Runs.{Clock, word_at, IsRun, IsReset, InEveryRunFrom}
use Rattle.ae_netlist.proofs.Growing.{extends_trans}
use Rattle.ae_netlist.proofs.Carried.{carries_extends}
use Rattle.ae_gates.specs.Cells.{IsConstant, IsResult}
use Rattle.ae_clocked.specs.Signals.{IsNextOf}
use Rattle.ae_clocked.specs.Phases.{phase_of, IsCounter}
use Rattle.ae_moves.specs.declared.trip.Source.{Source}
use Rattle.ae_moves.specs.declared.trip.Source.TheVariants.{Place, Fixed}
use Rattle.ae_moves.specs.declared.trip.Choice.{Choice}
use Rattle.ae_moves.specs.declared.trip.Choice.TheVariants.{Delayed, Constant}
use Rattle.ae_moves.specs.declared.trip.Trip.{Trip}
use Rattle.ae_columns.specs.declared.steps.Step.{Step}
use Rattle.ae_columns.specs.Plans.{choice_from, choice_in, IsReached}
use Rattle.ae_columns.specs.Columns.{age_of, net_of, taken, IsColumn}
use Rattle.ae_columns.specs.Early.{next_source, IsEarlyColumn}
use Rattle.ae_columns.specs.Laws.{sourced}
use Rattle.ae_columns.proofs.TripLaw.{phase_in_block}

-- a register alone, where the word of the first clock is not asked
pub delayed_column : (a b : List SizedCell) (rst w phase limit first q age f : ℕ) (ins : List NetId) (choice : ℕ → Choice) (x : ℕ) (y : NetId)
    → Extends a b → choice first ≡ Delayed q age
    → IsColumn a rst w phase limit ins choice x → IsNet b y.0 w → InEveryRunFrom f b (λ run. IsNextOf run y.0 x)
    → IsEarlyColumn b rst w phase limit first ins choice y.0
delayed_column a b rst w phase limit first q age f ins choice x y g late h net next = record {
  net = net;
  words = λ all e run r start reset c small le l.
      let m : start + c + 1 < length run = omega arith in
      let step : word_at run (start + c + 1) y.0 ≡ word_at run (start + c) x = next all (carries_extends f e) run r (start + c) m in
      let at : start + (c + 1) ≡ start + c + 1 = omega arith in
      ap (λ t. word_at run t y.0) at ∙ step ∙ h.words all (extends_trans g e) run r start reset c small le (omega arith);
  begins = λ all e run r start reset v chosen l. cc;
}

-- a register that is set in reset, where the word of the first clock is fixed
pub reset_column : (a b : List SizedCell) (rst w phase limit first v fk fm fy : ℕ) (ins : List NetId) (choice : ℕ → Choice) (k m reset_net : NetId) (x : NetId)
    (y : NetId) → reset_net.0 ≡ rst → Extends a b → choice first ≡ Constant v
    → IsColumn a rst w phase limit ins choice x.0 → IsNet b y.0 w
    → InEveryRunFrom fk b (λ run. IsConstant run k.0 v) → InEveryRunFrom fm b (λ run. IsResult run m.0 Mux w (reset_net ∷ k ∷ x ∷ []))
    → InEveryRunFrom fy b (λ run. IsNextOf run y.0 m.0) → IsEarlyColumn b rst w phase limit first ins choice y.0
reset_column a b rst w phase limit first v fk fm fy ins choice k m reset_net x y same g fixed h net ck cm next = record {
  net = net;
  words = λ all e run r start reset c small le l.
      let l1 : start + c + 1 < length run = omega arith in
      let l0 : start + c < length run = omega arith in
      let step : word_at run (start + c + 1) y.0 ≡ word_at run (start + c) m.0 = next all (carries_extends fy e) run r (start + c) l1 in
      let at : start + (c + 1) ≡ start + c + 1 = omega arith in
      let mux : word_at run (start + c) m.0 ≡ (if word_at run (start + c) reset_net.0 == 1 then word_at run (start + c) k.0 else word_at run
      (start + c) x.0) = cm all (carries_extends fm e) run r (start + c) l0 in
      let low : word_at run (start + c) rst ≡ 0 = reset.low (start + c) (omega arith) l0 in
      let low_net : word_at run (start + c) reset_net.0 ≡ 0 = rw same low in
      let here : word_at run (start + c) m.0 ≡ word_at run (start + c) x.0 = rw low_net at mux in
      ap (λ t. word_at run t y.0) at ∙ step ∙ here ∙ h.words all (extends_trans g e) run r start reset c small le l0;
  begins = λ all e run r start reset u chosen l.
      let some : 1 ≤ start = reset.some in
      let t : ℕ = start - 1 in
      let at : start ≡ t + 1 = omega arith in
      let l1 : t + 1 < length run = omega arith in
      let l0 : t < length run = omega arith in
      let step : word_at run (t + 1) y.0 ≡ word_at run t m.0 = next all (carries_extends fy e) run r t l1 in
      let mux : word_at run t m.0 ≡ (if word_at run t reset_net.0 == 1 then word_at run t k.0 else word_at run t x.0) = cm all
      (carries_extends fm e) run r t l0 in
      let high : word_at run t rst ≡ 1 = reset.high t (omega arith) l0 in
      let high_net : word_at run t reset_net.0 ≡ 1 = rw same high in
      let here : word_at run t m.0 ≡ word_at run t k.0 = rw high_net at mux in
      let word : word_at run t k.0 ≡ v = ck all (carries_extends fk e) run r t l0 in
      let is : v ≡ u = cc in
      ap (λ n. word_at run n y.0) at ∙ step ∙ here ∙ word ∙ is;
}

pub delayed_columns : (a b : List SizedCell) (rst w q age f : ℕ) (x : ℕ) (y : NetId) → Extends a b → IsNet b y.0 w
    → InEveryRunFrom f b (λ run. IsNextOf run y.0 x)
    → (phase limit p : ℕ) (ins : List NetId) (choice : ℕ → Choice) → choice p ≡ Delayed q age → IsColumn a rst w phase limit ins choice x
    → IsEarlyColumn b rst w phase limit p ins choice y.0
delayed_columns a b rst w q age f x y g net next =
    λ phase limit p ins choice late h. delayed_column a b rst w phase limit p q age f ins choice x y g late h net next

pub reset_columns : (a b : List SizedCell) (rst w v fk fm fy : ℕ) (k m reset_net x : NetId) (y : NetId) → reset_net.0 ≡ rst → Extends a b
    → IsNet b y.0 w
    → InEveryRunFrom fk b (λ run. IsConstant run k.0 v) → InEveryRunFrom fm b (λ run. IsResult run m.0 Mux w (reset_net ∷ k ∷ x ∷ []))
    → InEveryRunFrom fy b (λ run. IsNextOf run y.0 m.0)
    → (phase limit p : ℕ) (ins : List NetId) (choice : ℕ → Choice) → choice p ≡ Constant v → IsColumn a rst w phase limit ins choice x.0
    → IsEarlyColumn b rst w phase limit p ins choice y.0
reset_columns a b rst w v fk fm fy k m reset_net x y same g net ck cm next =
    λ phase limit p ins choice fixed h. reset_column a b rst w phase limit p v fk fm fy ins choice k m reset_net x y same g fixed h net ck cm next

-- what is so of every column is so of this one
pub early_of : (a b : List SizedCell) (rst w phase limit p : ℕ) (ins : List NetId) (choice : ℕ → Choice) (x : ℕ) (y : NetId) (first : Choice)
    → choice p ≡ first → IsColumn a rst w phase limit ins choice x
    → ((phase limit p : ℕ) (ins : List NetId) (choice : ℕ → Choice) → choice p ≡ first → IsColumn a rst w phase limit ins choice x
    → IsEarlyColumn b rst w phase limit p ins choice y.0) → IsEarlyColumn b rst w phase limit p ins choice y.0
early_of a b rst w phase limit p ins choice x y first is h all = all phase limit p ins choice is h

-- ---- a trip of a column that is chosen early

-- a counter goes round
goes_round : (p o c : ℕ) → o < p → phase_of p o (c + p) ≡ phase_of p o c
unfolding phase_of
goes_round p o c l = let e : c + p + p - o ≡ c + p - o + p = omega arith in ap (λ n. n % p) e ∙ add-mod_right (c + p - o) p

same_offset : (a p : ℕ) → (a % p + (p - 1)) % p ≡ (a + (p - 1)) % p
same_offset a p = add-mod (a % p) (p - 1) p ∙ ap (λ n. (n + (p - 1) % p) % p) (mod-mod a p) ∙ sym (add-mod a (p - 1) p)

-- the phase of the clock before that of a trip, by the counter that is a clock ahead
pub sooner_phase : (p a b k c : ℕ) → k < p → a + b * p + k ≡ c + 1 → phase_of p ((a % p + (p - 1)) % p) c ≡ k
sooner_phase p a b k c small e =
    let o : ℕ = (a % p + (p - 1)) % p in
    let less : o < p = omega arith in
    let clock : a + (p - 1) + b * p + k ≡ c + p = omega arith in
    let block : phase_of p ((a + (p - 1)) % p) (a + (p - 1) + b * p + k) ≡ k = phase_in_block p (a + (p - 1)) b k small in
    let there : phase_of p o (c + p) ≡ k = ap (λ n. phase_of p n (c + p)) (same_offset a p) ∙ ap (phase_of p ((a + (p - 1)) % p)) (sym clock) ∙ block in
    sym (goes_round p o c less) ∙ there

age_early : (d k a c : ℕ) (source : Source) → IsReached d k (next_source source) → a + d + k ≡ c + 1 → age_of (choice_from d k (next_source source)) ≤ c
age_early d k a c (Place p column) h e = omega arith
age_early d k a c (Fixed w) h e = omega arith

-- what it takes is the word of its source
taken_early : (run : List Clock) (start a d k c : ℕ) (ins : List NetId) (source : Source) → IsReached d k (next_source source) → a + d + k ≡ c + 1
    → taken run start c ins (choice_from d k (next_source source)) ≡ sourced run start a ins source
taken_early run start a d k c ins (Place p column) h e =
    let t : c - (k + d - (p + 1)) ≡ a + p = omega arith in
    ap (λ n. word_at run (start + n) (net_of ins column)) t
taken_early run start a d k c ins (Fixed w) h e = refl

-- in the first clock only a fixed word can be asked
first_word : (run : List Clock) (start d k a y : ℕ) (ins : List NetId) (choice : Choice) (source : Source) → d + k ≡ 0 → IsReached d k (next_source source)
    → choice ≡ choice_from d k (next_source source) → ((w : ℕ) → choice ≡ Constant w → y ≡ w) → y ≡ sourced run start a ins source
first_word run start d k a y ins choice (Place p column) none h is begins = absurd (omega arith)
first_word run start d k a y ins choice (Fixed w) none h is begins = begins w is

first_offset : (a p o : ℕ) → a ≡ 0 → 1 ≤ p → o ≡ (a % p + (p - 1)) % p → o ≡ p - 1
first_offset a p o none some is =
    let at : a + (p - 1) ≡ p - 1 = omega arith in
    let less : p - 1 < p = omega arith in
    is ∙ same_offset a p ∙ ap (λ n. n % p) at ∙ mod-eq_of_lt less

pub early_trip : (cells : List SizedCell) (rst w period d arrival offset limit : ℕ) (ins : List NetId) (steps : List Step) (phase y : NetId) (trip : Trip)
    → offset ≡ ((arrival + d) % period + (period - 1)) % period → trip.clock < period → trip.clock < limit → IsReached d trip.clock (next_source trip.source)
    → choice_in trip.clock steps ≡ choice_from d trip.clock (next_source trip.source)
    → IsCounter cells rst (record { period = period; offset = offset }) phase.0
    → IsEarlyColumn cells rst w phase.0 limit (period - 1 - offset) ins (λ p. choice_in p steps) y.0
    → (all : List SizedCell) → Extends cells all → (run : List Clock) → IsRun all run → (start : ℕ) → IsReset run rst start
    → (b : ℕ) → start + (arrival + d + b * period + trip.clock) < length run
    → word_at run (start + (arrival + d + b * period + trip.clock)) y.0 ≡ sourced run start (arrival + b * period) ins trip.source
early_trip cells rst w period d arrival offset limit ins steps phase y trip off small below reached chooses counter column all e run r start reset b l =
    by (arrival + d + b * period + trip.clock) refl
  where
    by : (n : ℕ) → arrival + d + b * period + trip.clock ≡ n
        → word_at run (start + (arrival + d + b * period + trip.clock)) y.0 ≡ sourced run start (arrival + b * period) ins trip.source
    by zero is =
        let o : offset ≡ period - 1 = first_offset (arrival + d) period offset (omega arith) (omega arith) off in
        let first : period - 1 - offset ≡ trip.clock = omega arith in
        let chosen : choice_in (period - 1 - offset) steps ≡ choice_from d trip.clock (next_source trip.source) = ap (λ p. choice_in p steps) first ∙ chooses in
        let at : start + (arrival + d + b * period + trip.clock) ≡ start = omega arith in
        ap (λ n. word_at run n y.0) at ∙ first_word run start d trip.clock (arrival + b * period) (word_at run start y.0) ins
        (choice_in (period - 1 - offset) steps) trip.source (omega arith) reached chosen (λ v h. column.begins all e run r start reset v h (omega arith))
    by (suc c) is =
        let next : arrival + d + b * period + trip.clock ≡ c + 1 = omega arith in
        let at : word_at run (start + c) phase.0 ≡ phase_of period offset c = counter.words all e run r start reset c (omega arith) in
        let here : word_at run (start + c) phase.0 ≡ trip.clock = at ∙ ap (λ o. phase_of period o c) off ∙
        sooner_phase period (arrival + d) b trip.clock c small next in
        let takes : choice_in (word_at run (start + c) phase.0) steps ≡ choice_from d trip.clock (next_source trip.source) = ap (λ p. choice_in p steps) here ∙
        chooses in
        let again : arrival + b * period + d + trip.clock ≡ c + 1 = omega arith in
        let old : age_of (choice_from d trip.clock (next_source trip.source)) ≤ c = age_early d trip.clock (arrival + b * period) c trip.source reached again in
        let word = column.words all e run r start reset c (rw here below) (rw takes old) (omega arith) in
        ap (λ n. word_at run (start + n) y.0) next ∙ word ∙ ap (taken run start c ins) takes ∙
        taken_early run start (arrival + b * period) d trip.clock c ins trip.source reached again
