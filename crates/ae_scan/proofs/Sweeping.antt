-- Levels of a sweep double the windows, and a window as wide as the lanes is a prefix fold.
use Rattle.std.proofs.Common.{ℕ, suc, ◌≡◌, ◌+◌, ◌-◌, ◌*◌, ◌/◌, ◌%◌, ◌^◌, ◌<◌, ◌≤◌, inl, inr, nat_lt, not, true, false, List, ◌++◌, ◌∷◌, [], length, get_or, Some, slice_get, arith, refl, sym, ap, ◌∙◌, subst, rules}
use Rattle.std.proofs.Math.Nat.{pow-succ', add-mul, mul_assoc, mul-le-mul_right}
use Rattle.std.proofs.lemmas.Bool.{cases_lt}
use Rattle.std.proofs.lemmas.Nat.{div_below, mod_below, div-add-mod', mod-mul-add, mul-add-lt, pow_pos}
use Rattle.std.proofs.lemmas.Option.{slice_get-get_or, slice_get_within}
use Rattle.ae_word.specs.declared.op.WordOp.{WordOp}
use Rattle.ae_word.specs.WordTable.{bit}
use Rattle.ae_netlist.specs.declared.cell.NetId.{NetId}
use Rattle.ae_netlist.specs.declared.cell.SizedCell.{SizedCell}
use Rattle.ae_netlist.specs.Circuit.{Circuit, IsNet, Extends}
use Rattle.ae_netlist.specs.Runs.{Clock, IsRun, InEveryRun, InEveryRunFrom}
use Rattle.ae_netlist.proofs.Gets.{get_push_cases}
use Rattle.ae_netlist.proofs.Growing.{extends_trans, net_later}
use Rattle.ae_netlist.proofs.Carried.{carries_extends}
use Rattle.ae_gates.specs.Cells.{Adds}
use Rattle.ae_clocked.specs.Signals.{IsNextOf}
use Rattle.ae_gates.proofs.Adding.{adds_same, adds_trans}
use Rattle.ae_ops.specs.Folds.{IsFold, fold_to}
use Rattle.ae_gates.proofs.Fits.{held_fits}
use Rattle.ae_fold.specs.declared.words.WordFold.{WordFold}
use Rattle.ae_fold.specs.Feedback.{IsJoined}
use Rattle.ae_fold.specs.Folding.{AreFolds, Fit, fold_at}
use Rattle.ae_fold.specs.Rows.{AreFoldNets, AreOverLanes, net_at, row_word}
use Rattle.ae_fold.proofs.Associative.{fold_cut, fold_same, fold_zero}
use Rattle.ae_fold.proofs.Blocks.{same_place, turns_of}
use Rattle.ae_fold.proofs.Feeding.{adds_is}
use Rattle.ae_fold.proofs.Looping.{fold_op}
use Rattle.ae_scan.specs.Sweeps.{AreJoins, AreWindows, IsJoin, IsSweep, Windowed}
use Rattle.ae_scan.specs.Scans.{sweep_joins}

-- ---- windows

pub windows_first : (op : WordOp) (w : ℕ) (x : ℕ → ℕ) (n : ℕ) → AreWindows op w x x 1 n
windows_first op w x n = record {
  few = λ l ln l1. (let z : l ≡ 0 = omega arith in rw z (sym (fold_zero op w x)));
  many = λ l ln l1. (let z : l + 1 - 1 + 0 ≡ l = omega arith in sym (fold_zero op w (λ i. x (l + 1 - 1 + i)) ∙ ap x z));
}

pub windows_more : (op : WordOp) (w : ℕ) (x f g : ℕ → ℕ) (s n : ℕ) → IsFold op → Fit w x (n - 1) → 1 ≤ s → AreWindows op w x f s n → IsSweep op w f g s n
    → AreWindows op w x g (2 * s) n
windows_more op w x f g s n ok fit pos h sweep = record {
  few = λ l ln l2. elim (cases_lt l s) [
    | inl below ↦ sweep.stay l ln below ∙ h.few l ln below
    | inr above ↦
        let m : ℕ = l - s in
        let left : f m ≡ fold_to op w x m = h.few m (omega arith) (omega arith) in
        let right : f l ≡ fold_to op w (λ i. x (l + 1 - s + i)) (s - 1) = h.many l ln above in
        let all_of : l ≡ suc (m + (s - 1)) = omega arith in
        let same : fold_to op w (λ i. x (l + 1 - s + i)) (s - 1) ≡ fold_to op w (λ i. x (suc (m + i))) (s - 1) = fold_same op w _ _ (s - 1)
        (λ i li. ap x (let e : l + 1 - s + i ≡ suc (m + i) = omega arith in e)) in
        sweep.join l ln above ∙ rw (left, right, same) (sym (fold_cut op w x m (s - 1) ok (record { each = λ i li. fit.each i (omega arith) }))) ∙
        ap (fold_to op w x) (sym all_of)
  ];
  many = λ l ln l2.
      let m : ℕ = l - s in
      let left : f m ≡ fold_to op w (λ i. x (m + 1 - s + i)) (s - 1) = h.many m (omega arith) (omega arith) in
      let right : f l ≡ fold_to op w (λ i. x (l + 1 - s + i)) (s - 1) = h.many l ln (omega arith) in
      let y : ℕ → ℕ = λ i. x (l + 1 - 2 * s + i) in
      let left_same : fold_to op w (λ i. x (m + 1 - s + i)) (s - 1) ≡ fold_to op w y (s - 1) = fold_same op w _ y (s - 1)
      (λ i li. ap x (let e : m + 1 - s + i ≡ l + 1 - 2 * s + i = omega arith in e)) in
      let right_same : fold_to op w (λ i. x (l + 1 - s + i)) (s - 1) ≡ fold_to op w (λ i. y (suc (s - 1 + i))) (s - 1) = fold_same op w _ _ (s - 1)
      (λ i li. ap x (let e : l + 1 - s + i ≡ l + 1 - 2 * s + suc (s - 1 + i) = omega arith in e)) in
      let last : 2 * s - 1 ≡ suc (s - 1 + (s - 1)) = omega arith in
      let own : Fit w y (suc (s - 1 + (s - 1))) = record { each = λ i li. fit.each (l + 1 - 2 * s + i) (omega arith) } in
      sweep.join l ln (omega arith) ∙ rw (left, right, left_same, right_same) (sym (fold_cut op w y (s - 1) (s - 1) ok own)) ∙ ap (fold_to op w y) (sym last);
}

-- ---- one net more

pub join_both : (cells : List SizedCell) (fold : WordFold) (nets : List NetId) (q reach : ℕ) (a b y : NetId) → reach ≤ q → a.0 ≡ net_at nets (q - reach)
    → b.0 ≡ net_at nets q → IsNet cells y.0 fold.width
    → InEveryRun cells (λ run. IsJoined run y.0 fold.op fold.width a.0 b.0) → IsJoin cells fold nets q reach y.0
join_both cells fold nets q reach a b y l ea eb net words = record {
  net = net;
  both = λ x. rw (← ea, ← eb) words;
  one = λ less. absurd (omega arith);
}

pub join_one : (old cells : List SizedCell) (fold : WordFold) (nets : List NetId) (q reach : ℕ) (a y : NetId) → q < reach → a.0 ≡ net_at nets q
    → IsNet cells y.0 fold.width
    → InEveryRunFrom (length old) cells (λ run. IsNextOf run y.0 a.0) → IsJoin cells fold nets q reach y.0
join_one old cells fold nets q reach a y l ea net words = record {
  net = net;
  both = λ x. absurd (omega arith);
  one = λ less all e run r. rw (← ea) (words all (carries_extends (length old) e) run r);
}

pub join_grows : {a b : List SizedCell} {fold : WordFold} {q reach y : ℕ} {nets : List NetId} → Extends a b → IsJoin a fold nets q reach y
    → IsJoin b fold nets q reach y
join_grows g h = record {
  net = net_later g h.net;
  both = λ l all e run r. h.both l all (extends_trans g e) run r;
  one = λ l all e run r. h.one l all (extends_trans g e) run r;
}

pub joins_none : (cells : List SizedCell) (folds : List WordFold) (nets : List NetId) (reach : ℕ) → AreJoins cells folds nets reach []
joins_none cells folds nets reach = record { each = λ q y h. (let no : q < 0 = slice_get_within [] q y h in absurd (omega arith)) }

pub joins_more : (a b : List SizedCell) (folds : List WordFold) (nets : List NetId) (reach q : ℕ) (outs : List NetId) (y : NetId) → length outs ≡ q
    → Extends a b → AreJoins a folds nets reach outs → IsJoin b (fold_at folds q) nets q reach y.0
    → AreJoins b folds nets reach (outs ++ y ∷ [])
joins_more a b folds nets reach q outs y long g h new = record {
  each = λ k z found. elim (get_push_cases outs y k z found) [
    | inl v ↦ join_grows g (h.each k z v.0)
    | inr v ↦ (let at : k ≡ q = v.0 ∙ long in rw at (subst (λ (i : NetId). IsJoin b (fold_at folds q) nets q reach i.0) v.1 new))
  ];
}

there : (nets : List NetId) (i : ℕ) → i < length nets → slice_get nets i ≡ Some (get_or nets i (record { 0 = 0 }))
there nets i l = slice_get-get_or nets i (record { 0 = 0 }) l

pub joins_nets : (cells : List SizedCell) (folds : List WordFold) (nets : List NetId) (reach : ℕ) (outs : List NetId) → AreJoins cells folds nets reach outs
    → AreFoldNets cells folds outs
joins_nets cells folds nets reach outs h = record { each = λ q l. (h.each q _ (there outs q l)).net }

-- the net so many places before
pub before_net : (cells : List SizedCell) (folds : List WordFold) (nets : List NetId) (reach q : ℕ) → 1 ≤ length folds → reach % length folds ≡ 0
    → AreFoldNets cells folds nets → q < length nets → reach ≤ q → IsNet cells (net_at nets (q - reach)) (fold_at folds q).width
before_net cells folds nets reach q some whole own l le =
    let e : q ≡ q - reach + 1 * reach = omega arith in
    let same : fold_at folds q ≡ fold_at folds (q - reach) = ap (fold_at folds) e ∙ same_place folds reach 1 (q - reach) some whole in
    rw same (own.each (q - reach) (omega arith))

-- how many of the first q nets are joined
joins_past : (q reach : ℕ) → q - reach + bit (not (nat_lt q reach)) ≡ q + 1 - reach
joins_past q reach = elim (cases_lt q reach) [
  | inl less ↦ (let t : nat_lt q reach ≡ true = search rules in rw t (omega arith))
  | inr past ↦ (let t : nat_lt q reach ≡ false = search rules in rw t (omega arith))
]

pub adds_join : {a b c : Circuit} (q reach muls own : ℕ) → own ≡ muls → Adds a b (q * 9) ((q - reach) * muls) → Adds b c 9 (bit (not (nat_lt q reach)) * own)
    → Adds a c ((q + 1) * 9) ((q + 1 - reach) * muls)
adds_join q reach muls own e p r =
    let x : ℕ = bit (not (nat_lt q reach)) in
    let more : q - reach + x ≡ q + 1 - reach = joins_past q reach in
    let cut : (q - reach + x) * muls ≡ (q - reach) * muls + x * muls = add-mul (q - reach) x muls in
    let same : x * own ≡ x * muls = ap (λ n. x * n) e in
    rw (← more) (adds_is (omega arith) (omega arith) (adds_trans p r))

-- ---- one level more

fit_row : (all : List SizedCell) (run : List Clock) (t : ℕ) (folds : List WordFold) (nets : List NetId) (stride lanes p : ℕ) → IsRun all run → t < length run
    → AreFoldNets all folds nets → 1 ≤ length folds → stride % length folds ≡ 0 → length nets ≡ lanes * stride → 1 ≤ lanes → p < stride
    → Fit (fold_at folds p).width (row_word run t nets stride p) (lanes - 1)
fit_row all run t folds nets stride lanes p r l h some whole long wide lp = record {
  each = λ i li.
      let below : i * stride + p < length nets = omega (arith, mul-add-lt i stride p lanes (omega arith) lp) in
      let at : i * stride + p ≡ p + i * stride = omega arith in
      let same : fold_at folds (i * stride + p) ≡ fold_at folds p = ap (fold_at folds) at ∙ same_place folds stride i p some whole in
      held_fits all run t (net_at nets (i * stride + p)) (fold_at folds p).width r l (rw same at (h.each (i * stride + p) below));
}

pub windowed_none : (cells : List SizedCell) (folds : List WordFold) (stride lanes : ℕ) (nets : List NetId) → Windowed cells folds stride lanes nets 0 nets
windowed_none cells folds stride lanes nets = λ all e run r p t lp l.
    let z : t + 0 ≡ t = omega arith in
    rw z (windows_first (fold_at folds p).op (fold_at folds p).width (row_word run t nets stride p) lanes)

-- what a level makes of the words of a place in one run
level_sweeps : (all b : List SizedCell) (run : List Clock) (t : ℕ) (folds : List WordFold) (nets outs : List NetId) (s stride lanes p : ℕ) → Extends b all
    → IsRun all run → t + 1 < length run → 1 ≤ length folds → stride % length folds ≡ 0 → length outs ≡ lanes * stride → p < stride
    → AreJoins b folds nets (s * stride) outs → IsSweep (fold_at folds p).op (fold_at folds p).width (row_word run t nets stride p)
    (row_word run (t + 1) outs stride p) s lanes
level_sweeps all b run t folds nets outs s stride lanes p e r l some whole long lp joins = record {
  stay = λ i li low.
      let less : i * stride + p < s * stride = omega (arith, mul-add-lt i stride p s low lp) in
      (join_at i li).one less all e run r t l;
  join = λ i li le.
      let up : s * stride ≤ i * stride = mul-le-mul_right stride le in
      let back : i - s + s ≡ i = omega arith in
      let cut : (i - s + s) * stride ≡ (i - s) * stride + s * stride = add-mul (i - s) s stride in
      let turn : (i - s + s) * stride ≡ i * stride = ap (λ n. n * stride) back in
      let at : i * stride + p - s * stride ≡ (i - s) * stride + p = omega arith in
      rw at at ((join_at i li).both (omega arith) all e run r t l);
}
  where
    join_at : (i : ℕ) → i < lanes → IsJoin b (fold_at folds p) nets (i * stride + p) (s * stride) (net_at outs (i * stride + p))
    join_at i li =
        let below : i * stride + p < length outs = omega (arith, mul-add-lt i stride p lanes li lp) in
        let at : i * stride + p ≡ p + i * stride = omega arith in
        let same : fold_at folds (i * stride + p) ≡ fold_at folds p = ap (fold_at folds) at ∙ same_place folds stride i p some whole in
        rw same at (joins.each (i * stride + p) _ (there outs (i * stride + p) below))

pub windowed_more : (a b : List SizedCell) (folds : List WordFold) (stride lanes : ℕ) (first : List NetId) (d reach : ℕ) (nets outs : List NetId) → Extends a b
    → AreFolds folds → stride % length folds ≡ 0 → AreFoldNets a folds first → length first ≡ lanes * stride → 1 ≤ lanes
    → length outs ≡ lanes * stride → reach ≡ 2 ^ d * stride → Windowed a folds stride lanes first d nets → AreJoins b folds nets reach outs
    → Windowed b folds stride lanes first (d + 1) outs
windowed_more a b folds stride lanes first d reach nets outs g fs whole own long wide long_out is before joins = λ all e run r p t lp l.
    let s : t + (d + 1) ≡ t + d + 1 = omega arith in
    let later = extends_trans g e in
    let two : 2 ^ (d + 1) ≡ 2 * 2 ^ d = (let n : d + 1 ≡ suc d = omega arith in rw n (pow-succ' 2 d)) in
    let fit = fit_row all run t folds first stride lanes p r (omega arith)
    (record { each = λ q lq. net_later later (own.each q lq) }) fs.some whole long wide lp in
    let swept = level_sweeps all b run (t + d) folds nets outs (2 ^ d) stride lanes p e r (omega arith) fs.some whole long_out lp (rw is at joins) in
    rw (s, two)
    (windows_more (fold_at folds p).op (fold_at folds p).width (row_word run t first stride p) (row_word run (t + d) nets stride p)
    (row_word run (t + d + 1) outs stride p) (2 ^ d) lanes (fold_op folds p fs) fit (pow_pos d) (before all later run r p t lp (omega arith)) swept)

pub windowed_end : (cells : List SizedCell) (folds : List WordFold) (stride lanes : ℕ) (first : List NetId) (d : ℕ) (outs : List NetId) → 1 ≤ length folds
    → stride % length folds ≡ 0 → 1 ≤ stride → lanes ≤ 2 ^ d → length outs ≡ lanes * stride → AreFoldNets cells folds outs
    → Windowed cells folds stride lanes first d outs → AreOverLanes cells folds first stride d 0 outs
windowed_end cells folds stride lanes first d outs some whole pos deep long own h = record {
  each = λ q lq.
      let z : 0 + q ≡ q = omega arith in
      let l : ℕ = q / stride in
      let p : ℕ = q % stride in
      let cut : l * stride + p ≡ q = div-add-mod' q stride in
      let ll : l < lanes = div_below q stride lanes pos (omega arith) in
      let lp : p < stride = mod_below q stride pos in
      let at : q ≡ p + l * stride = omega arith in
      let same : fold_at folds q ≡ fold_at folds p = ap (fold_at folds) at ∙ same_place folds stride l p some whole in
      rw z
      (record {
        net = own.each q lq;
        words = λ all e run r t lt.
            let made = (h all e run r p t lp lt).few l ll (omega arith) in
            rw same (rw cut at made);
      });
}

-- ---- the cells and products of a level

pub adds_level : {a b c : Circuit} (lanes stride i reach total muls : ℕ) → 2 ^ i * stride ≤ i * (lanes * stride) + stride → reach ≡ 2 ^ i * stride
    → total ≡ lanes * stride → 2 ^ i < lanes → Adds a b (i * (lanes * stride * 9)) (sweep_joins lanes stride i * muls)
    → Adds b c (total * 9) ((total - reach) * muls) → Adds a c ((i + 1) * (lanes * stride * 9)) (sweep_joins lanes stride (i + 1) * muls)
adds_level lanes stride i reach total muls less er et low p r =
    let one : (i + 1) * (lanes * stride * 9) ≡ i * (lanes * stride * 9) + 1 * (lanes * stride * 9) = add-mul i 1 (lanes * stride * 9) in
    let n : (i + 1) * (lanes * stride) ≡ i * (lanes * stride) + 1 * (lanes * stride) = add-mul i 1 (lanes * stride) in
    let two : 2 ^ (i + 1) ≡ 2 * 2 ^ i = (let s : i + 1 ≡ suc i = omega arith in rw s (pow-succ' 2 i)) in
    let double : 2 ^ (i + 1) * stride ≡ 2 * (2 ^ i * stride) = ap (λ k. k * stride) two ∙ mul_assoc 2 (2 ^ i) stride in
    let high : 2 ^ i * stride ≤ lanes * stride = mul-le-mul_right stride (let s : 2 ^ i ≤ lanes = omega arith in s) in
    let least : 1 * stride ≤ 2 ^ i * stride = mul-le-mul_right stride (pow_pos i) in
    let sum : sweep_joins lanes stride i + (total - reach) ≡ sweep_joins lanes stride (i + 1) = omega arith in
    let cut : (sweep_joins lanes stride i + (total - reach)) * muls ≡ sweep_joins lanes stride i * muls + (total - reach) * muls = add-mul
    (sweep_joins lanes stride i) (total - reach) muls in
    let nine : total * 9 ≡ lanes * stride * 9 = ap (λ k. k * 9) et in
    rw (← sum) (adds_is (omega arith) (omega arith) (adds_trans p r))

pub less_more : (lanes stride i : ℕ) → 2 ^ i * stride ≤ i * (lanes * stride) + stride → 2 ^ i < lanes
    → 2 ^ (i + 1) * stride ≤ (i + 1) * (lanes * stride) + stride
less_more lanes stride i less low =
    let n : (i + 1) * (lanes * stride) ≡ i * (lanes * stride) + 1 * (lanes * stride) = add-mul i 1 (lanes * stride) in
    let two : 2 ^ (i + 1) ≡ 2 * 2 ^ i = (let s : i + 1 ≡ suc i = omega arith in rw s (pow-succ' 2 i)) in
    let double : 2 ^ (i + 1) * stride ≡ 2 * (2 ^ i * stride) = ap (λ k. k * stride) two ∙ mul_assoc 2 (2 ^ i) stride in
    let high : 2 ^ i * stride ≤ lanes * stride = mul-le-mul_right stride (let s : 2 ^ i ≤ lanes = omega arith in s) in
    omega arith

pub reach_more : (stride i reach : ℕ) → reach ≡ 2 ^ i * stride → reach * 2 ≡ 2 ^ (i + 1) * stride
reach_more stride i reach e =
    let two : 2 ^ (i + 1) ≡ 2 * 2 ^ i = (let s : i + 1 ≡ suc i = omega arith in rw s (pow-succ' 2 i)) in
    let double : 2 ^ (i + 1) * stride ≡ 2 * (2 ^ i * stride) = ap (λ k. k * stride) two ∙ mul_assoc 2 (2 ^ i) stride in
    omega arith

-- a reach is whole atoms, and small
pub reach_whole : (folds : List WordFold) (stride i reach : ℕ) → 1 ≤ length folds → stride % length folds ≡ 0 → reach ≡ 2 ^ i * stride
    → reach % length folds ≡ 0
reach_whole folds stride i reach some whole e =
    let turns : ℕ = stride / length folds in
    let s : stride ≡ turns * length folds = turns_of stride (length folds) whole in
    let turn : 2 ^ i * stride ≡ 2 ^ i * (turns * length folds) = ap (λ k. 2 ^ i * k) s in
    let assoc : 2 ^ i * turns * length folds ≡ 2 ^ i * (turns * length folds) = mul_assoc (2 ^ i) turns (length folds) in
    let at : reach ≡ 2 ^ i * turns * length folds + 0 = omega arith in
    ap (λ k. k % length folds) at ∙ mod-mul-add (2 ^ i * turns) (length folds) 0 some

pub reach_small : (lanes stride i reach : ℕ) → reach ≡ 2 ^ i * stride → 2 ^ i < lanes → lanes ≤ 4096 → stride ≤ 16384 → reach ≤ 67108864
reach_small lanes stride i reach e low few small = rw e (product_within (2 ^ i) stride (omega arith) small)
  where
    product_within : (a b : ℕ) → a ≤ 4096 → b ≤ 16384 → a * b ≤ 67108864
    product_within a b p q = grind arith

-- one level more has room
pub level_room : (lanes stride i levels total : ℕ) → total ≡ lanes * stride → i < levels
    → i * (lanes * stride * 9) + total * 9 ≤ levels * (lanes * stride * 9)
level_room lanes stride i levels total et l =
    let one : (i + 1) * (lanes * stride * 9) ≡ i * (lanes * stride * 9) + 1 * (lanes * stride * 9) = add-mul i 1 (lanes * stride * 9) in
    let up : (i + 1) * (lanes * stride * 9) ≤ levels * (lanes * stride * 9) = mul-le-mul_right (lanes * stride * 9)
    (let n : i + 1 ≤ levels = omega arith in n) in
    let nine : total * 9 ≡ lanes * stride * 9 = ap (λ k. k * 9) et in
    omega arith

pub no_levels : (a : Circuit) (lanes stride muls : ℕ) → Adds a a (0 * (lanes * stride * 9)) (sweep_joins lanes stride 0 * muls)
no_levels a lanes stride muls =
    let z : sweep_joins lanes stride 0 ≡ 0 = omega arith in
    let none : sweep_joins lanes stride 0 * muls ≡ 0 * muls = ap (λ k. k * muls) z in
    adds_is (omega arith) (omega arith) (adds_same a a 0 refl)
