-- Levels of pairs fold to the same.
use Rattle.std.proofs.Common.{ℕ, suc, ◌≡◌, ◌+◌, ◌-◌, ◌*◌, ◌/◌, ◌%◌, ◌^◌, ◌<◌, ◌≤◌, min, nat_lt, true, false, inl, inr, List, ◌++◌, ◌∷◌, [], length, get_or, Some, slice_get, arith, sym, ap, ◌∙◌, subst, rules}
use Rattle.std.proofs.Math.Nat.{pow-succ', add-mul, suc-mul, mul_assoc, mul-le-mul_right}
use Rattle.std.proofs.lemmas.Bool.{cases_lt}
use Rattle.std.proofs.lemmas.Nat.{div-mul-add, mod-mul-add, div_below, mod_below, div-add-mod', mul-add-lt}
use Rattle.std.proofs.lemmas.Option.{slice_get-get_or, slice_get_within}
use Rattle.ae_word.specs.WordTable.{bit}
use Rattle.ae_netlist.specs.declared.cell.NetId.{NetId}
use Rattle.ae_netlist.specs.declared.cell.SizedCell.{SizedCell}
use Rattle.ae_netlist.specs.Circuit.{Circuit, IsNet, Extends}
use Rattle.ae_netlist.specs.Runs.{Clock, IsRun, InEveryRun, InEveryRunFrom}
use Rattle.ae_netlist.proofs.Gets.{get_push_cases}
use Rattle.ae_netlist.proofs.Growing.{extends_trans, net_later}
use Rattle.ae_netlist.proofs.Carried.{carries_extends}
use Rattle.ae_gates.specs.Cells.{Adds}
use Rattle.ae_clocked.specs.Signals.{IsNextOf}
use Rattle.ae_gates.proofs.Adding.{adds_trans}
use Rattle.ae_ops.specs.Folds.{combine, fold_to}
use Rattle.ae_gates.proofs.Fits.{held_fits}
use Rattle.ae_fold.specs.declared.words.WordFold.{WordFold}
use Rattle.ae_fold.specs.Feedback.{IsJoined}
use Rattle.ae_fold.specs.Folding.{AreFolds, Fit, fold_at}
use Rattle.ae_fold.specs.Rows.{AreFoldNets, AreOverLanes, net_at, row_word}
use Rattle.ae_fold.proofs.Associative.{fold_zero, pairs_fold}
use Rattle.ae_fold.proofs.Blocks.{fold_at_add, same_place}
use Rattle.ae_fold.proofs.Feeding.{adds_is}
use Rattle.ae_fold.proofs.Looping.{fold_op}
use Rattle.ae_reduce.specs.Trees.{IsPair, ArePairs, FoldAlike}

pub pair_both : (cells : List SizedCell) (fold : WordFold) (nets : List NetId) (left right : ℕ) (a b y : NetId) → right < length nets → a.0 ≡ net_at nets left
    → b.0 ≡ net_at nets right → IsNet cells y.0 fold.width
    → InEveryRun cells (λ run. IsJoined run y.0 fold.op fold.width a.0 b.0) → IsPair cells fold nets left right y.0
pair_both cells fold nets left right a b y l ea eb net words = record {
  net = net;
  both = λ x. rw (← ea, ← eb) words;
  one = λ past. absurd (omega arith);
}

pub pair_one : (old cells : List SizedCell) (fold : WordFold) (nets : List NetId) (left right : ℕ) (a y : NetId) → length nets ≤ right → a.0 ≡ net_at nets left
    → IsNet cells y.0 fold.width
    → InEveryRunFrom (length old) cells (λ run. IsNextOf run y.0 a.0) → IsPair cells fold nets left right y.0
pair_one old cells fold nets left right a y l ea net words = record {
  net = net;
  both = λ x. absurd (omega arith);
  one = λ past all e run r. rw (← ea) (words all (carries_extends (length old) e) run r);
}

pub pair_grows : {a b : List SizedCell} {fold : WordFold} {left right y : ℕ} {nets : List NetId} → Extends a b → IsPair a fold nets left right y
    → IsPair b fold nets left right y
pair_grows g h = record {
  net = net_later g h.net;
  both = λ l all e run r. h.both l all (extends_trans g e) run r;
  one = λ l all e run r. h.one l all (extends_trans g e) run r;
}

pub pairs_none : (cells : List SizedCell) (folds : List WordFold) (nets : List NetId) (stride : ℕ) → ArePairs cells folds nets stride []
pairs_none cells folds nets stride = record { each = λ q y h. (let no : q < 0 = slice_get_within [] q y h in absurd (omega arith)) }

pub pairs_more : (a b : List SizedCell) (folds : List WordFold) (nets : List NetId) (stride q : ℕ) (outs : List NetId) (y : NetId) → length outs ≡ q
    → Extends a b → ArePairs a folds nets stride outs
    → IsPair b (fold_at folds q) nets (q + q / stride * stride) (q + q / stride * stride + stride) y.0 → ArePairs b folds nets stride (outs ++ y ∷ [])
pairs_more a b folds nets stride q outs y long g h new = record {
  each = λ k z found. elim (get_push_cases outs y k z found) [
    | inl v ↦ pair_grows g (h.each k z v.0)
    | inr v ↦ (let at : k ≡ q = v.0 ∙ long in rw at (subst
        (λ (i : NetId). IsPair b (fold_at folds q) nets (q + q / stride * stride) (q + q / stride * stride + stride) i.0) v.1 new))
  ];
}

there : (nets : List NetId) (i : ℕ) → i < length nets → slice_get nets i ≡ Some (get_or nets i (record { 0 = 0 }))
there nets i l = slice_get-get_or nets i (record { 0 = 0 }) l

pub pairs_nets : (cells : List SizedCell) (folds : List WordFold) (nets : List NetId) (stride : ℕ) (outs : List NetId) → ArePairs cells folds nets stride outs
    → AreFoldNets cells folds outs
pairs_nets cells folds nets stride outs h = record { each = λ q l. (h.each q _ (there outs q l)).net }

-- ---- the place of a pair

pub left_place : (l stride p : ℕ) → p < stride → l * stride + p + (l * stride + p) / stride * stride ≡ 2 * l * stride + p
left_place l stride p lp =
    let d : (l * stride + p) / stride ≡ l = div-mul-add l stride p lp in
    let two : 2 * l * stride ≡ 2 * (l * stride) = mul_assoc 2 l stride in
    rw d (omega arith)

-- of the pair numbered q
pub left_below : (lanes stride q : ℕ) → 1 ≤ stride → q < (lanes + 1) / 2 * stride → q + q / stride * stride < lanes * stride
left_below lanes stride q pos l =
    let i : ℕ = q / stride in
    let p : ℕ = q % stride in
    let d : i * stride + p ≡ q = div-add-mod' q stride in
    let li : i < (lanes + 1) / 2 = div_below q stride ((lanes + 1) / 2) pos l in
    let lp : p < stride = mod_below q stride pos in
    let at = left_place i stride p lp in
    let e : q + q / stride * stride ≡ 2 * i * stride + p = rw d at at in
    let below = mul-add-lt (2 * i) stride p lanes (omega arith) lp in
    omega (arith, e, below)

-- there is a right one in the first half
pub right_there : (lanes stride q : ℕ) → 1 ≤ stride → q < lanes / 2 * stride → q + q / stride * stride + stride < lanes * stride
right_there lanes stride q pos l =
    let i : ℕ = q / stride in
    let p : ℕ = q % stride in
    let d : i * stride + p ≡ q = div-add-mod' q stride in
    let li : i < lanes / 2 = div_below q stride (lanes / 2) pos l in
    let lp : p < stride = mod_below q stride pos in
    let at = left_place i stride p lp in
    let e : q + q / stride * stride ≡ 2 * i * stride + p = rw d at at in
    let one : (2 * i + 1) * stride ≡ 2 * i * stride + 1 * stride = add-mul (2 * i) 1 stride in
    let below = mul-add-lt (2 * i + 1) stride p lanes (omega arith) lp in
    omega (arith, e, below)

pub right_past : (lanes stride q : ℕ) → 1 ≤ stride → lanes / 2 * stride ≤ q → lanes * stride ≤ q + q / stride * stride + stride
right_past lanes stride q pos l =
    let i : ℕ = q / stride in
    let p : ℕ = q % stride in
    let d : i * stride + p ≡ q = div-add-mod' q stride in
    let lp : p < stride = mod_below q stride pos in
    let li : lanes / 2 ≤ i = half_le (lanes / 2) i stride p q pos d lp l in
    let at = left_place i stride p lp in
    let e : q + q / stride * stride ≡ 2 * i * stride + p = rw d at at in
    let one : (2 * i + 1) * stride ≡ 2 * i * stride + 1 * stride = add-mul (2 * i) 1 stride in
    let most : lanes * stride ≤ (2 * i + 1) * stride = mul-le-mul_right stride (let n : lanes ≤ 2 * i + 1 = omega arith in n) in
    omega (arith, e)
  where
    half_le : (h i stride p q : ℕ) → 1 ≤ stride → i * stride + p ≡ q → p < stride → h * stride ≤ q → h ≤ i
    half_le h i stride p q pos d lp l = elim (cases_lt i h) [
      | inl less ↦
          let up : suc i * stride ≤ h * stride = mul-le-mul_right stride less in
          let m : suc i * stride ≡ i * stride + stride = suc-mul i stride in
          absurd (omega arith)
      | inr le ↦ le
    ]

-- how many of the first q pairs have a right one
pub paired_more : (lanes stride q total : ℕ) → 1 ≤ stride → total ≡ lanes * stride
    → min q (lanes / 2 * stride) + bit (nat_lt (q + q / stride * stride + stride) total) ≡ min (q + 1) (lanes / 2 * stride)
paired_more lanes stride q total pos e = elim (cases_lt q (lanes / 2 * stride)) [
  | inl less ↦
      let r = right_there lanes stride q pos less in
      let t : nat_lt (q + q / stride * stride + stride) total ≡ true = lt_true (q + q / stride * stride + stride) total (omega (arith, r)) in
      rw t (omega arith)
  | inr past ↦
      let r = right_past lanes stride q pos past in
      let t : nat_lt (q + q / stride * stride + stride) total ≡ false = lt_false (q + q / stride * stride + stride) total (omega (arith, r)) in
      rw t (omega arith)
]
  where
    lt_true : (a b : ℕ) → a < b → nat_lt a b ≡ true
    lt_true a b l = search rules

    lt_false : (a b : ℕ) → b ≤ a → nat_lt a b ≡ false
    lt_false a b l = search rules

-- ---- one level more

fit_row : (all : List SizedCell) (run : List Clock) (t : ℕ) (folds : List WordFold) (nets : List NetId) (turns stride lanes p : ℕ) → IsRun all run
    → t < length run → AreFoldNets all folds nets → 1 ≤ length folds → stride ≡ turns * length folds → length nets ≡ lanes * stride → 1 ≤ lanes → p < stride
    → Fit (fold_at folds p).width (row_word run t nets stride p) (lanes - 1)
fit_row all run t folds nets turns stride lanes p r l h some whole long wide lp = record {
  each = λ i li.
      let below : i * stride + p < length nets = omega (arith, mul-add-lt i stride p lanes (omega arith) lp) in
      let turn : i * stride ≡ i * (turns * length folds) = ap (λ n. i * n) whole in
      let assoc : i * turns * length folds ≡ i * (turns * length folds) = mul_assoc i turns (length folds) in
      let at : i * stride + p ≡ i * turns * length folds + p = omega arith in
      let same : fold_at folds (i * stride + p) ≡ fold_at folds p = ap (fold_at folds) at ∙ fold_at_add folds (i * turns) p some in
      held_fits all run t (net_at nets (i * stride + p)) (fold_at folds p).width r l (rw same at (h.each (i * stride + p) below));
}

pub alike_more : (a b : List SizedCell) (folds : List WordFold) (turns stride lanes : ℕ) (first : List NetId) (count d : ℕ) (nets outs : List NetId)
    → Extends a b → AreFolds folds → stride ≡ turns * length folds → AreFoldNets a folds nets → 1 ≤ count
    → length nets ≡ count * stride → length outs ≡ (count + 1) / 2 * stride → FoldAlike a folds stride lanes first count d nets
    → ArePairs b folds nets stride outs → FoldAlike b folds stride lanes first ((count + 1) / 2) (d + 1) outs
alike_more a b folds turns stride lanes first count d nets outs g fs whole own some long_in long_out before pairs = λ all e run r p t lp l.
    let op = (fold_at folds p).op in
    let w = (fold_at folds p).width in
    let s : t + (d + 1) ≡ t + d + 1 = omega arith in
    let l1 : t + d + 1 < length run = omega arith in
    let later = extends_trans g e in
    let f : ℕ → ℕ = row_word run (t + d) nets stride p in
    let h : ℕ → ℕ = row_word run (t + d + 1) outs stride p in
    let at_pair : (i : ℕ) → i < (count + 1) / 2 → IsPair b (fold_at folds p) nets (2 * i * stride + p) (2 * i * stride + p + stride)
    (net_at outs (i * stride + p)) = λ i li.
    let below : i * stride + p < length outs = omega (arith, mul-add-lt i stride p ((count + 1) / 2) li lp) in
    let turn : i * stride ≡ i * (turns * length folds) = ap (λ n. i * n) whole in
    let assoc : i * turns * length folds ≡ i * (turns * length folds) = mul_assoc i turns (length folds) in
    let at : i * stride + p ≡ i * turns * length folds + p = omega arith in
    let same : fold_at folds (i * stride + p) ≡ fold_at folds p = ap (fold_at folds) at ∙ fold_at_add folds (i * turns) p fs.some in
    let place = left_place i stride p lp in
    rw place at (rw same at (pairs.each (i * stride + p) _ (there outs (i * stride + p) below)))
    in
    let both : (i : ℕ) → 2 * i + 1 < count → h i ≡ combine op w (f (2 * i)) (f (2 * i + 1)) = λ i li.
    let one : (2 * i + 1) * stride ≡ 2 * i * stride + 1 * stride = add-mul (2 * i) 1 stride in
    let right : 2 * i * stride + p + stride ≡ (2 * i + 1) * stride + p = omega arith in
    let inside = mul-add-lt (2 * i + 1) stride p count li lp in
    rw right at ((at_pair i (omega arith)).both (omega (arith, inside)) all e run r (t + d) l1)
    in
    let one : (i : ℕ) → 2 * i + 1 ≡ count → h i ≡ f (2 * i) = λ i is.
    let cut : (2 * i + 1) * stride ≡ 2 * i * stride + 1 * stride = add-mul (2 * i) 1 stride in
    let last : (2 * i + 1) * stride ≡ count * stride = ap (λ n. n * stride) is in
    (at_pair i (omega arith)).one (omega arith) all e run r (t + d) l1
    in
    let fit = fit_row all run (t + d) folds nets turns stride count p r (omega arith)
    (record { each = λ q lq. net_later later (own.each q lq) }) fs.some whole long_in some lp in
    let step : fold_to op w h ((count + 1) / 2 - 1) ≡ fold_to op w f (count - 1) = pairs_fold op w f h count (fold_op folds p fs) fit both one some in
    rw s (step ∙ before all later run r p t lp (omega arith))

-- of one lane
pub alike_end : (cells : List SizedCell) (folds : List WordFold) (turns stride lanes : ℕ) (first : List NetId) (count d from : ℕ) (outs : List NetId)
    → 1 ≤ length folds → stride ≡ turns * length folds → count ≡ 1 → length outs ≡ stride → from ≡ (lanes - 1) * stride
    → AreFoldNets cells folds outs → FoldAlike cells folds stride lanes first count d outs → AreOverLanes cells folds first stride d from outs
alike_end cells folds turns stride lanes first count d from outs some whole is long begin own h = record {
  each = λ q lq.
      let lp : q < stride = omega arith in
      let turn : (lanes - 1) * stride ≡ (lanes - 1) * (turns * length folds) = ap (λ n. (lanes - 1) * n) whole in
      let assoc : (lanes - 1) * turns * length folds ≡ (lanes - 1) * (turns * length folds) = mul_assoc (lanes - 1) turns (length folds) in
      let at : from + q ≡ (lanes - 1) * turns * length folds + q = omega arith in
      let e : from + q ≡ (lanes - 1) * stride + q = omega arith in
      let same : fold_at folds (from + q) ≡ fold_at folds q = ap (fold_at folds) at ∙ fold_at_add folds ((lanes - 1) * turns) q some in
      let place : (from + q) % stride ≡ q = ap (λ n. n % stride) e ∙ mod-mul-add (lanes - 1) stride q lp in
      let lane : (from + q) / stride ≡ lanes - 1 = ap (λ n. n / stride) e ∙ div-mul-add (lanes - 1) stride q lp in
      rw (same, place, lane)
      (record {
        net = own.each q lq;
        words = λ all x run r t l.
            let z : count - 1 ≡ 0 = omega arith in
            let n : 0 * stride + q ≡ q = omega arith in
            let sum = rw z at (h all x run r q t lp l) in
            rw n at (sym (fold_zero (fold_at folds q).op (fold_at folds q).width (row_word run (t + d) outs stride q)) ∙ sum);
      });
}

-- half as many lanes take one level less
pub halved : (n levels i : ℕ) → i < levels → n ≤ 2 ^ (levels - i) → (n + 1) / 2 ≤ 2 ^ (levels - (i + 1))
halved n levels i l h =
    let s : levels - i ≡ suc (levels - (i + 1)) = omega arith in
    let d : n ≤ 2 ^ suc (levels - (i + 1)) = rw s at h in
    let t : 2 ^ suc (levels - (i + 1)) ≡ 2 * 2 ^ (levels - (i + 1)) = pow-succ' 2 (levels - (i + 1)) in
    omega arith

-- ---- the cells and products of pairs and levels

pub adds_pair : {a b c : Circuit} (lanes stride q total muls own : ℕ) → 1 ≤ stride → total ≡ lanes * stride → own ≡ muls
    → Adds a b (q + 8 * min q (lanes / 2 * stride)) (min q (lanes / 2 * stride) * muls)
    → Adds b c (1 + 8 * bit (nat_lt (q + q / stride * stride + stride) total)) (bit (nat_lt (q + q / stride * stride + stride) total) * own)
    → Adds a c (q + 1 + 8 * min (q + 1) (lanes / 2 * stride)) (min (q + 1) (lanes / 2 * stride) * muls)
adds_pair lanes stride q total muls own pos long e p r =
    let x : ℕ = bit (nat_lt (q + q / stride * stride + stride) total) in
    let more : min q (lanes / 2 * stride) + x ≡ min (q + 1) (lanes / 2 * stride) = paired_more lanes stride q total pos long in
    let cut : (min q (lanes / 2 * stride) + x) * muls ≡ min q (lanes / 2 * stride) * muls + x * muls = add-mul (min q (lanes / 2 * stride)) x muls in
    let same : x * own ≡ x * muls = ap (λ n. x * n) e in
    rw (← more) (adds_is (omega arith) (omega arith) (adds_trans p r))

pub halves : (lanes stride : ℕ) → (lanes + 1) / 2 * stride + lanes / 2 * stride ≡ lanes * stride
halves lanes stride =
    let e : (lanes + 1) / 2 + lanes / 2 ≡ lanes = omega arith in
    let cut : ((lanes + 1) / 2 + lanes / 2) * stride ≡ (lanes + 1) / 2 * stride + lanes / 2 * stride = add-mul ((lanes + 1) / 2) (lanes / 2) stride in
    let turn : ((lanes + 1) / 2 + lanes / 2) * stride ≡ lanes * stride = ap (λ n. n * stride) e in
    omega arith

pub uneven : (lanes stride : ℕ) → (lanes + 1) / 2 * stride ≤ lanes / 2 * stride + stride
uneven lanes stride =
    let up : (lanes + 1) / 2 * stride ≤ suc (lanes / 2) * stride = mul-le-mul_right stride (let n : (lanes + 1) / 2 ≤ suc (lanes / 2) = omega arith in n) in
    let m : suc (lanes / 2) * stride ≡ lanes / 2 * stride + stride = suc-mul (lanes / 2) stride in
    omega arith

-- one pair more has room
pub pair_room : (lanes stride q total : ℕ) → 1 ≤ stride → total ≡ lanes * stride → q < (lanes + 1) / 2 * stride
    → q + 8 * min q (lanes / 2 * stride) + (1 + 8 * bit (nat_lt (q + q / stride * stride + stride) total)) ≤ (lanes + 1) / 2 * stride + 8 * (lanes / 2 * stride)
pair_room lanes stride q total pos long l = let more = paired_more lanes stride q total pos long in omega arith

pub adds_level : {a b c : Circuit} (lanes count stride i muls : ℕ) → count * stride ≤ lanes * stride
    → Adds a b (9 * (lanes * stride - count * stride) + i * stride) ((lanes * stride - count * stride) * muls)
    → Adds b c ((count + 1) / 2 * stride + 8 * (count / 2 * stride)) (count / 2 * stride * muls)
    → Adds a c (9 * (lanes * stride - (count + 1) / 2 * stride) + (i + 1) * stride) ((lanes * stride - (count + 1) / 2 * stride) * muls)
adds_level lanes count stride i muls less p r =
    let h = halves count stride in
    let u = uneven count stride in
    let x : ℕ = lanes * stride - count * stride in
    let y : ℕ = count / 2 * stride in
    let e : lanes * stride - (count + 1) / 2 * stride ≡ x + y = omega arith in
    let cut : (x + y) * muls ≡ x * muls + y * muls = add-mul x y muls in
    let one : (i + 1) * stride ≡ i * stride + 1 * stride = add-mul i 1 stride in
    rw e (adds_is (omega arith) (omega arith) (adds_trans p r))

-- one level more has room
pub level_room : (lanes count stride i levels : ℕ) → count * stride ≤ lanes * stride → i < levels
    → 9 * (lanes * stride - count * stride) + i * stride + ((count + 1) / 2 * stride + 8 * (count / 2 * stride)) ≤ 9 * (lanes * stride) + levels * stride
level_room lanes count stride i levels less l =
    let h = halves count stride in
    let up : i * stride ≤ levels * stride = mul-le-mul_right stride (let n : i ≤ levels = omega arith in n) in
    omega arith

-- the nets of a pair
pub left_net : (cells : List SizedCell) (folds : List WordFold) (nets : List NetId) (lanes stride q : ℕ) → AreFolds folds → AreFoldNets cells folds nets
    → length nets ≡ lanes * stride → 1 ≤ stride → stride % length folds ≡ 0 → q < (lanes + 1) / 2 * stride
    → IsNet cells (net_at nets (q + q / stride * stride)) (fold_at folds q).width
left_net cells folds nets lanes stride q fs own long pos whole l =
    let below = left_below lanes stride q pos l in
    rw (← same_place folds stride (q / stride) q fs.some whole) (own.each (q + q / stride * stride) (omega (arith, below)))

pub right_net : (cells : List SizedCell) (folds : List WordFold) (nets : List NetId) (stride q : ℕ) → AreFolds folds → AreFoldNets cells folds nets
    → stride % length folds ≡ 0 → q + q / stride * stride + stride < length nets
    → IsNet cells (net_at nets (q + q / stride * stride + stride)) (fold_at folds q).width
right_net cells folds nets stride q fs own whole l =
    let one : (q / stride + 1) * stride ≡ q / stride * stride + 1 * stride = add-mul (q / stride) 1 stride in
    let at : q + q / stride * stride + stride ≡ q + (q / stride + 1) * stride = omega arith in
    rw (← same_place folds stride (q / stride + 1) q fs.some whole) (rw at (own.each (q + (q / stride + 1) * stride) (omega arith)))

pub least : (lanes stride q : ℕ) → q ≡ (lanes + 1) / 2 * stride → min q (lanes / 2 * stride) ≡ lanes / 2 * stride
least lanes stride q e =
    let up : lanes / 2 * stride ≤ (lanes + 1) / 2 * stride = mul-le-mul_right stride (let n : lanes / 2 ≤ (lanes + 1) / 2 = omega arith in n) in
    omega arith
