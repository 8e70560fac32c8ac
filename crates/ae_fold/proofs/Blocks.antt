-- The words of a block, and their folds.
use Rattle.std.proofs.Common.{ℕ, suc, ◌≡◌, ◌+◌, ◌-◌, ◌*◌, ◌/◌, ◌%◌, ◌^◌, ◌<◌, ◌≤◌, List, length, map, get_or, Some, slice_get, arith, refl, sym, ap, ◌∙◌}
use Rattle.std.specs.List.{range_with_len}
use Rattle.std.specs.Prelude.{Option, unwrap_or}
use Rattle.std.proofs.Math.Nat.{suc-mul, add-mul, mul_assoc, mul-le-mul_right}
use Rattle.std.proofs.lemmas.Nat.{mod-mul-add, div-mul-add, mul-add-lt, div-add-mod', div_below, mod_below}
use Rattle.std.proofs.lemmas.List.FromFn.{get_or-map-range_with_len}
use Rattle.std.proofs.lemmas.Option.{slice_get_within, slice_get-get_or, get_or_from_slice_get, unwrap_or-slice_get}
use Rattle.ae_netlist.specs.declared.cell.NetId.{NetId}
use Rattle.ae_netlist.specs.Runs.{Clock, word_at}
use Rattle.ae_sttype.specs.declared.st_type.Slot.{Slot}
use Rattle.ae_sttype.specs.StTree.{StTree, tseq, sseq, time, lanes, st_atoms, element_words}
use Rattle.ae_sttype.specs.Slots.{slots, copies, moved}
use Rattle.ae_sttype.specs.Size.{IsInSize}
use Rattle.ae_sttype.specs.Holds.{Holds}
use Rattle.ae_sttype.proofs.Bounds.{atoms_pos}
use Rattle.ae_sttype.proofs.Places.{get_or-copies, length-copies, length-slots, slot_at, slot_below, slot_of}
use Rattle.ae_ops.specs.Waves.{wave_of, net_word}
use Rattle.ae_word.specs.declared.op.WordOp.TheVariants.{Add}
use Rattle.ae_fold.specs.declared.words.WordFold.{WordFold}
use Rattle.ae_fold.specs.declared.plan.Plan.{Plan}
use Rattle.ae_fold.specs.Folding.{Fit, fold_at, word_fold}
use Rattle.ae_fold.specs.Rows.{Scans, net_at, row_word}

-- ---- where the elements stand

copy_at : (n c l : ℕ) (ws : List Slot) (q r : ℕ) (s : Slot) → q < n → slice_get ws r ≡ Some s
    → slice_get (copies n c l ws) (q * length ws + r) ≡ Some (moved (q * c) (q * l) s)
copy_at n c l ws q r s p h =
    let lr : r < length ws = slice_get_within ws r s h in
    let place : q * length ws + r < length (copies n c l ws) = omega (arith, mul-add-lt q (length ws) r n p lr, length-copies n c l ws) in
    slice_get-get_or (copies n c l ws) (q * length ws + r) s place ∙
    ap Some (get_or-copies n c l ws q r s p lr ∙ ap (moved (q * c) (q * l)) (get_or_from_slice_get ws r s s h))

-- atom a of the element in slot q and lane l
pub atom_at : (t : StTree) (n m q l a : ℕ) (s : Slot) → q < n → l < m → slice_get (slots t) a ≡ Some s
    → slice_get (slots (tseq n 0 (sseq m t))) ((q * m + l) * st_atoms t + a) ≡ Some (record { clock = q * time t + s.clock; lane = l * lanes t + s.lane })
atom_at t n m q l a s lq ll h =
    let row : List Slot = copies m 0 (lanes t) (slots t) in
    let inner = copy_at m 0 (lanes t) (slots t) l a s ll h in
    let outer = copy_at n (time t) 0 row q (l * length (slots t) + a) _ lq inner in
    let one : length (slots t) ≡ st_atoms t = length-slots t in
    let long : length row ≡ m * length (slots t) = length-copies m 0 (lanes t) (slots t) in
    let turn : length row ≡ m * st_atoms t = long ∙ ap (λ n. m * n) one in
    let cut : (q * m + l) * st_atoms t ≡ q * m * st_atoms t + l * st_atoms t = add-mul (q * m) l (st_atoms t) in
    let assoc : q * m * st_atoms t ≡ q * (m * st_atoms t) = mul_assoc q m (st_atoms t) in
    let rows : q * length row ≡ q * (m * st_atoms t) = ap (λ n. q * n) turn in
    let atoms : l * length (slots t) ≡ l * st_atoms t = ap (λ n. l * n) one in
    let at : (q * m + l) * st_atoms t + a ≡ q * length row + (l * length (slots t) + a) = omega arith in
    let c : q * time t + s.clock ≡ q * time t + (l * 0 + s.clock) = omega arith in
    let n : l * lanes t + s.lane ≡ q * 0 + (l * lanes t + s.lane) = omega arith in
    rw (at, c, n) outer

-- each slot of the elements is that of an atom of one
pub record IsAtomAt (t : StTree) (n m e : ℕ) (w : Slot) : Type 0 where
  pub q : ℕ
  pub l : ℕ
  pub a : ℕ
  pub s : Slot
  pub lq : q < n
  pub ll : l < m
  pub found : slice_get (slots t) a ≡ Some s
  pub place : e ≡ (q * m + l) * st_atoms t + a
  pub is : w ≡ record { clock = q * time t + s.clock; lane = l * lanes t + s.lane }

pub atom_of : (t : StTree) (n m e : ℕ) (w : Slot) → 1 ≤ m → 1 ≤ st_atoms t → slice_get (slots (tseq n 0 (sseq m t))) e ≡ Some w → IsAtomAt t n m e w
atom_of t n m e w some pos h =
    let k : ℕ = st_atoms t in
    let i : ℕ = e / k in
    let within : e < n * (m * k) = omega (arith, slice_get_within (slots (tseq n 0 (sseq m t))) e w h, length-slots (tseq n 0 (sseq m t))) in
    let assoc : n * m * k ≡ n * (m * k) = mul_assoc n m k in
    let li : i < n * m = div_below e k (n * m) (omega arith) (omega arith) in
    let lq : i / m < n = div_below i m n (omega arith) li in
    let ll : i % m < m = mod_below i m (omega arith) in
    let la : e % k < k = mod_below e k (omega arith) in
    let d1 : i / m * m + i % m ≡ i = div-add-mod' i m in
    let d2 : e / k * k + e % k ≡ e = div-add-mod' e k in
    let back : (i / m * m + i % m) * k ≡ i * k = ap (λ x. x * k) d1 in
    let place : e ≡ (i / m * m + i % m) * k + e % k = omega arith in
    let s : Slot = get_or (slots t) (e % k) (slot_at 0 0) in
    let found : slice_get (slots t) (e % k) ≡ Some s = slice_get-get_or (slots t) (e % k) (slot_at 0 0) (omega (arith, length-slots t)) in
    let there = atom_at t n m (i / m) (i % m) (e % k) s lq ll found in
    let same : Some w ≡ Some (record { clock = i / m * time t + s.clock; lane = i % m * lanes t + s.lane }) = sym h ∙
    (ap (slice_get (slots (tseq n 0 (sseq m t)))) place ∙ there) in
    record {
      q = i / m;
      l = i % m;
      a = e % k;
      s = s;
      lq = lq;
      ll = ll;
      found = found;
      place = place;
      is = (let e : w ≡ record { clock = i / m * time t + s.clock; lane = i % m * lanes t + s.lane } = cc in e);
    }

-- ---- the words that nets hold

pub wave_word : (run : List Clock) (start : ℕ) (nets : List NetId) (c q : ℕ) → q < length nets
    → wave_of run start nets c q ≡ word_at run (start + c) (net_at nets q)
unfolding wave_of
wave_word run start nets c q l = ap (net_word run (start + c)) (slice_get-get_or nets q (record { 0 = 0 }) l)

-- word j of atom a of the element in slot q and lane l stands on the net at its place, in its clock
pub held_word : (t : StTree) (n m stride k : ℕ) (run : List Clock) (start : ℕ) (bundle : List NetId) (v : List ℕ) → stride ≡ lanes t * element_words t
    → length bundle ≡ m * stride
    → Holds (wave_of run start bundle) k (element_words t) (slots (tseq n 0 (sseq m t))) v → (q l a j : ℕ) (s : Slot) → q < n → l < m
    → slice_get (slots t) a ≡ Some s → s.lane < lanes t → j < element_words t
    → row_word run (start + (k + q * time t + s.clock)) bundle stride (s.lane * element_words t + j) l ≡ get_or v
    ((q * m + l) * (st_atoms t * element_words t) + (a * element_words t + j)) 0
held_word t n m stride k run start bundle v es long h q l a j s lq ll found low lj =
    let w : ℕ = element_words t in
    let p : ℕ = s.lane * w + j in
    let i : ℕ = q * m + l in
    let cut : (l * lanes t + s.lane) * w ≡ l * lanes t * w + s.lane * w = add-mul (l * lanes t) s.lane w in
    let assoc : l * lanes t * w ≡ l * (lanes t * w) = mul_assoc l (lanes t) w in
    let turn : l * stride ≡ l * (lanes t * w) = ap (λ n. l * n) es in
    let index : l * stride + p ≡ (l * lanes t + s.lane) * w + j = omega arith in
    let lp : p < lanes t * w = omega (arith, mul-add-lt s.lane w j (lanes t) low lj) in
    let below : l * stride + p < length bundle = omega (arith, mul-add-lt l stride p m ll (omega arith)) in
    let cut2 : (i * st_atoms t + a) * w ≡ i * st_atoms t * w + a * w = add-mul (i * st_atoms t) a w in
    let assoc2 : i * st_atoms t * w ≡ i * (st_atoms t * w) = mul_assoc i (st_atoms t) w in
    let word : (i * st_atoms t + a) * w + j ≡ i * (st_atoms t * w) + (a * w + j) = omega arith in
    let clock : start + (k + q * time t + s.clock) ≡ start + (k + (q * time t + s.clock)) = omega arith in
    let held = h (i * st_atoms t + a) j _ (atom_at t n m q l a s lq ll found) lj in
    rw (clock, ← word) (sym (wave_word run start bundle (k + (q * time t + s.clock)) (l * stride + p) below)
    ∙ rw index (held ∙ unwrap_or-slice_get v ((i * st_atoms t + a) * w + j) 0))

-- what a net that scans has in the clock and at the place of an atom of the element in slot q and lane l
pub scan_word : (t : StTree) (plan : Plan) (k d b : ℕ) (run : List Clock) (start y : ℕ) (fold : WordFold) (folds : List WordFold) (bundle : List NetId)
    (v : List ℕ) → plan.stride ≡ lanes t * element_words t → plan.inner ≡ time t
    → length bundle ≡ plan.lanes * plan.stride → length folds ≡ element_words t
    → Holds (wave_of run start bundle) (k + b * plan.period) (element_words t) (slots (tseq plan.slots 0 (sseq plan.lanes t))) v
    → (q l a j : ℕ) (s : Slot) → q < plan.slots → l < plan.lanes → slice_get (slots t) a ≡ Some s → s.clock < time t → s.lane < lanes t → j < element_words t
    → fold ≡ fold_at folds (a * element_words t + j)
    → Fit fold.width (λ i. get_or v (i * (st_atoms t * element_words t) + (a * element_words t + j)) 0) (q * plan.lanes + l)
    → Scans fold bundle plan k d (s.lane * element_words t + j) l run start y → start + (k + b * plan.period + q * time t + s.clock + d) < length run
    → word_at run (start + (k + b * plan.period + q * time t + s.clock + d)) y ≡ word_fold folds (st_atoms t * element_words t) v (a * element_words t + j)
    (q * plan.lanes + l)
scan_word t plan k d b run start y fold folds bundle v es et long words held q l a j s lq ll found lc low lj is fit scans within =
    rw (← is, ← et)
    (scans b q s.clock (λ i. get_or v (i * (st_atoms t * element_words t) + (a * element_words t + j)) 0) lq (omega arith) (rw et within) fit
    (λ n i ln li. rw et (held_word t plan.slots plan.lanes plan.stride (k + b * plan.period) run start bundle v es long held n i a j s
    (omega arith) li found low lj)))

-- ---- the block of one fold, and of all prefixes

pub mod_cut : (n w p : ℕ) → 1 ≤ w → (n * w + p) % w ≡ p % w
mod_cut n w p some =
    let d : p / w * w + p % w ≡ p = div-add-mod' p w in
    let add : (n + p / w) * w ≡ n * w + p / w * w = add-mul n (p / w) w in
    let e : n * w + p ≡ (n + p / w) * w + p % w = omega arith in
    ap (λ x. x % w) e ∙ mod-mul-add (n + p / w) w (p % w) (mod_below p w (omega arith))

pub fold_at_add : (folds : List WordFold) (n q : ℕ) → 1 ≤ length folds → fold_at folds (n * length folds + q) ≡ fold_at folds q
fold_at_add folds n q some = ap (λ i. get_or folds i (record { op = Add; width = 0 })) (mod_cut n (length folds) q some)

-- a stride of whole atoms
pub turns_of : (stride n : ℕ) → stride % n ≡ 0 → stride ≡ stride / n * n
turns_of stride n e = let d : stride / n * n + stride % n ≡ stride = div-add-mod' stride n in omega arith

-- whole lanes further the words are folded alike
pub same_place : (folds : List WordFold) (stride n q : ℕ) → 1 ≤ length folds → stride % length folds ≡ 0 → fold_at folds (q + n * stride) ≡ fold_at folds q
same_place folds stride n q some whole =
    let turns : ℕ = stride / length folds in
    let e : stride ≡ turns * length folds = turns_of stride (length folds) whole in
    let turn : n * stride ≡ n * (turns * length folds) = ap (λ k. n * k) e in
    let assoc : n * turns * length folds ≡ n * (turns * length folds) = mul_assoc n turns (length folds) in
    let at : q + n * stride ≡ n * turns * length folds + q = omega arith in
    ap (fold_at folds) at ∙ fold_at_add folds (n * turns) q some

pub slot_in : (t : StTree) (a : ℕ) (s : Slot) → IsInSize t → slice_get (slots t) a ≡ Some s → (s.clock < time t) × (s.lane < lanes t)
slot_in t a s size found =
    let la : a < st_atoms t = omega (arith, slice_get_within (slots t) a s found, length-slots t) in
    let same : slot_of t a ≡ s = ap (λ (o : Option Slot). unwrap_or o (slot_at 0 0)) found in
    rw same at (slot_below t size.lengths a la)

-- the words of a place and of an element that stand apart by whole atoms are folded alike
same_fold : (folds : List WordFold) (w n a j x : ℕ) → length folds ≡ w → j < w → x ≡ n * w + j → fold_at folds x ≡ fold_at folds (a * w + j)
same_fold folds w n a j x words lj e =
    let left : x % w ≡ j = ap (λ i. i % w) e ∙ mod-mul-add n w j lj in
    let right : (a * w + j) % w ≡ j = mod-mul-add a w j lj in
    ap (λ i. get_or folds i (record { op = Add; width = 0 })) (rw words (left ∙ sym right))

-- words that fit, by element and then by word
abbrev pub AllFit : (folds : List WordFold) → (count size : ℕ) → List ℕ → Type 0
AllFit folds count size v = (i p : ℕ) → i < count → p < size → get_or v (i * size + p) 0 < 2 ^ (fold_at folds p).width

pub fit_of : (folds : List WordFold) (fold : WordFold) (n m size : ℕ) (v : List ℕ) (q l p : ℕ) → q < n → l < m → p < size → fold ≡ fold_at folds p
    → AllFit folds (n * m) size v → Fit fold.width (λ i. get_or v (i * size + p) 0) (q * m + l)
fit_of folds fold n m size v q l p lq ll lp is h = record {
  each = λ i li. (let below : q * m + l < n * m = omega (arith, mul-add-lt q m l n lq ll) in rw is (h i p (omega arith) lp));
}

-- of each net of a list, where net q scans up to the place and the lane of net from + q
abbrev pub AllScan : (folds : List WordFold) (bundle : List NetId) → Plan → (k d from : ℕ) → List NetId → List Clock → ℕ → Type 0
AllScan folds bundle plan k d from outs run start =
    (q : ℕ) (y : NetId) → slice_get outs q ≡ Some y → Scans (fold_at folds (from + q)) bundle plan k d ((from + q) % plan.stride)
    ((from + q) / plan.stride) run start y.0

-- that of a net from the place of a lane
scans_at : (folds : List WordFold) (bundle : List NetId) (plan : Plan) (k d from : ℕ) (outs : List NetId) (run : List Clock) (start q l p : ℕ)
    → AllScan folds bundle plan k d from outs run start → q < length outs → p < plan.stride → from + q ≡ l * plan.stride + p
    → Scans (fold_at folds (from + q)) bundle plan k d p l run start (net_at outs q)
scans_at folds bundle plan k d from outs run start q l p h lq lp e =
    let place : (from + q) % plan.stride ≡ p = ap (λ n. n % plan.stride) e ∙ mod-mul-add l plan.stride p lp in
    let lane : (from + q) / plan.stride ≡ l = ap (λ n. n / plan.stride) e ∙ div-mul-add l plan.stride p lp in
    rw (place, lane) at (h q _ (slice_get-get_or outs q (record { 0 = 0 }) lq))

pub reduce_holds : (t : StTree) (plan : Plan) (k d b : ℕ) (run : List Clock) (start : ℕ) (folds : List WordFold) (bundle outs : List NetId) (v : List ℕ)
    → IsInSize t → plan.stride ≡ lanes t * element_words t → plan.inner ≡ time t
    → 1 ≤ plan.slots → 1 ≤ plan.lanes → plan.slots * plan.inner ≤ plan.period → length bundle ≡ plan.lanes * plan.stride → length outs ≡ plan.stride
    → length folds ≡ element_words t
    → AllScan folds bundle plan k d ((plan.lanes - 1) * plan.stride) outs run start
    → k + ((plan.slots - 1) * time t + d) + (b + 1) * plan.period ≤ length run - start
    → Holds (wave_of run start bundle) (k + b * plan.period) (element_words t) (slots (tseq plan.slots 0 (sseq plan.lanes t))) v
    → AllFit folds (plan.slots * plan.lanes) (st_atoms t * element_words t) v
    → Holds (wave_of run start outs) (k + ((plan.slots - 1) * time t + d) + b * plan.period) (element_words t) (slots t)
    (map (λ p. word_fold folds (st_atoms t * element_words t) v p (plan.slots * plan.lanes - 1)) (range_with_len 0 (st_atoms t * element_words t)))
reduce_holds t plan k d b run start folds bundle outs v size es et some wide room long_in long_out words scan bound held fits = λ a j s found lj.
    let w : ℕ = element_words t in
    let p : ℕ = s.lane * w + j in
    let word : ℕ = a * w + j in
    let total : ℕ = st_atoms t * w in
    let from : ℕ = (plan.lanes - 1) * plan.stride in
    let in_block = slot_in t a s size found in
    let la : a < st_atoms t = omega (arith, slice_get_within (slots t) a s found, length-slots t) in
    let lp : p < plan.stride = omega (arith, mul-add-lt s.lane w j (lanes t) in_block.1 lj) in
    let lw : word < total = omega (arith, mul-add-lt a w j (st_atoms t) la lj) in
    let here = scans_at folds bundle plan k d from outs run start p (plan.lanes - 1) p scan (omega arith) lp refl in
    let turn : from ≡ (plan.lanes - 1) * (lanes t * w) = ap (λ n. (plan.lanes - 1) * n) es in
    let assoc : (plan.lanes - 1) * lanes t * w ≡ (plan.lanes - 1) * (lanes t * w) = mul_assoc (plan.lanes - 1) (lanes t) w in
    let add : ((plan.lanes - 1) * lanes t + s.lane) * w ≡ (plan.lanes - 1) * lanes t * w + s.lane * w = add-mul ((plan.lanes - 1) * lanes t) s.lane w in
    let at : from + p ≡ ((plan.lanes - 1) * lanes t + s.lane) * w + j = omega arith in
    let is : fold_at folds (from + p) ≡ fold_at folds word = same_fold folds w ((plan.lanes - 1) * lanes t + s.lane) a j (from + p) words lj at in
    let q1 : plan.slots ≡ suc (plan.slots - 1) = omega arith in
    let whole : plan.slots * plan.inner ≡ (plan.slots - 1) * plan.inner + plan.inner = ap (λ n. n * plan.inner) q1 ∙ suc-mul (plan.slots - 1) plan.inner in
    let times : (plan.slots - 1) * plan.inner ≡ (plan.slots - 1) * time t = ap (λ n. (plan.slots - 1) * n) et in
    let block : (b + 1) * plan.period ≡ b * plan.period + 1 * plan.period = add-mul b 1 plan.period in
    let clock : start + (k + ((plan.slots - 1) * time t + d) + b * plan.period + s.clock) ≡ start + (k + b * plan.period + (plan.slots - 1) * time
    t + s.clock + d) = omega arith in
    let within : start + (k + b * plan.period + (plan.slots - 1) * time t + s.clock + d) < length run = omega (arith, in_block.0) in
    let count : plan.slots * plan.lanes ≡ (plan.slots - 1) * plan.lanes + plan.lanes = ap (λ n. n * plan.lanes) q1 ∙ suc-mul (plan.slots - 1) plan.lanes in
    let last : (plan.slots - 1) * plan.lanes + (plan.lanes - 1) ≡ plan.slots * plan.lanes - 1 = omega arith in
    let fit = fit_of folds (fold_at folds (from + p)) plan.slots plan.lanes total v (plan.slots - 1) (plan.lanes - 1) word (omega arith)
    (omega arith) lw is fits in
    let made = scan_word t plan k d b run start (net_at outs p) (fold_at folds (from + p)) folds bundle v es et long_in words held (plan.slots - 1)
    (plan.lanes - 1) a j s (omega arith) (omega arith) found in_block.0 in_block.1 lj is fit here within in
    let f : ℕ → ℕ = λ x. word_fold folds total v x ((plan.slots - 1) * plan.lanes + (plan.lanes - 1)) in
    wave_word run start outs (k + ((plan.slots - 1) * time t + d) + b * plan.period + s.clock) p (omega arith)
    ∙ rw (clock, ← last) (made ∙ sym (get_or-map-range_with_len f 0 total word word 0 lw (omega arith))
    ∙ sym (unwrap_or-slice_get (map f (range_with_len 0 total)) word 0))

pub scan_holds : (t : StTree) (plan : Plan) (k d b : ℕ) (run : List Clock) (start : ℕ) (folds : List WordFold) (bundle outs : List NetId) (v : List ℕ)
    → IsInSize t → plan.stride ≡ lanes t * element_words t → plan.inner ≡ time t
    → 1 ≤ plan.lanes → plan.slots * plan.inner ≤ plan.period → length bundle ≡ plan.lanes * plan.stride → length outs ≡ plan.lanes * plan.stride
    → length folds ≡ element_words t
    → AllScan folds bundle plan k d 0 outs run start → k + d + (b + 1) * plan.period ≤ length run - start
    → Holds (wave_of run start bundle) (k + b * plan.period) (element_words t) (slots (tseq plan.slots 0 (sseq plan.lanes t))) v
    → AllFit folds (plan.slots * plan.lanes) (st_atoms t * element_words t) v
    → Holds (wave_of run start outs) (k + d + b * plan.period) (element_words t) (slots (tseq plan.slots 0 (sseq plan.lanes t)))
    (map (λ x. word_fold folds (st_atoms t * element_words t) v (x % (st_atoms t * element_words t)) (x / (st_atoms t * element_words t)))
    (range_with_len 0 (plan.slots * plan.lanes * (st_atoms t * element_words t))))
scan_holds t plan k d b run start folds bundle outs v size es et wide room long_in long_out words scan bound held fits = λ e j slot there lj.
    let w : ℕ = element_words t in
    let total : ℕ = st_atoms t * w in
    let one = atom_of t plan.slots plan.lanes e slot wide (omega (arith, atoms_pos t size.lengths)) there in
    let q = one.q in
    let l = one.l in
    let a = one.a in
    let s = one.s in
    let in_block = slot_in t a s size one.found in
    let p : ℕ = s.lane * w + j in
    let word : ℕ = a * w + j in
    let i : ℕ = q * plan.lanes + l in
    let la : a < st_atoms t = omega (arith, slice_get_within (slots t) a s one.found, length-slots t) in
    let lp : p < plan.stride = omega (arith, mul-add-lt s.lane w j (lanes t) in_block.1 lj) in
    let lw : word < total = omega (arith, mul-add-lt a w j (st_atoms t) la lj) in
    let net : ℕ = l * plan.stride + p in
    let ln : net < length outs = omega (arith, mul-add-lt l plan.stride p plan.lanes one.ll lp) in
    let here = scans_at folds bundle plan k d 0 outs run start net l p scan ln lp (omega arith) in
    let turn : l * plan.stride ≡ l * (lanes t * w) = ap (λ n. l * n) es in
    let assoc : l * lanes t * w ≡ l * (lanes t * w) = mul_assoc l (lanes t) w in
    let add : (l * lanes t + s.lane) * w ≡ l * lanes t * w + s.lane * w = add-mul (l * lanes t) s.lane w in
    let at : 0 + net ≡ (l * lanes t + s.lane) * w + j = omega arith in
    let is : fold_at folds (0 + net) ≡ fold_at folds word = same_fold folds w (l * lanes t + s.lane) a j (0 + net) words lj at in
    let lq1 : suc q ≤ plan.slots = omega (arith, one.lq) in
    let slot_in_time : suc q * plan.inner ≤ plan.slots * plan.inner = mul-le-mul_right plan.inner lq1 in
    let whole : suc q * plan.inner ≡ q * plan.inner + plan.inner = suc-mul q plan.inner in
    let times : q * plan.inner ≡ q * time t = ap (λ n. q * n) et in
    let block : (b + 1) * plan.period ≡ b * plan.period + 1 * plan.period = add-mul b 1 plan.period in
    let clock : start + (k + d + b * plan.period + (q * time t + s.clock)) ≡ start + (k + b * plan.period + q * time t + s.clock + d) = omega arith in
    let within : start + (k + b * plan.period + q * time t + s.clock + d) < length run = omega (arith, in_block.0) in
    let fit = fit_of folds (fold_at folds (0 + net)) plan.slots plan.lanes total v q l word one.lq one.ll lw is fits in
    let made = scan_word t plan k d b run start (net_at outs net)
    (fold_at folds (0 + net)) folds bundle v es et long_in words held q l a j s one.lq one.ll one.found in_block.0 in_block.1 lj is fit here within in
    let cut2 : (i * st_atoms t + a) * w ≡ i * st_atoms t * w + a * w = add-mul (i * st_atoms t) a w in
    let assoc2 : i * st_atoms t * w ≡ i * total = mul_assoc i (st_atoms t) w in
    let back : e * w ≡ (i * st_atoms t + a) * w = ap (λ n. n * w) one.place in
    let x : e * w + j ≡ i * total + word = omega arith in
    let rest : (i * total + word) % total ≡ word = mod-mul-add i total word lw in
    let part : (i * total + word) / total ≡ i = div-mul-add i total word lw in
    let li : i < plan.slots * plan.lanes = omega (arith, mul-add-lt q plan.lanes l plan.slots one.lq one.ll) in
    let lx : i * total + word < plan.slots * plan.lanes * total = omega (arith, mul-add-lt i total word (plan.slots * plan.lanes) li lw) in
    let f : ℕ → ℕ = λ n. word_fold folds total v (n % total) (n / total) in
    let got : unwrap_or (slice_get (map f (range_with_len 0 (plan.slots * plan.lanes * total))) (i * total + word)) 0 ≡ word_fold folds total v word i =
    unwrap_or-slice_get (map f (range_with_len 0 (plan.slots * plan.lanes * total))) (i * total + word) 0 ∙
    get_or-map-range_with_len f 0 (plan.slots * plan.lanes * total) (i * total + word) (i * total + word) 0 lx (omega arith) ∙ rw (rest, part) refl in
    let lane : (l * lanes t + s.lane) * w + j ≡ net = omega arith in
    rw (one.is, lane, x)
    (wave_word run start outs (k + d + b * plan.period + (q * time t + s.clock)) net ln ∙ rw clock (made ∙ sym got))
