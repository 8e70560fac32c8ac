-- The nets behind loops over slots.
use Rattle.std.proofs.Common.{ℕ, suc, ◌≡◌, ◌+◌, ◌-◌, ◌*◌, ◌/◌, ◌%◌, ◌<◌, ◌≤◌, inl, inr, nat_lt, true, List, ◌++◌, ◌∷◌, [], length, map, get_or, Option, Some, None, slice_get, arith, refl, sym, ap, ◌∙◌, subst, rules, length-append}
use Rattle.std.specs.Option.{option_map}
use Rattle.std.proofs.Math.Nat.{add-mul, suc-mul}
use Rattle.std.proofs.lemmas.Nat.{div-mul-add, mod-mul-add, div_below, mod_below, div-add-mod'}
use Rattle.std.proofs.lemmas.List.{length-map}
use Rattle.std.proofs.lemmas.Option.{slice_get-map, slice_get-get_or, slice_get_within, get_or_from_slice_get}
use Rattle.ae_netlist.specs.declared.cell.NetId.{NetId}
use Rattle.ae_netlist.specs.declared.cell.SizedCell.{SizedCell}
use Rattle.ae_netlist.specs.Circuit.{Circuit, IsNet, Extends}
use Rattle.ae_netlist.proofs.Gets.{get_push_cases}
use Rattle.ae_netlist.proofs.Growing.{extends_trans, net_later}
use Rattle.ae_gates.specs.Cells.{Adds}
use Rattle.ae_fold.specs.declared.words.WordFold.{WordFold}
use Rattle.ae_fold.specs.declared.plan.Plan.{Plan}
use Rattle.ae_fold.specs.declared.feedback.Loop.{Loop}
use Rattle.ae_fold.specs.declared.marks.SlotMark.{SlotMark}
use Rattle.ae_fold.specs.Folding.{AreFolds, fold_at}
use Rattle.ae_fold.specs.Rows.{AreEnds, AreFoldNets, AreFollowers, AreOverLanes, AreScans, Follows, IsMark, IsOverLanes, IsPlan, IsScan, Marks, net_at, wait_of}
use Rattle.ae_fold.specs.Feedback.{AddsStores}
use Rattle.ae_fold.proofs.Storing.{stores_is, stores_of, stores_trans}
use Rattle.ae_fold.proofs.Looping.{fold_op}
use Rattle.ae_fold.proofs.Kinding.{get_append_cases}
use Rattle.ae_fold.proofs.Blocks.{same_place, turns_of}
use Rattle.ae_fold.proofs.Scanning.{scan_follow, scan_loop, scan_once}

pub follows_grow : {a b : List SizedCell} {fold : WordFold} {x first z : ℕ} {one : Loop} → Extends a b → Follows a fold x first one z
    → Follows b fold x first one z
follows_grow g h = record { net = net_later g h.net; words = λ all e run r. h.words all (extends_trans g e) run r }

pub followers_none : (cells : List SizedCell) (folds : List WordFold) (nets : List NetId) (stride first : ℕ) (loops : List Loop)
    → AreFollowers cells folds nets stride first loops []
followers_none cells folds nets stride first loops = record { each = λ q one z f h. (let no : q < 0 = slice_get_within [] q z h in absurd (omega arith)) }

pub followers_more : (a b : List SizedCell) (folds : List WordFold) (nets : List NetId) (stride first q : ℕ) (loops : List Loop) (outs : List NetId)
    (one : Loop) (z : NetId) → length outs ≡ q → Extends a b → AreFollowers a folds nets stride first loops outs
    → slice_get loops (q % stride) ≡ Some one → Follows b (fold_at folds q) (net_at nets q) first one z.0
    → AreFollowers b folds nets stride first loops (outs ++ z ∷ [])
followers_more a b folds nets stride first q loops outs one z long g h at new = record {
  each = λ k other y fo found. elim (get_push_cases outs z k y found) [
    | inl v ↦ follows_grow g (h.each k other y fo v.0)
    | inr v ↦
        let e : k ≡ q = v.0 ∙ long in
        let same : Some one ≡ Some other = sym at ∙ (ap (λ i. slice_get loops (i % stride)) (sym e) ∙ fo) in
        let is : one ≡ other = cc in
        rw e (subst (λ (i : NetId). Follows b (fold_at folds q) (net_at nets q) first other i.0) v.1
        (subst (λ (i : Loop). Follows b (fold_at folds q) (net_at nets q) first i z.0) is new))
  ];
}

-- the place of a number
cut_at : (stride q : ℕ) → q ≡ q / stride * stride + q % stride
cut_at stride q = sym (div-add-mod' q stride)

fold_place : (folds : List WordFold) (stride n p : ℕ) → 1 ≤ length folds → stride % length folds ≡ 0 → fold_at folds (n * stride + p) ≡ fold_at folds p
fold_place folds stride n p some whole =
    ap (fold_at folds) (let e : n * stride + p ≡ p + n * stride = omega arith in e) ∙ same_place folds stride n p some whole

-- the loop at the place of an earlier net folds alike
pub back_place : (folds : List WordFold) (from stride q : ℕ) → 1 ≤ length folds → stride % length folds ≡ 0 → from % stride ≡ 0
    → fold_at folds (from + q % stride) ≡ fold_at folds q
back_place folds from stride q some whole lanes =
    let f : from ≡ from / stride * stride = turns_of from stride lanes in
    let e : from + q % stride ≡ from / stride * stride + q % stride = omega arith in
    ap (fold_at folds) e ∙ fold_place folds stride (from / stride) (q % stride) some whole ∙
    sym (ap (fold_at folds) (cut_at stride q) ∙ fold_place folds stride (q / stride) (q % stride) some whole)

pub back_net : (cells : List SizedCell) (folds : List WordFold) (from stride q : ℕ) (loops : List Loop) (one : Loop) → 1 ≤ length folds → 1 ≤ stride
    → stride % length folds ≡ 0 → from % stride ≡ 0
    → ((p : ℕ) (x : Loop) → slice_get loops p ≡ Some x → IsNet cells x.back.0 (fold_at folds (from + p)).width) → slice_get loops (q % stride) ≡ Some one
    → IsNet cells one.back.0 (fold_at folds q).width
back_net cells folds from stride q loops one some pos whole lanes h found = rw (back_place folds from stride q some whole lanes) at (h (q % stride) one found)

pub loop_there : (loops : List Loop) (stride q : ℕ) → length loops ≡ stride → 1 ≤ stride
    → slice_get loops (q % stride) ≡ Some (get_or loops (q % stride) (record { word = record { 0 = 0 }; back = record { 0 = 0 } }))
loop_there loops stride q long pos = slice_get-get_or loops (q % stride) _ (omega (arith, mod_below q stride pos))

-- ---- what the nets hold at the end

-- the fold over lanes at a place
over_at : (cells : List SizedCell) (folds : List WordFold) (bundle : List NetId) (stride levels base : ℕ) (nets : List NetId) (n q l p : ℕ) → 1 ≤ length folds
    → stride % length folds ≡ 0 → AreOverLanes cells folds bundle stride levels base nets
    → q < length nets → base ≡ n * stride → q ≡ l * stride + p → p < stride → IsOverLanes cells (fold_at folds p) bundle stride p (n + l) levels (net_at nets q)
over_at cells folds bundle stride levels base nets n q l p some whole h lq eb eq lp =
    let sum : (n + l) * stride ≡ n * stride + l * stride = add-mul n l stride in
    let at : base + q ≡ (n + l) * stride + p = omega arith in
    let place : (base + q) % stride ≡ p = ap (λ x. x % stride) at ∙ mod-mul-add (n + l) stride p lp in
    let lane : (base + q) / stride ≡ n + l = ap (λ x. x / stride) at ∙ div-mul-add (n + l) stride p lp in
    let fold : fold_at folds (base + q) ≡ fold_at folds p = ap (fold_at folds) at ∙ fold_place folds stride (n + l) p some whole in
    rw (fold, place, lane) at (h.each q lq)

-- and back
scan_at : (cells : List SizedCell) (rst : ℕ) (folds : List WordFold) (bundle : List NetId) (plan : Plan) (k d base n q l p y : ℕ) → 1 ≤ length folds
    → plan.stride % length folds ≡ 0 → base ≡ n * plan.stride → q ≡ l * plan.stride + p → p < plan.stride
    → IsScan cells rst (fold_at folds p) bundle plan k d p (n + l) y
    → IsScan cells rst (fold_at folds (base + q)) bundle plan k d ((base + q) % plan.stride) ((base + q) / plan.stride) y
scan_at cells rst folds bundle plan k d base n q l p y some whole eb eq lp h =
    let sum : (n + l) * plan.stride ≡ n * plan.stride + l * plan.stride = add-mul n l plan.stride in
    let at : base + q ≡ (n + l) * plan.stride + p = omega arith in
    let place : (base + q) % plan.stride ≡ p = ap (λ x. x % plan.stride) at ∙ mod-mul-add (n + l) plan.stride p lp in
    let lane : (base + q) / plan.stride ≡ n + l = ap (λ x. x / plan.stride) at ∙ div-mul-add (n + l) plan.stride p lp in
    let fold : fold_at folds (base + q) ≡ fold_at folds p = ap (fold_at folds) at ∙ fold_place folds plan.stride (n + l) p some whole in
    rw (fold, place, lane) h

lane_below : (stride m q : ℕ) → 1 ≤ stride → q < m * stride + stride → q / stride ≤ m
lane_below stride m q pos l =
    let up : suc m * stride ≡ m * stride + stride = suc-mul m stride in
    let b : q / stride < suc m = div_below q stride (suc m) pos (omega arith) in
    omega arith

waits : (slots : ℕ) → 2 ≤ slots → wait_of slots ≡ 1
waits slots h = let t : nat_lt 1 slots ≡ true = search rules in rw t refl

no_wait : (slots : ℕ) → slots ≡ 1 → wait_of slots ≡ 0
no_wait slots h = rw h refl

-- the last lane is number n + m, where the nets begin at lane n and the loops m lanes further
ends_by : (cells : List SizedCell) (rst : ℕ) (folds : List WordFold) (bundle : List NetId) (plan : Plan) (k base from n m : ℕ) (nets : List NetId)
    (mark : Option SlotMark) (outs : List NetId) → IsPlan plan → AreFolds folds → plan.stride % length folds ≡ 0
    → base ≡ n * plan.stride → from ≡ m * plan.stride → n + m + 1 ≡ plan.lanes → length nets ≡ from + plan.stride
    → AreOverLanes cells folds bundle plan.stride plan.levels base nets
    → Marks cells rst plan.slots plan.period (k + plan.levels) plan.inner mark → AreEnds cells rst folds nets from plan.stride plan.inner mark outs
    → AreScans cells rst folds bundle plan k (plan.levels + wait_of plan.slots) base outs
ends_by cells rst folds bundle plan k base from n m nets None outs p fs whole eb ef lanes long over once is = record {
  each = λ q y found.
      let stride : ℕ = plan.stride in
      let pos : 1 ≤ stride = p.placed in
      let e : outs ≡ nets = is in
      let lq : q < length nets = rw e at (slice_get_within outs q y found) in
      let ll : q / stride ≤ m = lane_below stride m q pos (omega arith) in
      let lp : q % stride < stride = mod_below q stride pos in
      let at : net_at nets q ≡ y.0 = ap (λ (x : NetId). x.0) (get_same nets q y (rw e at found)) in
      let one = over_at cells folds bundle stride plan.levels base nets n q (q / stride) (q % stride) fs.some whole over lq eb (cut_at stride q) lp in
      let d : plan.levels + wait_of plan.slots ≡ plan.levels = rw (no_wait plan.slots once) (omega arith) in
      rw d (scan_at cells rst folds bundle plan k plan.levels base n q (q / stride) (q % stride) y.0 fs.some whole eb (cut_at stride q) lp
      (scan_once cells rst (fold_at folds (q % stride)) bundle plan k (q % stride) (n + q / stride) y.0 once (omega arith) (rw at at one)));
}
  where
    get_same : (nets : List NetId) (q : ℕ) (y : NetId) → slice_get nets q ≡ Some y → get_or nets q (record { 0 = 0 }) ≡ y
    get_same nets q y h = get_or_from_slice_get nets q y (record { 0 = 0 }) h
ends_by cells rst folds bundle plan k base from n m nets (Some first) outs p fs whole eb ef lanes long over mark ends = record {
  each = λ q y found.
      let stride : ℕ = plan.stride in
      let pos : 1 ≤ stride = p.placed in
      let some : 1 ≤ length folds = fs.some in
      let known : IsMark cells rst plan.slots plan.period (k + plan.levels) plan.inner first = mark in
      let words : List NetId = map (λ (one : Loop). one.word) ends.loops in
      let d : plan.levels + wait_of plan.slots ≡ plan.levels + 1 = ap (λ x. plan.levels + x) (waits plan.slots known.many) in
      let l : ℕ = q / stride in
      let pl : ℕ = q % stride in
      let lp : pl < stride = mod_below q stride pos in
      let cut : q ≡ l * stride + pl = cut_at stride q in
      rw d
      (elim (get_append_cases ends.followers words q y y (ap (λ (xs : List NetId). slice_get xs q) (sym ends.is) ∙ found)) [
        | inl v ↦
            let lq : q < from = omega (arith, v.0, ends.before) in
            let lq_nets : q < length nets = omega arith in
            let ll : l < m = div_below q stride m pos (omega arith) in
            let last_in : from + pl < length nets = omega arith in
            let loop : Loop = get_or ends.loops pl (record { word = record { 0 = 0 }; back = record { 0 = 0 } }) in
            let there : slice_get ends.loops pl ≡ Some loop = slice_get-get_or ends.loops pl _ (omega (arith, ends.long)) in
            let last_at : from + pl ≡ m * stride + pl = omega arith in
            let over_last = over_at cells folds bundle stride plan.levels base nets n (from + pl) m pl some whole over last_in eb last_at lp in
            let end : n + m ≡ plan.lanes - 1 = omega arith in
            let over_x = over_at cells folds bundle stride plan.levels base nets n q l pl some whole over lq_nets eb cut lp in
            let fold_last : fold_at folds (from + pl) ≡ fold_at folds pl = ap (fold_at folds) last_at ∙ fold_place folds stride m pl some whole in
            let fold_q : fold_at folds q ≡ fold_at folds pl = ap (fold_at folds) cut ∙ fold_place folds stride l pl some whole in
            let is_loop = rw fold_last at (ends.over.each pl loop there) in
            let next = rw fold_q at (ends.follow.each q loop y there v.1) in
            scan_at cells rst folds bundle plan k (plan.levels + 1) base n q l pl y.0 some whole eb cut lp
            (scan_follow cells rst (fold_at folds pl) bundle plan k pl (n + l) (net_at nets q) (net_at nets (from + pl)) first y.0 loop p
            (fold_op folds pl fs) (omega arith) known (rw end at over_last) over_x is_loop next.net next.words)
        | inr v ↦
            let i : ℕ = q - length ends.followers in
            let li : i < length ends.loops = omega (arith, slice_get_within words i y v.1, length-map ends.loops (λ (one : Loop). one.word)) in
            let loop : Loop = get_or ends.loops i (record { word = record { 0 = 0 }; back = record { 0 = 0 } }) in
            let there : slice_get ends.loops i ≡ Some loop = slice_get-get_or ends.loops i _ li in
            let got : Some loop.word ≡ Some y = sym (ap (option_map (λ (one : Loop). one.word)) there) ∙
            (sym (slice_get-map (λ (one : Loop). one.word) ends.loops i) ∙ v.1) in
            let is : loop.word ≡ y = cc in
            let q_is : from + i ≡ q = omega (arith, v.0, ends.before) in
            let at : q ≡ m * stride + i = omega arith in
            let small : i < stride = omega (arith, ends.long) in
            let over_x = over_at cells folds bundle stride plan.levels base nets n q m i some whole over (omega arith) eb at small in
            let fold_i : fold_at folds (from + i) ≡ fold_at folds i = ap (fold_at folds) (let e : from + i ≡ m * stride + i = omega arith in e) ∙
            fold_place folds stride m i some whole in
            let is_loop = rw q_is at (rw fold_i at (ends.over.each i loop there)) in
            let end : n + m ≡ plan.lanes - 1 = omega arith in
            scan_at cells rst folds bundle plan k (plan.levels + 1) base n q m i y.0 some whole eb at small
            (rw end (subst (λ (x : NetId). IsScan cells rst (fold_at folds i) bundle plan k (plan.levels + 1) i (plan.lanes - 1) x.0) is
            (scan_loop cells rst (fold_at folds i) bundle plan k i (net_at nets q) first loop p (fold_op folds i fs) known (rw end at over_x) is_loop)))
      ]);
}

pub ends_scan : (cells : List SizedCell) (rst : ℕ) (folds : List WordFold) (bundle : List NetId) (plan : Plan) (k base from n m : ℕ) (nets : List NetId)
    (mark : Option SlotMark) (outs : List NetId) → IsPlan plan → AreFolds folds → plan.stride % length folds ≡ 0
    → base ≡ n * plan.stride → from ≡ m * plan.stride → n + m + 1 ≡ plan.lanes → length nets ≡ from + plan.stride
    → AreOverLanes cells folds bundle plan.stride plan.levels base nets
    → Marks cells rst plan.slots plan.period (k + plan.levels) plan.inner mark → AreEnds cells rst folds nets from plan.stride plan.inner mark outs
    → AreScans cells rst folds bundle plan k (plan.levels + wait_of plan.slots) base outs
ends_scan cells rst folds bundle plan k base from n m nets mark outs p fs whole eb ef lanes long over marks ends =
    ends_by cells rst folds bundle plan k base from n m nets mark outs p fs whole eb ef lanes long over marks ends

-- as many nets as before
pub ends_long : (cells : List SizedCell) (rst : ℕ) (folds : List WordFold) (nets : List NetId) (from stride inner : ℕ) (mark : Option SlotMark)
    (outs : List NetId)
    → length nets ≡ from + stride → AreEnds cells rst folds nets from stride inner mark outs → length outs ≡ from + stride
ends_long cells rst folds nets from stride inner None outs long is = ap (λ (xs : List NetId). length xs) is ∙ long
ends_long cells rst folds nets from stride inner (Some first) outs long h =
    ap (λ (xs : List NetId). length xs) h.is ∙ omega (
      arith,
      length-append h.followers (map (λ (one : Loop). one.word) h.loops),
      length-map h.loops (λ (one : Loop). one.word),
      h.long,
      h.before,
    )

-- ---- the cells and products of loops and of the nets behind them

pub loops_adds : (a b c : Circuit) (from stride inner total muls stores : ℕ) → total ≡ from + stride
    → AddsStores a b ((total - from) * (inner + 9)) ((total - from) * muls) ((total - from) * stores) → Adds b c (from * 10) (from * muls)
    → AddsStores a c (stride * (inner + 9) + from * 10) (total * muls) (stride * stores)
loops_adds a b c from stride inner total muls stores e p q =
    let n : total - from ≡ stride = omega arith in
    let made : AddsStores a b (stride * (inner + 9)) (stride * muls) (stride * stores) = rw n at p in
    let cut : (stride + from) * muls ≡ stride * muls + from * muls = add-mul stride from muls in
    let turn : total * muls ≡ (stride + from) * muls = ap (λ k. k * muls) (let s : total ≡ stride + from = omega arith in s) in
    stores_is (omega arith) (omega arith) (omega arith) (stores_trans made (stores_of q))

-- the nets that scan are those of their words
pub scans_nets : (cells : List SizedCell) (rst : ℕ) (folds : List WordFold) (bundle : List NetId) (plan : Plan) (k d base n : ℕ) (outs : List NetId)
    → 1 ≤ length folds → plan.stride % length folds ≡ 0 → base ≡ n * plan.stride
    → AreScans cells rst folds bundle plan k d base outs → AreFoldNets cells folds outs
scans_nets cells rst folds bundle plan k d base n outs some whole eb h = record {
  each = λ q lq.
      let e : fold_at folds (base + q) ≡ fold_at folds q = ap (λ x. fold_at folds (x + q)) eb ∙ fold_place folds plan.stride n q some whole in
      rw e at (h.each q _ (slice_get-get_or outs q (record { 0 = 0 }) lq)).net;
}
