-- When items arrive, and what the nodes of an instance cost.
use Rattle.std.proofs.Common.{ℕ, zero, suc, Bool, true, false, ◌==◌, ◌≡◌, ◌+◌, ◌-◌, ◌*◌, ◌<◌, ◌≤◌, inl, inr, max, fold, List, [], ◌∷◌, ◌++◌, append_assoc, length, length-append, map, take, drop, sum_by, get_or, Some, slice_get, arith, refl, ap, sym, ◌∙◌, subst, Option}
use Rattle.std.specs.Option.{option_map}
use Rattle.std.proofs.Math.Nat.{mul-le-mul_right}
use Rattle.std.proofs.lemmas.Bool.{cases_lt}
use Rattle.std.proofs.lemmas.Bool.Decides.{nat_tests}
use Rattle.std.proofs.lemmas.List.{get_or_append_left, get_or_past, get_or_at, length-map, length-take-le, map-append, take-append-drop, take-take}
use Rattle.std.proofs.lemmas.List.Sums.{sum_by-cons, sum_by_more, sum_by_more_le, sum_by_push}
use Rattle.std.proofs.lemmas.Option.{get_or_from_slice_get, none-some, same_Some, slice_get-get_or, slice_get-map, slice_get_within, unwrap_or-slice_get}
use Rattle.std.specs.Prelude.{unwrap_or}
use Rattle.ae_seq.specs.Typing.{grown}
use Rattle.ae_eval.proofs.Items.{entry-grown, slice_get-take, take-grown}
use Rattle.ae_moves.proofs.Words.{lead_le}
use Rattle.ae_netlist.specs.declared.cell.NetId.{NetId}
use Rattle.ae_netlist.proofs.Gets.{get_from_take, get_push_cases}
use Rattle.ae_fold.proofs.Kinding.{get_right}
use Rattle.ae_sttype.specs.StTree.{StTree}
use Rattle.ae_sttype.specs.Moves.{columns_of}
use Rattle.ae_rewrite.specs.StProgramTree.{StOpTree, word, join, first, second, fixed, move, fold as fold_op, scan, body, StNodeTree, StFuncTree}
use Rattle.ae_rewrite.specs.Sound.{IsSound, item_layout, item_layouts}
use Rattle.ae_delay.specs.declared.own.OwnCosts.{OwnCosts}
use Rattle.ae_delay.specs.OwnCosts.{op_costs, wire_costs}
use Rattle.ae_delay.specs.Costs.{NodeTiming, Use, all_costs, arrivals_of, func_costs, latest, next_timing, node_costs, node_timings, slack_load, uses_at}
use Rattle.ae_delay.proofs.Instances.{node_sound}
use Rattle.ae_retime.specs.Slacks.{joint_slacks, joint_uses}
use Rattle.ae_lower.specs.Delaying.{delay_load}
use Rattle.ae_lower.specs.Lowering.{IsNodeAt, arrivals_in, costs_in, instance_costs, timings_in}
use Rattle.ae_delay.proofs.Meeting.{most_same as greatest_same}
use Rattle.ae_moves.proofs.Lists.{from_first as greatest_from}

-- ---- the latest of some items

greatest_at : {X : Type 0} (f : X → ℕ) (a : ℕ) (xs : List X) (r : ℕ) (x : X) → slice_get xs r ≡ Some x → f x ≤ fold (λ most y. max most (f y)) a xs
greatest_at f a [] r x h = absurd (none-some x h)
greatest_at f a (y ∷ ys) zero x h =
    let l : max a (f y) ≤ fold (λ most z. max most (f z)) (max a (f y)) ys = greatest_from f (max a (f y)) ys in
    let e : f y ≡ f x = ap f (same_Some y x h) in
    omega (arith, l, e)
greatest_at f a (y ∷ ys) (suc r) x h = greatest_at f (max a (f y)) ys r x h

pub latest_at : (arrivals items : List ℕ) (r i : ℕ) → slice_get items r ≡ Some i → get_or arrivals i 0 ≤ latest arrivals items
latest_at arrivals items r i h = subst (λ v. v ≤ latest arrivals items) (unwrap_or-slice_get arrivals i 0)
    (greatest_at (λ a. unwrap_or (slice_get arrivals a) 0) 0 items r i h)

uses_same : (xs ys : List ℕ) (start : ℕ) (chosen : List ℕ) → ((r i : ℕ) → slice_get chosen r ≡ Some i → get_or xs i 0 ≡ get_or ys i 0)
    → uses_at xs start chosen ≡ uses_at ys start chosen
uses_same xs ys start [] same = refl
uses_same xs ys start (i ∷ is) same =
    ap (λ (v : ℕ). (let u : Use = record { item = i; slack = start - v } in u) ∷ uses_at xs start is)
    (unwrap_or-slice_get xs i 0 ∙ (same 0 i refl ∙ sym (unwrap_or-slice_get ys i 0)))
    ∙ ap (λ us. (let u : Use = record { item = i; slack = start - unwrap_or (slice_get ys i) 0 } in u) ∷ us)
    (uses_same xs ys start is (λ r k h. same (suc r) k h))

-- what waits as its slack is as late as the latest
pub wait_at : (arrivals chosen waits : List ℕ) (r i : ℕ) → waits ≡ joint_slacks arrivals chosen → slice_get chosen r ≡ Some i
    → get_or arrivals i 0 + get_or waits r 0 ≡ latest arrivals chosen
wait_at arrivals chosen waits r i are found =
    let slack : ℕ → ℕ = λ a. latest arrivals chosen - get_or arrivals a 0 in
    let here : slice_get (map slack chosen) r ≡ Some (slack i) = slice_get-map slack chosen r ∙ ap (option_map slack) found in
    let is : get_or waits r 0 ≡ slack i = ap (λ ws. get_or ws r 0) are ∙ get_or_from_slice_get (map slack chosen) r (slack i) 0 here in
    let l : get_or arrivals i 0 ≤ latest arrivals chosen = latest_at arrivals chosen r i found in
    omega (arith, is, l)

pub waits_long : (arrivals chosen waits : List ℕ) → waits ≡ joint_slacks arrivals chosen → length waits ≡ length chosen
waits_long arrivals chosen waits are = ap length are ∙ length-map chosen (λ a. latest arrivals chosen - get_or arrivals a 0)

-- where there is an item, and where there is none
pub some_wait : (none : Bool) (count : ℕ) → none ≡ (count == 0) → none ≡ false → 0 < count
some_wait none zero is some = cc
some_wait none (suc n) is some = omega arith

is_zero : (count : ℕ) → (count == 0) ≡ true → count ≡ 0
is_zero count h = grind (arith, nat_tests)

latest_of_none : (arrivals chosen : List ℕ) → length chosen ≡ 0 → 0 ≡ latest arrivals chosen
latest_of_none arrivals [] e = refl
latest_of_none arrivals (i ∷ is) e = absurd (omega (arith, e))

pub none_wait : (none : Bool) (arrivals chosen : List ℕ) → none ≡ (length chosen == 0) → none ≡ true → 0 ≡ latest arrivals chosen
none_wait none arrivals chosen is so = latest_of_none arrivals chosen (is_zero (length chosen) (sym is ∙ so))

-- the registers before items whose bundles have the columns of their layouts
pub delays_cost : (items : List (List NetId)) (arrivals : List ℕ) (start : ℕ) (layouts : List StTree) (chosen : List ℕ)
    → ((r i : ℕ) → slice_get chosen r ≡ Some i → length (get_or items i []) ≡ columns_of (item_layout layouts i))
    → delay_load items (map (λ a. start - get_or arrivals a 0) chosen) chosen ≡ slack_load layouts (uses_at arrivals start chosen)
delays_cost items arrivals start layouts [] long = refl
delays_cost items arrivals start layouts (i ∷ is) long =
    let waits : List ℕ → List ℕ = λ cs. map (λ a. start - get_or arrivals a 0) cs in
    let g : Use → ℕ = λ u. u.slack * columns_of (item_layout layouts u.item) in
    let u : Use = record { item = i; slack = start - unwrap_or (slice_get arrivals i) 0 } in
    let one : (start - get_or arrivals i 0) * length (get_or items i []) ≡ g u =
    (λ k. (start - sym (unwrap_or-slice_get arrivals i 0) k) * long 0 i refl k) in
    let rest : delay_load items (waits is) is ≡ sum_by g (uses_at arrivals start is) = delays_cost items arrivals start layouts is
    (λ r k h. long (suc r) k h) in
    ap (λ n. n + delay_load items (waits is) is) one ∙ (ap (λ n. g u + n) rest ∙ sym (sum_by-cons g u (uses_at arrivals start is)))

-- ---- no latency above the load

abbrev pub AreEarly : List OwnCosts → Type 0
AreEarly known = (k : ℕ) (c : OwnCosts) → slice_get known k ≡ Some c → c.latency ≤ c.load

own_le : (a b : ℕ) → a ≤ 1 + a + b
own_le a b = omega arith

own_first : (a b c d : ℕ) → a ≤ 1 + a + b + c + d
own_first a b c d = omega arith

one_of : (a b : ℕ) → 1 ≤ 1 + a + b
one_of a b = omega arith

one_first : (a b c d : ℕ) → 1 ≤ 1 + a + b + c + d
one_first a b c d = omega arith

known_early : (known : List OwnCosts) (k : ℕ) → AreEarly known
    → (unwrap_or (slice_get known k) wire_costs).latency ≤ (unwrap_or (slice_get known k) wire_costs).load
known_early known k early = rw (unwrap_or-slice_get known k wire_costs) (elim (cases_lt k (length known)) [
  | inl l ↦ early k (get_or known k wire_costs) (slice_get-get_or known k wire_costs l)
  | inr l ↦ (let e : get_or known k wire_costs ≡ wire_costs = get_or_past known k wire_costs l in
      subst (λ (c : OwnCosts). c.latency ≤ c.load) (sym e) (omega arith))
])

copies_le : (copies a b : ℕ) → 1 ≤ copies → a ≤ b → a ≤ 1 + copies * b
copies_le copies a b some l = let up : 1 * b ≤ copies * b = mul-le-mul_right b some in omega (arith, up)

op_early : (known : List OwnCosts) (a s : StTree) (copies : ℕ) (op : StOpTree) → 1 ≤ copies → AreEarly known
    → (op_costs known a s copies op).latency ≤ (op_costs known a s copies op).load
op_early known a s copies (word op) some early = omega arith
op_early known a s copies join some early = omega arith
op_early known a s copies first some early = omega arith
op_early known a s copies second some early = omega arith
op_early known a s copies (fixed ws) some early = omega arith
op_early known a s copies (move how) some early = omega arith
op_early known a s copies (fold_op op n m raw) some early = own_first _ _ _ _
op_early known a s copies (scan op n m) some early = own_le _ _
op_early known a s copies (body k) some early = copies_le copies _ _ some (known_early known k early)

-- ---- nodes, one after the other

abbrev load_of : NodeTiming → ℕ
load_of t = t.load

AllEarly : (ins : List StTree) → List NodeTiming → Type 0
AllEarly ins ts = (i : ℕ) → get_or (arrivals_of ins ts) i 0 ≤ sum_by load_of ts

zeros_early : (ins : List StTree) (i : ℕ) → get_or (map (λ (s : StTree). zero) ins ++ []) i 0 ≤ 0
zeros_early [] i = omega arith
zeros_early (s ∷ ins) zero = omega arith
zeros_early (s ∷ ins) (suc i) = zeros_early ins i

arrivals_push : (ins : List StTree) (ts : List NodeTiming) (t : NodeTiming) → arrivals_of ins (ts ++ t ∷ []) ≡ arrivals_of ins ts ++ t.arrival ∷ []
arrivals_push ins ts t =
    ap (λ xs. map (λ (s : StTree). zero) ins ++ xs) (map-append (λ (x : NodeTiming). x.arrival) ts (t ∷ []))
    ∙ sym (append_assoc (map (λ (s : StTree). zero) ins) (map (λ (x : NodeTiming). x.arrival) ts) (t.arrival ∷ []))

push_early : (ins : List StTree) (ts : List NodeTiming) (t : NodeTiming) → AllEarly ins ts → t.arrival ≤ sum_by load_of ts + t.load
    → AllEarly ins (ts ++ t ∷ [])
unfolding AllEarly
push_early ins ts t early late i =
    let xs : List ℕ = arrivals_of ins ts in
    let more : sum_by load_of (ts ++ t ∷ []) ≡ sum_by load_of ts + t.load = sum_by_push load_of ts t in
    rw (arrivals_push ins ts t) (elim (cases_lt i (length xs)) [
      | inl l ↦ (let e : get_or (xs ++ t.arrival ∷ []) i 0 ≡ get_or xs i 0 = get_or_append_left xs (t.arrival ∷ []) 0 i l in
          let own : get_or xs i 0 ≤ sum_by load_of ts = early i in omega (arith, e, own, more))
      | inr l ↦ elim (cases_lt i (length xs + 1)) [
        | inl low ↦
            let is : i ≡ length xs = omega (arith, l, low) in
            let e : get_or (xs ++ t.arrival ∷ []) i 0 ≡ t.arrival = ap (λ i. get_or (xs ++ t.arrival ∷ []) i 0) is ∙
            get_or_at xs t.arrival [] 0 (length xs) refl in
            omega (arith, e, late, more)
        | inr high ↦
            let e : get_or (xs ++ t.arrival ∷ []) i 0 ≡ 0 = get_or_past (xs ++ t.arrival ∷ []) i 0 (omega (arith, high, length-append xs (t.arrival ∷ []))) in
            omega (arith, e)
      ]
    ])

next_early : (known : List OwnCosts) (s : StFuncTree) (ts : List NodeTiming) (n : StNodeTree) → 1 ≤ n.copies → AreEarly known → AllEarly s.ins ts
    → (next_timing known s ts n).arrival ≤ sum_by load_of ts + (next_timing known s ts n).load
unfolding AllEarly
next_early known s ts n some early all =
    let start : latest (arrivals_of s.ins ts) n.args ≤ sum_by load_of ts =
    lead_le (λ a. unwrap_or (slice_get (arrivals_of s.ins ts) a) 0) 0 (sum_by load_of ts) n.args
    (omega arith) (λ i k f. subst (λ v. v ≤ sum_by load_of ts) (sym (unwrap_or-slice_get (arrivals_of s.ins ts) i 0)) (all i)) in
    let own : (node_costs known (item_layouts s) n).latency ≤ (node_costs known (item_layouts s) n).load = op_early known
    (item_layout (item_layouts s) (unwrap_or (slice_get n.args 0) 0)) n.type n.copies n.op some early in
    omega (arith, start, own)

grown_early : (known : List OwnCosts) (s : StFuncTree) (ns : List StNodeTree) (ts : List NodeTiming)
    → ((j : ℕ) (n : StNodeTree) → slice_get ns j ≡ Some n → 1 ≤ n.copies) → AreEarly known → AllEarly s.ins ts
    → AllEarly s.ins (grown (next_timing known s) ts ns)
grown_early known s [] ts some early all = all
grown_early known s (n ∷ ns) ts some early all =
    grown_early known s ns (ts ++ next_timing known s ts n ∷ []) (λ j m f. some (suc j) m f) early
    (push_early s.ins ts (next_timing known s ts n) all (next_early known s ts n (some 0 n refl) early all))

no_early : (ins : List StTree) → AllEarly ins []
unfolding AllEarly
no_early ins i = zeros_early ins i

abbrev AreCopied : StFuncTree → Type 0
AreCopied s = (j : ℕ) (n : StNodeTree) → slice_get s.nodes j ≡ Some n → 1 ≤ n.copies

func_early : (known : List OwnCosts) (s : StFuncTree) → AreCopied s → AreEarly known → (func_costs known s).latency ≤ (func_costs known s).load
unfolding AllEarly
func_early known s some early =
    let ts : List NodeTiming = node_timings known s in
    let all : AllEarly s.ins ts = grown_early known s s.nodes [] some early (no_early s.ins) in
    let end : latest (arrivals_of s.ins ts) s.results ≤ sum_by load_of ts =
    lead_le (λ a. unwrap_or (slice_get (arrivals_of s.ins ts) a) 0) 0 (sum_by load_of ts) s.results
    (omega arith) (λ i k f. subst (λ v. v ≤ sum_by load_of ts) (sym (unwrap_or-slice_get (arrivals_of s.ins ts) i 0)) (all i)) in
    omega (arith, end)

costs_early : (xs : List StFuncTree) (known : List OwnCosts) → ((k : ℕ) (s : StFuncTree) → slice_get xs k ≡ Some s → AreCopied s) → AreEarly known
    → AreEarly (grown func_costs known xs)
costs_early [] known some early = early
costs_early (s ∷ xs) known some early =
    costs_early xs (known ++ func_costs known s ∷ []) (λ k f at. some (suc k) f at) (λ k c at. elim (get_push_cases known (func_costs known s) k c at) [
      | inl h ↦ early k c h.0
      | inr h ↦ subst (λ (o : OwnCosts). o.latency ≤ o.load) h.1 (func_early known s (some 0 s refl) early)
    ])

sound_copied : (instances : List StFuncTree) (k : ℕ) (s : StFuncTree) → IsSound instances → slice_get instances k ≡ Some s → AreCopied s
sound_copied instances k s sound at j n f = (node_sound k s j n (sound.each k s at) f).some_copies

all_early : (instances : List StFuncTree) (k : ℕ) → IsSound instances → AreEarly (all_costs (take k instances))
all_early instances k sound = costs_early (take k instances) [] (λ i s at.
    (let low : i < k = (let l : i < length (take k instances) = slice_get_within (take k instances) i s at in take_low i l) in
    sound_copied instances i s sound (sym (slice_get-take k i instances low) ∙ at))) (λ k c at. absurd (none-some c at)) where
      take_low : (i : ℕ) → i < length (take k instances) → i < k
      take_low i l = below k i instances l where
        below : (n i : ℕ) (xs : List StFuncTree) → i < length (take n xs) → i < n
        below zero i xs h = absurd (omega arith)
        below (suc n) i [] h = absurd (omega arith)
        below (suc n) zero (x ∷ xs) h = omega arith
        below (suc n) (suc i) (x ∷ xs) h = let l : i < n = below n i xs (omega arith) in omega arith

-- ---- the nodes of an instance

pub costs_are : (instances : List StFuncTree) (k : ℕ) (s : StFuncTree) → slice_get instances k ≡ Some s
    → instance_costs instances k ≡ func_costs (all_costs (take k instances)) s
costs_are instances k s at = ap (costs_in (all_costs (take k instances))) at

length-grown : {A B : Type 0} (step : List B → A → B) (front : List B) (xs : List A) → length (grown step front xs) ≡ length front + length xs
length-grown step front [] = omega arith
length-grown step front (x ∷ xs) = omega (arith, length-grown step (front ++ step front x ∷ []) xs, length-append front (step front x ∷ []))

pub timings_long : (instances : List StFuncTree) (k : ℕ) (s : StFuncTree) → length (timings_in instances k s) ≡ length s.nodes
timings_long instances k s =
    length-grown (next_timing (all_costs (take k instances)) s) [] s.nodes ∙ (let e : 0 + length s.nodes ≡ length s.nodes = omega arith in e)

arrivals_split : (ins : List StTree) (ts us : List NodeTiming) → arrivals_of ins (ts ++ us) ≡ arrivals_of ins ts ++ map (λ (t : NodeTiming). t.arrival) us
arrivals_split ins ts us =
    ap (λ xs. map (λ (s : StTree). zero) ins ++ xs) (map-append (λ (x : NodeTiming). x.arrival) ts us)
    ∙ sym (append_assoc (map (λ (s : StTree). zero) ins) (map (λ (x : NodeTiming). x.arrival) ts) (map (λ (t : NodeTiming). t.arrival) us))

arrivals_many : (ins : List StTree) (ts : List NodeTiming) → length (arrivals_of ins ts) ≡ length ins + length ts
arrivals_many ins ts =
    omega (
      arith,
      length-append (map (λ (s : StTree). zero) ins) (map (λ (t : NodeTiming). t.arrival) ts),
      length-map ins (λ (s : StTree). zero),
      length-map ts (λ (t : NodeTiming). t.arrival),
    )

pub arrivals_long : (instances : List StFuncTree) (k : ℕ) (s : StFuncTree) → length (arrivals_in instances k s) ≡ length s.ins + length s.nodes
arrivals_long instances k s = omega (arith, arrivals_many s.ins (timings_in instances k s), timings_long instances k s)

pub input_arrival : (instances : List StFuncTree) (k : ℕ) (s : StFuncTree) (i : ℕ) → i < length s.ins → get_or (arrivals_in instances k s) i 0 ≡ 0
input_arrival instances k s i l = zero_at s.ins i l where
  zero_at : (ins : List StTree) (r : ℕ) → r < length ins
      → get_or (map (λ (x : StTree). zero) ins ++ map (λ (t : NodeTiming). t.arrival) (timings_in instances k s)) r 0 ≡ 0
  zero_at [] r h = absurd (omega arith)
  zero_at (x ∷ xs) zero h = refl
  zero_at (x ∷ xs) (suc r) h = zero_at xs r (omega arith)

op_loads : (known : List OwnCosts) (a s : StTree) (copies : ℕ) (op : StOpTree) → 1 ≤ (op_costs known a s copies op).load
op_loads known a s copies (word op) = omega arith
op_loads known a s copies join = omega arith
op_loads known a s copies first = omega arith
op_loads known a s copies second = omega arith
op_loads known a s copies (fixed ws) = omega arith
op_loads known a s copies (move how) = omega arith
op_loads known a s copies (fold_op op n m raw) = one_first _ _ _ _
op_loads known a s copies (scan op n m) = one_of _ _
op_loads known a s copies (body k) = omega arith

grown_loads : (known : List OwnCosts) (s : StFuncTree) (ns : List StNodeTree) (ts : List NodeTiming) → length ts ≤ sum_by load_of ts
    → length ts + length ns ≤ sum_by load_of (grown (next_timing known s) ts ns)
grown_loads known s [] ts h = omega arith
grown_loads known s (n ∷ ns) ts h =
    let t : NodeTiming = next_timing known s ts n in
    let own : 1 ≤ (node_costs known (item_layouts s) n).load =
    op_loads known (item_layout (item_layouts s) (unwrap_or (slice_get n.args 0) 0)) n.type n.copies n.op in
    let more : sum_by load_of (ts ++ t ∷ []) ≡ sum_by load_of ts + t.load = sum_by_push load_of ts t in
    let long : length (ts ++ t ∷ []) ≡ length ts + 1 = length-append ts (t ∷ []) in
    let rest = grown_loads known s ns (ts ++ t ∷ []) (omega (arith, own, more, long)) in
    omega (arith, rest, long)

-- each node has a load
pub few_nodes : (instances : List StFuncTree) (k : ℕ) (s : StFuncTree) → slice_get instances k ≡ Some s → length s.nodes ≤ (instance_costs instances k).load
few_nodes instances k s at =
    let all = grown_loads (all_costs (take k instances)) s s.nodes [] (omega arith) in
    subst (λ (c : OwnCosts). length s.nodes ≤ c.load) (sym (costs_are instances k s at)) (omega (arith, all))

-- what is sure of node j
pub record NodeFacts (instances : List StFuncTree) (k j : ℕ) (s : StFuncTree) (n : StNodeTree) (t : NodeTiming) : Type 0 where
  pub start : latest (arrivals_in instances k s) n.args ≤ sum_by load_of (take j (timings_in instances k s))
  pub arrival : get_or (arrivals_in instances k s) (length s.ins + j) 0 ≡ latest
      (arrivals_in instances k s) n.args + (node_costs (all_costs (take k instances)) (item_layouts s) n).latency
  pub load : t.load ≡ (node_costs (all_costs (take k instances)) (item_layouts s) n).load + slack_load (item_layouts s)
      (uses_at (arrivals_in instances k s) (latest (arrivals_in instances k s) n.args) n.args)
  pub muls : t.muls ≡ (node_costs (all_costs (take k instances)) (item_layouts s) n).muls
  pub mems : t.mems ≡ (node_costs (all_costs (take k instances)) (item_layouts s) n).mems
  pub uses : t.uses ≡ joint_uses (arrivals_in instances k s) n.args

pub node_facts : (instances : List StFuncTree) (k j : ℕ) (s : StFuncTree) (n : StNodeTree) (t : NodeTiming) → IsSound instances → IsNodeAt instances k j s n t
    → ((r i : ℕ) → slice_get n.args r ≡ Some i → i < length s.ins + j) → NodeFacts instances k j s n t
unfolding AllEarly
node_facts instances k j s n t sound h below =
    let known : List OwnCosts = all_costs (take k instances) in
    let ts : List NodeTiming = timings_in instances k s in
    let before : List NodeTiming = take j ts in
    let first_ones : before ≡ grown (next_timing known s) [] (take j s.nodes) = take-grown (next_timing known s) s.nodes j in
    let entry : slice_get ts j ≡ Some (next_timing known s before n) = entry-grown (next_timing known s) s.nodes j n h.node ∙
    ap (λ us. Some (next_timing known s us n)) (sym first_ones) in
    let is : t ≡ next_timing known s before n = same_Some t (next_timing known s before n) (sym h.timing ∙ entry) in
    let there : j < length s.nodes = slice_get_within s.nodes j n h.node in
    let many : length before ≡ j = length-take-le j ts (omega (arith, timings_long instances k s)) in
    let some_before : length (arrivals_of s.ins before) ≡ length s.ins + j = omega (arith, arrivals_many s.ins before) in
    let split : arrivals_in instances k s ≡ arrivals_of s.ins before
    ++ map (λ (x : NodeTiming). x.arrival) (drop j ts) = ap (arrivals_of s.ins) (sym (take-append-drop j ts)) ∙ arrivals_split s.ins before (drop j ts) in
    let reads : (r i : ℕ) → slice_get n.args r ≡ Some i → get_or (arrivals_of s.ins before) i 0 ≡ get_or (arrivals_in instances k s) i 0 = λ r i f.
    (let low : i < length s.ins + j = below r i f in
    sym (ap (λ xs. get_or xs i 0) split ∙ get_or_append_left (arrivals_of s.ins before) (map (λ (x : NodeTiming). x.arrival) (drop j ts)) 0 i (omega arith))) in
    let lates : latest (arrivals_of s.ins before) n.args ≡ latest (arrivals_in instances k s) n.args = greatest_same
    (λ a. unwrap_or (slice_get (arrivals_of s.ins before) a) 0) (λ a. unwrap_or (slice_get (arrivals_in instances k s) a) 0) 0 n.args
    (λ r i f. unwrap_or-slice_get (arrivals_of s.ins before) i 0 ∙ (reads r i f ∙ sym (unwrap_or-slice_get (arrivals_in instances k s) i 0))) in
    let used : uses_at (arrivals_of s.ins before) (latest (arrivals_of s.ins before) n.args) n.args ≡ joint_uses (arrivals_in instances k s) n.args =
    ap (λ i. uses_at (arrivals_of s.ins before) i n.args) lates ∙
    uses_same (arrivals_of s.ins before) (arrivals_in instances k s) (latest (arrivals_in instances k s) n.args) n.args reads in
    let early : AllEarly s.ins (grown (next_timing known s) [] (take j s.nodes)) = grown_early known s (take j s.nodes) []
    (λ i m f. sound_copied instances k s sound h.func i m (take_at j i s.nodes m f)) (all_early instances k sound) (no_early s.ins) in
    let sums : latest (arrivals_of s.ins before) n.args ≤ sum_by load_of before = subst
    (λ (us : List NodeTiming). latest (arrivals_of s.ins us) n.args ≤ sum_by load_of us) (sym first_ones)
    (lead_le (λ a. unwrap_or (slice_get (arrivals_of s.ins (grown (next_timing known s) [] (take j s.nodes))) a) 0) 0 _ n.args (omega arith)
    (λ i r f. subst (λ v. v ≤ sum_by load_of (grown (next_timing known s) [] (take j s.nodes)))
    (sym (unwrap_or-slice_get (arrivals_of s.ins (grown (next_timing known s) [] (take j s.nodes))) i 0)) (early i))) in
    let place : length (map (λ (x : StTree). zero) s.ins) + j ≡ length s.ins + j = ap (λ i. i + j) (length-map s.ins (λ (x : StTree). zero)) in
    let own : get_or (arrivals_in instances k s) (length s.ins + j) 0 ≡ (next_timing known s before n).arrival =
    ap (λ i. get_or (arrivals_in instances k s) i 0) (sym place) ∙
    get_or_from_slice_get (arrivals_in instances k s) (length (map (λ (x : StTree). zero) s.ins) + j) (next_timing known s before n).arrival 0
    (get_right (map (λ (x : StTree). zero) s.ins) (map (λ (x : NodeTiming). x.arrival) ts) j ∙ mapped_at ts j (next_timing known s before n) entry) in
    record {
      start = subst (λ i. i ≤ sum_by load_of before) lates sums;
      arrival = own ∙ ap (λ i. i + (node_costs known (item_layouts s) n).latency) lates;
      load = ap load_of is ∙ ap (λ us. (node_costs known (item_layouts s) n).load + slack_load (item_layouts s) us) used;
      muls = ap (λ (x : NodeTiming). x.muls) is;
      mems = ap (λ (x : NodeTiming). x.mems) is;
      uses = ap (λ (x : NodeTiming). x.uses) is ∙ used;
    } where
      take_at : (c i : ℕ) (xs : List StNodeTree) (m : StNodeTree) → slice_get (take c xs) i ≡ Some m → slice_get xs i ≡ Some m
      take_at c i xs m f = get_from_take xs c i m f

      mapped_at : (us : List NodeTiming) (i : ℕ) (u : NodeTiming) → slice_get us i ≡ Some u
          → slice_get (map (λ (x : NodeTiming). x.arrival) us) i ≡ Some u.arrival
      mapped_at [] i u f = absurd (none-some u f)
      mapped_at (v ∷ us) zero u f = ap (λ (x : NodeTiming). Some x.arrival) (same_Some v u f)
      mapped_at (v ∷ us) (suc i) u f = mapped_at us i u f

-- the sums so far, and with node j
pub sums_more : (f : NodeTiming → ℕ) (instances : List StFuncTree) (k j : ℕ) (s : StFuncTree) (t : NodeTiming) → slice_get (timings_in instances k s) j ≡ Some t
    → sum_by f (take (j + 1) (timings_in instances k s)) ≡ sum_by f (take j (timings_in instances k s)) + f t
sums_more f instances k j s t at =
    let ts : List NodeTiming = timings_in instances k s in
    sum_by_more f ts j t (slice_get_within ts j t at) ∙ ap (λ (x : NodeTiming). sum_by f (take j ts) + f x) (get_or_from_slice_get ts j t t at)

pub sums_most : (f : NodeTiming → ℕ) (instances : List StFuncTree) (k j : ℕ) (s : StFuncTree) (t : NodeTiming) → slice_get (timings_in instances k s) j ≡ Some t
    → sum_by f (take j (timings_in instances k s)) + f t ≤ sum_by f (timings_in instances k s)
sums_most f instances k j s t at =
    let ts : List NodeTiming = timings_in instances k s in
    let l = sum_by_more_le f ts j t (slice_get_within ts j t at) in
    let e : f (get_or ts j t) ≡ f t = ap f (get_or_from_slice_get ts j t t at) in
    omega (arith, l, e)

-- a called instance
pub callee_costs : (instances : List StFuncTree) (k m : ℕ) (f : StFuncTree) → m < k → slice_get (take k instances) m ≡ Some f
    → unwrap_or (slice_get (all_costs (take k instances)) m) wire_costs ≡ instance_costs instances m
callee_costs instances k m f below at =
    let same : take m (take k instances) ≡ take m instances = take-take m k instances (omega arith) in
    let entry : slice_get (all_costs (take k instances)) m ≡ Some (func_costs (all_costs (take m instances)) f) = entry-grown func_costs
    (take k instances) m f at ∙ ap (λ fs. Some (func_costs (all_costs fs) f)) same in
    ap (λ (o : Option OwnCosts). unwrap_or o wire_costs) entry ∙
    sym (costs_are instances m f (sym (slice_get-take k m instances below) ∙ at))
