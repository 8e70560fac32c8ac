-- The layouts of a demo's items, and what they cost.
use Rattle.std.proofs.Common.{◌≡◌, ℕ, ◌+◌, ◌-◌, ◌*◌, ◌/◌, ◌%◌, ◌≤◌, nat_eq, nat_le, nat_lt, true, false, List, [], ◌∷◌, map, refl, sym, subst, arith}
use Rattle.std.proofs.lemmas.Bool.{eq-eqb, ne_eqb}
use Rattle.std.proofs.lemmas.Nat.{div-mul-add, mod-mul-add}
use Rattle.ae_word.specs.declared.op.WordOp.TheVariants.{Add}
use Rattle.ae_word.specs.AtomTree.{unsigned_word}
use Rattle.ae_sttype.specs.StTree.{StTree, atom, tseq, sseq}
use Rattle.ae_sttype.specs.Size.{IsInSize}
use Rattle.ae_moves.specs.Origins.{IsMove}
use Rattle.ae_rewrite.specs.declared.st_program.MoveOp.TheVariants.{Shift, Same}
use Rattle.ae_rewrite.specs.Calls.{called_by}
use Rattle.ae_rewrite.specs.StProgramTree.{StNodeTree, StFuncTree, move, body, fold}
use Rattle.ae_delay.specs.declared.own.OwnCosts.{OwnCosts}
use Rattle.ae_delay.specs.OwnCosts as own
use Rattle.ae_delay.specs.OwnCosts.{wire_costs}
use Rattle.ae_delay.specs.Costs.{NodeTiming, func_costs, func_costs_by, next_timing}
use Rattle.ae_delay.specs.Moving.{op_move}
use Rattle.ae_delay.proofs.Sourced.{op_is_move}
use Rattle.ae_alike.specs.ByFunction.{call_costs, costs_by, costs_of, own_func}
use Rattle.ae_seq.specs.ProgramTree.{NodeTree}
use Rattle.ae_demo.specs.Demos.{demo_tree, sum_func, whole_func}
use Rattle.ae_demo.proofs.SmallMoves.{IsLight, light_move}

-- four words in each clock; one word in the first
abbrev whole_layout : (clocks : ℕ) → StTree
whole_layout c = tseq c 0 (sseq 4 (atom (unsigned_word 16)))

abbrev raw_sum : (clocks : ℕ) → StTree
raw_sum c = tseq 1 (c - 1) (atom (unsigned_word 16))

abbrev sum_layout : (clocks : ℕ) → StTree
sum_layout c = tseq 1 0 (raw_sum c)

abbrev shift_node : (clocks : ℕ) → StNodeTree
shift_node c = record { op = move (Shift 1); args = 0 ∷ []; type = whole_layout c; copies = 1; line = 5 }

abbrev add_node : (clocks : ℕ) → StNodeTree
add_node c = record { op = body 1; args = 0 ∷ 1 ∷ []; type = whole_layout c; copies = 4; line = 6 }

abbrev sum_node : (clocks : ℕ) → StNodeTree
sum_node c = record { op = fold Add c 4 (raw_sum c); args = 2 ∷ []; type = sum_layout c; copies = 1; line = 7 }

-- the program function in so many clocks
abbrev laid_out : (clocks : ℕ) → StFuncTree
laid_out c = record {
  func = 1;
  budget = c;
  ins = whole_layout c ∷ [];
  nodes = shift_node c ∷ add_node c ∷ sum_node c ∷ [];
  results = 3 ∷ [];
  end_line = 8;
}

-- what its nodes call: the second an adder
abbrev calls : List OwnCosts
calls = wire_costs ∷ record { latency = 1; load = 2; muls = 0; mems = 0 } ∷ wire_costs ∷ []

-- ---- how the numbers of a demo lie

pub record AreSizes (n : ℕ) : Type 0 where
  pub one : nat_le 1 (16 * n) ≡ true
  pub most : nat_le (16 * n) 4096 ≡ true
  pub same : nat_eq (16 * n) (16 * n) ≡ true
  pub clocks : nat_eq (4 * n) 1 ≡ false
  pub small : (4 * n) % (16 * n) ≡ 4 * n
  pub some : nat_eq (4 * n) 0 ≡ false
  pub even : (16 * n) % (4 * n) ≡ 0
  pub lanes : (16 * n) / (4 * n) ≡ 4
  pub whole : (4 * n) % 1 ≡ 0
  pub each : (4 * n) / 1 ≡ 4 * n

pub sizes : (n : ℕ) → 1 ≤ n → n ≤ 64 → AreSizes n
sizes n low high =
    let four : 4 * (4 * n) + 0 ≡ 16 * n = omega arith in
    let none : 0 * (16 * n) + 4 * n ≡ 4 * n = omega arith in
    record {
      one = search (arith);
      most = search (arith);
      same = eq-eqb (16 * n) (16 * n) refl;
      clocks = ne_eqb (4 * n) 1 (λ e. absurd (omega arith));
      small = rw none at (mod-mul-add 0 (16 * n) (4 * n) (omega arith));
      some = ne_eqb (4 * n) 0 (λ e. absurd (omega arith));
      even = rw four at (mod-mul-add 4 (4 * n) 0 (omega arith));
      lanes = rw four at (div-mul-add 4 (4 * n) 0 (omega arith));
      whole = omega arith;
      each = omega arith;
    }

-- ---- the program function under its budget

laid_out_is : (n : ℕ) → AreSizes n → own_func (demo_tree n) 1 (4 * n) (whole_func n) ≡ laid_out (4 * n)
laid_out_is n h = rw (h.one, h.same, h.clocks, h.small, h.some, h.even, h.lanes, h.whole, h.each, h.clocks) refl

calls_are : (n : ℕ) → AreSizes n → map (λ (k : NodeTree). call_costs (costs_by (demo_tree n) [] sum_func ∷ []) (called_by (demo_tree n) 1 (4 * n) k))
    (whole_func n).nodes ≡ calls
calls_are n h = rw (h.clocks, h.small, h.some, h.even) refl

costs_are : (n : ℕ) → AreSizes n → costs_of (demo_tree n) 1 (4 * n) ≡ func_costs calls (laid_out (4 * n))
costs_are n h = λ i. func_costs (calls_are n h i) (laid_out_is n h i)

-- ---- what that costs

shift_light : (c : ℕ) → 1 ≤ c → c ≤ 256 → IsLight c (c * 4) (op_move (Shift 1) (whole_layout c) (whole_layout c))
shift_light c low high =
    let t : c + 0 ≡ c = omega arith in
    let size : IsInSize (whole_layout c) = record {
      lengths = (omega arith, (omega arith, refl));
      in_time = omega arith;
      in_words = omega arith;
      in_depth = omega arith;
    } in
    let m : IsMove (op_move (Shift 1) (whole_layout c) (whole_layout c)) = op_is_move (Shift 1) (whole_layout c) (whole_layout c) size size refl refl
    (refl, omega arith) in
    let own = light_move (op_move (Shift 1) (whole_layout c) (whole_layout c)) m in
    record { latency = omega (arith, own.latency); delay = omega (arith, own.delay); runs = omega (arith, own.runs) }

sum_light : (c : ℕ) → 1 ≤ c → c ≤ 256 → IsLight c 1 (op_move Same (raw_sum c) (sum_layout c))
sum_light c low high =
    let raw : IsInSize (raw_sum c) = record { lengths = (omega arith, refl); in_time = omega arith; in_words = omega arith; in_depth = omega arith } in
    let size : IsInSize (sum_layout c) = record {
      lengths = (omega arith, (omega arith, refl));
      in_time = omega arith;
      in_words = omega arith;
      in_depth = omega arith;
    } in
    let m : IsMove (op_move Same (raw_sum c) (sum_layout c)) = op_is_move Same (raw_sum c) (sum_layout c) raw size (omega arith) refl refl in
    let own = light_move (op_move Same (raw_sum c) (sum_layout c)) m in
    record { latency = omega (arith, own.latency); delay = omega (arith, own.delay); runs = omega (arith, own.runs) }

levels : own.log_up 4 ≡ 2
unfolding own.log_up own.least_power
levels = refl

-- each node, by the arrivals of those above it
shift_timing : (c : ℕ) → 1 ≤ c → c ≤ 256 → let t = next_timing calls (laid_out c) [] (shift_node c) in (t.arrival ≤ c) × (t.load ≤ 25 * c + 1)
shift_timing c low high =
    let own = shift_light c low high in
    (omega (arith, own.latency), omega (arith, own.latency, own.delay, own.runs))

add_timing : (c : ℕ) (t : NodeTiming) → t.arrival ≤ c → let u = next_timing calls (laid_out c) (t ∷ []) (add_node c) in (u.arrival ≤ c + 1)
    × (u.load ≤ 8 * c + 9)
add_timing c t h = (omega arith, omega arith)

sum_timing : (c : ℕ) (t u : NodeTiming) → 4 ≤ c → c ≤ 256 → u.arrival ≤ c + 1
    → let v = next_timing calls (laid_out c) (t ∷ u ∷ []) (sum_node c) in (v.arrival ≤ 3 * c + 3) × (v.load ≤ 8 * c + 19)
sum_timing c t u low high h =
    let many : nat_lt 1 c ≡ true = search (arith) in
    let own = sum_light c (omega arith) high in
    (rw (many, levels) (omega (arith, own.latency)), rw (many, levels) (omega (arith, own.latency, own.delay, own.runs)))

whole_costs : (c : ℕ) (t u v : NodeTiming) → t.load ≤ 25 * c + 1 → u.load ≤ 8 * c + 9 → v.load ≤ 8 * c + 19 → v.arrival ≤ 3 * c + 3
    → let all = func_costs_by (laid_out c) (t ∷ u ∷ v ∷ []) in (all.load ≤ 44 * c + 32) × (all.latency ≤ 3 * c + 3)
whole_costs c t u v a b d late = (omega arith, omega arith)

below : (n m : ℕ) → n ≤ m → m ≤ 100000 → n ≤ 100000
below n m a b = omega (arith, a, b)

light : (c : ℕ) → 4 ≤ c → c ≤ 256 → ((func_costs calls (laid_out c)).load ≤ 100000) × ((func_costs calls (laid_out c)).latency ≤ 100000)
light c low high =
    let s = laid_out c in
    let t : NodeTiming = next_timing calls s [] (shift_node c) in
    let u : NodeTiming = next_timing calls s (t ∷ []) (add_node c) in
    let v : NodeTiming = next_timing calls s (t ∷ u ∷ []) (sum_node c) in
    let first = shift_timing c (omega (arith, low)) high in
    let second = add_timing c t first.0 in
    let third = sum_timing c t u low high second.0 in
    let all = whole_costs c t u v first.1 second.1 third.1 third.0 in
    (below _ (44 * c + 32) all.0 (omega (arith, high)), below _ (3 * c + 3) all.1 (omega (arith, high)))

pub demo_light : (n : ℕ) → 1 ≤ n → n ≤ 64 → ((costs_of (demo_tree n) 1 (4 * n)).load ≤ 100000) × ((costs_of (demo_tree n) 1 (4 * n)).latency ≤ 100000)
demo_light n low high =
    subst (λ (o : OwnCosts). (o.load ≤ 100000) × (o.latency ≤ 100000)) (sym (costs_are n (sizes n low high))) (light (4 * n) (omega arith) (omega arith))
