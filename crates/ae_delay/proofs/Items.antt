-- The items of an instance, and what is known of the instances before.
use Rattle.std.proofs.Common.{ℕ, ◌≡◌, ◌+◌, ◌-◌, ◌*◌, ◌<◌, ◌≤◌, inl, inr, List, [], ◌∷◌, ◌++◌, length, map, replicate, Option, Some, None, slice_get, get_or, arith, refl, sym, ap, ◌∙◌, subst, length-append}
use Rattle.std.proofs.Math.Nat.{mul-le-mul}
use Rattle.std.proofs.lemmas.Bool.{cases_lt}
use Rattle.std.proofs.lemmas.List.{length-map, get_or-append-add, get_or_default, get_or_past, get_or-replicate, length-replicate}
use Rattle.std.proofs.lemmas.Option.{get_or_from_slice_get, slice_get-get_or, slice_get_read, unwrap_or-slice_get}
use Rattle.ae_word.specs.AtomTree.{unsigned_word}
use Rattle.ae_sttype.specs.StTree.{StTree, atom, sseq, st_tree}
use Rattle.ae_moves.proofs.Lists.{get_mapped}
use Rattle.ae_rewrite.specs.declared.st_program.MoveOp.{MoveOp}
use Rattle.ae_rewrite.specs.declared.st_program.StNode.{StNode}
use Rattle.ae_rewrite.specs.declared.st_program.StFunc.{StFunc}
use Rattle.ae_rewrite.specs.StProgramTree.{body, fixed, move, StNodeTree, StOpTree, st_func_tree, st_node_tree, st_node_trees, st_trees}
use Rattle.ae_rewrite.specs.Scheduled.{node_layouts}
use Rattle.ae_rewrite.specs.Sound.{IsSoundOp, item_layout, item_layouts}
use Rattle.ae_delay.specs.declared.own.OwnCosts.{OwnCosts}
use Rattle.ae_delay.specs.Bounds.{IsBounded}
use Rattle.ae_delay.specs.declared.weighing.Progress.{Progress}
use Rattle.ae_delay.specs.Moving.{constant_move, costs_of_move, op_move}
use Rattle.ae_delay.specs.OwnCosts.{body_costs, constant_costs, moved_costs, op_costs, wire_costs}
use Rattle.ae_delay.specs.Costs.{arrivals_of}
use Rattle.ae_delay.specs.Weighing.{AreKnown, IsKnown, IsProgress}
use Rattle.ae_delay.proofs.Chains.{chained_none}

-- the layout of a node
pub layout_node : (s : StFunc) (item : ℕ) (n : StNode) → length s.ins.items ≤ item → slice_get s.nodes.items (item - length s.ins.items) ≡ Some n
    → st_tree n.ty ≡ item_layout (item_layouts (st_func_tree s)) item
layout_node s item n low found =
    let none : StTree = sseq 0 (atom (unsigned_word 1)) in
    let j : ℕ = item - length s.ins.items in
    let ls : List StTree = node_layouts (st_node_trees s.nodes.items) in
    let a : slice_get (st_node_trees s.nodes.items) j ≡ Some (st_node_tree n) = get_mapped st_node_tree s.nodes.items j n found in
    let b : slice_get ls j ≡ Some (st_tree n.ty) = get_mapped (λ (m : StNodeTree). m.type) (st_node_trees s.nodes.items) j (st_node_tree n) a in
    let at : length (st_trees s.ins.items) + j ≡ item = omega (arith, length-map s.ins.items st_tree) in
    sym (ap (λ i. get_or (st_trees s.ins.items ++ ls) i none) (sym at) ∙ get_or-append-add (st_trees s.ins.items) ls j none ∙
    get_or_from_slice_get ls j (st_tree n.ty) none b)
    ∙ sym (unwrap_or-slice_get (st_trees s.ins.items ++ ls) item none)

pub node_at : (s : StFunc) (item ins : ℕ) (n : StNode) → ins ≡ length s.ins.items → ins ≤ item → item < length (item_layouts (st_func_tree s))
    → n ≡ get_or s.nodes.items (item - ins) n → st_tree n.ty ≡ item_layout (item_layouts (st_func_tree s)) item
node_at s item ins n e low below read =
    let long : length (item_layouts (st_func_tree s)) ≡ length (st_trees s.ins.items) + length (node_layouts (st_node_trees s.nodes.items)) = length-append
    (st_trees s.ins.items) (node_layouts (st_node_trees s.nodes.items)) in
    let nodes : length (node_layouts (st_node_trees s.nodes.items)) ≡ length s.nodes.items = length-map (st_node_trees s.nodes.items)
    (λ (m : StNodeTree). m.type) ∙ length-map s.nodes.items st_node_tree in
    let small : item - length s.ins.items < length s.nodes.items = omega (arith, long, nodes, length-map s.ins.items st_tree, e) in
    layout_node s item n (omega (arith, e)) (slice_get_read s.nodes.items (length s.nodes.items) (item - length s.ins.items) n refl small (rw e at read))

-- ---- known costs

pub known_at : (known : List (Option OwnCosts)) (costs : List OwnCosts) (k : ℕ) (o : Option OwnCosts) → AreKnown known costs → k < length known
    → o ≡ get_or known k o → (c : OwnCosts) × (slice_get costs k ≡ Some c) × IsKnown o c
known_at known costs k o h l read =
    let found : slice_get known k ≡ Some o = slice_get_read known (length known) k o refl l read in
    let none : OwnCosts = record { latency = 0; load = 0; muls = 0; mems = 0 } in
    let there : slice_get costs k ≡ Some (get_or costs k none) = slice_get-get_or costs k none (omega (arith, h.long)) in
    (get_or costs k none, there, h.each k o (get_or costs k none) found there)

pub known_is : (known : List (Option OwnCosts)) (costs : List OwnCosts) (k : ℕ) (o : Option OwnCosts) (c : OwnCosts) → AreKnown known costs → k < length known
    → o ≡ get_or known k o → slice_get costs k ≡ Some c → IsKnown o c
known_is known costs k o c h l read found = h.each k o c (slice_get_read known (length known) k o refl l read) found

pub some_known : (known : List (Option OwnCosts)) (costs : List OwnCosts) (k : ℕ) (x : OwnCosts) → AreKnown known costs → k < length known
    → get_or known k None ≡ Some x → IsBounded x × (x.load < 1000000000)
some_known known costs k x h l is =
    let r : Some x ≡ get_or known k (Some x) = sym is ∙ get_or_default known k None (Some x) l in
    let a = known_at known costs k (Some x) h l r in
    (a.2.1, a.2.2)

pub known_same : (known : List (Option OwnCosts)) (costs : List OwnCosts) (k : ℕ) (x c : OwnCosts) → AreKnown known costs → k < length known
    → get_or known k None ≡ Some x → slice_get costs k ≡ Some c → x ≡ c
known_same known costs k x c h l is found =
    let r : Some x ≡ get_or known k (Some x) = sym is ∙ get_or_default known k None (Some x) l in
    (known_is known costs k (Some x) c h l r found).0

pub known_heavy : (known : List (Option OwnCosts)) (costs : List OwnCosts) (k : ℕ) (c : OwnCosts) → AreKnown known costs → k < length known
    → get_or known k None ≡ None → slice_get costs k ≡ Some c → 1000000000 ≤ c.load
known_heavy known costs k c h l is found = known_is known costs k None c h l (sym is) found

pub heavy_body : (copies : ℕ) (c : OwnCosts) → 1 ≤ copies → 1000000000 ≤ c.load → 1000000000 ≤ 1 + copies * c.load
heavy_body copies c some h = let l : 1 * 1000000000 ≤ copies * c.load = mul-le-mul {m₂ = c.load} some h in omega (arith, l)

pub known_as : (o : Option OwnCosts) (a b : OwnCosts) → a ≡ b → IsKnown o a → IsKnown o b
known_as o a b e h = subst (IsKnown o) e h

-- the costs of an instance that a node calls
pub body_is : (costs : List OwnCosts) (k copies : ℕ) (a s : StTree) (op : StOpTree) (c : OwnCosts) → op ≡ body k → slice_get costs k ≡ Some c
    → body_costs copies c ≡ op_costs costs a s copies op
body_is costs k copies a s op c e found = rw (e, found) refl

pub fixed_is : (costs : List OwnCosts) (words ws : List ℕ) (a s : StTree) (copies : ℕ) (op : StOpTree) → op ≡ fixed ws → words ≡ ws
    → constant_costs (costs_of_move (constant_move words s)) ≡ op_costs costs a s copies op
fixed_is costs words ws a s copies op e w = rw (e, w) refl

pub move_is : (costs : List OwnCosts) (how : MoveOp) (b a s : StTree) (copies : ℕ) (op : StOpTree) → op ≡ move how → b ≡ a
    → moved_costs (costs_of_move (op_move how b s)) ≡ op_costs costs a s copies op
move_is costs how b a s copies op e w = rw (e, w) refl

pub one_arg : (k budget : ℕ) (f : ℕ → StTree) (args : List ℕ) (s : StTree) (op : StOpTree) (how : MoveOp) → op ≡ move how
    → IsSoundOp k budget (map f args) s op → 0 < length args
one_arg k budget f [] s op how e h = absurd (rw e at h)
one_arg k budget f (x ∷ xs) s op how e h = omega arith

pub cost_there : (known : List (Option OwnCosts)) (costs : List OwnCosts) (k : ℕ) → AreKnown known costs → k < length known
    → slice_get costs k ≡ Some (get_or costs k wire_costs)
cost_there known costs k h l = slice_get-get_or costs k wire_costs (omega (arith, h.long))

-- ---- before the first node

pub zero_arrivals : (ins : List StTree) → replicate (length ins) 0 ≡ arrivals_of ins []
zero_arrivals [] = refl
zero_arrivals (t ∷ ts) = ap (λ xs. 0 ∷ xs) (zero_arrivals ts)

abbrev zeros : ℕ → List ℕ
zeros n = replicate n 0

zero_at : (n i : ℕ) → get_or (zeros n) i 0 ≡ 0
zero_at n i = elim (cases_lt i n) [
  | inl l ↦ (let z : ℕ = 0 in get_or-replicate n i z z l)
  | inr l ↦ (let z : ℕ = 0 in get_or_past (replicate n z) i z (omega (arith, length-replicate {A = ℕ} n z)))
]

pub begun : (s : StFunc) (limit : ℕ) (p : Progress) → p.arrivals.items ≡ replicate (length s.ins.items) 0
    → p.chains.items ≡ replicate (length s.ins.items + length s.nodes.items) 0 → p.costs.items ≡ [] → p.load ≡ 0 → p.muls ≡ 0 → p.mems ≡ 0
    → IsProgress (st_func_tree s) [] limit p
begun s limit p ea ec eo el eu em =
    let nodes : length (node_layouts (st_node_trees s.nodes.items)) ≡ length s.nodes.items = length-map (st_node_trees s.nodes.items)
    (λ (m : StNodeTree). m.type) ∙ length-map s.nodes.items st_node_tree in
    let ins : length (st_trees s.ins.items) ≡ length s.ins.items = length-map s.ins.items st_tree in
    let all : length (item_layouts (st_func_tree s)) ≡ length s.ins.items + length
    s.nodes.items = omega (arith, length-append (st_trees s.ins.items) (node_layouts (st_node_trees s.nodes.items)), nodes, ins) in
    let zeros : (i : ℕ) → get_or p.chains.items i 0 ≡ 0 = λ i. rw ec (zero_at (length s.ins.items + length s.nodes.items) i) in
    record {
      arrivals = ea ∙ (ap (λ n. replicate n 0) (sym ins) ∙ zero_arrivals (st_trees s.ins.items));
      long = ap length ec ∙ (length-replicate (length s.ins.items + length s.nodes.items) 0 ∙ sym all);
      chains = λ i l. zeros i;
      costs = eo;
      load = el;
      muls = eu;
      mems = em;
      within = omega (arith, el);
      early = λ i a f.
          let g : slice_get (replicate (length s.ins.items) 0) i ≡ Some a = rw ea at f in
          let z : get_or (replicate (length s.ins.items) 0) i 0 ≡ a = get_or_from_slice_get (replicate (length s.ins.items) 0) i a 0 g in
          omega (arith, z, zero_at (length s.ins.items) i);
      few_muls = omega (arith, eu);
      few_mems = omega (arith, em, chained_none (item_layouts (st_func_tree s)) p.chains.items zeros);
    }
