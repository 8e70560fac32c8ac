-- The costs of a schedule are those of its functions under their budgets.
use Rattle.std.proofs.Common.{◌≡◌, ℕ, zero, suc, ◌+◌, ◌-◌, ◌<◌, List, [], ◌∷◌, ◌++◌, length, map, take, Option, Some, None, IsTrue, slice_get, get_or, refl, arith, sym, ap, ◌∙◌, subst, inl, inr, length-take, take-take}
use Rattle.std.specs.Option.{option_map}
use Rattle.std.specs.Prelude.{unwrap_or}
use Rattle.std.proofs.lemmas.Bool.{cases_lt}
use Rattle.std.proofs.lemmas.Option.{same_Some, slice_get-map, slice_get_within, get_or_from_slice_get}
use Rattle.ae_seq.specs.Formed.{formed}
use Rattle.ae_seq.specs.ProgramTree.{ProgramTree, FuncTree, NodeTree, ParamTree}
use Rattle.ae_seq.specs.Typing.{grown}
use Rattle.ae_sttype.specs.StTree.{StTree}
use Rattle.ae_rewrite.specs.LayoutRule.{lay_of}
use Rattle.ae_rewrite.specs.declared.calls.Call.{Call}
use Rattle.ae_rewrite.specs.Calls.{called_by, plain_op}
use Rattle.ae_rewrite.specs.StProgramTree.{StOpTree, StNodeTree, StFuncTree}
use Rattle.ae_rewrite.specs.Scheduled.{Keys, HasKey, IsOp, AreStNodes, IsSchedule, param_layouts}
use Rattle.ae_rewrite.specs.Sound.{item_layouts}
use Rattle.ae_rewrite.proofs.Budgets.{call-below}
use Rattle.ae_eval.proofs.Items.{entry-grown, slice_get-take}
use Rattle.ae_delay.specs.declared.own.OwnCosts.{OwnCosts}
use Rattle.ae_delay.specs.OwnCosts.{op_costs, body_costs, wire_costs}
use Rattle.ae_delay.specs.Costs.{all_costs, func_costs}
use Rattle.ae_alike.specs.ByFunction.{laid, own_op, own_nodes, own_func, call_costs, costs_by, costs_of, CostsAreByFunction}
use Rattle.ae_alike.proofs.Nodes.{AllSame, plain-costs, plain-no-body, same-layouts, timings-same}
use Rattle.ae_alike.proofs.Same.{by-costs, key-costs}
use Rattle.ae_seq.proofs.Items.{length-grown}

ins-own : (clocks : ℕ) (ps : List ParamTree) (ss : List StTree) → param_layouts clocks ps ≡ map (λ (s : StTree). Some s) ss
    → ss ≡ map (λ (q : ParamTree). laid (lay_of q.type clocks)) ps
ins-own clocks [] [] h = refl
ins-own clocks [] (s ∷ ss) h = absurd (let e : [] ≡ Some s ∷ map (λ (s : StTree). Some s) ss = h in cc)
ins-own clocks (q ∷ ps) [] h = absurd (let e : lay_of q.type clocks ∷ param_layouts clocks ps ≡ [] = h in cc)
ins-own clocks (q ∷ ps) (s ∷ ss) h =
    let e : lay_of q.type clocks ∷ param_layouts clocks ps ≡ Some s ∷ map (λ (s : StTree). Some s) ss = h in
    let first : lay_of q.type clocks ≡ Some s = cc in
    let rest : param_layouts clocks ps ≡ map (λ (s : StTree). Some s) ss = cc in
    (λ i. laid (sym first i) ∷ ins-own clocks ps ss rest i)

-- ---- nodes

module _ (p : ProgramTree) (f clocks : ℕ) (known others : List OwnCosts) (keys : Keys) where
  -- the bodies that these nodes call cost what is told of the nodes, of which the first is number j
  abbrev BodiesAre : (j : ℕ) → List NodeTree → Type 0
  BodiesAre j ns = (q : ℕ) (n : NodeTree) (c : Call) (at : ℕ) → slice_get ns q ≡ Some n → called_by p f clocks n ≡ Some c → keys at c.func c.budget
      → unwrap_or (slice_get known at) wire_costs ≡ unwrap_or (slice_get others (j + q)) wire_costs

  op-own : (j : ℕ) (co : Option Call) (o : Option StOpTree) (x : StOpTree)
      → ((op : StOpTree) → o ≡ Some op → (a s : StTree) (copies : ℕ) → op_costs known a s copies op ≡ op_costs others a s copies op)
      → ((c : Call) (at : ℕ) → co ≡ Some c → keys at c.func c.budget → unwrap_or (slice_get known at) wire_costs ≡ unwrap_or (slice_get others j) wire_costs)
      → IsOp keys co o x → (a s : StTree) (copies : ℕ) → op_costs known a s copies x ≡ op_costs others a s copies (own_op j co o)
  op-own j None o x plain bodies h a s copies = plain x h a s copies ∙ ap (op_costs others a s copies) (sym (ap (own_op j None) h))
  op-own j (Some c) o x plain bodies h a s copies = ap (op_costs known a s copies) h.is ∙ ap (body_costs copies) (bodies c h.at refl h.key)

  nodes-own : (i j : ℕ) (ns : List NodeTree) (ss : List StNodeTree) → BodiesAre j ns → AreStNodes p keys f clocks i ns ss
      → AllSame known others ss (own_nodes p f clocks i j ns)
  nodes-own i j [] [] bodies h = tt
  nodes-own i j [] (s ∷ ss) bodies h = absurd h
  nodes-own i j (n ∷ ns) [] bodies h = absurd h
  nodes-own i j (n ∷ ns) (s ∷ ss) bodies h =
      let z : j + 0 ≡ j = omega arith in (
        record {
          args = h.0.args;
          type = sym (ap laid h.0.type);
          copies = h.0.copies;
          line = h.0.line;
          op = op-own j (called_by p f clocks n) (plain_op p f clocks n.op n.args) s.op
              (λ op e a t copies. plain-costs known others a t copies op (plain-no-body p f clocks n.op n.args op e))
              (λ c at e key. bodies 0 n c at refl e key ∙ ap (λ k. unwrap_or (slice_get others k) wire_costs) z) h.0.op;
        },
        nodes-own (i + 1) (j + 1) ns ss (λ q m c at e called key.
            (let more : j + suc q ≡ j + 1 + q = omega arith in bodies (suc q) m c at e called key ∙ ap (λ k. unwrap_or (slice_get others k) wire_costs) more))
            h.1,
      )

-- ---- functions by those above them

abbrev above : ProgramTree → (f : ℕ) → List (ℕ → OwnCosts)
above p f = grown (costs_by p) [] (take f p.funcs)

abbrev no_costs : ℕ → OwnCosts
no_costs clocks = wire_costs

costs-at : (p : ProgramTree) (f clocks : ℕ) (g : FuncTree) → slice_get p.funcs f ≡ Some g
    → costs_of p f clocks ≡ func_costs (map (λ n. call_costs (above p f) (called_by p f clocks n)) g.nodes) (own_func p f clocks g)
costs-at p f clocks g there =
    let entry = entry-grown (costs_by p) p.funcs f g there in
    let within = slice_get_within p.funcs f g there in
    let long : length (above p f) ≡ f = omega (arith, length-grown (costs_by p) [] (take f p.funcs), length-take f p.funcs) in
    ap (λ (x : ℕ → OwnCosts). x clocks) (get_or_from_slice_get (grown (costs_by p) [] p.funcs) f _ no_costs entry)
    ∙ ap (λ k. func_costs (map (λ n. call_costs (above p f) (called_by p k clocks n)) g.nodes) (own_func p k clocks g)) long

above-at : (p : ProgramTree) (f g clocks : ℕ) (h : FuncTree) → slice_get p.funcs g ≡ Some h → g < f → get_or (above p f) g no_costs clocks ≡ costs_of p g clocks
above-at p f g clocks h there low =
    let here : slice_get (take f p.funcs) g ≡ Some h = slice_get-take f g p.funcs low ∙ there in
    let one = get_or_from_slice_get (above p f) g _ no_costs (entry-grown (costs_by p) (take f p.funcs) g h here) in
    let two = get_or_from_slice_get (grown (costs_by p) [] p.funcs) g _ no_costs (entry-grown (costs_by p) p.funcs g h there) in
    ap (λ (x : ℕ → OwnCosts). x clocks) one ∙ ap (λ fs. costs_by p (grown (costs_by p) [] fs) h clocks) (take-take g f p.funcs (omega arith)) ∙
    sym (ap (λ (x : ℕ → OwnCosts). x clocks) two)

module _ (p : ProgramTree) (slowdown : ℕ) (all : List StFuncTree) (good : IsTrue (formed p)) (h : IsSchedule p slowdown all) where
  abbrev CostsAt : ℕ → Type 0
  CostsAt k = (s : StFuncTree) → slice_get all k ≡ Some s → func_costs (all_costs (take k all)) s ≡ costs_of p s.func s.budget

  one-more : (k : ℕ) → ((j : ℕ) → j < k → CostsAt j) → CostsAt k
  one-more k before s here =
      let own = h.right k s here in
      let f = s.func in
      let clocks = s.budget in
      let g = own.of in
      let known = all_costs (take k all) in
      let told : List OwnCosts = map (λ n. call_costs (above p f) (called_by p f clocks n)) g.nodes in
      let bodies : BodiesAre p f clocks known told (HasKey (take k all)) 0 g.nodes =
      λ q n c at e called key.
      (let zero_first : q ≡ 0 + q = omega arith in
      let x = key.instance in
      let r = key-costs all k at x key.here in
      let callee = h.right at x r.1 in
      let there : slice_get p.funcs c.func ≡ Some callee.of = ap (slice_get p.funcs) (sym key.is_func) ∙ callee.known in
      let low : c.func < f = call-below p f clocks f n c good (record { of = g; k = q; known = own.known; here = e }) called (omega arith) in
      let mapped : slice_get told q ≡ Some (call_costs (above p f) (called_by p f clocks n)) =
      slice_get-map (λ m. call_costs (above p f) (called_by p f clocks m)) g.nodes q ∙
      ap (option_map (λ m. call_costs (above p f) (called_by p f clocks m))) e in
      let mine : unwrap_or (slice_get told q) wire_costs ≡ costs_of p c.func c.budget =
      ap (λ (o : Option OwnCosts). unwrap_or o wire_costs) mapped ∙ ap (call_costs (above p f)) called ∙ above-at p f c.func c.budget callee.of there low in
      r.2 ∙ before at r.0 x r.1 ∙ (λ i. costs_of p (key.is_func i) (key.is_budget i)) ∙ sym mine ∙
      ap (λ m. unwrap_or (slice_get told m) wire_costs) zero_first) in
      let nodes : AllSame known told s.nodes (own_nodes p f clocks (length g.params) 0 g.nodes) = nodes-own p f clocks known told (HasKey (take k all))
      (length g.params) 0 g.nodes s.nodes bodies own.nodes in
      let t : StFuncTree = own_func p f clocks g in
      let ins : s.ins ≡ t.ins = ins-own clocks g.params s.ins own.ins in
      let layouts : item_layouts s ≡ item_layouts t = (λ i. ins i ++ same-layouts known told s.nodes t.nodes nodes i) in
      by-costs known told s t ins layouts own.results (timings-same known told s t ins layouts nodes) ∙ sym (costs-at p f clocks g own.known)

  all-below : (k j : ℕ) → j < k → CostsAt j
  all-below zero j low = absurd (omega arith)
  all-below (suc k) j low = elim (cases_lt j k) [
    | inl less ↦ all-below k j less
    | inr high ↦ let same : k ≡ j = omega arith in subst CostsAt same (one-more k (all-below k))
  ]

pub costs_by_function : CostsAreByFunction
costs_by_function p slowdown all s good h here =
    let k = length all - 1 in
    let same : s ≡ h.last.instance = same_Some s h.last.instance (sym here ∙ h.last.here) in
    one-more p slowdown all good h k (all-below p slowdown all good h k) s here
    ∙ ap (λ (x : StFuncTree). costs_of p x.func x.budget) same ∙ (λ i. costs_of p (h.last.is_func i) (h.last.is_budget i))
