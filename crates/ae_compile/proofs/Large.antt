-- A load that is too large, and one within a limit.
use Rattle.std.proofs.Common.{◌≡◌, ℕ, ◌+◌, ◌≤◌, nat_lt, inr, List, [], ◌∷◌, ◌++◌, map, take, Option, None, Some, slice_get, Bool, true, false, if◌then◌else◌, refl, arith, ap, sym, ◌∙◌, subst}
use Rattle.std.specs.Prelude.{sum_by}
use Rattle.std.specs.Option.{option_and_then}
use Rattle.std.proofs.lemmas.Bool.Decides.{nat_tests}
use Rattle.std.proofs.lemmas.List.Sums.{sum_by-cons}
use Rattle.ae_seq.specs.ProgramTree.{FuncTree, ProgramTree}
use Rattle.ae_rewrite.specs.Interface.{main_of}
use Rattle.ae_rewrite.specs.StProgramTree.{StFuncTree}
use Rattle.ae_rewrite.specs.Sound.{item_layouts}
use Rattle.ae_delay.specs.Costs.{LineLoad, NodeTiming, all_costs, first_over, line_loads, load_at_line, node_timings, result_uses, slack_load, too_large}
use Rattle.ae_lower.specs.Lowering.{costs_in, instance_costs}
use Rattle.ae_trace.specs.Traces.{is_movement}
use Rattle.ae_fuse.specs.Costing.{Costing, costing, costing_over, fused_costing, scheduled_costing}
use Rattle.ae_fuse.specs.Fused.{FusedView, IsFusedOf}
use Rattle.ae_fuse.specs.Fused.{costs_in as moves_costs}
use Rattle.ae_lower.specs.Circuits.{last_of}
use Rattle.ae_compile.specs.declared.costs.Costs.{Costs}
use Rattle.ae_compile.specs.declared.costs.Costs.TheVariants.{Plain, Fused}
use Rattle.ae_compile.specs.declared.faults.CompileFault.{CompileFault}
use Rattle.ae_compile.specs.declared.faults.CompileFault.TheVariants.{BadLine, BadType, Memory, NoSchedule, TooLarge}
use Rattle.ae_compile.specs.Costing.{AreCosts, HasParts, IsCostFault, IsLargeAt, IsScheduled, arrivals_in, costing_by, costs_over, main_costing, main_costs, whole_costs}

pub cost_fault : (limit : ℕ) (part : List ℕ) (slowdown : ℕ) (p : ProgramTree) (all : List StFuncTree) (fault : CompileFault) → IsScheduled part slowdown p all
    → IsLargeAt (costs_over limit p all) fault → IsCostFault limit part slowdown fault
cost_fault limit part slowdown p all (TooLarge line) h over =
    inr (record { program = p; typed = h.typed; instances = all; schedule = h.schedule; load = over.0; large = over.1 })
cost_fault limit part slowdown p all Memory h over = tt
cost_fault limit part slowdown p all (BadLine line) h over = absurd over
cost_fault limit part slowdown p all (BadType line) h over = absurd over
cost_fault limit part slowdown p all (NoSchedule line) h over = absurd over

-- a choice of nothing is that of its second part
not_over : {A : Type 0} (b : Bool) (x : A) (rest : Option A) → (if b then Some x else rest) ≡ None → (b ≡ false) × (rest ≡ None)
not_over true x rest e = cc
not_over false x rest e = (refl, e)

-- where no line passes the limit, the sum of all lines is within it
lines_within : (limit sum : ℕ) (ls : List LineLoad) → sum ≤ limit → first_over limit sum ls ≡ None → sum + sum_by (λ (l : LineLoad). l.load) ls ≤ limit
lines_within limit sum [] h e = let z : sum_by (λ (l : LineLoad). l.load) [] ≡ 0 = refl in omega (arith, h, z)
lines_within limit sum (l ∷ ls) h e =
    let n = not_over (nat_lt limit (sum + l.load)) (record { line = l.line; load = sum + l.load }) (first_over limit (sum + l.load) ls) e in
    let fits : sum + l.load ≤ limit = grind (arith, nat_tests, n.0) in
    let c : sum_by (λ (x : LineLoad). x.load) (l ∷ ls) ≡ l.load + sum_by (λ (x : LineLoad). x.load) ls = sum_by-cons (λ (x : LineLoad). x.load) l ls in
    omega (arith, c, lines_within limit (sum + l.load) ls fits n.1)

-- the lines of nodes, and the end
load_total : (ts : List NodeTiming) (end : LineLoad) → sum_by (λ (l : LineLoad). l.load) (map load_at_line ts ++ end ∷ []) ≡ sum_by
    (λ (t : NodeTiming). t.load) ts + end.load
load_total [] end =
    let c : sum_by (λ (x : LineLoad). x.load) (end ∷ []) ≡ end.load + sum_by (λ (x : LineLoad). x.load) [] = sum_by-cons (λ (x : LineLoad). x.load) end [] in
    let z : sum_by (λ (x : LineLoad). x.load) [] ≡ 0 = refl in
    let y : sum_by (λ (x : NodeTiming). x.load) [] ≡ 0 = refl in
    omega (arith, c, z, y)
load_total (t ∷ ts) end =
    let c : sum_by (λ (x : LineLoad). x.load) (load_at_line t ∷ (map load_at_line ts ++ end ∷ [])) ≡ t.load + sum_by (λ (x : LineLoad). x.load)
    (map load_at_line ts ++ end ∷ []) = sum_by-cons (λ (x : LineLoad). x.load) (load_at_line t) (map load_at_line ts ++ end ∷ []) in
    let d : sum_by (λ (x : NodeTiming). x.load) (t ∷ ts) ≡ t.load + sum_by (λ (x : NodeTiming). x.load) ts = sum_by-cons (λ (x : NodeTiming). x.load) t ts in
    c ∙ omega (arith, d, load_total ts end)

-- the costs of a program function with an instance
pub costing_is : (p : ProgramTree) (all : List StFuncTree) (f : FuncTree) (s : StFuncTree) → slice_get p.funcs (main_of p) ≡ Some f
    → slice_get all (last_of all) ≡ Some s
    → main_costing p all ≡ costing p f s (node_timings (all_costs (take (last_of all) all)) s)
costing_is p all f s there last = λ i. costing_by p (all_costs (take (last_of all) all)) (there i) (last i)

-- where no line passes the limit, the load is within it
load_by : (moves : Bool) (limit : ℕ) (f : FuncTree) (s : StFuncTree) (ts : List NodeTiming)
    → costing_over limit (if moves then fused_costing f s else scheduled_costing s ts) ≡ None
    → (if moves then fused_costing f s else scheduled_costing s ts).costs.load ≤ limit
load_by true limit f s ts none =
    let own : LineLoad = record { line = f.end_line; load = (fused_costing f s).costs.load } in
    let whole : 0 + sum_by (λ (l : LineLoad). l.load) (own ∷ []) ≤ limit = lines_within limit 0 (own ∷ []) (omega arith) none in
    let c : sum_by (λ (x : LineLoad). x.load) (own ∷ []) ≡ own.load + sum_by (λ (x : LineLoad). x.load) [] = sum_by-cons (λ (x : LineLoad). x.load) own [] in
    omega (arith, whole, c)
load_by false limit f s ts none =
    let whole : 0 + sum_by (λ (l : LineLoad). l.load) (line_loads s ts) ≤ limit = lines_within limit 0 (line_loads s ts) (omega arith) none in
    omega (arith, whole, load_total ts (record { line = s.end_line; load = slack_load (item_layouts s) (result_uses s ts) }))

pub load_within : (limit : ℕ) (p : ProgramTree) (all : List StFuncTree) → HasParts p all → costs_over limit p all ≡ None → (main_costs p all).load ≤ limit
load_within limit p all h within =
    let ts = node_timings (all_costs (take (last_of all) all)) h.instance in
    let is : main_costing p all ≡ costing p h.func h.instance ts = costing_is p all h.func h.instance h.there h.last in
    let own : costing_over limit (costing p h.func h.instance ts) ≡ None = sym (ap (costing_over limit) is) ∙ within in
    subst (λ (c : Costing). c.costs.load ≤ limit) (sym is) (load_by (is_movement p) limit h.func h.instance ts own)

-- ---- by kind

-- of a program that computes they are those of the schedule
pub plain_costing : (p : ProgramTree) (all : List StFuncTree) (f : FuncTree) (s : StFuncTree) → is_movement p ≡ false → slice_get p.funcs (main_of p) ≡ Some f
    → slice_get all (last_of all) ≡ Some s
    → main_costing p all ≡ scheduled_costing s (node_timings (all_costs (take (last_of all) all)) s)
plain_costing p all f s computes there last =
    costing_is p all f s there last ∙ ap (λ (b : Bool). if b then fused_costing f s else scheduled_costing s
    (node_timings (all_costs (take (last_of all) all)) s)) computes

pub plain_over : (limit : ℕ) (p : ProgramTree) (all : List StFuncTree) → is_movement p ≡ false → HasParts p all → costs_over limit p all ≡ too_large limit all
plain_over limit p all computes h =
    ap (costing_over limit) (plain_costing p all h.func h.instance computes h.there h.last)
    ∙ sym (ap (option_and_then (λ (x : StFuncTree). first_over limit 0 (line_loads x (node_timings (all_costs (take (last_of all) all)) x)))) h.last)

pub plain_main : (p : ProgramTree) (all : List StFuncTree) → is_movement p ≡ false → HasParts p all → main_costs p all ≡ instance_costs all (last_of all)
plain_main p all computes h =
    ap (λ (c : Costing). c.costs) (plain_costing p all h.func h.instance computes h.there h.last)
    ∙ sym (ap (costs_in (all_costs (take (last_of all) all))) h.last)

-- of one that only moves words they are those of its moves
pub moved_costing : (p : ProgramTree) (all : List StFuncTree) (v : FusedView) (h : IsFusedOf p all v) → main_costing p all ≡ fused_costing h.func h.instance
moved_costing p all v h =
    costing_is p all h.func h.instance h.there h.last
    ∙ ap (λ (b : Bool). if b then fused_costing h.func h.instance else scheduled_costing h.instance
    (node_timings (all_costs (take (last_of all) all)) h.instance)) h.movement

pub moved_main : (p : ProgramTree) (all : List StFuncTree) (v : FusedView) → IsFusedOf p all v → main_costs p all ≡ moves_costs v
moved_main p all v h = ap (λ (c : Costing). c.costs) (moved_costing p all v h) ∙ sym h.costs

-- and where the load of a program that computes is within the limit, no line passes it
none_over : (limit sum : ℕ) (ls : List LineLoad) → sum + sum_by (λ (l : LineLoad). l.load) ls ≤ limit → first_over limit sum ls ≡ None
none_over limit sum [] h = refl
none_over limit sum (l ∷ ls) h =
    let c : sum_by (λ (x : LineLoad). x.load) (l ∷ ls) ≡ l.load + sum_by (λ (x : LineLoad). x.load) ls = sum_by-cons (λ (x : LineLoad). x.load) l ls in
    let fits : sum + l.load ≤ limit = omega (arith, h, c) in
    let t : nat_lt limit (sum + l.load) ≡ false = grind (arith, nat_tests) in
    ap (λ (b : Bool). if b then Some (record { line = l.line; load = sum + l.load }) else first_over limit (sum + l.load) ls) t ∙
    none_over limit (sum + l.load) ls (omega (arith, h, c))

pub plain_within : (limit : ℕ) (p : ProgramTree) (all : List StFuncTree) → is_movement p ≡ false → HasParts p all → (main_costs p all).load ≤ limit
    → costs_over limit p all ≡ None
plain_within limit p all computes h light =
    let s = h.instance in
    let ts = node_timings (all_costs (take (last_of all) all)) s in
    let is : main_costing p all ≡ scheduled_costing s ts = plain_costing p all h.func s computes h.there h.last in
    let load : sum_by (λ (t : NodeTiming). t.load) ts + slack_load (item_layouts s) (result_uses s ts) ≤ limit = subst
    (λ (c : Costing). c.costs.load ≤ limit) is light in
    let total = load_total ts (record { line = s.end_line; load = slack_load (item_layouts s) (result_uses s ts) }) in
    ap (costing_over limit) is ∙ none_over limit 0 (line_loads s ts) (omega (arith, load, total))

-- what was found
pub costs_found : (p : ProgramTree) (all : List StFuncTree) (c : Costs) → HasParts p all → AreCosts p all c → whole_costs c ≡ main_costs p all
costs_found p all (Plain t) h are =
    are.1.costs h.instance h.last ∙ sym (ap (costs_in (all_costs (take (last_of all) all))) h.last) ∙ sym (plain_main p all are.0 h)
costs_found p all (Fused v) h are = sym (moved_main p all v are)

pub arrivals_found : (p : ProgramTree) (all : List StFuncTree) (c : Costs) → HasParts p all → AreCosts p all c
    → arrivals_in (last_of all) c ≡ Some (main_costing p all).arrivals
arrivals_found p all (Plain t) h are =
    are.1.arrivals (last_of all) h.instance h.last ∙ ap (λ (c : Costing). Some c.arrivals) (sym (plain_costing p all h.func h.instance are.0 h.there h.last))
arrivals_found p all (Fused v) h are = ap (λ (xs : List ℕ). Some xs) (are.arrivals ∙ ap (λ (c : Costing). c.arrivals) (sym (moved_costing p all v are)))

-- ---- within a limit
