-- What is so of the timing of the program function of a costed program.
use Rattle.std.proofs.Common.{◌≡◌, ℕ, ◌+◌, ◌-◌, Bool, true, false, if◌then◌else◌, List, [], ◌∷◌, length, map, take, Some, slice_get, refl, ap, sym, ◌∙◌, arith}
use Rattle.std.proofs.lemmas.List.{length-map}
use Rattle.std.proofs.lemmas.Option.{same_Some}
use Rattle.ae_seqtype.specs.SeqTree.{SeqTree, words}
use Rattle.ae_seqtype.specs.ValueTree.{ValueTree}
use Rattle.ae_seq.specs.Meaning.{item_values, node_value}
use Rattle.ae_seq.specs.Typing.{param_types, types_of_params}
use Rattle.ae_seq.specs.ProgramTree.{ParamTree, ProgramTree, FuncTree}
use Rattle.ae_rewrite.specs.declared.st_program.StFunc.{StFunc}
use Rattle.ae_rewrite.specs.StProgramTree.{StFuncTree, st_func_tree, st_func_trees}
use Rattle.ae_rewrite.specs.Scheduled.{IsSchedule}
use Rattle.ae_rewrite.specs.Sound.{item_layouts}
use Rattle.ae_rewrite.specs.Interface.{main_of}
use Rattle.ae_delay.specs.declared.own.OwnCosts.{OwnCosts}
use Rattle.ae_delay.specs.Costs.{NodeTiming, all_costs, next_timing, node_timings}
use Rattle.ae_delay.specs.Timings.{AreTimes, Times}
use Rattle.ae_delay.specs.Weighing.{cost_of}
use Rattle.ae_trace.specs.Traces.{is_movement, numbered}
use Rattle.ae_fuse.specs.Costing.{Costing, arrivals_from, costing, fused_costing, scheduled_costing}
use Rattle.ae_fuse.specs.Fused.{FusedView, IsFusedOf, costs_in}
use Rattle.ae_compile.specs.declared.costs.Costs.{Costs}
use Rattle.ae_compile.specs.Costing.{IsKnown, arrivals_in, main_costing, main_costs as own_costs}
use Rattle.ae_compile.specs.Mains.{HasMain, IsInstanceOf}
use Rattle.ae_compile.proofs.Large.{costing_is}
use Rattle.ae_compile.proofs.Made.{known_arrivals}
use Rattle.ae_compile.proofs.Mains.{main_nodes}
use Rattle.ae_jobs.specs.PlanTexts.{plan_text, planned_text}
use Rattle.ae_jobs.specs.CostTables.{cost_table, fused_table, table_text}
use Rattle.ae_seq.proofs.Items.{length-grown as length_grown}
use Rattle.ae_retime.proofs.Lists.{arrivals_long as arrivals_many}

timings_many : (known : List OwnCosts) (s : StFuncTree) → length (node_timings known s) ≡ length s.nodes
timings_many known s = omega (arith, length_grown (next_timing known s) [] s.nodes)

abbrev pub main_known : List StFuncTree → List OwnCosts
main_known all = all_costs (take (length all - 1) all)

-- its arrivals are told
pub arrivals_there : (limit : ℕ) (p : ProgramTree) (slowdown : ℕ) (instances : List StFunc) (c : Costs) (count : ℕ) → count ≡ length instances
    → IsKnown limit p slowdown (st_func_trees instances) c
    → arrivals_in (count - 1) c ≡ Some (main_costing p (st_func_trees instances)).arrivals
arrivals_there limit p slowdown instances c count is k =
    let e : count - 1 ≡ length (st_func_trees instances) - 1 = ap (λ n. n - 1) (is ∙ sym (length-map instances st_func_tree)) in
    ap (λ n. arrivals_in n c) e ∙ known_arrivals limit p slowdown (st_func_trees instances) c k

-- as many as it has items
types_many : (ps : List ParamTree) → length (types_of_params ps) ≡ length ps
types_many [] = refl
types_many (q ∷ ps) = omega (arith, types_many ps)

numbered_many : (k : ℕ) (ts : List SeqTree) → length (numbered k ts) ≡ length ts
numbered_many k [] = refl
numbered_many k (t ∷ ts) = omega (arith, numbered_many (k + words t) ts)

from_many : (f : FuncTree) (s : StFuncTree) (i : ℕ) (vs : List ValueTree) → length (arrivals_from f s i vs) ≡ length vs
from_many f s i [] = refl
from_many f s i (v ∷ vs) = omega (arith, from_many f s (i + 1) vs)

many_by : (moves : Bool) (f : FuncTree) (s : StFuncTree) (known : List OwnCosts) → IsInstanceOf f s
    → length (if moves then fused_costing f s else scheduled_costing s (node_timings known s)).arrivals ≡ length (item_layouts s)
many_by true f s known is =
    let vs : List ValueTree = numbered 1 (param_types f) in
    let values = length_grown (node_value []) vs f.nodes in
    from_many f s 0 (item_values [] f vs) ∙ omega (arith, values, numbered_many 1 (param_types f), types_many f.params, is.items)
many_by false f s known is = arrivals_many known s

pub main_arrivals_many : (p : ProgramTree) (all : List StFuncTree) (f : FuncTree) (s : StFuncTree) → slice_get p.funcs (main_of p) ≡ Some f
    → slice_get all (length all - 1) ≡ Some s → IsInstanceOf f s
    → length (main_costing p all).arrivals ≡ length (item_layouts s)
main_arrivals_many p all f s at last is =
    ap (λ (c : Costing). length c.arrivals) (costing_is p all f s at last) ∙ many_by (is_movement p) f s (main_known all) is

-- the text of a program with these costs
pub main_text : (p : ProgramTree) (slowdown : ℕ) (all : List StFuncTree) (f : FuncTree) (s : StFuncTree) (costs : OwnCosts) (as_all text : List ℕ)
    → slice_get p.funcs (main_of p) ≡ Some f → slice_get all (length all - 1) ≡ Some s → costs ≡ own_costs p all → as_all ≡ (main_costing p all).arrivals
    → text ≡ planned_text slowdown costs f as_all (item_layouts s) → HasMain p all (λ g r ts. text ≡ plan_text slowdown p g r ts)
main_text p slowdown all f s costs as_all text at last same arrive is =
    let own : main_costing p all ≡ costing p f s (node_timings (main_known all) s) = costing_is p all f s at last in
    record {
      func = f;
      instance = s;
      timings = node_timings (main_known all) s;
      main = record { func = at; last = last; timings = refl };
      so = is ∙ (λ i. planned_text slowdown (same i) f (arrive i) (item_layouts s)) ∙
          ap (λ (c : Costing). planned_text slowdown c.costs f c.arrivals (item_layouts s)) own;
    }

-- its table
pub main_table : (p : ProgramTree) (all : List StFuncTree) (f : FuncTree) (s : StFuncTree) (t : Times) (text : List ℕ) → is_movement p ≡ false
    → slice_get p.funcs (main_of p) ≡ Some f → slice_get all (length all - 1) ≡ Some s → AreTimes all t → text ≡ cost_table f.nodes t.nodes
    → HasMain p all (λ g r ts. text ≡ table_text p g r ts)
main_table p all f s t text computes at last times is =
    let ts : List NodeTiming = node_timings (main_known all) s in
    record {
      func = f;
      instance = s;
      timings = ts;
      main = record { func = at; last = last; timings = refl };
      so = is ∙ ap (cost_table f.nodes) (times.nodes s last) ∙
          ap (λ (b : Bool). if b then fused_table f.end_line (fused_costing f s).costs else cost_table f.nodes (map cost_of ts)) (sym computes);
    }

-- that of one that only moves words
pub main_fused : (p : ProgramTree) (all : List StFuncTree) (f : FuncTree) (v : FusedView) (text : List ℕ) → slice_get p.funcs (main_of p) ≡ Some f
    → IsFusedOf p all v
    → text ≡ fused_table f.end_line (costs_in v) → HasMain p all (λ g r ts. text ≡ table_text p g r ts)
main_fused p all f v text at h is =
    let g = h.func in
    let s = h.instance in
    let ts : List NodeTiming = node_timings (main_known all) s in
    let same : f ≡ g = same_Some f g (sym at ∙ h.there) in
    record {
      func = g;
      instance = s;
      timings = ts;
      main = record { func = h.there; last = h.last; timings = refl };
      so = is ∙ (λ i. fused_table (same i).end_line (h.costs i)) ∙
          ap (λ (b : Bool). if b then fused_table g.end_line (fused_costing g s).costs else cost_table g.nodes (map cost_of ts)) (sym h.movement);
    }

pub nodes_known : (p : ProgramTree) (slowdown : ℕ) (all : List StFuncTree) (f : FuncTree) (s : StFuncTree) (t : Times) → IsSchedule p slowdown all
    → AreTimes all t → slice_get p.funcs (main_of p) ≡ Some f → slice_get all (length all - 1) ≡ Some s → length t.nodes ≡ length f.nodes
nodes_known p slowdown all f s t h times at last =
    ap length (times.nodes s last) ∙ length-map (node_timings (main_known all) s) cost_of ∙ timings_many (main_known all) s ∙
    main_nodes p slowdown all f s h at last
