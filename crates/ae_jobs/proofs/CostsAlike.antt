-- The schedules of a program cost the same.
use Rattle.std.proofs.Common.{◌≡◌, ℕ, ◌∷◌, [], Bool, true, false, if◌then◌else◌, List, map, take, ap, sym, ◌∙◌}
use Rattle.std.specs.Option.{option_and_then}
use Rattle.ae_sttype.specs.StTree.{StTree}
use Rattle.ae_seq.specs.ProgramTree.{FuncTree, ProgramTree}
use Rattle.ae_seq.specs.Typing.{param_types}
use Rattle.ae_seq.specs.Meaning.{at, item_values}
use Rattle.ae_moves.specs.Origins.{Move}
use Rattle.ae_rewrite.specs.StProgramTree.{StFuncTree}
use Rattle.ae_rewrite.specs.Scheduled.{IsSchedule}
use Rattle.ae_rewrite.specs.Sound.{item_layout, item_layouts}
use Rattle.ae_delay.specs.Costs.{NodeTiming, all_costs, first_over, func_costs_by, line_loads, node_timings, too_large}
use Rattle.ae_trace.specs.Traces.{is_movement, numbered, traced_move}
use Rattle.ae_fuse.specs.Costing.{Costing, costing_over, fused_costing, fused_costs, result_moves, scheduled_costing}
use Rattle.ae_lower.specs.Circuits.{last_of}
use Rattle.ae_alike.proofs.Same.{schedules_alike}
use Rattle.ae_compile.specs.Costing.{costs_over, main_costs}
use Rattle.ae_compile.proofs.Large.{costing_is}
use Rattle.ae_compile.proofs.Mains.{parts_of}

-- moves by layouts alone
abbrev moves_with : FuncTree → (ins layouts : List StTree) → List Move
moves_with f ins layouts = map (λ i. traced_move (param_types f) ins (item_layout layouts i) (at (item_values [] f (numbered 1 (param_types f))) i)) f.results

same_moves : (f : FuncTree) (s t : StFuncTree) → s.ins ≡ t.ins → item_layouts s ≡ item_layouts t → result_moves f s ≡ result_moves f t
same_moves f s t ins layouts = λ i. moves_with f (ins i) (layouts i)

costs_by : (moves : Bool) (f : FuncTree) (s t : StFuncTree) (ts us : List NodeTiming) → s.ins ≡ t.ins → item_layouts s ≡ item_layouts t
    → func_costs_by s ts ≡ func_costs_by t us
    → (if moves then fused_costing f s else scheduled_costing s ts).costs ≡ (if moves then fused_costing f t else scheduled_costing t us).costs
costs_by true f s t ts us ins layouts costs = ap fused_costs (same_moves f s t ins layouts)
costs_by false f s t ts us ins layouts costs = costs

over_by : (moves : Bool) (limit : ℕ) (f : FuncTree) (s t : StFuncTree) (ts us : List NodeTiming) → s.ins ≡ t.ins → item_layouts s ≡ item_layouts t
    → first_over limit 0 (line_loads s ts) ≡ first_over limit 0 (line_loads t us)
    → costing_over limit (if moves then fused_costing f s else scheduled_costing s ts) ≡ costing_over limit
    (if moves then fused_costing f t else scheduled_costing t us)
over_by true limit f s t ts us ins layouts over =
    ap (λ (ms : List Move). first_over limit 0 (record { line = f.end_line; load = (fused_costs ms).load } ∷ [])) (same_moves f s t ins layouts)
over_by false limit f s t ts us ins layouts over = over

abbrev timings_in : List StFuncTree → StFuncTree → List NodeTiming
timings_in all s = node_timings (all_costs (take (last_of all) all)) s

pub costs_same : (p : ProgramTree) (slowdown : ℕ) (instances others : List StFuncTree) → IsSchedule p slowdown instances → IsSchedule p slowdown others
    → main_costs p instances ≡ main_costs p others
costs_same p slowdown instances others h g =
    let a = schedules_alike p slowdown instances others h g in
    let parts = parts_of p slowdown instances h in
    ap (λ (c : Costing). c.costs) (costing_is p instances parts.func a.instance parts.there a.here)
    ∙ costs_by (is_movement p) parts.func a.instance a.other (timings_in instances a.instance)
    (timings_in others a.other) a.same.ins a.same.layouts a.same.costs
    ∙ sym (ap (λ (c : Costing). c.costs) (costing_is p others parts.func a.other parts.there a.there))

pub over_same : (limit : ℕ) (p : ProgramTree) (slowdown : ℕ) (instances others : List StFuncTree) → IsSchedule p slowdown instances
    → IsSchedule p slowdown others → costs_over limit p instances ≡ costs_over limit p others
over_same limit p slowdown instances others h g =
    let a = schedules_alike p slowdown instances others h g in
    let parts = parts_of p slowdown instances h in
    let own : too_large limit instances ≡ first_over limit 0 (line_loads a.instance (timings_in instances a.instance)) =
    ap (option_and_then (λ (x : StFuncTree). first_over limit 0 (line_loads x (timings_in instances x)))) a.here in
    let other : too_large limit others ≡ first_over limit 0 (line_loads a.other (timings_in others a.other)) =
    ap (option_and_then (λ (x : StFuncTree). first_over limit 0 (line_loads x (timings_in others x)))) a.there in
    ap (costing_over limit) (costing_is p instances parts.func a.instance parts.there a.here)
    ∙ over_by (is_movement p) limit parts.func a.instance a.other (timings_in instances a.instance) (timings_in others a.other) a.same.ins a.same.layouts
    (sym own ∙ (a.large limit ∙ other))
    ∙ sym (ap (costing_over limit) (costing_is p others parts.func a.other parts.there a.there))
