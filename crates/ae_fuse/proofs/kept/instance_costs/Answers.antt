use Rattle.std.proofs.Common.{◌≡◌, ◌∙◌, ℕ, Vec, Global, length, map, ap, arith}
use Rattle.std.proofs.lemmas.List.{length-map}
use Rattle.std.proofs.lemmas.Result.{IfOk-weaker}
use Rattle.ae_rewrite.specs.StProgramTree.{st_func_tree, st_trees}
use Rattle.ae_fuse.specs.Costing.{fused_costs}
use Rattle.ae_results.specs.Results.{result_move}
use Rattle.ae_fuse.specs.Moved.{own_labels, own_move}
use Rattle.ae_fuse.specs.Slowdowns.{told_costs}
use Rattle.ae_results.specs.declared.costs.FusedCosts.{FusedCosts}
use Rattle.ae_fuse.proofs.Fusing.{agree, few-at, many-at, moves-at, result-at, sized-at}
use Rattle.ae_fuse.proofs.kept.instance_costs.Goals as goal

pub result_moves-requires-clause-many : goal.result_moves-requires-clause-many
result_moves-requires-clause-many c = omega (arith, length-map c.args.labels.now (λ (w : Vec ℕ Global). w.items), c.requires.labels.many)

pub result_moves-requires-clause-results : goal.result_moves-requires-clause-results
result_moves-requires-clause-results c r i at =
    omega (arith, c.requires.movable.results r i at, length-map c.args.labels.now (λ (w : Vec ℕ Global). w.items), c.requires.labels.many)

pub together-requires-clause-sizes : goal.together-requires-clause-sizes
together-requires-clause-sizes c = sized-at (st_func_tree c.args.s.now) c.requires.movable c.as_slice.result.now (ap st_trees c.as_slice.ensures.value)

pub together-requires-clause-few : goal.together-requires-clause-few
together-requires-clause-few c = few-at (st_func_tree c.args.s.now) c.requires.movable c.as_slice.result.now (ap st_trees c.as_slice.ensures.value)

pub together-requires-clause-few_moves : goal.together-requires-clause-few_moves
together-requires-clause-few_moves c =
    let s = st_func_tree c.args.s.now in
    let made = c.in_ok-moves.ensures ∙ agree s c.requires.movable (map (λ (w : Vec ℕ Global). w.items) c.args.labels.now) c.requires.labels in
    omega (arith, ap length c.deref.ensures.value, many-at s c.requires.movable c.in_ok-moves.moves.items made, c.requires.movable.few_results)

pub together-requires-clause-moves : goal.together-requires-clause-moves
together-requires-clause-moves c k r found =
    let s = st_func_tree c.args.s.now in
    let made = c.in_ok-moves.ensures ∙ agree s c.requires.movable (map (λ (w : Vec ℕ Global). w.items) c.args.labels.now) c.requires.labels in
    result-at s c.requires.movable (st_trees c.as_slice.result.now) c.deref.result.now (ap st_trees c.as_slice.ensures.value)
    (ap (map (result_move s.ins)) c.deref.ensures.value ∙ made) k r found

pub returns : goal.returns
returns c =
    let s = st_func_tree c.args.s.now in
    let made = c.in_ok-moves.ensures ∙ agree s c.requires.movable (map (λ (w : Vec ℕ Global). w.items) c.args.labels.now) c.requires.labels in
    let P : FusedCosts → Type 0 = λ o. told_costs o ≡ fused_costs (map (result_move (st_trees c.as_slice.result.now)) c.deref.result.now) in
    let Q : FusedCosts → Type 0 = λ o. told_costs o ≡ fused_costs (map (own_move s (own_labels s)) s.results) in
    IfOk-weaker c.together.result P Q (λ o e. e ∙ ap fused_costs
    (moves-at s c.requires.movable (st_trees c.as_slice.result.now) c.deref.result.now (ap st_trees c.as_slice.ensures.value)
    (ap (map (result_move s.ins)) c.deref.ensures.value ∙ made)))
    c.together.ensures
