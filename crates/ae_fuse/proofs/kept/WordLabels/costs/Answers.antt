use Rattle.std.proofs.Common.{◌≡◌, ◌∙◌, ℕ, Vec, Global, map, ap, sym, subst}
use Rattle.std.proofs.lemmas.Result.{IfOk-weaker}
use Rattle.ae_seq.specs.ProgramTree.{program_tree}
use Rattle.ae_rewrite.specs.StProgramTree.{st_func_tree, st_func_trees}
use Rattle.ae_fuse.specs.Costing.{fused_costs}
use Rattle.ae_fuse.specs.Moved.{HaveResults, own_labels, own_move}
use Rattle.ae_fuse.specs.Slowdowns.{AreCostsUnder, told_costs}
use Rattle.ae_results.specs.declared.costs.FusedCosts.{FusedCosts}
use Rattle.ae_fuse.proofs.Fusing.{costs-under, have-results}
use Rattle.ae_fuse.proofs.kept.WordLabels.costs.Goals as goal

pub instance_costs-requires-clause-movable : goal.instance_costs-requires-clause-movable
instance_costs-requires-clause-movable c = c.in-Some.ensures.instance.movable

pub instance_costs-requires-clause-labels : goal.instance_costs-requires-clause-labels
instance_costs-requires-clause-labels c =
    let h = c.requires.schedule in
    let m = c.in-Some.ensures.instance in
    let s = st_func_tree c.in-Some.instance.now in
    let have : HaveResults s c.args.self.now = have-results (program_tree c.args.p.now) h.0
    (st_func_trees c.args.s.now) m.func s m.movement m.typed h.3 m.there m.last h.1 h.2 c.args.self.now c.requires.labels in
    let same : map (λ (w : Vec ℕ Global). w.items) c.as_slice.result.now ≡ c.args.self.now = ap
    (map (λ (w : Vec ℕ Global). w.items)) c.as_slice.ensures.value ∙ c.self.view_is in
    subst (HaveResults s) (sym same) have

pub returns : goal.returns
returns c =
    let h = c.requires.schedule in
    let m = c.in-Some.ensures.instance in
    let s = st_func_tree c.in-Some.instance.now in
    let p = program_tree c.args.p.now in
    let P : FusedCosts → Type 0 = λ o. told_costs o ≡ fused_costs (map (own_move s (own_labels s)) s.results) in
    let Q : FusedCosts → Type 0 = λ o. AreCostsUnder p (st_func_trees c.args.s.now) o in
    IfOk-weaker c.instance_costs.result P Q (λ o e. costs-under p h.0 (st_func_trees c.args.s.now) m.func s m.movement m.typed h.3 m.there m.last h.1 h.2 o e)
    c.instance_costs.ensures
