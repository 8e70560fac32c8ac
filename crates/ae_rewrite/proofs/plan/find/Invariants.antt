use Rattle.std.proofs.Common.{◌≡◌, ◌<◌, ℕ, slice_get, Some}
use Rattle.ae_rewrite.specs.declared.plan.Plan.{Plan}
use Rattle.ae_rewrite.proofs.plan.find.Given as goal

abbrev pub invariant-loop-row : goal.invariant-loop-row
invariant-loop-row l = (k : ℕ) (plan : Plan) → k < l.row-index → slice_get l.own k ≡ Some (record { budget = l.budget; plan = plan }) → ⊥
