-- One guarded choice for each assignment does what a statement does.
use Rattle.std.proofs.Common.{◌≡◌, ◌==◌, inl, inr, true, false, List, refl, sym, ap, ◌∙◌}
use Rattle.std.specs.Prelude.{not}
use Rattle.std.proofs.lemmas.Bool.{cases_Bool, cond-true, cond-false}
use Rattle.ae_vmodule.specs.ModuleTree.{StmtTree, set, put, when, either, block_end, block_more, NetTree}
use Rattle.ae_runs.specs.Values.{ModuleClock, own_value, after_stmt}
use Rattle.ae_runs.specs.Guards.{guarded, GuardsDo}

module _ (ns : List NetTree) (c : ModuleClock) where
  -- a guard that is false changes nothing
  off : (s : StmtTree) (next : ModuleClock) → guarded ns c s false next ≡ next
  off (set n value) next = refl
  off (put n at value) next = refl
  off (when test taken) next = off taken next
  off (either test taken otherwise) next = off otherwise (guarded ns c taken false next) ∙ off taken next
  off block_end next = refl
  off (block_more first rest) next = off rest (guarded ns c first false next) ∙ off first next

  on : (s : StmtTree) (next : ModuleClock) → guarded ns c s true next ≡ after_stmt ns c s next
  on (set n value) next = refl
  on (put n at value) next = refl
  on (when test taken) next = elim (cases_Bool (own_value ns c test == 0)) [
    | inl t ↦ ap (λ b. guarded ns c taken (not b) next) t ∙ off taken next ∙ sym (cond-true _ next (after_stmt ns c taken next) t)
    | inr f ↦ ap (λ b. guarded ns c taken (not b) next) f ∙ on taken next ∙ sym (cond-false _ next (after_stmt ns c taken next) f)
  ]
  on (either test taken otherwise) next = elim (cases_Bool (own_value ns c test == 0)) [
    | inl t ↦
        ap (λ b. guarded ns c otherwise b (guarded ns c taken (not b) next)) t
        ∙ ap (guarded ns c otherwise true) (off taken next) ∙ on otherwise next
        ∙ sym (cond-true _ (after_stmt ns c otherwise next) (after_stmt ns c taken next) t)
    | inr f ↦
        ap (λ b. guarded ns c otherwise b (guarded ns c taken (not b) next)) f
        ∙ off otherwise (guarded ns c taken true next) ∙ on taken next
        ∙ sym (cond-false _ (after_stmt ns c otherwise next) (after_stmt ns c taken next) f)
  ]
  on block_end next = refl
  on (block_more first rest) next = on rest (guarded ns c first true next) ∙ ap (after_stmt ns c rest) (on first next)

pub guards_do : GuardsDo
guards_do ns c s next = on ns c s next
