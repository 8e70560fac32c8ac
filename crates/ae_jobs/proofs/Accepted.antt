-- A program that is typed, and one that has costs, is not refused.
use Rattle.std.proofs.Common.{ℕ, List, Some, None, inl, inr, refl, ap, sym, subst, ◌≡◌, ◌∙◌}
use Rattle.ae_seq.specs.ProgramTree.{ProgramTree}
use Rattle.ae_jobs.specs.declared.status.Status.{Status}
use Rattle.ae_jobs.specs.declared.status.Status.TheVariants.{Ok, Usage, BadLine, BadType, TooLarge, NoSchedule, BadWords, BadModule, LongRun, ReadFault, WriteFault, TooLong, Memory, BadWave, NotMoves}
use Rattle.ae_compile.specs.Costing.{HasCosts, HasLargeLoad, IsCostFault, costs_over}
use Rattle.ae_seq.specs.Typing.{refused_line as refused_line_of}
use Rattle.ae_fields.specs.Grammar.{IsProgramText as Reads, line_refused, program}
use Rattle.ae_compile.specs.Programs.{IsTypedText}
use Rattle.ae_jobs.specs.Programs.{IsRefusal}
use Rattle.ae_rewrite.specs.Scheduled.{IsSchedule}
use Rattle.ae_rewrite.specs.FailingLine.{failing_line}
use Rattle.ae_alike.proofs.Failing.{schedules_fine}
use Rattle.ae_compile.specs.declared.faults.CompileFault.{CompileFault}
use Rattle.ae_compile.specs.declared.faults.CompileFault.TheVariants as faults
use Rattle.ae_jobs.specs.Schedules.{IsCostRefusal}
use Rattle.ae_jobs.proofs.CostsAlike.{over_same}

-- a text is one program
pub one_program : (part : List ℕ) (p q : ProgramTree) → Reads part p → Reads part q → p ≡ q
one_program part p q a b = let e : program p ≡ program q = sym a ∙ b in cc

-- a program that is typed is not refused
pub never_refused : {A : Type 0} (part : List ℕ) (p : ProgramTree) (status : Status) → IsTypedText part p → IsRefusal part status → A
never_refused part p Ok t r = absurd r
never_refused part p Usage t r = absurd r
never_refused part p (BadLine line) t r = let e : None ≡ Some line = sym (ap line_refused t.reads) ∙ r in cc
never_refused part p (BadType line) t r =
    let e : None ≡ Some _ = sym t.typed ∙ ap refused_line_of (one_program part p r.program t.reads r.reads) ∙ r.refused in cc
never_refused part p (TooLarge line) t r =
    let e : None ≡ Some _ = sym t.typed ∙ ap refused_line_of (one_program part p r.program t.reads r.reads) ∙ r.refused in cc
never_refused part p (NoSchedule line) t r = absurd r
never_refused part p (BadWords row column) t r = absurd r
never_refused part p (BadModule fault) t r = absurd r
never_refused part p (LongRun size) t r = absurd r
never_refused part p ReadFault t r = absurd r
never_refused part p WriteFault t r = absurd r
never_refused part p TooLong t r = absurd r
never_refused part p Memory t r = absurd r
never_refused part p (BadWave at) t r = absurd r
never_refused part p (NotMoves line) t r = absurd r

costs_within : {A : Type 0} (limit : ℕ) (part : List ℕ) (slowdown line : ℕ) → HasCosts limit part slowdown → HasLargeLoad limit part slowdown line → A
costs_within limit part slowdown line h l =
    let P : ProgramTree → Type 0 = λ q. IsSchedule q slowdown l.instances in
    let same : l.program ≡ h.program = one_program part l.program h.program l.typed.reads h.costed.typed.reads in
    let over = over_same limit h.program slowdown h.instances l.instances h.costed.schedule (subst P same l.schedule) in
    let e : None ≡ Some _ = sym h.costed.within ∙ over ∙ sym (ap (λ (q : ProgramTree). costs_over limit q l.instances) same) ∙ l.large in
    cc

pub never_cost_refused : {A : Type 0} (limit : ℕ) (part : List ℕ) (slowdown : ℕ) (status : Status) → HasCosts limit part slowdown
    → IsCostRefusal limit part slowdown status → A
never_cost_refused limit part slowdown (NoSchedule line) h b =
    let fine = schedules_fine h.program slowdown h.instances h.costed.schedule in
    let e : None ≡ Some line = sym fine ∙ ap (λ q. failing_line q slowdown) (one_program part h.program b.program h.costed.typed.reads b.typed.reads) ∙
    b.failing in
    cc
never_cost_refused limit part slowdown (TooLarge line) h b = elim b [
  | inl r ↦ never_refused part h.program (TooLarge line) h.costed.typed r
  | inr l ↦ costs_within limit part slowdown line h l
]
never_cost_refused limit part slowdown Ok h b = absurd b
never_cost_refused limit part slowdown Usage h b = never_refused part h.program Usage h.costed.typed b
never_cost_refused limit part slowdown (BadLine line) h b = never_refused part h.program (BadLine line) h.costed.typed b
never_cost_refused limit part slowdown (BadType line) h b = never_refused part h.program (BadType line) h.costed.typed b
never_cost_refused limit part slowdown (BadWords row column) h b = never_refused part h.program (BadWords row column) h.costed.typed b
never_cost_refused limit part slowdown (BadModule fault) h b = never_refused part h.program (BadModule fault) h.costed.typed b
never_cost_refused limit part slowdown (LongRun size) h b = never_refused part h.program (LongRun size) h.costed.typed b
never_cost_refused limit part slowdown ReadFault h b = never_refused part h.program ReadFault h.costed.typed b
never_cost_refused limit part slowdown WriteFault h b = never_refused part h.program WriteFault h.costed.typed b
never_cost_refused limit part slowdown TooLong h b = never_refused part h.program TooLong h.costed.typed b
never_cost_refused limit part slowdown Memory h b = never_refused part h.program Memory h.costed.typed b
never_cost_refused limit part slowdown (BadWave at) h b = never_refused part h.program (BadWave at) h.costed.typed b
never_cost_refused limit part slowdown (NotMoves line) h b = never_refused part h.program (NotMoves line) h.costed.typed b

-- nor does it fail, but for want of memory
pub only_memory : (limit : ℕ) (part : List ℕ) (slowdown : ℕ) (fault : CompileFault) → HasCosts limit part slowdown → IsCostFault limit part slowdown fault
    → fault ≡ faults.Memory
only_memory limit part slowdown (faults.BadLine line) h b = never_refused part h.program (BadLine line) h.costed.typed b
only_memory limit part slowdown (faults.BadType line) h b = never_refused part h.program (BadType line) h.costed.typed b
only_memory limit part slowdown (faults.TooLarge line) h b = elim b [
  | inl r ↦ never_refused part h.program (TooLarge line) h.costed.typed r
  | inr l ↦ costs_within limit part slowdown line h l
]
only_memory limit part slowdown (faults.NoSchedule line) h b = never_cost_refused limit part slowdown (NoSchedule line) h b
only_memory limit part slowdown faults.Memory h b = refl
