-- A well-formed module with rows that are right and a run within the limit is answered by Ok.
use Rattle.std.proofs.Common.{ℕ, ◌≡◌, ◌<◌, ◌≤◌, List, None, arith, refl, sym, ◌∙◌, subst}
use Rattle.std.proofs.lemmas.Option.{none-some}
use Rattle.ae_vmodule.specs.ModuleTree.{ModuleTree}
use Rattle.ae_judge.specs.declared.fault.ElabFault.{ElabFault}
use Rattle.ae_judge.specs.declared.fault.ElabFault.TheVariants as e
use Rattle.ae_judge.specs.Faults.{IsFault, IsWellFormed}
use Rattle.ae_jobs.specs.declared.status.VFaultKind.{VFaultKind}
use Rattle.ae_jobs.specs.declared.status.Status.{Status}
use Rattle.ae_jobs.specs.declared.status.Status.TheVariants.{Ok, Usage, BadLine, BadType, TooLarge, NoSchedule, BadWords, BadModule, LongRun, ReadFault, WriteFault, TooLong, Memory, BadWave, NotMoves}
use Rattle.ae_jobs.specs.RunTexts.{run_limit}
use Rattle.ae_jobs.specs.SimTexts.{IsModuleOf, IsModuleFault, Unread, Misformed, module_kind, sim_size, IsSimOf, IsSimulated, IsSimulable}

-- a well-formed module has no fault of a kind
pub no_kind : (m : ModuleTree) (fault : ElabFault) → IsWellFormed m → IsFault m fault → module_kind fault ≡ None
no_kind m (e.Unknown item) formed f = absurd (formed.known item f.0)
no_kind m (e.Twice item) formed f = absurd (formed.once item f.1.0)
no_kind m (e.Kind item) formed f = absurd (formed.kinds item f.2.0)
no_kind m (e.Undriven net) formed f = absurd (formed.driven net f.3.0)
no_kind m (e.Width item) formed f = absurd (formed.widths item f.4.0)
no_kind m (e.Loop net) formed f = absurd (formed.no_loop net f.5)
no_kind m e.Large formed f = let small = formed.small in absurd (omega (arith, small, f.6))
no_kind m e.Memory formed f = refl

no_refusal : (part : List ℕ) (kind : VFaultKind) (m : ModuleTree) → IsModuleOf part m → IsModuleFault part kind → ⊥
no_refusal part kind m good (Unread fault is has none) = none m good.spells.spells
no_refusal part kind m good (Misformed n fault is spells f) =
    let same : n ≡ m = good.spells.only n spells.spells in
    none-some kind (sym (no_kind m fault good.formed (subst (λ x. IsFault x fault) same f)) ∙ is)

pub sim_complete : (fill : ℕ) (part : List ℕ) (table : List (List (List ℕ))) (status : Status) (text : List ℕ) → IsSimulable part table
    → IsSimulated fill part table status text → status ≡ Ok
sim_complete fill part table status text h w = by status w
  where
    m : ModuleTree
    m = h.0

    here : (status : Status) → (n : ModuleTree) → IsModuleOf part n → IsSimOf fill n table status text → IsSimOf fill m table status text
    here status n good w = subst (λ x. IsSimOf fill x table status text) (h.1.spells.only n good.spells.spells) w

    by : (status : Status) → IsSimulated fill part table status text → status ≡ Ok
    by Ok w = refl
    by (BadWords row column) w = let wrong = (here (BadWords row column) w.0 w.1 w.2).0 in let right = h.2 in cc
    by (LongRun size) w =
        let long = here (LongRun size) w.0 w.1 w.2 in
        let few : sim_size m table ≤ run_limit = h.3 in
        let more : run_limit < size = long.1 in
        let is : size ≡ sim_size m table = long.2 in
        absurd (omega (arith, few, more, is))
    by (BadModule kind) w = absurd (no_refusal part kind m h.1 w.0)
    by Usage w = absurd w.2
    by (BadLine line) w = absurd w.2
    by (BadType line) w = absurd w.2
    by (TooLarge line) w = absurd w.2
    by (NoSchedule line) w = absurd w.2
    by ReadFault w = absurd w.2
    by WriteFault w = absurd w.2
    by TooLong w = absurd w.2
    by Memory w = absurd w.2
    by (BadWave at) w = absurd w.2
    by (NotMoves line) w = absurd w.2
