-- What `least` answers for a text, from what it answers for its program.
use Rattle.std.proofs.Common.{◌≡◌, ℕ, Result, IfOk, subst, sym}
use Rattle.std.specs.Prelude.{string_bytes}
use Rattle.std.proofs.lemmas.Result.{IfOk-weaker}
use Rattle.ae_seq.specs.ProgramTree.{ProgramTree}
use Rattle.ae_jobs.specs.declared.reply.Reply.{Reply}
use Rattle.ae_jobs.specs.declared.status.Status.{Status}
use Rattle.ae_jobs.specs.Refusals.{refusal_line}
use Rattle.ae_jobs.specs.LeastAnswers.{IsLeastOf}

-- a refusal at a status that is right
pub refused_of : {E : Type 0} (r : Result Reply E) (p : ProgramTree) (slowdown : ℕ) (status : Status) → IsLeastOf p slowdown status (refusal_line status)
    → IfOk r (λ (reply : Reply). (reply.status ≡ status) × (string_bytes reply.text ≡ refusal_line status))
    → IfOk r (λ (reply : Reply). IsLeastOf p slowdown reply.status (string_bytes reply.text))
refused_of r p slowdown status is h =
    IfOk-weaker r (λ (reply : Reply). (reply.status ≡ status) × (string_bytes reply.text ≡ refusal_line status))
    (λ (reply : Reply). IsLeastOf p slowdown reply.status (string_bytes reply.text))
    (λ reply w. subst (λ s. IsLeastOf p slowdown s (string_bytes reply.text)) (sym w.0) (subst (IsLeastOf p slowdown status) (sym w.1) is)) h
