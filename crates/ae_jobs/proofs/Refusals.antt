-- What is answered where a program is refused.
use Rattle.std.proofs.Common.{◌≡◌, ℕ, List, Result, IfOk}
use Rattle.std.specs.Prelude.{string_bytes}
use Rattle.std.proofs.lemmas.Result.{IfOk-weaker}
use Rattle.ae_compile.specs.declared.faults.CompileFault.{CompileFault}
use Rattle.ae_compile.specs.Costing.{IsCostFault}
use Rattle.ae_compile.specs.Programs.{IsTypedFault}
use Rattle.ae_jobs.specs.declared.reply.Reply.{Reply}
use Rattle.ae_jobs.specs.declared.status.Status.{Status}
use Rattle.ae_jobs.specs.declared.status.Status.TheVariants.{Ok, Usage, BadLine, BadType, TooLarge, NoSchedule, BadWords, BadModule, LongRun, ReadFault, WriteFault, TooLong, Memory, BadWave, NotMoves}
use Rattle.ae_jobs.specs.Programs.{IsRefusal}
use Rattle.ae_jobs.specs.Refusals.{refusal_line}
use Rattle.ae_jobs.specs.Schedules.{IsAnswered, IsCostRefusal}
use Rattle.ae_jobs.specs.Checking.{IsChecked}

answered : (limit : ℕ) (IsRight : List ℕ → Type 0) (part : List ℕ) (slowdown : ℕ) (status : Status) (text : List ℕ) → IsCostRefusal limit part slowdown status
    → text ≡ refusal_line status → IsAnswered limit IsRight part slowdown status text
answered limit R part slowdown Ok text h e = absurd h
answered limit R part slowdown Usage text h e = (h, e)
answered limit R part slowdown (BadLine line) text h e = (h, e)
answered limit R part slowdown (BadType line) text h e = (h, e)
answered limit R part slowdown (TooLarge line) text h e = (h, e)
answered limit R part slowdown (NoSchedule line) text h e = (h, e)
answered limit R part slowdown (BadWords row column) text h e = (h, e)
answered limit R part slowdown (BadModule fault) text h e = (h, e)
answered limit R part slowdown (LongRun size) text h e = (h, e)
answered limit R part slowdown ReadFault text h e = (h, e)
answered limit R part slowdown WriteFault text h e = (h, e)
answered limit R part slowdown TooLong text h e = (h, e)
answered limit R part slowdown Memory text h e = (h, e)
answered limit R part slowdown (BadWave at) text h e = (h, e)
answered limit R part slowdown (NotMoves line) text h e = (h, e)

checked : (part : List ℕ) (status : Status) (text : List ℕ) → IsRefusal part status → text ≡ refusal_line status → IsChecked part status text
checked part Ok text h e = absurd h
checked part Usage text h e = (h, e)
checked part (BadLine line) text h e = (h, e)
checked part (BadType line) text h e = (h, e)
checked part (TooLarge line) text h e = (h, e)
checked part (NoSchedule line) text h e = (h, e)
checked part (BadWords row column) text h e = (h, e)
checked part (BadModule fault) text h e = (h, e)
checked part (LongRun size) text h e = (h, e)
checked part ReadFault text h e = (h, e)
checked part WriteFault text h e = (h, e)
checked part TooLong text h e = (h, e)
checked part Memory text h e = (h, e)
checked part (BadWave at) text h e = (h, e)
checked part (NotMoves line) text h e = (h, e)

-- the reply to a fault of the costs, and to one of the types
abbrev pub Uncosted : {E : Type 0} → Result Reply E → CompileFault → Type 0
Uncosted r fault =
    IfOk r (λ (reply : Reply). (limit : ℕ) (part : List ℕ) (slowdown : ℕ) → IsCostFault limit part slowdown fault
    → IsCostRefusal limit part slowdown reply.status × (string_bytes reply.text ≡ refusal_line reply.status))

abbrev pub Untyped : {E : Type 0} → Result Reply E → CompileFault → Type 0
Untyped r fault =
    IfOk r (λ (reply : Reply). (part : List ℕ) → IsTypedFault part fault → IsRefusal part reply.status × (string_bytes reply.text ≡ refusal_line reply.status))

pub uncosted : {E : Type 0} (r : Result Reply E) (fault : CompileFault) (limit : ℕ) (part : List ℕ) (slowdown : ℕ) (P : Reply → Type 0)
    → IsCostFault limit part slowdown fault
    → ((reply : Reply) → IsCostRefusal limit part slowdown reply.status → string_bytes reply.text ≡ refusal_line reply.status → P reply) → Uncosted r fault
    → IfOk r P
uncosted r fault limit part slowdown P is next h =
    IfOk-weaker r (λ (reply : Reply). (limit : ℕ) (part : List ℕ) (slowdown : ℕ) → IsCostFault limit part slowdown fault
    → IsCostRefusal limit part slowdown reply.status × (string_bytes reply.text ≡ refusal_line reply.status)) P
    (λ reply w. next reply (w limit part slowdown is).0 (w limit part slowdown is).1) h

pub untyped : {E : Type 0} (r : Result Reply E) (fault : CompileFault) (part : List ℕ) (P : Reply → Type 0) → IsTypedFault part fault
    → ((reply : Reply) → IsRefusal part reply.status → string_bytes reply.text ≡ refusal_line reply.status → P reply) → Untyped r fault → IfOk r P
untyped r fault part P is next h =
    IfOk-weaker r (λ (reply : Reply). (part : List ℕ) → IsTypedFault part fault → IsRefusal part reply.status
    × (string_bytes reply.text ≡ refusal_line reply.status)) P
    (λ reply w. next reply (w part is).0 (w part is).1) h

-- the refusals of the jobs that answer one text
pub answered_refused : {E : Type 0} (r : Result Reply E) (fault : CompileFault) (limit : ℕ) (IsRight : List ℕ → Type 0) (part : List ℕ) (slowdown : ℕ)
    → IsCostFault limit part slowdown fault → Uncosted r fault
    → IfOk r (λ (reply : Reply). IsAnswered limit IsRight part slowdown reply.status (string_bytes reply.text))
answered_refused r fault limit R part slowdown is h =
    uncosted r fault limit part slowdown (λ (reply : Reply). IsAnswered limit R part slowdown reply.status (string_bytes reply.text)) is
    (λ reply w e. answered limit R part slowdown reply.status (string_bytes reply.text) w e) h

pub checked_refused : {E : Type 0} (r : Result Reply E) (fault : CompileFault) (part : List ℕ) → IsTypedFault part fault → Untyped r fault
    → IfOk r (λ (reply : Reply). IsChecked part reply.status (string_bytes reply.text))
checked_refused r fault part is h =
    untyped r fault part (λ (reply : Reply). IsChecked part reply.status (string_bytes reply.text)) is
    (λ reply w e. checked part reply.status (string_bytes reply.text) w e) h
