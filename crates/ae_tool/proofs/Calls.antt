-- What follows from how a call may go.
use Rattle.std.proofs.Common.{ℕ, ◌≡◌, ◌+◌, ◌<◌, ◌≤◌, ◌⊎◌, inl, inr, true, false, List, [], length, take, Option, Some, None, IfSome, arith, refl, ap, sym, ◌∙◌, subst}
use Rattle.std.proofs.lemmas.List.{take_all}
use Rattle.ae_io.specs.Counts.{Rose, raised}
use Rattle.ae_io.specs.Told.{Appends, TakesCount}
use Rattle.ae_io.specs.Transfer.{TakesAll}
use Rattle.ae_jobs.specs.declared.status.Status.{Status}
use Rattle.ae_jobs.specs.declared.status.Status.TheVariants.{Ok, Usage, BadLine, BadType, TooLarge, NoSchedule, BadWords, BadModule, LongRun, ReadFault, WriteFault, TooLong, Memory, BadWave, NotMoves}
use Rattle.ae_tool.specs.declared.command.Command.{Command}
use Rattle.ae_tool.specs.declared.command.Command.TheVariants.{Check, Eval, Plan, Cost, Least, Build, Stall, Run, Wave, Unwave, Sim, Demo}
use Rattle.ae_tool.specs.Commands.{IsCommand, NamesNone, TakesInput}
use Rattle.ae_jobs.specs.Refusals.{refusal_line}
use Rattle.ae_tool.specs.Outcomes.{input_limit, IsAnswer, IsDone, IsOutcome, is_settled, HasOutcome, MayBeWritten, HasPart, LeavesRest, LeavesInput, RefusesWords, IsAccepted}
use Rattle.ae_tool.proofs.Replies.{is_reply, done_replies, done_of_accepted, same_command}
use Rattle.ae_tool.specs.Answers.{SourceView, SinkView, IsEnded, Puts, Whole, Failing, Wanting, Refuses, IsMade, Demo_whole, Demo_none, Answers, No_job, Made, Unread, Past_limit, Done, No_room}

-- a settled answer is that of a text that was written whole
record IsWhole (text : List ℕ) (status result : Status) (old new : SinkView) : Type 0 where
  same : result ≡ status
  written : Appends old.written new.written text
  ended : IsEnded old new

whole : (text : List ℕ) (status result : Status) (old new : SinkView) → Puts text status result old new → is_settled result ≡ true
    → IsWhole text status result old new
whole text status result old new (Whole e a r) h = record { same = e; written = a; ended = r }
whole text status result old new (Failing e a r) h = let never : false ≡ true = sym (ap is_settled e) ∙ h in cc
whole text status result old new (Wanting e a r) h = let never : false ≡ true = sym (ap is_settled e) ∙ h in cc

-- what a job answers that takes its input
answer_of : (command : Command) (bytes : List ℕ) (status : Status) (text : List ℕ) → TakesInput command → length bytes ≤ input_limit
    → IsDone command bytes status text → IsAnswer command bytes status text
answer_of Check bytes status text reads few d = (few, d)
answer_of Eval bytes status text reads few d = (few, d)
answer_of (Plan slowdown) bytes status text reads few d = (few, d)
answer_of (Cost slowdown) bytes status text reads few d = (few, d)
answer_of (Least slowdown) bytes status text reads few d = (few, d)
answer_of (Build slowdown) bytes status text reads few d = (few, d)
answer_of (Stall slowdown) bytes status text reads few d = (few, d)
answer_of (Run slowdown fill) bytes status text reads few d = (few, d)
answer_of (Wave slowdown fill) bytes status text reads few d = (few, d)
answer_of Unwave bytes status text reads few d = (few, d)
answer_of (Sim fill) bytes status text reads few d = (few, d)
answer_of (Demo size) bytes status text reads few d = absurd reads

outcome_by : (ws : List (List ℕ)) (command : Command) (bytes : List ℕ) (status : Status) (text : List ℕ) → is_reply status ≡ true → IsCommand ws command
    → TakesInput command → length bytes ≤ input_limit
    → IsDone command bytes status text → IsOutcome ws bytes status text
outcome_by ws command bytes Ok text h job reads few d = (command, job, answer_of command bytes Ok text reads few d)
outcome_by ws command bytes Usage text h job reads few d = cc
outcome_by ws command bytes (BadLine line) text h job reads few d = (command, job, answer_of command bytes (BadLine line) text reads few d)
outcome_by ws command bytes (BadType line) text h job reads few d = (command, job, answer_of command bytes (BadType line) text reads few d)
outcome_by ws command bytes (TooLarge line) text h job reads few d = (command, job, answer_of command bytes (TooLarge line) text reads few d)
outcome_by ws command bytes (NoSchedule line) text h job reads few d = (command, job, answer_of command bytes (NoSchedule line) text reads few d)
outcome_by ws command bytes (BadWords row column) text h job reads few d = (command, job, answer_of command bytes (BadWords row column) text reads few d)
outcome_by ws command bytes (BadModule fault) text h job reads few d = (command, job, answer_of command bytes (BadModule fault) text reads few d)
outcome_by ws command bytes (LongRun size) text h job reads few d = (command, job, answer_of command bytes (LongRun size) text reads few d)
outcome_by ws command bytes (BadWave at) text h job reads few d = (command, job, answer_of command bytes (BadWave at) text reads few d)
outcome_by ws command bytes (NotMoves line) text h job reads few d = (command, job, answer_of command bytes (NotMoves line) text reads few d)
outcome_by ws command bytes ReadFault text h job reads few d = cc
outcome_by ws command bytes WriteFault text h job reads few d = cc
outcome_by ws command bytes TooLong text h job reads few d = cc
outcome_by ws command bytes Memory text h job reads few d = cc

done_outcome : (ws : List (List ℕ)) (command : Command) (bytes : List ℕ) (status : Status) (text : List ℕ) → IsCommand ws command → TakesInput command
    → length bytes ≤ input_limit
    → IsDone command bytes status text → IsOutcome ws bytes status text
done_outcome ws command bytes status text job reads few d = outcome_by ws command bytes status text (done_replies command bytes status text d) job reads few d

-- the outcome of a text that was appended
appended : (ws : List (List ℕ)) (result : Status) (left old new : Option (List ℕ)) (text : List ℕ) → Appends old new text
    → ((bytes : List ℕ) → left ≡ Some bytes → IsOutcome ws bytes result text) → HasOutcome ws result left old new
appended ws result None old new text a f = tt
appended ws result (Some bytes) None new text a f = tt
appended ws result (Some bytes) (Some written) new text a f = (text, a, f bytes refl)

taken_all : (left left' : Option (List ℕ)) (bytes other : List ℕ) → TakesAll left left' bytes → left ≡ Some other → bytes ≡ other
taken_all None left' bytes other t e = cc
taken_all (Some all) left' bytes other t e = let same : all ≡ other = cc in t.0 ∙ same

taken_past : (left left' : Option (List ℕ)) (n : ℕ) (bytes : List ℕ) → TakesCount left left' (n + 1) → left ≡ Some bytes → n < length bytes
taken_past None left' n bytes t e = cc
taken_past (Some all) left' n bytes t e =
    let same : all ≡ bytes = cc in
    let P : List ℕ → Type 0 = λ bs. n < length bs in
    let h : n + 1 ≤ length all = t.0 in
    subst P same (omega arith)

-- the outcome at the status that was answered
at_status : (ws : List (List ℕ)) (bytes : List ℕ) (status result : Status) (text : List ℕ) → result ≡ status → IsOutcome ws bytes status text
    → IsOutcome ws bytes result text
at_status ws bytes status result text e o = let P : Status → Type 0 = λ s. IsOutcome ws bytes s text in subst P (sym e) o

pub outcome_of : (ws : List (List ℕ)) (r : Status) (s s' : SourceView) (k k' : SinkView) → Answers ws r s s' k k' → is_settled r ≡ true
    → HasOutcome ws r s.left k.written k'.written
outcome_of ws r s s' k k' (No_job other_words same puts) h =
    let w = whole (refusal_line Usage) Usage r k k' puts h in
    appended ws r s.left k.written k'.written (refusal_line Usage) w.written
    (λ bytes e. at_status ws bytes Usage r (refusal_line Usage) w.same (other_words, refl))
outcome_of ws r s s' k k' (Made size job same (Demo_whole text is puts)) h =
    let w = whole text Ok r k k' puts h in
    appended ws r s.left k.written k'.written text w.written (λ bytes e. at_status ws bytes Ok r text w.same (Demo size, job, (refl, is)))
outcome_of ws r s s' k k' (Made size job same (Demo_none puts)) h =
    let w = whole (refusal_line Memory) Memory r k k' puts h in
    let never : false ≡ true = sym (ap is_settled w.same) ∙ h in cc
outcome_of ws r s s' k k' (Unread command job reads rose puts) h =
    let w = whole (refusal_line ReadFault) ReadFault r k k' puts h in
    let never : false ≡ true = sym (ap is_settled w.same) ∙ h in cc
outcome_of ws r s s' k k' (Past_limit command job reads takes puts) h =
    let w = whole (refusal_line TooLong) TooLong r k k' puts h in
    appended ws r s.left k.written k'.written (refusal_line TooLong) w.written
    (λ bytes e. at_status ws bytes TooLong r (refusal_line TooLong) w.same (command, job, reads, taken_past s.left s'.left input_limit bytes takes e, refl))
outcome_of ws r s s' k k' (Done command job reads bytes text status takes few built puts) h =
    let w = whole text status r k k' puts h in
    appended ws r s.left k.written k'.written text w.written (λ other e.
    let P : List ℕ → Type 0 = λ bs. IsOutcome ws bs status text in
    at_status ws other status r text w.same (subst P (taken_all s.left s'.left bytes other takes e)
    (done_outcome ws command bytes status text job reads few built)))
outcome_of ws r s s' k k' (No_room command job reads puts) h =
    let w = whole (refusal_line Memory) Memory r k k' puts h in
    let never : false ≡ true = sym (ap is_settled w.same) ∙ h in cc

-- some first part of a text was appended
record IsPart (text : List ℕ) (old new : Option (List ℕ)) : Type 0 where
  count : ℕ
  part : Appends old new (take count text)

part_of : (text : List ℕ) (status result : Status) (old new : SinkView) → Puts text status result old new → IsPart text old.written new.written
part_of text status result old new (Whole e a r) =
    let P : List ℕ → Type 0 = λ t. Appends old.written new.written t in
    record { count = length text; part = subst P (sym (take_all (length text) text (omega arith))) a }
part_of text status result old new (Failing e a r) = record { count = a.0; part = a.2 }
part_of text status result old new (Wanting e a r) = record { count = a.0; part = a.2 }

partly : (ws : List (List ℕ)) (left old new : Option (List ℕ)) (f f' : ℕ) (text : List ℕ) → IsPart text old new
    → ((bytes : List ℕ) → left ≡ Some bytes → MayBeWritten ws bytes f f' text) → HasPart ws left old new f f'
partly ws None old new f f' text p m = tt
partly ws (Some bytes) None new f f' text p m = tt
partly ws (Some bytes) (Some written) new f f' text p m = (text, p.count, p.part, m bytes refl)

pub part_written : (ws : List (List ℕ)) (r : Status) (s s' : SourceView) (k k' : SinkView) → Answers ws r s s' k k'
    → HasPart ws s.left k.written k'.written s.faults s'.faults
part_written ws r s s' k k' (No_job other_words same puts) =
    partly ws s.left k.written k'.written s.faults s'.faults (refusal_line Usage) (part_of (refusal_line Usage) Usage r k k' puts)
    (λ bytes e. inl (Usage, (other_words, refl)))
part_written ws r s s' k k' (Made size job same (Demo_whole text is puts)) =
    partly ws s.left k.written k'.written s.faults s'.faults text (part_of text Ok r k k' puts) (λ bytes e. inl (Ok, (Demo size, job, (refl, is))))
part_written ws r s s' k k' (Made size job same (Demo_none puts)) =
    partly ws s.left k.written k'.written s.faults s'.faults (refusal_line Memory) (part_of (refusal_line Memory) Memory r k k' puts)
    (λ bytes e. inr (inl refl))
part_written ws r s s' k k' (Unread command job reads rose puts) =
    partly ws s.left k.written k'.written s.faults s'.faults (refusal_line ReadFault) (part_of (refusal_line ReadFault) ReadFault r k k' puts)
    (λ bytes e. inr (inr (rose, refl)))
part_written ws r s s' k k' (Past_limit command job reads takes puts) =
    partly ws s.left k.written k'.written s.faults s'.faults (refusal_line TooLong) (part_of (refusal_line TooLong) TooLong r k k' puts)
    (λ bytes e. inl (TooLong, (command, job, reads, taken_past s.left s'.left input_limit bytes takes e, refl)))
part_written ws r s s' k k' (Done command job reads bytes text status takes few built puts) =
    partly ws s.left k.written k'.written s.faults s'.faults text (part_of text status r k k' puts)
    (λ other e. let P : List ℕ → Type 0 = λ bs. IsOutcome ws bs status text in
    inl (status, subst P (taken_all s.left s'.left bytes other takes e) (done_outcome ws command bytes status text job reads few built)))
part_written ws r s s' k k' (No_room command job reads puts) =
    partly ws s.left k.written k'.written s.faults s'.faults (refusal_line Memory) (part_of (refusal_line Memory) Memory r k k' puts)
    (λ bytes e. inr (inl refl))

-- an answer is not another
usage_not_read : {A : Type 0} (r : Status) → r ≡ Usage → r ≡ ReadFault → A
usage_not_read r a b = cc

usage_not_write : {A : Type 0} (r : Status) → r ≡ Usage → r ≡ WriteFault → A
usage_not_write r a b = cc

usage_not_long : {A : Type 0} (r : Status) → r ≡ Usage → r ≡ TooLong → A
usage_not_long r a b = cc

usage_not_memory : {A : Type 0} (r : Status) → r ≡ Usage → r ≡ Memory → A
usage_not_memory r a b = cc

usage_not_ok : {A : Type 0} (r : Status) → r ≡ Usage → r ≡ Ok → A
usage_not_ok r a b = cc

read_not_ok : {A : Type 0} (r : Status) → r ≡ ReadFault → r ≡ Ok → A
read_not_ok r a b = cc

read_not_write : {A : Type 0} (r : Status) → r ≡ ReadFault → r ≡ WriteFault → A
read_not_write r a b = cc

read_not_long : {A : Type 0} (r : Status) → r ≡ ReadFault → r ≡ TooLong → A
read_not_long r a b = cc

read_not_memory : {A : Type 0} (r : Status) → r ≡ ReadFault → r ≡ Memory → A
read_not_memory r a b = cc

write_not_memory : {A : Type 0} (r : Status) → r ≡ WriteFault → r ≡ Memory → A
write_not_memory r a b = cc

-- no job answers these
not_reply : {A : Type 0} (command : Command) (bytes : List ℕ) (status other : Status) (text : List ℕ) → status ≡ other → is_reply other ≡ false
    → IsDone command bytes status text → A
not_reply command bytes status other text e never d =
    let wrong : false ≡ true = sym never ∙ sym (ap is_reply e) ∙ done_replies command bytes status text d in cc

pub usage_words : (ws : List (List ℕ)) (r : Status) (s s' : SourceView) (k k' : SinkView) → Answers ws r s s' k k' → r ≡ Usage → NamesNone ws
usage_words ws r s s' k k' (No_job other_words same puts) e = other_words
usage_words ws r s s' k k' (Made size job same (Demo_whole text is (Whole f a b))) e = usage_not_ok r e f
usage_words ws r s s' k k' (Made size job same (Demo_whole text is (Failing f a b))) e = usage_not_write r e f
usage_words ws r s s' k k' (Made size job same (Demo_whole text is (Wanting f a b))) e = usage_not_memory r e f
usage_words ws r s s' k k' (Made size job same (Demo_none (Whole f a b))) e = usage_not_memory r e f
usage_words ws r s s' k k' (Made size job same (Demo_none (Failing f a b))) e = usage_not_write r e f
usage_words ws r s s' k k' (Made size job same (Demo_none (Wanting f a b))) e = usage_not_memory r e f
usage_words ws r s s' k k' (Unread command job reads rose (Whole f a b)) e = usage_not_read r e f
usage_words ws r s s' k k' (Unread command job reads rose (Failing f a b)) e = usage_not_write r e f
usage_words ws r s s' k k' (Unread command job reads rose (Wanting f a b)) e = usage_not_memory r e f
usage_words ws r s s' k k' (Past_limit command job reads takes (Whole f a b)) e = usage_not_long r e f
usage_words ws r s s' k k' (Past_limit command job reads takes (Failing f a b)) e = usage_not_write r e f
usage_words ws r s s' k k' (Past_limit command job reads takes (Wanting f a b)) e = usage_not_memory r e f
usage_words ws r s s' k k' (Done command job reads bytes text status takes few built (Whole f a b)) e =
    not_reply command bytes status Usage text (sym f ∙ e) refl built
usage_words ws r s s' k k' (Done command job reads bytes text status takes few built (Failing f a b)) e = usage_not_write r e f
usage_words ws r s s' k k' (Done command job reads bytes text status takes few built (Wanting f a b)) e = usage_not_memory r e f
usage_words ws r s s' k k' (No_room command job reads (Whole f a b)) e = usage_not_memory r e f
usage_words ws r s s' k k' (No_room command job reads (Failing f a b)) e = usage_not_write r e f
usage_words ws r s s' k k' (No_room command job reads (Wanting f a b)) e = usage_not_memory r e f

refused_usage : (r : Status) (k k' : SinkView) → Refuses Usage r k k' → RefusesWords r k.faults k'.faults k.wants k'.wants
refused_usage r k k' (Whole f a b) = inl f
refused_usage r k k' (Failing f a b) = inr (inl (f, b))
refused_usage r k k' (Wanting f a b) = inr (inr (f, b))

pub other_words_refused : (ws : List (List ℕ)) (r : Status) (s s' : SourceView) (k k' : SinkView) → Answers ws r s s' k k' → NamesNone ws
    → RefusesWords r k.faults k'.faults k.wants k'.wants × (s'.left ≡ s.left) × (s'.faults ≡ s.faults)
other_words_refused ws r s s' k k' (No_job other_words same puts) h =
    (refused_usage r k k' puts, ap (λ (v : SourceView). v.left) same, ap (λ (v : SourceView). v.faults) same)
other_words_refused ws r s s' k k' (Made size job same made) h = absurd (h (Demo size) job)
other_words_refused ws r s s' k k' (Unread command job reads rose puts) h = absurd (h command job)
other_words_refused ws r s s' k k' (Past_limit command job reads takes puts) h = absurd (h command job)
other_words_refused ws r s s' k k' (Done command job reads bytes text status takes few built puts) h = absurd (h command job)
other_words_refused ws r s s' k k' (No_room command job reads puts) h = absurd (h command job)

-- the line of a read fault was written whole, and the input failed
pub read_fault : (ws : List (List ℕ)) (r : Status) (s s' : SourceView) (k k' : SinkView) → Answers ws r s s' k k' → r ≡ ReadFault → Rose s.faults s'.faults
    × Appends k.written k'.written (refusal_line ReadFault)
read_fault ws r s s' k k' (No_job other_words same (Whole f a b)) e = usage_not_read r f e
read_fault ws r s s' k k' (No_job other_words same (Failing f a b)) e = read_not_write r e f
read_fault ws r s s' k k' (No_job other_words same (Wanting f a b)) e = read_not_memory r e f
read_fault ws r s s' k k' (Made size job same (Demo_whole text is (Whole f a b))) e = read_not_ok r e f
read_fault ws r s s' k k' (Made size job same (Demo_whole text is (Failing f a b))) e = read_not_write r e f
read_fault ws r s s' k k' (Made size job same (Demo_whole text is (Wanting f a b))) e = read_not_memory r e f
read_fault ws r s s' k k' (Made size job same (Demo_none (Whole f a b))) e = read_not_memory r e f
read_fault ws r s s' k k' (Made size job same (Demo_none (Failing f a b))) e = read_not_write r e f
read_fault ws r s s' k k' (Made size job same (Demo_none (Wanting f a b))) e = read_not_memory r e f
read_fault ws r s s' k k' (Unread command job reads rose (Whole f a b)) e = (rose, a)
read_fault ws r s s' k k' (Unread command job reads rose (Failing f a b)) e = read_not_write r e f
read_fault ws r s s' k k' (Unread command job reads rose (Wanting f a b)) e = read_not_memory r e f
read_fault ws r s s' k k' (Past_limit command job reads takes (Whole f a b)) e = read_not_long r e f
read_fault ws r s s' k k' (Past_limit command job reads takes (Failing f a b)) e = read_not_write r e f
read_fault ws r s s' k k' (Past_limit command job reads takes (Wanting f a b)) e = read_not_memory r e f
read_fault ws r s s' k k' (Done command job reads bytes text status takes few built (Whole f a b)) e =
    not_reply command bytes status ReadFault text (sym f ∙ e) refl built
read_fault ws r s s' k k' (Done command job reads bytes text status takes few built (Failing f a b)) e = read_not_write r e f
read_fault ws r s s' k k' (Done command job reads bytes text status takes few built (Wanting f a b)) e = read_not_memory r e f
read_fault ws r s s' k k' (No_room command job reads (Whole f a b)) e = read_not_memory r e f
read_fault ws r s s' k k' (No_room command job reads (Failing f a b)) e = read_not_write r e f
read_fault ws r s s' k k' (No_room command job reads (Wanting f a b)) e = read_not_memory r e f

-- a write fault comes by the sink's count
puts_write : (text : List ℕ) (status r : Status) (k k' : SinkView) → Puts text status r k k' → (status ≡ WriteFault → ⊥) → r ≡ WriteFault
    → Rose k.faults k'.faults
puts_write text status r k k' (Whole f a b) other e = absurd (other (sym f ∙ e))
puts_write text status r k k' (Failing f a b) other e = b
puts_write text status r k k' (Wanting f a b) other e = write_not_memory r e f

ok_is_not_write : Ok ≡ WriteFault → ⊥
ok_is_not_write h = cc

usage_is_not_write : Usage ≡ WriteFault → ⊥
usage_is_not_write h = cc

read_is_not_write : ReadFault ≡ WriteFault → ⊥
read_is_not_write h = cc

long_is_not_write : TooLong ≡ WriteFault → ⊥
long_is_not_write h = cc

memory_is_not_write : Memory ≡ WriteFault → ⊥
memory_is_not_write h = cc

pub write_fault : (ws : List (List ℕ)) (r : Status) (s s' : SourceView) (k k' : SinkView) → Answers ws r s s' k k' → r ≡ WriteFault → Rose k.faults k'.faults
write_fault ws r s s' k k' (No_job other_words same puts) = puts_write (refusal_line Usage) Usage r k k' puts usage_is_not_write
write_fault ws r s s' k k' (Made size job same (Demo_whole text is puts)) = puts_write text Ok r k k' puts ok_is_not_write
write_fault ws r s s' k k' (Made size job same (Demo_none puts)) = puts_write (refusal_line Memory) Memory r k k' puts memory_is_not_write
write_fault ws r s s' k k' (Unread command job reads rose puts) = puts_write (refusal_line ReadFault) ReadFault r k k' puts read_is_not_write
write_fault ws r s s' k k' (Past_limit command job reads takes puts) = puts_write (refusal_line TooLong) TooLong r k k' puts long_is_not_write
write_fault ws r s s' k k' (Done command job reads bytes text status takes few built puts) =
    puts_write text status r k k' puts (λ e. not_reply command bytes status WriteFault text e refl built)
write_fault ws r s s' k k' (No_room command job reads puts) = puts_write (refusal_line Memory) Memory r k k' puts memory_is_not_write

-- a whole line was ended
puts_ended : (text : List ℕ) (status r : Status) (k k' : SinkView) → Puts text status r k k' → (r ≡ WriteFault → ⊥) → (r ≡ Memory → ⊥) → IsEnded k k'
puts_ended text status r k k' (Whole f a b) w m = b
puts_ended text status r k k' (Failing f a b) w m = absurd (w f)
puts_ended text status r k k' (Wanting f a b) w m = absurd (m f)

pub ended : (ws : List (List ℕ)) (r : Status) (s s' : SourceView) (k k' : SinkView) → Answers ws r s s' k k' → (r ≡ WriteFault → ⊥) → (r ≡ Memory → ⊥)
    → IsEnded k k'
ended ws r s s' k k' (No_job other_words same puts) = puts_ended (refusal_line Usage) Usage r k k' puts
ended ws r s s' k k' (Made size job same (Demo_whole text is puts)) = puts_ended text Ok r k k' puts
ended ws r s s' k k' (Made size job same (Demo_none puts)) = puts_ended (refusal_line Memory) Memory r k k' puts
ended ws r s s' k k' (Unread command job reads rose puts) = puts_ended (refusal_line ReadFault) ReadFault r k k' puts
ended ws r s s' k k' (Past_limit command job reads takes puts) = puts_ended (refusal_line TooLong) TooLong r k k' puts
ended ws r s s' k k' (Done command job reads bytes text status takes few built puts) = puts_ended text status r k k' puts
ended ws r s s' k k' (No_room command job reads puts) = puts_ended (refusal_line Memory) Memory r k k' puts

ok_not_memory : {A : Type 0} (r : Status) → r ≡ Ok → r ≡ Memory → A
ok_not_memory r a b = cc

long_not_memory : {A : Type 0} (r : Status) → r ≡ TooLong → r ≡ Memory → A
long_not_memory r a b = cc

-- the sink had no memory, or the line that says so was written whole and ended
abbrev pub TellsMemory : (old new : SinkView) → Type 0
TellsMemory old new = Rose old.wants new.wants ⊎ (Appends old.written new.written (refusal_line Memory) × (new.ends ≡ raised old.ends))

puts_memory : (text : List ℕ) (status r : Status) (k k' : SinkView) → Puts text status r k k' → (status ≡ Memory → text ≡ refusal_line Memory) → r ≡ Memory
    → TellsMemory k k'
puts_memory text status r k k' (Whole f a b) line e =
    let P : List ℕ → Type 0 = λ t. Appends k.written k'.written t in
    inr (subst P (line (sym f ∙ e)) a, b.once)
puts_memory text status r k k' (Failing f a b) line e = write_not_memory r f e
puts_memory text status r k k' (Wanting f a b) line e = inl b

pub memory_told : (ws : List (List ℕ)) (r : Status) (s s' : SourceView) (k k' : SinkView) → Answers ws r s s' k k' → r ≡ Memory → TellsMemory k k'
memory_told ws r s s' k k' (No_job other_words same puts) = puts_memory (refusal_line Usage) Usage r k k' puts (λ h. usage_not_memory Usage refl h)
memory_told ws r s s' k k' (Made size job same (Demo_whole text is puts)) = puts_memory text Ok r k k' puts (λ h. ok_not_memory Ok refl h)
memory_told ws r s s' k k' (Made size job same (Demo_none puts)) = puts_memory (refusal_line Memory) Memory r k k' puts (λ h. refl)
memory_told ws r s s' k k' (Unread command job reads rose puts) =
    puts_memory (refusal_line ReadFault) ReadFault r k k' puts (λ h. read_not_memory ReadFault refl h)
memory_told ws r s s' k k' (Past_limit command job reads takes puts) =
    puts_memory (refusal_line TooLong) TooLong r k k' puts (λ h. long_not_memory TooLong refl h)
memory_told ws r s s' k k' (Done command job reads bytes text status takes few built puts) =
    puts_memory text status r k k' puts (λ h. not_reply command bytes status Memory text h refl built)
memory_told ws r s s' k k' (No_room command job reads puts) = puts_memory (refusal_line Memory) Memory r k k' puts (λ h. refl)

-- nothing is left of an input that was read whole
none_left : (left left' : Option (List ℕ)) (bytes : List ℕ) → TakesAll left left' bytes → IfSome left (λ all. left' ≡ Some [])
none_left None left' bytes t = tt
none_left (Some all) left' bytes t = t.1

reply_left : (status : Status) (bytes : List ℕ) (left left' : Option (List ℕ)) → is_reply status ≡ true → TakesAll left left' bytes
    → LeavesRest status left left'
reply_left Ok bytes left left' h t = none_left left left' bytes t
reply_left Usage bytes left left' h t = cc
reply_left (BadLine line) bytes left left' h t = none_left left left' bytes t
reply_left (BadType line) bytes left left' h t = none_left left left' bytes t
reply_left (TooLarge line) bytes left left' h t = none_left left left' bytes t
reply_left (NoSchedule line) bytes left left' h t = none_left left left' bytes t
reply_left (BadWords row column) bytes left left' h t = none_left left left' bytes t
reply_left (BadModule fault) bytes left left' h t = none_left left left' bytes t
reply_left (LongRun size) bytes left left' h t = none_left left left' bytes t
reply_left (BadWave at) bytes left left' h t = none_left left left' bytes t
reply_left (NotMoves line) bytes left left' h t = none_left left left' bytes t
reply_left ReadFault bytes left left' h t = cc
reply_left WriteFault bytes left left' h t = cc
reply_left TooLong bytes left left' h t = cc
reply_left Memory bytes left left' h t = cc

left_at : (status r : Status) (left left' : Option (List ℕ)) → r ≡ status → LeavesRest status left left' → LeavesRest r left left'
left_at status r left left' e h = let P : Status → Type 0 = λ s. LeavesRest s left left' in subst P (sym e) h

-- a job that takes its input leaves what the status says
leaves_of : (command : Command) (status : Status) (left left' : Option (List ℕ)) → TakesInput command → LeavesRest status left left'
    → LeavesInput command status left left'
leaves_of Check status left left' reads h = h
leaves_of Eval status left left' reads h = h
leaves_of (Plan slowdown) status left left' reads h = h
leaves_of (Cost slowdown) status left left' reads h = h
leaves_of (Least slowdown) status left left' reads h = h
leaves_of (Build slowdown) status left left' reads h = h
leaves_of (Stall slowdown) status left left' reads h = h
leaves_of (Run slowdown fill) status left left' reads h = h
leaves_of (Wave slowdown fill) status left left' reads h = h
leaves_of Unwave status left left' reads h = h
leaves_of (Sim fill) status left left' reads h = h
leaves_of (Demo size) status left left' reads h = absurd reads

same_reads : (ws : List (List ℕ)) (a b : Command) → IsCommand ws a → IsCommand ws b → TakesInput a → TakesInput b
same_reads ws a b x y reads = subst TakesInput (same_command ws a b x y) reads

pub rest_left : (ws : List (List ℕ)) (r : Status) (s s' : SourceView) (k k' : SinkView) → Answers ws r s s' k k' → (command : Command) → is_settled r ≡ true
    → IsCommand ws command → LeavesInput command r s.left s'.left
rest_left ws r s s' k k' (No_job other_words same puts) command h job = absurd (other_words command job)
rest_left ws r s s' k k' (Made size job' same made) command h job =
    let P : Command → Type 0 = λ x. LeavesInput x r s.left s'.left in
    subst P (same_command ws (Demo size) command job' job) (ap (λ (v : SourceView). v.left) same)
rest_left ws r s s' k k' (Unread command' job' reads rose puts) command h job =
    let w = whole (refusal_line ReadFault) ReadFault r k k' puts h in
    let never : false ≡ true = sym (ap is_settled w.same) ∙ h in cc
rest_left ws r s s' k k' (Past_limit command' job' reads takes puts) command h job =
    let w = whole (refusal_line TooLong) TooLong r k k' puts h in
    leaves_of command r s.left s'.left (same_reads ws command' command job' job reads) (left_at TooLong r s.left s'.left w.same takes)
rest_left ws r s s' k k' (Done command' job' reads bytes text status takes few built puts) command h job =
    let w = whole text status r k k' puts h in
    leaves_of command r s.left s'.left (same_reads ws command' command job' job reads)
    (left_at status r s.left s'.left w.same (reply_left status bytes s.left s'.left (done_replies command' bytes status text built) takes))
rest_left ws r s s' k k' (No_room command' job' reads puts) command h job =
    let w = whole (refusal_line Memory) Memory r k k' puts h in
    let never : false ≡ true = sym (ap is_settled w.same) ∙ h in cc

-- the answer to an input for which the job has a result, where nothing failed
puts_ok : (text : List ℕ) (status r : Status) (k k' : SinkView) → Puts text status r k k' → (Rose k.faults k'.faults → ⊥) → (status ≡ Ok) ⊎ (status ≡ Memory)
    → (r ≡ Ok) ⊎ (r ≡ Memory)
puts_ok text status r k k' (Whole f a b) fine (inl e) = inl (f ∙ e)
puts_ok text status r k k' (Whole f a b) fine (inr e) = inr (f ∙ e)
puts_ok text status r k k' (Failing f a b) fine e = absurd (fine b)
puts_ok text status r k k' (Wanting f a b) fine e = inr f

made_ok : (size : ℕ) (r : Status) (k k' : SinkView) → IsMade size r k k' → (Rose k.faults k'.faults → ⊥) → (r ≡ Ok) ⊎ (r ≡ Memory)
made_ok size r k k' (Demo_whole text is puts) fine = puts_ok text Ok r k k' puts fine (inl refl)
made_ok size r k k' (Demo_none puts) fine = puts_ok (refusal_line Memory) Memory r k k' puts fine (inr refl)

pub completes : (ws : List (List ℕ)) (r : Status) (s s' : SourceView) (k k' : SinkView) → Answers ws r s s' k k' → (command : Command) → IsCommand ws command
    → (Rose s.faults s'.faults → ⊥) → (Rose k.faults k'.faults → ⊥) → IsAccepted command s.left → (r ≡ Ok) ⊎ (r ≡ Memory)
completes ws r s s' k k' (No_job other_words same puts) command job read written i = absurd (other_words command job)
completes ws r s s' k k' (Made size job' same made) command job read written i = made_ok size r k k' made written
completes ws r s s' k k' (Unread command' job' reads rose puts) command job read written i = absurd (read rose)
completes ws r s s' k k' (Past_limit command' job' reads takes puts) command job read written i =
    let past : input_limit < length i.bytes = taken_past s.left s'.left input_limit i.bytes takes i.told in
    absurd (omega (arith, past, i.few))
completes ws r s s' k k' (Done command' job' reads all text status takes small built puts) command job read written i =
    let P : List ℕ → Type 0 = λ bs. IsDone command' bs status text in
    let here : IsDone command' i.bytes status text = subst P (taken_all s.left s'.left all i.bytes takes i.told) built in
    let Q : Command → Type 0 = λ x. IsDone x i.bytes status text in
    let same : IsDone command i.bytes status text = subst Q (same_command ws command' command job' job) here in
    puts_ok text status r k k' puts written (inl (done_of_accepted command s.left i status text same))
completes ws r s s' k k' (No_room command' job' reads puts) command job read written i = puts_ok (refusal_line Memory) Memory r k k' puts written (inr refl)

-- ---- demos

-- where the words name a demo, the call made it
pub made : (ws : List (List ℕ)) (r : Status) (s s' : SourceView) (k k' : SinkView) → Answers ws r s s' k k' → (size : ℕ) → IsCommand ws (Demo size) → (s' ≡ s)
    × (n : ℕ) × IsMade n r k k'
made ws r s s' k k' (No_job other_words same puts) size job = absurd (other_words (Demo size) job)
made ws r s s' k k' (Made n job' same is) size job = (same, n, is)
made ws r s s' k k' (Unread command job' reads rose puts) size job = absurd (same_reads ws command (Demo size) job' job reads)
made ws r s s' k k' (Past_limit command job' reads takes puts) size job = absurd (same_reads ws command (Demo size) job' job reads)
made ws r s s' k k' (Done command job' reads bytes text status takes few built puts) size job = absurd (same_reads ws command (Demo size) job' job reads)
made ws r s s' k k' (No_room command job' reads puts) size job = absurd (same_reads ws command (Demo size) job' job reads)

pub demo_completes : (ws : List (List ℕ)) (r : Status) (s s' : SourceView) (k k' : SinkView) → Answers ws r s s' k k' → (size : ℕ) → IsCommand ws (Demo size)
    → (Rose k.faults k'.faults → ⊥) → (r ≡ Ok) ⊎ (r ≡ Memory)
demo_completes ws r s s' k k' a size job written = let m = made ws r s s' k k' a size job in made_ok m.1 r k k' m.2 written

pub takes_nothing : (ws : List (List ℕ)) (r : Status) (s s' : SourceView) (k k' : SinkView) → Answers ws r s s' k k' → (size : ℕ) → IsCommand ws (Demo size)
    → (s'.left ≡ s.left) × (s'.faults ≡ s.faults)
takes_nothing ws r s s' k k' a size job = let m = made ws r s s' k k' a size job in (ap (λ (v : SourceView). v.left) m.0, ap (λ (v : SourceView). v.faults) m.0)
