-- What a job answers, and that an input is cut in one way alone.
use Rattle.std.proofs.Common.{ℕ, ◌≡◌, ◌<◌, ◌≤◌, Bool, true, false, not, List, [], ◌∷◌, ◌++◌, length, take, drop, Option, None, arith, refl, ap, sym, ◌∙◌, subst, nat_eq, bytes_eq, codes, if◌then◌else◌}
use Rattle.std.proofs.lemmas.Bool.{eqb-true}
use Rattle.std.proofs.lemmas.Option.{none-some}
use Rattle.ae_fields.proofs.PlainLemmas.{own}
use Rattle.std.proofs.lemmas.Fmt.{digits_value-decimal}
use Rattle.std.specs.Fmt.{decimal}
use Rattle.std.specs.Str.Parse.{digits_value}
use Rattle.ae_fields.specs.Cut.{lines, fields, said, put}
use Rattle.ae_fields.specs.Parts.{is_mark, no_mark, whole_lines}
use Rattle.ae_fields.specs.Rows.{rows_of, bad_row}
use Rattle.ae_seq.specs.ProgramTree.{ProgramTree}
use Rattle.ae_jobs.specs.declared.status.Status.{Status}
use Rattle.ae_jobs.specs.declared.status.Status.TheVariants.{Ok, Usage, BadLine, BadType, TooLarge, NoSchedule, BadWords, BadModule, LongRun, ReadFault, WriteFault, TooLong, Memory, BadWave, NotMoves}
use Rattle.ae_tool.specs.declared.command.Command.{Command}
use Rattle.ae_tool.specs.declared.command.Command.TheVariants.{Check, Eval, Plan, Cost, Least, Build, Stall, Run, Wave, Unwave, Sim, Demo}
use Rattle.ae_tool.specs.Commands.{IsCommand, takes_whole}
use Rattle.ae_tool.specs.Cuts.{AreParts, IsCut, Marked, Unmarked}
use Rattle.ae_jobs.specs.RunTexts.{input_widths, run_size, run_limit, IsRunOf, IsPlayed, Unbuilt, Played}
use Rattle.ae_stalled.specs.Laws.{stall_limit}
use Rattle.ae_compile.specs.Building.{IsBuiltStalled, IsBuiltText}
use Rattle.ae_compile.specs.Costing.{main_costs, HasCosts, load_limit}
use Rattle.ae_fields.specs.Grammar.{program}
use Rattle.ae_compile.specs.Programs.{IsTypedText}
use Rattle.ae_jobs.specs.Programs.{IsRefusal}
use Rattle.ae_rewrite.specs.StProgramTree.{StFuncTree}
use Rattle.ae_rewrite.specs.Scheduled.{IsSchedule}
use Rattle.ae_rewrite.specs.FailingLine.{failing_line}
use Rattle.ae_delay.specs.declared.own.OwnCosts.{OwnCosts}
use Rattle.ae_jobs.specs.PlanTexts.{plan_text}
use Rattle.ae_jobs.specs.CostTables.{table_text}
use Rattle.ae_jobs.specs.Schedules.{IsAnswered, IsCostRefusal, IsCostText}
use Rattle.ae_jobs.specs.EvalTexts.{eval_size, IsEvalOf, IsEvaluated, Refused, Ran}
use Rattle.ae_tool.specs.Outcomes.{IsReply, IsDone, HasResult, HasShortRun, IsAccepted}
use Rattle.ae_jobs.specs.Checking.{IsChecked}
use Rattle.ae_trace.specs.Traces.{is_movement}
use Rattle.ae_least.proofs.MovingLines.{none-other}
use Rattle.ae_jobs.specs.LeastAnswers.{HasLeast, IsLeast, IsLeastOf, Told, Untold}
use Rattle.ae_jobs.specs.SimTexts.{IsSimulated}
use Rattle.ae_jobs.specs.UnwaveTexts.{IsReadable, IsUnwaved}
use Rattle.ae_vcd.specs.Reads.{size_of_wave}
use Rattle.ae_jobs.specs.declared.run_job.Form.{Form}
use Rattle.ae_jobs.specs.declared.run_job.Form.TheVariants.{Lines, Dump}
use Rattle.ae_jobs.proofs.Accepted.{one_program, never_refused, never_cost_refused}
use Rattle.ae_jobs.proofs.CostsAlike.{costs_same}
use Rattle.ae_jobs.proofs.SimComplete.{sim_complete}
use Rattle.ae_fields.proofs.PartLemmas.{some-line as some_line}
use Rattle.ae_seq.proofs.Judging.{left as and-first, right as and-second}

-- the answers of jobs
abbrev pub is_reply : Status → Bool
is_reply Ok = true
is_reply Usage = false
is_reply (BadLine line) = true
is_reply (BadType line) = true
is_reply (TooLarge line) = true
is_reply (NoSchedule line) = true
is_reply (BadWords row column) = true
is_reply (BadModule fault) = true
is_reply (LongRun size) = true
is_reply ReadFault = false
is_reply WriteFault = false
is_reply TooLong = false
is_reply Memory = false
is_reply (BadWave at) = true
is_reply (NotMoves line) = true

sim_replies : (fill : ℕ) (part : List ℕ) (table : List (List (List ℕ))) (status : Status) (text : List ℕ) → IsSimulated fill part table status text
    → is_reply status ≡ true
sim_replies fill part table Ok text b = refl
sim_replies fill part table Usage text b = absurd b.2
sim_replies fill part table (BadLine line) text b = absurd b.2
sim_replies fill part table (BadType line) text b = absurd b.2
sim_replies fill part table (TooLarge line) text b = absurd b.2
sim_replies fill part table (NoSchedule line) text b = absurd b.2
sim_replies fill part table (BadWords row column) text b = refl
sim_replies fill part table (BadModule fault) text b = refl
sim_replies fill part table (LongRun size) text b = refl
sim_replies fill part table ReadFault text b = absurd b.2
sim_replies fill part table WriteFault text b = absurd b.2
sim_replies fill part table TooLong text b = absurd b.2
sim_replies fill part table Memory text b = absurd b.2
sim_replies fill part table (BadWave at) text b = absurd b.2
sim_replies fill part table (NotMoves line) text b = absurd b.2

refusal_replies : (part : List ℕ) (status : Status) → IsRefusal part status → is_reply status ≡ true
refusal_replies part Ok b = absurd b
refusal_replies part Usage b = absurd b
refusal_replies part (BadLine line) b = refl
refusal_replies part (BadType line) b = refl
refusal_replies part (TooLarge line) b = refl
refusal_replies part (NoSchedule line) b = absurd b
refusal_replies part (BadWords row column) b = absurd b
refusal_replies part (BadModule fault) b = absurd b
refusal_replies part (LongRun size) b = absurd b
refusal_replies part ReadFault b = absurd b
refusal_replies part WriteFault b = absurd b
refusal_replies part TooLong b = absurd b
refusal_replies part Memory b = absurd b
refusal_replies part (BadWave at) b = absurd b
refusal_replies part (NotMoves line) b = absurd b

checked_replies : (part : List ℕ) (status : Status) (text : List ℕ) → IsChecked part status text → is_reply status ≡ true
checked_replies part Ok text b = refl
checked_replies part Usage text b = refusal_replies part Usage b.0
checked_replies part (BadLine line) text b = refusal_replies part (BadLine line) b.0
checked_replies part (BadType line) text b = refusal_replies part (BadType line) b.0
checked_replies part (TooLarge line) text b = refusal_replies part (TooLarge line) b.0
checked_replies part (NoSchedule line) text b = refusal_replies part (NoSchedule line) b.0
checked_replies part (BadWords row column) text b = refusal_replies part (BadWords row column) b.0
checked_replies part (BadModule fault) text b = refusal_replies part (BadModule fault) b.0
checked_replies part (LongRun size) text b = refusal_replies part (LongRun size) b.0
checked_replies part ReadFault text b = refusal_replies part ReadFault b.0
checked_replies part WriteFault text b = refusal_replies part WriteFault b.0
checked_replies part TooLong text b = refusal_replies part TooLong b.0
checked_replies part Memory text b = refusal_replies part Memory b.0
checked_replies part (BadWave at) text b = refusal_replies part (BadWave at) b.0
checked_replies part (NotMoves line) text b = refusal_replies part (NotMoves line) b.0

eval_replies : (p : ProgramTree) (table : List (List (List ℕ))) (status : Status) (text : List ℕ) → IsEvalOf p table status text → is_reply status ≡ true
eval_replies p table Ok text b = refl
eval_replies p table Usage text b = absurd b
eval_replies p table (BadLine line) text b = absurd b
eval_replies p table (BadType line) text b = absurd b
eval_replies p table (TooLarge line) text b = absurd b
eval_replies p table (NoSchedule line) text b = absurd b
eval_replies p table (BadWords row column) text b = refl
eval_replies p table (BadModule fault) text b = absurd b
eval_replies p table (LongRun size) text b = refl
eval_replies p table ReadFault text b = absurd b
eval_replies p table WriteFault text b = absurd b
eval_replies p table TooLong text b = absurd b
eval_replies p table Memory text b = absurd b
eval_replies p table (BadWave at) text b = absurd b
eval_replies p table (NotMoves line) text b = absurd b

evaluated_replies : (part : List ℕ) (table : List (List (List ℕ))) (status : Status) (text : List ℕ) → IsEvaluated part table status text
    → is_reply status ≡ true
evaluated_replies part table status text (Refused r e) = refusal_replies part status r
evaluated_replies part table status text (Ran p t r) = eval_replies p table status text r

cost_refusal_replies : (limit : ℕ) (part : List ℕ) (slowdown : ℕ) (status : Status) → IsCostRefusal limit part slowdown status → is_reply status ≡ true
cost_refusal_replies limit part slowdown Ok b = absurd b
cost_refusal_replies limit part slowdown (NoSchedule line) b = refl
cost_refusal_replies limit part slowdown (TooLarge line) b = refl
cost_refusal_replies limit part slowdown Usage b = refusal_replies part Usage b
cost_refusal_replies limit part slowdown (BadLine line) b = refusal_replies part (BadLine line) b
cost_refusal_replies limit part slowdown (BadType line) b = refusal_replies part (BadType line) b
cost_refusal_replies limit part slowdown (BadWords row column) b = refusal_replies part (BadWords row column) b
cost_refusal_replies limit part slowdown (BadModule fault) b = refusal_replies part (BadModule fault) b
cost_refusal_replies limit part slowdown (LongRun size) b = refusal_replies part (LongRun size) b
cost_refusal_replies limit part slowdown ReadFault b = refusal_replies part ReadFault b
cost_refusal_replies limit part slowdown WriteFault b = refusal_replies part WriteFault b
cost_refusal_replies limit part slowdown TooLong b = refusal_replies part TooLong b
cost_refusal_replies limit part slowdown Memory b = refusal_replies part Memory b
cost_refusal_replies limit part slowdown (BadWave at) b = refusal_replies part (BadWave at) b
cost_refusal_replies limit part slowdown (NotMoves line) b = refusal_replies part (NotMoves line) b

answered_replies : (limit : ℕ) (IsRight : List ℕ → Type 0) (part : List ℕ) (slowdown : ℕ) (status : Status) (text : List ℕ)
    → IsAnswered limit IsRight part slowdown status text → is_reply status ≡ true
answered_replies limit IsRight part slowdown Ok text b = refl
answered_replies limit IsRight part slowdown (NoSchedule line) text b = cost_refusal_replies limit part slowdown (NoSchedule line) b.0
answered_replies limit IsRight part slowdown (TooLarge line) text b = cost_refusal_replies limit part slowdown (TooLarge line) b.0
answered_replies limit IsRight part slowdown Usage text b = cost_refusal_replies limit part slowdown Usage b.0
answered_replies limit IsRight part slowdown (BadLine line) text b = cost_refusal_replies limit part slowdown (BadLine line) b.0
answered_replies limit IsRight part slowdown (BadType line) text b = cost_refusal_replies limit part slowdown (BadType line) b.0
answered_replies limit IsRight part slowdown (BadWords row column) text b = cost_refusal_replies limit part slowdown (BadWords row column) b.0
answered_replies limit IsRight part slowdown (BadModule fault) text b = cost_refusal_replies limit part slowdown (BadModule fault) b.0
answered_replies limit IsRight part slowdown (LongRun size) text b = cost_refusal_replies limit part slowdown (LongRun size) b.0
answered_replies limit IsRight part slowdown ReadFault text b = cost_refusal_replies limit part slowdown ReadFault b.0
answered_replies limit IsRight part slowdown WriteFault text b = cost_refusal_replies limit part slowdown WriteFault b.0
answered_replies limit IsRight part slowdown TooLong text b = cost_refusal_replies limit part slowdown TooLong b.0
answered_replies limit IsRight part slowdown Memory text b = cost_refusal_replies limit part slowdown Memory b.0
answered_replies limit IsRight part slowdown (BadWave at) text b = cost_refusal_replies limit part slowdown (BadWave at) b.0
answered_replies limit IsRight part slowdown (NotMoves line) text b = cost_refusal_replies limit part slowdown (NotMoves line) b.0

run_of_replies : (form : Form) (fill : ℕ) (p : ProgramTree) (slowdown : ℕ) (instances : List StFuncTree) (table : List (List (List ℕ))) (status : Status)
    (text : List ℕ) → IsRunOf form fill p slowdown instances table status text → is_reply status ≡ true
run_of_replies form fill p slowdown instances table Ok text b = refl
run_of_replies form fill p slowdown instances table Usage text b = absurd b
run_of_replies form fill p slowdown instances table (BadLine line) text b = absurd b
run_of_replies form fill p slowdown instances table (BadType line) text b = absurd b
run_of_replies form fill p slowdown instances table (TooLarge line) text b = absurd b
run_of_replies form fill p slowdown instances table (NoSchedule line) text b = absurd b
run_of_replies form fill p slowdown instances table (BadWords row column) text b = refl
run_of_replies form fill p slowdown instances table (BadModule fault) text b = absurd b
run_of_replies form fill p slowdown instances table (LongRun size) text b = refl
run_of_replies form fill p slowdown instances table ReadFault text b = absurd b
run_of_replies form fill p slowdown instances table WriteFault text b = absurd b
run_of_replies form fill p slowdown instances table TooLong text b = absurd b
run_of_replies form fill p slowdown instances table Memory text b = absurd b
run_of_replies form fill p slowdown instances table (BadWave at) text b = absurd b
run_of_replies form fill p slowdown instances table (NotMoves line) text b = absurd b

unwave_replies : (part : List ℕ) (status : Status) (text : List ℕ) → IsUnwaved part status text → is_reply status ≡ true
unwave_replies part Ok text b = refl
unwave_replies part Usage text b = absurd b
unwave_replies part (BadLine line) text b = absurd b
unwave_replies part (BadType line) text b = absurd b
unwave_replies part (TooLarge line) text b = absurd b
unwave_replies part (NoSchedule line) text b = absurd b
unwave_replies part (BadWords row column) text b = absurd b
unwave_replies part (BadModule fault) text b = absurd b
unwave_replies part (LongRun size) text b = refl
unwave_replies part ReadFault text b = absurd b
unwave_replies part WriteFault text b = absurd b
unwave_replies part TooLong text b = absurd b
unwave_replies part Memory text b = absurd b
unwave_replies part (BadWave at) text b = refl
unwave_replies part (NotMoves line) text b = absurd b

least_of_replies : (p : ProgramTree) (slowdown : ℕ) (status : Status) (text : List ℕ) → IsLeastOf p slowdown status text → is_reply status ≡ true
least_of_replies p slowdown Ok text b = refl
least_of_replies p slowdown Usage text b = absurd b
least_of_replies p slowdown (BadLine line) text b = absurd b
least_of_replies p slowdown (BadType line) text b = absurd b
least_of_replies p slowdown (TooLarge line) text b = absurd b
least_of_replies p slowdown (NoSchedule line) text b = refl
least_of_replies p slowdown (BadWords row column) text b = absurd b
least_of_replies p slowdown (BadModule fault) text b = absurd b
least_of_replies p slowdown (LongRun size) text b = absurd b
least_of_replies p slowdown ReadFault text b = absurd b
least_of_replies p slowdown WriteFault text b = absurd b
least_of_replies p slowdown TooLong text b = absurd b
least_of_replies p slowdown Memory text b = absurd b
least_of_replies p slowdown (BadWave at) text b = absurd b
least_of_replies p slowdown (NotMoves line) text b = refl

least_replies : (part : List ℕ) (slowdown : ℕ) (status : Status) (text : List ℕ) → IsLeast part slowdown status text → is_reply status ≡ true
least_replies part slowdown status text (Untold r e) = refusal_replies part status r
least_replies part slowdown status text (Told p t r) = least_of_replies p slowdown status text r

run_replies : (form : Form) (slowdown fill : ℕ) (part : List ℕ) (table : List (List (List ℕ))) (status : Status) (text : List ℕ)
    → IsPlayed form slowdown fill part table status text → is_reply status ≡ true
run_replies form slowdown fill part table status text (Unbuilt r e) = cost_refusal_replies load_limit part slowdown status r
run_replies form slowdown fill part table status text (Played p instances c r) = run_of_replies form fill p slowdown instances table status text r

reply_replies : (command : Command) (part : List ℕ) (table : List (List (List ℕ))) (status : Status) (text : List ℕ) → IsReply command part table status text
    → is_reply status ≡ true
reply_replies Check part table status text b = checked_replies part status text b
reply_replies Eval part table status text b = evaluated_replies part table status text b
reply_replies (Plan slowdown) part table status text b = answered_replies load_limit (IsCostText (plan_text slowdown) part slowdown) part slowdown status text b
reply_replies (Cost slowdown) part table status text b = answered_replies load_limit (IsCostText table_text part slowdown) part slowdown status text b
reply_replies (Least slowdown) part table status text b = least_replies part slowdown status text b
reply_replies (Build slowdown) part table status text b = answered_replies load_limit (IsBuiltText part slowdown) part slowdown status text b
reply_replies (Stall slowdown) part table status text b = answered_replies stall_limit (IsBuiltStalled part slowdown) part slowdown status text b
reply_replies (Demo size) part table status text b = absurd b
reply_replies (Run slowdown fill) part table status text b = run_replies Lines slowdown fill part table status text b
reply_replies (Wave slowdown fill) part table status text b = run_replies Dump slowdown fill part table status text b
reply_replies Unwave part table status text b = unwave_replies part status text b
reply_replies (Sim fill) part table status text b = sim_replies fill part table status text b

pub done_replies : (command : Command) (bytes : List ℕ) (status : Status) (text : List ℕ) → IsDone command bytes status text → is_reply status ≡ true
done_replies command bytes status text d = reply_replies command d.part d.table status text d.reply

-- ---- one job for given words

-- the job that words name, if they name one
abbrev named_by : List (List ℕ) → Command
named_by [] = Check
named_by (w ∷ []) = if bytes_eq w (codes "check") then Check else if bytes_eq w (codes "unwave") then Unwave else Eval
named_by (w ∷ a ∷ []) =
    if bytes_eq w (codes "plan") then Plan (digits_value 10 a) else if bytes_eq w (codes "cost") then Cost (digits_value 10 a) else if bytes_eq w
    (codes "sim") then Sim (digits_value 10 a) else if bytes_eq w (codes "demo") then Demo (digits_value 10 a) else if bytes_eq w
    (codes "stall") then Stall (digits_value 10 a) else if bytes_eq w (codes "least") then Least (digits_value 10 a) else Build (digits_value 10 a)
named_by (w ∷ a ∷ b ∷ ws) = if bytes_eq w (codes "wave") then Wave (digits_value 10 a) (digits_value 10 b) else Run (digits_value 10 a) (digits_value 10 b)

named_is : (ws : List (List ℕ)) (c : Command) → IsCommand ws c → named_by ws ≡ c
named_is ws Check h = ap named_by h.0
named_is ws Eval h = ap named_by h.0
named_is ws (Plan s) h = ap named_by h.0 ∙ ap (λ n. Plan n) (digits_value-decimal own s (omega (arith, h.1.1)))
named_is ws (Cost s) h = ap named_by h.0 ∙ ap (λ n. Cost n) (digits_value-decimal own s (omega (arith, h.1.1)))
named_is ws (Least s) h = ap named_by h.0 ∙ ap (λ n. Least n) (digits_value-decimal own s (omega (arith, h.1.1)))
named_is ws (Build s) h = ap named_by h.0 ∙ ap (λ n. Build n) (digits_value-decimal own s (omega (arith, h.1.1)))
named_is ws (Stall s) h = ap named_by h.0 ∙ ap (λ n. Stall n) (digits_value-decimal own s (omega (arith, h.1.1)))
named_is ws (Demo s) h = ap named_by h.0 ∙ ap (λ n. Demo n) (digits_value-decimal own s (omega (arith, h.1.1)))
named_is ws (Run s n) h =
    ap named_by h.0 ∙ ap (λ k. Run k (digits_value 10 (decimal n))) (digits_value-decimal own s (omega (arith, h.1.0.1))) ∙
    ap (λ k. Run s k) (digits_value-decimal own n h.1.1)
named_is ws (Wave s n) h =
    ap named_by h.0 ∙ ap (λ k. Wave k (digits_value 10 (decimal n))) (digits_value-decimal own s (omega (arith, h.1.0.1))) ∙
    ap (λ k. Wave s k) (digits_value-decimal own n h.1.1)
named_is ws Unwave h = ap named_by h.0
named_is ws (Sim n) h = ap named_by h.0 ∙ ap (λ n. Sim n) (digits_value-decimal own n h.1)

pub same_command : (ws : List (List ℕ)) (a b : Command) → IsCommand ws a → IsCommand ws b → a ≡ b
same_command ws a b x y = sym (named_is ws a x) ∙ named_is ws b y

-- ---- an input is cut in one way

-- lists with a first mark are equal before it and behind it
record SameHalves {X : Type 0} (a b a' b' : List X) : Type 0 where
  before : a ≡ a'
  behind : b ≡ b'

abbrev marks : List ℕ → Bool
marks l = is_mark (fields (said l))

-- a list that begins with a mark has one
wrong : {A : Type 0} (x : List ℕ) (xs : List (List ℕ)) → marks x ≡ true → no_mark (x ∷ xs) ≡ true → A
wrong x xs m n = let f : not (marks x) ≡ true = and-first (not (marks x)) _ n in let t : not (marks x) ≡ false = ap not m in cc

halves : (a a' : List (List ℕ)) (l l' : List ℕ) (b b' : List (List ℕ)) → no_mark a ≡ true → no_mark a' ≡ true → marks l ≡ true → marks l' ≡ true → a ++ l
    ∷ b ≡ a' ++ l' ∷ b' → SameHalves a b a' b'
halves [] [] l l' b b' f f' m m' e = record { before = refl; behind = cc }
halves [] (x ∷ a') l l' b b' f f' m m' e = let s : l ≡ x = cc in let t : marks x ≡ true = ap marks (sym s) ∙ m in wrong x a' t f'
halves (x ∷ a) [] l l' b b' f f' m m' e = let s : x ≡ l' = cc in let t : marks x ≡ true = ap marks s ∙ m' in wrong x a t f
halves (x ∷ a) (y ∷ a') l l' b b' f f' m m' e =
    let s : x ≡ y = cc in
    let t : a ++ l ∷ b ≡ a' ++ l' ∷ b' = cc in
    let r = halves a a' l l' b b' (and-second (not (marks x)) _ f) (and-second (not (marks y)) _ f') m m' t in
    record { before = (λ i. s i ∷ r.before i); behind = r.behind }

-- a list with a mark has one
marked_has : (a : List (List ℕ)) (l : List ℕ) (b : List (List ℕ)) → marks l ≡ true → no_mark (a ++ l ∷ b) ≡ true → ⊥
marked_has [] l b m n = wrong l b m n
marked_has (x ∷ a) l b m n = marked_has a l b m (and-second (not (marks x)) _ n)

-- lines with an LF behind each
abbrev unlines : List (List ℕ) → List ℕ
unlines [] = []
unlines (l ∷ ls) = l ++ 10 ∷ unlines ls

unlines_put : (b : ℕ) (ls : List (List ℕ)) → 1 ≤ length ls → unlines (put b ls) ≡ b ∷ unlines ls
unlines_put b [] h = absurd (omega arith)
unlines_put b (l ∷ ls) h = refl

whole_back : (xs : List ℕ) → whole_lines xs ≡ true → unlines (lines xs) ≡ xs
whole_back [] w = refl
whole_back (b ∷ []) w = ap (λ t. unlines (if t then [] ∷ [] else put b [])) w ∙ ap (λ n. n ∷ []) (sym (eqb-true b 10 w))
whole_back (b ∷ c ∷ bs) w = by (nat_eq b 10) refl (whole_back (c ∷ bs) w)
  where
    by : (t : Bool) → nat_eq b 10 ≡ t → unlines (lines (c ∷ bs)) ≡ c ∷ bs → unlines (if t then [] ∷ lines (c ∷ bs) else put b (lines (c ∷ bs))) ≡ b ∷ c ∷ bs
    by true e r = ap (λ ls. 10 ∷ ls) r ∙ ap (λ n. n ∷ c ∷ bs) (sym (eqb-true b 10 e))
    by false e r = unlines_put b (lines (c ∷ bs)) (some_line c bs) ∙ ap (λ ls. b ∷ ls) r

whole_once : (xs ys : List ℕ) → whole_lines xs ≡ true → whole_lines ys ≡ true → lines xs ≡ lines ys → xs ≡ ys
whole_once xs ys v w e = sym (whole_back xs v) ∙ ap unlines e ∙ whole_back ys w

-- the two parts of an input are the only ones
record SameParts (part part' : List ℕ) (table table' : List (List (List ℕ))) : Type 0 where
  parts : part ≡ part'
  tables : table ≡ table'

cut_once : (bytes part part' : List ℕ) (table table' : List (List (List ℕ))) → IsCut bytes part table → IsCut bytes part' table'
    → SameParts part part' table table'
cut_once bytes part part' table table' (Marked e s c p t) (Marked e' s' c' p' t') =
    let h = halves (lines (take e bytes)) (lines (take e' bytes)) c.line c'.line (lines (drop s bytes)) (lines (drop s' bytes)) c.first c'.first c.mark c'.mark
    (sym c.cut ∙ c'.cut) in
    record {
      parts = p ∙ whole_once (take e bytes) (take e' bytes) c.whole c'.whole h.before ∙ sym p';
      tables = t ∙ ap rows_of h.behind ∙ sym t';
    }
cut_once bytes part part' table table' (Marked e s c p t) (Unmarked n p' t') =
    absurd (marked_has (lines (take e bytes)) c.line (lines (drop s bytes)) c.mark (ap no_mark (sym c.cut) ∙ n))
cut_once bytes part part' table table' (Unmarked n p t) (Marked e' s' c' p' t') =
    absurd (marked_has (lines (take e' bytes)) c'.line (lines (drop s' bytes)) c'.mark (ap no_mark (sym c'.cut) ∙ n))
cut_once bytes part part' table table' (Unmarked n p t) (Unmarked n' p' t') = record { parts = p ∙ sym p'; tables = t ∙ sym t' }

parts_once : (whole : Bool) (bytes part part' : List ℕ) (table table' : List (List (List ℕ))) → AreParts whole bytes part table
    → AreParts whole bytes part' table' → SameParts part part' table table'
parts_once true bytes part part' table table' a b = record { parts = a.0 ∙ sym b.0; tables = a.1 ∙ sym b.1 }
parts_once false bytes part part' table table' a b = cut_once bytes part part' table table' a b

-- ---- where a job has a result it answers it

checked_ok : (part : List ℕ) (status : Status) (text : List ℕ) (p : ProgramTree) → IsTypedText part p → IsChecked part status text → status ≡ Ok
checked_ok part Ok text p t b = refl
checked_ok part Usage text p t b = never_refused part p Usage t b.0
checked_ok part (BadLine line) text p t b = never_refused part p (BadLine line) t b.0
checked_ok part (BadType line) text p t b = never_refused part p (BadType line) t b.0
checked_ok part (TooLarge line) text p t b = never_refused part p (TooLarge line) t b.0
checked_ok part (NoSchedule line) text p t b = never_refused part p (NoSchedule line) t b.0
checked_ok part (BadWords row column) text p t b = never_refused part p (BadWords row column) t b.0
checked_ok part (BadModule fault) text p t b = never_refused part p (BadModule fault) t b.0
checked_ok part (LongRun size) text p t b = never_refused part p (LongRun size) t b.0
checked_ok part ReadFault text p t b = never_refused part p ReadFault t b.0
checked_ok part WriteFault text p t b = never_refused part p WriteFault t b.0
checked_ok part TooLong text p t b = never_refused part p TooLong t b.0
checked_ok part Memory text p t b = never_refused part p Memory t b.0
checked_ok part (BadWave at) text p t b = never_refused part p (BadWave at) t b.0
checked_ok part (NotMoves line) text p t b = never_refused part p (NotMoves line) t b.0

eval_of_ok : (p : ProgramTree) (table : List (List (List ℕ))) (status : Status) (text : List ℕ) → bad_row 1 (input_widths p) table ≡ None
    → eval_size p table ≤ run_limit
    → IsEvalOf p table status text → status ≡ Ok
eval_of_ok p table Ok text right short b = refl
eval_of_ok p table Usage text right short b = absurd b
eval_of_ok p table (BadLine line) text right short b = absurd b
eval_of_ok p table (BadType line) text right short b = absurd b
eval_of_ok p table (TooLarge line) text right short b = absurd b
eval_of_ok p table (NoSchedule line) text right short b = absurd b
eval_of_ok p table (BadWords row column) text right short b = let e = sym right ∙ b.0 in cc
eval_of_ok p table (BadModule fault) text right short b = absurd b
eval_of_ok p table (LongRun size) text right short b =
    let long : run_limit < size = b.1 in let is : size ≡ eval_size p table = b.2 in absurd (omega (arith, long, is, short))
eval_of_ok p table ReadFault text right short b = absurd b
eval_of_ok p table WriteFault text right short b = absurd b
eval_of_ok p table TooLong text right short b = absurd b
eval_of_ok p table Memory text right short b = absurd b
eval_of_ok p table (BadWave at) text right short b = absurd b
eval_of_ok p table (NotMoves line) text right short b = absurd b

record EvalFits (p : ProgramTree) (table : List (List (List ℕ))) : Type 0 where
  right : bad_row 1 (input_widths p) table ≡ None
  short : eval_size p table ≤ run_limit

evaluated_ok : (part : List ℕ) (table : List (List (List ℕ))) (status : Status) (text : List ℕ) (p : ProgramTree) → IsTypedText part p → EvalFits p table
    → IsEvaluated part table status text → status ≡ Ok
evaluated_ok part table status text p t f (Refused r e) = never_refused part p status t r
evaluated_ok part table status text p t f (Ran q u r) =
    let g : EvalFits q table = subst (λ (x : ProgramTree). EvalFits x table) (one_program part p q t.reads u.reads) f in
    eval_of_ok q table status text g.right g.short r

answered_ok : (limit : ℕ) (IsRight : List ℕ → Type 0) (part : List ℕ) (slowdown : ℕ) (status : Status) (text : List ℕ) → HasCosts limit part slowdown
    → IsAnswered limit IsRight part slowdown status text → status ≡ Ok
answered_ok limit IsRight part slowdown Ok text h b = refl
answered_ok limit IsRight part slowdown Usage text h b = never_cost_refused limit part slowdown Usage h b.0
answered_ok limit IsRight part slowdown (BadLine line) text h b = never_cost_refused limit part slowdown (BadLine line) h b.0
answered_ok limit IsRight part slowdown (BadType line) text h b = never_cost_refused limit part slowdown (BadType line) h b.0
answered_ok limit IsRight part slowdown (TooLarge line) text h b = never_cost_refused limit part slowdown (TooLarge line) h b.0
answered_ok limit IsRight part slowdown (NoSchedule line) text h b = never_cost_refused limit part slowdown (NoSchedule line) h b.0
answered_ok limit IsRight part slowdown (BadWords row column) text h b = never_cost_refused limit part slowdown (BadWords row column) h b.0
answered_ok limit IsRight part slowdown (BadModule fault) text h b = never_cost_refused limit part slowdown (BadModule fault) h b.0
answered_ok limit IsRight part slowdown (LongRun size) text h b = never_cost_refused limit part slowdown (LongRun size) h b.0
answered_ok limit IsRight part slowdown ReadFault text h b = never_cost_refused limit part slowdown ReadFault h b.0
answered_ok limit IsRight part slowdown WriteFault text h b = never_cost_refused limit part slowdown WriteFault h b.0
answered_ok limit IsRight part slowdown TooLong text h b = never_cost_refused limit part slowdown TooLong h b.0
answered_ok limit IsRight part slowdown Memory text h b = never_cost_refused limit part slowdown Memory h b.0
answered_ok limit IsRight part slowdown (BadWave at) text h b = never_cost_refused limit part slowdown (BadWave at) h b.0
answered_ok limit IsRight part slowdown (NotMoves line) text h b = never_cost_refused limit part slowdown (NotMoves line) h b.0

run_of_ok : (form : Form) (fill : ℕ) (p : ProgramTree) (slowdown : ℕ) (instances : List StFuncTree) (table : List (List (List ℕ))) (status : Status)
    (text : List ℕ) → bad_row 1 (input_widths p) table ≡ None
    → run_size form p slowdown (main_costs p instances).latency table ≤ run_limit → IsRunOf form fill p slowdown instances table status text → status ≡ Ok
run_of_ok form fill p slowdown instances table Ok text right short b = refl
run_of_ok form fill p slowdown instances table Usage text right short b = absurd b
run_of_ok form fill p slowdown instances table (BadLine line) text right short b = absurd b
run_of_ok form fill p slowdown instances table (BadType line) text right short b = absurd b
run_of_ok form fill p slowdown instances table (TooLarge line) text right short b = absurd b
run_of_ok form fill p slowdown instances table (NoSchedule line) text right short b = absurd b
run_of_ok form fill p slowdown instances table (BadWords row column) text right short b = let e = sym right ∙ b.0 in cc
run_of_ok form fill p slowdown instances table (BadModule fault) text right short b = absurd b
run_of_ok form fill p slowdown instances table (LongRun size) text right short b =
    let long : run_limit < size = b.1 in let is : size ≡ run_size form p slowdown (main_costs p instances).latency table = b.2 in
    absurd (omega (arith, long, is, short))
run_of_ok form fill p slowdown instances table ReadFault text right short b = absurd b
run_of_ok form fill p slowdown instances table WriteFault text right short b = absurd b
run_of_ok form fill p slowdown instances table TooLong text right short b = absurd b
run_of_ok form fill p slowdown instances table Memory text right short b = absurd b
run_of_ok form fill p slowdown instances table (BadWave at) text right short b = absurd b
run_of_ok form fill p slowdown instances table (NotMoves line) text right short b = absurd b

run_ok : (form : Form) (slowdown fill : ℕ) (part : List ℕ) (table : List (List (List ℕ))) (status : Status) (text : List ℕ)
    → HasShortRun form part slowdown table → IsPlayed form slowdown fill part table status text → status ≡ Ok
run_ok form slowdown fill part table status text h (Unbuilt r e) = never_cost_refused load_limit part slowdown status h.costs r
run_ok form slowdown fill part table status text h (Played p instances c r) =
    let own = h.costs in
    let same : own.program ≡ p = one_program part own.program p own.costed.typed.reads c.typed.reads in
    let schedule : IsSchedule own.program slowdown instances = subst (λ (q : ProgramTree). IsSchedule q slowdown instances) (sym same) c.schedule in
    let costs : main_costs own.program own.instances ≡ main_costs own.program instances = costs_same own.program slowdown own.instances instances
    own.costed.schedule schedule in
    let right : bad_row 1 (input_widths p) table ≡ None = ap (λ (q : ProgramTree). bad_row 1 (input_widths q) table) (sym same) ∙ h.rows in
    let short : run_size form p slowdown (main_costs p instances).latency table ≤ run_limit = subst
    (λ (q : ProgramTree). run_size form q slowdown (main_costs q instances).latency table ≤ run_limit) same
    (subst (λ (x : OwnCosts). run_size form own.program slowdown x.latency table ≤ run_limit) costs h.short) in
    run_of_ok form fill p slowdown instances table status text right short r

unwave_ok : (part : List ℕ) (status : Status) (text : List ℕ) → IsReadable part → IsUnwaved part status text → status ≡ Ok
unwave_ok part Ok text h b = refl
unwave_ok part Usage text h b = absurd b
unwave_ok part (BadLine line) text h b = absurd b
unwave_ok part (BadType line) text h b = absurd b
unwave_ok part (TooLarge line) text h b = absurd b
unwave_ok part (NoSchedule line) text h b = absurd b
unwave_ok part (BadWords row column) text h b = absurd b
unwave_ok part (BadModule fault) text h b = absurd b
unwave_ok part (LongRun size) text h b =
    let same : h.0 ≡ b.0 = b.1.only h.0 h.1 in
    let few : size_of_wave h.0 ≤ run_limit = h.2 in
    let long : run_limit < size = b.2 in
    let is : size ≡ size_of_wave b.0 = b.3 in
    absurd (omega (arith, few, long, is, ap size_of_wave same))
unwave_ok part ReadFault text h b = absurd b
unwave_ok part WriteFault text h b = absurd b
unwave_ok part TooLong text h b = absurd b
unwave_ok part Memory text h b = absurd b
unwave_ok part (BadWave at) text h b = absurd (b.0.none h.0 h.1)
unwave_ok part (NotMoves line) text h b = absurd b

least_of_ok : (p : ProgramTree) (slowdown : ℕ) (status : Status) (text : List ℕ) → is_movement p ≡ true → failing_line p slowdown ≡ None
    → IsLeastOf p slowdown status text → status ≡ Ok
least_of_ok p slowdown Ok text moves laid b = refl
least_of_ok p slowdown Usage text moves laid b = absurd b
least_of_ok p slowdown (BadLine line) text moves laid b = absurd b
least_of_ok p slowdown (BadType line) text moves laid b = absurd b
least_of_ok p slowdown (TooLarge line) text moves laid b = absurd b
least_of_ok p slowdown (NoSchedule line) text moves laid b = absurd (none-some line (sym laid ∙ b.1))
least_of_ok p slowdown (BadWords row column) text moves laid b = absurd b
least_of_ok p slowdown (BadModule fault) text moves laid b = absurd b
least_of_ok p slowdown (LongRun size) text moves laid b = absurd b
least_of_ok p slowdown ReadFault text moves laid b = absurd b
least_of_ok p slowdown WriteFault text moves laid b = absurd b
least_of_ok p slowdown TooLong text moves laid b = absurd b
least_of_ok p slowdown Memory text moves laid b = absurd b
least_of_ok p slowdown (BadWave at) text moves laid b = absurd b
least_of_ok p slowdown (NotMoves line) text moves laid b = absurd (none-some line (sym (none-other p moves) ∙ b.0))

least_ok : (part : List ℕ) (slowdown : ℕ) (status : Status) (text : List ℕ) → HasLeast part slowdown → IsLeast part slowdown status text → status ≡ Ok
least_ok part slowdown status text h (Untold r e) = never_refused part h.0 status h.1 r
least_ok part slowdown status text h (Told p t r) =
    let same : h.0 ≡ p = one_program part h.0 p h.1.reads t.reads in
    let moves : is_movement p ≡ true = ap is_movement (sym same) ∙ h.2 in
    let laid : failing_line p slowdown ≡ None = ap (λ q. failing_line q slowdown) (sym same) ∙ h.3 in
    least_of_ok p slowdown status text moves laid r

reply_ok : (command : Command) (part : List ℕ) (table : List (List (List ℕ))) (status : Status) (text : List ℕ) → HasResult command part table
    → IsReply command part table status text → status ≡ Ok
reply_ok Check part table status text h b = checked_ok part status text h.0 h.1 b
reply_ok Eval part table status text h b = evaluated_ok part table status text h.0 h.1 (record { right = h.2; short = h.3 }) b
reply_ok (Plan slowdown) part table status text h b = answered_ok load_limit (IsCostText (plan_text slowdown) part slowdown) part slowdown status text h b
reply_ok (Cost slowdown) part table status text h b = answered_ok load_limit (IsCostText table_text part slowdown) part slowdown status text h b
reply_ok (Least slowdown) part table status text h b = least_ok part slowdown status text h b
reply_ok (Build slowdown) part table status text h b = answered_ok load_limit (IsBuiltText part slowdown) part slowdown status text h b
reply_ok (Stall slowdown) part table status text h b = answered_ok stall_limit (IsBuiltStalled part slowdown) part slowdown status text h b
reply_ok (Demo size) part table status text h b = absurd h
reply_ok (Run slowdown fill) part table status text h b = run_ok Lines slowdown fill part table status text h b
reply_ok (Wave slowdown fill) part table status text h b = run_ok Dump slowdown fill part table status text h b
reply_ok Unwave part table status text h b = unwave_ok part status text h b
reply_ok (Sim fill) part table status text h b = sim_complete fill part table status text h b

pub done_of_accepted : (command : Command) (left : Option (List ℕ)) (i : IsAccepted command left) (status : Status) (text : List ℕ)
    → IsDone command i.bytes status text → status ≡ Ok
done_of_accepted command left i status text d =
    let s = parts_once (takes_whole command) i.bytes i.part d.part i.table d.table i.cut d.cut in
    let P : List ℕ → Type 0 = λ x. HasResult command x i.table in
    let Q : List (List (List ℕ)) → Type 0 = λ x. HasResult command d.part x in
    reply_ok command d.part d.table status text (subst Q s.tables (subst P s.parts i.result)) d.reply
