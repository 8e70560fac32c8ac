-- What a call answers and writes for its words and the bytes of its input.
use Rattle.std.specs.Prelude.{◌≡◌, ℕ, ◌+◌, ◌<◌, ◌≤◌, Bool, true, false, List, [], ◌++◌, length, take, Option, Some, None, IfSome, ◌⊎◌}
use Rattle.ae_io.specs.Counts.{Rose}
use Rattle.ae_io.specs.Told.{TakesCount}
use Rattle.ae_seq.specs.ProgramTree.{ProgramTree}
use Rattle.ae_jobs.specs.declared.status.Status.{Status}
use Rattle.ae_jobs.specs.declared.status.Status.TheVariants.{Ok, Usage, ReadFault, WriteFault, TooLong, Memory}
use Rattle.ae_fields.specs.Rows.{bad_row}
use Rattle.ae_tool.specs.declared.command.Command.{Command}
use Rattle.ae_tool.specs.declared.command.Command.TheVariants.{Check, Eval, Plan, Cost, Least, Build, Stall, Run, Wave, Unwave, Sim, Demo}
use Rattle.ae_jobs.specs.declared.run_job.Form.{Form}
use Rattle.ae_jobs.specs.declared.run_job.Form.TheVariants.{Lines, Dump}
use Rattle.ae_tool.specs.Commands.{IsCommand, NamesNone, TakesInput, takes_whole}
use Rattle.ae_tool.specs.Cuts.{AreParts}
use Rattle.ae_jobs.specs.Refusals.{refusal_line}
use Rattle.ae_stalled.specs.Laws.{stall_limit}
use Rattle.ae_compile.specs.Costing.{main_costs, HasCosts, load_limit}
use Rattle.ae_compile.specs.Programs.{IsTypedText}
use Rattle.ae_jobs.specs.DemoTexts.{IsDemoText}
use Rattle.ae_jobs.specs.Checking.{IsChecked}
use Rattle.ae_jobs.specs.Schedules.{IsBuilt, IsPlanned, IsStallReply, IsTabled}
use Rattle.ae_jobs.specs.LeastAnswers.{HasLeast, IsLeast}
use Rattle.ae_jobs.specs.EvalTexts.{eval_size, IsEvaluated}
use Rattle.ae_jobs.specs.RunTexts.{input_widths, run_size, run_limit, IsPlayed}
use Rattle.ae_jobs.specs.SimTexts.{IsSimulated, IsSimulable}
use Rattle.ae_jobs.specs.UnwaveTexts.{IsReadable, IsUnwaved}

-- the most bytes of an input
abbrev pub input_limit : ℕ
input_limit = 16777216

-- what a job answers and writes for the two parts of an input; a demo takes none
abbrev pub IsReply : Command → (part : List ℕ) (table : List (List (List ℕ))) → Status → (text : List ℕ) → Type 0
IsReply Check part table status text = IsChecked part status text
IsReply Eval part table status text = IsEvaluated part table status text
IsReply (Plan slowdown) part table status text = IsPlanned part slowdown status text
IsReply (Cost slowdown) part table status text = IsTabled part slowdown status text
IsReply (Least slowdown) part table status text = IsLeast part slowdown status text
IsReply (Build slowdown) part table status text = IsBuilt part slowdown status text
IsReply (Stall slowdown) part table status text = IsStallReply part slowdown status text
IsReply (Demo size) part table status text = ⊥
IsReply (Run slowdown fill) part table status text = IsPlayed Lines slowdown fill part table status text
IsReply (Wave slowdown fill) part table status text = IsPlayed Dump slowdown fill part table status text
IsReply Unwave part table status text = IsUnwaved part status text
IsReply (Sim fill) part table status text = IsSimulated fill part table status text

-- the same for an input within the limit
pub record IsDone (command : Command) (bytes : List ℕ) (status : Status) (text : List ℕ) : Type 0 where
  pub part : List ℕ
  pub table : List (List (List ℕ))
  pub cut : AreParts (takes_whole command) bytes part table
  pub reply : IsReply command part table status text

-- what a job answers and writes for the bytes of the input: a demo takes none, and has one answer
abbrev pub IsAnswer : Command → (bytes : List ℕ) → Status → (text : List ℕ) → Type 0
IsAnswer (Demo size) bytes status text = (status ≡ Ok) × IsDemoText size text
IsAnswer command bytes status text = (length bytes ≤ input_limit) × IsDone command bytes status text

-- what a call answers and writes, where neither the input nor the output failed and there was memory
abbrev pub IsOutcome : (words : List (List ℕ)) (bytes : List ℕ) → Status → (text : List ℕ) → Type 0
IsOutcome words bytes Usage text = NamesNone words × (text ≡ refusal_line Usage)
IsOutcome words bytes TooLong text =
    (command : Command) × IsCommand words command × TakesInput command × (input_limit < length bytes)
    × (text ≡ refusal_line TooLong)
IsOutcome words bytes status text = (command : Command) × IsCommand words command × IsAnswer command bytes status text

-- the answers by which a whole text was written that the words and the input decide
abbrev pub is_settled : Status → Bool
is_settled ReadFault = false
is_settled WriteFault = false
is_settled Memory = false
is_settled _ = true

-- where the input's bytes and those written are told, a text with this outcome was appended
abbrev pub HasOutcome : (words : List (List ℕ)) (status : Status) (left old new : Option (List ℕ)) → Type 0
HasOutcome words status left old new =
    IfSome left (λ bytes. IfSome old (λ written. (text : List ℕ) × (new ≡ Some (written ++ text))
    × IsOutcome words bytes status text))

-- a text that a call may write: one with an outcome, or the line of a fault that it met
abbrev pub MayBeWritten : (words : List (List ℕ)) (bytes : List ℕ) (old_faults new_faults : ℕ) → (text : List ℕ)
    → Type 0
MayBeWritten words bytes old_faults new_faults text =
    ((status : Status) × IsOutcome words bytes status text)
    ⊎ ((text ≡ refusal_line Memory) ⊎ (Rose old_faults new_faults × (text ≡ refusal_line ReadFault)))

-- the same of a first part of such a text
abbrev pub HasPart : (words : List (List ℕ)) (left old new : Option (List ℕ)) (old_faults new_faults : ℕ) → Type 0
HasPart words left old new old_faults new_faults =
    IfSome left (λ bytes. IfSome old (λ written. (text : List ℕ) × (n : ℕ) × (new ≡ Some (written ++ take n text))
    × MayBeWritten words bytes old_faults new_faults text))

-- what is left of the input: nothing, but what follows the limit of one that is too long
abbrev pub LeavesRest : Status → (old new : Option (List ℕ)) → Type 0
LeavesRest TooLong old new = TakesCount old new (input_limit + 1)
LeavesRest _ old new = IfSome old (λ bytes. new ≡ Some [])

-- the same by the job: a demo takes nothing
abbrev pub LeavesInput : Command → Status → (old new : Option (List ℕ)) → Type 0
LeavesInput (Demo size) status old new = new ≡ old
LeavesInput command status old new = LeavesRest status old new

-- words that name no job are refused, or the sink failed or had no memory for the line
abbrev pub RefusesWords : Status → (old_faults new_faults old_wants new_wants : ℕ) → Type 0
RefusesWords status old_faults new_faults old_wants new_wants =
    (status ≡ Usage) ⊎ (((status ≡ WriteFault) × Rose old_faults new_faults)
    ⊎ ((status ≡ Memory) × Rose old_wants new_wants))

-- the program has costs, the rows have its words, and its run is not too long
pub record HasShortRun (form : Form) (part : List ℕ) (slowdown : ℕ) (table : List (List (List ℕ))) : Type 0 where
  pub costs : HasCosts load_limit part slowdown
  pub rows : bad_row 1 (input_widths costs.program) table ≡ None
  pub short : run_size form costs.program slowdown (main_costs costs.program costs.instances).latency table ≤ run_limit

-- the job has a result for the two parts of an input; a demo takes none
abbrev pub HasResult : Command → (part : List ℕ) (table : List (List (List ℕ))) → Type 0
HasResult Check part table = (p : ProgramTree) × IsTypedText part p
HasResult Eval part table =
    (p : ProgramTree) × IsTypedText part p × (bad_row 1 (input_widths p) table ≡ None) × (eval_size p table ≤ run_limit)
HasResult (Plan slowdown) part table = HasCosts load_limit part slowdown
HasResult (Cost slowdown) part table = HasCosts load_limit part slowdown
HasResult (Least slowdown) part table = HasLeast part slowdown
HasResult (Build slowdown) part table = HasCosts load_limit part slowdown
HasResult (Stall slowdown) part table = HasCosts stall_limit part slowdown
HasResult (Demo size) part table = ⊥
HasResult (Run slowdown fill) part table = HasShortRun Lines part slowdown table
HasResult (Wave slowdown fill) part table = HasShortRun Dump part slowdown table
HasResult Unwave part table = IsReadable part
HasResult (Sim fill) part table = IsSimulable part table

-- the input is told, within the limit, and one for which the job has a result
pub record IsAccepted (command : Command) (left : Option (List ℕ)) : Type 0 where
  pub bytes : List ℕ
  pub told : left ≡ Some bytes
  pub few : length bytes ≤ input_limit
  pub part : List ℕ
  pub table : List (List (List ℕ))
  pub cut : AreParts (takes_whole command) bytes part table
  pub result : HasResult command part table
