-- How a call of the compiler may go.
use Rattle.std.specs.Prelude.{◌≡◌, ℕ, ◌+◌, ◌≤◌, List, length, Option}
use Rattle.ae_io.specs.Counts.{Rose, Same, raised}
use Rattle.ae_io.specs.Told.{Appends, AppendsPrefix, TakesCount}
use Rattle.ae_io.specs.Transfer.{TakesAll}
use Rattle.ae_jobs.specs.declared.status.Status.{Status}
use Rattle.ae_jobs.specs.declared.status.Status.TheVariants.{Ok, Usage, ReadFault, WriteFault, TooLong, Memory}
use Rattle.ae_tool.specs.declared.command.Command.{Command}
use Rattle.ae_tool.specs.declared.command.Command.TheVariants.{Demo}
use Rattle.ae_tool.specs.Commands.{IsCommand, NamesNone, TakesInput}
use Rattle.ae_jobs.specs.Refusals.{refusal_line}
use Rattle.ae_jobs.specs.DemoTexts.{IsDemoText}
use Rattle.ae_tool.specs.Outcomes.{input_limit, IsDone}

-- what is seen of a source: the bytes left, where they are told, and its count of faults
pub record SourceView : Type 0 where
  pub left : Option (List ℕ)
  pub faults : ℕ

-- what is seen of a sink: the bytes written, where they are told, and its counts
pub record SinkView : Type 0 where
  pub written : Option (List ℕ)
  pub faults : ℕ
  pub wants : ℕ
  pub ends : ℕ

-- a text was ended, once, and the sink met nothing on the way
pub record IsEnded (old new : SinkView) : Type 0 where
  pub once : new.ends ≡ raised old.ends
  pub no_fault : Same old.faults new.faults
  pub no_want : Same old.wants new.wants

-- a text was written and ended, and the call answers its status; or the sink took a first part of it alone
pub data Puts (text : List ℕ) (status result : Status) (old new : SinkView) : Type 0 where
  Whole : result ≡ status → Appends old.written new.written text → IsEnded old new → Puts text status result old new
  Failing : result ≡ WriteFault → AppendsPrefix old.written new.written text → Rose old.faults new.faults
      → Puts text status result old new
  Wanting : result ≡ Memory → AppendsPrefix old.written new.written text → Rose old.wants new.wants
      → Puts text status result old new

-- the line of a refusal
abbrev pub Refuses : (status result : Status) (old new : SinkView) → Type 0
Refuses status = Puts (refusal_line status) status

-- a demo was written, or there was no memory for it
pub data IsMade (size : ℕ) (result : Status) (old new : SinkView) : Type 0 where
  Demo_whole : (text : List ℕ) → IsDemoText size text → Puts text Ok result old new → IsMade size result old new
  Demo_none : Refuses Memory result old new → IsMade size result old new

-- how a call may go: the words name no job, or a demo; the input failed, is too long or was read whole; or memory ran out
pub data Answers (words : List (List ℕ)) (result : Status) (source source' : SourceView)
    (sink sink' : SinkView) : Type 0 where
  No_job : NamesNone words → source' ≡ source → Refuses Usage result sink sink'
      → Answers words result source source' sink sink'
  Made : (size : ℕ) → IsCommand words (Demo size) → source' ≡ source → IsMade size result sink sink'
      → Answers words result source source' sink sink'
  Unread : (command : Command) → IsCommand words command → TakesInput command → Rose source.faults source'.faults
      → Refuses ReadFault result sink sink' → Answers words result source source' sink sink'
  Past_limit : (command : Command) → IsCommand words command → TakesInput command
      → TakesCount source.left source'.left (input_limit + 1) → Refuses TooLong result sink sink'
      → Answers words result source source' sink sink'
  Done : (command : Command) → IsCommand words command → TakesInput command → (bytes text : List ℕ) (status : Status)
      → TakesAll source.left source'.left bytes → length bytes ≤ input_limit
      → IsDone command bytes status text → Puts text status result sink sink'
      → Answers words result source source' sink sink'
  No_room : (command : Command) → IsCommand words command → TakesInput command → Refuses Memory result sink sink'
      → Answers words result source source' sink sink'
