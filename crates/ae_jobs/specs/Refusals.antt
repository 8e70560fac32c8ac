-- The lines that refusals write.
use Rattle.std.specs.Prelude.{ℕ, List, [], ◌∷◌, ◌++◌, codes}
use Rattle.std.specs.Fmt.{decimal}
use Rattle.ae_jobs.specs.declared.status.Status.{Status}
use Rattle.ae_jobs.specs.declared.status.Status.TheVariants.{Ok, Usage, BadLine, BadType, TooLarge, NoSchedule, BadWords, BadModule, LongRun, ReadFault, WriteFault, TooLong, Memory, BadWave, NotMoves}
use Rattle.ae_jobs.specs.declared.status.VFaultKind.{VFaultKind}
use Rattle.ae_jobs.specs.declared.status.VFaultKind.TheVariants.{BadToken, BadHeader, BadItem, Unknown, Twice, Kind, Undriven, Width, Loop, Large}

-- a text and a number
abbrev pub text_and_number : List ℕ → ℕ → List ℕ
text_and_number text n = text ++ decimal n

-- what is wrong with a module
abbrev pub fault_text : VFaultKind → List ℕ
fault_text (BadToken at) = text_and_number (codes "token ") at
fault_text BadHeader = codes "header"
fault_text (BadItem item) = text_and_number (codes "item ") item
fault_text (Unknown item) = text_and_number (codes "unknown item ") item
fault_text (Twice item) = text_and_number (codes "twice item ") item
fault_text (Kind item) = text_and_number (codes "kind item ") item
fault_text (Undriven net) = text_and_number (codes "undriven net ") net
fault_text (Width item) = text_and_number (codes "width item ") item
fault_text (Loop net) = text_and_number (codes "loop net ") net
fault_text Large = codes "large"

-- what a status refuses, and why
abbrev pub refusal_text : Status → List ℕ
refusal_text Ok = []
refusal_text Usage = codes "usage"
refusal_text (BadLine line) = text_and_number (codes "bad line ") line
refusal_text (BadType line) = text_and_number (codes "bad type line ") line
refusal_text (TooLarge line) = text_and_number (codes "too large line ") line
refusal_text (NoSchedule line) = text_and_number (codes "no schedule line ") line
refusal_text (BadWords row column) =
    text_and_number (codes "bad words row ") row ++ text_and_number (codes " column ") column
refusal_text (BadModule fault) = codes "bad module " ++ fault_text fault
refusal_text (LongRun size) = text_and_number (codes "long run ") size
refusal_text ReadFault = codes "read fault"
refusal_text WriteFault = []
refusal_text TooLong = codes "too long"
refusal_text Memory = codes "memory"
refusal_text (BadWave at) = text_and_number (codes "bad wave word ") at
refusal_text (NotMoves line) = text_and_number (codes "not moves line ") line

-- the line of a refusal
abbrev pub refusal_line : Status → List ℕ
refusal_line status = codes "refused " ++ refusal_text status ++ 10 ∷ []
