-- The words that name a job.
use Rattle.std.specs.Prelude.{◌≡◌, ℕ, ◌<◌, ◌≤◌, ◌^◌, Bool, true, false, List, [], ◌∷◌, map, codes, String, string_bytes}
use Rattle.std.specs.Fmt.{decimal}
use Rattle.std.specs.declared.alloc.Global.{Global}
use Rattle.ae_sttype.specs.Slowdowns.{IsSlowdown}
use Rattle.ae_tool.specs.declared.command.Command.{Command}
use Rattle.ae_tool.specs.declared.command.Command.TheVariants.{Check, Eval, Plan, Cost, Least, Build, Stall, Run, Wave, Unwave, Sim, Demo}

-- the bytes of each word
abbrev pub word_bytes : List (String Global) → List (List ℕ)
word_bytes words = map string_bytes words

-- the first word of a job, and those behind it: numbers in decimal, without leading zeros
abbrev pub job_word : Command → List ℕ
job_word Check = codes "check"
job_word Eval = codes "eval"
job_word (Plan slowdown) = codes "plan"
job_word (Cost slowdown) = codes "cost"
job_word (Least slowdown) = codes "least"
job_word (Build slowdown) = codes "build"
job_word (Stall slowdown) = codes "stall"
job_word (Demo size) = codes "demo"
job_word (Run slowdown fill) = codes "run"
job_word (Wave slowdown fill) = codes "wave"
job_word Unwave = codes "unwave"
job_word (Sim fill) = codes "sim"

abbrev pub number_words : Command → List (List ℕ)
number_words Check = []
number_words Eval = []
number_words (Plan slowdown) = decimal slowdown ∷ []
number_words (Cost slowdown) = decimal slowdown ∷ []
number_words (Least slowdown) = decimal slowdown ∷ []
number_words (Build slowdown) = decimal slowdown ∷ []
number_words (Stall slowdown) = decimal slowdown ∷ []
number_words (Demo size) = decimal size ∷ []
number_words (Run slowdown fill) = decimal slowdown ∷ decimal fill ∷ []
number_words (Wave slowdown fill) = decimal slowdown ∷ decimal fill ∷ []
number_words Unwave = []
number_words (Sim fill) = decimal fill ∷ []

-- a size of demos
abbrev pub IsDemoSize : ℕ → Type 0
IsDemoSize n = (1 ≤ n) × (n ≤ 64)

-- the numbers of a job are within their limits
abbrev pub AreInRange : Command → Type 0
AreInRange (Plan slowdown) = IsSlowdown slowdown
AreInRange (Cost slowdown) = IsSlowdown slowdown
AreInRange (Least slowdown) = IsSlowdown slowdown
AreInRange (Build slowdown) = IsSlowdown slowdown
AreInRange (Stall slowdown) = IsSlowdown slowdown
AreInRange (Demo size) = IsDemoSize size
AreInRange (Run slowdown fill) = IsSlowdown slowdown × (fill < 2 ^ 64)
AreInRange (Wave slowdown fill) = IsSlowdown slowdown × (fill < 2 ^ 64)
AreInRange (Sim fill) = fill < 2 ^ 64
AreInRange _ = Unit {0}

-- the job takes its input: a demo takes nothing
abbrev pub TakesInput : Command → Type 0
TakesInput (Demo size) = ⊥
TakesInput _ = Unit {0}

-- the job takes its input as one part
abbrev pub takes_whole : Command → Bool
takes_whole Unwave = true
takes_whole _ = false

-- the words name this job
abbrev pub IsCommand : (words : List (List ℕ)) → Command → Type 0
IsCommand words command = (words ≡ job_word command ∷ number_words command) × AreInRange command

-- the words name no job
abbrev pub NamesNone : (words : List (List ℕ)) → Type 0
NamesNone words = (command : Command) → IsCommand words command → ⊥
