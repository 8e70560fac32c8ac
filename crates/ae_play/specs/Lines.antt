-- What is written of a run: a line for each clock after reset.
use Rattle.std.specs.Prelude.{◌≡◌, ℕ, zero, suc, ◌+◌, ◌-◌, ◌*◌, ◌%◌, Bool, ◌&&◌, nat_eq, nat_le, if◌then◌else◌, List, [], ◌∷◌, ◌++◌, length, map, flat_map}
use Rattle.std.specs.Fmt.{decimal}
use Rattle.std.specs.List.{list_any}
use Rattle.ae_sttype.specs.declared.st_type.Slot.{Slot}
use Rattle.ae_sttype.specs.StTree.{StTree}
use Rattle.ae_sttype.specs.Slots.{slots}
use Rattle.ae_netlist.specs.declared.cell.Outlet.{Outlet}
use Rattle.ae_netlist.specs.Circuit.{Circuit}
use Rattle.ae_netlist.specs.Runs.{Clock, word_at}
use Rattle.ae_netlist.specs.Rows.{IsRunWith, filled}
use Rattle.ae_play.specs.Fed.{fed_rows}

-- how many clocks are shown: none without blocks
abbrev pub clock_count : (slowdown latency blocks : ℕ) → ℕ
clock_count slowdown latency zero = 0
clock_count slowdown latency (suc b) = latency + suc b * slowdown

-- whether an element of the result stands in the clock
abbrev pub stands : (slowdown latency clock : ℕ) → StTree → Bool
stands slowdown latency c s =
    nat_le latency c && list_any (λ (w : Slot). nat_eq w.clock ((c - latency) % slowdown)) (slots s)

-- `v` where one does, and `.` elsewhere
abbrev pub mark : (slowdown latency clock : ℕ) → StTree → ℕ
mark slowdown latency c s = if stands slowdown latency c s then 118 else 46

-- each word with a space before it
abbrev pub spaced : List ℕ → List ℕ
spaced ws = flat_map (λ w. 32 ∷ decimal w) ws

-- a clock's number, a mark for each result, and the words of all outputs
abbrev pub clock_line : (slowdown latency : ℕ) → List StTree → (clock : ℕ) → (words : List ℕ) → List ℕ
clock_line slowdown latency outputs c ws =
    ((decimal c ++ (32 ∷ map (mark slowdown latency c) outputs)) ++ spaced ws) ++ 10 ∷ []

-- the first lines, where clock c shows these words
abbrev pub clock_lines : (slowdown latency : ℕ) → List StTree → (words : ℕ → List ℕ) → (count : ℕ) → List ℕ
clock_lines slowdown latency outputs shown zero = []
clock_lines slowdown latency outputs shown (suc c) =
    clock_lines slowdown latency outputs shown c ++ clock_line slowdown latency outputs c (shown c)

-- the words of outputs in a clock of a run
abbrev pub shown_words : List Outlet → List Clock → ℕ → List ℕ
shown_words outlets run t = map (λ (o : Outlet). word_at run t o.net.0) outlets

-- the lines of the run of a circuit that begins with the fill and takes blocks
pub record IsPlayedText (n : Circuit) (slowdown latency fill : ℕ) (ins outs : List StTree)
    (blocks : List (List (List ℕ))) (text : List ℕ) : Type 0 where
  pub run : List Clock
  pub runs : IsRunWith n.cells (fed_rows slowdown fill ins blocks (clock_count slowdown latency (length blocks)))
      (filled n.cells fill) run
  pub lines : text ≡ clock_lines slowdown latency outs (λ c. shown_words n.outlets run (1 + c))
      (clock_count slowdown latency (length blocks))
