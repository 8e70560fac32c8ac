-- All words of the ports of a run.
use Rattle.std.specs.Prelude.{◌≡◌, ℕ, ◌+◌, List, ◌++◌, length}
use Rattle.ae_sttype.specs.StTree.{StTree}
use Rattle.ae_netlist.specs.Circuit.{Circuit}
use Rattle.ae_netlist.specs.Runs.{Clock}
use Rattle.ae_netlist.specs.Rows.{IsRunWith, filled}
use Rattle.ae_play.specs.Fed.{clock_row, fed_rows}
use Rattle.ae_play.specs.Lines.{clock_count, shown_words}
use Rattle.ae_play.specs.Sums.{words_until}

-- the words of the first clocks: in each what stands on the inputs, and then what the outputs show
abbrev pub port_words : (given shown : ℕ → List ℕ) → (count : ℕ) → List ℕ
port_words given shown n = words_until (λ c. given c ++ shown c) n

-- the words of the run of a circuit that begins with the fill and takes blocks
pub record ArePlayedWords (n : Circuit) (slowdown latency fill : ℕ) (ins : List StTree) (blocks : List (List (List ℕ)))
    (words : List ℕ) : Type 0 where
  pub run : List Clock
  pub runs : IsRunWith n.cells (fed_rows slowdown fill ins blocks (clock_count slowdown latency (length blocks)))
      (filled n.cells fill) run
  pub are : words ≡ port_words (clock_row slowdown fill ins blocks) (λ c. shown_words n.outlets run (1 + c))
      (clock_count slowdown latency (length blocks))
