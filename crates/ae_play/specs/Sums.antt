-- What is summed of a run.
use Rattle.std.specs.Prelude.{◌≡◌, ℕ, ◌+◌, Bool, List, length, flat_map}
use Rattle.std.specs.List.{filter, list_all, range_with_len, sum}
use Rattle.ae_sttype.specs.StTree.{StTree}
use Rattle.ae_netlist.specs.Circuit.{Circuit}
use Rattle.ae_netlist.specs.Runs.{Clock}
use Rattle.ae_netlist.specs.Rows.{IsRunWith, filled}
use Rattle.ae_play.specs.Fed.{fed_rows}
use Rattle.ae_play.specs.Lines.{clock_count, shown_words, stands}
use Rattle.ae_play.specs.declared.sums.Sums.{Sums}

-- whether an element of each result stands in the clock
abbrev pub all_stand : (slowdown latency : ℕ) → List StTree → (clock : ℕ) → Bool
all_stand slowdown latency outputs c = list_all (stands slowdown latency c) outputs

-- the words of the first clocks, where clock c shows these words
abbrev pub words_until : (words : ℕ → List ℕ) → (count : ℕ) → List ℕ
words_until shown n = flat_map shown (range_with_len 0 n)

-- those of the clocks among them in which all results stand
abbrev pub valid_words : (slowdown latency : ℕ) → List StTree → (words : ℕ → List ℕ) → (count : ℕ) → List ℕ
valid_words slowdown latency outputs shown n =
    flat_map shown (filter (all_stand slowdown latency outputs) (range_with_len 0 n))

-- how many words the clocks show in which all results stand, their sum, and the sum of the words of all clocks
pub record AreSums (slowdown latency : ℕ) (outputs : List StTree) (shown : ℕ → List ℕ) (count : ℕ)
    (sums : Sums) : Type 0 where
  pub valid : sums.valid ≡ length (valid_words slowdown latency outputs shown count)
  pub valid_sum : sums.valid_sum ≡ sum (valid_words slowdown latency outputs shown count)
  pub whole_sum : sums.whole_sum ≡ sum (words_until shown count)

-- the sums of the run of a circuit that begins with the fill and takes blocks
pub record ArePlayedSums (n : Circuit) (slowdown latency fill : ℕ) (ins outs : List StTree)
    (blocks : List (List (List ℕ))) (sums : Sums) : Type 0 where
  pub run : List Clock
  pub runs : IsRunWith n.cells (fed_rows slowdown fill ins blocks (clock_count slowdown latency (length blocks)))
      (filled n.cells fill) run
  pub are : AreSums slowdown latency outs (λ c. shown_words n.outlets run (1 + c))
      (clock_count slowdown latency (length blocks)) sums
