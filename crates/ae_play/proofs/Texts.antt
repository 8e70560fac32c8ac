-- What is written of the run on blocks, summed of it and kept of it.
use Rattle.std.proofs.Common.{ℕ, ◌≡◌, ◌+◌, List, [], ◌++◌, length, ap, sym, ◌∙◌, subst}
use Rattle.ae_sttype.specs.StTree.{StTree}
use Rattle.ae_netlist.specs.Circuit.{Circuit}
use Rattle.ae_netlist.specs.Rows.{IsRunWith, filled}
use Rattle.ae_netlist.specs.Runs.{Clock}
use Rattle.ae_play.specs.Fed.{clock_row, fed_rows}
use Rattle.ae_play.specs.Keeps.{Keeps}
use Rattle.ae_play.specs.Lines.{IsPlayedText, clock_count, clock_line, clock_lines, shown_words}
use Rattle.ae_play.specs.Sums.{ArePlayedSums, AreSums, all_stand}
use Rattle.ae_play.specs.WordSums.{AreWithClock}
use Rattle.ae_play.specs.Words.{ArePlayedWords, port_words}
use Rattle.ae_play.specs.declared.sums.Sums.{Sums}
use Rattle.ae_play.proofs.PortWords.{words_kept}
use Rattle.ae_play.proofs.Summing.{none_summed, sums_kept}
use Rattle.ae_play.proofs.WordLines.{lines_kept}

-- a run on blocks for so many clocks, and what is kept of it
abbrev KeptOfRun : {K : Type 0} → (n : Circuit) (slowdown fill : ℕ) (ins : List StTree) (blocks : List (List (List ℕ))) (count : ℕ)
    (takes : ℕ → List ℕ → List ℕ → K → K → Type 0) (first last : K) → Type 0
KeptOfRun n slowdown fill ins blocks count takes first last =
    (run : List Clock) × IsRunWith n.cells (fed_rows slowdown fill ins blocks count) (filled n.cells fill) run
    × Keeps takes (clock_row slowdown fill ins blocks) (λ c. shown_words n.outlets run (1 + c)) first count last

-- as many clocks as the blocks need
whole_count : (slowdown latency count number : ℕ) (blocks : List (List (List ℕ))) → length blocks ≡ number → count ≡ clock_count slowdown latency number
    → count ≡ clock_count slowdown latency (length blocks)
whole_count slowdown latency count number blocks long counted = counted ∙ ap (clock_count slowdown latency) (sym long)

pub text_played : {K : Type 0} (content : K → List ℕ) (n : Circuit) (slowdown latency fill : ℕ) (ins outs : List StTree) (blocks : List (List (List ℕ)))
    (number count : ℕ) (first last : K)
    → length blocks ≡ number → count ≡ clock_count slowdown latency number
    → KeptOfRun n slowdown fill ins blocks count (λ c r ws old new. content new ≡ content old ++ clock_line slowdown latency outs c ws) first last
    → (text : List ℕ) × (content last ≡ content first ++ text) × IsPlayedText n slowdown latency fill ins outs blocks text
text_played content n slowdown latency fill ins outs blocks number count first last long counted k =
    let whole = whole_count slowdown latency count number blocks long counted in
    let shown : ℕ → List ℕ = λ c. shown_words n.outlets k.0 (1 + c) in (
      clock_lines slowdown latency outs shown count,
      lines_kept content slowdown latency outs (clock_row slowdown fill ins blocks) shown first count last k.2,
      record {
        run = k.0;
        runs = subst (λ c. IsRunWith n.cells (fed_rows slowdown fill ins blocks c) (filled n.cells fill) k.0) whole k.1;
        lines = ap (clock_lines slowdown latency outs shown) whole;
      },
    )

pub sums_played : (n : Circuit) (slowdown latency fill : ℕ) (ins outs : List StTree) (blocks : List (List (List ℕ))) (number count : ℕ) (sums : Sums)
    → length blocks ≡ number → count ≡ clock_count slowdown latency number
    → KeptOfRun n slowdown fill ins blocks count (λ c r ws old new. AreWithClock (all_stand slowdown latency outs c) ws old new)
    (record { valid = 0; valid_sum = 0; whole_sum = 0 }) sums
    → ArePlayedSums n slowdown latency fill ins outs blocks sums
sums_played n slowdown latency fill ins outs blocks number count sums long counted k =
    let whole = whole_count slowdown latency count number blocks long counted in
    let shown : ℕ → List ℕ = λ c. shown_words n.outlets k.0 (1 + c) in
    record {
      run = k.0;
      runs = subst (λ c. IsRunWith n.cells (fed_rows slowdown fill ins blocks c) (filled n.cells fill) k.0) whole k.1;
      are =
          subst (λ c. AreSums slowdown latency outs shown c sums) whole
          (sums_kept slowdown latency outs (clock_row slowdown fill ins blocks) shown (record { valid = 0; valid_sum = 0; whole_sum = 0 }) count sums k.2
          (none_summed slowdown latency outs shown));
    }

pub words_played : {K : Type 0} (content : K → List ℕ) (n : Circuit) (slowdown latency fill : ℕ) (ins : List StTree) (blocks : List (List (List ℕ)))
    (number count : ℕ) (first last : K)
    → content first ≡ [] → length blocks ≡ number → count ≡ clock_count slowdown latency number
    → KeptOfRun n slowdown fill ins blocks count (λ c r ws old new. content new ≡ (content old ++ r) ++ ws) first last
    → ArePlayedWords n slowdown latency fill ins blocks (content last)
words_played content n slowdown latency fill ins blocks number count first last none long counted k =
    let whole = whole_count slowdown latency count number blocks long counted in
    let row : ℕ → List ℕ = clock_row slowdown fill ins blocks in
    let shown : ℕ → List ℕ = λ c. shown_words n.outlets k.0 (1 + c) in
    record {
      run = k.0;
      runs = subst (λ c. IsRunWith n.cells (fed_rows slowdown fill ins blocks c) (filled n.cells fill) k.0) whole k.1;
      are = words_kept content row shown first count last k.2 ∙ ap (λ x. x ++ port_words row shown count) none ∙ ap (port_words row shown) whole;
    }
