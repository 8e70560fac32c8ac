use Rattle.std.proofs.Common.{◌≡◌, ◌-◌, ◌≤◌, ℕ, List, length, take}
use Rattle.ae_netlist.specs.Runs.{Clock}
use Rattle.ae_sim.specs.Playing.{HasPlayed, Plays}
use Rattle.ae_play.specs.Lines.{shown_words}
use Rattle.ae_play.proofs.stepping.set_words.Given as goal

abbrev pub invariant-loop-k : goal.invariant-loop-k
invariant-loop-k l =
    (length l.words.items ≡ l.k)
    × ((fill : ℕ) (rows : List (List ℕ)) (run : List Clock) → HasPlayed l.fn.sim fill rows → 1 ≤ length rows → Plays l.fn.sim.cells fill rows run
    → l.words.items ≡ take l.k (shown_words l.fn.sim.outlets run (length rows - 1)))
