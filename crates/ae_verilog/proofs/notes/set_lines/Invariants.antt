use Rattle.std.proofs.Common.{◌≡◌, ℕ, ◌<◌, ◌≤◌, get_or}
use Rattle.ae_verilog.proofs.notes.set_lines.Given as goal

-- what is set so far, and what stands as it was
abbrev pub invariant-loop-k : goal.invariant-loop-k
invariant-loop-k l =
    ((j : ℕ) → l.from ≤ j → j < l.k → get_or l.lines j 0 ≡ l.line)
    × ((j : ℕ) → j < l.from → get_or l.lines j 0 ≡ get_or l.fn.lines j 0)
    × ((j : ℕ) → l.k ≤ j → get_or l.lines j 0 ≡ get_or l.fn.lines j 0)
