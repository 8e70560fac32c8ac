use Rattle.std.proofs.Common.{length, ◌-◌, ◌≡◌, ◌≤◌, ◌<◌, ◌+◌, ℕ, List, drop}
use Rattle.ae_vtoken.specs.Tokens.{after_gap, Opened, InBlock}
use Rattle.ae_vtoken.proofs.gaps.block_end.Given as goal

-- the comment goes on at i
abbrev pub invariant-block : goal.invariant-block
invariant-block l =
    (l.from < l.i) × (l.i ≤ length l.text) × ((slash : List ℕ)
    → after_gap (Opened slash) (drop (l.from + 1) l.text) ≡ after_gap (InBlock slash) (drop l.i l.text))

abbrev pub decreases-block : goal.decreases-block
decreases-block l = length l.text - l.i
