-- One part behind another keeps the law of both.
use Rattle.std.proofs.Common.{ℕ, ◌≡◌, ◌+◌, List, [], ◌∷◌, refl, sym}
use Rattle.ae_netlist.specs.declared.cell.NetId.{NetId}
use Rattle.ae_netlist.specs.declared.cell.SizedCell.{SizedCell}
use Rattle.ae_netlist.specs.Circuit.{Extends}
use Rattle.ae_netlist.proofs.Growing.{extends_trans}
use Rattle.ae_ops.specs.Waves.{Wave, wave_of}
use Rattle.ae_ops.specs.Blocks.{Part, BlockLaw, AllAreWords, KeepsLaw, Stream}
use Rattle.ae_lower.specs.Parts.{AllKeep, part_behind}
use Rattle.ae_lower.proofs.Following.{followed}
use Rattle.ae_lower.proofs.Placing.{law_as}

-- the one argument
keeps_one : (clocks a : ℕ) (p q : Part) (ss : List Stream) (waves : List Wave) (w : Wave) → ss ≡ p.out ∷ [] → q.period ≡ p.period → BlockLaw clocks a p waves w
    → AllKeep clocks a q.period p.latency p.ins waves ss (p.means ∷ []) (w ∷ [])
keeps_one clocks a p q ss waves w follows period law =
    rw follows (law_as clocks a q.period p.latency p.ins p.out p.means p waves w (sym period) refl refl refl (λ vs h. refl) law, tt)

behind_blocks : (clocks a : ℕ) (p q : Part) (waves : List Wave) (w out : Wave) → q.ins ≡ p.out ∷ [] → q.period ≡ p.period
    → ((vs : List (List ℕ)) → AllAreWords p.ins vs → AllAreWords (p.out ∷ []) (p.means vs ∷ []))
    → BlockLaw clocks a p waves w → BlockLaw clocks (a + p.latency) q (w ∷ []) out → BlockLaw clocks a (part_behind p q) waves out
behind_blocks clocks a p q waves w out follows period typed first second =
    let made = followed clocks a p.latency q p.ins waves (p.means ∷ []) (w ∷ []) out (λ vs h. rw follows (typed vs h))
    (keeps_one clocks a p q q.ins waves w follows period first) second in
    record { makes = made.makes }

pub behind_law : (y : List NetId) (mid new : List SizedCell) (rst rst_then at late : ℕ) (p q : Part) (args bundles : List (List NetId))
    (raw : List NetId)
    → Extends mid new → rst_then ≡ rst → late ≡ at + p.latency → bundles ≡ raw ∷ [] → q.ins ≡ p.out ∷ [] → q.period ≡ p.period
    → ((vs : List (List ℕ)) → AllAreWords p.ins vs → AllAreWords (p.out ∷ []) (p.means vs ∷ []))
    → KeepsLaw mid rst at p args raw → KeepsLaw new rst_then late q bundles y → KeepsLaw new rst at (part_behind p q) args y
behind_law y mid new rst rst_then at late p q args bundles raw up er el eb follows period typed first second =
    let then : KeepsLaw new rst (at + p.latency) q (raw ∷ []) y = rw (er, el, eb) at second in
    λ all e run r start reset. behind_blocks _ at p q _ (wave_of run start raw) (wave_of run start y) follows period typed
    (first all (extends_trans up e) run r start reset) (then all e run r start reset)
