-- The block law through delays, and from part to part.
use Rattle.std.proofs.Common.{ℕ, ◌≡◌, ◌+◌, ◌*◌, ◌<◌, ◌≤◌, List, [], ◌∷◌, length, arith, ap, ◌∙◌, subst}
use Rattle.ae_ops.specs.Waves.{Wave, IsLateWave}
use Rattle.ae_ops.specs.Blocks.{Stream, Part, BlockLaw, AllAreWords, AllHold, HoldsWords}
use Rattle.ae_lower.specs.Parts.{plain_part, IsWithin, AllKeep, all_of}

-- a stream of words, some clocks later
late_holds : (clocks t k slack : ℕ) (s : Stream) (wave late : Wave) (ws : List ℕ) → IsWithin t s → IsLateWave clocks slack wave late → k + slack + t ≤ clocks
    → HoldsWords k s wave ws → HoldsWords (k + slack) s late ws
late_holds clocks t k slack s wave late ws within shift ends holds e j w at lt =
    let below : w.clock < t = within.clocks e w at in
    let place : k + slack + w.clock ≡ k + w.clock + slack = omega arith in
    let room : k + w.clock + slack < clocks = omega arith in
    ap (λ c. late c (w.lane * length s.widths + j)) place ∙ (shift (k + w.clock) (w.lane * length s.widths + j) room ∙ holds e j w at lt)

pub delayed : (clocks a t d slack : ℕ) (ins : List Stream) (out : Stream) (means : List (List ℕ) → List ℕ) (waves : List Wave) (wave late : Wave)
    → IsWithin t out → IsLateWave clocks slack wave late → BlockLaw clocks a (plain_part t d ins out means) waves wave
    → BlockLaw clocks a (plain_part t (d + slack) ins out means) waves late
delayed clocks a t d slack ins out means waves wave late within shift law = record {
  makes = λ b vs ends words holds.
      let next : (b + 1) * t ≡ b * t + t = omega arith in
      let early : a + d + (b + 1) * t ≤ clocks = omega arith in
      let made = law.makes b vs early words holds in
      let room : a + d + b * t + slack + t ≤ clocks = omega (arith, next) in
      let place : a + d + b * t + slack ≡ a + (d + slack) + b * t = omega arith in
      let P : ℕ → Type 0 = λ k. HoldsWords k out late (means vs) in
      subst P place (late_holds clocks t (a + d + b * t) slack out wave late (means vs) within shift room made);
}

-- all arguments of a block are held where their parts start
args_hold : (clocks a t d b : ℕ) (ins : List Stream) (waves : List Wave) (vs : List (List ℕ)) → a + d + (b + 1) * t ≤ clocks → AllAreWords ins vs
    → AllHold (a + b * t) ins waves vs
    → (ss : List Stream) (ms : List (List (List ℕ) → List ℕ)) (ws : List Wave) → AllKeep clocks a t d ins waves ss ms ws
    → AllHold (a + d + b * t) ss ws (all_of ms vs)
args_hold clocks a t d b ins waves vs ends words holds [] [] [] keep = tt
args_hold clocks a t d b ins waves vs ends words holds [] [] (w ∷ ws) keep = absurd keep
args_hold clocks a t d b ins waves vs ends words holds [] (m ∷ ms) ws keep = absurd keep
args_hold clocks a t d b ins waves vs ends words holds (s ∷ ss) [] ws keep = absurd keep
args_hold clocks a t d b ins waves vs ends words holds (s ∷ ss) (m ∷ ms) [] keep = absurd keep
args_hold clocks a t d b ins waves vs ends words holds (s ∷ ss) (m ∷ ms) (w ∷ ws) keep =
    (keep.0.makes b vs ends words holds, args_hold clocks a t d b ins waves vs ends words holds ss ms ws keep.1)

pub followed : (clocks a start : ℕ) (p : Part) (ins : List Stream) (waves : List Wave) (ms : List (List (List ℕ) → List ℕ)) (args : List Wave) (out : Wave)
    → ((vs : List (List ℕ)) → AllAreWords ins vs → AllAreWords p.ins (all_of ms vs))
    → AllKeep clocks a p.period start ins waves p.ins ms args → BlockLaw clocks (a + start) p args out
    → BlockLaw clocks a (plain_part p.period (start + p.latency) ins p.out (λ vs. p.means (all_of ms vs))) waves out
followed clocks a start p ins waves ms args out typed keep law = record {
  makes = λ b vs ends words holds.
      let all : a + start + p.latency + (b + 1) * p.period ≤ clocks = omega arith in
      let early : a + start + (b + 1) * p.period ≤ clocks = omega arith in
      let given = args_hold clocks a p.period start b ins waves vs early words holds p.ins ms args keep in
      let made = law.makes b (all_of ms vs) all (typed vs words) given in
      let place : a + start + p.latency + b * p.period ≡ a + (start + p.latency) + b * p.period = omega arith in
      let P : ℕ → Type 0 = λ k. HoldsWords k p.out out (p.means (all_of ms vs)) in
      subst P place made;
}
