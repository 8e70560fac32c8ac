-- Parts of a lowered program, by what is known of their blocks, and how parts are put together.
use Rattle.std.specs.Prelude.{◌≡◌, ℕ, ◌+◌, ◌*◌, ◌<◌, List, [], ◌∷◌, map, flat_map, slice_get, Some}
use Rattle.std.specs.List.{range_with_len}
use Rattle.ae_sttype.specs.declared.st_type.Slot.{Slot}
use Rattle.ae_sttype.specs.StTree.{StTree, time}
use Rattle.ae_sttype.specs.Moves.{columns_of}
use Rattle.ae_ops.specs.Waves.{Wave}
use Rattle.ae_flow.specs.Flow.{pieces}
use Rattle.ae_ops.specs.Blocks.{Stream, Part, BlockLaw}

-- a part of which only the law counts
abbrev pub plain_part : (period latency : ℕ) → List Stream → Stream → (List (List ℕ) → List ℕ) → Part
plain_part period latency ins out means = record {
  period = period;
  latency = latency;
  ins = ins;
  out = out;
  means = means;
  most_cells = 0;
  products = 0;
  most_memories = 0;
}

-- the columns of a wave from one on
abbrev pub from_column : (first : ℕ) → Wave → Wave
from_column first wave = λ c q. wave c (first + q)

-- the waves of lane block j of elements of these layouts
abbrev pub lane_waves : (j : ℕ) → List StTree → List Wave → List Wave
lane_waves j [] ws = []
lane_waves j (x ∷ xs) [] = []
lane_waves j (x ∷ xs) (w ∷ ws) = from_column (j * columns_of x) w ∷ lane_waves j xs ws

-- each element stands within so many clocks
pub record IsWithin (period : ℕ) (s : Stream) : Type 0 where
  pub clocks : (e : ℕ) (w : Slot) → slice_get s.slots e ≡ Some w → w.clock < period

-- waves that keep the law with these meanings of the same inputs, all with one latency
abbrev pub AllKeep : (clocks arrival period latency : ℕ) (ins : List Stream) (waves : List Wave) → List Stream
    → List (List (List ℕ) → List ℕ) → List Wave → Type 0
AllKeep clocks a t d ins waves [] [] [] = Unit {0}
AllKeep clocks a t d ins waves (s ∷ ss) (m ∷ ms) (w ∷ ws) =
    BlockLaw clocks a (plain_part t d ins s m) waves w × AllKeep clocks a t d ins waves ss ms ws
AllKeep clocks a t d ins waves _ _ _ = ⊥

-- the values of meanings
abbrev pub all_of : List (List (List ℕ) → List ℕ) → List (List ℕ) → List (List ℕ)
all_of ms vs = map (λ (m : List (List ℕ) → List ℕ). m vs) ms

-- f on each of n elements
abbrev pub mapped_by : (List (List ℕ) → List ℕ) → List StTree → (n : ℕ) → List (List ℕ) → List ℕ
mapped_by f xs n vs = flat_map (λ e. f (pieces xs e vs)) (range_with_len 0 n)

-- these layouts take so many clocks
abbrev pub AllTake : (clocks : ℕ) → List StTree → Type 0
AllTake clocks [] = Unit {0}
AllTake clocks (x ∷ xs) = (time x ≡ clocks) × AllTake clocks xs

-- one part behind another, whose result is its only argument
abbrev pub part_behind : (first second : Part) → Part
part_behind p q = record {
  period = q.period;
  latency = p.latency + q.latency;
  ins = p.ins;
  out = q.out;
  means = λ vs. q.means (p.means vs ∷ []);
  most_cells = p.most_cells + q.most_cells;
  products = p.products + q.products;
  most_memories = p.most_memories + q.most_memories;
}
