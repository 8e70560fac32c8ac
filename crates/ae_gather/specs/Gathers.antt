-- A move between layouts as a part of a circuit: each output word is that of its origin, or it is fixed.
use Rattle.std.specs.Prelude.{◌≡◌, ℕ, ◌+◌, ◌*◌, ◌%◌, ◌≤◌, List, [], length, map, sum_by, Some, slice_get, get_or}
use Rattle.ae_word.specs.AtomTree.{unsigned_word}
use Rattle.ae_sttype.specs.declared.st_type.StType.{StType}
use Rattle.ae_sttype.specs.StTree.{StTree, atom, sseq, st_tree, time, element_words}
use Rattle.ae_sttype.specs.Moves.{OriginTree, from_input, fixed, columns_of, delay_of, held_count, runs_of, steps_of}
use Rattle.ae_ops.specs.Blocks.{Part, stream_of}
use Rattle.ae_moves.specs.Origins.{IsMove, Move, move_trips, move_latency, width_at}
use Rattle.ae_moves.specs.Rings.{mems_of, registers_of}

-- what contracts see of a gather
pub record Layouts : Type 0 where
  pub ins : List StType
  pub out : StType
  pub origins : List OriginTree

abbrev pub move_of : Layouts → Move
move_of l = record { ins = map st_tree l.ins; out = st_tree l.out; origins = l.origins }

-- a move of so few inputs that all their columns have numbers of 32 bits
pub record IsGather (m : Move) : Type 0 where
  pub move : IsMove m
  pub few : length m.ins ≤ 65536

-- the word of an origin among the words of the inputs
abbrev pub origin_word : List StTree → List (List ℕ) → OriginTree → ℕ
origin_word ins vs (from_input i e j) =
    get_or (get_or vs i []) (e * element_words (get_or ins i (sseq 0 (atom (unsigned_word 1)))) + j) 0
origin_word ins vs (fixed w) = w

-- a move as a part of a circuit
abbrev pub gather_part : Move → Part
gather_part m = record {
  period = time m.out;
  latency = move_latency m;
  ins = map stream_of m.ins;
  out = stream_of m.out;
  means = λ vs. map (origin_word m.ins vs) m.origins;
  most_cells = 16 * (move_latency m + delay_of (move_latency m) (sum_by columns_of m.ins) (move_trips m) + runs_of
      (move_latency m) (columns_of m.out) (move_trips m));
  products = 0;
  most_memories = mems_of (time m.out) (move_latency m) (sum_by columns_of m.ins) (move_trips m);
}

-- the most registers of a move, beside one for each counter and mark that it makes: one for each held column of the inputs, and 7 for each other that is used
abbrev pub move_registers : Move → ℕ
move_registers m = registers_of (time m.out) (move_latency m) (sum_by columns_of m.ins) (move_trips m)

-- the most comparisons, beside one for each counter and mark: one for each step of the columns of the output, and for each held column of the inputs
abbrev pub move_tests : Move → ℕ
move_tests m =
    steps_of (time m.out) (move_latency m) (columns_of m.out) (move_trips m) + held_count (time m.out)
    (move_latency m) (sum_by columns_of m.ins) (move_trips m)

-- the widths of the columns of a layout
abbrev pub AreWidths : StTree → List ℕ → Type 0
AreWidths s widths = (q w : ℕ) → slice_get widths q ≡ Some w → width_at s (q % element_words s) ≡ Some w
