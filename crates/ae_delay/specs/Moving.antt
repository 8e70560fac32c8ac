-- Where a move takes its words, and what it costs.
use Rattle.std.specs.Prelude.{ℕ, ◌+◌, ◌-◌, ◌*◌, ◌/◌, ◌%◌, List, [], ◌∷◌, map, sum_by, nat_lt, if◌then◌else◌}
use Rattle.std.specs.List.{range_with_len}
use Rattle.ae_sttype.specs.StTree.{StTree, time, st_atoms, element_words}
use Rattle.ae_sttype.specs.Moves.{OriginTree, from_input, fixed, columns_of, delay_of, runs_of}
use Rattle.ae_moves.specs.Origins.{Move, move_latency, move_trips}
use Rattle.ae_moves.specs.Rings.{mems_of}
use Rattle.ae_rewrite.specs.declared.st_program.MoveOp.{MoveOp}
use Rattle.ae_rewrite.specs.declared.st_program.MoveOp.TheVariants.{Shift, Up, Select, Same}
use Rattle.ae_delay.specs.declared.moves.MoveCosts.{MoveCosts}

-- the origin of word j of element e of the result, by how many elements the argument and the result have
abbrev pub origin_from : MoveOp → (in_atoms out_atoms e j : ℕ) → OriginTree
origin_from (Shift k) n m e j = if nat_lt e k then fixed 0 else from_input 0 (e - k) j
origin_from (Up c) n m e j = from_input 0 (e % n) j
origin_from (Select k) n m e j = from_input 0 (k * m + e) j
origin_from Same n m e j = from_input 0 e j

-- that of output word o
abbrev pub origin_number : MoveOp → (arg out : StTree) → ℕ → OriginTree
origin_number how a s o = origin_from how (st_atoms a) (st_atoms s) (o / element_words s) (o % element_words s)

-- the move of an operator
abbrev pub op_move : MoveOp → (arg out : StTree) → Move
op_move how a s =
    record {
      ins = a ∷ [];
      out = s;
      origins = map (origin_number how a s)
          (range_with_len 0 (st_atoms s * element_words s));
    }

-- a constant: a move in which every word is fixed
abbrev pub constant_move : (words : List ℕ) → (out : StTree) → Move
constant_move ws s = record { ins = []; out = s; origins = map fixed ws }

-- what a move costs, where blocks follow one another in the clocks of its layout
abbrev pub costs_of_move : Move → MoveCosts
costs_of_move m = record {
  latency = move_latency m;
  delay = delay_of (move_latency m) (sum_by columns_of m.ins) (move_trips m);
  runs = runs_of (move_latency m) (columns_of m.out) (move_trips m);
  mems = mems_of (time m.out) (move_latency m) (sum_by columns_of m.ins) (move_trips m);
}
