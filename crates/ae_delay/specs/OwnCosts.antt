-- What a node costs by itself, apart from the delays before it.
use Rattle.std.specs.Prelude.{ℕ, zero, suc, ◌+◌, ◌-◌, ◌*◌, ◌/◌, ◌^◌, nat_lt, nat_le, List, if◌then◌else◌, slice_get, unwrap_or}
use Rattle.ae_word.specs.declared.op.WordOp.{WordOp}
use Rattle.ae_word.specs.WordTable.{latency_of, row_of}
use Rattle.ae_sttype.specs.StTree.{StTree, atom, tseq, sseq, time}
use Rattle.ae_sttype.specs.Moves.{columns_of}
use Rattle.ae_moves.specs.Rings.{rings}
use Rattle.ae_rewrite.specs.declared.st_program.MoveOp.TheVariants.{Same}
use Rattle.ae_rewrite.specs.StProgramTree.{StOpTree, word, join, first, second, fixed, move, fold, scan, body}
use Rattle.ae_delay.specs.declared.moves.MoveCosts.{MoveCosts}
use Rattle.ae_delay.specs.declared.own.OwnCosts.{OwnCosts}
use Rattle.ae_delay.specs.Moving.{op_move, constant_move, costs_of_move}

-- the least number from l on whose power of two is at least n, of so many; l and as many more where none of these is
unfoldable pub least_power : (n l more : ℕ) → ℕ
least_power n l zero = l
least_power n l (suc more) = if nat_le n (2 ^ l) then l else least_power n (l + 1) more

-- the logarithm to base two, rounded up, of at most 4,096: the levels of a tree with n leaves
unfoldable pub log_up : (n : ℕ) → ℕ
log_up n = least_power n 0 13

-- the clocks of an outer slot
abbrev pub inner_time : StTree → ℕ
inner_time (tseq n i t) = time t
inner_time (sseq n t) = 1
inner_time (atom a) = 1

-- a number where there is more than one outer slot, and where the operator multiplies
abbrev pub where_many : (slots n : ℕ) → ℕ
where_many slots n = if nat_lt 1 slots then n else 0

abbrev pub where_mul : WordOp → (n : ℕ) → ℕ
where_mul op n = if (row_of op).multiplies then n else 0

abbrev pub word_costs : WordOp → OwnCosts
word_costs op = record { latency = latency_of op; load = 1 + latency_of op; muls = where_mul op 1; mems = 0 }

-- wires only
abbrev pub wire_costs : OwnCosts
wire_costs = record { latency = 0; load = 1; muls = 0; mems = 0 }

abbrev pub constant_costs : MoveCosts → OwnCosts
constant_costs m = record { latency = 0; load = 1 + m.runs; muls = 0; mems = 0 }

abbrev pub moved_costs : MoveCosts → OwnCosts
moved_costs m = record { latency = m.latency; load = 1 + m.latency + m.delay + m.runs; muls = 0; mems = m.mems }

-- a tree of the lanes, a register that goes over the outer slots, and the move to the node's layout
abbrev pub fold_latency : (slots lanes : ℕ) (raw : StTree) → MoveCosts → ℕ
fold_latency slots lanes raw m = log_up lanes + where_many slots ((slots - 1) * inner_time raw + 1) + m.latency

abbrev pub fold_costs : WordOp → (slots lanes : ℕ) (raw : StTree) → MoveCosts → OwnCosts
fold_costs op slots lanes raw m = record {
  latency = fold_latency slots lanes raw m;
  load = 1 + fold_latency slots lanes raw m + columns_of
      raw * (2 * lanes + where_many slots (inner_time raw + 2)) + m.delay + m.runs;
  muls = where_mul op (columns_of raw * (lanes - 1 + where_many slots 1));
  mems = m.mems + where_many slots (columns_of raw * rings (inner_time raw));
}

-- the levels of the lanes, and one for the outer slots before
abbrev pub scan_latency : (slots lanes : ℕ) → ℕ
scan_latency slots lanes = log_up lanes + where_many slots 1

-- the columns of one lane of a scan
abbrev pub scan_columns : (lanes : ℕ) (out : StTree) → ℕ
scan_columns lanes s = columns_of s / lanes

abbrev pub scan_costs : WordOp → (slots lanes : ℕ) (out : StTree) → OwnCosts
scan_costs op slots lanes s = record {
  latency = scan_latency slots lanes;
  load = 1 + scan_latency slots lanes + scan_columns lanes
      s * (lanes * (1 + 2 * log_up lanes) + where_many slots (3 * lanes + inner_time s));
  muls = where_mul op (scan_columns lanes s * (log_up lanes * lanes - (2 ^ log_up lanes - 1) + where_many slots lanes));
  mems = where_many slots (scan_columns lanes s * rings (inner_time s));
}

-- so many copies of an instance
abbrev pub body_costs : (copies : ℕ) → OwnCosts → OwnCosts
body_costs copies f =
    record { latency = f.latency; load = 1 + copies * f.load; muls = copies * f.muls; mems = copies * f.mems }

-- an operator on an argument of this layout, by the costs of the instances before
abbrev pub op_costs : (known : List OwnCosts) (arg out : StTree) (copies : ℕ) → StOpTree → OwnCosts
op_costs known a s copies (word op) = word_costs op
op_costs known a s copies join = wire_costs
op_costs known a s copies first = wire_costs
op_costs known a s copies second = wire_costs
op_costs known a s copies (fixed ws) = constant_costs (costs_of_move (constant_move ws s))
op_costs known a s copies (move how) = moved_costs (costs_of_move (op_move how a s))
op_costs known a s copies (fold op slots lanes raw) = fold_costs op slots lanes raw (costs_of_move (op_move Same raw s))
op_costs known a s copies (scan op slots lanes) = scan_costs op slots lanes s
op_costs known a s copies (body k) = body_costs copies (unwrap_or (slice_get known k) wire_costs)
