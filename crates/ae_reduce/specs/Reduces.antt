-- A fold of the elements of each block as a part of a circuit.
use Rattle.std.specs.Prelude.{ℕ, ◌+◌, ◌-◌, ◌*◌, [], ◌∷◌, nat_lt, if◌then◌else◌, get_or}
use Rattle.ae_sttype.specs.StTree.{st_tree, time}
use Rattle.ae_netlist.specs.Counts.{is_product}
use Rattle.ae_clocked.specs.Rings.{rings}
use Rattle.ae_ops.specs.Blocks.{Part, stream_of}
use Rattle.ae_ops.specs.Folds.{log_up}
use Rattle.ae_fold.specs.declared.plan.Plan.{Plan}
use Rattle.ae_fold.specs.Rows.{wait_of}
use Rattle.ae_fold.specs.Shapes.{FoldShape, element_columns, elements_layout, folded}

-- the levels of the tree, and behind them, where there are more slots than one, all but the last slot and one clock
abbrev pub reduce_latency : FoldShape → ℕ
reduce_latency f = log_up f.lanes + (if nat_lt 1 f.slots then (f.slots - 1) * time (st_tree f.element) + 1 else 0)

-- the left fold of the elements of each block, in the layout of one element
abbrev pub reduce_part : FoldShape → Part
reduce_part f = record {
  period = f.period;
  latency = reduce_latency f;
  ins = stream_of (elements_layout f) ∷ [];
  out = stream_of (st_tree f.element);
  means = λ vs. folded f.op (st_tree f.element) (f.slots * f.lanes) (get_or vs 0 []);
  most_cells = 16 * (1 + reduce_latency f + element_columns
      (st_tree f.element) * (2 * f.lanes + (if nat_lt 1 f.slots then time (st_tree f.element) + 2 else 0)));
  products = if is_product f.op then element_columns
      (st_tree f.element) * (f.lanes - 1 + (if nat_lt 1 f.slots then 1 else 0)) else 0;
  most_memories = if nat_lt 1 f.slots then element_columns (st_tree f.element) * rings
      (time (st_tree f.element)) else 0;
}

-- the most cells of its circuit: the mark, the tree and the loops
abbrev pub reduce_cells : Plan → ℕ
reduce_cells plan =
    wait_of plan.slots * 33 + (9 * (plan.lanes * plan.stride) + plan.levels * plan.stride) + wait_of
    plan.slots * (plan.stride * (plan.inner + 9))

-- its products, where an operator has so many
abbrev pub reduce_products : Plan → (products : ℕ) → ℕ
reduce_products plan c = (plan.lanes * plan.stride - plan.stride) * c + wait_of plan.slots * (plan.stride * c)
