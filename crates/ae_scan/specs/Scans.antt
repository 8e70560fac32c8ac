-- The prefix folds of the elements of each block as a part of a circuit.
use Rattle.std.specs.Prelude.{ℕ, ◌+◌, ◌-◌, ◌*◌, ◌^◌, [], ◌∷◌, nat_lt, if◌then◌else◌, get_or}
use Rattle.ae_sttype.specs.StTree.{st_tree, time}
use Rattle.ae_netlist.specs.Counts.{is_product}
use Rattle.ae_clocked.specs.Rings.{rings}
use Rattle.ae_ops.specs.Blocks.{Part, stream_of}
use Rattle.ae_ops.specs.Folds.{log_up}
use Rattle.ae_fold.specs.declared.plan.Plan.{Plan}
use Rattle.ae_fold.specs.Rows.{wait_of}
use Rattle.ae_fold.specs.Shapes.{FoldShape, element_columns, elements_layout, scanned}

-- the levels of the sweep, and one clock where there are more slots than one
abbrev pub scan_latency : FoldShape → ℕ
scan_latency f = log_up f.lanes + (if nat_lt 1 f.slots then 1 else 0)

-- the left folds of elements 0 to i of each block, for each element i, in the layout of the elements
abbrev pub scan_part : FoldShape → Part
scan_part f = record {
  period = f.period;
  latency = scan_latency f;
  ins = stream_of (elements_layout f) ∷ [];
  out = stream_of (elements_layout f);
  means = λ vs. scanned f.op (st_tree f.element) (f.slots * f.lanes) (get_or vs 0 []);
  most_cells = 16 * (1 + scan_latency f + element_columns
      (st_tree f.element) * (f.lanes * (1 + 2 * log_up f.lanes) + (if nat_lt 1 f.slots then 3 * f.lanes + time
      (st_tree f.element) else 0)));
  products = if is_product f.op then element_columns
      (st_tree f.element) * (log_up f.lanes * f.lanes - (2 ^ log_up f.lanes - 1) + (if nat_lt 1
      f.slots then f.lanes else 0)) else 0;
  most_memories = if nat_lt 1 f.slots then element_columns (st_tree f.element) * rings
      (time (st_tree f.element)) else 0;
}

-- how many words a sweep combines
abbrev pub sweep_joins : (lanes stride levels : ℕ) → ℕ
sweep_joins lanes stride levels = levels * (lanes * stride) - (2 ^ levels * stride - stride)

-- the most cells of its circuit: the mark, the sweep, the loops and what goes on from them
abbrev pub scan_cells : Plan → ℕ
scan_cells plan =
    wait_of plan.slots * 33 + plan.levels * (plan.lanes * plan.stride * 9) + wait_of
    plan.slots * (plan.stride * (plan.inner + 9) + (plan.lanes - 1) * plan.stride * 10)

-- its products, where an operator has so many
abbrev pub scan_products : Plan → (products : ℕ) → ℕ
scan_products plan c =
    sweep_joins plan.lanes plan.stride plan.levels * c + wait_of plan.slots * (plan.lanes * plan.stride * c)
