-- The cells and products of a fold.
use Rattle.std.proofs.Common.{ℕ, ◌≡◌, ◌+◌, ◌-◌, ◌*◌, ◌≤◌, nat_lt, if◌then◌else◌, Bool, true, false, Option, arith, ap, ◌∙◌}
use Rattle.std.proofs.Math.Nat.{mul-add, mul_assoc, mul_comm, mul-le-mul_right, mul-sub}
use Rattle.ae_word.specs.declared.op.WordOp.{WordOp}
use Rattle.ae_netlist.specs.Circuit.{Circuit}
use Rattle.ae_netlist.specs.Counts.{is_product}
use Rattle.ae_gates.specs.Cells.{Adds}
use Rattle.ae_clocked.specs.Rings.{rings}
use Rattle.ae_gates.proofs.Adding.{adds_trans}
use Rattle.ae_fold.specs.declared.plan.Plan.{Plan}
use Rattle.ae_fold.specs.declared.marks.SlotMark.{SlotMark}
use Rattle.ae_fold.specs.Feedback.{AddsStores}
use Rattle.ae_fold.specs.Folding.{product_of}
use Rattle.ae_fold.specs.Rows.{loop_memories, marks_in, wait_of}
use Rattle.ae_fold.proofs.Storing.{stores_is, stores_of, stores_trans}
use Rattle.ae_reduce.specs.Reduces.{reduce_cells, reduce_products}

-- of the mark, the tree and the loops together
pub reduce_adds : (a b c d : Circuit) (plan : Plan) (mark : Option SlotMark) (p n : ℕ) → marks_in mark ≡ wait_of plan.slots → n ≡ plan.stride
    → Adds a b (wait_of plan.slots * 33) 0
    → Adds b c (9 * (plan.lanes * plan.stride) + plan.levels * plan.stride) ((plan.lanes * plan.stride - plan.stride) * p)
    → AddsStores c d (marks_in mark * (plan.stride * (plan.inner + 9) + 0 * 10)) (marks_in mark * (n * p)) (marks_in mark * (plan.stride * rings plan.inner))
    → AddsStores a d (reduce_cells plan) (reduce_products plan p) (loop_memories plan)
reduce_adds a b c d plan mark p n w long x y z =
    let s : plan.stride * (plan.inner + 9) + 0 * 10 ≡ plan.stride * (plan.inner + 9) = omega arith in
    let cells : marks_in mark * (plan.stride * (plan.inner + 9) + 0 * 10) ≡ wait_of plan.slots * (plan.stride * (plan.inner + 9)) = ap
    (λ k. marks_in mark * k) s ∙ ap (λ k. k * (plan.stride * (plan.inner + 9))) w in
    let muls : marks_in mark * (n * p) ≡ wait_of plan.slots * (plan.stride * p) = ap (λ k. marks_in mark * (k * p)) long ∙ ap (λ k. k * (plan.stride * p)) w in
    let stores : marks_in mark * (plan.stride * rings plan.inner) ≡ loop_memories plan = ap (λ k. k * (plan.stride * rings plan.inner)) w in
    stores_is (omega arith) (omega arith) (omega arith) (stores_trans (stores_of (adds_trans x y)) z)

cells_by : (b : Bool) (lanes levels stride inner latency : ℕ) → 1 ≤ lanes → 1 ≤ stride → levels ≤ lanes
    → (if b then 1 else 0) * 33 + (9 * (lanes * stride) + levels * stride) + (if
    b then 1 else 0) * (stride * (inner + 9)) ≤ 16 * (1 + latency + stride * (2 * lanes + (if b then inner + 2 else 0)))
cells_by true lanes levels stride inner latency some placed l =
    let least : 1 * stride ≤ lanes * stride = mul-le-mul_right stride some in
    let up : levels * stride ≤ lanes * stride = mul-le-mul_right stride l in
    let d1 : stride * (2 * lanes + (inner + 2)) ≡ stride * (2 * lanes) + stride * (inner + 2) = mul-add stride (2 * lanes) (inner + 2) in
    let d2 : stride * (inner + 2) ≡ stride * inner + stride * 2 = mul-add stride inner 2 in
    let d3 : stride * (inner + 9) ≡ stride * inner + stride * 9 = mul-add stride inner 9 in
    let d4 : stride * (2 * lanes) ≡ 2 * lanes * stride = mul_comm stride (2 * lanes) in
    let d5 : 2 * lanes * stride ≡ 2 * (lanes * stride) = mul_assoc 2 lanes stride in
    let one : 1 * (stride * (inner + 9)) ≡ stride * (inner + 9) = omega arith in
    omega arith
cells_by false lanes levels stride inner latency some placed l =
    let least : 1 * stride ≤ lanes * stride = mul-le-mul_right stride some in
    let up : levels * stride ≤ lanes * stride = mul-le-mul_right stride l in
    let d1 : stride * (2 * lanes + 0) ≡ stride * (2 * lanes) + stride * 0 = mul-add stride (2 * lanes) 0 in
    let d4 : stride * (2 * lanes) ≡ 2 * lanes * stride = mul_comm stride (2 * lanes) in
    let d5 : 2 * lanes * stride ≡ 2 * (lanes * stride) = mul_assoc 2 lanes stride in
    let none : 0 * (stride * (inner + 9)) ≡ 0 = omega arith in
    omega arith

-- within the bound of the part
pub cells_bound : (slots lanes levels stride inner latency : ℕ) → 1 ≤ lanes → 1 ≤ stride → levels ≤ lanes
    → wait_of slots * 33 + (9 * (lanes * stride) + levels * stride) + wait_of
    slots * (stride * (inner + 9)) ≤ 16 * (1 + latency + stride * (2 * lanes + (if nat_lt 1 slots then inner + 2 else 0)))
cells_bound slots lanes levels stride inner latency some placed l = cells_by (nat_lt 1 slots) lanes levels stride inner latency some placed l

products_by : (product more : Bool) (lanes stride : ℕ) → 1 ≤ lanes
    → (lanes * stride - stride) * (if product then 1 else 0) + (if more then 1 else 0) * (stride * (if product then 1 else 0)) ≡ (if
    product then stride * (lanes - 1 + (if more then 1 else 0)) else 0)
products_by true true lanes stride some =
    let d1 : stride * (lanes - 1 + 1) ≡ stride * (lanes - 1) + stride * 1 = mul-add stride (lanes - 1) 1 in
    let d2 : stride * (lanes - 1) ≡ stride * lanes - stride * 1 = mul-sub stride lanes 1 in
    let d3 : stride * lanes ≡ lanes * stride = mul_comm stride lanes in
    let least : 1 * stride ≤ lanes * stride = mul-le-mul_right stride some in
    omega arith
products_by true false lanes stride some =
    let d1 : stride * (lanes - 1 + 0) ≡ stride * (lanes - 1) + stride * 0 = mul-add stride (lanes - 1) 0 in
    let d2 : stride * (lanes - 1) ≡ stride * lanes - stride * 1 = mul-sub stride lanes 1 in
    let d3 : stride * lanes ≡ lanes * stride = mul_comm stride lanes in
    let none : 0 * (stride * 1) ≡ 0 = omega arith in
    omega arith
products_by false more lanes stride some =
    let none : (if more then 1 else 0) * (stride * 0) ≡ 0 = ap (λ k. (if more then 1 else 0) * k) (let z : stride * 0 ≡ 0 = omega arith in z) ∙ omega arith in
    omega arith

pub products_are : (op : WordOp) (slots lanes stride : ℕ) → 1 ≤ lanes
    → (lanes * stride - stride) * product_of op + wait_of
    slots * (stride * product_of op) ≡ (if is_product op then stride * (lanes - 1 + (if nat_lt 1 slots then 1 else 0)) else 0)
products_are op slots lanes stride some = products_by (is_product op) (nat_lt 1 slots) lanes stride some
