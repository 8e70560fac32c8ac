-- The cells and products of a scan.
use Rattle.std.proofs.Common.{ℕ, suc, ◌≡◌, ◌+◌, ◌-◌, ◌*◌, ◌^◌, ◌%◌, ◌≤◌, nat_lt, if◌then◌else◌, Bool, true, false, Option, arith, sym, ap, ◌∙◌}
use Rattle.std.proofs.Math.Nat.{mul-add, mul_assoc, mul_comm, mul-le-mul_right, mul-sub, suc-mul}
use Rattle.std.proofs.lemmas.Nat.{mod-mul-add}
use Rattle.ae_word.specs.declared.op.WordOp.{WordOp}
use Rattle.ae_netlist.specs.Circuit.{Circuit}
use Rattle.ae_netlist.specs.Counts.{is_product}
use Rattle.ae_gates.specs.Cells.{Adds}
use Rattle.ae_clocked.specs.Rings.{rings}
use Rattle.ae_gates.proofs.Adding.{adds_trans}
use Rattle.ae_fold.specs.declared.plan.Plan.{Plan}
use Rattle.ae_fold.specs.declared.marks.SlotMark.{SlotMark}
use Rattle.ae_fold.specs.Feedback.{AddsStores}
use Rattle.ae_fold.specs.Folding.{product_of}
use Rattle.ae_fold.specs.Rows.{loop_memories, marks_in, wait_of}
use Rattle.ae_fold.proofs.Storing.{stores_is, stores_of, stores_trans}
use Rattle.ae_scan.specs.Scans.{scan_cells, scan_products, sweep_joins}

-- of the mark, the sweep and the loops together
pub scan_adds : (a b c d : Circuit) (plan : Plan) (mark : Option SlotMark) (p n from : ℕ) → marks_in mark ≡ wait_of plan.slots → n ≡ plan.lanes * plan.stride
    → from ≡ (plan.lanes - 1) * plan.stride → Adds a b (wait_of plan.slots * 33) 0
    → Adds b c (plan.levels * (plan.lanes * plan.stride * 9)) (sweep_joins plan.lanes plan.stride plan.levels * p)
    → AddsStores c d (marks_in mark * (plan.stride * (plan.inner + 9) + from * 10)) (marks_in mark * (n * p)) (marks_in mark * (plan.stride * rings plan.inner))
    → AddsStores a d (scan_cells plan) (scan_products plan p) (loop_memories plan)
scan_adds a b c d plan mark p n from w long begin x y z =
    let cells : marks_in mark * (plan.stride * (plan.inner + 9) + from * 10) ≡ wait_of
    plan.slots * (plan.stride * (plan.inner + 9) + (plan.lanes - 1) * plan.stride * 10) =
    ap (λ k. marks_in mark * (plan.stride * (plan.inner + 9) + k * 10)) begin ∙
    ap (λ k. k * (plan.stride * (plan.inner + 9) + (plan.lanes - 1) * plan.stride * 10)) w in
    let muls : marks_in mark * (n * p) ≡ wait_of plan.slots * (plan.lanes * plan.stride * p) = ap (λ k. marks_in mark * (k * p)) long ∙
    ap (λ k. k * (plan.lanes * plan.stride * p)) w in
    let stores : marks_in mark * (plan.stride * rings plan.inner) ≡ loop_memories plan = ap (λ k. k * (plan.stride * rings plan.inner)) w in
    stores_is (omega arith) (omega arith) (omega arith) (stores_trans (stores_of (adds_trans x y)) z)

cells_by : (b : Bool) (lanes levels stride inner latency : ℕ) → 1 ≤ lanes → 1 ≤ stride
    → (if b then 1 else 0) * 33 + levels * (lanes * stride * 9) + (if
    b then 1 else 0) * (stride * (inner + 9) + (lanes - 1) * stride * 10) ≤ 16 * (1 + latency + stride * (lanes * (1 + 2 * levels) + (if
    b then 3 * lanes + inner else 0)))
cells_by true lanes levels stride inner latency some placed =
    let ls : ℕ = lanes * stride in
    let k : ℕ = levels * ls in
    let e1 : levels * (ls * 9) ≡ k * 9 = sym (mul_assoc levels ls 9) in
    let e2 : stride * (inner + 9) ≡ stride * inner + stride * 9 = mul-add stride inner 9 in
    let e3 : (lanes - 1) * stride ≤ ls = mul-le-mul_right stride (let n : lanes - 1 ≤ lanes = omega arith in n) in
    let e4 : stride * (lanes * (1 + 2 * levels) + (3 * lanes + inner)) ≡ stride * (lanes * (1 + 2 * levels)) + stride * (3 * lanes + inner) = mul-add stride
    (lanes * (1 + 2 * levels)) (3 * lanes + inner) in
    let e5 : stride * (3 * lanes + inner) ≡ stride * (3 * lanes) + stride * inner = mul-add stride (3 * lanes) inner in
    let e6 : stride * (3 * lanes) ≡ 3 * lanes * stride = mul_comm stride (3 * lanes) in
    let e7 : 3 * lanes * stride ≡ 3 * ls = mul_assoc 3 lanes stride in
    let e8 : stride * (lanes * (1 + 2 * levels)) ≡ stride * lanes * (1 + 2 * levels) = sym (mul_assoc stride lanes (1 + 2 * levels)) in
    let e9 : stride * lanes ≡ ls = mul_comm stride lanes in
    let e10 : stride * lanes * (1 + 2 * levels) ≡ ls * (1 + 2 * levels) = ap (λ n. n * (1 + 2 * levels)) e9 in
    let e11 : ls * (1 + 2 * levels) ≡ ls * 1 + ls * (2 * levels) = mul-add ls 1 (2 * levels) in
    let e12 : ls * (2 * levels) ≡ 2 * levels * ls = mul_comm ls (2 * levels) in
    let e13 : 2 * levels * ls ≡ 2 * k = mul_assoc 2 levels ls in
    let one : 1 * (stride * (inner + 9) + (lanes - 1) * stride * 10) ≡ stride * (inner + 9) + (lanes - 1) * stride * 10 = omega arith in
    let least : 1 * stride ≤ ls = mul-le-mul_right stride some in
    omega arith
cells_by false lanes levels stride inner latency some placed =
    let ls : ℕ = lanes * stride in
    let k : ℕ = levels * ls in
    let e1 : levels * (ls * 9) ≡ k * 9 = sym (mul_assoc levels ls 9) in
    let e4 : stride * (lanes * (1 + 2 * levels) + 0) ≡ stride * (lanes * (1 + 2 * levels)) + stride * 0 = mul-add stride (lanes * (1 + 2 * levels)) 0 in
    let e8 : stride * (lanes * (1 + 2 * levels)) ≡ stride * lanes * (1 + 2 * levels) = sym (mul_assoc stride lanes (1 + 2 * levels)) in
    let e9 : stride * lanes ≡ ls = mul_comm stride lanes in
    let e10 : stride * lanes * (1 + 2 * levels) ≡ ls * (1 + 2 * levels) = ap (λ n. n * (1 + 2 * levels)) e9 in
    let e11 : ls * (1 + 2 * levels) ≡ ls * 1 + ls * (2 * levels) = mul-add ls 1 (2 * levels) in
    let e12 : ls * (2 * levels) ≡ 2 * levels * ls = mul_comm ls (2 * levels) in
    let e13 : 2 * levels * ls ≡ 2 * k = mul_assoc 2 levels ls in
    let none : 0 * (stride * (inner + 9) + (lanes - 1) * stride * 10) ≡ 0 = omega arith in
    let least : 1 * stride ≤ ls = mul-le-mul_right stride some in
    omega arith

-- within the bound of the part
pub cells_bound : (slots lanes levels stride inner latency : ℕ) → 1 ≤ lanes → 1 ≤ stride
    → wait_of slots * 33 + levels * (lanes * stride * 9) + wait_of
    slots * (stride * (inner + 9) + (lanes - 1) * stride * 10) ≤ 16 * (1 + latency + stride * (lanes * (1 + 2 * levels) + (if nat_lt 1
    slots then 3 * lanes + inner else 0)))
cells_bound slots lanes levels stride inner latency some placed = cells_by (nat_lt 1 slots) lanes levels stride inner latency some placed

joins_are : (lanes stride levels : ℕ) → sweep_joins lanes stride levels ≡ stride * (levels * lanes - (2 ^ levels - 1))
joins_are lanes stride levels =
    let e1 : stride * (levels * lanes - (2 ^ levels - 1)) ≡ stride * (levels * lanes) - stride * (2 ^ levels - 1) = mul-sub stride (levels * lanes)
    (2 ^ levels - 1) in
    let e2 : stride * (2 ^ levels - 1) ≡ stride * 2 ^ levels - stride * 1 = mul-sub stride (2 ^ levels) 1 in
    let e3 : stride * 2 ^ levels ≡ 2 ^ levels * stride = mul_comm stride (2 ^ levels) in
    let e4 : stride * (levels * lanes) ≡ levels * lanes * stride = mul_comm stride (levels * lanes) in
    let e5 : levels * lanes * stride ≡ levels * (lanes * stride) = mul_assoc levels lanes stride in
    omega arith

products_by : (product more : Bool) (joins lanes stride n : ℕ) → joins ≡ stride * n
    → joins * (if product then 1 else 0) + (if more then 1 else 0) * (lanes * stride * (if product then 1 else 0)) ≡ (if
    product then stride * (n + (if more then lanes else 0)) else 0)
products_by true true joins lanes stride n e =
    let d1 : stride * (n + lanes) ≡ stride * n + stride * lanes = mul-add stride n lanes in
    let d2 : stride * lanes ≡ lanes * stride = mul_comm stride lanes in
    omega arith
products_by true false joins lanes stride n e =
    let d1 : stride * (n + 0) ≡ stride * n + stride * 0 = mul-add stride n 0 in
    let none : 0 * (lanes * stride * 1) ≡ 0 = omega arith in
    omega arith
products_by false more joins lanes stride n e =
    let none : (if more then 1 else 0) * (lanes * stride * 0) ≡ 0 = ap (λ k. (if more then 1 else 0) * k) (let z : lanes * stride * 0 ≡ 0 = omega arith in z) ∙
    omega arith in
    omega arith

pub products_are : (op : WordOp) (slots lanes stride levels : ℕ)
    → sweep_joins lanes stride levels * product_of op + wait_of slots * (lanes * stride * product_of op)
    ≡ (if is_product op then stride * (levels * lanes - (2 ^ levels - 1) + (if nat_lt 1 slots then lanes else 0)) else 0)
products_are op slots lanes stride levels =
    products_by (is_product op) (nat_lt 1 slots) (sweep_joins lanes stride levels) lanes stride (levels * lanes - (2 ^ levels - 1))
    (joins_are lanes stride levels)

-- ---- the last lane

pub last_lane_is : (lanes stride : ℕ) → 1 ≤ lanes → (lanes - 1) * stride + stride ≡ lanes * stride
last_lane_is lanes stride some =
    let e : lanes ≡ suc (lanes - 1) = omega arith in
    sym (ap (λ n. n * stride) e ∙ suc-mul (lanes - 1) stride)

pub last_lane : (lanes stride n : ℕ) → 1 ≤ lanes → n ≡ lanes * stride → n ≡ (lanes - 1) * stride + stride
last_lane lanes stride n some e = e ∙ sym (last_lane_is lanes stride some)

pub whole_lanes : (n stride : ℕ) → 1 ≤ stride → n * stride % stride ≡ 0
whole_lanes n stride pos = let z : n * stride ≡ n * stride + 0 = omega arith in ap (λ k. k % stride) z ∙ mod-mul-add n stride 0 pos

-- the loops have room behind the mark and the sweep
pub loops_room : (plan : Plan) (mark : Option SlotMark) (from : ℕ) → marks_in mark ≡ wait_of plan.slots → from ≡ (plan.lanes - 1) * plan.stride
    → wait_of plan.slots * 33 + plan.levels * (plan.lanes * plan.stride * 9) + marks_in mark * (plan.stride * (plan.inner + 9) + from * 10) ≤ scan_cells plan
loops_room plan mark from w begin =
    let cells : marks_in mark * (plan.stride * (plan.inner + 9) + from * 10) ≡ wait_of
    plan.slots * (plan.stride * (plan.inner + 9) + (plan.lanes - 1) * plan.stride * 10) =
    ap (λ k. marks_in mark * (plan.stride * (plan.inner + 9) + k * 10)) begin ∙
    ap (λ k. k * (plan.stride * (plan.inner + 9) + (plan.lanes - 1) * plan.stride * 10)) w in
    omega arith
