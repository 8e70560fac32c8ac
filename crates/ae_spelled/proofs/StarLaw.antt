-- A netlist's module has one `*` for each cell that multiplies.
use Rattle.std.proofs.Common.{◌≡◌, ℕ, ◌+◌, ◌-◌, List, [], ◌∷◌, ◌++◌, map, Bool, true, false, refl, sym, ap, ◌∙◌, arith}
use Rattle.std.specs.Prelude.{sum_by, nat_lt, if◌then◌else◌}
use Rattle.std.proofs.lemmas.List.Sums.{sum_by-append}
use Rattle.ae_word.specs.declared.op.WordOp.{WordOp}
use Rattle.ae_word.specs.declared.op.WordOp.TheVariants.{Add, Sub, Mul, And, Or, Xor, Not, Min, Max, Eq, Lt, Mux, Shl, Shr, Cast, SLt, SMin, SMax, Sar, SCast}
use Rattle.ae_netlist.specs.declared.cell.Cell.{Cell}
use Rattle.ae_netlist.specs.declared.cell.Cell.TheVariants.{Input, Const, Op, Reg, Mem, Peek}
use Rattle.ae_netlist.specs.declared.cell.SizedCell.{SizedCell}
use Rattle.ae_netlist.specs.declared.cell.Outlet.{Outlet}
use Rattle.ae_netlist.specs.Circuit.{operand, width_of}
use Rattle.ae_netlist.specs.Counts.{count_of, is_mul, is_product}
use Rattle.ae_vmodule.specs.ModuleTree.{constant, part, binary, ItemTree}
use Rattle.ae_vmodule.specs.declared.module.BinOp.{BinOp}
use Rattle.ae_vmodule.specs.declared.module.BinOp.TheVariants.{Shl as LeftBy, Shr as RightBy}
use Rattle.ae_vread.specs.Spells.{star, expr_stars, item_stars, stars}
use Rattle.ae_verilog.specs.NetlistModule.{net_name, net_value, shifted_net, cast_to, op_expression, each_numbered, declaration, assignment, edge, netlist_module}

abbrev one_for : Bool → ℕ
one_for t = if t then 1 else 0

shifted_stars : (lines : ℕ → ℕ) → (cells : List SizedCell) (op : BinOp) (width a by : ℕ) → star op ≡ 0 → expr_stars (shifted_net lines cells op width a by) ≡ 0
shifted_stars lines cells op width a by h =
    elim (nat_lt by width) as (λ t. expr_stars (if t then binary op (net_value lines cells a) (constant 6 by true) else constant width 0 true) ≡ 0) [
      | true ↦ ap (λ n. n + 0) h
      | false ↦ refl
    ]

cast_stars : (lines : ℕ → ℕ) → (cells : List SizedCell) (to a : ℕ) → expr_stars (cast_to lines cells to a) ≡ 0
cast_stars lines cells to a =
    elim (nat_lt to (width_of cells a)) as (λ t. expr_stars (if t then part (net_name lines cells a) (to - 1) 0 else net_value lines cells a) ≡ 0) [
      | true ↦ refl
      | false ↦ refl
    ]

op_stars : (lines : ℕ → ℕ) → (cells : List SizedCell) (width : ℕ) (op : WordOp) (a b c : ℕ)
    → expr_stars (op_expression lines cells width op a b c) ≡ one_for (is_product op)
op_stars lines cells width Add a b c = refl
op_stars lines cells width Sub a b c = refl
op_stars lines cells width Mul a b c = refl
op_stars lines cells width And a b c = refl
op_stars lines cells width Or a b c = refl
op_stars lines cells width Xor a b c = refl
op_stars lines cells width Not a b c = refl
op_stars lines cells width Min a b c = refl
op_stars lines cells width Max a b c = refl
op_stars lines cells width Eq a b c = refl
op_stars lines cells width Lt a b c = refl
op_stars lines cells width Mux a b c = refl
op_stars lines cells width (Shl by) a b c = shifted_stars lines cells LeftBy width a by refl
op_stars lines cells width (Shr by) a b c = shifted_stars lines cells RightBy width a by refl
op_stars lines cells width (Cast to) a b c = cast_stars lines cells to a
op_stars lines cells width SLt a b c = refl
op_stars lines cells width SMin a b c = refl
op_stars lines cells width SMax a b c = refl
op_stars lines cells width (Sar by) a b c = refl
op_stars lines cells width (SCast to) a b c = refl

declaration_stars : (lines : ℕ → ℕ) → (cells : List SizedCell) (net width : ℕ) (cell : Cell)
    → sum_by item_stars (declaration lines cells net width cell) ≡ one_for (is_mul cell)
declaration_stars lines cells net width (Input port) = refl
declaration_stars lines cells net width (Const k) = refl
declaration_stars lines cells net width (Op op args) =
    alone (expr_stars (op_expression lines cells width op (operand args 0) (operand args 1) (operand args 2)))
    ∙ op_stars lines cells width op (operand args 0) (operand args 1) (operand args 2)
  where
    alone : (n : ℕ) → 0 + (0 + n) ≡ n
    alone n = omega arith
declaration_stars lines cells net width (Reg next) = refl
declaration_stars lines cells net width (Mem depth at next enable) = refl
declaration_stars lines cells net width (Peek mem at) = refl

sum_both : (a b : List ItemTree) → sum_by item_stars (a ++ b) ≡ sum_by item_stars a + sum_by item_stars b
sum_both a b = sum_by-append item_stars a b

count_more : (sized : SizedCell) (xs : List SizedCell) → count_of is_mul (sized ∷ xs) ≡ one_for (is_mul sized.cell) + count_of is_mul xs
count_more sized xs =
    sum_by-append (λ (s : SizedCell). one_for (is_mul s.cell)) (sized ∷ []) xs
    ∙ ap (λ n. n + count_of is_mul xs) (let e : 0 + one_for (is_mul sized.cell) ≡ one_for (is_mul sized.cell) = omega arith in e)

declared_stars : (lines : ℕ → ℕ) → (cells : List SizedCell) (k : ℕ) (xs : List SizedCell)
    → sum_by item_stars (each_numbered (λ net (sized : SizedCell). declaration lines cells net sized.width sized.cell) k xs) ≡ count_of is_mul xs
declared_stars lines cells k [] = refl
declared_stars lines cells k (sized ∷ xs) =
    sum_both (declaration lines cells k sized.width sized.cell)
    (each_numbered (λ net (sized : SizedCell). declaration lines cells net sized.width sized.cell) (k + 1) xs)
    ∙ ap (λ n. n + sum_by item_stars (each_numbered (λ net (sized : SizedCell). declaration lines cells net sized.width sized.cell) (k + 1) xs))
    (declaration_stars lines cells k sized.width sized.cell)
    ∙ ap (λ n. one_for (is_mul sized.cell) + n) (declared_stars lines cells (k + 1) xs)
    ∙ sym (count_more sized xs)

assigned_stars : (lines : ℕ → ℕ) → (cells : List SizedCell) (outs : ℕ) (outlets : List Outlet)
    → sum_by item_stars (map (assignment lines cells outs) outlets) ≡ 0
assigned_stars lines cells outs [] = refl
assigned_stars lines cells outs (o ∷ outlets) =
    sum_by-append item_stars (assignment lines cells outs o ∷ []) (map (assignment lines cells outs) outlets)
    ∙ (let later = assigned_stars lines cells outs outlets in
    let e : 0 + sum_by item_stars (map (assignment lines cells outs) outlets) ≡ 0 = omega (arith, later) in e)

edge_stars : (lines : ℕ → ℕ) → (cells : List SizedCell) (net : ℕ) (cell : Cell) → sum_by item_stars (edge lines cells net cell) ≡ 0
edge_stars lines cells net (Input port) = refl
edge_stars lines cells net (Const k) = refl
edge_stars lines cells net (Op op args) = refl
edge_stars lines cells net (Reg next) = refl
edge_stars lines cells net (Mem depth at next enable) = refl
edge_stars lines cells net (Peek mem at) = refl

edges_stars : (lines : ℕ → ℕ) → (cells : List SizedCell) (k : ℕ) (xs : List SizedCell)
    → sum_by item_stars (each_numbered (λ net (sized : SizedCell). edge lines cells net sized.cell) k xs) ≡ 0
edges_stars lines cells k [] = refl
edges_stars lines cells k (sized ∷ xs) =
    sum_both (edge lines cells k sized.cell) (each_numbered (λ net (sized : SizedCell). edge lines cells net sized.cell) (k + 1) xs)
    ∙ (let here = edge_stars lines cells k sized.cell in let later = edges_stars lines cells (k + 1) xs in omega (arith, here, later))

pub one_star_each : (lines : ℕ → ℕ) → (cells : List SizedCell) (outlets : List Outlet) (outs : ℕ)
    → stars (netlist_module lines cells outlets outs) ≡ count_of is_mul cells
one_star_each lines cells outlets outs =
    let declared : List ItemTree = each_numbered (λ net (sized : SizedCell). declaration lines cells net sized.width sized.cell) 0 cells in
    let assigned : List ItemTree = map (assignment lines cells outs) outlets in
    let edges : List ItemTree = each_numbered (λ net (sized : SizedCell). edge lines cells net sized.cell) 0 cells in
    let one = sum_both declared (assigned ++ edges) in
    let two = sum_both assigned edges in
    let a = declared_stars lines cells 0 cells in
    let b = assigned_stars lines cells outs outlets in
    let c = edges_stars lines cells 0 cells in
    omega (arith, one, two, a, b, c)
