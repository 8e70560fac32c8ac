-- A written module weighs at most 1, and 4 for each cell and each output.
use Rattle.std.proofs.Common.{ℕ, ◌+◌, ◌-◌, ◌*◌, ◌≤◌, Bool, true, false, nat_lt, List, [], ◌∷◌, ◌++◌, length, arith}
use Rattle.std.specs.Prelude.{map, sum_by, if◌then◌else◌}
use Rattle.std.proofs.lemmas.List.{length-append, length-map}
use Rattle.std.proofs.lemmas.List.Sums.{sum_by-append, sum_by-cons}
use Rattle.ae_word.specs.declared.op.WordOp.{WordOp}
use Rattle.ae_word.specs.declared.op.WordOp.TheVariants.{Add, Sub, Mul, And, Or, Xor, Not, Min, Max, Eq, Lt, Mux, Shl, Shr, Cast, SLt, SMin, SMax, Sar, SCast}
use Rattle.ae_netlist.specs.declared.cell.Cell.{Cell}
use Rattle.ae_netlist.specs.declared.cell.Cell.TheVariants.{Input, Const, Op, Reg, Mem, Peek}
use Rattle.ae_netlist.specs.declared.cell.SizedCell.{SizedCell}
use Rattle.ae_netlist.specs.declared.cell.Outlet.{Outlet}
use Rattle.ae_netlist.specs.Circuit.{operand, width_of}
use Rattle.ae_vmodule.specs.ModuleTree.{ExprTree, part, binary, constant, ItemTree}
use Rattle.ae_vmodule.specs.declared.module.BinOp.TheVariants.{Shl as LeftBy, Shr as RightBy}
use Rattle.ae_judge.specs.Weight.{expr_weight, item_weight, weight}
use Rattle.ae_verilog.specs.NetlistModule.{net_name, input_nets, output_net, declared_nets, each_numbered, inputs_of, declared_from, net_value, op_expression, declaration, assignment, edge, netlist_module}

one_of : (b : Bool) (x y : ExprTree) → expr_weight x ≤ 2 → expr_weight y ≤ 2 → expr_weight (if b then x else y) ≤ 2
one_of true x y p q = p
one_of false x y p q = q

module _ (lines : ℕ → ℕ) (cells : List SizedCell) where
  value_light : (width : ℕ) (op : WordOp) (a b c : ℕ) → expr_weight (op_expression lines cells width op a b c) ≤ 2
  value_light width Add a b c = omega arith
  value_light width Sub a b c = omega arith
  value_light width Mul a b c = omega arith
  value_light width And a b c = omega arith
  value_light width Or a b c = omega arith
  value_light width Xor a b c = omega arith
  value_light width Not a b c = omega arith
  value_light width Min a b c = omega arith
  value_light width Max a b c = omega arith
  value_light width Eq a b c = omega arith
  value_light width Lt a b c = omega arith
  value_light width Mux a b c = omega arith
  value_light width (Shl by) a b c = one_of (nat_lt by width) (binary LeftBy (net_value lines cells a) (constant 6 by true)) (constant width 0 true)
      (omega arith) (omega arith)
  value_light width (Shr by) a b c = one_of (nat_lt by width) (binary RightBy (net_value lines cells a) (constant 6 by true)) (constant width 0 true)
      (omega arith) (omega arith)
  value_light width (Cast to) a b c = one_of (nat_lt to (width_of cells a)) (part (net_name lines cells a) (to - 1) 0) (net_value lines cells a) (omega arith)
      (omega arith)
  value_light width SLt a b c = omega arith
  value_light width SMin a b c = omega arith
  value_light width SMax a b c = omega arith
  value_light width (Sar by) a b c = omega arith
  value_light width (SCast to) a b c = omega arith

  abbrev declare : ℕ → SizedCell → List ItemTree
  declare k x = declaration lines cells k x.width x.cell

  abbrev change : ℕ → SizedCell → List ItemTree
  change k x = edge lines cells k x.cell

  cell_light : (item k width : ℕ) (cell : Cell) → length
      (input_nets width cell) + (length (declared_nets lines item k width cell) + (sum_by item_weight
      (declaration lines cells k width cell) + sum_by item_weight (edge lines cells k cell))) ≤ 4
  cell_light item k width (Input port) = omega arith
  cell_light item k width (Const v) = omega arith
  cell_light item k width (Op op args) = let r = value_light width op (operand args 0) (operand args 1) (operand args 2) in omega arith
  cell_light item k width (Reg next) = omega arith
  cell_light item k width (Mem depth at next enable) = omega arith
  cell_light item k width (Peek mem at) = omega arith

  cells_light : (item k : ℕ) (xs : List SizedCell) → length
      (each_numbered (λ net (sized : SizedCell). input_nets sized.width sized.cell) k xs) + (length
      (declared_from lines item k xs) + (sum_by item_weight (each_numbered declare k xs) + sum_by item_weight (each_numbered change k xs))) ≤ 4 * length xs
  cells_light item k [] = omega arith
  cells_light item k (x ∷ xs) =
      let one = cell_light item k x.width x.cell in
      let rest = cells_light (item + length (declared_nets lines item k x.width x.cell)) (k + 1) xs in
      let a = length-append (input_nets x.width x.cell) (each_numbered (λ net (sized : SizedCell). input_nets sized.width sized.cell) (k + 1) xs) in
      let b = length-append (declared_nets lines item k x.width x.cell)
      (declared_from lines (item + length (declared_nets lines item k x.width x.cell)) (k + 1) xs) in
      let c = sum_by-append item_weight (declare k x) (each_numbered declare (k + 1) xs) in
      let d = sum_by-append item_weight (change k x) (each_numbered change (k + 1) xs) in
      omega arith

  outputs_light : (outs : ℕ) (os : List Outlet) → sum_by item_weight (map (assignment lines cells outs) os) ≤ length os
  outputs_light outs [] = omega arith
  outputs_light outs (o ∷ os) = let r = outputs_light outs os in
      let e = sum_by-cons item_weight (assignment lines cells outs o) (map (assignment lines cells outs) os) in omega arith

  pub light : (outlets : List Outlet) (outs : ℕ) → weight (netlist_module lines cells outlets outs) ≤ 1 + 4 * length cells + 4 * length outlets
  light outlets outs =
      let all = cells_light 1 0 cells in
      let shown = outputs_light outs outlets in
      let a = length-append (inputs_of cells) (map (output_net cells outs) outlets ++ declared_from lines 1 0 cells) in
      let b = length-append (map (output_net cells outs) outlets) (declared_from lines 1 0 cells) in
      let c = length-map outlets (output_net cells outs) in
      let d = sum_by-append item_weight (each_numbered declare 0 cells) (map (assignment lines cells outs) outlets ++ each_numbered change 0 cells) in
      let e = sum_by-append item_weight (map (assignment lines cells outs) outlets) (each_numbered change 0 cells) in
      omega arith
