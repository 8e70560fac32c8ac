-- What the items of a written module read and assign.
use Rattle.std.proofs.Common.{ℕ, ◌≡◌, ◌-◌, ◌<◌, inl, inr, Bool, true, false, nat_lt, List, [], ◌∷◌, Some, slice_get, take, sym, ◌∙◌, subst}
use Rattle.std.specs.Prelude.{if◌then◌else◌}
use Rattle.ae_word.specs.declared.op.WordOp.{WordOp}
use Rattle.ae_word.specs.declared.op.WordOp.TheVariants.{Add, Sub, Mul, And, Or, Xor, Not, Min, Max, Eq, Lt, Mux, Shl, Shr, Cast, SLt, SMin, SMax, Sar, SCast}
use Rattle.ae_netlist.specs.declared.cell.NetId.{NetId}
use Rattle.ae_netlist.specs.declared.cell.Cell.{Cell}
use Rattle.ae_netlist.specs.declared.cell.Cell.TheVariants.{Input, Const, Op, Reg, Mem, Peek}
use Rattle.ae_netlist.specs.declared.cell.SizedCell.{SizedCell}
use Rattle.ae_netlist.specs.declared.cell.Outlet.{Outlet}
use Rattle.ae_netlist.specs.Circuit as c
use Rattle.ae_netlist.proofs.Gets.{get_from_take, get_take_within}
use Rattle.ae_vmodule.specs.ModuleTree.{ExprTree, binary, constant, part, DriveTree}
use Rattle.ae_vmodule.specs.declared.module.BinOp.TheVariants.{Shl as LeftBy, Shr as RightBy}
use Rattle.ae_judge.specs.Names.{Among, names_in, stmt_reads}
use Rattle.ae_verilog.specs.NetlistModule.{cell_name, net_name, net_value, op_expression}
use Rattle.ae_verilog.specs.Written.{IsWritableNetlist}
use Rattle.ae_spelled.proofs.LawNets.{name_of}
use Rattle.ae_spelled.proofs.LawItems.{cell_drives, cell_edge}
use Rattle.ae_spelled.proofs.LawOf.{written_memory}

module _ (lines : ℕ → ℕ) (cells : List SizedCell) (outlets : List Outlet) (outs : ℕ) (ok : IsWritableNetlist cells outlets outs) where
  -- a name of one of the first k cells
  pub record IsCellBelow (k : ℕ) (n : List ℕ) : Type 0 where
    pub at : ℕ
    pub sized : SizedCell
    pub found : slice_get cells at ≡ Some sized
    pub below : at < k
    pub named : n ≡ cell_name lines at sized.cell

  pub record IsCellName (n : List ℕ) : Type 0 where
    pub at : ℕ
    pub sized : SizedCell
    pub found : slice_get cells at ≡ Some sized
    pub named : n ≡ cell_name lines at sized.cell

  below_net : (k a w : ℕ) (n : List ℕ) → c.IsNet (take k cells) a w → net_name lines cells a ≡ n → IsCellBelow k n
  below_net k a w n h e =
      let there = get_from_take cells k a h.sized h.found in
      record {
        at = a;
        sized = h.sized;
        found = there;
        below = get_take_within cells k a h.sized h.found;
        named = sym e ∙
            name_of lines cells outlets outs a h.sized there;
      }

  below_memory : (k a w d : ℕ) (n : List ℕ) → c.IsMemory (take k cells) a w d → net_name lines cells a ≡ n → IsCellBelow k n
  below_memory k a w d n h e =
      let there = get_from_take cells k a _ h.found in
      record { at = a; sized = _; found = there; below = get_take_within cells k a _ h.found; named = sym e ∙ name_of lines cells outlets outs a _ there }

  pub net_named_cell : (a w : ℕ) (n : List ℕ) → c.IsNet cells a w → net_name lines cells a ≡ n → IsCellName n
  net_named_cell a w n h e = record { at = a; sized = h.sized; found = h.found; named = sym e ∙ name_of lines cells outlets outs a h.sized h.found }

  one_name : (k a w : ℕ) (n : List ℕ) → c.IsNet (take k cells) a w → Among n (net_name lines cells a ∷ []) → IsCellBelow k n
  one_name k a w n h r = elim r [ inl e ↦ below_net k a w n h e | inr none ↦ absurd none ]

  two_names : (k a b u v : ℕ) (n : List ℕ) → c.IsNet (take k cells) a u → c.IsNet (take k cells) b v
      → Among n (net_name lines cells a ∷ net_name lines cells b ∷ []) → IsCellBelow k n
  two_names k a b u v n ha hb r = elim r [ inl e ↦ below_net k a u n ha e | inr l ↦ one_name k b v n hb l ]

  either_one : (k a w : ℕ) (n : List ℕ) (t : Bool) (x y : ExprTree) → c.IsNet (take k cells) a w → (Among n (names_in x) → IsCellBelow k n)
      → (Among n (names_in y) → IsCellBelow k n) → Among n (names_in (if t then x else y)) → IsCellBelow k n
  either_one k a w n true x y h p q r = p r
  either_one k a w n false x y h p q r = q r

  op_reads : (k r : ℕ) (op : WordOp) (args : List NetId) (n : List ℕ) → c.IsOperation (take k cells) op args r
      → Among n (names_in (op_expression lines cells r op (c.operand args 0) (c.operand args 1) (c.operand args 2))) → IsCellBelow k n
  op_reads k r Add args n h a = two_names k _ _ _ _ n h.operands.0 h.operands.1 a
  op_reads k r Sub args n h a = two_names k _ _ _ _ n h.operands.0 h.operands.1 a
  op_reads k r Mul args n h a = two_names k _ _ _ _ n h.operands.0 h.operands.1 a
  op_reads k r And args n h a = two_names k _ _ _ _ n h.operands.0 h.operands.1 a
  op_reads k r Or args n h a = two_names k _ _ _ _ n h.operands.0 h.operands.1 a
  op_reads k r Xor args n h a = two_names k _ _ _ _ n h.operands.0 h.operands.1 a
  op_reads k r Eq args n h a = two_names k _ _ _ _ n h.operands.0 h.operands.1 a
  op_reads k r Lt args n h a = two_names k _ _ _ _ n h.operands.0 h.operands.1 a
  op_reads k r Not args n h a = one_name k _ _ n h.operands.0 a
  op_reads k r Min args n h a = elim a [
    | inl e ↦ below_net k _ _ n h.operands.0 e
    | inr
        b ↦ elim b [ inl e ↦ below_net k _ _ n h.operands.1 e | inr l ↦ two_names k _ _ _ _ n h.operands.0 h.operands.1 l ]
  ]
  op_reads k r Max args n h a = elim a [
    | inl e ↦ below_net k _ _ n h.operands.0 e
    | inr
        b ↦ elim b [ inl e ↦ below_net k _ _ n h.operands.1 e | inr l ↦ two_names k _ _ _ _ n h.operands.1 h.operands.0 l ]
  ]
  op_reads k r Mux args n h a = elim a [ inl e ↦ below_net k _ _ n h.operands.0 e | inr l ↦ two_names k _ _ _ _ n h.operands.1 h.operands.2 l ]
  op_reads k r (Shl by) args n h a = either_one k _ _ n (nat_lt by r) (binary LeftBy (net_value lines cells (c.operand args 0)) (constant 6 by true))
      (constant r 0 true) h.operands.0 (λ b. one_name k _ _ n h.operands.0 b) (λ b. absurd b) a
  op_reads k r (Shr by) args n h a = either_one k _ _ n (nat_lt by r) (binary RightBy (net_value lines cells (c.operand args 0)) (constant 6 by true))
      (constant r 0 true) h.operands.0 (λ b. one_name k _ _ n h.operands.0 b) (λ b. absurd b) a
  op_reads k r (Cast to) args n h a = either_one k _ _ n (nat_lt to (c.width_of cells (c.operand args 0)))
      (part (net_name lines cells (c.operand args 0)) (to - 1) 0) (net_value lines cells (c.operand args 0)) h.operands.0
      (λ b. one_name k _ _ n h.operands.0 b) (λ b. one_name k _ _ n h.operands.0 b) a
  op_reads k r SLt args n h a = let e : true ≡ false = h.unsigned in absurd (cc)
  op_reads k r SMin args n h a = let e : true ≡ false = h.unsigned in absurd (cc)
  op_reads k r SMax args n h a = let e : true ≡ false = h.unsigned in absurd (cc)
  op_reads k r (Sar by) args n h a = let e : true ≡ false = h.unsigned in absurd (cc)
  op_reads k r (SCast to) args n h a = let e : true ≡ false = h.unsigned in absurd (cc)

  -- an equation of a cell reads cells before it
  pub drive_reads_below : (k width : ℕ) (cell : Cell) → slice_get cells k ≡ Some (record { width = width; cell = cell }) → (d : DriveTree) (n : List ℕ)
      → Among d (cell_drives lines cells outlets outs k width cell) → Among n (names_in d.value) → IsCellBelow k n
  drive_reads_below k width (Input port) h d n a b = absurd a
  drive_reads_below k width (Reg next) h d n a b = absurd a
  drive_reads_below k width (Mem depth at next enable) h d n a b = absurd a
  drive_reads_below k width (Const v) h d n a b = elim a [
    | inl e ↦ absurd
        (subst (λ (z : DriveTree). Among n (names_in z.value)) (sym e) b)
    | inr none ↦ absurd none
  ]
  drive_reads_below k width (Op op args) h d n a b = elim a [
    | inl e ↦ op_reads k width op args n (ok.formed.each k _ h).cell (subst (λ (z : DriveTree). Among n (names_in z.value)) (sym e) b)
    | inr none ↦ absurd none
  ]
  drive_reads_below k width (Peek mem at) h d n a b = elim a [
    | inl e ↦
        let p = (ok.formed.each k _ h).cell in
        elim (let q : Among n (net_name lines cells mem.0 ∷ net_name lines cells at.0 ∷ []) = subst (λ (z : DriveTree). Among n (names_in z.value))
        (sym e) b in q) [
          | inl m ↦ below_memory k mem.0 width p.depth n p.memory m
          | inr l ↦ one_name k at.0 _ n p.address.net l
        ]
    | inr none ↦ absurd none
  ]

  -- what happens at a clock edge reads cells
  pub edge_reads : (k width : ℕ) (cell : Cell) → slice_get cells k ≡ Some (record { width = width; cell = cell }) → (n : List ℕ)
      → Among n (stmt_reads (cell_edge lines cells outlets outs k cell)) → IsCellName n
  edge_reads k width (Input port) h n a = absurd a
  edge_reads k width (Const v) h n a = absurd a
  edge_reads k width (Op op args) h n a = absurd a
  edge_reads k width (Peek mem at) h n a = absurd a
  edge_reads k width (Reg next) h n a = elim a [ inl e ↦ net_named_cell next.0 width n (ok.formed.each k _ h).cell e | inr none ↦ absurd none ]
  edge_reads k width (Mem depth at next enable) h n a =
      let w = written_memory k width depth at next enable cells ok.whole ok.formed h in
      elim a [
        | inl e ↦ net_named_cell enable.0 1 n w.bit e
        | inr b ↦ elim b [
          | inl e ↦ net_named_cell at.0 _ n w.address.net e
          | inr l ↦ elim l [ inl e ↦ net_named_cell next.0 width n w.word e | inr none ↦ absurd none ]
        ]
      ]
