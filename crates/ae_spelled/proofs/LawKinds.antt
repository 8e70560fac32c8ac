-- A written module uses each name as its kind allows, and within its width.
use Rattle.std.proofs.Common.{ℕ, ◌≡◌, ◌-◌, ◌^◌, ◌<◌, ◌≤◌, inl, inr, Bool, true, false, nat_lt, List, [], ◌∷◌, Some, slice_get, take, arith, refl, sym, ap, ◌∙◌, subst}
use Rattle.std.specs.Prelude.{not, nat_le, ◌&&◌, if◌then◌else◌}
use Rattle.std.specs.List.{list_any}
use Rattle.std.proofs.lemmas.Bool.{cases_Bool, both_ways, or_from, leb-true}
use Rattle.std.proofs.lemmas.Bool.Decides.{Decides-ltb}
use Rattle.ae_word.specs.declared.op.WordOp.{WordOp}
use Rattle.ae_word.specs.declared.op.WordOp.TheVariants.{Add, Sub, Mul, And, Or, Xor, Not, Min, Max, Eq, Lt, Mux, Shl, Shr, Cast, SLt, SMin, SMax, Sar, SCast}
use Rattle.ae_netlist.specs.declared.cell.NetId.{NetId}
use Rattle.ae_netlist.specs.declared.cell.Cell.{Cell}
use Rattle.ae_netlist.specs.declared.cell.Cell.TheVariants.{Input, Const, Op, Reg, Mem, Peek}
use Rattle.ae_netlist.specs.declared.cell.SizedCell.{SizedCell}
use Rattle.ae_netlist.specs.declared.cell.Outlet.{Outlet}
use Rattle.ae_netlist.specs.Circuit as c
use Rattle.ae_netlist.proofs.Growing.{net_width, net_from_take, memory_from_take, operation_later}
use Rattle.ae_vmodule.specs.declared.module.BinOp.{BinOp}
use Rattle.ae_vmodule.specs.declared.module.BinOp.TheVariants.{Shl as LeftBy, Shr as RightBy}
use Rattle.ae_vmodule.specs.ModuleTree.{ExprTree, constant, part, index, binary, choice, NetTree, DriveTree, ItemTree, ModuleTree}
use Rattle.ae_judge.specs.Names.{Among, is_wire_kind, is_register_kind, is_memory_kind, passes, net_named, is_wire_name, is_memory_name, is_ranged, depth_in, depth_of, is_clock, drive_reads, item_reads}
use Rattle.ae_judge.specs.Widths.{declared_width}
use Rattle.ae_judge.specs.Faults.{is_misused, is_misused_in_stmt, is_misused_in_drive, is_misused_in_item, HasKind, is_too_large, is_outside_of, is_outside, is_too_wide, is_too_wide_in_stmt, is_too_wide_in_drive, is_too_wide_in_item, HasWidth, Never}
use Rattle.ae_judge.proofs.Members.{among_unflat, among_from}
use Rattle.ae_verilog.specs.NetlistModule.{port_name, number_name, net_name, net_value, op_expression}
use Rattle.ae_verilog.specs.Written.{IsWritableNetlist}
use Rattle.ae_spelled.proofs.LawNets.{written, cell_net, the_clock, a_cell, an_output, origin, name_of, cell_named, output_named, clock_named}
use Rattle.ae_spelled.proofs.LawItems.{cell_drives, cell_edge, declares, shows, changes, item_origin}
use Rattle.ae_spelled.proofs.LawValues.{named_net, net_wide, memory_named}
use Rattle.ae_spelled.proofs.LawClocks.{clock_is_clock, cell_no_clock}
use Rattle.ae_spelled.proofs.LawOf.{written_memory}
use Rattle.ae_spelled.proofs.LawReads.{IsCellName, net_named_cell, drive_reads_below, edge_reads}

not_less : (a b : ℕ) → b ≤ a → nat_lt a b ≡ false
not_less a b h = elim (cases_Bool (nat_lt a b)) [ inl t ↦ absurd (let l = (Decides-ltb a b).0 t in omega arith) | inr f ↦ f ]

not_most : (a b : ℕ) → b < a → nat_le a b ≡ false
not_most a b h = elim (cases_Bool (nat_le a b)) [ inl t ↦ absurd (let l = leb-true a b t in omega arith) | inr f ↦ f ]

none_any : {X : Type 0} (test : X → Bool) (xs : List X) → ((x : X) → Among x xs → test x ≡ false) → list_any test xs ≡ false
none_any test [] h = refl
none_any test (x ∷ xs) h = or_from (test x) (list_any test xs) (h x (inl refl)) (none_any test xs (λ y a. h y (inr a)))

plain_kind : (lines : ℕ → ℕ) → (cells : List SizedCell) (outlets : List Outlet) (outs k width : ℕ) (cell : Cell) → c.IsPlain cell
    → is_memory_kind (cell_net lines cells outlets outs k (record { width = width; cell = cell })).kind ≡ false
plain_kind lines cells outlets outs k width (Input port) p = refl
plain_kind lines cells outlets outs k width (Const v) p = refl
plain_kind lines cells outlets outs k width (Op op args) p = refl
plain_kind lines cells outlets outs k width (Reg next) p = refl
plain_kind lines cells outlets outs k width (Mem depth at next enable) p = absurd p
plain_kind lines cells outlets outs k width (Peek mem at) p = refl

module _ (lines : ℕ → ℕ) (cells : List SizedCell) (outlets : List Outlet) (outs : ℕ) (ok : IsWritableNetlist cells outlets outs) where
  abbrev m : ModuleTree
  m = written lines cells outlets outs

  abbrev ns : List NetTree
  ns = m.nets

  -- neither misused nor too wide
  pub record IsSound (e : ExprTree) : Type 0 where
    pub right : is_misused ns e ≡ false
    pub within : is_too_wide ns e ≡ false

  plain_name : (a w : ℕ) → c.IsNet cells a w → is_memory_name ns (net_name lines cells a) ≡ false
  plain_name a w h = ap (passes (λ (y : NetTree). is_memory_kind y.kind)) (named_net lines cells outlets outs ok a w h) ∙
      plain_kind lines cells outlets outs a h.sized.width h.sized.cell h.plain

  ranged_name : (a w : ℕ) → c.IsNet cells a w → 1 < w → is_ranged ns (net_name lines cells a) ≡ true
  ranged_name a w h l = ap (passes (λ (y : NetTree). y.ranged)) (named_net lines cells outlets outs ok a w h) ∙ ap (λ v. nat_lt 1 v) h.wide ∙
      (Decides-ltb 1 w).1 l

  name_sound : (a w : ℕ) → c.IsNet cells a w → IsSound (net_value lines cells a)
  name_sound a w h = record { right = plain_name a w h; within = refl }

  binary_sound : (op : BinOp) (a b : ExprTree) → IsSound a → IsSound b → IsSound (binary op a b)
  binary_sound op a b p q = record { right = or_from _ _ p.right q.right; within = or_from _ _ p.within q.within }

  choice_sound : (t a b : ExprTree) → IsSound t → IsSound a → IsSound b → IsSound (choice t a b)
  choice_sound t a b s p q = record { right = or_from _ _ s.right (or_from _ _ p.right q.right); within = or_from _ _ s.within (or_from _ _ p.within q.within) }

  two_sound : (op : BinOp) (a b u v : ℕ) → c.IsNet cells a u → c.IsNet cells b v → IsSound (binary op (net_value lines cells a) (net_value lines cells b))
  two_sound op a b u v p q = binary_sound op (net_value lines cells a) (net_value lines cells b) (name_sound a u p) (name_sound b v q)

  constant_sound : (w v : ℕ) → IsSound (constant w v true)
  constant_sound w v = record { right = refl; within = refl }

  either_sound : (b : Bool) (x y : ExprTree) → (b ≡ true → IsSound x) → IsSound y → IsSound (if b then x else y)
  either_sound true x y p q = p refl
  either_sound false x y p q = q

  shift_sound : (op : BinOp) (a w by r : ℕ) → c.IsNet cells a w
      → IsSound (if nat_lt by r then binary op (net_value lines cells a) (constant 6 by true) else constant r 0 true)
  shift_sound op a w by r h =
      either_sound (nat_lt by r) (binary op (net_value lines cells a) (constant 6 by true)) (constant r 0 true)
      (λ t. binary_sound op (net_value lines cells a) (constant 6 by true) (name_sound a w h) (constant_sound 6 by)) (constant_sound r 0)

  part_sound : (a w to : ℕ) → c.IsNet cells a w → 1 ≤ to → to < w → IsSound (part (net_name lines cells a) (to - 1) 0)
  part_sound a w to h low l = record {
    right = or_from _ _ (plain_name a w h) (ap not (ranged_name a w h (omega arith)));
    within = or_from _ _ (not_less (to - 1) 0 (omega arith))
        (ap (λ v. nat_le v (to - 1)) (net_wide lines cells outlets outs ok a w h) ∙ not_most w (to - 1) (omega arith));
  }

  op_sound : (r : ℕ) (op : WordOp) (args : List NetId) → c.IsOperation cells op args r
      → IsSound (op_expression lines cells r op (c.operand args 0) (c.operand args 1) (c.operand args 2))
  op_sound r Add args h = two_sound _ _ _ _ _ h.operands.0 h.operands.1
  op_sound r Sub args h = two_sound _ _ _ _ _ h.operands.0 h.operands.1
  op_sound r Mul args h = two_sound _ _ _ _ _ h.operands.0 h.operands.1
  op_sound r And args h = two_sound _ _ _ _ _ h.operands.0 h.operands.1
  op_sound r Or args h = two_sound _ _ _ _ _ h.operands.0 h.operands.1
  op_sound r Xor args h = two_sound _ _ _ _ _ h.operands.0 h.operands.1
  op_sound r Eq args h = two_sound _ _ _ _ _ h.operands.0 h.operands.1
  op_sound r Lt args h = two_sound _ _ _ _ _ h.operands.0 h.operands.1
  op_sound r Not args h = let p = name_sound _ _ h.operands.0 in record { right = p.right; within = p.within }
  op_sound r Min args h = choice_sound _ _ _ (two_sound _ _ _ _ _ h.operands.0 h.operands.1) (name_sound _ _ h.operands.0) (name_sound _ _ h.operands.1)
  op_sound r Max args h = choice_sound _ _ _ (two_sound _ _ _ _ _ h.operands.0 h.operands.1) (name_sound _ _ h.operands.1) (name_sound _ _ h.operands.0)
  op_sound r Mux args h = choice_sound _ _ _ (name_sound _ _ h.operands.0) (name_sound _ _ h.operands.1) (name_sound _ _ h.operands.2)
  op_sound r (Shl by) args h = shift_sound LeftBy _ _ by r h.operands.0
  op_sound r (Shr by) args h = shift_sound RightBy _ _ by r h.operands.0
  op_sound r (Cast to) args h =
      either_sound (nat_lt to (c.width_of cells (c.operand args 0))) (part (net_name lines cells (c.operand args 0)) (to - 1) 0)
      (net_value lines cells (c.operand args 0))
      (λ t. part_sound _ _ to h.operands.0 h.range.0 ((Decides-ltb to (c.width_of cells (c.operand args 0))).0 t)) (name_sound _ _ h.operands.0)
  op_sound r SLt args h = let e : true ≡ false = h.unsigned in absurd (cc)
  op_sound r SMin args h = let e : true ≡ false = h.unsigned in absurd (cc)
  op_sound r SMax args h = let e : true ≡ false = h.unsigned in absurd (cc)
  op_sound r (Sar by) args h = let e : true ≡ false = h.unsigned in absurd (cc)
  op_sound r (SCast to) args h = let e : true ≡ false = h.unsigned in absurd (cc)

  deep_name : (k w d : ℕ) → c.IsMemory cells k w d → depth_of ns (net_name lines cells k) ≡ d
  deep_name k w d h = ap depth_in (ap (net_named ns) (name_of lines cells outlets outs k _ h.found) ∙ cell_named lines cells outlets outs ok k _ h.found)

  outside_is : (n : List ℕ) (at : ℕ) (b : Bool) (d w : ℕ) → is_memory_name ns n ≡ b → depth_of ns n ≡ d → declared_width ns (net_name lines cells at) ≡ w
      → (b ≡ true) → 2 ^ w ≤ d → is_outside ns n (net_value lines cells at) ≡ false
  outside_is n at true d w is deep wide t h = (λ i. is_outside_of (is i) (declared_width ns n) (deep i) (wide i) (net_value lines cells at)) ∙
      not_less d (2 ^ w) h
  outside_is n at false d w is deep wide t h = absurd (cc)

  index_sound : (mem at w d v : ℕ) → c.IsMemory cells mem w d → c.IsNet cells at v → 2 ^ v ≤ d
      → IsSound (index (net_name lines cells mem) (net_value lines cells at))
  index_sound mem at w d v h n l = record {
    right = or_from _ _ (plain_name at v n) (ap (λ b. not b && not (is_ranged ns (net_name lines cells mem) && false))
        (memory_named lines cells outlets outs ok mem w d h));
    within = or_from _ _ refl (outside_is (net_name lines cells mem) at true d v (memory_named lines cells outlets outs ok mem w d h) (deep_name mem w d h)
        (net_wide lines cells outlets outs ok at v n) refl l);
  }

  drive_sound : (k width : ℕ) (cell : Cell) → slice_get cells k ≡ Some (record { width = width; cell = cell }) → (d : DriveTree)
      → Among d (cell_drives lines cells outlets outs k width cell) → (is_wire_name ns d.name ≡ true) × IsSound d.value
  drive_sound k width (Input port) h d a = absurd a
  drive_sound k width (Reg next) h d a = absurd a
  drive_sound k width (Mem depth at next enable) h d a = absurd a
  drive_sound k width (Const v) h d a = elim a [
    | inl e ↦ subst (λ (z : DriveTree). (is_wire_name ns z.name ≡ true) × IsSound z.value) e
        (ap (passes (λ (y : NetTree). is_wire_kind y.kind)) (cell_named lines cells outlets outs ok k _ h), constant_sound width v)
    | inr none ↦ absurd none
  ]
  drive_sound k width (Op op args) h d a = elim a [
    | inl e ↦ subst (λ (z : DriveTree). (is_wire_name ns z.name ≡ true) × IsSound z.value) e (
      ap (passes (λ (y : NetTree). is_wire_kind y.kind)) (cell_named lines cells outlets outs ok k _ h),
      op_sound width op args (operation_later (take k cells) cells op args width (λ i v q. net_from_take cells k i v q) (ok.formed.each k _ h).cell),
    )
    | inr none ↦ absurd none
  ]
  drive_sound k width (Peek mem at) h d a = elim a [
    | inl e ↦
        let p = (ok.formed.each k _ h).cell in
        let kept : c.IsMemory cells mem.0 width p.depth = memory_from_take cells k mem.0 width p.depth p.memory in
        let net = net_from_take cells k at.0 _ p.address.net in
        let w = ok.whole.each mem.0 width p.depth kept.at kept.next kept.enable kept.found in
        let deep = w.peeks k width mem at h refl in
        let same : c.width_of cells at.0 ≡ c.width_of (take k cells) at.0 = net_width net in
        subst (λ (z : DriveTree). (is_wire_name ns z.name ≡ true) × IsSound z.value) e (
          ap (passes (λ (y : NetTree). is_wire_kind y.kind)) (cell_named lines cells outlets outs ok k _ h),
          index_sound mem.0 at.0 width p.depth (c.width_of (take k cells) at.0) kept net (subst (λ v. 2 ^ v ≤ p.depth) same deep),
        )
    | inr none ↦ absurd none
  ]

  output_is_wire : (j : ℕ) (o : Outlet) → slice_get outlets j ≡ Some o → is_wire_name ns (port_name outs o.port) ≡ true
  output_is_wire j o h = ap (passes (λ (y : NetTree). is_wire_kind y.kind)) (output_named lines cells outlets outs ok j o h)

  edge_sound : (k width : ℕ) (cell : Cell) → slice_get cells k ≡ Some (record { width = width; cell = cell })
      → (is_misused_in_stmt ns (cell_edge lines cells outlets outs k cell) ≡ false)
      × (is_too_wide_in_stmt ns (cell_edge lines cells outlets outs k cell) ≡ false)
  edge_sound k width (Input port) h = (refl, refl)
  edge_sound k width (Const v) h = (refl, refl)
  edge_sound k width (Op op args) h = (refl, refl)
  edge_sound k width (Peek mem at) h = (refl, refl)
  edge_sound k width (Reg next) h = (
    or_from _ _ (ap not (ap (passes (λ (y : NetTree). is_register_kind y.kind)) (cell_named lines cells outlets outs ok k _ h)))
        (plain_name next.0 width (ok.formed.each k _ h).cell),
    refl,
  )
  edge_sound k width (Mem depth at next enable) h =
      let w = written_memory k width depth at next enable cells ok.whole ok.formed h in
      let whole = ok.whole.each k width depth at next enable h in
      let is : is_memory_name ns (number_name lines k) ≡ true = ap (passes (λ (y : NetTree). is_memory_kind y.kind))
      (cell_named lines cells outlets outs ok k _ h) in
      let deep : depth_of ns (number_name lines k) ≡ depth = ap depth_in (cell_named lines cells outlets outs ok k _ h) in (
        or_from _ _ (plain_name enable.0 1 w.bit) (or_from _ _ (ap not is) (or_from _ _ (plain_name at.0 _ w.address.net) (plain_name next.0 width w.word))),
        or_from _ _ refl (or_from _ _ refl (or_from _ _ (outside_is (number_name lines k) at.0 true depth (c.width_of cells at.0) is deep
            (net_wide lines cells outlets outs ok at.0 _ w.address.net) refl whole.deep) refl)),
      )

  shown_sound : (j : ℕ) (o : Outlet) → slice_get outlets j ≡ Some o → IsSound (net_value lines cells o.net.0)
  shown_sound j o h = name_sound o.net.0 _ (ok.shown.each j o h)

  item_sound : (j : ℕ) (i : ItemTree) → slice_get m.items j ≡ Some i → (is_misused_in_item m i ≡ false) × (is_too_wide_in_item ns i ≡ false)
  item_sound j i at = elim (item_origin lines cells outlets outs j i at) [
    | declares k x h other place is ↦ subst (λ z. (is_misused_in_item m z ≡ false) × (is_too_wide_in_item ns z ≡ false)) (sym is) (
      none_any (is_misused_in_drive ns) (cell_drives lines cells outlets outs k x.width x.cell)
          (λ d a. let s = drive_sound k x.width x.cell h d a in or_from _ _ (ap not s.0) s.1.right),
      none_any (is_too_wide_in_drive ns) (cell_drives lines cells outlets outs k x.width x.cell)
          (λ d a. let s = drive_sound k x.width x.cell h d a in s.1.within),
    )
    | shows k o h place is ↦
        let s = shown_sound k o h in
        subst (λ z. (is_misused_in_item m z ≡ false) × (is_too_wide_in_item ns z ≡ false)) (sym is)
        (or_from _ _ (or_from _ _ (ap not (output_is_wire k o h)) s.right) refl, or_from _ _ s.within refl)
    | changes k x h state place is ↦
        let s = edge_sound k x.width x.cell h in
        subst (λ z. (is_misused_in_item m z ≡ false) × (is_too_wide_in_item ns z ≡ false)) (sym is) (
          or_from _ _ (ap not (clock_is_clock lines cells outlets outs ok))
              (or_from _ _ (ap not (ap (passes _) (clock_named lines cells outlets outs ok))) s.0),
          s.1,
        )
  ]

  -- the clock is read nowhere
  read_cell : (j : ℕ) (i : ItemTree) (n : List ℕ) → slice_get m.items j ≡ Some i → Among n (item_reads i) → IsCellName lines cells outlets outs ok n
  read_cell j i n at a = elim (item_origin lines cells outlets outs j i at) [
    | declares k x h other place is ↦
        let r = among_unflat drive_reads n (cell_drives lines cells outlets outs k x.width x.cell) (subst (λ z. Among n (item_reads z)) is a) in
        let b = drive_reads_below lines cells outlets outs ok k x.width x.cell h r.1 n
        (among_from r.1 (cell_drives lines cells outlets outs k x.width x.cell) r.0 r.2) r.3 in
        record { at = b.at; sized = b.sized; found = b.found; named = b.named }
    | shows k o h place is ↦ elim (let q : Among n (net_name lines cells o.net.0 ∷ []) = subst (λ z. Among n (item_reads z)) is a in q) [
      | inl e ↦ net_named_cell lines cells outlets outs ok o.net.0 _ n (ok.shown.each k o h) e
      | inr none ↦ absurd none
    ]
    | changes k x h state place is ↦ edge_reads lines cells outlets outs ok k x.width x.cell h n (subst (λ z. Among n (item_reads z)) is a)
  ]

  pub none_misused : Never (HasKind m)
  none_misused k h =
      let at = h.1 in
      elim h.2 [
        | inl t ↦ both_ways _ (item_sound at.0 h.0 at.2).0 t
        | inr r ↦
            let n = read_cell at.0 h.0 r.0 at.2 r.1 in
            both_ways _ (ap (is_clock m) n.named ∙ cell_no_clock lines cells outlets outs ok n.at n.sized n.found) r.2
      ]

  cell_small : (k width : ℕ) (cell : Cell) → slice_get cells k ≡ Some (record { width = width; cell = cell })
      → is_too_large (cell_net lines cells outlets outs k (record { width = width; cell = cell })) ≡ false
  cell_small k width (Input port) h = or_from _ _ (not_less 64 width (ok.formed.each k _ h).high) (not_less 65536 0 (omega arith))
  cell_small k width (Const v) h = or_from _ _ (not_less 64 width (ok.formed.each k _ h).high) (not_less 65536 0 (omega arith))
  cell_small k width (Op op args) h = or_from _ _ (not_less 64 width (ok.formed.each k _ h).high) (not_less 65536 0 (omega arith))
  cell_small k width (Reg next) h = or_from _ _ (not_less 64 width (ok.formed.each k _ h).high) (not_less 65536 0 (omega arith))
  cell_small k width (Mem depth at next enable) h = or_from _ _ (not_less 64 width (ok.formed.each k _ h).high)
      (not_less 65536 depth (ok.formed.each k _ h).cell.1)
  cell_small k width (Peek mem at) h = or_from _ _ (not_less 64 width (ok.formed.each k _ h).high) (not_less 65536 0 (omega arith))

  net_small : (y : NetTree) → Among y ns → is_too_large y ≡ false
  net_small y a = elim (origin lines cells outlets outs y a) [
    | the_clock e ↦ ap is_too_large e
    | a_cell k x h e ↦ ap is_too_large e ∙ cell_small k x.width x.cell h
    | an_output j o h e ↦
        let net = ok.shown.each j o h in
        let high : c.width_of cells o.net.0 ≤ 64 = subst (λ w. w ≤ 64) net.wide (ok.formed.each o.net.0 net.sized net.found).high in
        ap is_too_large e ∙ or_from _ _ (not_less 64 (c.width_of cells o.net.0) high) (not_less 65536 0 (omega arith))
  ]

  pub none_wide : Never (HasWidth m)
  none_wide k h = elim h [
    | inl n ↦ both_ways _ (net_small n.0 n.1) n.3
    | inr i ↦ let at = i.1 in both_ways _ (item_sound at.0 i.0 at.2).1 i.2
  ]
