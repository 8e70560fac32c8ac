-- The value of a cell's equation is what the cell makes of the words of its operands.
use Rattle.std.proofs.Common.{ℕ, zero, suc, ◌≡◌, ◌==◌, ◌+◌, ◌-◌, ◌*◌, ◌/◌, ◌%◌, ◌^◌, ◌<◌, ◌≤◌, ◌⊎◌, inl, inr, min, max, Bool, true, false, nat_lt, List, [], ◌∷◌, length, get_or, All, Some, slice_get, take, arith, mul_assoc, refl, sym, ap, ◌∙◌, subst}
use Rattle.std.specs.Prelude.{unwrap_or, if◌then◌else◌}
use Rattle.std.proofs.lemmas.Nat.{pow_pos, pow-add}
use Rattle.std.proofs.Math.Nat.{mod-eq_of_lt, mul-mod_left, div-eq_of_lt}
use Rattle.std.proofs.Math.Pow.{pow_mono}
use Rattle.std.proofs.lemmas.List.Elements.{All-get_or}
use Rattle.std.proofs.lemmas.Option.{unwrap_or-slice_get}
use Rattle.ae_netlist.proofs.Gets.{get_from_take}
use Rattle.std.proofs.lemmas.Bool.{cases_Bool, cond-true, cond-false}
use Rattle.std.proofs.lemmas.Bool.Decides.{Decides-ltb}
use Rattle.ae_word.specs.declared.op.WordOp.{WordOp}
use Rattle.ae_word.specs.declared.op.WordOp.TheVariants.{Add, Sub, Mul, And, Or, Xor, Not, Min, Max, Eq, Lt, Mux, Shl, Shr, Cast, SLt, SMin, SMax, Sar, SCast}
use Rattle.ae_word.specs.WordTable.{bit, word_result}
use Rattle.ae_netlist.specs.declared.cell.NetId.{NetId}
use Rattle.ae_netlist.specs.declared.cell.Cell.{Cell}
use Rattle.ae_netlist.specs.declared.cell.Cell.TheVariants.{Input, Const, Op, Reg, Mem, Peek}
use Rattle.ae_netlist.specs.declared.cell.SizedCell.{SizedCell}
use Rattle.ae_netlist.specs.declared.cell.Outlet.{Outlet}
use Rattle.ae_netlist.specs.Circuit as c
use Rattle.ae_netlist.proofs.Growing.{net_width, net_from_take, memory_from_take, operation_later}
use Rattle.ae_netlist.proofs.Fits.{word_fits}
use Rattle.ae_vmodule.specs.declared.module.BinOp.{BinOp}
use Rattle.ae_vmodule.specs.declared.module.BinOp.TheVariants.{Mul as Times, Add as Plus, Sub as Minus, Shl as LeftBy, Shr as RightBy, Lt as Less, Eq as Same, And as Both, Or as Either, Xor as Differ}
use Rattle.ae_vmodule.specs.ModuleTree.{ExprTree, constant, part, index, binary, choice, NetTree, DriveTree}
use Rattle.ae_judge.specs.Names.{Among, net_named, passes, is_memory_kind, is_memory_name}
use Rattle.ae_judge.specs.Widths.{declared_width_in, declared_width, binary_width, own_width}
use Rattle.ae_runs.specs.Values.{ModuleClock, binary_result, value_at, assigned}
use Rattle.ae_verilog.specs.NetlistModule.{number_name, cell_name, net_name, net_value, binary_nets, shifted_net, cast_to, op_expression}
use Rattle.ae_verilog.specs.Written.{IsWritableNetlist}
use Rattle.ae_spelled.proofs.LawNets.{written, cell_net, cell_named, name_of}
use Rattle.ae_spelled.proofs.LawItems.{cell_drives}
use Rattle.ae_verilog.proofs.NoteLines.{not_less as not_below}

shift_out_left : (w by x : ℕ) → w ≤ by → (x * 2 ^ by) % 2 ^ w ≡ 0
shift_out_left w by x h =
    let e : by ≡ (by - w) + w = omega arith in
    let p : x * 2 ^ by ≡ (x * 2 ^ (by - w)) * 2 ^ w = ap (λ k. x * 2 ^ k) e ∙ ap (λ k. x * k) (pow-add 2 (by - w) w) ∙
    sym (mul_assoc x (2 ^ (by - w)) (2 ^ w)) in
    ap (λ k. k % 2 ^ w) p ∙ mul-mod_left (x * 2 ^ (by - w)) (2 ^ w)

shift_out_right : (w by x : ℕ) → x < 2 ^ w → w ≤ by → x / 2 ^ by ≡ 0
shift_out_right w by x f h = div-eq_of_lt (let p = pow_mono h in omega arith)

test_less : (x y a b : ℕ) (u : Bool) → nat_lt x y ≡ u → (if bit u == 0 then b else a) ≡ (if u then a else b)
test_less x y a b true e = refl
test_less x y a b false e = refl

smaller : (x y : ℕ) → (if bit (nat_lt x y) == 0 then y else x) ≡ min x y
smaller x y = elim (cases_Bool (nat_lt x y)) [
  | inl t ↦ test_less x y x y (nat_lt x y) refl ∙ cond-true _ x y t ∙ (let l = (Decides-ltb x y).0 t in let e : x ≡ min x y = omega arith in e)
  | inr f ↦ test_less x y x y (nat_lt x y) refl ∙ cond-false _ x y f ∙ (let l = not_below x y f in let e : y ≡ min x y = omega arith in e)
]

greater : (x y : ℕ) → (if bit (nat_lt x y) == 0 then x else y) ≡ max x y
greater x y = elim (cases_Bool (nat_lt x y)) [
  | inl t ↦ test_less x y y x (nat_lt x y) refl ∙ cond-true _ y x t ∙ (let l = (Decides-ltb x y).0 t in let e : y ≡ max x y = omega arith in e)
  | inr f ↦ test_less x y y x (nat_lt x y) refl ∙ cond-false _ y x f ∙ (let l = not_below x y f in let e : x ≡ max x y = omega arith in e)
]

chosen : (t a b : ℕ) → t < 2 → (if t == 0 then b else a) ≡ (if t == 1 then a else b)
chosen zero a b h = refl
chosen (suc zero) a b h = refl
chosen (suc (suc t)) a b h = absurd (omega arith)

get_or-past : (xs : List ℕ) (i d : ℕ) → length xs ≤ i → get_or xs i d ≡ d
get_or-past [] i d h = refl
get_or-past (x ∷ xs) zero d h = absurd (omega arith)
get_or-past (x ∷ xs) (suc i) d h = get_or-past xs i d (omega arith)

fits_or_zero : (w : ℕ) (xs : List ℕ) (i : ℕ) → All (λ x. x < 2 ^ w) xs → get_or xs i 0 < 2 ^ w
fits_or_zero w xs i h = elim (within i (length xs)) [
  | inl l ↦ All-get_or (λ x. x < 2 ^ w) xs i 0 l h
  | inr g ↦ subst (λ x. x < 2 ^ w) (sym (get_or-past xs i 0 g)) (pow_pos w)
] where
  within : (i n : ℕ) → (i < n) ⊎ (n ≤ i)
  within i zero = inr (omega arith)
  within zero (suc n) = inl (omega arith)
  within (suc i) (suc n) = elim (within i n) [ inl l ↦ inl (omega arith) | inr g ↦ inr (omega arith) ]

-- an address among the first cells is one among all
address_later : (cells : List SizedCell) (k at depth : ℕ) → c.IsAddress (take k cells) at depth → c.IsAddress cells at depth
address_later cells k at depth h =
    let net : c.IsNet cells at (c.width_of (take k cells) at) = net_from_take cells k at _ h.net in
    let same : c.width_of cells at ≡ c.width_of (take k cells) at = net_width net in
    record {
      net = subst (c.IsNet cells at) (sym same) net;
      inside = elim h.inside [
        | inl fits ↦ inl (subst (λ w. 2 ^ w ≤ depth) (sym same) fits)
        | inr fixed ↦ inr (record { width = fixed.width; constant = fixed.constant; found = get_from_take cells k at _ fixed.found; below = fixed.below })
      ];
    }

module _ (lines : ℕ → ℕ) (cells : List SizedCell) (outlets : List Outlet) (outs : ℕ) (ok : IsWritableNetlist cells outlets outs) where
  abbrev ns : List NetTree
  ns = (written lines cells outlets outs).nets

  pub named_net : (a w : ℕ) (h : c.IsNet cells a w) → net_named ns (net_name lines cells a) ≡ Some (cell_net lines cells outlets outs a h.sized)
  named_net a w h = ap (net_named ns) (name_of lines cells outlets outs a h.sized h.found) ∙ cell_named lines cells outlets outs ok a h.sized h.found

  pub net_wide : (a w : ℕ) → c.IsNet cells a w → declared_width ns (net_name lines cells a) ≡ w
  net_wide a w h = ap declared_width_in (named_net a w h) ∙ h.wide

  pub cell_wide : (k : ℕ) (x : SizedCell) → slice_get cells k ≡ Some x → declared_width ns (cell_name lines k x.cell) ≡ x.width
  cell_wide k x h = ap declared_width_in (cell_named lines cells outlets outs ok k x h)

  pub memory_named : (k w d : ℕ) → c.IsMemory cells k w d → is_memory_name ns (net_name lines cells k) ≡ true
  memory_named k w d h =
      ap (passes (λ (y : NetTree). is_memory_kind y.kind))
      (ap (net_named ns) (name_of lines cells outlets outs k _ h.found) ∙ cell_named lines cells outlets outs ok k _ h.found)

  pub memory_wide : (k w d : ℕ) → c.IsMemory cells k w d → declared_width ns (net_name lines cells k) ≡ w
  memory_wide k w d h = ap declared_width_in (ap (net_named ns) (name_of lines cells outlets outs k _ h.found) ∙
      cell_named lines cells outlets outs ok k _ h.found)

  pub peek_later : (k w mem at : ℕ) → c.IsPeek (take k cells) w mem at → c.IsPeek cells w mem at
  peek_later k w mem at h = record {
    depth = h.depth;
    memory = memory_from_take cells k mem w h.depth h.memory;
    address = address_later cells k at h.depth h.address;
  }

  module _ (m : ModuleClock) (ws : ℕ → ℕ) (ss : ℕ → List ℕ) where
    -- the clock has these words for the cells
    pub record Reads : Type 0 where
      pub word : (a w : ℕ) → c.IsNet cells a w → m.word (net_name lines cells a) ≡ ws a
      pub store : (k w d : ℕ) → c.IsMemory cells k w d → m.store (net_name lines cells k) ≡ ss k
      pub fits : (a w : ℕ) → c.IsNet cells a w → ws a < 2 ^ w
      pub stores : (k w d : ℕ) → c.IsMemory cells k w d → All (λ x. x < 2 ^ w) (ss k)

    -- what a cell makes of them
    abbrev pub made : Cell → ℕ
    made (Const v) = v
    made (Op op args) = word_result op (c.width_of cells (c.main_operand op args)) (ws (c.operand args 0)) (ws (c.operand args 1)) (ws (c.operand args 2))
    made (Peek mem at) = get_or (ss mem.0) (ws at.0) 0
    made _ = 0

    assigned_is : (n : List ℕ) (e : ExprTree) (W o x : ℕ) → declared_width ns n ≡ W → own_width ns e ≡ o → value_at ns m (max o W) e ≡ x → x < 2 ^ W
        → assigned ns m n e ≡ x
    assigned_is n e W o x wide own value fits = (λ i. value_at ns m (max (own i) (wide i)) e % 2 ^ wide i) ∙ ap (λ v. v % 2 ^ W) value ∙ mod-eq_of_lt fits

    module _ (r : Reads) where
      joined_at : (op : BinOp) (a b u v w : ℕ) → c.IsNet cells a u → c.IsNet cells b v
          → value_at ns m w (binary_nets lines cells op a b) ≡ binary_result op w (ws a) (ws b)
      joined_at op a b u v w ha hb = (λ i. binary_result op w (r.word a u ha i) (r.word b v hb i))

      joined_own : (op : BinOp) (a b u v : ℕ) → c.IsNet cells a u → c.IsNet cells b v → own_width ns (binary_nets lines cells op a b) ≡ binary_width op u v
      joined_own op a b u v ha hb = (λ i. binary_width op (net_wide a u ha i) (net_wide b v hb i))

      max_same : (w : ℕ) → max (max w w) w ≡ w
      max_same w = omega arith

      max_one : (w : ℕ) → max w w ≡ w
      max_one w = omega arith

      -- an operator with both operands and the result of one width
      plain_op : (n : List ℕ) (op : BinOp) (a b w x : ℕ) → c.IsNet cells a w → c.IsNet cells b w → declared_width ns n ≡ w → binary_width op w w ≡ max w w
          → binary_result op w (ws a) (ws b) ≡ x → x < 2 ^ w → assigned ns m n (binary_nets lines cells op a b) ≡ x
      plain_op n op a b w x ha hb wide own is fits =
          assigned_is n (binary_nets lines cells op a b) w (max w w) x wide (joined_own op a b w w ha hb ∙ own)
          (ap (λ v. value_at ns m v (binary_nets lines cells op a b)) (max_same w) ∙ joined_at op a b w w w ha hb ∙ is) fits

      -- a comparison
      compared_op : (n : List ℕ) (op : BinOp) (a b w x : ℕ) → c.IsNet cells a w → c.IsNet cells b w → declared_width ns n ≡ 1 → binary_width op w w ≡ 1
          → ((v : ℕ) → binary_result op v (ws a) (ws b) ≡ x) → x < 2 ^ 1 → assigned ns m n (binary_nets lines cells op a b) ≡ x
      compared_op n op a b w x ha hb wide own is fits =
          assigned_is n (binary_nets lines cells op a b) 1 1 x wide (joined_own op a b w w ha hb ∙ own)
          (joined_at op a b w w (max 1 1) ha hb ∙ is (max 1 1)) fits

      choice_op : (n : List ℕ) (test : ExprTree) (a b w t x : ℕ) → c.IsNet cells a w → c.IsNet cells b w → declared_width ns n ≡ w
          → ((v : ℕ) → value_at ns m v test ≡ t) → (if t == 0 then ws b else ws a) ≡ x → x < 2 ^ w
          → assigned ns m n (choice test (net_value lines cells a) (net_value lines cells b)) ≡ x
      choice_op n test a b w t x ha hb wide test_is is fits =
          assigned_is n (choice test (net_value lines cells a) (net_value lines cells b)) w (max w w) x wide (λ i. max (net_wide a w ha i) (net_wide b w hb i))
          ((λ i. if test_is (own_width ns test) i == 0 then r.word b w hb i else r.word a w ha i) ∙ is) fits

      shift_op : (n : List ℕ) (op : BinOp) (a by w x : ℕ) → c.IsNet cells a w → declared_width ns n ≡ w → binary_width op w 6 ≡ w
          → binary_result op w (ws a) by ≡ x → (w ≤ by → x ≡ 0) → x < 2 ^ w
          → (own_width ns (binary op (net_value lines cells a) (constant 6 by true)) ≡ binary_width op (declared_width ns (net_name lines cells a)) 6)
          → ((v : ℕ) → value_at ns m v (binary op (net_value lines cells a) (constant 6 by true)) ≡ binary_result op v (m.word (net_name lines cells a)) by)
          → assigned ns m n (shifted_net lines cells op w a by) ≡ x
      shift_op n op a by w x ha wide own is out fits own_is value_is = elim (cases_Bool (nat_lt by w)) [
        | inl t ↦ ap (assigned ns m n) (cond-true _ (binary op (net_value lines cells a) (constant 6 by true)) (constant w 0 true) t) ∙
            assigned_is n (binary op (net_value lines cells a) (constant 6 by true)) w w x wide (own_is ∙ ap (λ u. binary_width op u 6) (net_wide a w ha) ∙ own)
            (ap (λ v. value_at ns m v (binary op (net_value lines cells a) (constant 6 by true))) (max_one w) ∙ value_is w ∙
            ap (λ u. binary_result op w u by) (r.word a w ha) ∙ is) fits
        | inr f ↦ ap (assigned ns m n) (cond-false _ (binary op (net_value lines cells a) (constant 6 by true)) (constant w 0 true) f) ∙
            assigned_is n (constant w 0 true) w w x wide refl (sym (out (not_below by w f))) fits
      ]

      cast_op : (n : List ℕ) (a w to : ℕ) → c.IsNet cells a w → declared_width ns n ≡ to → 1 ≤ to → assigned ns m n (cast_to lines cells to a) ≡ ws a % 2 ^ to
      cast_op n a w to ha wide low = elim (cases_Bool (nat_lt to (c.width_of cells a))) [
        | inl t ↦ ap (assigned ns m n) (cond-true _ (part (net_name lines cells a) (to - 1) 0) (net_value lines cells a) t) ∙
            assigned_is n (part (net_name lines cells a) (to - 1) 0) to (to - 1 - 0 + 1) (ws a % 2 ^ to) wide refl
            (let e : to - 1 - 0 + 1 ≡ to = omega arith in let d : (k : ℕ) → k / 2 ^ 0 ≡ k = λ k. omega arith in
            (λ i. d (r.word a w ha i) i % 2 ^ e i)) (let p = pow_pos to in let x : ℕ = ws a in let q : x % 2 ^ to < 2 ^ to = omega arith in q)
        | inr f ↦ ap (assigned ns m n) (cond-false _ (part (net_name lines cells a) (to - 1) 0) (net_value lines cells a) f) ∙
            (λ i. r.word a w ha i % 2 ^ wide i)
      ]

      op_is : (n : List ℕ) (op : WordOp) (args : List NetId) (v : ℕ) → c.IsOperation cells op args v → declared_width ns n ≡ v
          → assigned ns m n (op_expression lines cells v op (c.operand args 0) (c.operand args 1) (c.operand args 2)) ≡ made (Op op args)
      op_is n Add args v h wide = let w = c.width_of cells (c.operand args 0) in let a = h.operands.0 in let b = h.operands.1 in
          plain_op n Plus _ _ w _ a b (wide ∙ h.result) refl refl (word_fits Add w _ _ 0 (r.fits _ w a, r.fits _ w b))
      op_is n Sub args v h wide = let w = c.width_of cells (c.operand args 0) in let a = h.operands.0 in let b = h.operands.1 in
          plain_op n Minus _ _ w _ a b (wide ∙ h.result) refl refl (word_fits Sub w _ _ 0 (r.fits _ w a, r.fits _ w b))
      op_is n Mul args v h wide = let w = c.width_of cells (c.operand args 0) in let a = h.operands.0 in let b = h.operands.1 in
          plain_op n Times _ _ w _ a b (wide ∙ h.result) refl refl (word_fits Mul w _ _ 0 (r.fits _ w a, r.fits _ w b))
      op_is n And args v h wide = let w = c.width_of cells (c.operand args 0) in let a = h.operands.0 in let b = h.operands.1 in
          plain_op n Both _ _ w _ a b (wide ∙ h.result) refl refl (word_fits And w _ _ 0 (r.fits _ w a, r.fits _ w b))
      op_is n Or args v h wide = let w = c.width_of cells (c.operand args 0) in let a = h.operands.0 in let b = h.operands.1 in
          plain_op n Either _ _ w _ a b (wide ∙ h.result) refl refl (word_fits Or w _ _ 0 (r.fits _ w a, r.fits _ w b))
      op_is n Xor args v h wide = let w = c.width_of cells (c.operand args 0) in let a = h.operands.0 in let b = h.operands.1 in
          plain_op n Differ _ _ w _ a b (wide ∙ h.result) refl refl (word_fits Xor w _ _ 0 (r.fits _ w a, r.fits _ w b))
      op_is n Not args v h wide = let w = c.width_of cells (c.operand args 0) in let a = h.operands.0 in
          assigned_is n (op_expression lines cells v Not (c.operand args 0) (c.operand args 1) (c.operand args 2)) w w (2 ^ w - 1 - ws (c.operand args 0))
          (wide ∙ h.result) (net_wide _ w a)
          (ap (λ u. 2 ^ u - 1 - m.word (net_name lines cells (c.operand args 0))) (max_one w) ∙ ap (λ x. 2 ^ w - 1 - x) (r.word _ w a))
          (word_fits Not w _ 0 0 (r.fits _ w a))
      op_is n Min args v h wide = let w = c.width_of cells (c.operand args 0) in let a = h.operands.0 in let b = h.operands.1 in
          choice_op n (binary_nets lines cells Less (c.operand args 0) (c.operand args 1)) _ _ w
          (bit (nat_lt (ws (c.operand args 0)) (ws (c.operand args 1)))) _ a b (wide ∙ h.result) (λ u. joined_at Less _ _ w w u a b) (smaller _ _)
          (word_fits Min w _ _ 0 (r.fits _ w a, r.fits _ w b))
      op_is n Max args v h wide = let w = c.width_of cells (c.operand args 0) in let a = h.operands.0 in let b = h.operands.1 in
          choice_op n (binary_nets lines cells Less (c.operand args 0) (c.operand args 1)) _ _ w
          (bit (nat_lt (ws (c.operand args 0)) (ws (c.operand args 1)))) _ b a (wide ∙ h.result) (λ u. joined_at Less _ _ w w u a b) (greater _ _)
          (word_fits Max w _ _ 0 (r.fits _ w a, r.fits _ w b))
      op_is n Eq args v h wide = let w = c.width_of cells (c.operand args 0) in let a = h.operands.0 in let b = h.operands.1 in
          compared_op n Same _ _ w _ a b (wide ∙ h.result) refl (λ u. refl) (word_fits Eq w _ _ 0 (r.fits _ w a, r.fits _ w b))
      op_is n Lt args v h wide = let w = c.width_of cells (c.operand args 0) in let a = h.operands.0 in let b = h.operands.1 in
          compared_op n Less _ _ w _ a b (wide ∙ h.result) refl (λ u. refl) (word_fits Lt w _ _ 0 (r.fits _ w a, r.fits _ w b))
      op_is n Mux args v h wide = let w = c.width_of cells (c.operand args 1) in let t = h.operands.0 in let a = h.operands.1 in let b = h.operands.2 in
          choice_op n (net_value lines cells (c.operand args 0)) _ _ w (ws (c.operand args 0)) _ a b (wide ∙ h.result) (λ u. r.word _ 1 t)
          (chosen _ _ _ (r.fits _ 1 t)) (word_fits Mux w (ws (c.operand args 0)) (ws (c.operand args 1)) (ws (c.operand args 2))
          (r.fits _ 1 t, r.fits _ w a, r.fits _ w b))
      op_is n (Shl by) args v h wide = let w = c.width_of cells (c.operand args 0) in let a = h.operands.0 in
          (λ i. assigned ns m n (shifted_net lines cells LeftBy (h.result i) (c.operand args 0) by)) ∙
          shift_op n LeftBy _ by w _ a (wide ∙ h.result) refl refl (λ l. shift_out_left w by _ l) (word_fits (Shl by) w _ 0 0 (r.fits _ w a)) refl
          (λ u. refl)
      op_is n (Shr by) args v h wide = let w = c.width_of cells (c.operand args 0) in let a = h.operands.0 in
          (λ i. assigned ns m n (shifted_net lines cells RightBy (h.result i) (c.operand args 0) by)) ∙
          shift_op n RightBy _ by w _ a (wide ∙ h.result) refl refl (λ l. shift_out_right w by _ (r.fits _ w a) l)
          (word_fits (Shr by) w _ 0 0 (r.fits _ w a)) refl (λ u. refl)
      op_is n (Cast to) args v h wide = let w = c.width_of cells (c.operand args 0) in cast_op n _ w to h.operands.0 (wide ∙ h.result) h.range.0
      op_is n SLt args v h wide = let e : true ≡ false = h.unsigned in absurd (cc)
      op_is n SMin args v h wide = let e : true ≡ false = h.unsigned in absurd (cc)
      op_is n SMax args v h wide = let e : true ≡ false = h.unsigned in absurd (cc)
      op_is n (Sar by) args v h wide = let e : true ≡ false = h.unsigned in absurd (cc)
      op_is n (SCast to) args v h wide = let e : true ≡ false = h.unsigned in absurd (cc)

      const_is : (n : List ℕ) (w v : ℕ) → declared_width ns n ≡ w → v < 2 ^ w → assigned ns m n (constant w v true) ≡ v
      const_is n w v wide fits = assigned_is n (constant w v true) w w v wide refl refl fits

      peek_is : (n : List ℕ) (w mem at : ℕ) → c.IsPeek cells w mem at → declared_width ns n ≡ w
          → assigned ns m n (index (net_name lines cells mem) (net_value lines cells at)) ≡ get_or (ss mem) (ws at) 0
      peek_is n w mem at h wide =
          let is = memory_named mem w h.depth h.memory in
          let own : own_width ns (index (net_name lines cells mem) (net_value lines cells at)) ≡ w = cond-true _
          (declared_width ns (net_name lines cells mem)) 1 is ∙ memory_wide mem w h.depth h.memory in
          let word : m.word (net_name lines cells at) ≡ ws at = r.word at _ h.address.net in
          let store : m.store (net_name lines cells mem) ≡ ss mem = r.store mem w h.depth h.memory in
          assigned_is n (index (net_name lines cells mem) (net_value lines cells at)) w w (get_or (ss mem) (ws at) 0) wide own
          (cond-true _ (unwrap_or (slice_get (m.store (net_name lines cells mem)) (m.word (net_name lines cells at))) 0)
          (m.word (net_name lines cells mem) / 2 ^ m.word (net_name lines cells at) % 2) is
          ∙ (unwrap_or-slice_get (m.store (net_name lines cells mem)) (m.word (net_name lines cells at)) 0 ∙ (λ i. get_or (store i) (word i) 0)))
          (fits_or_zero w (ss mem) (ws at) (r.stores mem w h.depth h.memory))

      -- what an equation, a register or a memory takes from a net of its width
      pub net_is : (n : List ℕ) (w a : ℕ) → declared_width ns n ≡ w → c.IsNet cells a w → assigned ns m n (net_value lines cells a) ≡ ws a
      net_is n w a wide h = assigned_is n (net_value lines cells a) w w (ws a) wide (net_wide a w h) (r.word a w h) (r.fits a w h)

      pub drive_is : (k width : ℕ) (cell : Cell) → slice_get cells k ≡ Some (record { width = width; cell = cell }) → (d : DriveTree)
          → Among d (cell_drives lines cells outlets outs k width cell) → (d.name ≡ number_name lines k) × (assigned ns m d.name d.value ≡ made cell)
      drive_is k width (Input port) h d a = absurd a
      drive_is k width (Reg next) h d a = absurd a
      drive_is k width (Mem depth at next enable) h d a = absurd a
      drive_is k width (Const v) h d a = elim a [
        | inl e ↦ (
          ap (λ (x : DriveTree). x.name) (sym e),
          ap (λ (x : DriveTree). assigned ns m x.name x.value) (sym e) ∙
              const_is (number_name lines k) width v (cell_wide k _ h) (ok.formed.each k _ h).cell,
        )
        | inr none ↦ absurd none
      ]
      drive_is k width (Op op args) h d a = elim a [
        | inl e ↦ (
          ap (λ (x : DriveTree). x.name) (sym e),
          ap (λ (x : DriveTree). assigned ns m x.name x.value) (sym e)
              ∙ op_is (number_name lines k) op args width (operation_later (take k cells) cells op args width (λ i v q. net_from_take cells k i v q)
              (ok.formed.each k _ h).cell) (cell_wide k _ h),
        )
        | inr none ↦ absurd none
      ]
      drive_is k width (Peek mem at) h d a = elim a [
        | inl e ↦ (
          ap (λ (x : DriveTree). x.name) (sym e),
          ap (λ (x : DriveTree). assigned ns m x.name x.value) (sym e) ∙
              peek_is (number_name lines k) width mem.0 at.0 (peek_later k width mem.0 at.0 (ok.formed.each k _ h).cell) (cell_wide k _ h),
        )
        | inr none ↦ absurd none
      ]
