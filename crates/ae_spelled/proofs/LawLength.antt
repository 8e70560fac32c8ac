-- How long the lines of a listing are: at most 256 bytes for each declaration, assignment, edge and port.
use Rattle.std.proofs.Common.{lit<, lit≤, ℕ, ◌≡◌, ◌+◌, ◌-◌, ◌^◌, ◌<◌, ◌≤◌, inl, inr, Bool, true, false, nat_lt, List, [], ◌++◌, length, take, Some, None, slice_get, arith, refl, sym, subst}
use Rattle.std.specs.Prelude.{codes, decimal, ◌==◌, ◌&&◌, if◌then◌else◌}
use Rattle.std.proofs.Math.Nat.{pow-le-pow_right}
use Rattle.std.proofs.lemmas.Bool.{cases_Bool, cond-true, cond-false, ltb-true}
use Rattle.std.proofs.lemmas.Fmt.{length-decimal-le}
use Rattle.std.proofs.lemmas.List.{length-append}
use Rattle.std.proofs.lemmas.Option.{slice_get_within}
use Rattle.ae_word.specs.declared.op.WordOp.{WordOp}
use Rattle.ae_word.specs.declared.op.WordOp.TheVariants.{Add, Sub, Mul, And, Or, Xor, Not, Min, Max, Eq, Lt, Mux, Shl, Shr, Cast, SLt, SMin, SMax, Sar, SCast}
use Rattle.ae_word.specs.WordTable.{HasRange}
use Rattle.ae_netlist.specs.declared.cell.Handshake.{Handshake}
use Rattle.ae_netlist.specs.declared.cell.Handshake.TheVariants.{SourceValid, SourceReady, SinkValid, SinkReady}
use Rattle.ae_netlist.specs.declared.cell.Port.{Port}
use Rattle.ae_netlist.specs.declared.cell.Port.TheVariants.{Reset, Enable, Stream, In, Out, Plain}
use Rattle.ae_netlist.specs.declared.cell.Cell.{Cell}
use Rattle.ae_netlist.specs.declared.cell.Cell.TheVariants.{Input, Const, Op, Reg, Mem, Peek}
use Rattle.ae_netlist.specs.declared.cell.SizedCell.{SizedCell}
use Rattle.ae_netlist.specs.declared.cell.Outlet.{Outlet}
use Rattle.ae_netlist.specs.Circuit.{operand, width_of, CellFits, SizedCellFits, HaveNets, IsNet}
use Rattle.ae_netlist.proofs.Gets.{get_take_within}
use Rattle.ae_netlist.proofs.Settled.{each_operand}
use Rattle.ae_vmodule.specs.ModuleTree.{ExprTree, constant, index, part}
use Rattle.ae_vmodule.specs.declared.module.BinOp.{BinOp}
use Rattle.ae_vmodule.specs.declared.module.BinOp.TheVariants.{Shl as LeftBy, Shr as RightBy}
use Rattle.ae_verilog.specs.NetlistModule.{port_name, number_name, cell_name, name_in, net_name, net_value, op_expression, shifted_net, cast_to}
use Rattle.ae_verilog.specs.Text.{PortFits, CellPortFits, sign_text, expr_text, range_text, wire_text, value_text, widened_text, op_text, is_cast, declaration_text, memory_edge, edge_text, input_text, output_text, assignment_text}
use Rattle.ae_spelled.proofs.Named.{IsGood, fits_at, net_within, net_inside}

-- a text is not longer than so many bytes
pub record IsUpTo (n : ℕ) (text : List ℕ) : Type 0 where
  pub most : length text ≤ n

pub short : {n : ℕ} {text : List ℕ} → length text ≤ n → IsUpTo n text
short h = record { most = h }

pub both : (m n : ℕ) (a b : List ℕ) → IsUpTo m a → IsUpTo n b → IsUpTo (m + n) (a ++ b)
both m n a b h k = record { most = omega (arith, length-append a b, h.most, k.most) }

pub looser : (m more : ℕ) (a : List ℕ) → IsUpTo m a → IsUpTo (m + more) a
looser m more a h = record { most = omega (arith, h.most) }

-- numbers of 32 bits have at most 10 digits, those of 64 bits 20
pub digits_32 : (n : ℕ) → n < 2 ^ 32 → IsUpTo 10 (decimal n)
digits_32 n h = record { most = length-decimal-le 10 n (lit< tt) (omega (arith, h)) (omega (arith, h)) }

digits_64 : (n : ℕ) → n < 2 ^ 64 → IsUpTo 20 (decimal n)
digits_64 n h = record { most = length-decimal-le 20 n (lit< tt) (omega (arith, h)) h }

-- ---- names

three_up : (p l w : ℕ) → p < 2 ^ 32 → l < 2 ^ 32 → w < 2 ^ 32 → IsUpTo 32 (decimal p ++ (codes "_" ++ (decimal l ++ (codes "_" ++ decimal w))))
three_up p l w hp hl hw =
    both 10 22 (decimal p) _ (digits_32 p hp) (both 1 21 (codes "_") _ (short (lit≤ tt))
    (both 10 11 (decimal l) _ (digits_32 l hl) (both 1 10 (codes "_") _ (short (lit≤ tt)) (digits_32 w hw))))

two_up : (l w : ℕ) → l < 2 ^ 32 → w < 2 ^ 32 → IsUpTo 21 (decimal l ++ (codes "_" ++ decimal w))
two_up l w hl hw = both 10 11 (decimal l) _ (digits_32 l hl) (both 1 10 (codes "_") _ (short (lit≤ tt)) (digits_32 w hw))

pub choose_up : (n : ℕ) (t : Bool) (a b : List ℕ) → IsUpTo n a → IsUpTo n b → IsUpTo n (if t then a else b)
choose_up n true a b h k = h
choose_up n false a b h k = k

handshake_up : (outs : ℕ) (wire : Handshake) → IsUpTo 33 (port_name outs (Stream wire))
handshake_up outs SourceValid = short (lit≤ tt)
handshake_up outs SourceReady = short (lit≤ tt)
handshake_up outs SinkValid = short (lit≤ tt)
handshake_up outs SinkReady = short (lit≤ tt)

pub port_up : (outs : ℕ) (port : Port) → PortFits port → IsUpTo 33 (port_name outs port)
port_up outs Reset h = short (lit≤ tt)
port_up outs Enable h = short (lit≤ tt)
port_up outs (Stream wire) h = handshake_up outs wire
port_up outs (In param lane word) h = both 1 32 (codes "i") _ (short (lit≤ tt)) (three_up param lane word h.0 h.1 h.2)
port_up outs (Out result lane word) h =
    choose_up 33 (outs == 1) (codes "o_" ++ (decimal lane ++ (codes "_" ++ decimal word)))
    (codes "o" ++ (decimal result ++ (codes "_" ++ (decimal lane ++ (codes "_" ++ decimal word)))))
    (looser 23 10 _ (both 2 21 (codes "o_") _ (short (lit≤ tt)) (two_up lane word h.1 h.2)))
    (both 1 32 (codes "o") _ (short (lit≤ tt)) (three_up result lane word h.0 h.1 h.2))
port_up outs (Plain k) h = looser 11 22 _ (both 1 10 (codes "p") _ (short (lit≤ tt)) (digits_32 k h))

module _ (lines : ℕ → ℕ) (numbers : (k : ℕ) → lines k < 2 ^ 32) (cells : List SizedCell) (good : IsGood cells) where
  number_up : (k : ℕ) → k < 2 ^ 32 → IsUpTo 23 (number_name lines k)
  unfolding number_name
  number_up k h =
      choose_up 23 (lines k == 0) (codes "n" ++ decimal k) (codes "l" ++ (decimal (lines k) ++ (codes "_n" ++ decimal k)))
      (looser 11 12 _ (both 1 10 (codes "n") _ (short (lit≤ tt)) (digits_32 k h)))
      (both 1 22 (codes "l") _ (short (lit≤ tt)) (both 10 12 (decimal (lines k)) _ (digits_32 (lines k) (numbers k))
      (both 2 10 (codes "_n") _ (short (lit≤ tt)) (digits_32 k h))))

  cell_up : (k : ℕ) (sized : SizedCell) → k < 2 ^ 32 → slice_get cells k ≡ Some sized → IsUpTo 33 (cell_name lines k sized.cell)
  cell_up k sized h e = by_cell sized.cell (fits_at cells k sized good e)
    where
      other : IsUpTo 33 (number_name lines k)
      other = looser 23 10 _ (number_up k h)

      by_cell : (cell : Cell) → CellPortFits cell → IsUpTo 33 (cell_name lines k cell)
      by_cell (Input port) fits = port_up 1 port fits
      by_cell (Const v) fits = other
      by_cell (Op op args) fits = other
      by_cell (Reg next) fits = other
      by_cell (Mem depth at next enable) fits = other
      by_cell (Peek mem at) fits = other

  name_up : (net : ℕ) → net < length cells → IsUpTo 33 (net_name lines cells net)
  unfolding net_name
  name_up net within =
      let few = good.few in
      elim (slice_get cells net) as (λ o. slice_get cells net ≡ o → IsUpTo 33 (name_in lines net o)) [
        | None ↦ λ e. looser 23 10 _ (number_up net (omega arith))
        | Some sized ↦ λ e. cell_up net sized (omega arith) e
      ] refl

  -- ---- values

  -- two names around a sign
  joined_up : (a b sign : List ℕ) → IsUpTo 33 a → IsUpTo 2 sign → IsUpTo 33 b → IsUpTo 70 (a ++ (codes " " ++ (sign ++ (codes " " ++ b))))
  joined_up a b sign ha hs hb = both 33 37 a _ ha (both 1 36 (codes " ") _ (short (lit≤ tt))
      (both 2 34 sign _ hs (both 1 33 (codes " ") b (short (lit≤ tt)) hb)))

  plain_up : (a b sign : List ℕ) → IsUpTo 33 a → IsUpTo 2 sign → IsUpTo 33 b → IsUpTo 142 (a ++ (codes " " ++ (sign ++ (codes " " ++ b))))
  plain_up a b sign ha hs hb = looser 70 72 _ (joined_up a b sign ha hs hb)

  choice_up : (test a b : List ℕ) → IsUpTo 70 test → IsUpTo 33 a → IsUpTo 33 b → IsUpTo 142 (test ++ (codes " ? " ++ (a ++ (codes " : " ++ b))))
  choice_up test a b ht ha hb = both 70 72 test _ ht (both 3 69 (codes " ? ") _ (short (lit≤ tt))
      (both 33 36 a _ ha (both 3 33 (codes " : ") b (short (lit≤ tt)) hb)))

  -- a word by its width, and a number within it
  constant_up : (w v : ℕ) → w ≤ 64 → v < 2 ^ 64 → IsUpTo 142 (decimal w ++ (codes "'d" ++ decimal v))
  constant_up w v high below = looser 32 110 _ (both 10 22 (decimal w) _ (digits_32 w (omega arith))
      (both 2 20 (codes "'d") _ (short (lit≤ tt)) (digits_64 v below)))

  shift_up : (op : BinOp) (width a by : ℕ) → width ≤ 64 → IsUpTo 2 (sign_text op) → IsUpTo 33 (net_name lines cells a)
      → IsUpTo 142 (expr_text (shifted_net lines cells op width a by))
  shift_up op width a by high sign named = elim (cases_Bool (nat_lt by width)) [
    | inl less ↦
        let below : by < 64 = (let l = ltb-true by width less in omega arith) in
        subst (λ x. IsUpTo 142 (expr_text x)) (sym (cond-true _ _ _ less))
        (looser 59 83 _ (both 33 26 (net_name lines cells a) _ named
        (both 1 25 (codes " ") _ (short (lit≤ tt)) (both 2 23 (sign_text op) _ sign (both 1 22 (codes " ") _ (short (lit≤ tt))
        (both 10 12 (decimal 6) _ (digits_32 6 (lit< tt)) (both 2 10 (codes "'d") _ (short (lit≤ tt)) (digits_32 by (omega arith)))))))))
    | inr past ↦ subst (λ x. IsUpTo 142 (expr_text x)) (sym (cond-false _ _ _ past)) (constant_up width 0 high (lit< tt))
  ]

  cast_up : (to a : ℕ) → to ≤ 64 → IsUpTo 33 (net_name lines cells a) → IsUpTo 142 (expr_text (cast_to lines cells to a))
  cast_up to a high named = elim (nat_lt to (width_of cells a)) as
      (λ t. IsUpTo 142 (expr_text (if t then part (net_name lines cells a) (to - 1) 0 else net_value lines cells a))) [
        | true ↦ looser 56 86 _ (both 33 23 (net_name lines cells a) _ named
            (both 1 22 (codes "[") _ (short (lit≤ tt)) (both 10 12 (decimal (to - 1)) _ (digits_32 (to - 1) (omega arith))
            (both 1 11 (codes ":") _ (short (lit≤ tt)) (both 10 1 (decimal 0) _ (digits_32 0 (lit< tt)) (short (lit≤ tt)))))))
        | false ↦ looser 33 109 _ named
      ]

  op_up : (width : ℕ) (op : WordOp) (a b c : ℕ) → width ≤ 64 → HasRange op → IsUpTo 33 (net_name lines cells a) → IsUpTo 33 (net_name lines cells b)
      → IsUpTo 33 (net_name lines cells c) → IsUpTo 142 (expr_text (op_expression lines cells width op a b c))
  op_up width Add a b c high range ha hb hc = plain_up _ _ (codes "+") ha (short (lit≤ tt)) hb
  op_up width Sub a b c high range ha hb hc = plain_up _ _ (codes "-") ha (short (lit≤ tt)) hb
  op_up width Mul a b c high range ha hb hc = plain_up _ _ (codes "*") ha (short (lit≤ tt)) hb
  op_up width And a b c high range ha hb hc = plain_up _ _ (codes "&") ha (short (lit≤ tt)) hb
  op_up width Or a b c high range ha hb hc = plain_up _ _ (codes "|") ha (short (lit≤ tt)) hb
  op_up width Xor a b c high range ha hb hc = plain_up _ _ (codes "^") ha (short (lit≤ tt)) hb
  op_up width Not a b c high range ha hb hc = looser 34 108 _ (both 1 33 (codes "~") _ (short (lit≤ tt)) ha)
  op_up width Min a b c high range ha hb hc = choice_up _ _ _ (joined_up _ _ (codes "<") ha (short (lit≤ tt)) hb) ha hb
  op_up width Max a b c high range ha hb hc = choice_up _ _ _ (joined_up _ _ (codes "<") ha (short (lit≤ tt)) hb) hb ha
  op_up width Eq a b c high range ha hb hc = plain_up _ _ (codes "==") ha (short (lit≤ tt)) hb
  op_up width Lt a b c high range ha hb hc = plain_up _ _ (codes "<") ha (short (lit≤ tt)) hb
  op_up width Mux a b c high range ha hb hc = choice_up _ _ _ (looser 33 37 _ ha) hb hc
  op_up width (Shl by) a b c high range ha hb hc = shift_up LeftBy width a by high (short (lit≤ tt)) ha
  op_up width (Shr by) a b c high range ha hb hc = shift_up RightBy width a by high (short (lit≤ tt)) ha
  op_up width (Cast to) a b c high range ha hb hc = cast_up to a range.1 ha
  op_up width SLt a b c high range ha hb hc = looser 33 109 _ ha
  op_up width SMin a b c high range ha hb hc = looser 33 109 _ ha
  op_up width SMax a b c high range ha hb hc = looser 33 109 _ ha
  op_up width (Sar by) a b c high range ha hb hc = looser 33 109 _ ha
  op_up width (SCast to) a b c high range ha hb hc = looser 33 109 _ ha

  -- ---- lines

  range_up : (width : ℕ) → width ≤ 64 → IsUpTo 16 (range_text width)
  range_up width high =
      choose_up 16 (nat_lt 1 width) (codes "[" ++ (decimal (width - 1) ++ codes ":0] ")) []
      (both 1 15 (codes "[") _ (short (lit≤ tt)) (both 10 5 (decimal (width - 1)) _ (digits_32 (width - 1) (omega arith)) (short (lit≤ tt)))) (short (lit≤ tt))

  value_up : (width net : ℕ) (value : ExprTree) → width ≤ 64 → net < 2 ^ 32 → IsUpTo 142 (expr_text value) → IsUpTo 193 (value_text lines width net value)
  value_up width net value high below h =
      both 49 144 (wire_text lines width net) _
      (both 7 42 (codes "  wire ") _ (short (lit≤ tt)) (both 16 26 (range_text width) _ (range_up width high)
      (both 23 3 (number_name lines net) _ (number_up net below) (short (lit≤ tt)))))
      (both 142 2 (expr_text value) _ h (short (lit≤ tt)))

  operator_up : (width net : ℕ) (op : WordOp) (a b c : ℕ) → width ≤ 64 → net < 2 ^ 32 → IsUpTo 142 (expr_text (op_expression lines cells width op a b c))
      → IsUpTo 256 (op_text lines cells width net op a b c)
  operator_up width net op a b c high below h =
      let value : ExprTree = op_expression lines cells width op a b c in
      choose_up 256 (is_cast op && nat_lt (width_of cells a) width) (widened_text lines width net value) (value_text lines width net value)
      (looser 252 4 _ (both 30 222 (codes "  // verilator lint_off WIDTH\n") _ (short (lit≤ tt))
      (both 193 29 (value_text lines width net value) _ (value_up width net value high below h) (short (lit≤ tt)))))
      (looser 193 63 _ (value_up width net value high below h))

  -- every cell at its number
  module _ (k : ℕ) (sized : SizedCell) (at : slice_get cells k ≡ Some sized) where
    inside : k < length cells
    inside = slice_get_within cells k sized at

    below : k < 2 ^ 32
    below = let few = good.few in omega (arith, inside)

    early : (a w : ℕ) → IsNet (take k cells) a w → IsUpTo 33 (net_name lines cells a)
    early a w net = name_up a (net_within cells k a w (omega (arith, inside)) net)

    any : (a w : ℕ) → IsNet cells a w → IsUpTo 33 (net_name lines cells a)
    any a w net = name_up a (net_inside cells a w net)

    pub declared_up : IsUpTo 256 (declaration_text lines cells k sized.width sized.cell)
    declared_up = by_cell sized.cell fits.cell
      where
        fits : SizedCellFits (take k cells) cells k sized
        fits = good.formed.each k sized at

        high : sized.width ≤ 64
        high = fits.high

        by_cell : (cell : Cell) → CellFits (take k cells) cells k sized.width cell → IsUpTo 256 (declaration_text lines cells k sized.width cell)
        by_cell (Input port) h = short (lit≤ tt)
        by_cell (Const v) h =
            let most : 2 ^ sized.width ≤ 2 ^ 64 = pow-le-pow_right {n = 2} (lit< tt) high in
            looser 193 63 _ (value_up sized.width k (constant sized.width v true) high below (constant_up sized.width v high (omega (arith, most, h))))
        by_cell (Op op args) h =
            let n = each_operand op (IsNet (take k cells)) (λ a. IsUpTo 33 (net_name lines cells a)) args _ h.operands early in
            operator_up sized.width k op (operand args 0) (operand args 1) (operand args 2) high below
            (op_up sized.width op (operand args 0) (operand args 1) (operand args 2) high h.range n.0 n.1 n.2)
        by_cell (Reg next) h = looser 47 209 _ (both 6 41 (codes "  reg ") _ (short (lit≤ tt))
            (both 16 25 (range_text sized.width) _ (range_up sized.width high) (both 23 2 (number_name lines k) _ (number_up k below) (short (lit≤ tt)))))
        by_cell (Mem depth a next enable) h =
            looser 63 193 _ (both 6 57 (codes "  reg ") _ (short (lit≤ tt))
            (both 16 41 (range_text sized.width) _ (range_up sized.width high) (both 23 18 (number_name lines k) _ (number_up k below)
            (both 4 14 (codes " [0:") _ (short (lit≤ tt)) (both 10 4 (decimal (depth - 1)) _ (digits_32 (depth - 1) (omega (arith, h.1))) (short (lit≤ tt)))))))
        by_cell (Peek mem a) h =
            let named : IsUpTo 33 (net_name lines cells mem.0) = name_up mem.0
            (let m = get_take_within cells k mem.0 _ h.memory.found in omega (arith, inside, m)) in
            let value : ExprTree = index (net_name lines cells mem.0) (net_value lines cells a.0) in
            looser 193 63 _ (value_up sized.width k value high below
            (looser 68 74 _ (both 33 35 (net_name lines cells mem.0) _ named
            (both 1 34 (codes "[") _ (short (lit≤ tt)) (both 33 1 (net_name lines cells a.0) _ (early a.0 _ h.address.net) (short (lit≤ tt)))))))

    pub edge_up : IsUpTo 256 (edge_text lines cells k sized.cell)
    edge_up = by_cell sized.cell (good.formed.each k sized at).cell
      where
        own : IsUpTo 33 (net_name lines cells k)
        own = name_up k inside

        memory_up : (a next enable : ℕ) → IsUpTo 33 (net_name lines cells a) → IsUpTo 33 (net_name lines cells next) → IsUpTo 33 (net_name lines cells enable)
            → IsUpTo 256 (memory_edge (number_name lines k) (net_name lines cells a) (net_name lines cells next) (net_name lines cells enable))
        memory_up a next enable ha hn he =
            looser 160 96 _ (both 28 132 (codes "  always @(posedge clk) if (") _ (short (lit≤ tt))
            (both 33 99 (net_name lines cells enable) _ he (both 2 97 (codes ") ") _ (short (lit≤ tt))
            (both 23 74 (number_name lines k) _ (number_up k below)
            (both 1 73 (codes "[") _ (short (lit≤ tt)) (both 33 40 (net_name lines cells a) _ ha
            (both 5 35 (codes "] <= ") _ (short (lit≤ tt)) (both 33 2 (net_name lines cells next) _ hn (short (lit≤ tt))))))))))

        by_cell : (cell : Cell) → CellFits (take k cells) cells k sized.width cell → IsUpTo 256 (edge_text lines cells k cell)
        by_cell (Input port) h = short (lit≤ tt)
        by_cell (Const v) h = short (lit≤ tt)
        by_cell (Op op args) h = short (lit≤ tt)
        by_cell (Reg next) h = looser 86 170 _ (both 24 62 (codes "  always @(posedge clk) ") _ (short (lit≤ tt))
            (both 23 39 (number_name lines k) _ (number_up k below)
            (both 4 35 (codes " <= ") _ (short (lit≤ tt)) (both 33 2 (net_name lines cells next.0) _ (any next.0 _ h) (short (lit≤ tt))))))
        by_cell (Mem depth a next enable) h = elim h.2 [
          | inl self ↦ memory_up a.0 next.0 enable.0 (subst (λ (m : ℕ). IsUpTo 33 (net_name lines cells m)) (sym self.at_own) own)
              (subst (λ (m : ℕ). IsUpTo 33 (net_name lines cells m)) (sym self.next_own) own)
              (subst (λ (m : ℕ). IsUpTo 33 (net_name lines cells m)) (sym self.enable_own) own)
          | inr w ↦ memory_up a.0 next.0 enable.0 (any a.0 _ w.address.net) (any next.0 _ w.word) (any enable.0 _ w.bit)
        ]
        by_cell (Peek mem a) h = short (lit≤ tt)

    pub input_up : IsUpTo 256 (input_text sized.width sized.cell)
    input_up = by_cell sized.cell (fits_at cells k sized good at)
      where
        high : sized.width ≤ 64
        high = (good.formed.each k sized at).high

        by_cell : (cell : Cell) → CellPortFits cell → IsUpTo 256 (input_text sized.width cell)
        by_cell (Input port) h = looser 64 192 _ (both 15 49 (codes ",\n  input wire ") _ (short (lit≤ tt))
            (both 16 33 (range_text sized.width) _ (range_up sized.width high) (port_up 1 port h)))
        by_cell (Const v) h = short (lit≤ tt)
        by_cell (Op op args) h = short (lit≤ tt)
        by_cell (Reg next) h = short (lit≤ tt)
        by_cell (Mem depth a next enable) h = short (lit≤ tt)
        by_cell (Peek mem a) h = short (lit≤ tt)

  -- every output
  module _ (outlets : List Outlet) (outs : ℕ) (have : HaveNets cells outlets) (j : ℕ) (outlet : Outlet) (at : slice_get outlets j ≡ Some outlet)
      (fits : PortFits outlet.port) where
    shown : IsNet cells outlet.net.0 (width_of cells outlet.net.0)
    shown = have.each j outlet at

    wide : width_of cells outlet.net.0 ≤ 64
    wide = subst (λ w. w ≤ 64) shown.wide (good.formed.each outlet.net.0 shown.sized shown.found).high

    pub output_up : IsUpTo 256 (output_text cells outs outlet)
    output_up = looser 65 191 _ (both 16 49 (codes ",\n  output wire ") _ (short (lit≤ tt))
        (both 16 33 (range_text (width_of cells outlet.net.0)) _ (range_up (width_of cells outlet.net.0) wide) (port_up outs outlet.port fits)))

    pub assigned_up : IsUpTo 256 (assignment_text lines cells outs outlet)
    assigned_up = looser 80 176 _ (both 9 71 (codes "  assign ") _ (short (lit≤ tt))
        (both 33 38 (port_name outs outlet.port) _ (port_up outs outlet.port fits)
        (both 3 35 (codes " = ") _ (short (lit≤ tt)) (both 33 2 (net_name lines cells outlet.net.0) _ (name_up outlet.net.0 (net_inside cells _ _ shown))
        (short (lit≤ tt))))))
