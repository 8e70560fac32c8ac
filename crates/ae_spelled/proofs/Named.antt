-- In a netlist all names are names, and the values of operators can be written.
use Rattle.std.proofs.Common.{◌≡◌, ℕ, ◌-◌, ◌<◌, ◌≤◌, ◌^◌, List, ◌++◌, length, take, true, false, Some, None, refl, sym, subst, arith, inl, inr, All, lit≤, lit<}
use Rattle.std.specs.Prelude.{codes, decimal, nat_lt, ◌==◌, slice_get, if◌then◌else◌}
use Rattle.std.specs.List.{list_all}
use Rattle.std.proofs.lemmas.Bool.{cases_Bool, cond-true, cond-false, ltb-true}
use Rattle.std.proofs.lemmas.Option.{slice_get_within, get_or_from_slice_get}
use Rattle.std.proofs.Math.Nat.{pow-le-pow_right}
use Rattle.std.proofs.lemmas.Nat.{pow_pos}
use Rattle.ae_netlist.proofs.Gets.{get_take_within}
use Rattle.ae_word.specs.declared.op.WordOp.{WordOp}
use Rattle.ae_word.specs.declared.op.WordOp.TheVariants.{Add, Sub, Mul, And, Or, Xor, Not, Min, Max, Eq, Lt, Mux, Shl, Shr, Cast, SLt, SMin, SMax, Sar, SCast}
use Rattle.ae_word.specs.WordTable.{HasRange}
use Rattle.ae_netlist.specs.declared.cell.NetId.{NetId}
use Rattle.ae_netlist.specs.declared.cell.Handshake.{Handshake}
use Rattle.ae_netlist.specs.declared.cell.Handshake.TheVariants.{SourceValid, SourceReady, SinkValid, SinkReady}
use Rattle.ae_netlist.specs.declared.cell.Port.{Port}
use Rattle.ae_netlist.specs.declared.cell.Port.TheVariants.{Reset, Enable, Stream, In, Out, Plain}
use Rattle.ae_netlist.specs.declared.cell.Cell.{Cell}
use Rattle.ae_netlist.specs.declared.cell.Cell.TheVariants.{Input, Const, Op, Reg, Mem, Peek}
use Rattle.ae_netlist.specs.declared.cell.SizedCell.{SizedCell}
use Rattle.ae_netlist.specs.Circuit.{operand, width_of, OperandsAre, IsNet, IsFormed}
use Rattle.ae_vmodule.specs.ModuleTree.{name, constant, part, binary}
use Rattle.ae_vmodule.specs.declared.module.BinOp.{BinOp}
use Rattle.ae_vmodule.specs.declared.module.BinOp.TheVariants.{Shl as LeftBy, Shr as RightBy}
use Rattle.ae_vread.specs.Forms.{IsDrive}
use Rattle.ae_verilog.specs.NetlistModule.{port_name, cell_name, name_in, net_name, net_value, op_expression, shifted_net, cast_to}
use Rattle.ae_verilog.specs.Text.{PortFits, CellPortFits}
use Rattle.ae_spelled.proofs.Pieces.{IsNameText, marked_name, named_both, decimal_named, decimal_starts, number_named, is_name_byte}
use Rattle.ae_spelled.proofs.Writable.{IsConstant, IsWritable}
use Rattle.ae_spelled.proofs.Lines.{net_named, rst_named, en_named, driven}

-- numbers joined by _
two_numbers : (a b : ℕ) → list_all is_name_byte (decimal a ++ (codes "_" ++ decimal b)) ≡ true
two_numbers a b = named_both (decimal a) _ (decimal_named a) (named_both (codes "_") (decimal b) refl (decimal_named b))

three_numbers : (a b c : ℕ) → list_all is_name_byte (decimal a ++ (codes "_" ++ (decimal b ++ (codes "_" ++ decimal c)))) ≡ true
three_numbers a b c =
    named_both (decimal a) (codes "_" ++ (decimal b ++ (codes "_" ++ decimal c))) (decimal_named a)
    (named_both (codes "_") (decimal b ++ (codes "_" ++ decimal c)) refl (two_numbers b c))

result_named : (outs result lane word : ℕ) → IsNameText (port_name outs (Out result lane word))
result_named outs result lane word =
    elim (outs == 1) as (λ t. IsNameText (if t then codes "o_" ++ (decimal lane ++ (codes "_" ++ decimal word)) else codes "o"
    ++ (decimal result ++ (codes "_" ++ (decimal lane ++ (codes "_" ++ decimal word)))))) [
      | true ↦ marked_name 111 (codes "_" ++ (decimal lane ++ (codes "_" ++ decimal word))) refl refl
          (named_both (codes "_") (decimal lane ++ (codes "_" ++ decimal word)) refl (two_numbers lane word))
      | false ↦ marked_name 111 _ refl (decimal_starts result (codes "_" ++ (decimal lane ++ (codes "_" ++ decimal word))))
          (three_numbers result lane word)
    ]

handshake_named : (outs : ℕ) (wire : Handshake) → IsNameText (port_name outs (Stream wire))
handshake_named outs SourceValid = marked_name 115 (codes "_valid") refl refl refl
handshake_named outs SourceReady = marked_name 115 (codes "_ready") refl refl refl
handshake_named outs SinkValid = marked_name 109 (codes "_valid") refl refl refl
handshake_named outs SinkReady = marked_name 109 (codes "_ready") refl refl refl

pub port_named : (outs : ℕ) (port : Port) → PortFits port → IsNameText (port_name outs port)
port_named outs Reset h = rst_named
port_named outs Enable h = en_named
port_named outs (Stream wire) h = handshake_named outs wire
port_named outs (In param lane word) h =
    marked_name 105 _ refl (decimal_starts param (codes "_" ++ (decimal lane ++ (codes "_" ++ decimal word))))
    (three_numbers param lane word)
port_named outs (Out result lane word) h = result_named outs result lane word
port_named outs (Plain k) h = number_named 112 k refl

-- a netlist whose cells can be written
pub record IsGood (cells : List SizedCell) : Type 0 where
  pub formed : IsFormed cells
  pub fits : All (λ (sized : SizedCell). CellPortFits sized.cell) cells
  pub few : length cells < 2 ^ 32

pub fits_at : (cells : List SizedCell) (k : ℕ) (sized : SizedCell) → IsGood cells → slice_get cells k ≡ Some sized → CellPortFits sized.cell
fits_at cells k sized good e =
    subst (λ (s : SizedCell). CellPortFits s.cell) (get_or_from_slice_get cells k sized sized e) (good.fits k sized (slice_get_within cells k sized e))

cell_named : (lines : ℕ → ℕ) → (net : ℕ) (cell : Cell) → CellPortFits cell → IsNameText (cell_name lines net cell)
cell_named lines net (Input port) fits = port_named 1 port fits
cell_named lines net (Const k) fits = net_named lines net
cell_named lines net (Op op args) fits = net_named lines net
cell_named lines net (Reg next) fits = net_named lines net
cell_named lines net (Mem depth at next enable) fits = net_named lines net
cell_named lines net (Peek mem at) fits = net_named lines net

pub name_named : (lines : ℕ → ℕ) → (cells : List SizedCell) (net : ℕ) → IsGood cells → net < length cells → IsNameText (net_name lines cells net)
unfolding net_name
name_named lines cells net good within =
    elim (slice_get cells net) as (λ o. slice_get cells net ≡ o → IsNameText (name_in lines net o)) [
      | None ↦ λ e. net_named lines net
      | Some sized ↦ λ e. cell_named lines net sized.cell (fits_at cells net sized good e)
    ] refl

-- the operands of an operator are earlier nets
pub net_within : (cells : List SizedCell) (n a w : ℕ) → n ≤ length cells → IsNet (take n cells) a w → a < length cells
net_within cells n a w few net = omega (arith, get_take_within cells n a net.sized net.found)

pub net_inside : (cells : List SizedCell) (a w : ℕ) → IsNet cells a w → a < length cells
net_inside cells a w net = slice_get_within cells a net.sized net.found

-- the three operands are nets
pub record AreNamed (lines : ℕ → ℕ) (cells : List SizedCell) (a b c : ℕ) : Type 0 where
  pub first : IsNameText (net_name lines cells a)
  pub second : IsNameText (net_name lines cells b)
  pub third : IsNameText (net_name lines cells c)

operands_named : (lines : ℕ → ℕ) → (cells : List SizedCell) (n a b c u v w : ℕ) → IsGood cells → n ≤ length cells → IsNet (take n cells) a u
    → IsNet (take n cells) b v → IsNet (take n cells) c w → AreNamed lines cells a b c
operands_named lines cells n a b c u v w good few ha hb hc = record {
  first = name_named lines cells a good (net_within cells n a u few ha);
  second = name_named lines cells b good (net_within cells n b v few hb);
  third = name_named lines cells c good (net_within cells n c w few hc);
}

pub all_named : (lines : ℕ → ℕ) → (cells : List SizedCell) (n : ℕ) (op : WordOp) (args : List NetId) (w : ℕ) → IsGood cells → n ≤ length cells
    → OperandsAre op (IsNet (take n cells)) args w → AreNamed lines cells (operand args 0) (operand args 1) (operand args 2)
all_named lines cells n Mux args w good few h = operands_named lines cells n _ _ _ _ _ _ good few h.0 h.1 h.2
all_named lines cells n Add args w good few h = operands_named lines cells n _ _ _ _ _ _ good few h.0 h.1 h.2
all_named lines cells n Sub args w good few h = operands_named lines cells n _ _ _ _ _ _ good few h.0 h.1 h.2
all_named lines cells n Mul args w good few h = operands_named lines cells n _ _ _ _ _ _ good few h.0 h.1 h.2
all_named lines cells n And args w good few h = operands_named lines cells n _ _ _ _ _ _ good few h.0 h.1 h.2
all_named lines cells n Or args w good few h = operands_named lines cells n _ _ _ _ _ _ good few h.0 h.1 h.2
all_named lines cells n Xor args w good few h = operands_named lines cells n _ _ _ _ _ _ good few h.0 h.1 h.2
all_named lines cells n Not args w good few h = operands_named lines cells n _ _ _ _ _ _ good few h.0 h.1 h.2
all_named lines cells n Min args w good few h = operands_named lines cells n _ _ _ _ _ _ good few h.0 h.1 h.2
all_named lines cells n Max args w good few h = operands_named lines cells n _ _ _ _ _ _ good few h.0 h.1 h.2
all_named lines cells n Eq args w good few h = operands_named lines cells n _ _ _ _ _ _ good few h.0 h.1 h.2
all_named lines cells n Lt args w good few h = operands_named lines cells n _ _ _ _ _ _ good few h.0 h.1 h.2
all_named lines cells n (Shl k) args w good few h = operands_named lines cells n _ _ _ _ _ _ good few h.0 h.1 h.2
all_named lines cells n (Shr k) args w good few h = operands_named lines cells n _ _ _ _ _ _ good few h.0 h.1 h.2
all_named lines cells n (Cast v) args w good few h = operands_named lines cells n _ _ _ _ _ _ good few h.0 h.1 h.2
all_named lines cells n SLt args w good few h = operands_named lines cells n _ _ _ _ _ _ good few h.0 h.1 h.2
all_named lines cells n SMin args w good few h = operands_named lines cells n _ _ _ _ _ _ good few h.0 h.1 h.2
all_named lines cells n SMax args w good few h = operands_named lines cells n _ _ _ _ _ _ good few h.0 h.1 h.2
all_named lines cells n (Sar k) args w good few h = operands_named lines cells n _ _ _ _ _ _ good few h.0 h.1 h.2
all_named lines cells n (SCast v) args w good few h = operands_named lines cells n _ _ _ _ _ _ good few h.0 h.1 h.2

-- values that can be written

pub is_constant : (w v : ℕ) → 1 ≤ w → w ≤ 64 → v < 2 ^ w → IsConstant w v true
is_constant w v low high below = record { positive = low; small = high; below = below; wide = wide w v high below; right = refl }
  where
    wide : (w v : ℕ) → w ≤ 64 → v < 2 ^ w → v < 2 ^ 64
    wide w v high below = let most : 2 ^ w ≤ 2 ^ 64 = pow-le-pow_right {n = 2} (lit< tt) high in omega (arith, most, below)

shifted_writable : (lines : ℕ → ℕ) → (cells : List SizedCell) (op : BinOp) (width a by : ℕ) → 1 ≤ width → width ≤ 64 → IsNameText (net_name lines cells a)
    → IsWritable (shifted_net lines cells op width a by)
shifted_writable lines cells op width a by low high named = elim (cases_Bool (nat_lt by width)) [
  | inl less ↦
      let below = ltb-true by width less in
      subst IsWritable (sym (cond-true _ _ _ less)) (
        named,
        record { positive = lit< tt; small = lit≤ tt; below = (let h : by < 64 = omega arith in h); wide = omega arith; right = refl },
      )
  | inr past ↦ subst IsWritable (sym (cond-false _ _ _ past)) (is_constant width 0 low high (positive width))
]
  where
    positive : (w : ℕ) → 0 < 2 ^ w
    positive w = pow_pos w

cast_writable : (lines : ℕ → ℕ) → (cells : List SizedCell) (to a : ℕ) → to ≤ 64 → IsNameText (net_name lines cells a) → IsWritable (cast_to lines cells to a)
cast_writable lines cells to a high named =
    elim (nat_lt to (width_of cells a)) as (λ t. IsWritable (if t then part (net_name lines cells a) (to - 1) 0 else net_value lines cells a)) [
      | true ↦ (named, (let h : to - 1 < 2 ^ 32 = omega arith in h), (let h : 0 < 2 ^ 32 = omega arith in h))
      | false ↦ named
    ]

pub op_writable : (lines : ℕ → ℕ) → (cells : List SizedCell) (width : ℕ) (op : WordOp) (a b c : ℕ) → 1 ≤ width → width ≤ 64 → HasRange op
    → AreNamed lines cells a b c → IsWritable (op_expression lines cells width op a b c)
op_writable lines cells width Add a b c low high range n = (n.first, n.second)
op_writable lines cells width Sub a b c low high range n = (n.first, n.second)
op_writable lines cells width Mul a b c low high range n = (n.first, n.second)
op_writable lines cells width And a b c low high range n = (n.first, n.second)
op_writable lines cells width Or a b c low high range n = (n.first, n.second)
op_writable lines cells width Xor a b c low high range n = (n.first, n.second)
op_writable lines cells width Not a b c low high range n = (tt, n.first)
op_writable lines cells width Min a b c low high range n = ((n.first, n.second), n.first, n.second)
op_writable lines cells width Max a b c low high range n = ((n.first, n.second), n.second, n.first)
op_writable lines cells width Eq a b c low high range n = (n.first, n.second)
op_writable lines cells width Lt a b c low high range n = (n.first, n.second)
op_writable lines cells width Mux a b c low high range n = (n.first, n.second, n.third)
op_writable lines cells width (Shl by) a b c low high range n = shifted_writable lines cells _ width a by low high n.first
op_writable lines cells width (Shr by) a b c low high range n = shifted_writable lines cells _ width a by low high n.first
op_writable lines cells width (Cast to) a b c low high range n = cast_writable lines cells to a range.1 n.first
op_writable lines cells width SLt a b c low high range n = n.first
op_writable lines cells width SMin a b c low high range n = n.first
op_writable lines cells width SMax a b c low high range n = n.first
op_writable lines cells width (Sar by) a b c low high range n = n.first
op_writable lines cells width (SCast to) a b c low high range n = n.first

-- values that are formed

plain_drive : (n v : List ℕ) → IsDrive (driven n (name v))
plain_drive n v = record { level = lit≤ tt; formed = tt; depth = lit≤ tt }

shifted_left : (lines : ℕ → ℕ) → (cells : List SizedCell) (width a by : ℕ) (n : List ℕ) → IsDrive (driven n (shifted_net lines cells LeftBy width a by))
shifted_left lines cells width a by n =
    elim (nat_lt by width) as (λ t. IsDrive (driven n (if t then binary LeftBy (net_value lines cells a) (constant 6 by true) else constant width 0 true))) [
      | true ↦ record { level = lit≤ tt; formed = (lit≤ tt, lit< tt, tt, tt); depth = lit≤ tt }
      | false ↦ record { level = lit≤ tt; formed = tt; depth = lit≤ tt }
    ]

shifted_right : (lines : ℕ → ℕ) → (cells : List SizedCell) (width a by : ℕ) (n : List ℕ) → IsDrive (driven n (shifted_net lines cells RightBy width a by))
shifted_right lines cells width a by n =
    elim (nat_lt by width) as (λ t. IsDrive (driven n (if t then binary RightBy (net_value lines cells a) (constant 6 by true) else constant width 0 true))) [
      | true ↦ record { level = lit≤ tt; formed = (lit≤ tt, lit< tt, tt, tt); depth = lit≤ tt }
      | false ↦ record { level = lit≤ tt; formed = tt; depth = lit≤ tt }
    ]

cast_drive : (lines : ℕ → ℕ) → (cells : List SizedCell) (to a : ℕ) (n : List ℕ) → IsDrive (driven n (cast_to lines cells to a))
cast_drive lines cells to a n =
    elim (nat_lt to (width_of cells a)) as (λ t. IsDrive (driven n (if t then part (net_name lines cells a) (to - 1) 0 else net_value lines cells a))) [
      | true ↦ record { level = lit≤ tt; formed = tt; depth = lit≤ tt }
      | false ↦ record { level = lit≤ tt; formed = tt; depth = lit≤ tt }
    ]

pub op_drive : (lines : ℕ → ℕ) → (cells : List SizedCell) (width : ℕ) (op : WordOp) (a b c : ℕ) (n : List ℕ)
    → IsDrive (driven n (op_expression lines cells width op a b c))
op_drive lines cells width Add a b c n = record { level = lit≤ tt; formed = (lit≤ tt, lit< tt, tt, tt); depth = lit≤ tt }
op_drive lines cells width Sub a b c n = record { level = lit≤ tt; formed = (lit≤ tt, lit< tt, tt, tt); depth = lit≤ tt }
op_drive lines cells width Mul a b c n = record { level = lit≤ tt; formed = (lit≤ tt, lit< tt, tt, tt); depth = lit≤ tt }
op_drive lines cells width And a b c n = record { level = lit≤ tt; formed = (lit≤ tt, lit< tt, tt, tt); depth = lit≤ tt }
op_drive lines cells width Or a b c n = record { level = lit≤ tt; formed = (lit≤ tt, lit< tt, tt, tt); depth = lit≤ tt }
op_drive lines cells width Xor a b c n = record { level = lit≤ tt; formed = (lit≤ tt, lit< tt, tt, tt); depth = lit≤ tt }
op_drive lines cells width Not a b c n = record { level = lit≤ tt; formed = (refl, tt); depth = lit≤ tt }
op_drive lines cells width Min a b c n = record { level = lit≤ tt; formed = (lit≤ tt, lit≤ tt, lit≤ tt, (lit≤ tt, lit< tt, tt, tt), tt, tt); depth = lit≤ tt }
op_drive lines cells width Max a b c n = record { level = lit≤ tt; formed = (lit≤ tt, lit≤ tt, lit≤ tt, (lit≤ tt, lit< tt, tt, tt), tt, tt); depth = lit≤ tt }
op_drive lines cells width Eq a b c n = record { level = lit≤ tt; formed = (lit≤ tt, lit< tt, tt, tt); depth = lit≤ tt }
op_drive lines cells width Lt a b c n = record { level = lit≤ tt; formed = (lit≤ tt, lit< tt, tt, tt); depth = lit≤ tt }
op_drive lines cells width Mux a b c n = record { level = lit≤ tt; formed = (lit≤ tt, lit≤ tt, lit≤ tt, tt, tt, tt); depth = lit≤ tt }
op_drive lines cells width (Shl by) a b c n = shifted_left lines cells width a by n
op_drive lines cells width (Shr by) a b c n = shifted_right lines cells width a by n
op_drive lines cells width (Cast to) a b c n = cast_drive lines cells to a n
op_drive lines cells width SLt a b c n = plain_drive n (net_name lines cells a)
op_drive lines cells width SMin a b c n = plain_drive n (net_name lines cells a)
op_drive lines cells width SMax a b c n = plain_drive n (net_name lines cells a)
op_drive lines cells width (Sar by) a b c n = plain_drive n (net_name lines cells a)
op_drive lines cells width (SCast to) a b c n = plain_drive n (net_name lines cells a)
