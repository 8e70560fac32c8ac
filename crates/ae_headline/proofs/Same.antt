-- The short form of a listing is the text that is written.
use Rattle.std.proofs.Common.{◌≡◌, ℕ, ◌-◌, Bool, true, false, List, ◌++◌, length, refl, ap, arith}
use Rattle.std.specs.Prelude.{◌&&◌, nat_lt, codes, decimal, if◌then◌else◌}
use Rattle.ae_word.specs.WordTable.{row_of}
use Rattle.std.proofs.lemmas.Fmt.{decimal_digit}
use Rattle.std.specs.List.{flat_map}
use Rattle.ae_word.specs.declared.op.WordOp.{WordOp}
use Rattle.ae_word.specs.declared.op.WordOp.TheVariants.{Add, Sub, Mul, And, Or, Xor, Not, Min, Max, Eq, Lt, Mux, Shl, Shr, Cast, SLt, SMin, SMax, Sar, SCast}
use Rattle.ae_netlist.specs.declared.cell.Cell.{Cell}
use Rattle.ae_netlist.specs.declared.cell.Cell.TheVariants.{Input, Const, Op, Reg, Mem, Peek}
use Rattle.ae_netlist.specs.declared.cell.SizedCell.{SizedCell}
use Rattle.ae_netlist.specs.Circuit.{Circuit, operand, width_of}
use Rattle.ae_vmodule.specs.ModuleTree.{binary, constant, part}
use Rattle.ae_verilog.specs.NetlistModule.{net_name, net_value, each_numbered, op_expression, shifted_net, cast_to}
use Rattle.ae_vmodule.specs.declared.module.BinOp.{BinOp}
use Rattle.ae_vmodule.specs.declared.module.BinOp.TheVariants.{Shl as LeftBy, Shr as RightBy}
use Rattle.ae_verilog.specs.Notes.{NoteTree, lines_of}
use Rattle.ae_verilog.specs.ReportLines.{ReportTree, report_lines}
use Rattle.ae_verilog.specs.Text.{expr_text, sign_text, shift_text, op_text, value_text, widened_text, declaration_text, noted, header_text, assignment_text, edge_text, whole_text}
use Rattle.ae_headline.specs.Listing.{op_line, wire, quiet, cell_line, edge_line, listing}

shift_same : (lines : ℕ → ℕ) (cells : List SizedCell) (sign : BinOp) (w by a : ℕ)
    → expr_text (shifted_net lines cells sign w a by) ≡ shift_text (net_name lines cells a) (sign_text sign) w by
shift_same lines cells sign w by a = choose (nat_lt by w)
  where
    choose : (t : Bool) → expr_text (if t then binary sign (net_value lines cells a) (constant 6 by true) else constant w 0 true)
        ≡ (if t then net_name lines cells a ++ (codes " " ++ (sign_text sign ++ (codes " 6'd" ++ decimal by))) else decimal w ++ codes "'d0")
    choose true = ap (λ l. net_name lines cells a ++ (codes " " ++ (sign_text sign ++ (codes " " ++ (l ++ (codes "'d" ++ decimal by))))))
        (decimal_digit 6 (omega arith))
    choose false = ap (λ l. decimal w ++ (codes "'d" ++ l)) (decimal_digit 0 (omega arith))

cast_same : (lines : ℕ → ℕ) (cells : List SizedCell) (to a : ℕ)
    → expr_text (cast_to lines cells to a) ≡ (if nat_lt to (width_of cells a) then net_name lines cells a
    ++ (codes "[" ++ (decimal (to - 1) ++ (codes ":" ++ (decimal 0 ++ codes "]")))) else net_name lines cells a)
cast_same lines cells to a = choose (nat_lt to (width_of cells a))
  where
    choose : (t : Bool) → expr_text (if t then part (net_name lines cells a) (to - 1) 0 else net_value lines cells a)
        ≡ (if t then net_name lines cells a ++ (codes "[" ++ (decimal (to - 1) ++ (codes ":" ++ (decimal 0 ++ codes "]")))) else net_name lines cells a)
    choose true = refl
    choose false = refl

value_same : (lines : ℕ → ℕ) (cells : List SizedCell) (w : ℕ) (op : WordOp) (a b c : ℕ)
    → expr_text (op_expression lines cells w op a b c) ≡ op_line op w (width_of cells a) (net_name lines cells a) (net_name lines cells b)
    (net_name lines cells c)
value_same lines cells w Add a b c = refl
value_same lines cells w Sub a b c = refl
value_same lines cells w Mul a b c = refl
value_same lines cells w And a b c = refl
value_same lines cells w Or a b c = refl
value_same lines cells w Xor a b c = refl
value_same lines cells w Not a b c = refl
value_same lines cells w Min a b c = refl
value_same lines cells w Max a b c = refl
value_same lines cells w Eq a b c = refl
value_same lines cells w Lt a b c = refl
value_same lines cells w Mux a b c = refl
value_same lines cells w (Shl by) a b c = shift_same lines cells LeftBy w by a
value_same lines cells w (Shr by) a b c = shift_same lines cells RightBy w by a
value_same lines cells w (Cast to) a b c = cast_same lines cells to a
value_same lines cells w SLt a b c = refl
value_same lines cells w SMin a b c = refl
value_same lines cells w SMax a b c = refl
value_same lines cells w (Sar by) a b c = refl
value_same lines cells w (SCast to) a b c = refl

plain_value : (lines : ℕ → ℕ) (cells : List SizedCell) (net w a b d : ℕ) (op : WordOp)
    → value_text lines w net (op_expression lines cells w op a b d) ≡ wire lines w net
    (op_line op w (width_of cells a) (net_name lines cells a) (net_name lines cells b) (net_name lines cells d))
plain_value lines cells net w a b d op = ap (wire lines w net) (value_same lines cells w op a b d)

op_same : (lines : ℕ → ℕ) (cells : List SizedCell) (net w a b d : ℕ) (op : WordOp)
    → op_text lines cells w net op a b d ≡ quiet op w (width_of cells a)
    (wire lines w net (op_line op w (width_of cells a) (net_name lines cells a) (net_name lines cells b) (net_name lines cells d)))
op_same lines cells net w a b d op = choose ((row_of op).casts && nat_lt (width_of cells a) w)
  where
    choose : (t : Bool) → (if t then widened_text lines w net (op_expression lines cells w op a b d) else value_text lines w net
        (op_expression lines cells w op a b d))
        ≡ (if t then codes "  // verilator lint_off WIDTH\n"
        ++ (wire lines w net (op_line op w (width_of cells a) (net_name lines cells a) (net_name lines cells b) (net_name lines cells d))
        ++ codes "  // verilator lint_on WIDTH\n")
        else wire lines w net (op_line op w (width_of cells a) (net_name lines cells a) (net_name lines cells b) (net_name lines cells d)))
    choose true = ap (λ l. codes "  // verilator lint_off WIDTH\n" ++ (l ++ codes "  // verilator lint_on WIDTH\n"))
        (plain_value lines cells net w a b d op)
    choose false = plain_value lines cells net w a b d op

line_same : (lines : ℕ → ℕ) (cells : List SizedCell) (net width : ℕ) (cell : Cell)
    → declaration_text lines cells net width cell ≡ cell_line lines cells net width cell
line_same lines cells net w (Input port) = refl
line_same lines cells net w (Const k) = refl
line_same lines cells net w (Op op args) = op_same lines cells net w (operand args 0) (operand args 1) (operand args 2) op
line_same lines cells net w (Reg next) = refl
line_same lines cells net w (Mem depth at next enable) = refl
line_same lines cells net w (Peek mem at) = refl

edge_same : (lines : ℕ → ℕ) (cells : List SizedCell) (net : ℕ) (cell : Cell) → edge_text lines cells net cell ≡ edge_line lines cells net cell
edge_same lines cells net (Input port) = refl
edge_same lines cells net (Const k) = refl
edge_same lines cells net (Op op args) = refl
edge_same lines cells net (Reg next) = refl
edge_same lines cells net (Mem depth at next enable) = refl
edge_same lines cells net (Peek mem at) = refl

pub listing_same : (r : ReportTree) (notes : List NoteTree) (n : Circuit) (outs : ℕ)
    → whole_text (report_lines r) notes n.cells n.outlets outs ≡ listing r notes n outs
listing_same r notes n outs i =
    let lines = lines_of notes (length n.cells) in
    report_lines r
    ++ (codes "// verilator lint_off CMPCONST\n// verilator lint_off DECLFILENAME\n// verilator lint_off UNSIGNED\n// verilator lint_off UNUSEDSIGNAL\n"
    ++ (header_text (codes "aeth") n.cells n.outlets outs
    ++ (noted (λ net (sized : SizedCell). line_same lines n.cells net sized.width sized.cell i) n.cells 0 notes
    ++ (flat_map (assignment_text lines n.cells outs) n.outlets
    ++ (each_numbered (λ net (sized : SizedCell). edge_same lines n.cells net sized.cell i) 0 n.cells ++ codes "endmodule\n")))))
