-- A netlist as it is written, a line of text for each cell: the short form.
use Rattle.std.specs.Prelude.{ℕ, ◌-◌, ◌&&◌, nat_lt, List, [], ◌++◌, length, codes, decimal, if◌then◌else◌}
use Rattle.std.specs.List.{flat_map}
use Rattle.ae_word.specs.WordTable.{row_of}
use Rattle.ae_word.specs.declared.op.WordOp.{WordOp}
use Rattle.ae_word.specs.declared.op.WordOp.TheVariants.{Add, Sub, Mul, And, Or, Xor, Not, Min, Max, Eq, Lt, Mux, Shl, Shr, Cast, SLt, SMin, SMax, Sar, SCast}
use Rattle.ae_netlist.specs.declared.cell.Cell.{Cell}
use Rattle.ae_netlist.specs.declared.cell.Cell.TheVariants.{Input, Const, Op, Reg, Mem, Peek}
use Rattle.ae_netlist.specs.declared.cell.SizedCell.{SizedCell}
use Rattle.ae_netlist.specs.Circuit.{Circuit, operand, width_of}
use Rattle.ae_verilog.specs.NetlistModule.{number_name, net_name, each_numbered}
use Rattle.ae_verilog.specs.Notes.{NoteTree, lines_of}
use Rattle.ae_verilog.specs.ReportLines.{ReportTree, report_lines}
use Rattle.ae_verilog.specs.Text.{arms_text, shift_text, range_text, noted, header_text, assignment_text}

-- two names with a sign between them
abbrev pub signed : (a sign b : List ℕ) → List ℕ
signed a sign b = a ++ (codes " " ++ (sign ++ (codes " " ++ b)))

-- an operator on nets with these names: the word has the width, and the first net is so wide
abbrev pub op_line : WordOp → (width wide : ℕ) → (a b c : List ℕ) → List ℕ
op_line Add w v a b c = signed a (codes "+") b
op_line Sub w v a b c = signed a (codes "-") b
op_line Mul w v a b c = signed a (codes "*") b
op_line And w v a b c = signed a (codes "&") b
op_line Or w v a b c = signed a (codes "|") b
op_line Xor w v a b c = signed a (codes "^") b
op_line Not w v a b c = codes "~" ++ a
op_line Min w v a b c = signed a (codes "<") b ++ arms_text a b
op_line Max w v a b c = signed a (codes "<") b ++ arms_text b a
op_line Eq w v a b c = signed a (codes "==") b
op_line Lt w v a b c = signed a (codes "<") b
op_line Mux w v a b c = a ++ arms_text b c
op_line (Shl by) w v a b c = shift_text a (codes "<<") w by
op_line (Shr by) w v a b c = shift_text a (codes ">>") w by
op_line (Cast to) w v a b c = if nat_lt to v then a ++ (codes "[" ++ (decimal (to - 1) ++ (codes ":" ++ (decimal 0 ++ codes "]")))) else a
op_line SLt w v a b c = a
op_line SMin w v a b c = a
op_line SMax w v a b c = a
op_line (Sar by) w v a b c = a
op_line (SCast to) w v a b c = a

-- a net and its value
abbrev pub wire : (lines : ℕ → ℕ) → (width net : ℕ) (value : List ℕ) → List ℕ
wire lines w n v = (codes "  wire " ++ (range_text w ++ (number_name lines n ++ codes " = "))) ++ (v ++ codes ";\n")

-- a cast to more bits says so to Verilator
abbrev pub quiet : WordOp → (width wide : ℕ) (line : List ℕ) → List ℕ
quiet op w v line = if (row_of op).casts && nat_lt v w then codes "  // verilator lint_off WIDTH\n" ++ (line ++ codes "  // verilator lint_on WIDTH\n") else line

-- the declaration of a cell; an input has none, since it stands among the ports
abbrev pub cell_line : (lines : ℕ → ℕ) (cells : List SizedCell) (net width : ℕ) → Cell → List ℕ
cell_line lines cells n w (Input port) = []
cell_line lines cells n w (Const k) = wire lines w n (decimal w ++ (codes "'d" ++ decimal k))
cell_line lines cells n w (Op op args) =
    quiet op w (width_of cells (operand args 0)) (wire lines w n
    (op_line op w (width_of cells (operand args 0)) (net_name lines cells (operand args 0)) (net_name lines cells (operand args 1)) (net_name lines cells (operand args 2))))
cell_line lines cells n w (Reg next) = codes "  reg " ++ (range_text w ++ (number_name lines n ++ codes ";\n"))
cell_line lines cells n w (Mem depth at next enable) = codes "  reg " ++ (range_text w ++ (number_name lines n ++ (codes " [0:" ++ (decimal (depth - 1) ++ codes "];\n"))))
cell_line lines cells n w (Peek mem at) = wire lines w n (net_name lines cells mem.0 ++ (codes "[" ++ (net_name lines cells at.0 ++ codes "]")))

-- what a register takes at a clock edge, and where a memory is written
abbrev pub edge_line : (lines : ℕ → ℕ) (cells : List SizedCell) (net : ℕ) → Cell → List ℕ
edge_line lines cells n (Input port) = []
edge_line lines cells n (Const k) = []
edge_line lines cells n (Op op args) = []
edge_line lines cells n (Reg next) = codes "  always @(posedge clk) " ++ (number_name lines n ++ (codes " <= " ++ (net_name lines cells next.0 ++ codes ";\n")))
edge_line lines cells n (Mem depth at next enable) =
    codes "  always @(posedge clk) if (" ++ (net_name lines cells enable.0 ++ (codes ") " ++ (number_name lines n
    ++ (codes "[" ++ (net_name lines cells at.0 ++ (codes "] <= " ++ (net_name lines cells next.0 ++ codes ";\n")))))))
edge_line lines cells n (Peek mem at) = []

-- the report lines, and the module: ports, cells with the notes before them, outputs, registers and memories; the names of nets
-- tell the lines of the notes
abbrev pub listing : ReportTree → List NoteTree → Circuit → (outs : ℕ) → List ℕ
listing r notes n outs =
    let lines = lines_of notes (length n.cells) in
    report_lines r
    ++ (codes "// verilator lint_off CMPCONST\n// verilator lint_off DECLFILENAME\n// verilator lint_off UNSIGNED\n// verilator lint_off UNUSEDSIGNAL\n"
    ++ (header_text (codes "aeth") n.cells n.outlets outs
    ++ (noted (λ net (sized : SizedCell). cell_line lines n.cells net sized.width sized.cell) n.cells 0 notes
    ++ (flat_map (assignment_text lines n.cells outs) n.outlets ++ (each_numbered (λ net (sized : SizedCell). edge_line lines n.cells net sized.cell) 0 n.cells ++ codes "endmodule\n")))))
