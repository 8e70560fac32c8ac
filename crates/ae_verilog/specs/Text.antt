-- The bytes that the writer writes, piece by piece.
use Rattle.std.specs.Prelude.{ℕ, ◌-◌, ◌<◌, ◌^◌, Bool, true, ◌&&◌, nat_lt, max, List, [], ◌∷◌, ◌++◌, take, drop, length, codes, decimal, if◌then◌else◌}
use Rattle.std.specs.List.{flat_map}
use Rattle.ae_word.specs.declared.op.WordOp.{WordOp}
use Rattle.ae_word.specs.WordTable.{row_of}
use Rattle.ae_netlist.specs.declared.cell.Port.{Port}
use Rattle.ae_netlist.specs.declared.cell.Port.TheVariants.{Reset, Enable, Stream, In, Out, Plain}
use Rattle.ae_netlist.specs.declared.cell.Cell.{Cell}
use Rattle.ae_netlist.specs.declared.cell.Cell.TheVariants.{Input, Const, Op, Reg, Mem, Peek}
use Rattle.ae_netlist.specs.declared.cell.SizedCell.{SizedCell}
use Rattle.ae_netlist.specs.declared.cell.Outlet.{Outlet}
use Rattle.ae_netlist.specs.Circuit.{operand, width_of}
use Rattle.ae_vmodule.specs.ModuleTree.{ExprTree, name, constant, place, part, index, unary, binary, choice, concat_one, concat_more}
use Rattle.ae_vmodule.specs.declared.module.UnOp.{UnOp}
use Rattle.ae_vmodule.specs.declared.module.UnOp.TheVariants.{Not, Flip}
use Rattle.ae_vmodule.specs.declared.module.BinOp.{BinOp}
use Rattle.ae_vmodule.specs.declared.module.BinOp.TheVariants.{Mul, Add, Sub, Shl, Shr, Lt, Le, Gt, Ge, Eq, Ne, And, Xor, Or, Both, Either}
use Rattle.ae_verilog.specs.NetlistModule.{port_name, number_name, net_name, each_numbered, op_expression, net_value}
use Rattle.ae_verilog.specs.Notes.{NoteTree, note_line, lines_of}

abbrev pub prefix_text : UnOp → List ℕ
prefix_text Not = codes "!"
prefix_text Flip = codes "~"

abbrev pub sign_text : BinOp → List ℕ
sign_text Mul = codes "*"
sign_text Add = codes "+"
sign_text Sub = codes "-"
sign_text Shl = codes "<<"
sign_text Shr = codes ">>"
sign_text Lt = codes "<"
sign_text Le = codes "<="
sign_text Gt = codes ">"
sign_text Ge = codes ">="
sign_text Eq = codes "=="
sign_text Ne = codes "!="
sign_text And = codes "&"
sign_text Xor = codes "^"
sign_text Or = codes "|"
sign_text Both = codes "&&"
sign_text Either = codes "||"

-- an expression without parentheses; the writer has no concatenations, and no decimal numbers but in part-selects
abbrev pub expr_text : ExprTree → List ℕ
expr_text (name n) = n
expr_text (constant size value fits) = decimal size ++ (codes "'d" ++ decimal value)
expr_text (place n) = decimal n
expr_text (part n high low) = n ++ (codes "[" ++ (decimal high ++ (codes ":" ++ (decimal low ++ codes "]"))))
expr_text (index n at) = n ++ (codes "[" ++ (expr_text at ++ codes "]"))
expr_text (unary op a) = prefix_text op ++ expr_text a
expr_text (binary op a b) = expr_text a ++ (codes " " ++ (sign_text op ++ (codes " " ++ expr_text b)))
expr_text (choice test a b) = expr_text test ++ (codes " ? " ++ (expr_text a ++ (codes " : " ++ expr_text b)))
expr_text (concat_one a) = []
expr_text (concat_more a rest) = []

-- the arms of a choice, behind its test
abbrev pub arms_text : (a b : List ℕ) → List ℕ
arms_text a b = codes " ? " ++ (a ++ (codes " : " ++ b))

-- a shift by places within the word, and 0 for one by the width or more
abbrev pub shift_text : (a sign : List ℕ) → (width by : ℕ) → List ℕ
shift_text a sign width by = if nat_lt by width then a ++ (codes " " ++ (sign ++ (codes " 6'd" ++ decimal by))) else decimal width ++ codes "'d0"

-- the range of a word, and a blank; a single bit has none
abbrev pub range_text : ℕ → List ℕ
range_text width = if nat_lt 1 width then codes "[" ++ (decimal (width - 1) ++ codes ":0] ") else []

-- a wire up to its value
abbrev pub wire_text : (lines : ℕ → ℕ) → (width net : ℕ) → List ℕ
wire_text lines width net = codes "  wire " ++ (range_text width ++ (number_name lines net ++ codes " = "))

abbrev pub register_text : (lines : ℕ → ℕ) → (width net : ℕ) → List ℕ
register_text lines width net = codes "  reg " ++ (range_text width ++ (number_name lines net ++ codes ";\n"))

abbrev pub memory_text : (lines : ℕ → ℕ) → (width net depth : ℕ) → List ℕ
memory_text lines width net depth =
    codes "  reg " ++ (range_text width ++ (number_name lines net ++ (codes " [0:" ++ (decimal (depth - 1) ++ codes "];\n"))))

abbrev pub value_text : (lines : ℕ → ℕ) → (width net : ℕ) → ExprTree → List ℕ
value_text lines width net value = wire_text lines width net ++ (expr_text value ++ codes ";\n")

-- a wire whose assignment widens a word says so to Verilator
abbrev pub widened_text : (lines : ℕ → ℕ) → (width net : ℕ) → ExprTree → List ℕ
widened_text lines width net value =
    codes "  // verilator lint_off WIDTH\n" ++ (value_text lines width net value ++ codes "  // verilator lint_on WIDTH\n")

abbrev pub is_cast : WordOp → Bool
is_cast op = (row_of op).casts

-- the wire of an operator
abbrev pub op_text : (lines : ℕ → ℕ) → List SizedCell → (width net : ℕ) → WordOp → (a b c : ℕ) → List ℕ
op_text lines cells width net op a b c =
    if is_cast op && nat_lt (width_of cells a) width
    then widened_text lines width net (op_expression lines cells width op a b c)
    else value_text lines width net (op_expression lines cells width op a b c)

-- the declaration of a cell
abbrev pub declaration_text : (lines : ℕ → ℕ) → List SizedCell → (net width : ℕ) → Cell → List ℕ
declaration_text lines cells net width (Input port) = []
declaration_text lines cells net width (Const k) = value_text lines width net (constant width k true)
declaration_text lines cells net width (Op op args) = op_text lines cells width net op (operand args 0) (operand args 1) (operand args 2)
declaration_text lines cells net width (Reg next) = register_text lines width net
declaration_text lines cells net width (Mem depth at next enable) = memory_text lines width net depth
declaration_text lines cells net width (Peek mem at) = value_text lines width net (index (net_name lines cells mem.0) (net_value lines cells at.0))

-- the texts of the cells from one on, up to another
abbrev pub between : (ℕ → SizedCell → List ℕ) → List SizedCell → (from to : ℕ) → List ℕ
between f cells from to = each_numbered f from (take (to - from) (drop from cells))

-- the texts of the cells from one on, and each note before its cell
abbrev pub noted : (ℕ → SizedCell → List ℕ) → List SizedCell → (from : ℕ) → List NoteTree → List ℕ
noted f cells k [] = between f cells k (length cells)
noted f cells k (n ∷ ns) = between f cells k n.cell ++ (note_line n ++ noted f cells (max k n.cell) ns)

-- the ports
abbrev pub input_text : ℕ → Cell → List ℕ
input_text width (Input port) = codes ",\n  input wire " ++ (range_text width ++ port_name 1 port)
input_text width (Const k) = []
input_text width (Op op args) = []
input_text width (Reg next) = []
input_text width (Mem depth at next enable) = []
input_text width (Peek mem at) = []

abbrev pub output_text : List SizedCell → (outs : ℕ) → Outlet → List ℕ
output_text cells outs outlet =
    codes ",\n  output wire " ++ (range_text (width_of cells outlet.net.0) ++ port_name outs outlet.port)

abbrev pub header_text : (title : List ℕ) → List SizedCell → List Outlet → (outs : ℕ) → List ℕ
header_text title cells outlets outs = codes "module " ++ (title ++ (codes " (\n  input wire clk"
    ++ (flat_map (λ (sized : SizedCell). input_text sized.width sized.cell) cells
    ++ (flat_map (output_text cells outs) outlets ++ codes "\n);\n"))))

-- what drives an output
abbrev pub assignment_text : (lines : ℕ → ℕ) → List SizedCell → (outs : ℕ) → Outlet → List ℕ
assignment_text lines cells outs outlet = codes "  assign " ++ (port_name outs outlet.port ++ (codes " = " ++ (net_name lines cells outlet.net.0 ++ codes ";\n")))

-- what a register of this name takes at a clock edge
abbrev pub register_edge : (n next : List ℕ) → List ℕ
register_edge n next = codes "  always @(posedge clk) " ++ (n ++ (codes " <= " ++ (next ++ codes ";\n")))

-- what a memory of this name takes at a clock edge
abbrev pub memory_edge : (n at next enable : List ℕ) → List ℕ
memory_edge n at next enable =
    codes "  always @(posedge clk) if ("
    ++ (enable ++ (codes ") " ++ (n ++ (codes "[" ++ (at ++ (codes "] <= " ++ (next ++ codes ";\n")))))))

abbrev pub edge_text : (lines : ℕ → ℕ) → List SizedCell → ℕ → Cell → List ℕ
edge_text lines cells net (Input port) = []
edge_text lines cells net (Const k) = []
edge_text lines cells net (Op op args) = []
edge_text lines cells net (Reg next) = register_edge (number_name lines net) (net_name lines cells next.0)
edge_text lines cells net (Mem depth at next enable) =
    memory_edge (number_name lines net) (net_name lines cells at.0) (net_name lines cells next.0) (net_name lines cells enable.0)
edge_text lines cells net (Peek mem at) = []

-- the module, under a name
abbrev pub module_text : (title : List ℕ) → (lines : ℕ → ℕ) → List NoteTree → List SizedCell → List Outlet → (outs : ℕ) → List ℕ
module_text title lines notes cells outlets outs =
    header_text title cells outlets outs
    ++ (noted (λ net (sized : SizedCell). declaration_text lines cells net sized.width sized.cell) cells 0 notes
    ++ (flat_map (assignment_text lines cells outs) outlets
    ++ (each_numbered (λ net (sized : SizedCell). edge_text lines cells net sized.cell) 0 cells ++ codes "endmodule\n")))

-- the report lines, what stands behind them, lines that keep Verilator from naming the file, constant comparisons and bits that nothing reads, and the
-- module
abbrev pub named_text : (title behind report : List ℕ) → List NoteTree → List SizedCell → List Outlet → (outs : ℕ) → List ℕ
named_text title behind report notes cells outlets outs =
    report ++ (behind ++ (codes "// verilator lint_off CMPCONST\n// verilator lint_off DECLFILENAME\n// verilator lint_off UNSIGNED\n// verilator lint_off UNUSEDSIGNAL\n" ++ module_text title (lines_of notes (length cells)) notes cells outlets outs))

-- the whole text of the module of a program
abbrev pub whole_text : (report : List ℕ) → List NoteTree → List SizedCell → List Outlet → (outs : ℕ) → List ℕ
whole_text report notes cells outlets outs = named_text (codes "aeth") [] report notes cells outlets outs

-- that of a circuit between two channels, under a name: a line more behind the report, and no notes
abbrev pub stream_listing : (title report : List ℕ) → List SizedCell → List Outlet → (outs : ℕ) → List ℕ
stream_listing title report cells outlets outs = named_text title (codes "// stream\n") report [] cells outlets outs

-- numbers of ports that the type of ports has room for
abbrev pub PortFits : Port → Type 0
PortFits Reset = Unit {0}
PortFits Enable = Unit {0}
PortFits (Stream wire) = Unit {0}
PortFits (In param lane word) = (param < 2 ^ 32) × (lane < 2 ^ 32) × (word < 2 ^ 32)
PortFits (Out result lane word) = (result < 2 ^ 32) × (lane < 2 ^ 32) × (word < 2 ^ 32)
PortFits (Plain k) = k < 2 ^ 32

abbrev pub CellPortFits : Cell → Type 0
CellPortFits (Input port) = PortFits port
CellPortFits (Const k) = Unit {0}
CellPortFits (Op op args) = Unit {0}
CellPortFits (Reg next) = Unit {0}
CellPortFits (Mem depth at next enable) = Unit {0}
CellPortFits (Peek mem at) = Unit {0}
