-- The module that a netlist is written as: one declaration for each cell that is no input, one assignment for each
-- output, and one `always` for each register and each memory. `lines` is the line of each net, 0 where it has none.
use Rattle.std.specs.Prelude.{◌≡◌, ℕ, ◌+◌, ◌-◌, ◌<◌, ◌==◌, true, nat_lt, List, [], ◌∷◌, ◌++◌, map, length, Option, Some, None, slice_get, codes, decimal, if◌then◌else◌}
use Rattle.ae_word.specs.declared.op.WordOp.{WordOp}
use Rattle.ae_word.specs.declared.op.WordOp.TheVariants.{Add, Sub, Mul, And, Or, Xor, Not, Min, Max, Eq, Lt, Mux, Shl, Shr, Cast, SLt, SMin, SMax, Sar, SCast}
use Rattle.ae_netlist.specs.declared.cell.Handshake.TheVariants.{SourceValid, SourceReady, SinkValid, SinkReady}
use Rattle.ae_netlist.specs.declared.cell.Port.{Port}
use Rattle.ae_netlist.specs.declared.cell.Port.TheVariants.{Reset, Enable, Stream, In, Out, Plain}
use Rattle.ae_netlist.specs.declared.cell.Cell.{Cell}
use Rattle.ae_netlist.specs.declared.cell.Cell.TheVariants.{Input, Const, Op, Reg, Mem, Peek}
use Rattle.ae_netlist.specs.declared.cell.SizedCell.{SizedCell}
use Rattle.ae_netlist.specs.declared.cell.Outlet.{Outlet}
use Rattle.ae_netlist.specs.Circuit.{operand, width_of}
use Rattle.ae_vmodule.specs.ModuleTree.{ExprTree, name, constant, part, index, unary, binary, choice, set, put, when, NetTree, DriveTree, ItemTree, nets, assigns, always, ModuleTree}
use Rattle.ae_vmodule.specs.declared.module.NetKind.{NetKind}
use Rattle.ae_vmodule.specs.declared.module.NetKind.TheVariants.{Input as InputNet, Wire as WireNet, OutWire as OutWireNet, Reg as RegNet, Memory as MemoryNet}
use Rattle.ae_vmodule.specs.declared.module.UnOp.TheVariants.{Flip}
use Rattle.ae_vmodule.specs.declared.module.BinOp.{BinOp}
use Rattle.ae_vmodule.specs.declared.module.BinOp.TheVariants.{Mul as Times, Add as Plus, Sub as Minus, Shl as LeftBy, Shr as RightBy, Lt as Less, Eq as Same, And as Both, Or as Either, Xor as Differ}

-- names

abbrev pub clock_name : List ℕ
clock_name = codes "clk"

-- the name of a port; one of an output names its result where there are several
abbrev pub port_name : (outs : ℕ) → Port → List ℕ
port_name outs Reset = codes "rst"
port_name outs Enable = codes "en"
port_name outs (Stream SourceValid) = codes "s_valid"
port_name outs (Stream SourceReady) = codes "s_ready"
port_name outs (Stream SinkValid) = codes "m_valid"
port_name outs (Stream SinkReady) = codes "m_ready"
port_name outs (In param lane word) = codes "i" ++ (decimal param ++ (codes "_" ++ (decimal lane ++ (codes "_" ++ decimal word))))
port_name outs (Out result lane word) = if outs == 1 then codes "o_" ++ (decimal lane ++ (codes "_" ++ decimal word))
    else codes "o" ++ (decimal result ++ (codes "_" ++ (decimal lane ++ (codes "_" ++ decimal word))))
port_name outs (Plain k) = codes "p" ++ decimal k

-- the name of a net that no input drives, as `l11_n15` for net 15 of line 11; lines are counted from 1
unfoldable pub number_name : (lines : ℕ → ℕ) → ℕ → List ℕ
number_name lines net = if lines net == 0 then codes "n" ++ decimal net else codes "l" ++ (decimal (lines net) ++ (codes "_n" ++ decimal net))

abbrev pub cell_name : (lines : ℕ → ℕ) → ℕ → Cell → List ℕ
cell_name lines net (Input port) = port_name 1 port
cell_name lines net (Const k) = number_name lines net
cell_name lines net (Op op args) = number_name lines net
cell_name lines net (Reg next) = number_name lines net
cell_name lines net (Mem depth at next enable) = number_name lines net
cell_name lines net (Peek mem at) = number_name lines net

abbrev pub name_in : (lines : ℕ → ℕ) → ℕ → Option SizedCell → List ℕ
name_in lines net None = number_name lines net
name_in lines net (Some sized) = cell_name lines net sized.cell

-- the name of a net: that of its port where its cell is an input
unfoldable pub net_name : (lines : ℕ → ℕ) → List SizedCell → ℕ → List ℕ
net_name lines cells net = name_in lines net (slice_get cells net)

-- declared names

-- a single bit is declared without a range
abbrev pub net_of : NetKind → ℕ → ℕ → List ℕ → NetTree
net_of kind item width n = record { name = n; width = width; ranged = nat_lt 1 width; kind = kind; item = item }

abbrev pub clock_net : NetTree
clock_net = net_of InputNet 0 1 clock_name

-- the input that a cell is
abbrev pub input_nets : ℕ → Cell → List NetTree
input_nets width (Input port) = net_of InputNet 0 width (port_name 1 port) ∷ []
input_nets width (Const k) = []
input_nets width (Op op args) = []
input_nets width (Reg next) = []
input_nets width (Mem depth at next enable) = []
input_nets width (Peek mem at) = []

abbrev pub output_net : List SizedCell → ℕ → Outlet → NetTree
output_net cells outs outlet = net_of OutWireNet 0 (width_of cells outlet.net.0) (port_name outs outlet.port)

-- the net that the declaration of a cell declares, as this item
abbrev pub declared_nets : (lines : ℕ → ℕ) → ℕ → ℕ → ℕ → Cell → List NetTree
declared_nets lines item net width (Input port) = []
declared_nets lines item net width (Const k) = net_of WireNet item width (number_name lines net) ∷ []
declared_nets lines item net width (Op op args) = net_of WireNet item width (number_name lines net) ∷ []
declared_nets lines item net width (Reg next) = net_of RegNet item width (number_name lines net) ∷ []
declared_nets lines item net width (Mem depth at next enable) = net_of (MemoryNet depth) item width (number_name lines net) ∷ []
declared_nets lines item net width (Peek mem at) = net_of WireNet item width (number_name lines net) ∷ []

-- what f makes of each element and its number, where the first has number k
abbrev pub each_numbered : {X A : Type 0} → (ℕ → X → List A) → ℕ → List X → List A
each_numbered f k [] = []
each_numbered f k (x ∷ xs) = f k x ++ each_numbered f (k + 1) xs

-- the inputs among cells, in order
abbrev pub inputs_of : List SizedCell → List NetTree
inputs_of cells = each_numbered (λ net sized. input_nets sized.width sized.cell) 0 cells

-- the nets of declarations: those of the cells from this net on, where the next item has this number
abbrev pub declared_from : (lines : ℕ → ℕ) → ℕ → ℕ → List SizedCell → List NetTree
declared_from lines item net [] = []
declared_from lines item net (sized ∷ cells) =
    declared_nets lines item net sized.width sized.cell
    ++ declared_from lines (item + length (declared_nets lines item net sized.width sized.cell)) (net + 1) cells

-- values

abbrev pub net_value : (lines : ℕ → ℕ) → List SizedCell → ℕ → ExprTree
net_value lines cells net = name (net_name lines cells net)

abbrev pub binary_nets : (lines : ℕ → ℕ) → List SizedCell → BinOp → ℕ → ℕ → ExprTree
binary_nets lines cells op a b = binary op (net_value lines cells a) (net_value lines cells b)

-- a shift by places within the word; one by the width or more leaves nothing
abbrev pub shifted_net : (lines : ℕ → ℕ) → List SizedCell → BinOp → ℕ → ℕ → ℕ → ExprTree
shifted_net lines cells op width a by =
    if nat_lt by width then binary op (net_value lines cells a) (constant 6 by true) else constant width 0 true

-- a word to as many bits or more is the word itself, which its assignment widens by zeros
abbrev pub cast_to : (lines : ℕ → ℕ) → List SizedCell → ℕ → ℕ → ExprTree
cast_to lines cells to a =
    if nat_lt to (width_of cells a) then part (net_name lines cells a) (to - 1) 0 else net_value lines cells a

-- the value of an operator; those that read their operands as signed stand in no netlist
abbrev pub op_expression : (lines : ℕ → ℕ) → List SizedCell → ℕ → WordOp → (a b c : ℕ) → ExprTree
op_expression lines cells width Add a b c = binary_nets lines cells Plus a b
op_expression lines cells width Sub a b c = binary_nets lines cells Minus a b
op_expression lines cells width Mul a b c = binary_nets lines cells Times a b
op_expression lines cells width And a b c = binary_nets lines cells Both a b
op_expression lines cells width Or a b c = binary_nets lines cells Either a b
op_expression lines cells width Xor a b c = binary_nets lines cells Differ a b
op_expression lines cells width Not a b c = unary Flip (net_value lines cells a)
op_expression lines cells width Min a b c = choice (binary_nets lines cells Less a b) (net_value lines cells a) (net_value lines cells b)
op_expression lines cells width Max a b c = choice (binary_nets lines cells Less a b) (net_value lines cells b) (net_value lines cells a)
op_expression lines cells width Eq a b c = binary_nets lines cells Same a b
op_expression lines cells width Lt a b c = binary_nets lines cells Less a b
op_expression lines cells width Mux a b c = choice (net_value lines cells a) (net_value lines cells b) (net_value lines cells c)
op_expression lines cells width (Shl by) a b c = shifted_net lines cells LeftBy width a by
op_expression lines cells width (Shr by) a b c = shifted_net lines cells RightBy width a by
op_expression lines cells width (Cast to) a b c = cast_to lines cells to a
op_expression lines cells width SLt a b c = net_value lines cells a
op_expression lines cells width SMin a b c = net_value lines cells a
op_expression lines cells width SMax a b c = net_value lines cells a
op_expression lines cells width (Sar by) a b c = net_value lines cells a
op_expression lines cells width (SCast to) a b c = net_value lines cells a

-- items

abbrev pub drive : List ℕ → ExprTree → DriveTree
drive n value = record { name = n; value = value }

-- the declaration of a cell
abbrev pub declaration : (lines : ℕ → ℕ) → List SizedCell → ℕ → ℕ → Cell → List ItemTree
declaration lines cells net width (Input port) = []
declaration lines cells net width (Const k) = nets (drive (number_name lines net) (constant width k true) ∷ []) ∷ []
declaration lines cells net width (Op op args) =
    nets (drive (number_name lines net) (op_expression lines cells width op (operand args 0) (operand args 1) (operand args 2)) ∷ []) ∷ []
declaration lines cells net width (Reg next) = nets [] ∷ []
declaration lines cells net width (Mem depth at next enable) = nets [] ∷ []
declaration lines cells net width (Peek mem at) =
    nets (drive (number_name lines net) (index (net_name lines cells mem.0) (net_value lines cells at.0)) ∷ []) ∷ []

abbrev pub assignment : (lines : ℕ → ℕ) → List SizedCell → ℕ → Outlet → ItemTree
assignment lines cells outs outlet = assigns (drive (port_name outs outlet.port) (net_value lines cells outlet.net.0) ∷ [])

-- what a register or a memory takes at a clock edge
abbrev pub edge : (lines : ℕ → ℕ) → List SizedCell → ℕ → Cell → List ItemTree
edge lines cells net (Input port) = []
edge lines cells net (Const k) = []
edge lines cells net (Op op args) = []
edge lines cells net (Reg next) = always clock_name (set (number_name lines net) (net_value lines cells next.0)) ∷ []
edge lines cells net (Mem depth at next enable) =
    always clock_name (when (net_value lines cells enable.0) (put (number_name lines net) (net_value lines cells at.0) (net_value lines cells next.0))) ∷ []
edge lines cells net (Peek mem at) = []

-- the module of a netlist with so many results
abbrev pub netlist_module : (lines : ℕ → ℕ) → List SizedCell → List Outlet → (outs : ℕ) → ModuleTree
netlist_module lines cells outlets outs = record {
  name = codes "aeth";
  nets = clock_net ∷ (inputs_of cells ++ (map (output_net cells outs) outlets ++ declared_from lines 1 0 cells));
  items =
      each_numbered (λ net (sized : SizedCell). declaration lines cells net sized.width sized.cell) 0 cells
      ++ (map (assignment lines cells outs) outlets
      ++ each_numbered (λ net (sized : SizedCell). edge lines cells net sized.cell) 0 cells);
}

-- conditions of writing

abbrev pub IsInputPort : Port → Type 0
IsInputPort Reset = Unit {0}
IsInputPort Enable = Unit {0}
IsInputPort (Stream SourceValid) = Unit {0}
IsInputPort (Stream SourceReady) = ⊥
IsInputPort (Stream SinkValid) = ⊥
IsInputPort (Stream SinkReady) = Unit {0}
IsInputPort (In param lane word) = Unit {0}
IsInputPort (Out result lane word) = ⊥
IsInputPort (Plain k) = ⊥

-- a word of one of so many results, and what a stream answers at its ends
abbrev pub IsOutputPort : (outs : ℕ) → Port → Type 0
IsOutputPort outs Reset = ⊥
IsOutputPort outs Enable = ⊥
IsOutputPort outs (Stream SourceValid) = ⊥
IsOutputPort outs (Stream SourceReady) = Unit {0}
IsOutputPort outs (Stream SinkValid) = Unit {0}
IsOutputPort outs (Stream SinkReady) = ⊥
IsOutputPort outs (In param lane word) = ⊥
IsOutputPort outs (Out result lane word) = result < outs
IsOutputPort outs (Plain k) = ⊥

-- each port is of its side, and no two are the same
pub record HavePorts (cells : List SizedCell) (outlets : List Outlet) (outs : ℕ) : Type 0 where
  pub inputs : (n width : ℕ) (port : Port) → slice_get cells n ≡ Some (record { width = width; cell = Input port }) → IsInputPort port
  pub inputs_differ : (m n v w : ℕ) (port : Port) → slice_get cells m ≡ Some (record { width = v; cell = Input port }) → slice_get cells n ≡ Some (record { width = w; cell = Input port }) → m ≡ n
  pub outputs : (k : ℕ) (outlet : Outlet) → slice_get outlets k ≡ Some outlet → IsOutputPort outs outlet.port
  pub outputs_differ : (j k : ℕ) (a b : Outlet) → slice_get outlets j ≡ Some a → slice_get outlets k ≡ Some b → a.port ≡ b.port → j ≡ k
