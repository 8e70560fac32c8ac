-- The form of a netlist's module is formed, and stands for that module.
use Rattle.std.proofs.Common.{◌≡◌, ℕ, suc, ◌+◌, ◌-◌, ◌<◌, ◌≤◌, List, [], ◌∷◌, ◌++◌, length, map, take, true, Some, refl, sym, ap, ◌∙◌, subst, arith, append_assoc, append-nil, inl, inr, lit≤}
use Rattle.std.specs.Prelude.{slice_get}
use Rattle.std.specs.List.{flat_map, AllByRecursion}
use Rattle.std.proofs.lemmas.Option.{slice_get_within}
use Rattle.ae_netlist.proofs.Gets.{get_take_within}
use Rattle.ae_netlist.specs.declared.cell.Cell.{Cell}
use Rattle.ae_netlist.specs.declared.cell.Cell.TheVariants.{Input, Const, Op, Reg, Mem, Peek}
use Rattle.ae_netlist.specs.declared.cell.SizedCell.{SizedCell}
use Rattle.ae_netlist.specs.declared.cell.Outlet.{Outlet}
use Rattle.ae_netlist.specs.Circuit.{operand, width_of, CellFits, HaveNets}
use Rattle.ae_vmodule.specs.ModuleTree.{constant, index, NetTree, nets}
use Rattle.ae_vmodule.specs.declared.module.NetKind.TheVariants.{Memory, Input as InputNet, Wire as WireNet, OutWire as OutWireNet, Reg as RegNet}
use Rattle.ae_vread.specs.Forms.{PortForm, ItemForm, size_of, port_nets, item_nets, nets_from, item_of, module_of, IsItem}
use Rattle.ae_verilog.specs.NetlistModule as m
use Rattle.ae_verilog.specs.NetlistModule.{port_name, number_name, net_name, net_value, op_expression, each_numbered, input_nets, output_net, declared_nets, inputs_of, declared_from, declaration, assignment, edge, netlist_module, clock_net, drive}
use Rattle.ae_spelled.specs.Streams.{renamed}
use Rattle.ae_spelled.proofs.Pieces.{IsNameText, number_form}
use Rattle.ae_spelled.proofs.Writable.{IsWritable, expr_back}
use Rattle.ae_spelled.proofs.Named.{IsGood, name_named, net_inside, all_named, is_constant, op_writable, op_drive}
use Rattle.ae_spelled.proofs.NetlistForm.{input_forms, output_form, declaration_form, assignment_form, edge_form, item_forms, netlist_form, flat_both, flat_flat, flat_same, unnumbered, flat_single, map_listed, map_map, listed_same, next_place, first_place, net_back, size_back}
use Rattle.ae_spelled.proofs.LawSame.{map_parts as map_both}

-- what a cell needs to be declared
abbrev pub IsDeclared : (lines : ℕ → ℕ) → List SizedCell → (net width : ℕ) → Cell → Type 0
IsDeclared lines cells net width (Input port) = Unit {0}
IsDeclared lines cells net width (Const k) = IsWritable (constant width k true)
IsDeclared lines cells net width (Op op args) = IsWritable (op_expression lines cells width op (operand args 0) (operand args 1) (operand args 2))
IsDeclared lines cells net width (Reg next) = Unit {0}
IsDeclared lines cells net width (Mem depth at next enable) = (1 ≤ depth) × (depth ≤ 65536)
IsDeclared lines cells net width (Peek mem at) = IsWritable (index (net_name lines cells mem.0) (net_value lines cells at.0))

-- what a cell needs at a clock edge
abbrev pub IsEdged : (lines : ℕ → ℕ) → List SizedCell → Cell → Type 0
IsEdged lines cells (Input port) = Unit {0}
IsEdged lines cells (Const k) = Unit {0}
IsEdged lines cells (Op op args) = Unit {0}
IsEdged lines cells (Reg next) = IsNameText (net_name lines cells next.0)
IsEdged lines cells (Mem depth at next enable) =
    IsNameText (net_name lines cells at.0) × IsNameText (net_name lines cells next.0) × IsNameText (net_name lines cells enable.0)
IsEdged lines cells (Peek mem at) = Unit {0}

pub declared_cell : (lines : ℕ → ℕ) → (cells : List SizedCell) (net width : ℕ) (cell : Cell) → IsGood cells → net < length cells → 1 ≤ width → width ≤ 64
    → CellFits (take net cells) cells net width cell → IsDeclared lines cells net width cell
declared_cell lines cells net width (Input port) good within low high h = tt
declared_cell lines cells net width (Const k) good within low high h = is_constant width k low high h
declared_cell lines cells net width (Op op args) good within low high h =
    op_writable lines cells width op (operand args 0) (operand args 1) (operand args 2) low high h.range
    (all_named lines cells net op args _ good (omega (arith, within)) h.operands)
declared_cell lines cells net width (Reg next) good within low high h = tt
declared_cell lines cells net width (Mem depth at next enable) good within low high h = (h.0, h.1)
declared_cell lines cells net width (Peek mem at) good within low high h = (
  name_named lines cells mem.0 good (omega (arith, within, get_take_within cells net mem.0 _ h.memory.found)),
  name_named lines cells at.0 good (omega (arith, within, get_take_within cells net at.0 _ h.address.net.found)),
)

pub edged_cell : (lines : ℕ → ℕ) → (cells : List SizedCell) (net width : ℕ) (cell : Cell) → IsGood cells → net < length cells
    → CellFits (take net cells) cells net width cell → IsEdged lines cells cell
edged_cell lines cells net width (Input port) good within h = tt
edged_cell lines cells net width (Const k) good within h = tt
edged_cell lines cells net width (Op op args) good within h = tt
edged_cell lines cells net width (Reg next) good within h = name_named lines cells next.0 good (net_inside cells next.0 width h)
edged_cell lines cells net width (Mem depth at next enable) good within h = elim h.2 [
  | inl own ↦ (
    name_named lines cells at.0 good (omega (arith, own.at_own, within)),
    name_named lines cells next.0 good (omega (arith, own.next_own, within)),
    name_named lines cells enable.0 good (omega (arith, own.enable_own, within)),
  )
  | inr written ↦ (
    name_named lines cells at.0 good (net_inside cells at.0 _ written.address.net),
    name_named lines cells next.0 good (net_inside cells next.0 _ written.word),
    name_named lines cells enable.0 good (net_inside cells enable.0 _ written.bit),
  )
]
edged_cell lines cells net width (Peek mem at) good within h = tt

-- a cell of the netlist
pub record IsCellOf (lines : ℕ → ℕ) (cells : List SizedCell) (net : ℕ) (sized : SizedCell) : Type 0 where
  pub within : net < length cells
  pub low : 1 ≤ sized.width
  pub high : sized.width ≤ 64
  pub declared : IsDeclared lines cells net sized.width sized.cell
  pub edged : IsEdged lines cells sized.cell

pub cell_of : (lines : ℕ → ℕ) → (cells : List SizedCell) (net : ℕ) (sized : SizedCell) → IsGood cells → slice_get cells net ≡ Some sized
    → IsCellOf lines cells net sized
cell_of lines cells net sized good e =
    let fits = good.formed.each net sized e in
    let within = slice_get_within cells net sized e in
    record {
      within = within;
      low = fits.low;
      high = fits.high;
      declared = declared_cell lines cells net sized.width sized.cell good within fits.low fits.high fits.cell;
      edged = edged_cell lines cells net sized.width sized.cell good within fits.cell;
    }

-- an output shows a net of 1 to 64 bits
pub record IsOutletOf (lines : ℕ → ℕ) (cells : List SizedCell) (outlet : Outlet) : Type 0 where
  pub low : 1 ≤ width_of cells outlet.net.0
  pub high : width_of cells outlet.net.0 ≤ 64
  pub named : IsNameText (net_name lines cells outlet.net.0)

pub outlet_of : (lines : ℕ → ℕ) → (cells : List SizedCell) (outlets : List Outlet) (k : ℕ) (outlet : Outlet) → IsGood cells → HaveNets cells outlets
    → slice_get outlets k ≡ Some outlet → IsOutletOf lines cells outlet
outlet_of lines cells outlets k outlet good have e =
    let net = have.each k outlet e in
    let fits = good.formed.each outlet.net.0 net.sized net.found in
    record {
      low = omega (arith, fits.low, net.wide);
      high = omega (arith, fits.high, net.wide);
      named = name_named lines cells outlet.net.0 good (net_inside cells outlet.net.0 _ net);
    }

-- nets

input_back : (width : ℕ) (cell : Cell) → 1 ≤ width → width ≤ 64 → flat_map port_nets (input_forms width cell) ≡ input_nets width cell
input_back width (Input port) low high = ap (λ x. x ∷ []) (net_back width InputNet 0 (port_name 1 port) low high)
input_back width (Const k) low high = refl
input_back width (Op op args) low high = refl
input_back width (Reg next) low high = refl
input_back width (Mem depth at next enable) low high = refl
input_back width (Peek mem at) low high = refl

inputs_back : (lines : ℕ → ℕ) → (cells : List SizedCell) → IsGood cells
    → flat_map port_nets (flat_map (λ (sized : SizedCell). input_forms sized.width sized.cell) cells) ≡ inputs_of cells
inputs_back lines cells good =
    flat_flat port_nets (λ (sized : SizedCell). input_forms sized.width sized.cell) cells
    ∙ flat_same _ (λ (sized : SizedCell). input_nets sized.width sized.cell) cells (λ j sized e.
    let cell = cell_of lines cells j sized good e in input_back sized.width sized.cell cell.low cell.high)
    ∙ sym (unnumbered (λ (sized : SizedCell). input_nets sized.width sized.cell) 0 cells)

outputs_back : (lines : ℕ → ℕ) → (cells : List SizedCell) (outlets : List Outlet) (outs : ℕ) → IsGood cells → HaveNets cells outlets
    → flat_map port_nets (map (output_form cells outs) outlets) ≡ map (output_net cells outs) outlets
outputs_back lines cells outlets outs good have =
    flat_single port_nets (output_form cells outs) (output_net cells outs) outlets (λ j outlet e.
    let shown = outlet_of lines cells outlets j outlet good have e in
    ap (λ x. x ∷ []) (net_back (width_of cells outlet.net.0) OutWireNet 0 (port_name outs outlet.port) shown.low shown.high))

nets_both : (k : ℕ) (a b : List ItemForm) → nets_from k (a ++ b) ≡ nets_from k a ++ nets_from (k + length a) b
nets_both k [] b = ap (λ n. nets_from n b) (sym (first_place k))
nets_both k (i ∷ a) b =
    ap (λ l. item_nets k i ++ l) (nets_both (k + 1) a b)
    ∙ sym (append_assoc (item_nets k i) (nets_from (k + 1) a) (nets_from (k + 1 + length a) b))
    ∙ ap (λ n. (item_nets k i ++ nets_from (k + 1) a) ++ nets_from n b) (let e : k + 1 + length a ≡ k + length (i ∷ a) = omega arith in e)

declared_back : (lines : ℕ → ℕ) → (cells : List SizedCell) (item net width : ℕ) (cell : Cell) → 1 ≤ width → width ≤ 64 → IsDeclared lines cells net width cell
    → nets_from item (declaration_form lines cells net width cell) ≡ declared_nets lines item net width cell
declared_back lines cells item net width (Input port) low high h = refl
declared_back lines cells item net width (Const k) low high h = ap (λ x. x ∷ []) (net_back width WireNet item (number_name lines net) low high)
declared_back lines cells item net width (Op op args) low high h = ap (λ x. x ∷ []) (net_back width WireNet item (number_name lines net) low high)
declared_back lines cells item net width (Reg next) low high h = ap (λ x. x ∷ []) (net_back width RegNet item (number_name lines net) low high)
declared_back lines cells item net width (Mem depth at next enable) low high h =
    ap (λ x. x ∷ []) (net_back width (Memory (size_of 65537 (number_form (depth - 1)))) item (number_name lines net) low high
    ∙ ap (λ d. m.net_of (Memory d) item width (number_name lines net)) (size_back 65537 depth h.0 (omega (arith, h.1))))
declared_back lines cells item net width (Peek mem at) low high h = ap (λ x. x ∷ []) (net_back width WireNet item (number_name lines net) low high)

as_many : (lines : ℕ → ℕ) → (cells : List SizedCell) (item net width : ℕ) (cell : Cell)
    → length (declaration_form lines cells net width cell) ≡ length (declared_nets lines item net width cell)
as_many lines cells item net width (Input port) = refl
as_many lines cells item net width (Const k) = refl
as_many lines cells item net width (Op op args) = refl
as_many lines cells item net width (Reg next) = refl
as_many lines cells item net width (Mem depth at next enable) = refl
as_many lines cells item net width (Peek mem at) = refl

all_declared : (lines : ℕ → ℕ) → (cells : List SizedCell) (item net : ℕ) (rest : List SizedCell)
    → ((j : ℕ) (sized : SizedCell) → slice_get rest j ≡ Some sized → IsCellOf lines cells (net + j) sized)
    → nets_from item (each_numbered (λ net (sized : SizedCell). declaration_form lines cells net sized.width sized.cell) net rest) ≡ declared_from lines item
    net rest
all_declared lines cells item net [] each = refl
all_declared lines cells item net (sized ∷ rest) each =
    let here = subst (λ n. IsCellOf lines cells n sized) (first_place net) (each 0 sized refl) in
    let form : List ItemForm = declaration_form lines cells net sized.width sized.cell in
    nets_both item form (each_numbered (λ net (sized : SizedCell). declaration_form lines cells net sized.width sized.cell) (net + 1) rest)
    ∙ ap (λ l. l ++ nets_from (item + length form) (each_numbered (λ net (sized : SizedCell). declaration_form lines cells net sized.width sized.cell)
    (net + 1) rest)) (declared_back lines cells item net sized.width sized.cell here.low here.high here.declared)
    ∙ ap (λ k. declared_nets lines item net sized.width sized.cell
    ++ nets_from (item + k) (each_numbered (λ net (sized : SizedCell). declaration_form lines cells net sized.width sized.cell) (net + 1) rest))
    (as_many lines cells item net sized.width sized.cell)
    ∙ ap (λ l. declared_nets lines item net sized.width sized.cell ++ l)
    (all_declared lines cells (item + length (declared_nets lines item net sized.width sized.cell)) (net + 1) rest
    (λ j other e. subst (λ n. IsCellOf lines cells n other) (next_place net j) (each (suc j) other e)))

no_assigned : (lines : ℕ → ℕ) → (cells : List SizedCell) (outs k : ℕ) (outlets : List Outlet)
    → nets_from k (map (assignment_form lines cells outs) outlets) ≡ []
no_assigned lines cells outs k [] = refl
no_assigned lines cells outs k (outlet ∷ outlets) = no_assigned lines cells outs (k + 1) outlets

no_edge : (lines : ℕ → ℕ) → (cells : List SizedCell) (net k : ℕ) (cell : Cell) → nets_from k (edge_form lines cells net cell) ≡ []
no_edge lines cells net k (Input port) = refl
no_edge lines cells net k (Const w) = refl
no_edge lines cells net k (Op op args) = refl
no_edge lines cells net k (Reg next) = refl
no_edge lines cells net k (Mem depth at next enable) = refl
no_edge lines cells net k (Peek mem at) = refl

no_edges : (lines : ℕ → ℕ) → (cells : List SizedCell) (net k : ℕ) (rest : List SizedCell)
    → nets_from k (each_numbered (λ net (sized : SizedCell). edge_form lines cells net sized.cell) net rest) ≡ []
no_edges lines cells net k [] = refl
no_edges lines cells net k (sized ∷ rest) =
    nets_both k (edge_form lines cells net sized.cell) (each_numbered (λ net (sized : SizedCell). edge_form lines cells net sized.cell) (net + 1) rest)
    ∙ ap (λ l. l ++ nets_from (k + length (edge_form lines cells net sized.cell))
    (each_numbered (λ net (sized : SizedCell). edge_form lines cells net sized.cell) (net + 1) rest)) (no_edge lines cells net k sized.cell)
    ∙ no_edges lines cells (net + 1) (k + length (edge_form lines cells net sized.cell)) rest

nets_back : (lines : ℕ → ℕ) → (cells : List SizedCell) (outlets : List Outlet) (outs : ℕ) → IsGood cells
    → nets_from 1 (item_forms lines cells outlets outs) ≡ declared_from lines 1 0 cells
nets_back lines cells outlets outs good =
    let declared : List ItemForm = each_numbered (λ net (sized : SizedCell). declaration_form lines cells net sized.width sized.cell) 0 cells in
    let assigned : List ItemForm = map (assignment_form lines cells outs) outlets in
    let edges : List ItemForm = each_numbered (λ net (sized : SizedCell). edge_form lines cells net sized.cell) 0 cells in
    nets_both 1 declared (assigned ++ edges)
    ∙ ap (λ l. nets_from 1 declared ++ l) (nets_both (1 + length declared) assigned edges
    ∙ ap (λ l. l ++ nets_from (1 + length declared + length assigned) edges) (no_assigned lines cells outs (1 + length declared) outlets)
    ∙ no_edges lines cells 0 (1 + length declared + length assigned) cells)
    ∙ append-nil (nets_from 1 declared)
    ∙ all_declared lines cells 1 0 cells (λ j sized e. subst (λ n. IsCellOf lines cells n sized) (let z : j ≡ 0 + j = omega arith in z)
    (cell_of lines cells j sized good e))

-- items

declaration_back : (lines : ℕ → ℕ) → (cells : List SizedCell) (net width : ℕ) (cell : Cell) → IsDeclared lines cells net width cell
    → map item_of (declaration_form lines cells net width cell) ≡ declaration lines cells net width cell
declaration_back lines cells net width (Input port) h = refl
declaration_back lines cells net width (Const k) h = ap (λ v. nets (drive (number_name lines net) v ∷ []) ∷ []) (expr_back (constant width k true) h)
declaration_back lines cells net width (Op op args) h =
    ap (λ v. nets (drive (number_name lines net) v ∷ []) ∷ [])
    (expr_back (op_expression lines cells width op (operand args 0) (operand args 1) (operand args 2)) h)
declaration_back lines cells net width (Reg next) h = refl
declaration_back lines cells net width (Mem depth at next enable) h = refl
declaration_back lines cells net width (Peek mem at) h =
    ap (λ v. nets (drive (number_name lines net) v ∷ []) ∷ []) (expr_back (index (net_name lines cells mem.0) (net_value lines cells at.0)) h)

edge_back : (lines : ℕ → ℕ) → (cells : List SizedCell) (net : ℕ) (cell : Cell) → map item_of (edge_form lines cells net cell) ≡ edge lines cells net cell
edge_back lines cells net (Input port) = refl
edge_back lines cells net (Const k) = refl
edge_back lines cells net (Op op args) = refl
edge_back lines cells net (Reg next) = refl
edge_back lines cells net (Mem depth at next enable) = refl
edge_back lines cells net (Peek mem at) = refl

items_back : (lines : ℕ → ℕ) → (cells : List SizedCell) (outlets : List Outlet) (outs : ℕ) → IsGood cells
    → map item_of (item_forms lines cells outlets outs) ≡ (netlist_module lines cells outlets outs).items
items_back lines cells outlets outs good =
    let declared : List ItemForm = each_numbered (λ net (sized : SizedCell). declaration_form lines cells net sized.width sized.cell) 0 cells in
    let assigned : List ItemForm = map (assignment_form lines cells outs) outlets in
    let edges : List ItemForm = each_numbered (λ net (sized : SizedCell). edge_form lines cells net sized.cell) 0 cells in
    map_both item_of declared (assigned ++ edges)
    ∙ ap (λ l. l ++ map item_of (assigned ++ edges)) (map_listed item_of
    (λ net (sized : SizedCell). declaration_form lines cells net sized.width sized.cell) 0 cells
    ∙ listed_same _ (λ net (sized : SizedCell). declaration lines cells net sized.width sized.cell) 0 cells (λ j sized e.
    let cell = cell_of lines cells j sized good e in
    subst (λ n. map item_of (declaration_form lines cells n sized.width sized.cell) ≡ declaration lines cells n sized.width sized.cell)
    (let z : j ≡ 0 + j = omega arith in z) (declaration_back lines cells j sized.width sized.cell cell.declared)))
    ∙ ap (λ l. each_numbered (λ net (sized : SizedCell). declaration lines cells net sized.width sized.cell) 0 cells ++ l) (map_both item_of assigned edges
    ∙ ap (λ l. l ++ map item_of edges) (map_map item_of (assignment_form lines cells outs) outlets)
    ∙ ap (λ l. map (assignment lines cells outs) outlets ++ l) (map_listed item_of (λ net (sized : SizedCell). edge_form lines cells net sized.cell) 0 cells
    ∙ listed_same _ (λ net (sized : SizedCell). edge lines cells net sized.cell) 0 cells (λ j sized e. edge_back lines cells (0 + j) sized.cell)))

-- the module
pub tree_back : (title : List ℕ) (lines : ℕ → ℕ) → (cells : List SizedCell) (outlets : List Outlet) (outs : ℕ) → IsGood cells → HaveNets cells outlets
    → module_of (netlist_form title lines cells outlets outs) ≡ renamed title (netlist_module lines cells outlets outs)
tree_back title lines cells outlets outs good have =
    let ins : List PortForm = flat_map (λ (sized : SizedCell). input_forms sized.width sized.cell) cells in
    let shown : List PortForm = map (output_form cells outs) outlets in
    let rest : List NetTree = nets_from 1 (item_forms lines cells outlets outs) in
    let ports : flat_map port_nets (ins ++ shown) ++ rest ≡ inputs_of cells ++ (map (output_net cells outs) outlets ++ declared_from lines 1 0 cells) =
    ap (λ l. l ++ rest) (flat_both port_nets ins shown) ∙ append_assoc (flat_map port_nets ins) (flat_map port_nets shown) rest
    ∙ ap (λ l. l ++ (flat_map port_nets shown ++ rest)) (inputs_back lines cells good)
    ∙ ap (λ l. inputs_of cells ++ (l ++ rest)) (outputs_back lines cells outlets outs good have)
    ∙ ap (λ l. inputs_of cells ++ (map (output_net cells outs) outlets ++ l)) (nets_back lines cells outlets outs good) in
    λ i. record { name = title; nets = clock_net ∷ ports i; items = items_back lines cells outlets outs good i }

-- formed

pub all_both : {X : Type 0} (P : X → Type 0) (xs ys : List X) → AllByRecursion P xs → AllByRecursion P ys → AllByRecursion P (xs ++ ys)
all_both P [] ys hx hy = hy
all_both P (x ∷ xs) ys hx hy = (hx.0, all_both P xs ys hx.1 hy)

all_listed : {X Y : Type 0} (P : Y → Type 0) (f : ℕ → X → List Y) (k : ℕ) (xs : List X) → ((n : ℕ) (x : X) → AllByRecursion P (f n x))
    → AllByRecursion P (each_numbered f k xs)
all_listed P f k [] each = tt
all_listed P f k (x ∷ xs) each = all_both P (f k x) (each_numbered f (k + 1) xs) (each k x) (all_listed P f (k + 1) xs each)

all_mapped : {X Y : Type 0} (P : Y → Type 0) (f : X → Y) (xs : List X) → ((x : X) → P (f x)) → AllByRecursion P (map f xs)
all_mapped P f [] each = tt
all_mapped P f (x ∷ xs) each = (each x, all_mapped P f xs each)

declaration_formed : (lines : ℕ → ℕ) → (cells : List SizedCell) (net width : ℕ) (cell : Cell)
    → AllByRecursion IsItem (declaration_form lines cells net width cell)
declaration_formed lines cells net width (Input port) = tt
declaration_formed lines cells net width (Const k) = ((record { level = lit≤ tt; formed = tt; depth = lit≤ tt }, tt), tt)
declaration_formed lines cells net width (Op op args) =
    ((op_drive lines cells width op (operand args 0) (operand args 1) (operand args 2) (number_name lines net), tt), tt)
declaration_formed lines cells net width (Reg next) = (tt, tt)
declaration_formed lines cells net width (Mem depth at next enable) = (tt, tt)
declaration_formed lines cells net width (Peek mem at) = ((record { level = lit≤ tt; formed = (lit≤ tt, tt); depth = lit≤ tt }, tt), tt)

assignment_formed : (lines : ℕ → ℕ) → (cells : List SizedCell) (outs : ℕ) (outlet : Outlet) → IsItem (assignment_form lines cells outs outlet)
assignment_formed lines cells outs outlet = (record { level = lit≤ tt; formed = tt; depth = lit≤ tt }, tt)

edge_formed : (lines : ℕ → ℕ) → (cells : List SizedCell) (net : ℕ) (cell : Cell) → AllByRecursion IsItem (edge_form lines cells net cell)
edge_formed lines cells net (Input port) = tt
edge_formed lines cells net (Const k) = tt
edge_formed lines cells net (Op op args) = tt
edge_formed lines cells net (Reg next) = (record { statement = refl; formed = (lit≤ tt, tt); depth = lit≤ tt }, tt)
edge_formed lines cells net (Mem depth at next enable) =
    (record { statement = refl; formed = (lit≤ tt, refl, tt, (lit≤ tt, lit≤ tt, tt, tt)); depth = lit≤ tt }, tt)
edge_formed lines cells net (Peek mem at) = tt

pub items_formed : (lines : ℕ → ℕ) → (cells : List SizedCell) (outlets : List Outlet) (outs : ℕ) → AllByRecursion IsItem (item_forms lines cells outlets outs)
items_formed lines cells outlets outs =
    all_both IsItem (each_numbered (λ net (sized : SizedCell). declaration_form lines cells net sized.width sized.cell) 0 cells) _
    (all_listed IsItem (λ net (sized : SizedCell). declaration_form lines cells net sized.width sized.cell) 0 cells
    (λ net sized. declaration_formed lines cells net sized.width sized.cell))
    (all_both IsItem (map (assignment_form lines cells outs) outlets) _
    (all_mapped IsItem (assignment_form lines cells outs) outlets (assignment_formed lines cells outs))
    (all_listed IsItem (λ net (sized : SizedCell). edge_form lines cells net sized.cell) 0 cells (λ net sized. edge_formed lines cells net sized.cell)))
