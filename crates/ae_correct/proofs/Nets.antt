-- The inputs and outputs of the module of a netlist whose first cells are its inputs.
use Rattle.std.proofs.Common.{ℕ, suc, ◌≡◌, ◌+◌, Bool, true, false, not, ◌&&◌, cond, List, [], ◌∷◌, ◌++◌, length, map, take, drop, Some, slice_get, arith, refl, ap, sym, ◌∙◌, append_assoc, length-append}
use Rattle.std.specs.Prelude.{codes}
use Rattle.std.specs.List.{filter, enumerate_from}
use Rattle.std.proofs.lemmas.List.{append-nil, take-append-drop, length-map}
use Rattle.std.proofs.lemmas.List.Elements.{filter-append}
use Rattle.std.proofs.lemmas.List.Sums.{length-filter}
use Rattle.ae_netlist.specs.declared.cell.Handshake.TheVariants.{SourceValid, SourceReady, SinkValid, SinkReady}
use Rattle.ae_netlist.specs.declared.cell.Port.{Port}
use Rattle.ae_netlist.specs.declared.cell.Port.TheVariants.{Reset, Enable, Stream, In, Out, Plain}
use Rattle.ae_netlist.specs.declared.cell.Cell.{Cell}
use Rattle.ae_netlist.specs.declared.cell.Cell.TheVariants.{Input, Const, Op, Reg, Mem, Peek}
use Rattle.ae_netlist.specs.declared.cell.SizedCell.{SizedCell}
use Rattle.ae_netlist.specs.declared.cell.Outlet.{Outlet}
use Rattle.ae_netlist.specs.Counts.{count_of, is_input}
use Rattle.ae_vmodule.specs.declared.module.NetKind.TheVariants.{Input as InputNet, Wire as WireNet, OutWire as OutWireNet, Reg as RegNet, Memory as MemoryNet}
use Rattle.ae_vmodule.specs.ModuleTree.{NetTree, ModuleTree}
use Rattle.ae_judge.specs.Names.{is_input_kind, is_output_kind, is_clock}
use Rattle.ae_runs.specs.SameRuns as same
use Rattle.ae_verilog.specs.NetlistModule.{IsInputPort, port_name, net_of, number_name, clock_net, input_nets, output_net, declared_nets, declared_from, netlist_module}
use Rattle.ae_verilog.specs.NetlistModule as netlist
use Rattle.ae_ports.specs.Ports.{SizedPort, input_cell, outlet_port}
use Rattle.ae_correct.specs.Correct.{is_port}
use Rattle.ae_correct.proofs.ModuleClock.{clocked, is_clk}

-- the nets of ports
abbrev pub in_net : SizedPort → NetTree
in_net p = net_of InputNet 0 p.width (port_name 1 p.port)

abbrev pub out_net : (outs : ℕ) → SizedPort → NetTree
out_net outs p = net_of OutWireNet 0 p.width (port_name outs p.port)

-- ---- cells that are no inputs

abbrev pub NoInputs : List SizedCell → Type 0
NoInputs [] = Unit {0}
NoInputs (c ∷ cells) = (is_input c.cell ≡ false) × NoInputs cells

abbrev input_test : SizedCell → Bool
input_test c = is_input c.cell

split_test : {X : Type 0} (x : X) (xs : List X) (b : Bool) → length (cond b (x ∷ xs) xs) ≡ 0 → (b ≡ false) × (length xs ≡ 0)
split_test x xs true h = absurd (omega (arith, h))
split_test x xs false h = (refl, h)

none_left : (cells : List SizedCell) → length (filter input_test cells) ≡ 0 → NoInputs cells
none_left [] h = tt
none_left (c ∷ cells) h = let r = split_test c (filter input_test cells) (is_input c.cell) h in (r.0, none_left cells r.1)

pub inputs_kept : (ports : List SizedPort) → filter input_test (map input_cell ports) ≡ map input_cell ports
inputs_kept [] = refl
inputs_kept (p ∷ ports) = ap (λ cells. input_cell p ∷ cells) (inputs_kept ports)

-- the cells behind the inputs
pub no_more : (cells : List SizedCell) (ports : List SizedPort) → take (length ports) cells ≡ map input_cell ports → count_of is_input cells ≡ length ports
    → NoInputs (drop (length ports) cells)
no_more cells ports first count =
    let rest : List SizedCell = drop (length ports) cells in
    let whole : map input_cell ports ++ rest ≡ cells = ap (λ cs. cs ++ rest) (sym first) ∙ take-append-drop (length ports) cells in
    let many : length (filter input_test cells) ≡ length ports = length-filter input_test cells ∙ count in
    let parts : filter input_test cells ≡ map input_cell ports ++ filter input_test rest =
    ap (filter input_test) (sym whole) ∙ filter-append input_test (map input_cell ports) rest ∙ ap (λ cs. cs ++ filter input_test rest) (inputs_kept ports) in
    none_left rest (omega (arith, many, ap length parts, length-append (map input_cell ports) (filter input_test rest), length-map ports input_cell))

true_false : {A : Type 0} → true ≡ false → A
true_false h = cc

-- ---- the declared inputs

abbrev nets_in : ℕ → SizedCell → List NetTree
nets_in n sized = input_nets sized.width sized.cell

listed_from : (cells : List SizedCell) (k j : ℕ) → netlist.each_numbered nets_in k cells ≡ netlist.each_numbered nets_in j cells
listed_from [] k j = refl
listed_from (c ∷ cells) k j = ap (λ ns. nets_in 0 c ++ ns) (listed_from cells (k + 1) (j + 1))

listed_append : (xs ys : List SizedCell) (k : ℕ) → netlist.each_numbered nets_in k (xs ++ ys) ≡ netlist.each_numbered nets_in k xs
    ++ netlist.each_numbered nets_in 0 ys
listed_append [] ys k = listed_from ys k 0
listed_append (x ∷ xs) ys k =
    ap (λ ns. nets_in 0 x ++ ns) (listed_append xs ys (k + 1)) ∙
    sym (append_assoc (nets_in 0 x) (netlist.each_numbered nets_in (k + 1) xs) (netlist.each_numbered nets_in 0 ys))

ports_listed : (ports : List SizedPort) (k : ℕ) → netlist.each_numbered nets_in k (map input_cell ports) ≡ map in_net ports
ports_listed [] k = refl
ports_listed (p ∷ ports) k = ap (λ ns. in_net p ∷ ns) (ports_listed ports (k + 1))

no_net : (width : ℕ) (cell : Cell) → is_input cell ≡ false → input_nets width cell ≡ []
no_net width (Input port) h = true_false h
no_net width (Const k) h = refl
no_net width (Op op args) h = refl
no_net width (Reg next) h = refl
no_net width (Mem depth at next enable) h = refl
no_net width (Peek mem at) h = refl

none_listed : (cells : List SizedCell) (k : ℕ) → NoInputs cells → netlist.each_numbered nets_in k cells ≡ []
none_listed [] k h = refl
none_listed (c ∷ cells) k h = ap (λ ns. ns ++ netlist.each_numbered nets_in (k + 1) cells) (no_net c.width c.cell h.0) ∙ none_listed cells (k + 1) h.1

-- the first cells of a netlist are its inputs, and no others
pub record HaveInputs (cells : List SizedCell) (ports : List SizedPort) : Type 0 where
  pub first : take (length ports) cells ≡ map input_cell ports
  pub count : count_of is_input cells ≡ length ports

inputs_are : (cells : List SizedCell) (ports : List SizedPort) → HaveInputs cells ports → netlist.inputs_of cells ≡ map in_net ports
inputs_are cells ports h =
    let rest : List SizedCell = drop (length ports) cells in
    let whole : map input_cell ports ++ rest ≡ cells = ap (λ cs. cs ++ rest) (sym h.first) ∙ take-append-drop (length ports) cells in
    ap netlist.inputs_of (sym whole)
    ∙ listed_append (map input_cell ports) rest 0
    ∙ (λ i. ports_listed ports 0 i ++ none_listed rest 0 (no_more cells ports h.first h.count) i)
    ∙ append-nil (map in_net ports)

-- ---- the same of the netlist, with numbers

abbrev is_input_at : ℕ × SizedCell → Bool
is_input_at x = same.is_input_cell x.1.cell

enumerate_append : {X : Type 0} (xs ys : List X) (k : ℕ) → enumerate_from k (xs ++ ys) ≡ enumerate_from k xs ++ enumerate_from (k + length xs) ys
enumerate_append [] ys k = let e : k ≡ k + 0 = omega arith in ap (λ n. enumerate_from n ys) e
enumerate_append (x ∷ xs) ys k =
    let e : k + 1 + length xs ≡ k + length (x ∷ xs) = omega arith in
    ap (λ zs. (k, x) ∷ zs) (enumerate_append xs ys (k + 1) ∙ ap (λ n. enumerate_from (k + 1) xs ++ enumerate_from n ys) e)

numbered_kept : (ports : List SizedPort) (k : ℕ) → filter is_input_at (enumerate_from k (map input_cell ports)) ≡ enumerate_from k (map input_cell ports)
numbered_kept [] k = refl
numbered_kept (p ∷ ports) k = ap (λ zs. (k, input_cell p) ∷ zs) (numbered_kept ports (k + 1))

no_number : (cell : Cell) → is_input cell ≡ false → same.is_input_cell cell ≡ false
no_number (Input port) h = true_false h
no_number (Const k) h = refl
no_number (Op op args) h = refl
no_number (Reg next) h = refl
no_number (Mem depth at next enable) h = refl
no_number (Peek mem at) h = refl

none_numbered : (cells : List SizedCell) (k : ℕ) → NoInputs cells → filter is_input_at (enumerate_from k cells) ≡ []
none_numbered [] k h = refl
none_numbered (c ∷ cells) k h =
    (λ i. cond (no_number c.cell h.0 i) ((k, c) ∷ filter is_input_at (enumerate_from (k + 1) cells)) (filter is_input_at (enumerate_from (k + 1) cells))) ∙
    none_numbered cells (k + 1) h.1

pub numbered_inputs : (cells : List SizedCell) (ports : List SizedPort) → HaveInputs cells ports
    → same.input_cells cells ≡ enumerate_from 0 (map input_cell ports)
numbered_inputs cells ports h =
    let rest : List SizedCell = drop (length ports) cells in
    let front : List SizedCell = map input_cell ports in
    let whole : front ++ rest ≡ cells = ap (λ cs. cs ++ rest) (sym h.first) ∙ take-append-drop (length ports) cells in
    ap same.input_cells (sym whole)
    ∙ ap (filter is_input_at) (enumerate_append front rest 0)
    ∙ filter-append is_input_at (enumerate_from 0 front) (enumerate_from (0 + length front) rest)
    ∙ (λ i. numbered_kept ports 0 i ++ none_numbered rest (0 + length front) (no_more cells ports h.first h.count) i)
    ∙ append-nil (enumerate_from 0 front)

-- ---- filters over what is declared

-- a test that no inner name passes
record IsOuter (test : NetTree → Bool) : Type 0 where
  wire : (item width : ℕ) (n : List ℕ) → test (net_of WireNet item width n) ≡ false
  register : (item width : ℕ) (n : List ℕ) → test (net_of RegNet item width n) ≡ false
  memory : (depth item width : ℕ) (n : List ℕ) → test (net_of (MemoryNet depth) item width n) ≡ false

none_in : (lines : ℕ → ℕ) → (test : NetTree → Bool) → IsOuter test → (item n width : ℕ) (cell : Cell) → filter test (declared_nets lines item n width cell) ≡ []
none_in lines test h item n width (Input port) = refl
none_in lines test h item n width (Const k) = λ i. cond (h.wire item width (number_name lines n) i) (net_of WireNet item width (number_name lines n) ∷ []) []
none_in lines test h item n width (Op op args) = λ i. cond (h.wire item width (number_name lines n) i) (net_of WireNet item width (number_name lines n) ∷ []) []
none_in lines test h item n width (Reg next) =
    λ i. cond (h.register item width (number_name lines n) i) (net_of RegNet item width (number_name lines n) ∷ []) []
none_in lines test h item n width (Mem depth at next enable) =
    λ i. cond (h.memory depth item width (number_name lines n) i) (net_of (MemoryNet depth) item width (number_name lines n) ∷ []) []
none_in lines test h item n width (Peek mem at) =
    λ i. cond (h.wire item width (number_name lines n) i) (net_of WireNet item width (number_name lines n) ∷ []) []

none_declared : (lines : ℕ → ℕ) → (test : NetTree → Bool) → IsOuter test → (item n : ℕ) (cells : List SizedCell)
    → filter test (declared_from lines item n cells) ≡ []
none_declared lines test h item n [] = refl
none_declared lines test h item n (c ∷ cells) =
    filter-append test (declared_nets lines item n c.width c.cell)
    (declared_from lines (item + length (declared_nets lines item n c.width c.cell)) (n + 1) cells)
    ∙ (λ i. none_in lines test h item n c.width c.cell i ++ none_declared lines test h (item + length (declared_nets lines item n c.width c.cell))
    (n + 1) cells i)

kept : {X : Type 0} (test : NetTree → Bool) (g : X → NetTree) (xs : List X) → ((n : ℕ) (x : X) → slice_get xs n ≡ Some x → test (g x) ≡ true)
    → filter test (map g xs) ≡ map g xs
kept test g [] h = refl
kept test g (x ∷ xs) h =
    (λ i. cond (h 0 x refl i) (g x ∷ filter test (map g xs)) (filter test (map g xs))) ∙ ap (λ ns. g x ∷ ns) (kept test g xs (λ n y e. h (suc n) y e))

dropped : {X : Type 0} (test : NetTree → Bool) (g : X → NetTree) (xs : List X) → ((n : ℕ) (x : X) → slice_get xs n ≡ Some x → test (g x) ≡ false)
    → filter test (map g xs) ≡ []
dropped test g [] h = refl
dropped test g (x ∷ xs) h = (λ i. cond (h 0 x refl i) (g x ∷ filter test (map g xs)) (filter test (map g xs))) ∙ dropped test g xs (λ n y e. h (suc n) y e)

outputs_are : (cells : List SizedCell) (outlets : List Outlet) (outs : ℕ)
    → map (output_net cells outs) outlets ≡ map (out_net outs) (map (outlet_port cells) outlets)
outputs_are cells [] outs = refl
outputs_are cells (o ∷ outlets) outs = ap (λ ns. output_net cells outs o ∷ ns) (outputs_are cells outlets outs)

-- the ports of a netlist
pub record HavePorts (cells : List SizedCell) (outlets : List Outlet) (ins outs : List SizedPort) : Type 0 where
  pub inputs : HaveInputs cells ins
  pub outputs : map (outlet_port cells) outlets ≡ outs
  pub inner : (n : ℕ) (p : SizedPort) → slice_get ins n ≡ Some p → IsInputPort p.port

module _ (lines : ℕ → ℕ) (cells : List SizedCell) (outlets : List Outlet) (many : ℕ) (ins outs : List SizedPort) (h : HavePorts cells outlets ins outs) where
  abbrev pub tree : ModuleTree
  tree = netlist_module lines cells outlets many

  filtered : (test : NetTree → Bool) → IsOuter test → filter test tree.nets ≡ filter test (clock_net ∷ [])
      ++ (filter test (map in_net ins) ++ filter test (map (out_net many) outs))
  filtered test o =
      let declared : List NetTree = declared_from lines 1 0 cells in
      let in_nets : List NetTree = map in_net ins in
      let out_nets : List NetTree = map (out_net many) outs in
      let nets : tree.nets ≡ (clock_net ∷ []) ++ (in_nets ++ (out_nets ++ declared)) = λ i. clock_net
      ∷ (inputs_are cells ins h.inputs i ++ ((outputs_are cells outlets many ∙ ap (map (out_net many)) h.outputs) i ++ declared)) in
      ap (filter test) nets
      ∙ filter-append test (clock_net ∷ []) (in_nets ++ (out_nets ++ declared))
      ∙ ap (λ ns. filter test (clock_net ∷ []) ++ ns) (filter-append test in_nets (out_nets ++ declared))
      ∙ ap (λ ns. filter test (clock_net ∷ []) ++ (filter test in_nets ++ ns)) (filter-append test out_nets declared)
      ∙ ap (λ ns. filter test (clock_net ∷ []) ++ (filter test in_nets ++ (filter test out_nets ++ ns))) (none_declared lines test o 1 0 cells)
      ∙ ap (λ ns. filter test (clock_net ∷ []) ++ (filter test in_nets ++ ns)) (append-nil (filter test out_nets))

  pub ports_filtered : filter is_port tree.nets ≡ clock_net ∷ (map in_net ins ++ map (out_net many) outs)
  ports_filtered =
      filtered is_port (record { wire = λ item width n. refl; register = λ item width n. refl; memory = λ depth item width n. refl })
      ∙ (λ i. clock_net ∷ (kept is_port in_net ins (λ n p e. refl) i ++ kept is_port (out_net many) outs (λ n p e. refl) i))

  -- no other input has the clock's name
  other_name : (port : Port) → IsInputPort port → is_clock tree (port_name 1 port) ≡ false
  other_name Reset k = is_clk tree (port_name 1 Reset) (clocked lines cells outlets many)
  other_name Enable k = is_clk tree (port_name 1 Enable) (clocked lines cells outlets many)
  other_name (Stream SourceValid) k = is_clk tree (port_name 1 (Stream SourceValid)) (clocked lines cells outlets many)
  other_name (Stream SourceReady) k = absurd k
  other_name (Stream SinkValid) k = absurd k
  other_name (Stream SinkReady) k = is_clk tree (port_name 1 (Stream SinkReady)) (clocked lines cells outlets many)
  other_name (In param lane word) k = is_clk tree (port_name 1 (In param lane word)) (clocked lines cells outlets many)
  other_name (Out result lane word) k = absurd k
  other_name (Plain n) k = absurd k

  pub inputs_filtered : same.inputs_of tree ≡ map in_net ins
  inputs_filtered =
      let test : NetTree → Bool = λ x. is_input_kind x.kind && not (is_clock tree x.name) in
      let clk : is_clock tree (codes "clk") ≡ true = is_clk tree (codes "clk") (clocked lines cells outlets many) in
      filtered test (record { wire = λ item width n. refl; register = λ item width n. refl; memory = λ depth item width n. refl })
      ∙ (λ i. cond (not (clk i)) (clock_net ∷ []) []
      ++ (kept test in_net ins (λ n p e. ap not (other_name p.port (h.inner n p e))) i ++ dropped test (out_net many) outs (λ n p e. refl) i))
      ∙ append-nil (map in_net ins)

  pub outputs_filtered : same.outputs_of tree ≡ map (out_net many) outs
  outputs_filtered =
      let test : NetTree → Bool = λ x. is_output_kind x.kind in
      filtered test (record { wire = λ item width n. refl; register = λ item width n. refl; memory = λ depth item width n. refl })
      ∙ (λ i. dropped test in_net ins (λ n p e. refl) i ++ kept test (out_net many) outs (λ n p e. refl) i)
