-- The text of a netlist's module spells that module.
use Rattle.std.proofs.Common.{◌≡◌, ℕ, suc, ◌+◌, ◌≤◌, List, [], ◌∷◌, ◌++◌, All, length, map, Bool, true, false, Some, refl, sym, ap, ◌∙◌, subst, append_assoc, append-nil}
use Rattle.std.specs.Prelude.{codes, nat_lt, slice_get, ◌&&◌, if◌then◌else◌}
use Rattle.std.specs.List.{flat_map, list_all}
use Rattle.std.proofs.lemmas.Option.{slice_get_within, get_or_from_slice_get}
use Rattle.ae_netlist.specs.declared.cell.Cell.{Cell}
use Rattle.ae_netlist.specs.declared.cell.Cell.TheVariants.{Input, Const, Op, Reg, Mem, Peek}
use Rattle.ae_netlist.specs.declared.cell.SizedCell.{SizedCell}
use Rattle.ae_netlist.specs.declared.cell.Outlet.{Outlet}
use Rattle.ae_netlist.specs.Circuit.{operand, width_of, HaveNets}
use Rattle.ae_word.specs.declared.op.WordOp.{WordOp}
use Rattle.ae_vtoken.specs.declared.token.Key.TheVariants.{EndModule}
use Rattle.ae_vtoken.specs.declared.token.Sign.TheVariants.{Comma, Close, Semicolon}
use Rattle.ae_vmodule.specs.ModuleTree.{ExprTree, constant, index}
use Rattle.ae_vtoken.specs.Tokens.{TokenTree, Mark, Word, AreTokens, No_more}
use Rattle.ae_vread.specs.Forms.{PortForm, ItemForm, InputHead, port_tokens, comma_tokens, item_tokens, module_tokens}
use Rattle.ae_vread.specs.Spells.{Spells}
use Rattle.ae_verilog.specs.ReportLines.{is_clean}
use Rattle.ae_verilog.specs.NetlistModule.{port_name, number_name, net_name, net_value, op_expression, each_numbered, netlist_module}
use Rattle.ae_verilog.specs.Notes.{NoteTree, ArePrinted, lines_of}
use Rattle.ae_verilog.specs.Text.{PortFits, CellPortFits, is_cast, value_text, widened_text, op_text, declaration_text, noted, input_text, output_text, header_text, assignment_text, edge_text, module_text, named_text, whole_text}
use Rattle.ae_verilog.specs.Written.{IsListable}
use Rattle.ae_spelled.specs.Streams.{IsModuleName, renamed}
use Rattle.ae_spelled.proofs.Writable.{IsWritable}
use Rattle.ae_spelled.proofs.Lines.{IsTextOf, aeth_named, no_text, both_texts, value_item, register_item, memory_item, register_edge_item, memory_edge_item, value_line, widened_line, register_line, memory_line, assign_line, register_edge_line, memory_edge_line, end_line, quiet_line, net_named}
use Rattle.ae_spelled.proofs.Comments.{note_comment}
use Rattle.ae_spelled.proofs.NotedCells.{listed_text, noted_text}
use Rattle.ae_spelled.proofs.Ports.{port_form, IsPieceOf, no_piece, both_pieces, input_port, output_port, head_lines, start_tokens}
use Rattle.ae_spelled.proofs.Named.{IsGood, port_named, fits_at}
use Rattle.ae_spelled.proofs.NetlistForm.{input_forms, output_form, declaration_form, assignment_form, edge_form, port_forms, item_forms, netlist_form, flat_both, flat_flat, flat_listed, flat_mapped}
use Rattle.ae_spelled.proofs.NetlistTree.{IsDeclared, IsEdged, cell_of, outlet_of, tree_back, items_formed}

-- lists of texts

flat_text : {X : Type 0} (f : X → List ℕ) (g : X → List TokenTree) (xs : List X) → ((j : ℕ) (x : X) → slice_get xs j ≡ Some x → IsTextOf (f x) (g x))
    → IsTextOf (flat_map f xs) (flat_map g xs)
flat_text f g [] each = no_text
flat_text f g (x ∷ xs) each = both_texts (f x) (flat_map f xs) (g x) (flat_map g xs) (each 0 x refl) (flat_text f g xs (λ j y e. each (suc j) y e))

flat_piece : {X : Type 0} (f : X → List ℕ) (g : X → List TokenTree) (xs : List X) → ((j : ℕ) (x : X) → slice_get xs j ≡ Some x → IsPieceOf (f x) (g x))
    → IsPieceOf (flat_map f xs) (flat_map g xs)
flat_piece f g [] each = no_piece
flat_piece f g (x ∷ xs) each = both_pieces (f x) (flat_map f xs) (g x) (flat_map g xs) (each 0 x refl) (flat_piece f g xs (λ j y e. each (suc j) y e))

single : (text : List ℕ) (i : ItemForm) → IsTextOf text (item_tokens i) → IsTextOf text (flat_map item_tokens (i ∷ []))
single text i h = subst (IsTextOf text) (sym (append-nil (item_tokens i))) h

-- cells

op_line : (lines : ℕ → ℕ) → (cells : List SizedCell) (width net : ℕ) (op : WordOp) (a b c : ℕ) → width ≤ 64
    → IsWritable (op_expression lines cells width op a b c)
    → IsTextOf (op_text lines cells width net op a b c) (item_tokens (value_item lines width net (op_expression lines cells width op a b c)))
op_line lines cells width net op a b c high w = choose (is_cast op && nat_lt (width_of cells a) width) (op_expression lines cells width op a b c) w
  where
    choose : (t : Bool) (value : ExprTree) → IsWritable value
        → IsTextOf (if t then widened_text lines width net value else value_text lines width net value) (item_tokens (value_item lines width net value))
    choose true value w = widened_line lines width net value high w
    choose false value w = value_line lines width net value high w

declaration_line : (lines : ℕ → ℕ) → (cells : List SizedCell) (net width : ℕ) (cell : Cell) → width ≤ 64 → IsDeclared lines cells net width cell
    → IsTextOf (declaration_text lines cells net width cell) (flat_map item_tokens (declaration_form lines cells net width cell))
declaration_line lines cells net width (Input port) high h = no_text
declaration_line lines cells net width (Const k) high h =
    single _ (value_item lines width net (constant width k true)) (value_line lines width net (constant width k true) high h)
declaration_line lines cells net width (Op op args) high h =
    single _ (value_item lines width net (op_expression lines cells width op (operand args 0) (operand args 1) (operand args 2)))
    (op_line lines cells width net op (operand args 0) (operand args 1) (operand args 2) high h)
declaration_line lines cells net width (Reg next) high h = single _ (register_item lines width net) (register_line lines width net high)
declaration_line lines cells net width (Mem depth at next enable) high h =
    single _ (memory_item lines width net depth) (memory_line lines width net depth high h.1)
declaration_line lines cells net width (Peek mem at) high h =
    single _ (value_item lines width net (index (net_name lines cells mem.0) (net_value lines cells at.0)))
    (value_line lines width net (index (net_name lines cells mem.0) (net_value lines cells at.0)) high h)

edge_line : (lines : ℕ → ℕ) → (cells : List SizedCell) (net : ℕ) (cell : Cell) → IsEdged lines cells cell
    → IsTextOf (edge_text lines cells net cell) (flat_map item_tokens (edge_form lines cells net cell))
edge_line lines cells net (Input port) h = no_text
edge_line lines cells net (Const k) h = no_text
edge_line lines cells net (Op op args) h = no_text
edge_line lines cells net (Reg next) h =
    single _ (register_edge_item (number_name lines net) (net_name lines cells next.0))
    (register_edge_line (number_name lines net) (net_name lines cells next.0) (net_named lines net) h)
edge_line lines cells net (Mem depth at next enable) h =
    single _ (memory_edge_item (number_name lines net) (net_name lines cells at.0) (net_name lines cells next.0) (net_name lines cells enable.0))
    (memory_edge_line (number_name lines net) (net_name lines cells at.0) (net_name lines cells next.0) (net_name lines cells enable.0)
    (net_named lines net) h.0 h.1 h.2)
edge_line lines cells net (Peek mem at) h = no_text

single_port : (text : List ℕ) (p : PortForm) → IsPieceOf text (Mark Comma ∷ port_tokens p) → IsPieceOf text (comma_tokens port_tokens (p ∷ []))
single_port text p h = subst (IsPieceOf text) (sym (append-nil (Mark Comma ∷ port_tokens p))) h

input_line : (width : ℕ) (cell : Cell) → width ≤ 64 → CellPortFits cell → IsPieceOf (input_text width cell) (comma_tokens port_tokens (input_forms width cell))
input_line width (Input port) high fits =
    single_port _ (port_form (InputHead true) width (port_name 1 port)) (input_port width (port_name 1 port) high (port_named 1 port fits))
input_line width (Const k) high fits = no_piece
input_line width (Op op args) high fits = no_piece
input_line width (Reg next) high fits = no_piece
input_line width (Mem depth at next enable) high fits = no_piece
input_line width (Peek mem at) high fits = no_piece

-- the outputs can be written
pub record AreGood (cells : List SizedCell) (outlets : List Outlet) : Type 0 where
  pub have : HaveNets cells outlets
  pub fits : All (λ (outlet : Outlet). PortFits outlet.port) outlets

outlet_fits : (cells : List SizedCell) (outlets : List Outlet) (j : ℕ) (outlet : Outlet) → AreGood cells outlets → slice_get outlets j ≡ Some outlet
    → PortFits outlet.port
outlet_fits cells outlets j outlet good e =
    subst (λ (o : Outlet). PortFits o.port) (get_or_from_slice_get outlets j outlet outlet e) (good.fits j outlet (slice_get_within outlets j outlet e))

-- the head

ports_piece : (lines : ℕ → ℕ) → (cells : List SizedCell) (outlets : List Outlet) (outs : ℕ) → IsGood cells → AreGood cells outlets →
    IsPieceOf (flat_map (λ (sized : SizedCell). input_text sized.width sized.cell) cells ++ flat_map (output_text cells outs) outlets)
    (comma_tokens port_tokens (port_forms cells outlets outs))
ports_piece lines cells outlets outs good shown =
    let ins : List PortForm = flat_map (λ (sized : SizedCell). input_forms sized.width sized.cell) cells in
    let tokens : comma_tokens port_tokens (port_forms cells outlets outs) ≡ flat_map
    (λ (sized : SizedCell). comma_tokens port_tokens (input_forms sized.width sized.cell)) cells
    ++ flat_map (λ o. Mark Comma ∷ port_tokens (output_form cells outs o)) outlets =
    flat_both (λ p. Mark Comma ∷ port_tokens p) ins (map (output_form cells outs) outlets)
    ∙ ap (λ l. l ++ comma_tokens port_tokens (map (output_form cells outs) outlets))
    (flat_flat (λ p. Mark Comma ∷ port_tokens p) (λ (sized : SizedCell). input_forms sized.width sized.cell) cells)
    ∙ ap (λ l. flat_map (λ (sized : SizedCell). comma_tokens port_tokens (input_forms sized.width sized.cell)) cells ++ l)
    (flat_mapped (λ p. Mark Comma ∷ port_tokens p) (output_form cells outs) outlets) in
    subst (IsPieceOf (flat_map (λ (sized : SizedCell). input_text sized.width sized.cell) cells ++ flat_map (output_text cells outs) outlets)) (sym tokens)
    (both_pieces _ _ _ _
    (flat_piece (λ (sized : SizedCell). input_text sized.width sized.cell)
    (λ (sized : SizedCell). comma_tokens port_tokens (input_forms sized.width sized.cell)) cells
    (λ j sized e. let cell = cell_of lines cells j sized good e in input_line sized.width sized.cell cell.high (fits_at cells j sized good e)))
    (flat_piece (output_text cells outs) (λ o. Mark Comma ∷ port_tokens (output_form cells outs o)) outlets
    (λ j outlet e. let net = outlet_of lines cells outlets j outlet good shown.have e in
    output_port (width_of cells outlet.net.0) (port_name outs outlet.port) net.high
    (port_named outs outlet.port (outlet_fits cells outlets j outlet shown e)))))

header_lines : (title : List ℕ) (lines : ℕ → ℕ) → (cells : List SizedCell) (outlets : List Outlet) (outs : ℕ) → IsModuleName title → IsGood cells
    → AreGood cells outlets →
    IsTextOf (header_text title cells outlets outs) (start_tokens title
    ++ (comma_tokens port_tokens (port_forms cells outlets outs) ++ Mark Close ∷ Mark Semicolon ∷ []))
header_lines title lines cells outlets outs named good shown =
    let inputs : List ℕ = flat_map (λ (sized : SizedCell). input_text sized.width sized.cell) cells in
    let outputs : List ℕ = flat_map (output_text cells outs) outlets in
    subst (λ l. IsTextOf (codes "module " ++ (title ++ (codes " (\n  input wire clk" ++ l)))
    (start_tokens title ++ (comma_tokens port_tokens (port_forms cells outlets outs) ++ Mark Close ∷ Mark Semicolon ∷ [])))
    (append_assoc inputs outputs (codes "\n);\n"))
    (head_lines title (inputs ++ outputs) (comma_tokens port_tokens (port_forms cells outlets outs)) named (ports_piece lines cells outlets outs good shown))

-- the items

items_lines : (lines : ℕ → ℕ) → (notes : List NoteTree) (cells : List SizedCell) (outlets : List Outlet) (outs : ℕ) → ArePrinted notes → IsGood cells
    → AreGood cells outlets →
    IsTextOf (noted (λ net (sized : SizedCell). declaration_text lines cells net sized.width sized.cell) cells 0 notes
    ++ (flat_map (assignment_text lines cells outs) outlets
    ++ (each_numbered (λ net (sized : SizedCell). edge_text lines cells net sized.cell) 0 cells ++ codes "endmodule\n")))
    (flat_map item_tokens (item_forms lines cells outlets outs) ++ Word EndModule ∷ [])
items_lines lines notes cells outlets outs printed good shown =
    let declared : List ItemForm = each_numbered (λ net (sized : SizedCell). declaration_form lines cells net sized.width sized.cell) 0 cells in
    let assigned : List ItemForm = map (assignment_form lines cells outs) outlets in
    let edges : List ItemForm = each_numbered (λ net (sized : SizedCell). edge_form lines cells net sized.cell) 0 cells in
    let one : IsTextOf (noted (λ net (sized : SizedCell). declaration_text lines cells net sized.width sized.cell) cells 0 notes)
    (flat_map item_tokens declared) =
    subst (IsTextOf (noted (λ net (sized : SizedCell). declaration_text lines cells net sized.width sized.cell) cells 0 notes))
    (sym (flat_listed item_tokens (λ net (sized : SizedCell). declaration_form lines cells net sized.width sized.cell) 0 cells))
    (noted_text (λ net (sized : SizedCell). declaration_text lines cells net sized.width sized.cell)
    (λ net (sized : SizedCell). flat_map item_tokens (declaration_form lines cells net sized.width sized.cell)) cells notes
    (λ i n e. note_comment n (printed i n e))
    (λ j sized e.
    let cell = cell_of lines cells j sized good e in
    declaration_line lines cells j sized.width sized.cell cell.high cell.declared)) in
    let two : IsTextOf (flat_map (assignment_text lines cells outs) outlets) (flat_map item_tokens assigned) =
    subst (IsTextOf (flat_map (assignment_text lines cells outs) outlets)) (sym (flat_mapped item_tokens (assignment_form lines cells outs) outlets))
    (flat_text (assignment_text lines cells outs) (λ o. item_tokens (assignment_form lines cells outs o)) outlets (λ j outlet e.
    let net = outlet_of lines cells outlets j outlet good shown.have e in
    assign_line (port_name outs outlet.port) (net_name lines cells outlet.net.0)
    (port_named outs outlet.port (outlet_fits cells outlets j outlet shown e)) net.named)) in
    let three : IsTextOf (each_numbered (λ net (sized : SizedCell). edge_text lines cells net sized.cell) 0 cells) (flat_map item_tokens edges) =
    subst (IsTextOf (each_numbered (λ net (sized : SizedCell). edge_text lines cells net sized.cell) 0 cells))
    (sym (flat_listed item_tokens (λ net (sized : SizedCell). edge_form lines cells net sized.cell) 0 cells))
    (listed_text _ (λ net (sized : SizedCell). flat_map item_tokens (edge_form lines cells net sized.cell)) 0 cells (λ j sized e.
    let cell = cell_of lines cells j sized good e in
    edge_line lines cells (0 + j) sized.cell cell.edged)) in
    let whole = both_texts _ _ _ _ one (both_texts _ _ _ _ two (both_texts _ _ _ _ three end_line)) in
    subst (IsTextOf _) (sym (joined_tokens (flat_map item_tokens declared) (flat_map item_tokens assigned) (flat_map item_tokens edges) (Word EndModule ∷ [])
    (flat_map item_tokens (item_forms lines cells outlets outs))
    (flat_both item_tokens declared (assigned ++ edges) ∙ ap (λ l. flat_map item_tokens declared ++ l) (flat_both item_tokens assigned edges)))) whole
  where
    joined_tokens : (a b c d whole : List TokenTree) → whole ≡ a ++ (b ++ c) → whole ++ d ≡ a ++ (b ++ (c ++ d))
    joined_tokens a b c d whole e = ap (λ l. l ++ d) e ∙ append_assoc a (b ++ c) d ∙ ap (λ l. a ++ l) (append_assoc b c d)

module_lines : (title : List ℕ) (lines : ℕ → ℕ) (notes : List NoteTree) (cells : List SizedCell) (outlets : List Outlet) (outs : ℕ) → IsModuleName title
    → ArePrinted notes
    → IsGood cells → AreGood cells outlets → IsTextOf (module_text title lines notes cells outlets outs)
    (module_tokens (netlist_form title lines cells outlets outs))
module_lines title lines notes cells outlets outs named printed good shown =
    subst (IsTextOf (module_text title lines notes cells outlets outs))
    (head_and_items (comma_tokens port_tokens (port_forms cells outlets outs))
    (flat_map item_tokens (item_forms lines cells outlets outs) ++ Word EndModule ∷ []))
    (both_texts _ _ _ _ (header_lines title lines cells outlets outs named good shown) (items_lines lines notes cells outlets outs printed good shown))
  where
    head_and_items : (ports items : List TokenTree) → (start_tokens title ++ (ports ++ Mark Close ∷ Mark Semicolon ∷ [])) ++ items ≡ start_tokens title
        ++ (ports ++ Mark Close ∷ Mark Semicolon ∷ items)
    head_and_items ports items = append_assoc (start_tokens title) (ports ++ Mark Close ∷ Mark Semicolon ∷ []) items ∙
        ap (λ l. start_tokens title ++ l) (append_assoc ports (Mark Close ∷ Mark Semicolon ∷ []) items)

-- the whole text
whole_lines : (title behind report : List ℕ) (notes : List NoteTree) (cells : List SizedCell) (outlets : List Outlet) (outs : ℕ) → IsModuleName title
    → IsTextOf behind [] → IsTextOf report [] → ArePrinted notes
    → IsGood cells → AreGood cells outlets → IsTextOf (named_text title behind report notes cells outlets outs)
    (module_tokens (netlist_form title (lines_of notes (length cells)) cells outlets outs))
whole_lines title behind report notes cells outlets outs named quiet before printed good shown =
    both_texts _ _ _ _ before (both_texts _ _ _ _ quiet (both_texts _ _ _ _ quiet_line
    (module_lines title (lines_of notes (length cells)) notes cells outlets outs named printed good shown)))

whole_spelled : (title behind report : List ℕ) (notes : List NoteTree) (cells : List SizedCell) (outlets : List Outlet) (outs : ℕ) → IsModuleName title
    → IsTextOf behind [] → IsTextOf report [] → ArePrinted notes
    → IsGood cells → AreGood cells outlets → Spells (named_text title behind report notes cells outlets outs)
    (renamed title (netlist_module (lines_of notes (length cells)) cells outlets outs))
whole_spelled title behind report notes cells outlets outs named quiet before printed good shown =
    let read = whole_lines title behind report notes cells outlets outs named quiet before printed good shown in
    let text : List ℕ = named_text title behind report notes cells outlets outs in
    let ts : List TokenTree = module_tokens (netlist_form title (lines_of notes (length cells)) cells outlets outs) in
    record {
      form = netlist_form title (lines_of notes (length cells)) cells outlets outs;
      formed = items_formed (lines_of notes (length cells)) cells outlets outs;
      written = subst (λ l. AreTokens l ts) (append-nil text) (subst (AreTokens (text ++ [])) (append-nil ts) (read.tokens [] [] (No_more [] refl)));
      tree = tree_back title (lines_of notes (length cells)) cells outlets outs good shown.have;
    }

whole_clean : (title behind report : List ℕ) (notes : List NoteTree) (cells : List SizedCell) (outlets : List Outlet) (outs : ℕ) → IsModuleName title
    → IsTextOf behind [] → IsTextOf report [] → ArePrinted notes
    → IsGood cells → AreGood cells outlets → list_all is_clean (named_text title behind report notes cells outlets outs) ≡ true
whole_clean title behind report notes cells outlets outs named quiet before printed good shown =
    (whole_lines title behind report notes cells outlets outs named quiet before printed good shown).clean.all

-- of a listable netlist

good_from : (cells : List SizedCell) (outlets : List Outlet) → IsListable cells outlets → IsGood cells
good_from cells outlets ok = record { formed = ok.formed; fits = ok.inputs; few = ok.few }

pub named_spelled : (title behind report : List ℕ) (notes : List NoteTree) (cells : List SizedCell) (outlets : List Outlet) (outs : ℕ) → IsModuleName title
    → IsTextOf behind [] → IsTextOf report [] → ArePrinted notes → IsListable cells outlets → Spells (named_text title behind report notes cells outlets outs)
    (renamed title (netlist_module (lines_of notes (length cells)) cells outlets outs))
named_spelled title behind report notes cells outlets outs named quiet before printed ok =
    whole_spelled title behind report notes cells outlets outs named quiet before printed (good_from cells outlets ok)
    (record { have = ok.shown; fits = ok.outputs })

pub named_clean : (title behind report : List ℕ) (notes : List NoteTree) (cells : List SizedCell) (outlets : List Outlet) (outs : ℕ) → IsModuleName title
    → IsTextOf behind [] → IsTextOf report [] → ArePrinted notes → IsListable cells outlets
    → list_all is_clean (named_text title behind report notes cells outlets outs) ≡ true
named_clean title behind report notes cells outlets outs named quiet before printed ok =
    whole_clean title behind report notes cells outlets outs named quiet before printed (good_from cells outlets ok)
    (record { have = ok.shown; fits = ok.outputs })

-- the listing of a program's module
pub listing_spelled : (report : List ℕ) (notes : List NoteTree) (cells : List SizedCell) (outlets : List Outlet) (outs : ℕ) → IsTextOf report []
    → ArePrinted notes → IsListable cells outlets → Spells (whole_text report notes cells outlets outs)
    (netlist_module (lines_of notes (length cells)) cells outlets outs)
listing_spelled report notes cells outlets outs before printed ok =
    named_spelled (codes "aeth") [] report notes cells outlets outs aeth_named no_text before printed ok
