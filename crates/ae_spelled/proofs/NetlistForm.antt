-- The form in which a netlist's module is written, and the module that it stands for.
use Rattle.std.proofs.Common.{◌≡◌, ℕ, suc, ◌+◌, ◌-◌, ◌≤◌, List, [], ◌∷◌, ◌++◌, map, true, false, Some, refl, sym, ap, ◌∙◌, subst, arith, append_assoc, inl, inr}
use Rattle.std.specs.Prelude.{nat_lt, slice_get, min}
use Rattle.std.specs.List.{flat_map}
use Rattle.std.proofs.lemmas.Bool.{cases_Bool, cond-true, cond-false, lt-ltb, both_ways, cases_eq}
use Rattle.ae_netlist.specs.declared.cell.Cell.{Cell}
use Rattle.ae_netlist.specs.declared.cell.Cell.TheVariants.{Input, Const, Op, Reg, Mem, Peek}
use Rattle.ae_netlist.specs.declared.cell.SizedCell.{SizedCell}
use Rattle.ae_netlist.specs.declared.cell.Outlet.{Outlet}
use Rattle.ae_netlist.specs.Circuit.{operand, width_of}
use Rattle.ae_vmodule.specs.ModuleTree.{constant, index}
use Rattle.ae_vmodule.specs.declared.module.NetKind.{NetKind}
use Rattle.ae_vread.specs.Forms.{PortForm, InputHead, OutputHead, ItemForm, ModuleForm, size_of, net_of}
use Rattle.ae_verilog.specs.NetlistModule as m
use Rattle.ae_verilog.specs.NetlistModule.{port_name, number_name, net_name, net_value, op_expression, each_numbered}
use Rattle.ae_spelled.proofs.Pieces.{number_form}
use Rattle.ae_spelled.proofs.Writable.{number_back}
use Rattle.ae_spelled.proofs.Lines.{range_form, value_item, register_item, memory_item, assign_item, register_edge_item, memory_edge_item}
use Rattle.ae_spelled.proofs.Ports.{port_form, clock_port}
use Rattle.ae_spelled.proofs.LawSame.{map_parts as map_both}

abbrev pub input_forms : ℕ → Cell → List PortForm
input_forms width (Input port) = port_form (InputHead true) width (port_name 1 port) ∷ []
input_forms width (Const k) = []
input_forms width (Op op args) = []
input_forms width (Reg next) = []
input_forms width (Mem depth at next enable) = []
input_forms width (Peek mem at) = []

abbrev pub output_form : List SizedCell → ℕ → Outlet → PortForm
output_form cells outs outlet = port_form (OutputHead true) (width_of cells outlet.net.0) (port_name outs outlet.port)

abbrev pub declaration_form : (lines : ℕ → ℕ) → List SizedCell → (net width : ℕ) → Cell → List ItemForm
declaration_form lines cells net width (Input port) = []
declaration_form lines cells net width (Const k) = value_item lines width net (constant width k true) ∷ []
declaration_form lines cells net width (Op op args) =
    value_item lines width net (op_expression lines cells width op (operand args 0) (operand args 1) (operand args 2)) ∷ []
declaration_form lines cells net width (Reg next) = register_item lines width net ∷ []
declaration_form lines cells net width (Mem depth at next enable) = memory_item lines width net depth ∷ []
declaration_form lines cells net width (Peek mem at) = value_item lines width net (index (net_name lines cells mem.0) (net_value lines cells at.0)) ∷ []

abbrev pub assignment_form : (lines : ℕ → ℕ) → List SizedCell → ℕ → Outlet → ItemForm
assignment_form lines cells outs outlet = assign_item (port_name outs outlet.port) (net_name lines cells outlet.net.0)

abbrev pub edge_form : (lines : ℕ → ℕ) → List SizedCell → ℕ → Cell → List ItemForm
edge_form lines cells net (Input port) = []
edge_form lines cells net (Const k) = []
edge_form lines cells net (Op op args) = []
edge_form lines cells net (Reg next) = register_edge_item (number_name lines net) (net_name lines cells next.0) ∷ []
edge_form lines cells net (Mem depth at next enable) =
    memory_edge_item (number_name lines net) (net_name lines cells at.0) (net_name lines cells next.0) (net_name lines cells enable.0) ∷ []
edge_form lines cells net (Peek mem at) = []

abbrev pub port_forms : List SizedCell → List Outlet → ℕ → List PortForm
port_forms cells outlets outs = flat_map (λ (sized : SizedCell). input_forms sized.width sized.cell) cells ++ map (output_form cells outs) outlets

abbrev pub item_forms : (lines : ℕ → ℕ) → List SizedCell → List Outlet → ℕ → List ItemForm
item_forms lines cells outlets outs =
    each_numbered (λ net (sized : SizedCell). declaration_form lines cells net sized.width sized.cell) 0 cells
    ++ (map (assignment_form lines cells outs) outlets
    ++ each_numbered (λ net (sized : SizedCell). edge_form lines cells net sized.cell) 0 cells)

abbrev pub netlist_form : (title : List ℕ) (lines : ℕ → ℕ) → List SizedCell → List Outlet → ℕ → ModuleForm
netlist_form title lines cells outlets outs = record {
  name = title;
  first = clock_port;
  more = port_forms cells outlets outs;
  items = item_forms lines cells outlets outs;
}

-- lists

pub flat_both : {X A : Type 0} (f : X → List A) (xs ys : List X) → flat_map f (xs ++ ys) ≡ flat_map f xs ++ flat_map f ys
flat_both f [] ys = refl
flat_both f (x ∷ xs) ys = ap (λ l. f x ++ l) (flat_both f xs ys) ∙ sym (append_assoc (f x) (flat_map f xs) (flat_map f ys))

pub flat_flat : {X Y A : Type 0} (g : Y → List A) (f : X → List Y) (xs : List X) → flat_map g (flat_map f xs) ≡ flat_map (λ x. flat_map g (f x)) xs
flat_flat g f [] = refl
flat_flat g f (x ∷ xs) = flat_both g (f x) (flat_map f xs) ∙ ap (λ l. flat_map g (f x) ++ l) (flat_flat g f xs)

pub flat_listed : {X Y A : Type 0} (g : Y → List A) (f : ℕ → X → List Y) (k : ℕ) (xs : List X)
    → flat_map g (each_numbered f k xs) ≡ each_numbered (λ n x. flat_map g (f n x)) k xs
flat_listed g f k [] = refl
flat_listed g f k (x ∷ xs) = flat_both g (f k x) (each_numbered f (k + 1) xs) ∙ ap (λ l. flat_map g (f k x) ++ l) (flat_listed g f (k + 1) xs)

pub flat_mapped : {X Y A : Type 0} (g : Y → List A) (f : X → Y) (xs : List X) → flat_map g (map f xs) ≡ flat_map (λ x. g (f x)) xs
flat_mapped g f [] = refl
flat_mapped g f (x ∷ xs) = ap (λ l. g (f x) ++ l) (flat_mapped g f xs)

pub map_listed : {X Y A : Type 0} (g : Y → A) (f : ℕ → X → List Y) (k : ℕ) (xs : List X)
    → map g (each_numbered f k xs) ≡ each_numbered (λ n x. map g (f n x)) k xs
map_listed g f k [] = refl
map_listed g f k (x ∷ xs) = map_both g (f k x) (each_numbered f (k + 1) xs) ∙ ap (λ l. map g (f k x) ++ l) (map_listed g f (k + 1) xs)

pub map_map : {X Y A : Type 0} (g : Y → A) (f : X → Y) (xs : List X) → map g (map f xs) ≡ map (λ x. g (f x)) xs
map_map g f [] = refl
map_map g f (x ∷ xs) = ap (λ l. g (f x) ∷ l) (map_map g f xs)

pub next_place : (k j : ℕ) → k + suc j ≡ k + 1 + j
next_place k j = omega arith

pub first_place : (k : ℕ) → k + 0 ≡ k
first_place k = omega arith

pub listed_same : {X A : Type 0} (f g : ℕ → X → List A) (k : ℕ) (xs : List X) → ((j : ℕ) (x : X) → slice_get xs j ≡ Some x → f (k + j) x ≡ g (k + j) x)
    → each_numbered f k xs ≡ each_numbered g k xs
listed_same f g k [] same = refl
listed_same f g k (x ∷ xs) same =
    ap (λ l. l ++ each_numbered f (k + 1) xs) (subst (λ n. f n x ≡ g n x) (first_place k) (same 0 x refl))
    ∙ ap (λ l. g k x ++ l) (listed_same f g (k + 1) xs (λ j y e. subst (λ n. f n y ≡ g n y) (next_place k j) (same (suc j) y e)))

pub flat_same : {X A : Type 0} (f g : X → List A) (xs : List X) → ((j : ℕ) (x : X) → slice_get xs j ≡ Some x → f x ≡ g x) → flat_map f xs ≡ flat_map g xs
flat_same f g [] same = refl
flat_same f g (x ∷ xs) same = ap (λ l. l ++ flat_map f xs) (same 0 x refl) ∙ ap (λ l. g x ++ l) (flat_same f g xs (λ j y e. same (suc j) y e))

pub unnumbered : {X A : Type 0} (f : X → List A) (k : ℕ) (xs : List X) → each_numbered (λ n x. f x) k xs ≡ flat_map f xs
unnumbered f k [] = refl
unnumbered f k (x ∷ xs) = ap (λ l. f x ++ l) (unnumbered f (k + 1) xs)

pub flat_single : {X Y A : Type 0} (g : Y → List A) (f : X → Y) (h : X → A) (xs : List X) → ((j : ℕ) (x : X) → slice_get xs j ≡ Some x → g (f x) ≡ h x ∷ [])
    → flat_map g (map f xs) ≡ map h xs
flat_single g f h [] same = refl
flat_single g f h (x ∷ xs) same =
    ap (λ l. l ++ flat_map g (map f xs)) (same 0 x refl) ∙ ap (λ l. h x ∷ l) (flat_single g f h xs (λ j y e. same (suc j) y e))

-- declared nets

pub size_back : (most n : ℕ) → 1 ≤ n → n ≤ most → size_of most (number_form (n - 1)) ≡ n
size_back most n low high = ap (λ v. min (v + 1) most) (number_back (n - 1)) ∙ (let e : min (n - 1 + 1) most ≡ n = omega arith in e)

pub net_back : (width : ℕ) (kind : NetKind) (item : ℕ) (n : List ℕ) → 1 ≤ width → width ≤ 64
    → net_of (range_form width) kind item n ≡ m.net_of kind item width n
net_back width kind item n low high = elim (cases_Bool (nat_lt 1 width)) [
  | inl wide ↦
      ap (λ r. net_of r kind item n) (cond-true _ _ _ wide)
      ∙ (λ i. record { name = n; width = size_back 255 width low (omega (arith, high)) i; ranged = sym wide i; kind = kind; item = item })
  | inr bit ↦
      let one : 1 ≡ width = small width low bit in
      ap (λ r. net_of r kind item n) (cond-false _ _ _ bit)
      ∙ (λ i. record { name = n; width = one i; ranged = sym bit i; kind = kind; item = item })
]
  where
    small : (width : ℕ) → 1 ≤ width → nat_lt 1 width ≡ false → 1 ≡ width
    small width low bit = elim (cases_eq 1 width) [
      | inl same ↦ same
      | inr other ↦ absurd (both_ways _ bit (lt-ltb 1 width (omega arith)))
    ]
