-- The names of a module: how they are declared, and where they stand.
use Rattle.std.specs.Prelude.{ℕ, ◌≡◌, ◌==◌, ◌⊎◌, Bool, true, false, ◌&&◌, if◌then◌else◌, List, [], ◌∷◌, ◌++◌, Option, Some, None, bytes_eq, codes, find, map, flat_map}
use Rattle.ae_vmodule.specs.declared.module.NetKind.{NetKind}
use Rattle.ae_vmodule.specs.declared.module.NetKind.TheVariants.{Input, Wire, OutWire, Reg, OutReg, Memory}
use Rattle.ae_vmodule.specs.ModuleTree.{ExprTree, name, constant, place, part, index, unary, binary, choice, concat_one, concat_more, StmtTree, set, put, when, either, block_end, block_more, NetTree, DriveTree, ItemTree, nets, assigns, always, ModuleTree}

-- x is one of xs
abbrev pub Among : {X : Type 0} → X → List X → Type 0
Among x [] = ⊥
Among x (y ∷ ys) = (y ≡ x) ⊎ Among x ys

-- what a name may be declared as
abbrev pub is_input_kind : NetKind → Bool
is_input_kind Input = true
is_input_kind Wire = false
is_input_kind OutWire = false
is_input_kind Reg = false
is_input_kind OutReg = false
is_input_kind (Memory depth) = false

abbrev pub is_wire_kind : NetKind → Bool
is_wire_kind Input = false
is_wire_kind Wire = true
is_wire_kind OutWire = true
is_wire_kind Reg = false
is_wire_kind OutReg = false
is_wire_kind (Memory depth) = false

abbrev pub is_register_kind : NetKind → Bool
is_register_kind Input = false
is_register_kind Wire = false
is_register_kind OutWire = false
is_register_kind Reg = true
is_register_kind OutReg = true
is_register_kind (Memory depth) = false

abbrev pub is_memory_kind : NetKind → Bool
is_memory_kind Input = false
is_memory_kind Wire = false
is_memory_kind OutWire = false
is_memory_kind Reg = false
is_memory_kind OutReg = false
is_memory_kind (Memory depth) = true

abbrev pub is_output_kind : NetKind → Bool
is_output_kind Input = false
is_output_kind Wire = false
is_output_kind OutWire = true
is_output_kind Reg = false
is_output_kind OutReg = true
is_output_kind (Memory depth) = false

-- how many words a memory has
abbrev pub depth_of_kind : NetKind → ℕ
depth_of_kind Input = 0
depth_of_kind Wire = 0
depth_of_kind OutWire = 0
depth_of_kind Reg = 0
depth_of_kind OutReg = 0
depth_of_kind (Memory depth) = depth

-- the declaration of a name, the first where there are more
unfoldable pub net_named : List NetTree → List ℕ → Option NetTree
net_named ns n = find (λ (x : NetTree). bytes_eq x.name n) ns

abbrev pub passes : (NetTree → Bool) → Option NetTree → Bool
passes test None = false
passes test (Some x) = test x

abbrev pub is_input_name : List NetTree → List ℕ → Bool
is_input_name ns n = passes (λ x. is_input_kind x.kind) (net_named ns n)

abbrev pub is_wire_name : List NetTree → List ℕ → Bool
is_wire_name ns n = passes (λ x. is_wire_kind x.kind) (net_named ns n)

abbrev pub is_register_name : List NetTree → List ℕ → Bool
is_register_name ns n = passes (λ x. is_register_kind x.kind) (net_named ns n)

abbrev pub is_memory_name : List NetTree → List ℕ → Bool
is_memory_name ns n = passes (λ x. is_memory_kind x.kind) (net_named ns n)

-- whether it is declared with a range
abbrev pub is_ranged : List NetTree → List ℕ → Bool
is_ranged ns n = passes (λ x. x.ranged) (net_named ns n)

abbrev pub is_one_bit_input : List NetTree → List ℕ → Bool
is_one_bit_input ns n = passes (λ x. is_input_kind x.kind && (x.width == 1)) (net_named ns n)

abbrev pub depth_in : Option NetTree → ℕ
depth_in None = 0
depth_in (Some x) = depth_of_kind x.kind

abbrev pub depth_of : List NetTree → List ℕ → ℕ
depth_of ns n = depth_in (net_named ns n)

-- the clock that the first `always` item names
abbrev pub first_clock : List ItemTree → Option (List ℕ)
first_clock [] = None
first_clock (nets drives ∷ items) = first_clock items
first_clock (assigns drives ∷ items) = first_clock items
first_clock (always clock body ∷ items) = Some clock

-- without one, the input `clk` of one bit, if there is one
abbrev pub clock_or : List NetTree → Option (List ℕ) → Option (List ℕ)
clock_or ns None = if is_one_bit_input ns (codes "clk") then Some (codes "clk") else None
clock_or ns (Some clock) = Some clock

abbrev pub clock_name : ModuleTree → Option (List ℕ)
clock_name m = clock_or m.nets (first_clock m.items)

abbrev pub is_named : List ℕ → Option (List ℕ) → Bool
is_named n None = false
is_named n (Some clock) = bytes_eq clock n

unfoldable pub is_clock : ModuleTree → List ℕ → Bool
is_clock m n = is_named n (clock_name m)

-- the names that an expression reads
abbrev pub names_in : ExprTree → List (List ℕ)
names_in (name n) = n ∷ []
names_in (constant size value fits) = []
names_in (place k) = []
names_in (part n high low) = n ∷ []
names_in (index n at) = n ∷ names_in at
names_in (unary op a) = names_in a
names_in (binary op a b) = names_in a ++ names_in b
names_in (choice test a b) = names_in test ++ (names_in a ++ names_in b)
names_in (concat_one a) = names_in a
names_in (concat_more a rest) = names_in a ++ names_in rest

-- the names that a statement's expressions read, and the names that it assigns, in order
abbrev pub stmt_reads : StmtTree → List (List ℕ)
stmt_reads (set n value) = names_in value
stmt_reads (put n at value) = names_in at ++ names_in value
stmt_reads (when test taken) = names_in test ++ stmt_reads taken
stmt_reads (either test taken otherwise) = names_in test ++ (stmt_reads taken ++ stmt_reads otherwise)
stmt_reads block_end = []
stmt_reads (block_more first rest) = stmt_reads first ++ stmt_reads rest

abbrev pub stmt_targets : StmtTree → List (List ℕ)
stmt_targets (set n value) = n ∷ []
stmt_targets (put n at value) = n ∷ []
stmt_targets (when test taken) = stmt_targets taken
stmt_targets (either test taken otherwise) = stmt_targets taken ++ stmt_targets otherwise
stmt_targets block_end = []
stmt_targets (block_more first rest) = stmt_targets first ++ stmt_targets rest

abbrev pub target_of : DriveTree → List ℕ
target_of d = d.name

abbrev pub drive_reads : DriveTree → List (List ℕ)
drive_reads d = names_in d.value

-- the equations of an item: those of `assign`, and of a declaration with values
abbrev pub drives_of : ItemTree → List DriveTree
drives_of (nets drives) = drives
drives_of (assigns drives) = drives
drives_of (always clock body) = []

abbrev pub item_reads : ItemTree → List (List ℕ)
item_reads (nets drives) = flat_map drive_reads drives
item_reads (assigns drives) = flat_map drive_reads drives
item_reads (always clock body) = stmt_reads body

abbrev pub item_targets : ItemTree → List (List ℕ)
item_targets (nets drives) = map target_of drives
item_targets (assigns drives) = map target_of drives
item_targets (always clock body) = stmt_targets body

-- the equations of a module's wires
unfoldable pub equations : ModuleTree → List DriveTree
equations m = flat_map drives_of m.items
