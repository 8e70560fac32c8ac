-- The faults of elaboration, in their order, and which modules are well formed.
use Rattle.std.specs.Prelude.{ℕ, ◌≡◌, ◌+◌, ◌^◌, ◌<◌, ◌≤◌, ◌⊎◌, nat_lt, nat_le, Bool, true, false, not, ◌&&◌, ◌||◌, List, Some, slice_get, take, map, flat_map}
use Rattle.std.specs.List.{list_any}
use Rattle.ae_vmodule.specs.ModuleTree.{ExprTree, name, constant, place, part, index, unary, binary, choice, concat_one, concat_more, StmtTree, set, put, when, either, block_end, block_more, NetTree, DriveTree, ItemTree, nets, assigns, always, ModuleTree}
use Rattle.ae_judge.specs.declared.fault.ElabFault.{ElabFault}
use Rattle.ae_judge.specs.declared.fault.ElabFault.TheVariants.{Unknown, Twice, Kind, Undriven, Width, Loop, Large, Memory}
use Rattle.ae_judge.specs.Names.{Among, is_input_kind, depth_of_kind, is_input_name, is_wire_name, is_register_name, is_memory_name, is_ranged, is_one_bit_input, depth_of, is_clock, names_in, stmt_reads, stmt_targets, target_of, item_reads, item_targets, equations}
use Rattle.ae_judge.specs.Widths.{declared_width, own_width}
use Rattle.ae_judge.specs.Weight.{weight}

-- item k, where the first is 1 and the header 0
abbrev pub ItemAt : ModuleTree → ℕ → ItemTree → Type 0
ItemAt m k i = (j : ℕ) × (k ≡ j + 1) × (slice_get m.items j ≡ Some i)

abbrev pub NetAt : ModuleTree → ℕ → NetTree → Type 0
NetAt m p x = slice_get m.nets p ≡ Some x

-- the name is declared in the header or in an item before item k
abbrev pub IsDeclaredBefore : ModuleTree → ℕ → List ℕ → Type 0
IsDeclaredBefore m k n = (x : NetTree) × Among x m.nets × (x.name ≡ n) × (x.item < k)

-- item k, which is i, uses this name: in a declaration the names to which it gave a value before are known too
abbrev pub UsesUnknown : ModuleTree → ℕ → ItemTree → List ℕ → Type 0
UsesUnknown m k (nets drives) n =
    (j : ℕ) × (d : DriveTree) × (slice_get drives j ≡ Some d) × Among n (names_in d.value)
    × (Among n (map target_of (take j drives)) → ⊥) × (IsDeclaredBefore m k n → ⊥)
UsesUnknown m k (assigns drives) n =
    (Among n (map target_of drives) ⊎ Among n (item_reads (assigns drives))) × (IsDeclaredBefore m k n → ⊥)
UsesUnknown m k (always clock body) n =
    ((clock ≡ n) ⊎ (Among n (stmt_targets body) ⊎ Among n (stmt_reads body))) × (IsDeclaredBefore m k n → ⊥)

abbrev pub HasUnknown : ModuleTree → ℕ → Type 0
HasUnknown m k = (i : ItemTree) × (n : List ℕ) × ItemAt m k i × UsesUnknown m k i n

abbrev pub DeclaresTwice : ModuleTree → ℕ → Type 0
DeclaresTwice m k =
    (p : ℕ) × (q : ℕ) × (x : NetTree) × (y : NetTree) × (p < q) × NetAt m p x × NetAt m q y × (x.name ≡ y.name)
    × (y.item ≡ k)

-- the name stands at two places of the list
abbrev pub IsRepeated : List ℕ → List (List ℕ) → Type 0
IsRepeated n ns = (p : ℕ) × (q : ℕ) × (p < q) × (slice_get ns p ≡ Some n) × (slice_get ns q ≡ Some n)

-- one `always` item may assign a register in several places
abbrev pub may_repeat : List NetTree → ItemTree → List ℕ → Bool
may_repeat ns (nets drives) n = false
may_repeat ns (assigns drives) n = false
may_repeat ns (always clock body) n = is_register_name ns n

-- the header drives the inputs
abbrev pub DrivesTwice : ModuleTree → ℕ → Type 0
DrivesTwice m k = (i : ItemTree) × (n : List ℕ) × ItemAt m k i × Among n (item_targets i) × (
    (is_input_name m.nets n ≡ true)
    ⊎ (((j : ℕ) × (earlier : ItemTree) × (j < k) × ItemAt m j earlier × Among n (item_targets earlier))
    ⊎ (IsRepeated n (item_targets i) × (may_repeat m.nets i n ≡ false))))

abbrev pub HasTwice : ModuleTree → ℕ → Type 0
HasTwice m k = DeclaresTwice m k ⊎ DrivesTwice m k

abbrev pub is_place : ExprTree → Bool
is_place (place k) = true
is_place _ = false

-- in the expression a memory stands without an index or is cut, or a name without a range is, or an index of what is no
-- memory is no decimal number
abbrev pub is_misused : List NetTree → ExprTree → Bool
is_misused ns (name n) = is_memory_name ns n
is_misused ns (constant size value fits) = false
is_misused ns (place k) = false
is_misused ns (part n high low) = is_memory_name ns n || not (is_ranged ns n)
is_misused ns (index n at) = is_misused ns at || (not (is_memory_name ns n) && not (is_ranged ns n && is_place at))
is_misused ns (unary op a) = is_misused ns a
is_misused ns (binary op a b) = is_misused ns a || is_misused ns b
is_misused ns (choice test a b) = is_misused ns test || (is_misused ns a || is_misused ns b)
is_misused ns (concat_one a) = is_misused ns a
is_misused ns (concat_more a rest) = is_misused ns a || is_misused ns rest

-- or an assignment without an index is not of a register, or one with an index not of a memory
abbrev pub is_misused_in_stmt : List NetTree → StmtTree → Bool
is_misused_in_stmt ns (set n value) = not (is_register_name ns n) || is_misused ns value
is_misused_in_stmt ns (put n at value) = not (is_memory_name ns n) || (is_misused ns at || is_misused ns value)
is_misused_in_stmt ns (when test taken) = is_misused ns test || is_misused_in_stmt ns taken
is_misused_in_stmt ns (either test taken otherwise) =
    is_misused ns test || (is_misused_in_stmt ns taken || is_misused_in_stmt ns otherwise)
is_misused_in_stmt ns block_end = false
is_misused_in_stmt ns (block_more first rest) = is_misused_in_stmt ns first || is_misused_in_stmt ns rest

-- an equation is not of a wire
abbrev pub is_misused_in_drive : List NetTree → DriveTree → Bool
is_misused_in_drive ns d = not (is_wire_name ns d.name) || is_misused ns d.value

-- the clock of each `always` item is the one clock, an input of one bit
abbrev pub is_misused_in_item : ModuleTree → ItemTree → Bool
is_misused_in_item m (nets drives) = list_any (is_misused_in_drive m.nets) drives
is_misused_in_item m (assigns drives) = list_any (is_misused_in_drive m.nets) drives
is_misused_in_item m (always clock body) =
    not (is_clock m clock) || (not (is_one_bit_input m.nets clock) || is_misused_in_stmt m.nets body)

-- and the clock stands in no expression
abbrev pub HasKind : ModuleTree → ℕ → Type 0
HasKind m k =
    (i : ItemTree) × ItemAt m k i × ((is_misused_in_item m i ≡ true)
    ⊎ ((n : List ℕ) × Among n (item_reads i) × (is_clock m n ≡ true)))

-- no equation and no assignment drives the net
abbrev pub HasUndriven : ModuleTree → ℕ → Type 0
HasUndriven m p =
    (x : NetTree) × NetAt m p x × (is_input_kind x.kind ≡ false) × (Among x.name (flat_map item_targets m.items) → ⊥)

abbrev pub is_too_large : NetTree → Bool
is_too_large x = nat_lt 64 x.width || nat_lt 65536 (depth_of_kind x.kind)

-- an index that may lie outside: of a bit, the width; of a word of a memory, the depth
abbrev pub is_outside_of : Bool → (width depth index_width : ℕ) → ExprTree → Bool
is_outside_of true width depth w (place k) = nat_le depth k
is_outside_of true width depth w _ = nat_lt depth (2 ^ w)
is_outside_of false width depth w (place k) = nat_le width k
is_outside_of false width depth w _ = false

abbrev pub is_outside : List NetTree → List ℕ → ExprTree → Bool
is_outside ns n at = is_outside_of (is_memory_name ns n) (declared_width ns n) (depth_of ns n) (own_width ns at) at

-- in the expression a constant does not fit, a select or an index may lie outside, or a concatenation has more than 64 bits
abbrev pub is_too_wide : List NetTree → ExprTree → Bool
is_too_wide ns (name n) = false
is_too_wide ns (constant size value fits) = not fits
is_too_wide ns (place k) = false
is_too_wide ns (part n high low) = nat_lt high low || nat_le (declared_width ns n) high
is_too_wide ns (index n at) = is_too_wide ns at || is_outside ns n at
is_too_wide ns (unary op a) = is_too_wide ns a
is_too_wide ns (binary op a b) = is_too_wide ns a || is_too_wide ns b
is_too_wide ns (choice test a b) = is_too_wide ns test || (is_too_wide ns a || is_too_wide ns b)
is_too_wide ns (concat_one a) = is_too_wide ns a || nat_lt 64 (own_width ns a)
is_too_wide ns (concat_more a rest) =
    is_too_wide ns a || (is_too_wide ns rest || nat_lt 64 (own_width ns a + own_width ns rest))

abbrev pub is_too_wide_in_stmt : List NetTree → StmtTree → Bool
is_too_wide_in_stmt ns (set n value) = is_too_wide ns value
is_too_wide_in_stmt ns (put n at value) = is_too_wide ns at || (is_outside ns n at || is_too_wide ns value)
is_too_wide_in_stmt ns (when test taken) = is_too_wide ns test || is_too_wide_in_stmt ns taken
is_too_wide_in_stmt ns (either test taken otherwise) =
    is_too_wide ns test || (is_too_wide_in_stmt ns taken || is_too_wide_in_stmt ns otherwise)
is_too_wide_in_stmt ns block_end = false
is_too_wide_in_stmt ns (block_more first rest) = is_too_wide_in_stmt ns first || is_too_wide_in_stmt ns rest

abbrev pub is_too_wide_in_drive : List NetTree → DriveTree → Bool
is_too_wide_in_drive ns d = is_too_wide ns d.value

abbrev pub is_too_wide_in_item : List NetTree → ItemTree → Bool
is_too_wide_in_item ns (nets drives) = list_any (is_too_wide_in_drive ns) drives
is_too_wide_in_item ns (assigns drives) = list_any (is_too_wide_in_drive ns) drives
is_too_wide_in_item ns (always clock body) = is_too_wide_in_stmt ns body

abbrev pub HasWidth : ModuleTree → ℕ → Type 0
HasWidth m k =
    ((x : NetTree) × Among x m.nets × (x.item ≡ k) × (is_too_large x ≡ true))
    ⊎ ((i : ItemTree) × ItemAt m k i × (is_too_wide_in_item m.nets i ≡ true))

-- the equation of the first name reads the second; registers and memories have none
abbrev pub Feeds : ModuleTree → List ℕ → List ℕ → Type 0
Feeds m a b = (d : DriveTree) × Among d (equations m) × (d.name ≡ a) × Among b (names_in d.value)

-- the first name reaches the second through equations
pub data Reaches (m : ModuleTree) : List ℕ → List ℕ → Type 0 where
  at_once : (a b : List ℕ) → Feeds m a b → Reaches m a b
  through : (a b c : List ℕ) → Feeds m a b → Reaches m b c → Reaches m a c

abbrev pub HasLoop : ModuleTree → ℕ → Type 0
HasLoop m p = (x : NetTree) × NetAt m p x × Reaches m x.name x.name

abbrev pub IsLarge : ModuleTree → Type 0
IsLarge m = 10000000 < weight m

abbrev pub Never : (ℕ → Type 0) → Type 0
Never P = (k : ℕ) → P k → ⊥

abbrev pub IsFirst : (ℕ → Type 0) → ℕ → Type 0
IsFirst P k = P k × ((j : ℕ) → j < k → P j → ⊥)

-- none of the faults comes
pub record IsWellFormed (m : ModuleTree) : Type 0 where
  pub known : Never (HasUnknown m)
  pub once : Never (HasTwice m)
  pub kinds : Never (HasKind m)
  pub driven : Never (HasUndriven m)
  pub widths : Never (HasWidth m)
  pub no_loop : Never (HasLoop m)
  pub small : weight m ≤ 10000000

-- the fault of a module: the first in this order, and of its kind the first; for a loop any net that reaches itself
abbrev pub IsFault : ModuleTree → ElabFault → Type 0
IsFault m (Unknown k) = IsFirst (HasUnknown m) k
IsFault m (Twice k) = Never (HasUnknown m) × IsFirst (HasTwice m) k
IsFault m (Kind k) = Never (HasUnknown m) × Never (HasTwice m) × IsFirst (HasKind m) k
IsFault m (Undriven p) = Never (HasUnknown m) × Never (HasTwice m) × Never (HasKind m) × IsFirst (HasUndriven m) p
IsFault m (Width k) =
    Never (HasUnknown m) × Never (HasTwice m) × Never (HasKind m) × Never (HasUndriven m) × IsFirst (HasWidth m) k
IsFault m (Loop p) =
    Never (HasUnknown m) × Never (HasTwice m) × Never (HasKind m) × Never (HasUndriven m) × Never (HasWidth m)
    × HasLoop m p
IsFault m Large =
    Never (HasUnknown m) × Never (HasTwice m) × Never (HasKind m) × Never (HasUndriven m) × Never (HasWidth m)
    × Never (HasLoop m)
    × IsLarge m
IsFault m Memory = Unit {0}
