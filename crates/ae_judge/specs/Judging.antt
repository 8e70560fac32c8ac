-- The tests by which a module is judged, one net, name or item after the other.
use Rattle.std.specs.Prelude.{ℕ, ◌+◌, Bool, false, not, ◌&&◌, ◌||◌, if◌then◌else◌, List, [], ◌∷◌, ◌++◌, Option, Some, None, is_some, min, nat_lt, map, flat_map, find, option_map}
use Rattle.std.specs.List.{list_any}
use Rattle.ae_vmodule.specs.ModuleTree.{NetTree, DriveTree, ItemTree, nets, assigns, always, ModuleTree}
use Rattle.ae_judge.specs.Names.{net_named, passes, is_input_kind, is_input_name, is_one_bit_input, is_named, names_in, drive_reads, target_of, stmt_reads, stmt_targets, item_reads, item_targets}
use Rattle.ae_judge.specs.Places.{Entry, place_in, with_place}
use Rattle.ae_judge.specs.Faults.{Never, IsFirst, may_repeat, is_misused_in_drive, is_misused_in_stmt, is_too_large, HasUnknown, HasTwice, HasKind, HasUndriven, HasWidth}
use Rattle.ae_judge.specs.declared.fault.ElabFault.{ElabFault}
use Rattle.ae_judge.specs.declared.fault.ElabFault.TheVariants.{Loop, Large}

-- the first number of which it is so, if there is one
abbrev pub IsFirstOf : (ℕ → Type 0) → Option ℕ → Type 0
IsFirstOf P None = Never P
IsFirstOf P (Some k) = IsFirst P k

-- the number of the first that passes, where the first of all has number k
abbrev pub first_from : {X : Type 0} → (ℕ → X → Bool) → ℕ → List X → Option ℕ
first_from test k [] = None
first_from test k (x ∷ xs) = if test k x then Some k else first_from test (k + 1) xs

-- the lesser of two numbers, where both are there
abbrev pub earlier : Option ℕ → Option ℕ → Option ℕ
earlier None b = b
earlier (Some a) None = Some a
earlier (Some a) (Some b) = Some (min a b)

abbrev pub has_place : List Entry → List ℕ → Bool
has_place es n = is_some (place_in es n)

-- with names behind the others
abbrev pub with_names : List Entry → List (List ℕ) → List Entry
with_names es [] = es
with_names es (n ∷ ns) = with_names (with_place es n 0) ns

-- the first declaration of the name stands before item k
abbrev pub is_declared_before : List NetTree → ℕ → List ℕ → Bool
is_declared_before ns k n = passes (λ (x : NetTree). nat_lt x.item k) (net_named ns n)

-- nor is the name among these
abbrev pub is_unknown : List NetTree → ℕ → List Entry → List ℕ → Bool
is_unknown ns k es n = not (is_declared_before ns k n) && not (has_place es n)

-- the value uses a name that is not declared before item k
abbrev pub is_late : List NetTree → ℕ → DriveTree → Bool
is_late ns k d = list_any (is_unknown ns k []) (names_in d.value)

-- each value may use the names before it
abbrev pub drives_unknown : List NetTree → ℕ → List Entry → List DriveTree → Bool
drives_unknown ns k es [] = false
drives_unknown ns k es (d ∷ ds) =
    list_any (is_unknown ns k es) (names_in d.value) || drives_unknown ns k (with_place es d.name 0) ds

abbrev pub uses_unknown : List NetTree → ℕ → ItemTree → Bool
uses_unknown ns k (nets drives) = drives_unknown ns k [] drives
uses_unknown ns k (assigns drives) =
    list_any (is_unknown ns k []) (([] ++ map target_of drives) ++ flat_map drive_reads drives)
uses_unknown ns k (always clock body) = list_any (is_unknown ns k []) ((clock ∷ stmt_targets body) ++ stmt_reads body)

-- the clock that an item names
abbrev pub item_clock : ItemTree → List (List ℕ)
item_clock (nets drives) = []
item_clock (assigns drives) = []
item_clock (always clock body) = clock ∷ []

-- the item of the first net whose name is among those before it
abbrev pub first_again : List Entry → List NetTree → Option ℕ
first_again es [] = None
first_again es (x ∷ xs) = if has_place es x.name then Some x.item else first_again (with_place es x.name 0) xs

abbrev pub is_driven : List NetTree → List Entry → List ℕ → Bool
is_driven ns es n = is_input_name ns n || has_place es n

-- a name comes again that may not
abbrev pub repeats : List NetTree → ItemTree → List Entry → List (List ℕ) → Bool
repeats ns i es [] = false
repeats ns i es (n ∷ rest) = (has_place es n && not (may_repeat ns i n)) || repeats ns i (with_place es n 0) rest

abbrev pub drives_twice : List NetTree → List Entry → ItemTree → Bool
drives_twice ns es i = list_any (is_driven ns es) (item_targets i) || repeats ns i [] (item_targets i)

abbrev pub first_twice : List NetTree → ℕ → List Entry → List ItemTree → Option ℕ
first_twice ns k es [] = None
first_twice ns k es (i ∷ is) =
    if drives_twice ns es i then Some k else first_twice ns (k + 1) (with_names es (item_targets i)) is

-- the clock is another, or a name is misused
abbrev pub misused_in : List NetTree → Option (List ℕ) → ItemTree → Bool
misused_in ns c (nets drives) = list_any (is_misused_in_drive ns) drives
misused_in ns c (assigns drives) = list_any (is_misused_in_drive ns) drives
misused_in ns c (always clock body) =
    not (is_named clock c) || (not (is_one_bit_input ns clock) || is_misused_in_stmt ns body)

-- or the clock is read
abbrev pub misuses : List NetTree → Option (List ℕ) → ItemTree → Bool
misuses ns c i = misused_in ns c i || list_any (λ n. is_named n c) (item_reads i)

abbrev pub is_undriven : List Entry → NetTree → Bool
is_undriven es x = not (is_input_kind x.kind) && not (has_place es x.name)

-- the item of the first net that is too large
abbrev pub first_too_large : List NetTree → Option ℕ
first_too_large ns = option_map (λ (x : NetTree). x.item) (find is_too_large ns)

-- a fault that is no loop and not the weight
abbrev pub IsEarly : ElabFault → Type 0
IsEarly (Loop p) = ⊥
IsEarly Large = ⊥
IsEarly _ = Unit {0}

-- no fault but, it may be, a loop or too great a weight
abbrev pub IsSound : ModuleTree → Type 0
IsSound m = Never (HasUnknown m) × Never (HasTwice m) × Never (HasKind m) × Never (HasUndriven m) × Never (HasWidth m)
