-- What every module that a text spells has, beside what each definition of it says.
use Rattle.std.specs.Prelude.{ℕ, ◌≡◌, ◌<◌, ◌≤◌, ◌^◌, Bool, true, false, length, slice_get, Some}
use Rattle.std.specs.List.{AllByRecursion}
use Rattle.ae_vmodule.specs.declared.module.NetKind.TheVariants.{Memory}
use Rattle.ae_vmodule.specs.ModuleTree.{ExprTree, name, constant, place, part, index, unary, binary, choice, concat_one, concat_more, StmtTree, set, put, when, either, block_end, block_more, NetTree, DriveTree, ItemTree, nets, assigns, always, ModuleTree}
use Rattle.ae_judge.specs.Names.{Among}

-- each name in the expression has a letter; a concatenation of no parts has none
abbrev pub IsLettered : ExprTree → Type 0
IsLettered (name n) = 0 < length n
IsLettered (constant size value fits) = Unit {0}
IsLettered (place k) = Unit {0}
IsLettered (part n high low) = 0 < length n
IsLettered (index n at) = (0 < length n) × IsLettered at
IsLettered (unary op a) = IsLettered a
IsLettered (binary op a b) = IsLettered a × IsLettered b
IsLettered (choice test a b) = IsLettered test × IsLettered a × IsLettered b
IsLettered (concat_one a) = IsLettered a
IsLettered (concat_more a rest) = IsLettered a × IsLettered rest

-- a constant that fits has 1 to 64 bits
abbrev pub IsConstant : (size value : ℕ) → Bool → Type 0
IsConstant size value true = (1 ≤ size) × (size ≤ 64) × (value < 2 ^ size)
IsConstant size value false = Unit {0}

-- a decimal number stands only as an index, and where the expression itself is one
abbrev pub IsPlaced : Bool → ExprTree → Type 0
IsPlaced is_index (name n) = Unit {0}
IsPlaced is_index (constant size value fits) = IsConstant size value fits
IsPlaced is_index (place k) = is_index ≡ true
IsPlaced is_index (part n high low) = Unit {0}
IsPlaced is_index (index n at) = IsPlaced true at
IsPlaced is_index (unary op a) = IsPlaced false a
IsPlaced is_index (binary op a b) = IsPlaced false a × IsPlaced false b
IsPlaced is_index (choice test a b) = IsPlaced false test × IsPlaced false a × IsPlaced false b
IsPlaced is_index (concat_one a) = IsPlaced false a
IsPlaced is_index (concat_more a rest) = IsPlaced false a × IsPlaced false rest

-- the first is so of each expression in the statement but the indexes that it assigns at, and the second of these
abbrev pub EachInStmt : (ExprTree → Type 0) → (ExprTree → Type 0) → StmtTree → Type 0
EachInStmt P Q (set n value) = P value
EachInStmt P Q (put n at value) = Q at × P value
EachInStmt P Q (when test taken) = P test × EachInStmt P Q taken
EachInStmt P Q (either test taken otherwise) = P test × EachInStmt P Q taken × EachInStmt P Q otherwise
EachInStmt P Q block_end = Unit {0}
EachInStmt P Q (block_more first rest) = EachInStmt P Q first × EachInStmt P Q rest

abbrev pub EachInDrive : (ExprTree → Type 0) → DriveTree → Type 0
EachInDrive P d = P d.value

abbrev pub EachInItem : (ExprTree → Type 0) → (ExprTree → Type 0) → ItemTree → Type 0
EachInItem P Q (nets drives) = AllByRecursion (EachInDrive P) drives
EachInItem P Q (assigns drives) = AllByRecursion (EachInDrive P) drives
EachInItem P Q (always clock body) = EachInStmt P Q body

abbrev pub IsLetteredItem : ItemTree → Type 0
IsLetteredItem i = EachInItem IsLettered IsLettered i

abbrev pub IsPlacedItem : ItemTree → Type 0
IsPlacedItem i = EachInItem (IsPlaced false) (IsPlaced true) i

-- the shape of a spelled module
pub record IsShapely (m : ModuleTree) : Type 0 where
  pub few_nets : length m.nets < 2 ^ 32
  pub few_items : length m.items < 2 ^ 32
  -- names are declared in the order of their items
  pub in_order : (p q : ℕ) (x y : NetTree) → p < q → slice_get m.nets p ≡ Some x → slice_get m.nets q ≡ Some y
      → x.item ≤ y.item
  pub within : (x : NetTree) → Among x m.nets → x.item ≤ length m.items
  pub wide : (x : NetTree) → Among x m.nets → 1 ≤ x.width
  pub deep : (x : NetTree) (depth : ℕ) → Among x m.nets → x.kind ≡ Memory depth → 1 ≤ depth
  pub lettered : AllByRecursion IsLetteredItem m.items
  pub placed : AllByRecursion IsPlacedItem m.items
