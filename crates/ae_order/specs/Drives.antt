-- The equations of a module's wires by the places of their names, and the graph of what they read.
use Rattle.std.specs.Prelude.{◌≡◌, ℕ, ◌<◌, List, [], ◌∷◌, ◌++◌, length, Option, Some, None, slice_get, slice_set, replicate, take, map, flat_map, option_map}
use Rattle.ae_vmodule.specs.ModuleTree.{ExprTree, name, constant, place, part, index, unary, binary, choice, concat_one, concat_more, NetTree, DriveTree, ModuleTree}
use Rattle.ae_judge.specs.Names.{equations}
use Rattle.ae_judge.specs.Faults.{HasLoop, NetAt, Feeds}
use Rattle.ae_runs.specs.Named.{IsNamed, place_of}
use Rattle.ae_order.specs.Sound.{IsSound}
use Rattle.ae_order.specs.declared.sort.OrderFault.{OrderFault}
use Rattle.ae_order.specs.declared.sort.OrderFault.TheVariants.{Loop, Memory}
use Rattle.ae_vmodule.specs.Roots.{numbered}
use Rattle.ae_vmodule.specs.View.{expr_tree}
use Rattle.ae_vmodule.specs.declared.symbols.Expr.{Expr}

-- the value of an equation, if there is one, with its names
abbrev pub value_tree : List (List ℕ) → Option Expr → Option ExprTree
value_tree ws v = option_map (λ (e : Expr). expr_tree ws (numbered e)) v

-- with the value of an equation at the place of its name
abbrev pub with_drive : List NetTree → List (Option ExprTree) → DriveTree → List (Option ExprTree)
with_drive ns vs d = slice_set vs (place_of ns d.name) (Some d.value)

abbrev pub noted : List NetTree → List (Option ExprTree) → List DriveTree → List (Option ExprTree)
noted ns vs [] = vs
noted ns vs (d ∷ ds) = noted ns (with_drive ns vs d) ds

-- the values of the equations, by the places of the names
abbrev pub values_of : ModuleTree → List (Option ExprTree)
values_of m = noted m.nets (replicate (length m.nets) None) (equations m)

-- the names that an expression reads, in the order of its symbols: that of an index behind those of its place
abbrev pub names_read : ExprTree → List (List ℕ)
names_read (name n) = n ∷ []
names_read (constant size value fits) = []
names_read (place k) = []
names_read (part n high low) = n ∷ []
names_read (index n at) = names_read at ++ n ∷ []
names_read (unary op a) = names_read a
names_read (binary op a b) = names_read a ++ names_read b
names_read (choice test a b) = names_read test ++ (names_read a ++ names_read b)
names_read (concat_one a) = names_read a
names_read (concat_more a rest) = names_read a ++ names_read rest

-- the places of the names that a value reads
abbrev pub places_in : List NetTree → Option ExprTree → List ℕ
places_in ns None = []
places_in ns (Some e) = map (place_of ns) (names_read e)

-- the places that so many values read, one after the other
abbrev pub read_before : List NetTree → List (Option ExprTree) → ℕ → List ℕ
read_before ns vs k = flat_map (places_in ns) (take k vs)

-- the targets of so many nodes are the places that their values read, each node's from its start on
pub record IsFlat (ns : List NetTree) (vs : List (Option ExprTree)) (k : ℕ) (starts targets : List ℕ) : Type 0 where
  pub long : length starts ≡ k
  pub at : (i : ℕ) → i < k → slice_get starts i ≡ Some (length (read_before ns vs i))
  pub all : targets ≡ read_before ns vs k

-- the equation of the net at one place reads the net at the other
pub record FeedsAt (m : ModuleTree) (p q : ℕ) : Type 0 where
  pub net : NetTree
  pub other : NetTree
  pub at : NetAt m p net
  pub other_at : NetAt m q other
  pub feeds : Feeds m net.name other.name

-- each net once, and behind all that its equation reads
pub record IsWireOrder (m : ModuleTree) (order : List ℕ) : Type 0 where
  pub places : (k p : ℕ) → slice_get order k ≡ Some p → p < length m.nets
  pub every : (p : ℕ) → p < length m.nets → (k : ℕ) × (slice_get order k ≡ Some p)
  pub after : (k p q : ℕ) → slice_get order k ≡ Some p → FeedsAt m p q → (l : ℕ) × (l < k)
      × (slice_get order l ≡ Some q)
  pub once : (k l p : ℕ) → slice_get order k ≡ Some p → slice_get order l ≡ Some p → k ≡ l

-- the names of these equations are declared
abbrev pub AreDriven : List NetTree → List DriveTree → Type 0
AreDriven ns ds = (k : ℕ) (d : DriveTree) → slice_get ds k ≡ Some d → IsNamed ns d.name

-- the values have meanings
abbrev pub AreSoundValues : List NetTree → List (Option ExprTree) → Type 0
AreSoundValues ns vs = (p : ℕ) (e : ExprTree) → slice_get vs p ≡ Some (Some e) → IsSound ns e

-- why there is no order
abbrev pub IsLoopFault : ModuleTree → OrderFault → Type 0
IsLoopFault m (Loop p) = HasLoop m p
IsLoopFault m Memory = Unit {0}
