-- The clock of the module of a netlist.
use Rattle.std.proofs.Common.{ℕ, ◌≡◌, ◌+◌, ◌⊎◌, inl, inr, List, [], ◌∷◌, ◌++◌, map, Option, Some, None, refl, ap}
use Rattle.std.specs.Prelude.{codes, bytes_eq}
use Rattle.ae_netlist.specs.declared.cell.Cell.{Cell}
use Rattle.ae_netlist.specs.declared.cell.Cell.TheVariants.{Input, Const, Op, Reg, Mem, Peek}
use Rattle.ae_netlist.specs.declared.cell.SizedCell.{SizedCell}
use Rattle.ae_netlist.specs.declared.cell.Outlet.{Outlet}
use Rattle.ae_vmodule.specs.ModuleTree.{NetTree, ItemTree, nets, assigns, always, ModuleTree}
use Rattle.ae_judge.specs.Names.{first_clock, clock_or, clock_name, is_named, is_clock, net_named}
use Rattle.ae_verilog.specs.NetlistModule.{clock_net, declaration, assignment, edge, each_numbered, netlist_module}

-- nothing, or the clock
abbrev IsClock : Option (List ℕ) → Type 0
IsClock o = (o ≡ None) ⊎ (o ≡ Some (codes "clk"))

clock_append : (xs ys : List ItemTree) → IsClock (first_clock xs) → IsClock (first_clock ys) → IsClock (first_clock (xs ++ ys))
clock_append [] ys a b = b
clock_append (nets drives ∷ xs) ys a b = clock_append xs ys a b
clock_append (assigns drives ∷ xs) ys a b = clock_append xs ys a b
clock_append (always clock body ∷ xs) ys a b = a

declared_clock : (lines : ℕ → ℕ) → (cells : List SizedCell) (n width : ℕ) (cell : Cell) → IsClock (first_clock (declaration lines cells n width cell))
declared_clock lines cells n width (Input port) = inl refl
declared_clock lines cells n width (Const k) = inl refl
declared_clock lines cells n width (Op op args) = inl refl
declared_clock lines cells n width (Reg next) = inl refl
declared_clock lines cells n width (Mem depth at next enable) = inl refl
declared_clock lines cells n width (Peek mem at) = inl refl

edge_clock : (lines : ℕ → ℕ) → (cells : List SizedCell) (n : ℕ) (cell : Cell) → IsClock (first_clock (edge lines cells n cell))
edge_clock lines cells n (Input port) = inl refl
edge_clock lines cells n (Const k) = inl refl
edge_clock lines cells n (Op op args) = inl refl
edge_clock lines cells n (Reg next) = inr refl
edge_clock lines cells n (Mem depth at next enable) = inr refl
edge_clock lines cells n (Peek mem at) = inl refl

listed_clock : (g : ℕ → SizedCell → List ItemTree) → ((n : ℕ) (s : SizedCell) → IsClock (first_clock (g n s))) → (k : ℕ) (cells : List SizedCell)
    → IsClock (first_clock (each_numbered g k cells))
listed_clock g h k [] = inl refl
listed_clock g h k (c ∷ cells) = clock_append (g k c) (each_numbered g (k + 1) cells) (h k c) (listed_clock g h (k + 1) cells)

assigned_clock : (lines : ℕ → ℕ) → (cells : List SizedCell) (outs : ℕ) (outlets : List Outlet)
    → IsClock (first_clock (map (assignment lines cells outs) outlets))
assigned_clock lines cells outs [] = inl refl
assigned_clock lines cells outs (o ∷ outlets) = assigned_clock lines cells outs outlets

items_clock : (lines : ℕ → ℕ) → (cells : List SizedCell) (outlets : List Outlet) (outs : ℕ)
    → IsClock (first_clock (netlist_module lines cells outlets outs).items)
items_clock lines cells outlets outs =
    let declarations : ℕ → SizedCell → List ItemTree = λ n s. declaration lines cells n s.width s.cell in
    let edges : ℕ → SizedCell → List ItemTree = λ n s. edge lines cells n s.cell in
    clock_append (each_numbered declarations 0 cells) (map (assignment lines cells outs) outlets ++ each_numbered edges 0 cells)
    (listed_clock declarations (λ n s. declared_clock lines cells n s.width s.cell) 0 cells)
    (clock_append (map (assignment lines cells outs) outlets) (each_numbered edges 0 cells) (assigned_clock lines cells outs outlets)
    (listed_clock edges (λ n s. edge_clock lines cells n s.cell) 0 cells))

clock_or_clk : (rest : List NetTree) (o : Option (List ℕ)) → IsClock o → clock_or (clock_net ∷ rest) o ≡ Some (codes "clk")
unfolding net_named
clock_or_clk rest o (inl e) = ap (clock_or (clock_net ∷ rest)) e
clock_or_clk rest o (inr e) = ap (clock_or (clock_net ∷ rest)) e

-- it is `clk`
pub clocked : (lines : ℕ → ℕ) → (cells : List SizedCell) (outlets : List Outlet) (outs : ℕ)
    → clock_name (netlist_module lines cells outlets outs) ≡ Some (codes "clk")
clocked lines cells outlets outs = clock_or_clk _ (first_clock (netlist_module lines cells outlets outs).items) (items_clock lines cells outlets outs)

-- a name is that of the clock
pub is_clk : (m : ModuleTree) (n : List ℕ) → clock_name m ≡ Some (codes "clk") → is_clock m n ≡ bytes_eq (codes "clk") n
unfolding is_clock
is_clk m n e = ap (is_named n) e
