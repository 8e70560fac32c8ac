-- The weight of a module by its equations and its `always` items.
use Rattle.std.proofs.Common.{ℕ, ◌≡◌, ◌+◌, List, [], ◌∷◌, length, refl, ap, arith}
use Rattle.std.specs.Prelude.{flat_map}
use Rattle.std.specs.List.{sum_by}
use Rattle.std.proofs.lemmas.List.Sums.{sum_by-append, sum_by-cons}
use Rattle.ae_vmodule.specs.ModuleTree.{ItemTree, nets, assigns, always, ModuleTree}
use Rattle.ae_judge.specs.Names.{drives_of, equations}
use Rattle.ae_judge.specs.Weight.{drive_weight, item_weight, weight}
use Rattle.ae_assign.specs.Edges.{edge_weight}

parted : (i : ItemTree) → item_weight i ≡ sum_by drive_weight (drives_of i) + edge_weight i
parted (nets drives) = omega arith
parted (assigns drives) = omega arith
parted (always clock body) = omega arith

all_parted : (items : List ItemTree) → sum_by item_weight items ≡ sum_by drive_weight (flat_map drives_of items) + sum_by edge_weight items
all_parted [] = refl
all_parted (i ∷ items) =
    let a = parted i in
    let b = all_parted items in
    let d = sum_by-cons item_weight i items in
    let e = sum_by-cons edge_weight i items in
    let c = sum_by-append drive_weight (drives_of i) (flat_map drives_of items) in
    omega arith

pub weight_parts : (m : ModuleTree) → weight m ≡ length m.nets + (sum_by drive_weight (equations m) + sum_by edge_weight m.items)
unfolding equations
weight_parts m = ap (λ (k : ℕ). length m.nets + k) (all_parted m.items)
