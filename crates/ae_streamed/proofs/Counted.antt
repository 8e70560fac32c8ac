-- The cells of the bits that tell of layouts, counted.
use Rattle.std.proofs.Common.{ℕ, zero, suc, ◌≡◌, ◌+◌, ◌≤◌, List, [], ◌∷◌, map, take, sum_by, Some, slice_get, arith, ap, ◌∙◌, ◌*◌, length, refl}
use Rattle.std.proofs.lemmas.List.Sums.{sum_by-cons, sum_by_push}
use Rattle.ae_sttype.specs.declared.st_type.StType.{StType}
use Rattle.ae_sttype.specs.StTree.{StTree, st_depth, st_tree}
use Rattle.ae_netlist.specs.Circuit.{Circuit}
use Rattle.ae_gates.specs.Cells.{Adds}
use Rattle.ae_gates.proofs.Adding.{adds_most, adds_trans}
use Rattle.ae_streamed.specs.Count.{any_beat_cells, beat_cells, mark_cells}
use Rattle.ae_control.proofs.Cells.{next_first}

-- ---- one layout

pub one_cell : {a b : Circuit} (s : StTree) → Adds a b 1 0 → Adds a b (beat_cells s) 0
one_cell s p = adds_most (beat_cells s) (omega arith) p

pub part_cells : {a b : Circuit} (s t : StTree) → st_depth s ≡ st_depth t + 1 → Adds a b (beat_cells t) 0 → Adds a b (beat_cells s) 0
part_cells s t e p = adds_most (beat_cells s) (omega (arith, e)) p

pub gate_more : {a b c d : Circuit} (s t : StTree) → st_depth s ≡ st_depth t + 1 → Adds a b (beat_cells t) 0 → Adds b c 21 0 → Adds c d 1 0
    → Adds a d (beat_cells s) 0
gate_more s t e p q r = adds_most (beat_cells s) (omega (arith, e)) (adds_trans (adds_trans p q) r)

-- ---- the first so many layouts

abbrev each : StTree → ℕ
each s = beat_cells s + 1

first_cells : (k : ℕ) (layouts : List StType) → sum_by each (map st_tree (take k layouts)) ≤ sum_by each (map st_tree layouts)
first_cells zero layouts = omega arith
first_cells (suc k) [] = omega arith
first_cells (suc k) (x ∷ layouts) =
    omega (arith, sum_by-cons each (st_tree x) (map st_tree (take k layouts)), sum_by-cons each (st_tree x) (map st_tree layouts), first_cells k layouts)

next_cells : (k : ℕ) (layouts : List StType) (s : StType) → slice_get layouts k ≡ Some s
    → any_beat_cells (map st_tree (take (k + 1) layouts)) ≡ any_beat_cells (map st_tree (take k layouts)) + (beat_cells (st_tree s) + 1)
next_cells k layouts s found =
    let e : sum_by each (map st_tree (take (k + 1) layouts)) ≡ sum_by each (map st_tree (take k layouts)) + each (st_tree s) =
    ap (sum_by each) (next_first st_tree layouts k s found) ∙ sum_by_push each (map st_tree (take k layouts)) (st_tree s) in
    omega (arith, e)

pub turn_cells : {a b c d : Circuit} (k : ℕ) (layouts : List StType) (s : StType) → slice_get layouts k ≡ Some s
    → Adds a b (any_beat_cells (map st_tree (take k layouts))) 0
    → Adds b c (beat_cells (st_tree s)) 0 → Adds c d 1 0 → Adds a d (any_beat_cells (map st_tree (take (k + 1) layouts))) 0
turn_cells k layouts s found p q r =
    adds_most (any_beat_cells (map st_tree (take (k + 1) layouts))) (omega (arith, next_cells k layouts s found)) (adds_trans (adds_trans p q) r)

-- no more than of all
pub some_cells : {a b : Circuit} (k : ℕ) (layouts : List StType) → Adds a b (any_beat_cells (map st_tree (take k layouts))) 0
    → Adds a b (any_beat_cells (map st_tree layouts)) 0
some_cells k layouts p = adds_most (any_beat_cells (map st_tree layouts)) (omega (arith, first_cells k layouts)) p

-- one layout more has room where all have
pub turn_fits : (k : ℕ) (layouts : List StType) (s : StType) → slice_get layouts k ≡ Some s
    → any_beat_cells (map st_tree (take k layouts)) + (beat_cells (st_tree s) + 1) ≤ any_beat_cells (map st_tree layouts)
turn_fits k layouts s found = omega (arith, next_cells k layouts s found, first_cells (k + 1) layouts)

-- ---- layouts that are at most 16 deep

few_each : (layouts : List StType) → ((k : ℕ) (s : StType) → slice_get layouts k ≡ Some s → st_depth (st_tree s) ≤ 16)
    → sum_by each (map st_tree layouts) ≤ 354 * length layouts
few_each [] deep = omega arith
few_each (x ∷ layouts) deep =
    omega (arith, sum_by-cons each (st_tree x) (map st_tree layouts), deep 0 x refl, few_each layouts (λ k s found. deep (suc k) s found))

some_each : (layouts : List StType) → length layouts ≤ sum_by each (map st_tree layouts)
some_each [] = omega arith
some_each (x ∷ layouts) = omega (arith, sum_by-cons each (st_tree x) (map st_tree layouts), some_each layouts)

-- so many cells are enough for their marks
pub marks_few : (inputs outputs : List StType) → ((k : ℕ) (s : StType) → slice_get inputs k ≡ Some s → st_depth (st_tree s) ≤ 16)
    → ((k : ℕ) (s : StType) → slice_get outputs k ≡ Some s → st_depth (st_tree s) ≤ 16)
    → mark_cells (map st_tree inputs) (map st_tree outputs) ≤ 65 + 354 * (length inputs + length outputs)
marks_few inputs outputs ins outs = omega (arith, few_each inputs ins, few_each outputs outs)

-- and each layout takes one at the least
pub marks_some : (inputs outputs : List StType) → length inputs + length outputs ≤ mark_cells (map st_tree inputs) (map st_tree outputs)
marks_some inputs outputs = omega (arith, some_each inputs, some_each outputs)

-- ---- all marks

module _ (inputs outputs : List StTree) where
  abbrev all : ℕ
  all = mark_cells inputs outputs

  pub marks5 : {a b c d e f : Circuit} → Adds a b 21 0 → Adds b c 21 0 → Adds c d (any_beat_cells inputs) 0 → Adds d e (any_beat_cells outputs) 0
      → Adds e f 21 0 → Adds a f all 0
  marks5 p q r s t = adds_most all (omega arith) (adds_trans (adds_trans (adds_trans (adds_trans p q) r) s) t)
