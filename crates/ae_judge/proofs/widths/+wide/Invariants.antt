use Rattle.std.proofs.Common.{ℕ, ◌≡◌, ◌≤◌, ◌+◌, ◌*◌, ◌||◌}
use Rattle.std.specs.Prelude.{min, nat_lt}
use Rattle.ae_vmodule.specs.ModuleTree.{concat_more}
use Rattle.ae_vmodule.specs.Numbered.{parts_in}
use Rattle.ae_vmodule.specs.Roots.{numbered}
use Rattle.ae_vmodule.specs.View.{expr_tree}
use Rattle.ae_judge.specs.Widths.{own_width}
use Rattle.ae_judge.specs.Faults.{is_too_wide}
use Rattle.ae_judge.proofs.widths.+wide.Given as goal

abbrev pub decreases-width_within : goal.decreases-width_within
decreases-width_within l = 2 * parts_in (numbered l.value) + 1

abbrev pub decreases-total_within : goal.decreases-total_within
decreases-total_within l = 2 * (parts_in (numbered l.first) + parts_in (numbered l.rest)) + 2

-- what is left decides, beside the widths so far
abbrev pub invariant-total_within-part : goal.invariant-total_within-part
invariant-total_within-part l =
    let tree = expr_tree l.names.words in
    let whole = concat_more (tree (numbered l.fn.first)) (tree (numbered l.fn.rest)) in
    (so_far : ℕ) × (l.total ≡ min so_far 65)
    × (own_width l.names.nets whole ≡ so_far + own_width l.names.nets (tree (numbered l.parts)))
    × (is_too_wide l.names.nets whole ≡ (is_too_wide l.names.nets (tree (numbered l.parts)) || nat_lt 64
    (so_far + own_width l.names.nets (tree (numbered l.parts)))))
    × (parts_in (numbered l.parts) ≤ parts_in (numbered l.fn.rest))

abbrev pub decreases-total_within-part : goal.decreases-total_within-part
decreases-total_within-part l = parts_in (numbered l.parts)
