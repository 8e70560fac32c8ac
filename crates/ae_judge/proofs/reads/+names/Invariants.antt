use Rattle.std.proofs.Common.{ℕ, List, ◌≡◌, ◌≤◌, ◌++◌, map}
use Rattle.ae_vmodule.specs.Numbered.{parts_in}
use Rattle.ae_vmodule.specs.Roots.{numbered}
use Rattle.ae_vmodule.specs.View.{expr_tree, word_at}
use Rattle.ae_judge.specs.Names.{names_in}
use Rattle.ae_judge.proofs.reads.+names.Given as goal

abbrev pub decreases-push_names : goal.decreases-push_names
decreases-push_names l = parts_in (numbered l.whole)

-- what is left are the names of what is left
abbrev pub invariant-part : goal.invariant-part
invariant-part l =
    ((ws : List (List ℕ)) → map (word_at ws) l.into.items ++ names_in (expr_tree ws (numbered l.value))
    ≡ map (word_at ws) l.fn.into.items ++ names_in (expr_tree ws (numbered l.fn.whole)))
    × (parts_in (numbered l.value) ≤ parts_in (numbered l.fn.whole))

abbrev pub decreases-part : goal.decreases-part
decreases-part l = parts_in (numbered l.value)
