use Rattle.std.proofs.Common.{◌≡◌, ◌+◌, drop, map, option_map}
use Rattle.ae_vmodule.specs.View.{item_tree, word_at}
use Rattle.ae_judge.specs.Judging.{first_from, misuses}
use Rattle.ae_judge.proofs.kinds.first_misuse.Given as goal

abbrev pub invariant-item : goal.invariant-item
invariant-item l =
    (l.number ≡ l.item-index) × (first_from (λ _. misuses l.names.nets (option_map (word_at l.names.words) l.clock)) (l.number + 1)
    (map (item_tree l.names.words) (drop l.item-index l.items)) ≡ first_from (λ _. misuses l.names.nets (option_map (word_at l.names.words) l.clock)) 1
    (map (item_tree l.names.words) l.items))
