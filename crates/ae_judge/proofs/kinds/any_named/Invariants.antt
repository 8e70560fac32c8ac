use Rattle.std.proofs.Common.{◌≡◌, drop, map, option_map}
use Rattle.std.specs.List.{list_any}
use Rattle.ae_vmodule.specs.View.{word_at}
use Rattle.ae_judge.specs.Names.{is_named}
use Rattle.ae_judge.proofs.kinds.any_named.Given as goal

abbrev pub invariant-name : goal.invariant-name
invariant-name l =
    list_any (λ n. is_named n (option_map (word_at l.names.words) l.clock)) (map (word_at l.names.words) (drop l.name-index l.used))
    ≡ list_any (λ n. is_named n (option_map (word_at l.names.words) l.clock)) (map (word_at l.names.words) l.used)
