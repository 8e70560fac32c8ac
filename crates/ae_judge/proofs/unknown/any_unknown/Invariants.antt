use Rattle.std.proofs.Common.{◌≡◌, drop, map}
use Rattle.std.specs.List.{list_any}
use Rattle.ae_vmodule.specs.View.{word_at}
use Rattle.ae_judge.specs.Judging.{is_unknown}
use Rattle.ae_judge.proofs.unknown.any_unknown.Given as goal

abbrev pub invariant-name : goal.invariant-name
invariant-name l =
    list_any (is_unknown l.names.nets l.number l.given) (map (word_at l.names.words) (drop l.name-index l.used))
    ≡ list_any (is_unknown l.names.nets l.number l.given) (map (word_at l.names.words) l.used)
