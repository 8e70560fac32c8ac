use Rattle.std.proofs.Common.{◌≡◌, drop, map}
use Rattle.std.specs.List.{list_any}
use Rattle.ae_vmodule.specs.View.{word_at}
use Rattle.ae_judge.specs.Judging.{is_driven}
use Rattle.ae_judge.proofs.twice.any_driven.Given as goal

abbrev pub invariant-name : goal.invariant-name
invariant-name l =
    let any = list_any (is_driven l.driven.table.nets l.driven.entries) in
    any (map (word_at l.driven.table.words) (drop l.name-index l.targets)) ≡ any (map (word_at l.driven.table.words) l.targets)
