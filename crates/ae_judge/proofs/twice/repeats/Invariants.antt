use Rattle.std.proofs.Common.{◌≡◌, drop, map}
use Rattle.ae_vmodule.specs.View.{item_tree, word_at}
use Rattle.ae_judge.specs.Judging.{repeats, with_names}
use Rattle.ae_judge.proofs.twice.repeats.Given as goal

abbrev pub invariant-name : goal.invariant-name
invariant-name l =
    let names = map (word_at l.initial.driven.table.words) in
    let test = repeats l.initial.driven.table.nets (item_tree l.initial.driven.table.words l.item) in
    record {
      table : l.driven.table ≡ l.initial.driven.table;
      repeats : test l.driven.entries (names (drop l.name-index l.targets)) ≡ test l.initial.driven.entries (names l.targets);
      driven : with_names l.driven.entries (names (drop l.name-index l.targets)) ≡ with_names l.initial.driven.entries (names l.targets);
    }
