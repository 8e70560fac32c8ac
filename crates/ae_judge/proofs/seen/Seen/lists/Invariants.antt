use Rattle.std.proofs.Common.{◌≡◌, drop, is_some}
use Rattle.ae_judge.specs.Places.{place_in}
use Rattle.ae_judge.specs.Seen.{entries_of}
use Rattle.ae_judge.proofs.seen.Seen.lists.Given as goal

abbrev pub invariant-name : goal.invariant-name
invariant-name l =
    is_some (place_in (entries_of l.self.table.words (drop l.name-index l.self-inside.order.items)) l.word) ≡ is_some (place_in l.self.entries l.word)
