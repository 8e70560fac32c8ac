use Rattle.std.proofs.Common.{◌≡◌, length}
use Rattle.ae_rewrite.specs.Planned.{number_lists, AllEmpty}
use Rattle.ae_rewrite.proofs.reach.empty_lists.Given as goal

abbrev pub invariant-loop : goal.invariant-loop
invariant-loop l = record { empty : AllEmpty (number_lists l.lists.items); count : length l.lists.items ≡ l.counter }
