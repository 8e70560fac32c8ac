-- The register of a column that has one.
use Rattle.std.proofs.Common.{ℕ, ◌≡◌, ◌+◌, ◌%◌, ◌∙◌, Option, Some, sym, subst}
use Rattle.std.proofs.lemmas.Option.{same_Some}
use Rattle.ae_netlist.specs.Circuit.{Circuit, IsNet}
use Rattle.ae_netlist.specs.Runs.{InEveryResetRun}
use Rattle.ae_gates.specs.Cells.{Adds}
use Rattle.ae_gates.proofs.Adding.{net_added}
use Rattle.ae_columns.specs.Held.{held_phase, Holds, IsHeld, Keeps}
use Rattle.ae_columns.proofs.Counted.{counted_if}
use Rattle.ae_columns.proofs.held.kept_net.Goals as goal

keeps_held : (a b : Circuit) (held : Option ℕ) (most w rst period d arrival k x y : ℕ) → held ≡ Some k → Adds a b most 0 → IsNet a.cells x w
    → IsHeld b.cells rst w period ((arrival + d) % period) (held_phase period d k) x y → Keeps b.cells rst period d arrival held x y
keeps_held a b held most w rst period d arrival k x y is adds net h = record {
  width = w;
  from = net_added adds net;
  net = h.net;
  words = λ j e. subst (λ i. InEveryResetRun b.cells rst (λ run start. Holds run start y x period ((arrival + d) % period) (held_phase period d i)))
      (same_Some k j (sym is ∙ e)) h.words;
}

pub returns-clause-adds : goal.returns-clause-adds
returns-clause-adds c = rw c.in-Some.is c.in_ok-y.ensures.adds

pub returns-clause-keeps_word : goal.returns-clause-keeps_word
returns-clause-keeps_word c = keeps_held _ _ _ _ _ _ _ _ _ _ _ _ c.in-Some.is c.in_ok-y.ensures.adds c.requires.net c.in_ok-y.ensures.held

pub returns-clause-counted : goal.returns-clause-counted
returns-clause-counted c = counted_if _ _ c.in-Some.is c.in_ok-y.ensures.counted

pub held_net-requires-clause-room : goal.held_net-requires-clause-room
held_net-requires-clause-room c = rw c.in-Some.is at c.requires.room
