use Rattle.table_stages.specs.Even.{AreEven}
use Rattle.table_stages.specs.Gains.{Gains}
use Rattle.table_stages.proofs.bench.inputs.Given as goal

abbrev pub invariant-loop-lane : goal.invariant-loop-lane
invariant-loop-lane l = record {
  gains : Gains l.fn.nl l.nl l.lane;
  nets : AreEven l.nl.cells l.lane l.width l.nets.items;
}
