use Rattle.std.proofs.Common.{map, take, drop, []}
use Rattle.std.specs.Prelude.{List}
use Rattle.ae_vmodule.specs.View.{net_tree}
use Rattle.ae_judge.specs.Places.{AreNoted, Entry, Finds}
use Rattle.ae_judge.specs.Judging.{first_again}
use Rattle.ae_judge.proofs.Again.{IsNoted}
use Rattle.ae_judge.proofs.names.Names.of.Given as goal

abbrev pub invariant-net : goal.invariant-net
invariant-net l = (es : List Entry) × Finds (take l.place (map (net_tree l.words) l.nets)) es × AreNoted l.words es l.places.items l.empty
    × IsNoted (map (net_tree l.words) (drop l.place l.nets)) es l.again (first_again [] (map (net_tree l.words) l.nets))
