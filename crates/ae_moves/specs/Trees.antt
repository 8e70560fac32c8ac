-- Origins, sources, trips and choices of the code as trees.
use Rattle.std.specs.Prelude.{List, map}
use Rattle.ae_sttype.specs.Moves.{ChoiceTree, OriginTree, SourceTree, TripTree, place, constant, delayed, always, from_input, fixed}
use Rattle.ae_moves.specs.declared.trip.Origin.{Origin}
use Rattle.ae_moves.specs.declared.trip.Origin.TheVariants.{Word, Fixed as FixedWord}
use Rattle.ae_moves.specs.declared.trip.Source.{Source}
use Rattle.ae_moves.specs.declared.trip.Source.TheVariants.{Place, Fixed}
use Rattle.ae_moves.specs.declared.trip.Choice.{Choice}
use Rattle.ae_moves.specs.declared.trip.Choice.TheVariants.{Delayed, Constant}
use Rattle.ae_moves.specs.declared.trip.Trip.{Trip}

abbrev pub origin_tree : Origin → OriginTree
origin_tree (Word i e j) = from_input i e j
origin_tree (FixedWord w) = fixed w

abbrev pub source_tree : Source → SourceTree
source_tree (Place k q) = place k q
source_tree (Fixed w) = constant w

abbrev pub choice_tree : Choice → ChoiceTree
choice_tree (Delayed q a) = delayed q a
choice_tree (Constant w) = always w

abbrev pub trip_tree : Trip → TripTree
trip_tree t = record { clock = t.clock; column = t.column; source = source_tree t.source }

abbrev pub trip_trees : List Trip → List TripTree
trip_trees ts = map trip_tree ts
