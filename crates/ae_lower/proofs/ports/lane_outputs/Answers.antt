-- One word more.
use Rattle.std.proofs.Common.{arith}
use Rattle.std.proofs.lemmas.Option.{slice_get-get_or}
use Rattle.ae_netlist.specs.declared.cell.Port.TheVariants.{Out}
use Rattle.ae_lower.proofs.Outputs.{words_more}
use Rattle.ae_lower.proofs.ports.lane_outputs.Goals as goal

pub loop-word-preserved : goal.loop-word-preserved
loop-word-preserved c =
    words_more _ _ _ (Out c.args.number c.args.lane) c.args.nets.now c.loop-word.word _
    (slice_get-get_or c.args.nets.now c.loop-word.word _ (omega arith)) c.in_ok-add_output.ensures.ok c.loop-word.invariant
