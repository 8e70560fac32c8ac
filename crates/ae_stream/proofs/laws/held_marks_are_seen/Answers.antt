use Rattle.ae_stream.proofs.Marking.{marks_seen}
use Rattle.ae_stream.proofs.laws.held_marks_are_seen.Goals as goal

pub returns : goal.returns
returns c x marked copied new formed some held longer run start r reset on y f b words t l =
    marks_seen x marked copied new formed some held longer run start r reset on y f b words t l
