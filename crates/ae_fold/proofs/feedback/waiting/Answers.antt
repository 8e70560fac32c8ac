-- From a ring or from registers.
use Rattle.std.proofs.Common.{arith}
use Rattle.ae_clocked.proofs.Making.{memories_most, memories_of}
use Rattle.ae_fold.proofs.Storing.{late_later}
use Rattle.ae_fold.proofs.feedback.waiting.Goals as goal

pub ringed-requires-clause-late : goal.ringed-requires-clause-late
ringed-requires-clause-late c = omega arith

pub returns-clause-adds : goal.returns-clause-adds
returns-clause-adds c = memories_most _ _ (omega arith) (omega arith) (memories_of c.in_ok-last.ensures.adds)

pub returns-clause-words : goal.returns-clause-words
returns-clause-words c = λ all k run is start turns. late_later run start _ _ _ (c.in_ok-last.ensures.words all k run is)

pub ringed-requires-clause-room : goal.ringed-requires-clause-room
ringed-requires-clause-room c = omega (arith, c.requires.room)
