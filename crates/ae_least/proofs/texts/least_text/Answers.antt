use Rattle.ae_least.proofs.texts.least_text.Goals as goal

pub movement_text-requires : goal.movement_text-requires
movement_text-requires c = c.other_line.ensures.moves c.in-None.is
