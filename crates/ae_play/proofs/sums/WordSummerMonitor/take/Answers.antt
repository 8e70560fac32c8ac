use Rattle.ae_play.proofs.sums.WordSummerMonitor.take.Goals as goal

pub all_stand-stands-requires : goal.all_stand-stands-requires
all_stand-stands-requires c = c.requires.within.0
