-- What a cell reads is kept, net by net.
use Rattle.ae_tidy.proofs.Marking.{grows_trans}
use Rattle.ae_tidy.proofs.mark.reach_reads.Goals as goal

pub returns-in_ok-reach-in-Op-3-clause-grows : goal.returns-in_ok-reach-in-Op-3-clause-grows
returns-in_ok-reach-in-Op-3-clause-grows c =
    grows_trans (grows_trans c.in_ok-reach-in-Op.ensures.grows c.in_ok-reach-in-Op-2.ensures.grows) c.in_ok-reach-in-Op-3.ensures.grows

pub returns-in_ok-reach-in-Mem-3-clause-grows : goal.returns-in_ok-reach-in-Mem-3-clause-grows
returns-in_ok-reach-in-Mem-3-clause-grows c =
    grows_trans (grows_trans c.in_ok-reach-in-Mem.ensures.grows c.in_ok-reach-in-Mem-2.ensures.grows) c.in_ok-reach-in-Mem-3.ensures.grows
