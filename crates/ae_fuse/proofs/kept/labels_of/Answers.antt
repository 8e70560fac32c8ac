use Rattle.ae_seq.specs.ProgramTree.{program_tree}
use Rattle.ae_rewrite.specs.StProgramTree.{st_func_tree, st_func_trees}
use Rattle.ae_fuse.proofs.Fusing.{are-labels}
use Rattle.ae_fuse.proofs.kept.labels_of.Goals as goal

pub returns-in_ok-traced-in-Some-clause-labels : goal.returns-in_ok-traced-in-Some-clause-labels
returns-in_ok-traced-in-Some-clause-labels c =
    let h = c.requires.schedule in
    let m = c.in-Some.ensures.instance in
    are-labels (program_tree c.args.p.now) h.0 (st_func_trees c.args.s.now) m.func
    (st_func_tree c.in-Some.instance.now) m.movement m.typed h.3 m.there m.last h.1 h.2 _ c.in_ok-traced-in-Some.ensures.results
