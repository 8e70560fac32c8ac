use Rattle.ae_seq.specs.ProgramTree.{program_tree}
use Rattle.ae_rewrite.specs.StProgramTree.{st_func_tree, st_func_trees}
use Rattle.ae_fuse.proofs.Fusing.{fused-of}
use Rattle.ae_fuse.proofs.whole.fuse.Goals as goal

pub fuse_instance-requires : goal.fuse_instance-requires
fuse_instance-requires c = record { movable = c.in-Some.ensures.instance.movable }

pub returns-in_ok-fused-in-Some-clause-is : goal.returns-in_ok-fused-in-Some-clause-is
returns-in_ok-fused-in-Some-clause-is c =
    let h = c.requires.schedule in
    let m = c.in-Some.ensures.instance in
    fused-of (program_tree c.args.p.now) h.0 (st_func_trees c.args.s.now) m.func
    (st_func_tree c.in-Some.instance.now) m.movement m.typed h.3 m.there m.last h.1 h.2 c.in_ok-fused-in-Some.fused c.in_ok-fused-in-Some.ensures
