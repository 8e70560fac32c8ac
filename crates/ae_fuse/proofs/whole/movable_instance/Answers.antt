use Rattle.std.proofs.Common.{◌≡◌, ◌∙◌, true, ap, rules}
use Rattle.ae_seq.specs.ProgramTree.{func_tree, program_tree}
use Rattle.ae_rewrite.specs.StProgramTree.{st_func_tree, st_func_trees}
use Rattle.ae_trace.specs.Traces.{are_movements, is_movement, is_movement_func}
use Rattle.ae_fuse.proofs.Fusing.{movable}
use Rattle.ae_fuse.proofs.whole.movable_instance.Goals as goal

pub returns-then-moves-clause-instance : goal.returns-then-moves-clause-instance
returns-then-moves-clause-instance c =
    let p = program_tree c.args.p.now in
    let f = func_tree c.main_func-func.result.now in
    let s = st_func_tree c.main_instance.result.now in
    let h = c.requires.schedule in
    let all : are_movements f.nodes ≡ true = first_of (cc, search rules) in
    let moves : is_movement p ≡ true = ap is_movement_func c.main_func-func.ensures.there ∙ all in
    record {
      movement = moves;
      typed = c.main_func-func.ensures.typed;
      func = f;
      there = c.main_func-func.ensures.there;
      last = c.main_instance.ensures.last;
      movable = movable p h.0 (st_func_trees c.args.s.now) f s moves c.main_func-func.ensures.typed h.3 c.main_func-func.ensures.there
          c.main_instance.ensures.last h.1 h.2 c.main_instance.ensures.sound
          (c.schedules_fit.ensures p h.0 (st_func_trees c.args.s.now) c.main_func-func.ensures.typed h.1 h.3);
    }
