use Rattle.std.proofs.Common.{◌≡◌, ◌≤◌, ◌∙◌, All, length, map, ap, sym, subst, arith}
use Rattle.std.specs.Prelude.{sum_by}
use Rattle.std.proofs.lemmas.List.{length-map}
use Rattle.std.proofs.lemmas.List.Elements.{All-weaker}
use Rattle.ae_seq.specs.ProgramTree.{program_tree}
use Rattle.ae_sttype.specs.StTree.{StTree, st_tree, time}
use Rattle.ae_sttype.specs.Size.{IsInSize}
use Rattle.ae_sttype.specs.Moves.{columns_of}
use Rattle.ae_rewrite.specs.StProgramTree.{st_func_tree, st_func_trees}
use Rattle.ae_jobs.proofs.Columns.{few_parameters, fill_clocks_in, main_is, parameters_counted}
use Rattle.ae_jobs.proofs.run_job.input_count.Goals as goal

pub count_columns-requires-clause-sized : goal.count_columns-requires-clause-sized
count_columns-requires-clause-sized c =
    let p = program_tree c.args.costed.now.program in
    let all = st_func_trees c.args.costed.now.schedule in
    let s = st_func_tree c.main_instance.result.now in
    let are : map st_tree c.deref.result.now ≡ s.ins = ap (map st_tree) c.deref.ensures.value in
    let m = main_is p c.args.costed.now.slowdown all s c.main_instance.ensures.known.schedule c.main_instance.ensures.known.sound
    c.main_instance.ensures.last in
    subst (All IsInSize) (sym are) (All-weaker (λ (t : StTree). IsInSize t × (time t ≡ c.args.costed.now.slowdown)) IsInSize (λ t h. h.0) s.ins
    (fill_clocks_in p c.args.costed.now.slowdown all s m))

pub count_columns-requires-clause-few : goal.count_columns-requires-clause-few
count_columns-requires-clause-few c =
    let p = program_tree c.args.costed.now.program in
    let all = st_func_trees c.args.costed.now.schedule in
    let s = st_func_tree c.main_instance.result.now in
    let are : map st_tree c.deref.result.now ≡ s.ins = ap (map st_tree) c.deref.ensures.value in
    let m = main_is p c.args.costed.now.slowdown all s c.main_instance.ensures.known.schedule c.main_instance.ensures.known.sound
    c.main_instance.ensures.last in
    let few : length s.ins ≤ 8 = few_parameters p c.args.costed.now.slowdown all s c.main_instance.ensures.known.some c.main_instance.ensures.known.most
    c.main_instance.ensures.known.typed m in
    omega (arith, few, ap length are, length-map c.deref.result.now st_tree)

pub returns-clause-is : goal.returns-clause-is
returns-clause-is c =
    let p = program_tree c.args.costed.now.program in
    let all = st_func_trees c.args.costed.now.schedule in
    let s = st_func_tree c.main_instance.result.now in
    let are : map st_tree c.deref.result.now ≡ s.ins = ap (map st_tree) c.deref.ensures.value in
    let m = main_is p c.args.costed.now.slowdown all s c.main_instance.ensures.known.schedule c.main_instance.ensures.known.sound
    c.main_instance.ensures.last in
    c.count_columns.ensures.is ∙ ap (sum_by columns_of) are ∙ parameters_counted p c.args.costed.now.slowdown all s c.main_instance.ensures.known.typed m
