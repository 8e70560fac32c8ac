use Rattle.std.proofs.Common.{◌≤◌, length, rules}
use Rattle.std.proofs.lemmas.List.{length-map}
use Rattle.ae_seq.specs.ProgramTree.{program_tree}
use Rattle.ae_rewrite.proofs.Forms.{few-funcs}
use Rattle.ae_rewrite.proofs.plan.main_of.Goals as goal

pub overflow_cast-result : goal.overflow_cast-result
overflow_cast-result c =
    let e = few-funcs (program_tree c.args.p.now) c.requires.formed in
    let few = simp length-map at e in
    let n : length c.as_slice.result.now ≤ 4096 = rw c.as_slice.ensures.value few in
    search rules
