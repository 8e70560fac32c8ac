use Rattle.std.proofs.Common.{◌≡◌, ◌∙◌, sym, rules, arith}
use Rattle.ae_seq.specs.ProgramTree.{func_tree, program_tree}
use Rattle.ae_least.specs.Others.{other_line}
use Rattle.ae_least.proofs.MovingLines.{moves-all}
use Rattle.ae_least.proofs.others.other_line.Goals as goal

pub returns-clause-moves : goal.returns-clause-moves
returns-clause-moves c = λ e.
    let p = program_tree c.args.p.now in
    let line : c.first_other.result ≡ other_line p = first_of (search rules, grind arith) in
    moves-all p (func_tree c.main_func-func.result.now) c.main_func-func.ensures.func (sym line ∙ e)
