use Rattle.std.proofs.Common.{rules, ◌≡◌, ◌+◌, ◌∙◌, ap}
use Rattle.std.specs.Prelude.{min}
use Rattle.ae_vmodule.specs.Roots.{numbered_stmt}
use Rattle.ae_vmodule.specs.View.{stmt_tree}
use Rattle.ae_judge.specs.Weight.{stmt_weight}
use Rattle.ae_judge.proofs.Weighing.{ifs_capped}
use Rattle.ae_judge.proofs.weigh.+weigh_stmt.Goals as goal

pub returns-in-When : goal.returns-in-When
returns-in-When t c ws =
    let y = stmt_tree ws (numbered_stmt c.in-When.then) in
    let taken : c.stmt_weight-taken.result ≡ min (stmt_weight (c.args.ifs + 1) y) 10000001 =
    c.stmt_weight-taken.ensures ws ∙ ap (λ k. min (stmt_weight k y) 10000001) c.heavier-in-When.ensures ∙ ifs_capped 10000001 y (c.args.ifs + 1) in
    search (rules, taken)

pub returns-in-Either : goal.returns-in-Either
returns-in-Either t c ws =
    let y = stmt_tree ws (numbered_stmt c.in-Either.then) in
    let n = stmt_tree ws (numbered_stmt c.in-Either.otherwise) in
    let taken : c.stmt_weight-taken-in-Either.result ≡ min (stmt_weight (c.args.ifs + 1) y) 10000001 =
    c.stmt_weight-taken-in-Either.ensures ws ∙ ap (λ k. min (stmt_weight k y) 10000001) c.heavier-in-Either.ensures ∙ ifs_capped 10000001 y (c.args.ifs + 1) in
    let other : c.stmt_weight-other.result ≡ min (stmt_weight (c.args.ifs + 1) n) 10000001 =
    c.stmt_weight-other.ensures ws ∙ ap (λ k. min (stmt_weight k n) 10000001) c.heavier-in-Either-2.ensures ∙ ifs_capped 10000001 n (c.args.ifs + 1) in
    search (rules, taken, other)
