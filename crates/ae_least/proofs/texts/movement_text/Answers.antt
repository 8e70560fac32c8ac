use Rattle.std.proofs.Common.{◌≡◌, ◌∙◌, ◌++◌, length, arith, rules}
use Rattle.std.specs.Prelude.{string_bytes}
use Rattle.ae_seq.specs.ProgramTree.{func_tree, program_tree}
use Rattle.ae_rewrite.specs.StProgramTree.{st_func_trees}
use Rattle.ae_least.specs.LeastTexts.{latency_line, shown_lines}
use Rattle.ae_least.proofs.LeastLines.{least-text}
use Rattle.ae_least.proofs.texts.movement_text.Goals as goal

pub returns-clause-text : goal.returns-clause-text
returns-clause-text c =
    let main = func_tree c.main_func.result.now in
    let outs = c.len-outs.result in
    let many : outs ≡ length main.results = first_of (search rules, grind arith) in
    least-text c.latency_is_least.ensures (program_tree c.args.p.now) c.args.slowdown (st_func_trees c.in_ok-schedule.schedule) c.in_ok-fused.fused main outs
    (string_bytes c.in_ok-text.text)
    c.main_func.ensures.typed c.limits.ensures.0 c.in_ok-schedule.ensures.schedule c.in_ok-schedule.ensures.sound c.in_ok-fused.ensures c.main_func.ensures.func
    many
    (c.in_ok-text.ensures ∙ (λ i. latency_line (c.latency.ensures i) ++ shown_lines outs (c.certificate.ensures i)))
