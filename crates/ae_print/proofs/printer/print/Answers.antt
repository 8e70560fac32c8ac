use Rattle.std.proofs.Common.{◌++◌, List, ℕ, subst, sym, ap, ◌∙◌}
use Rattle.ae_seq.specs.ProgramTree.{program_tree}
use Rattle.ae_fields.specs.Grammar.{IsProgramText}
use Rattle.ae_print.specs.Printed.{numbered, program_text}
use Rattle.ae_print.proofs.ProgramRead.{text-is-program}
use Rattle.ae_print.proofs.StatedForms.{program-stated}
use Rattle.ae_print.proofs.printer.print.Goals as goal

pub returns-clause-read : goal.returns-clause-read
returns-clause-read c =
    let p = program_tree c.args.program.now in
    subst (λ (t : List ℕ). IsProgramText t (numbered p)) (sym (c.in_ok-put_program.ensures.written ∙ ap (λ b. b ++ program_text p) c.new-out.ensures.bytes))
    (text-is-program p c.requires c.in_ok-put_program.ensures.fit (program-stated p c.requires c.in_ok-put_program.ensures.fit))
