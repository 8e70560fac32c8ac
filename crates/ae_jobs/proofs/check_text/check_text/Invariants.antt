use Rattle.std.proofs.Common.{◌≡◌, ◌++◌, map, drop}
use Rattle.std.specs.Prelude.{string_bytes}
use Rattle.ae_seq.specs.ProgramTree.{func_tree, program_tree}
use Rattle.ae_jobs.specs.CheckTexts.{func_texts, check_text}
use Rattle.ae_jobs.proofs.check_text.check_text.Given as goal

abbrev pub invariant-loop-func : goal.invariant-loop-func
invariant-loop-func l =
    (string_bytes l.out ++ func_texts (program_tree l.fn.p) l.number (map func_tree (drop l.func-index l.funcs)) ≡ check_text (program_tree l.fn.p))
    × (l.number ≡ l.func-index) × (l.funcs ≡ l.fn.p.funcs.items)
