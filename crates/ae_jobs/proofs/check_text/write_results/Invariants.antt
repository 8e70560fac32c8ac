use Rattle.std.proofs.Common.{◌≡◌, ◌++◌, drop}
use Rattle.std.specs.Prelude.{string_bytes, flat_map}
use Rattle.ae_seq.specs.ProgramTree.{program_tree}
use Rattle.ae_seq.specs.Typing.{type_at}
use Rattle.ae_jobs.specs.CheckTexts.{result_text}
use Rattle.ae_jobs.proofs.check_text.write_results.Given as goal

abbrev pub invariant-loop-item : goal.invariant-loop-item
invariant-loop-item l =
    string_bytes l.out ++ flat_map (λ i. result_text (type_at (program_tree l.fn.p) l.fn.func i)) (drop l.item-index l.results) ≡ string_bytes l.fn.out
    ++ flat_map (λ i. result_text (type_at (program_tree l.fn.p) l.fn.func i)) l.results
