use Rattle.std.proofs.Common.{◌≡◌, drop, ◌+◌, ◌≤◌, ◌==◌, if◌then◌else◌}
use Rattle.ae_seq.specs.Formed.{func_lines}
use Rattle.ae_seq.specs.Trees.{func_trees}
use Rattle.ae_seq.proofs.formed.has_few_lines.Given as goal

abbrev pub invariant-loop-func : goal.invariant-loop-func
invariant-loop-func l = record {
  sum : l.lines + func_lines (func_trees (drop l.func-index l.funcs)) ≡ func_lines (func_trees l.funcs) + (if l.version == 2 then 1 else 0);
  small : l.lines ≤ 4096;
}
