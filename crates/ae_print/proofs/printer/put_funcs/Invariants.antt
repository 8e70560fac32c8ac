use Rattle.std.proofs.Common.{◌≡◌, ◌++◌, true, drop}
use Rattle.std.specs.String.{string_bytes}
use Rattle.ae_seq.specs.Formed.{formed_funcs, func_names}
use Rattle.ae_seq.specs.Trees.{func_trees}
use Rattle.ae_print.specs.Printed.{funcs_fit, funcs_statements, text_of}
use Rattle.ae_print.proofs.printer.put_funcs.Given as goal

abbrev pub invariant-loop-i : goal.invariant-loop-i
invariant-loop-i l = record {
  formed : formed_funcs l.version l.i (func_trees (drop l.i l.funcs)) ≡ true;
  written : string_bytes l.out ++ text_of (funcs_statements (func_names (func_trees l.funcs)) (func_trees (drop l.i l.funcs)))
      ≡ string_bytes l.initial.out ++ text_of (funcs_statements (func_names (func_trees l.funcs)) (func_trees l.funcs));
  fit : funcs_fit (func_trees (drop l.i l.funcs)) ≡ funcs_fit (func_trees l.funcs);
}
