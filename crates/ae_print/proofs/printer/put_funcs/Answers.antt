use Rattle.std.proofs.Common.{◌++◌}
use Rattle.std.specs.String.{string_bytes}
use Rattle.ae_seq.specs.Formed.{func_names}
use Rattle.ae_seq.specs.Trees.{func_trees}
use Rattle.ae_print.specs.Printed.{funcs_fit, funcs_statements, text_of}
use Rattle.ae_print.proofs.PrintLemmas.{next-func, next-text, next-fit, last-text, last-fit}
use Rattle.ae_print.proofs.printer.put_funcs.Goals as goal

pub put_func-requires-clause-nodes : goal.put_func-requires-clause-nodes
put_func-requires-clause-nodes c =
    (next-func c.args.version c.args.funcs.now c.loop-i.i c.index-funcs-i.result c.loop-i-test.true c.index-funcs-i.is c.loop-i.invariant.formed).nodes

pub put_func-requires-clause-below : goal.put_func-requires-clause-below
put_func-requires-clause-below c =
    (next-func c.args.version c.args.funcs.now c.loop-i.i c.index-funcs-i.result c.loop-i-test.true c.index-funcs-i.is c.loop-i.invariant.formed).below

pub loop-i-preserved : goal.loop-i-preserved
loop-i-preserved c =
    let fs = c.args.funcs.now in
    let all = func_names (func_trees fs) in
    record {
      formed = (next-func c.args.version fs c.loop-i.i c.index-funcs-i.result c.loop-i-test.true c.index-funcs-i.is c.loop-i.invariant.formed).later;
      written = next-text (string_bytes c.loop-i.out) (string_bytes c.put_func.new.out)
          (string_bytes c.args.out.now ++ text_of (funcs_statements all (func_trees fs))) all fs c.loop-i.i c.index-funcs-i.result
          c.loop-i-test.true c.index-funcs-i.is c.loop-i.invariant.written c.in_ok-put_func.ensures.written;
      fit = next-fit fs c.loop-i.i c.index-funcs-i.result (funcs_fit (func_trees fs)) c.loop-i-test.true c.index-funcs-i.is c.loop-i.invariant.fit
          c.in_ok-put_func.ensures.fit;
    }

pub returns-clause-written : goal.returns-clause-written
returns-clause-written c =
    let fs = c.args.funcs.now in
    let all = func_names (func_trees fs) in
    last-text (string_bytes c.loop-i.out) (string_bytes c.args.out.now ++ text_of (funcs_statements all (func_trees fs))) all fs c.loop-i.i c.loop-i-test.false
    c.loop-i.invariant.written

pub returns-clause-fit : goal.returns-clause-fit
returns-clause-fit c = let fs = c.args.funcs.now in last-fit fs c.loop-i.i (funcs_fit (func_trees fs)) c.loop-i-test.false c.loop-i.invariant.fit
