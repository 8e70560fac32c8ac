use Rattle.std.proofs.Common.{◌≡◌, ◌++◌, [], drop, List, length}
use Rattle.ae_seqtype.specs.SeqTree.{SeqTree}
use Rattle.ae_seq.specs.Accepted.{AllSized}
use Rattle.ae_seq.specs.Signatures.{HaveTypes, signatures_by}
use Rattle.ae_seq.specs.Trees.{func_trees, types_of}
use Rattle.ae_seq.specs.Typing.{judged, refused}
use Rattle.ae_seq.proofs.checker.all_types.Given as goal

abbrev pub invariant-loop-func : goal.invariant-loop-func
invariant-loop-func l =
    let fs = func_trees l.funcs in
    let tss = types_of l.types.items in
    let rest = func_trees (drop l.func-index l.funcs) in
    record {
      count : length tss ≡ l.func-index;
      verdict : refused (judged (signatures_by fs tss) rest) ≡ refused (judged [] fs);
      typed : (more : List (List SeqTree)) → HaveTypes (signatures_by fs tss) rest more → HaveTypes [] fs (tss ++ more);
      sized : AllSized tss;
    }
