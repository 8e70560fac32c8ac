use Rattle.std.proofs.Common.{◌+◌, ◌*◌}
use Rattle.ae_seq.specs.ProgramTree.{program_tree}
use Rattle.ae_seqtype.specs.SeqTree.{seq_tree}
use Rattle.ae_eval.proofs.Calling.{Evaluating}
use Rattle.ae_eval.proofs.Mapping.{Mapping, MappingTwo}
use Rattle.ae_eval.proofs.functions.+eval.Given as goal

abbrev pub decreases-eval_call : goal.decreases-eval_call
decreases-eval_call l = 8 * l.func + 7

abbrev pub decreases-eval_func : goal.decreases-eval_func
decreases-eval_func l = 8 * l.func + 6

abbrev pub decreases-eval_node : goal.decreases-eval_node
decreases-eval_node l = 8 * l.func + 5

abbrev pub decreases-eval_map : goal.decreases-eval_map
decreases-eval_map l = 8 * l.callee + 8

abbrev pub decreases-eval_map_two : goal.decreases-eval_map_two
decreases-eval_map_two l = 8 * l.callee + 8

abbrev pub invariant-eval_func-loop-index : goal.invariant-eval_func-loop-index
invariant-eval_func-loop-index l = Evaluating (program_tree l.p) l.func l.base l.index l.fn.stack.items l.stack.items

abbrev pub invariant-eval_map-loop-index : goal.invariant-eval_map-loop-index
invariant-eval_map-loop-index l = Mapping (program_tree l.p) l.callee (seq_tree l.ty) l.start l.fn.stack.items l.stack.items l.index

abbrev pub invariant-eval_map_two-loop-index : goal.invariant-eval_map_two-loop-index
invariant-eval_map_two-loop-index l =
    MappingTwo (program_tree l.p) l.callee (seq_tree l.ty) (seq_tree l.other) l.start l.place l.fn.stack.items l.stack.items l.index
