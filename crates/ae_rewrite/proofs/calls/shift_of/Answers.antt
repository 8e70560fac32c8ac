use Rattle.std.proofs.Common.{◌≤◌, ◌*◌, arith}
use Rattle.ae_seqtype.specs.SeqTree.{seq_tree}
use Rattle.ae_rewrite.proofs.Amounts.{shift_fits}
use Rattle.ae_rewrite.proofs.calls.shift_of.Goals as goal

pub overflow_mul-result : goal.overflow_mul-result
overflow_mul-result c =
    let sized = rw c.in-Seq.is at c.requires.sized in
    let e : c.args.count * c.atoms.result ≤ 67108864 = rw (c.atoms.ensures, c.deref.ensures)
    (shift_fits c.args.count c.in-Seq.field-0 (seq_tree c.in-Seq.of.value) sized c.requires.few) in
    omega (arith, e)
