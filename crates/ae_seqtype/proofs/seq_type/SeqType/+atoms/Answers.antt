-- A type in size has few atoms.
use Rattle.std.proofs.Common.{arith}
use Rattle.ae_seqtype.specs.SeqTree.{seq_tree}
use Rattle.ae_seqtype.proofs.Sizes.{few-atoms}
use Rattle.ae_seqtype.proofs.seq_type.SeqType.+atoms.Goals as goal

pub overflow_mul-result : goal.overflow_mul-result
overflow_mul-result t c =
    let small = rw c.in-Seq.is at (few-atoms (seq_tree c.args.self.now) c.requires) in
    rw (c.atoms.ensures, c.deref.ensures) (omega (arith, small))
