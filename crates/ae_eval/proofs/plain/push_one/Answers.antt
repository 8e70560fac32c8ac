use Rattle.std.proofs.Common.{◌≡◌, ◌∷◌, [], IsSome, IsTrue, Some, ap, subst}
use Rattle.ae_seqtype.specs.SeqTree.{SeqTree, in_size, seq_tree}
use Rattle.ae_seq.specs.ProgramTree.{OpTree, op_tree}
use Rattle.ae_seq.specs.Typing.{op_type}
use Rattle.ae_eval.proofs.Wording.{cast-range, one-range}
use Rattle.ae_eval.proofs.plain.push_one.Goals as goal

pub push_one_word-requires-clause-range : goal.push_one_word-requires-clause-range
push_one_word-requires-clause-range c =
    let s = seq_tree c.args.ty.now in
    let e = ap op_tree c.in-Word.is in
    let P : OpTree → Type 0 = λ o. IsSome (op_type [] o (s ∷ [])) in
    let Q : OpTree → Type 0 = λ o. (u : SeqTree) → op_type [] o (s ∷ []) ≡ Some u → IsTrue (in_size u) in
    (one-range c.in-Word.op s (subst P e c.requires.fine) (subst Q e c.requires.result))

pub push_cast-requires-clause-low : goal.push_cast-requires-clause-low
push_cast-requires-clause-low c =
    let s = seq_tree c.args.ty.now in
    let e = ap op_tree c.in-CastInt.is in
    let P : OpTree → Type 0 = λ o. IsSome (op_type [] o (s ∷ [])) in
    let Q : OpTree → Type 0 = λ o. (u : SeqTree) → op_type [] o (s ∷ []) ≡ Some u → IsTrue (in_size u) in
    (cast-range c.in-CastInt.width s (subst P e c.requires.fine) (subst Q e c.requires.result)).0

pub push_cast-requires-clause-high : goal.push_cast-requires-clause-high
push_cast-requires-clause-high c =
    let s = seq_tree c.args.ty.now in
    let e = ap op_tree c.in-CastInt.is in
    let P : OpTree → Type 0 = λ o. IsSome (op_type [] o (s ∷ [])) in
    let Q : OpTree → Type 0 = λ o. (u : SeqTree) → op_type [] o (s ∷ []) ≡ Some u → IsTrue (in_size u) in
    (cast-range c.in-CastInt.width s (subst P e c.requires.fine) (subst Q e c.requires.result)).1
