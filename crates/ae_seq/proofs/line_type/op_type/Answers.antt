-- The shape of the arguments decides.
use Rattle.std.proofs.Common.{inl, inr, refl, arith}
use Rattle.ae_seqtype.specs.SeqTree.{seq_tree}
use Rattle.ae_seq.specs.ProgramTree.{each, each_two, fst, pair, partition, reduce, scan, select, shift, snd, unpartition, up, zip}
use Rattle.ae_seq.specs.Signatures.{signatures_by}
use Rattle.ae_seq.specs.Trees.{func_trees, types_of}
use Rattle.ae_seq.specs.Typing.{op_type}
use Rattle.ae_seq.proofs.Shapes.{but-one, but-two, one-item, sized-one, two-items}
use Rattle.ae_seq.proofs.line_type.op_type.Goals as goal
use Rattle.ae_seq.proofs.line_type.op_type.Goals.{in_default-args-via-then-args-lt2}
use Rattle.ae_seq.proofs.line_type.op_type.Goals.{in_default-args-via-else-args-lt2+else-args-lt3}
use Rattle.ae_seq.proofs.line_type.op_type.Goals.{in_default-args-2-via-then-args-lt2-2}
use Rattle.ae_seq.proofs.line_type.op_type.Goals.{in_default-args-2-via-else-args-lt2-2+else-args-lt3-2}
use Rattle.ae_seq.proofs.line_type.op_type.Goals.{in_default-args-3-via-then-args-lt2-3}
use Rattle.ae_seq.proofs.line_type.op_type.Goals.{in_default-args-3-via-else-args-lt2-3+else-args-lt3-3}
use Rattle.ae_seq.proofs.line_type.op_type.Goals.{in_default-args-4-via-then-args-lt1-2}
use Rattle.ae_seq.proofs.line_type.op_type.Goals.{in_default-args-4-via-else-args-lt1-2+else-args-lt2-4}
use Rattle.ae_seq.proofs.line_type.op_type.Goals.{in_default-args-5-via-then-args-lt1-3}
use Rattle.ae_seq.proofs.line_type.op_type.Goals.{in_default-args-5-via-else-args-lt1-3+else-args-lt2-5}
use Rattle.ae_seq.proofs.line_type.op_type.Goals.{in_default-args-6-via-then-args-lt1-4}
use Rattle.ae_seq.proofs.line_type.op_type.Goals.{in_default-args-6-via-else-args-lt1-4+else-args-lt2-6}
use Rattle.ae_seq.proofs.line_type.op_type.Goals.{in_default-args-7-via-then-args-lt1-5}
use Rattle.ae_seq.proofs.line_type.op_type.Goals.{in_default-args-7-via-else-args-lt1-5+else-args-lt2-7}
use Rattle.ae_seq.proofs.line_type.op_type.Goals.{in_default-args-8-via-then-args-lt1-6}
use Rattle.ae_seq.proofs.line_type.op_type.Goals.{in_default-args-8-via-else-args-lt1-6+else-args-lt2-8}
use Rattle.ae_seq.proofs.line_type.op_type.Goals.{in_default-args-9-via-then-args-lt1-7}
use Rattle.ae_seq.proofs.line_type.op_type.Goals.{in_default-args-9-via-else-args-lt1-7+else-args-lt2-9}
use Rattle.ae_seq.proofs.line_type.op_type.Goals.{in_default-args-10-via-then-args-lt1-8}
use Rattle.ae_seq.proofs.line_type.op_type.Goals.{in_default-args-10-via-else-args-lt1-8+else-args-lt2-10}
use Rattle.ae_seq.proofs.line_type.op_type.Goals.{in_default-args-11-via-then-args-lt1-9}
use Rattle.ae_seq.proofs.line_type.op_type.Goals.{in_default-args-11-via-else-args-lt1-9+else-args-lt2-11}
use Rattle.ae_seq.proofs.line_type.op_type.Goals.{in_default-args-12-via-then-args-lt1-10}
use Rattle.ae_seq.proofs.line_type.op_type.Goals.{in_default-args-12-via-else-args-lt1-10+else-args-lt2-12}
use Rattle.ae_seq.proofs.line_type.op_type.Goals.{in_default-args-13-via-then-args-lt1-11}
use Rattle.ae_seq.proofs.line_type.op_type.Goals.{in_default-args-13-via-else-args-lt1-11+else-args-lt2-13}

pub unpartition_type-requires : goal.unpartition_type-requires
unpartition_type-requires c =
    let one = one-item c.args.args.now c.arg-item-then-args-lt2-13.result c.in-len1-args-9.len_at_least c.in-len1-args-9.len_below
    c.arg-item-then-args-lt2-13.is in
    sized-one (seq_tree c.arg-item-then-args-lt2-13.result.now) (rw one at c.requires)

pub returns-in_default-args : goal.returns-in_default-args
returns-in_default-args c =
    rw c.in-Pair.is
    (but-two (op_type (signatures_by (func_trees c.args.funcs.now) (types_of c.args.types.now)) pair)
    refl (λ t. refl) (λ t u v ts. refl) c.args.args.now
    (elim c.in_default-args.branch [
      | in_default-args-via-then-args-lt2 w ↦ inl (grind arith)
      | in_default-args-via-else-args-lt2+else-args-lt3 w ↦ inr (grind arith)
    ]))

pub returns-in-len2 : goal.returns-in-len2
returns-in-len2 c =
    let two =
    two-items c.args.args.now c.first-item.result c.second-item.result c.in-len2.len_at_least c.in-len2.len_below
    c.first-item.is c.second-item.is
    in
    rw (c.in-Pair.is, two) c.pair_type.ensures

pub returns-in_default-args-2 : goal.returns-in_default-args-2
returns-in_default-args-2 c =
    rw c.in-Zip.is
    (but-two (op_type (signatures_by (func_trees c.args.funcs.now) (types_of c.args.types.now)) zip)
    refl (λ t. refl) (λ t u v ts. refl) c.args.args.now
    (elim c.in_default-args-2.branch [
      | in_default-args-2-via-then-args-lt2-2 w ↦ inl (grind arith)
      | in_default-args-2-via-else-args-lt2-2+else-args-lt3-2 w ↦ inr (grind arith)
    ]))

pub returns-in-len2-args : goal.returns-in-len2-args
returns-in-len2-args c =
    let two =
    two-items c.args.args.now c.first-item-then-args-lt3-2.result c.second-item-then-args-lt3-2.result c.in-len2-args.len_at_least c.in-len2-args.len_below
    c.first-item-then-args-lt3-2.is c.second-item-then-args-lt3-2.is
    in
    rw (c.in-Zip.is, two) c.zip_type.ensures

pub returns-in_default-args-3 : goal.returns-in_default-args-3
returns-in_default-args-3 c =
    rw c.in-Map2.is
    (but-two (op_type (signatures_by (func_trees c.args.funcs.now) (types_of c.args.types.now)) (each_two c.in-Map2.callee))
    refl (λ t. refl) (λ t u v ts. refl) c.args.args.now
    (elim c.in_default-args-3.branch [
      | in_default-args-3-via-then-args-lt2-3 w ↦ inl (grind arith)
      | in_default-args-3-via-else-args-lt2-3+else-args-lt3-3 w ↦ inr (grind arith)
    ]))

pub returns-in-len2-args-2 : goal.returns-in-len2-args-2
returns-in-len2-args-2 c =
    let two =
    two-items c.args.args.now c.first-item-then-args-lt3-3.result c.second-item-then-args-lt3-3.result c.in-len2-args-2.len_at_least
    c.in-len2-args-2.len_below
    c.first-item-then-args-lt3-3.is c.second-item-then-args-lt3-3.is
    in
    rw (c.in-Map2.is, two) c.each_two_type.ensures

pub returns-in_default-args-4 : goal.returns-in_default-args-4
returns-in_default-args-4 c =
    rw c.in-Fst.is
    (but-one (op_type (signatures_by (func_trees c.args.funcs.now) (types_of c.args.types.now)) fst)
    refl (λ t u ts. refl) c.args.args.now
    (elim c.in_default-args-4.branch [
      | in_default-args-4-via-then-args-lt1-2 w ↦ inl (grind arith)
      | in_default-args-4-via-else-args-lt1-2+else-args-lt2-4 w ↦ inr (grind arith)
    ]))

pub returns-in-len1 : goal.returns-in-len1
returns-in-len1 c =
    let one = one-item c.args.args.now c.arg-item.result c.in-len1.len_at_least c.in-len1.len_below c.arg-item.is in
    rw (c.in-Fst.is, one) c.fst_type.ensures

pub returns-in_default-args-5 : goal.returns-in_default-args-5
returns-in_default-args-5 c =
    rw c.in-Snd.is
    (but-one (op_type (signatures_by (func_trees c.args.funcs.now) (types_of c.args.types.now)) snd)
    refl (λ t u ts. refl) c.args.args.now
    (elim c.in_default-args-5.branch [
      | in_default-args-5-via-then-args-lt1-3 w ↦ inl (grind arith)
      | in_default-args-5-via-else-args-lt1-3+else-args-lt2-5 w ↦ inr (grind arith)
    ]))

pub returns-in-len1-args : goal.returns-in-len1-args
returns-in-len1-args c =
    let one = one-item c.args.args.now c.arg-item-then-args-lt2-5.result c.in-len1-args.len_at_least c.in-len1-args.len_below c.arg-item-then-args-lt2-5.is in
    rw (c.in-Snd.is, one) c.snd_type.ensures

pub returns-in_default-args-6 : goal.returns-in_default-args-6
returns-in_default-args-6 c =
    rw c.in-Map.is
    (but-one (op_type (signatures_by (func_trees c.args.funcs.now) (types_of c.args.types.now)) (each c.in-Map.callee))
    refl (λ t u ts. refl) c.args.args.now
    (elim c.in_default-args-6.branch [
      | in_default-args-6-via-then-args-lt1-4 w ↦ inl (grind arith)
      | in_default-args-6-via-else-args-lt1-4+else-args-lt2-6 w ↦ inr (grind arith)
    ]))

pub returns-in-len1-args-2 : goal.returns-in-len1-args-2
returns-in-len1-args-2 c =
    let one = one-item c.args.args.now c.arg-item-then-args-lt2-6.result c.in-len1-args-2.len_at_least c.in-len1-args-2.len_below
    c.arg-item-then-args-lt2-6.is in
    rw (c.in-Map.is, one) c.each_type.ensures

pub returns-in_default-args-7 : goal.returns-in_default-args-7
returns-in_default-args-7 c =
    rw c.in-Reduce.is
    (but-one (op_type (signatures_by (func_trees c.args.funcs.now) (types_of c.args.types.now)) (reduce c.in-Reduce.field-0))
    refl (λ t u ts. refl) c.args.args.now
    (elim c.in_default-args-7.branch [
      | in_default-args-7-via-then-args-lt1-5 w ↦ inl (grind arith)
      | in_default-args-7-via-else-args-lt1-5+else-args-lt2-7 w ↦ inr (grind arith)
    ]))

pub returns-in-len1-args-3 : goal.returns-in-len1-args-3
returns-in-len1-args-3 c =
    let one = one-item c.args.args.now c.arg-item-then-args-lt2-7.result c.in-len1-args-3.len_at_least c.in-len1-args-3.len_below
    c.arg-item-then-args-lt2-7.is in
    rw (c.in-Reduce.is, one) c.reduce_type.ensures

pub returns-in_default-args-8 : goal.returns-in_default-args-8
returns-in_default-args-8 c =
    rw c.in-Scan.is
    (but-one (op_type (signatures_by (func_trees c.args.funcs.now) (types_of c.args.types.now)) (scan c.in-Scan.field-0))
    refl (λ t u ts. refl) c.args.args.now
    (elim c.in_default-args-8.branch [
      | in_default-args-8-via-then-args-lt1-6 w ↦ inl (grind arith)
      | in_default-args-8-via-else-args-lt1-6+else-args-lt2-8 w ↦ inr (grind arith)
    ]))

pub returns-in-len1-args-4 : goal.returns-in-len1-args-4
returns-in-len1-args-4 c =
    let one = one-item c.args.args.now c.arg-item-then-args-lt2-8.result c.in-len1-args-4.len_at_least c.in-len1-args-4.len_below
    c.arg-item-then-args-lt2-8.is in
    rw (c.in-Scan.is, one) c.scan_type.ensures

pub returns-in_default-args-9 : goal.returns-in_default-args-9
returns-in_default-args-9 c =
    rw c.in-Shift.is
    (but-one (op_type (signatures_by (func_trees c.args.funcs.now) (types_of c.args.types.now)) (shift c.in-Shift.count))
    refl (λ t u ts. refl) c.args.args.now
    (elim c.in_default-args-9.branch [
      | in_default-args-9-via-then-args-lt1-7 w ↦ inl (grind arith)
      | in_default-args-9-via-else-args-lt1-7+else-args-lt2-9 w ↦ inr (grind arith)
    ]))

pub returns-in-len1-args-5 : goal.returns-in-len1-args-5
returns-in-len1-args-5 c =
    let one = one-item c.args.args.now c.arg-item-then-args-lt2-9.result c.in-len1-args-5.len_at_least c.in-len1-args-5.len_below
    c.arg-item-then-args-lt2-9.is in
    rw (c.in-Shift.is, one) c.shift_type.ensures

pub returns-in_default-args-10 : goal.returns-in_default-args-10
returns-in_default-args-10 c =
    rw c.in-Up.is
    (but-one (op_type (signatures_by (func_trees c.args.funcs.now) (types_of c.args.types.now)) (up c.in-Up.count))
    refl (λ t u ts. refl) c.args.args.now
    (elim c.in_default-args-10.branch [
      | in_default-args-10-via-then-args-lt1-8 w ↦ inl (grind arith)
      | in_default-args-10-via-else-args-lt1-8+else-args-lt2-10 w ↦ inr (grind arith)
    ]))

pub returns-in-len1-args-6 : goal.returns-in-len1-args-6
returns-in-len1-args-6 c =
    let one = one-item c.args.args.now c.arg-item-then-args-lt2-10.result c.in-len1-args-6.len_at_least c.in-len1-args-6.len_below
    c.arg-item-then-args-lt2-10.is in
    rw (c.in-Up.is, one) c.up_type.ensures

pub returns-in_default-args-11 : goal.returns-in_default-args-11
returns-in_default-args-11 c =
    rw c.in-Select.is
    (but-one (op_type (signatures_by (func_trees c.args.funcs.now) (types_of c.args.types.now)) (select c.in-Select.place))
    refl (λ t u ts. refl) c.args.args.now
    (elim c.in_default-args-11.branch [
      | in_default-args-11-via-then-args-lt1-9 w ↦ inl (grind arith)
      | in_default-args-11-via-else-args-lt1-9+else-args-lt2-11 w ↦ inr (grind arith)
    ]))

pub returns-in-len1-args-7 : goal.returns-in-len1-args-7
returns-in-len1-args-7 c =
    let one = one-item c.args.args.now c.arg-item-then-args-lt2-11.result c.in-len1-args-7.len_at_least c.in-len1-args-7.len_below
    c.arg-item-then-args-lt2-11.is in
    rw (c.in-Select.is, one) c.select_type.ensures

pub returns-in_default-args-12 : goal.returns-in_default-args-12
returns-in_default-args-12 c =
    rw c.in-Partition.is
    (but-one (op_type (signatures_by (func_trees c.args.funcs.now) (types_of c.args.types.now)) (partition c.in-Partition.pieces c.in-Partition.size))
    refl (λ t u ts. refl) c.args.args.now
    (elim c.in_default-args-12.branch [
      | in_default-args-12-via-then-args-lt1-10 w ↦ inl (grind arith)
      | in_default-args-12-via-else-args-lt1-10+else-args-lt2-12 w ↦ inr (grind arith)
    ]))

pub returns-in-len1-args-8 : goal.returns-in-len1-args-8
returns-in-len1-args-8 c =
    let one = one-item c.args.args.now c.arg-item-then-args-lt2-12.result c.in-len1-args-8.len_at_least c.in-len1-args-8.len_below
    c.arg-item-then-args-lt2-12.is in
    rw (c.in-Partition.is, one) c.partition_type.ensures

pub returns-in_default-args-13 : goal.returns-in_default-args-13
returns-in_default-args-13 c =
    rw c.in-Unpartition.is
    (but-one (op_type (signatures_by (func_trees c.args.funcs.now) (types_of c.args.types.now)) unpartition)
    refl (λ t u ts. refl) c.args.args.now
    (elim c.in_default-args-13.branch [
      | in_default-args-13-via-then-args-lt1-11 w ↦ inl (grind arith)
      | in_default-args-13-via-else-args-lt1-11+else-args-lt2-13 w ↦ inr (grind arith)
    ]))

pub returns-in-len1-args-9 : goal.returns-in-len1-args-9
returns-in-len1-args-9 c =
    let one = one-item c.args.args.now c.arg-item-then-args-lt2-13.result c.in-len1-args-9.len_at_least c.in-len1-args-9.len_below
    c.arg-item-then-args-lt2-13.is in
    rw (c.in-Unpartition.is, one) c.unpartition_type.ensures
