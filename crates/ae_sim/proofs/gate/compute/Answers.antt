-- Each row of the table, cut to its width by the mask.
use Rattle.ae_sim.proofs.Masks.{add_made, sub_made, mul_made, shl_made, shl_out, shr_out, cast_made}
use Rattle.ae_sim.proofs.gate.compute.Goals as goal

pub returns-in-Add : goal.returns-in-Add
returns-in-Add c = λ w l m fit. add_made c.args.op c.args.mask _ _ _ w c.in-Add.is l m

pub returns-in-Sub : goal.returns-in-Sub
returns-in-Sub c = λ w l m fit. sub_made c.args.op c.args.mask _ _ _ w c.in-Sub.is l fit m

pub returns-in-Mul : goal.returns-in-Mul
returns-in-Mul c = λ w l m fit. mul_made c.args.op c.args.mask _ _ _ w c.in-Mul.is l m

pub returns-then-k-lt64 : goal.returns-then-k-lt64
returns-then-k-lt64 c = λ w l m fit. shl_made c.args.op c.in-Shl.k c.args.mask _ _ _ w c.in-Shl.is l m

pub returns-else-k-lt64 : goal.returns-else-k-lt64
returns-else-k-lt64 c = λ w l m fit. shl_out c.args.op c.in-Shl.k _ _ _ w c.in-Shl.is l c.if-k-lt64.false

pub returns-else-k-lt64-2 : goal.returns-else-k-lt64-2
returns-else-k-lt64-2 c = λ w l m fit. shr_out c.args.op c.in-Shr.k _ _ _ w c.in-Shr.is l fit c.if-k-lt64-2.false

pub returns-in-Cast : goal.returns-in-Cast
returns-in-Cast c = λ w l m fit. cast_made c.args.op c.in-Cast.field-0 c.args.mask _ _ _ w c.in-Cast.is m
