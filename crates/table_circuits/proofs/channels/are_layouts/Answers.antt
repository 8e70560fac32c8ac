-- Each layout is looked at.
use Rattle.std.proofs.Common.{inl, inr, arith, sym}
use Rattle.std.proofs.lemmas.Bool.{cases_eq}
use Rattle.std.proofs.lemmas.Option.{slice_get_within}
use Rattle.table_circuits.proofs.Layouts.{same_layout}
use Rattle.table_circuits.proofs.channels.are_layouts.Goals as goal

pub loop-k-preserved : goal.loop-k-preserved
loop-k-preserved c = λ i y l f. elim (cases_eq i c.loop-k.k) [
  | inl e ↦ same_layout c.args.layouts.now c.args.slowdown c.loop-k.k c.index-layouts-k.result y c.loop-k-test.true c.index-layouts-k.is
      (c.takes_time.ensures c.if-not-takes_time.false) (rw (sym e) f)
  | inr ne ↦ c.loop-k.invariant i y (omega arith) f
]

pub returns : goal.returns
returns c = λ _. record {
  some = omega (arith, c.if-layouts-eq0.false);
  each = λ i y f. c.loop-k.invariant i y (omega (arith, slice_get_within c.args.layouts.now i y f, c.loop-k-test.false, c.loop-k.auto.k-end)) f;
}
