-- All types, one by one.
use Rattle.std.proofs.Common.{◌≡◌, ◌<◌, IsTrue, length, map, Some, slice_get, inl, inr, refl, arith, sym, ◌∙◌, subst}
use Rattle.std.proofs.lemmas.Bool.{cases_eq, false≢true}
use Rattle.std.proofs.lemmas.List.{length-map}
use Rattle.std.proofs.lemmas.Option.{slice_get_read, slice_get_within}
use Rattle.ae_sttype.specs.StTree.{StTree, st_tree, time}
use Rattle.ae_sttype.specs.Size.{IsInSize}
use Rattle.ae_moves.proofs.CodeLaws.{mapped_is}
use Rattle.ae_moves.proofs.Lists.{get_mapped}
use Rattle.ae_moves.proofs.origins.take_time.Goals as goal

pub returns-then-not-takes_time : goal.returns-then-not-takes_time
returns-then-not-takes_time c =
    let at = slice_get_read c.args.ins.now (length c.args.ins.now) c.loop-k.k c.index-ins-k.result refl c.loop-k-test.true c.index-ins-k.is in (
      λ x. absurd (false≢true x),
      λ all. (let t : IsTrue c.takes_time.result = c.takes_time.ensures.1
          (all c.loop-k.k (st_tree c.index-ins-k.result) (get_mapped st_tree c.args.ins.now c.loop-k.k c.index-ins-k.result at)) in
          absurd (false≢true (sym c.if-not-takes_time.true ∙ t))),
    )

pub loop-k-preserved : goal.loop-k-preserved
loop-k-preserved c = λ i s l f. elim (cases_eq i c.loop-k.k) [
  | inl e ↦
      let at = slice_get_read c.args.ins.now (length c.args.ins.now) c.loop-k.k c.index-ins-k.result refl c.loop-k-test.true c.index-ins-k.is in
      let g : slice_get (map st_tree c.args.ins.now) c.loop-k.k ≡ Some s = rw e at f in
      subst (λ (t : StTree). IsInSize t × (time t ≡ c.args.clocks)) (mapped_is c.args.ins.now c.loop-k.k s c.index-ins-k.result g at)
      (c.takes_time.ensures.0 c.if-not-takes_time.false)
  | inr ne ↦ c.loop-k.invariant i s (omega arith) f
]

pub returns : goal.returns
returns c = (
  λ x i s f. (let l : i < length (map st_tree c.args.ins.now) = slice_get_within (map st_tree c.args.ins.now) i s f in
      c.loop-k.invariant i s (omega (arith, length-map c.args.ins.now st_tree, c.loop-k-test.false)) f),
  λ x. refl,
)
