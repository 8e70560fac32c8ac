use Rattle.std.proofs.Common.{◌≡◌, ◌∙◌, ℕ, Vec, Global, slice_get, ap, sym}
use Rattle.std.proofs.lemmas.Result.{IfOk-weaker}
use Rattle.ae_sttype.specs.StTree.{StTree, sseq, st_tree, tseq}
use Rattle.ae_sttype.proofs.Bounds.{part_of_sseq, part_of_tseq}
use Rattle.ae_fuse.specs.Clocks.{clock_copies, element_clocks}
use Rattle.ae_fuse.proofs.ClockSteps.{clock-early, sseq-clocks, tseq-clocks}
use Rattle.ae_fuse.proofs.clocks.+element_clocks.Goals as goal

pub copied_clocks-requires-clause-early : goal.copied_clocks-requires-clause-early
copied_clocks-requires-clause-early t c =
    let is : st_tree c.args.layout.now ≡ tseq c.in-T.n c.in-T.i (st_tree c.deref-of.result.now) = cc (ap st_tree c.in-T.is) in
    let one : c.deref.result.now ≡ element_clocks (st_tree c.deref-of.result.now) = c.deref.ensures.value ∙ c.in_ok-one-in-T.ensures in
    λ k x found. clock-early (st_tree c.deref-of.result.now) (part_of_tseq _ _ _ _ is c.requires) k x (ap (λ ks. slice_get ks k) (sym one) ∙ found)

pub copied_clocks-requires-in-S-clause-early : goal.copied_clocks-requires-in-S-clause-early
copied_clocks-requires-in-S-clause-early t c =
    let is : st_tree c.args.layout.now ≡ sseq c.in-S.n (st_tree c.deref-of-in-S.result.now) = cc (ap st_tree c.in-S.is) in
    let one : c.deref-in-S.result.now ≡ element_clocks (st_tree c.deref-of-in-S.result.now) = c.deref-in-S.ensures.value ∙ c.in_ok-one-in-S.ensures in
    λ k x found. clock-early (st_tree c.deref-of-in-S.result.now) (part_of_sseq _ _ _ is c.requires) k x (ap (λ ks. slice_get ks k) (sym one) ∙ found)

pub returns-in_ok-one-in-T : goal.returns-in_ok-one-in-T
returns-in_ok-one-in-T t c =
    let s : StTree = st_tree c.deref-of.result.now in
    let is : st_tree c.args.layout.now ≡ tseq c.in-T.n c.in-T.i s = cc (ap st_tree c.in-T.is) in
    let one : c.deref.result.now ≡ element_clocks s = c.deref.ensures.value ∙ c.in_ok-one-in-T.ensures in
    let all : clock_copies c.in-T.n c.time.result c.deref.result.now ≡ element_clocks
    (st_tree c.args.layout.now) = (λ j. clock_copies c.in-T.n (c.time.ensures j) (one j)) ∙ sym (ap element_clocks is ∙ tseq-clocks c.in-T.n c.in-T.i s) in
    IfOk-weaker c.copied_clocks.result (λ (v : Vec ℕ Global). v.items ≡ clock_copies c.in-T.n c.time.result c.deref.result.now)
    (λ (v : Vec ℕ Global). v.items ≡ element_clocks (st_tree c.args.layout.now)) (λ v e. e ∙ all) c.copied_clocks.ensures

pub returns-in_ok-one-in-S : goal.returns-in_ok-one-in-S
returns-in_ok-one-in-S t c =
    let s : StTree = st_tree c.deref-of-in-S.result.now in
    let is : st_tree c.args.layout.now ≡ sseq c.in-S.n s = cc (ap st_tree c.in-S.is) in
    let one : c.deref-in-S.result.now ≡ element_clocks s = c.deref-in-S.ensures.value ∙ c.in_ok-one-in-S.ensures in
    let all : clock_copies c.in-S.n 0 c.deref-in-S.result.now ≡ element_clocks (st_tree c.args.layout.now) = ap (clock_copies c.in-S.n 0) one ∙
    sym (ap element_clocks is ∙ sseq-clocks c.in-S.n s) in
    IfOk-weaker c.copied_clocks-in-S.result (λ (v : Vec ℕ Global). v.items ≡ clock_copies c.in-S.n 0 c.deref-in-S.result.now)
    (λ (v : Vec ℕ Global). v.items ≡ element_clocks (st_tree c.args.layout.now)) (λ v e. e ∙ all) c.copied_clocks-in-S.ensures
