use Rattle.std.proofs.Common.{ℕ, ◌≡◌, ◌<◌, ◌^◌, ◌%◌, ap, subst, arith}
use Rattle.std.proofs.Math.Nat.{mod-eq_of_lt}
use Rattle.ae_gates.specs.Cells.{IsWord}
use Rattle.ae_gates.specs.Shifts.{moved}
use Rattle.ae_gates.proofs.Words.{grows_trans, grows_refl, word_grows, word_by, value_fits, back}
use Rattle.ae_gates.proofs.ShiftLaws.{moved_none}
use Rattle.ae_gates.proofs.compounds.shifted.Goals as goal

pub loop-i-init : goal.loop-i-init
loop-i-init c = record {
  grows = grows_refl _;
  more = omega arith;
  few = omega arith;
  net = c.requires.net;
  word = λ f g x y. word_by _ _ (λ all k run is t l. moved_none c.args.way c.args.width (f run t) (g run t) (value_fits _ _ all run t _ _ f x k is l)) x;
}

pub loop-i-preserved : goal.loop-i-preserved
loop-i-preserved c =
    let i = c.loop-i.invariant in
    let a = i.few in
    let b = i.more in
    let d = c.in_ok-y.ensures.adds.few in
    let e = c.in_ok-y.ensures.adds.more in
    record {
      grows = grows_trans i.grows c.in_ok-y.ensures.adds.grows;
      more = omega arith;
      few = omega arith;
      net = c.in_ok-y.ensures.net;
      word = λ f g x y. c.in_ok-y.ensures.word f g (i.word f g x y) (word_grows i.grows y);
    }

pub returns-then-own-le6-clause-word : goal.returns-then-own-le6-clause-word
returns-then-own-le6-clause-word c = λ f g x y.
    let i = c.loop-i.invariant in
    let last = c.min-i-end.ensures in
    let out = c.loop-i-test.false in
    let within = c.loop-i.auto.i-end in
    let all_bits : c.args.own ≡ c.loop-i.i = omega arith in
    word_by _ _
    (λ all k run is t l.
    let small : g run t < 2 ^ c.args.own = value_fits _ _ all run t _ _ g y (back i.grows k) is l in
    ap (moved c.args.way c.args.width (f run t)) (mod-eq_of_lt (subst (λ (k : ℕ). g run t < 2 ^ k) all_bits small)))
    (i.word f g x y)

pub returns-clause-word : goal.returns-clause-word
returns-clause-word c = λ f g x y.
    let i = c.loop-i.invariant in
    let last = c.min-i-end.ensures in
    let out = c.loop-i-test.false in
    let within = c.loop-i.auto.i-end in
    let six : c.loop-i.i ≡ 6 = omega arith in
    let word = subst (λ (k : ℕ). IsWord c.args.from c.loop-i.nl.cells c.loop-i.y.0 c.args.width
    (λ run t. moved c.args.way c.args.width (f run t) (g run t % 2 ^ k))) six (i.word f g x y) in
    c.in_ok-z.ensures.word f g word (word_grows i.grows y) (λ all k run is t l. value_fits _ _ all run t _ _ f x (back i.grows k) is l)
