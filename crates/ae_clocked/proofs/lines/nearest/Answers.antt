-- One tap more.
use Rattle.std.proofs.Common.{ℕ, ◌≡◌, ◌≤◌, get_or, inl, inr, ap, arith}
use Rattle.std.proofs.lemmas.Bool.{cases_eq}
use Rattle.ae_clocked.specs.Delays.{greatest_of}
use Rattle.ae_clocked.proofs.Late.{below_greatest}
use Rattle.ae_clocked.proofs.Lining.{near_is}
use Rattle.ae_clocked.proofs.lines.nearest.Goals as goal

pub loop-tap-preserved : goal.loop-tap-preserved
loop-tap-preserved c =
    let tap : ℕ = get_or c.args.taps.now c.loop-tap.tap-index 0 in
    let most : tap ≤ greatest_of c.args.taps.now = below_greatest c.args.taps.now c.loop-tap.tap-index c.loop-tap-test.true in
    let near = near_is tap c.near_or_none.result c.near_or_none.ensures in
    let was = c.loop-tap.invariant in
    record {
      below = omega (arith, near.0, was.below, c.max-most.ensures);
      least = omega (arith, near.1, most, was.least, c.max-most.ensures);
      each = λ k l small. elim (cases_eq k c.loop-tap.tap-index) [
        | inl e ↦
            let at : get_or c.args.taps.now k 0 ≡ tap = ap (λ i. get_or c.args.taps.now i 0) e in
            omega (arith, at, near.2 (omega (arith, at, small)), c.max-most.ensures)
        | inr ne ↦ (let before : get_or c.args.taps.now k 0 ≤ c.loop-tap.most = was.each k (omega arith) small in omega (arith, before, c.max-most.ensures))
      ];
    }
