-- A number of 64 bits fits each width from 64 on.
use Rattle.std.proofs.Common.{arith, ◌<◌, ◌≤◌, ◌^◌}
use Rattle.std.proofs.Math.Nat.{pow-le-pow_right}
use Rattle.std.proofs.lemmas.Bool.Decides.{nat_tests}
use Rattle.ae_vcd.proofs.shapes.fits.Goals as goal

pub returns-then-width-ge64 : goal.returns-then-width-ge64
returns-then-width-ge64 c =
    let one : 0 < 2 = omega arith in
    let wide : 64 ≤ c.args.width = omega arith in
    let up = pow-le-pow_right one wide in
    let small : c.args.value < 2 ^ c.args.width = omega (arith, up) in
    grind (arith, nat_tests, small)
