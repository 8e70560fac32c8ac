-- A word that is moved down past 64 bits leaves nothing.
use Rattle.std.proofs.Common.{◌^◌, ◌<◌, ◌≤◌, arith, sym}
use Rattle.std.proofs.Math.Nat.{pow-le-pow_right, div-eq_of_lt}
use Rattle.ae_word.proofs.result.moved_down.Goals as goal

pub returns-else-by-lt64 : goal.returns-else-by-lt64
returns-else-by-lt64 c =
    let one : 0 < 2 = omega arith in
    let wide : 64 ≤ c.args.by = omega arith in
    let up = pow-le-pow_right one wide in
    let small : c.args.a < 2 ^ c.args.by = omega (arith, up) in
    sym (div-eq_of_lt small)
