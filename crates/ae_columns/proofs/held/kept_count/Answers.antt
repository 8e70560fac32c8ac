-- One column more.
use Rattle.std.proofs.Common.{◌≡◌, ◌≤◌, ◌∙◌, Bool, true, false, cond, ap, arith, refl}
use mir.Val.{bool_byte}
use Rattle.ae_moves.proofs.Held.{mems_more}
use Rattle.ae_columns.specs.Held.{is_kept}
use Rattle.ae_columns.proofs.held.kept_count.Goals as goal

flag_few : (b : Bool) → cond b 1 0 ≤ 1
flag_few true = omega arith
flag_few false = omega arith

flag_is : (b : Bool) → bool_byte b ≡ cond b 1 0
flag_is true = refl
flag_is false = refl

pub loop-q-preserved : goal.loop-q-preserved
loop-q-preserved c =
    let one : c.from-count.result ≡ cond (is_kept c.args.held.now c.loop-q.q) 1 0 = c.from-count.ensures ∙
    (flag_is c.is_some.result ∙ ap (λ b. cond b 1 0) c.is_some.ensures) in
    record {
      is = mems_more (λ q. cond (is_kept c.args.held.now q) 1 0) c.loop-q.count c.loop-q.q c.from-count.result c.loop-q.invariant.is one;
      few = omega (arith, c.loop-q.invariant.few, one, flag_few (is_kept c.args.held.now c.loop-q.q));
    }
