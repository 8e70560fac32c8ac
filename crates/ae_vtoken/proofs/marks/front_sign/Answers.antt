use Rattle.std.proofs.Common.{◌≡◌, ◌≤◌, ◌+◌, ◌-◌, length, take, drop, arith, sym, ap, ◌∙◌, length-drop}
use Rattle.std.proofs.lemmas.Bool.{cond-true, le-leb}
use Rattle.ae_vtoken.specs.Tokens.{look_up}
use Rattle.ae_vtoken.specs.Tables.{signs}
use Rattle.ae_vtoken.specs.Scan.{sign_in_front}
use Rattle.ae_vtoken.proofs.marks.front_sign.Goals as goal

pub returns-then-n-text : goal.returns-then-n-text
unfolding sign_in_front
returns-then-n-text c =
    let within : c.args.n ≤ length (drop c.args.from c.args.text.now) = omega (arith, c.if-n-text.true, length-drop c.args.from c.args.text.now) in
    let size : c.args.from + c.args.n - c.args.from ≡ c.args.n = omega arith in
    c.sign_of.ensures ∙ ap (λ k. look_up (take k (drop c.args.from c.args.text.now)) signs) size ∙ sym (cond-true _ _ _ (le-leb _ _ within))
