use Rattle.std.proofs.Common.{◌≡◌, ◌-◌, [], ◌∷◌, length, take, sym, ap, subst, ◌∙◌, arith}
use Rattle.ae_vmodule.specs.Postfix.{run, step}
use Rattle.ae_vmodule.specs.Stacks.{starts_of, IsStack}
use Rattle.ae_vmodule.proofs.PostfixLaws.{run_append}
use Rattle.ae_vmodule.proofs.StackLaws.{next_stack, one_more}
use Rattle.ae_vmodule.proofs.stack.Stack.operator.Goals as goal

pub invariant_of-self : goal.invariant_of-self
invariant_of-self c =
    let ss = c.args.self.now.symbols.items in
    let s = c.args.symbol in
    let h = c.args.self.now.stack in
    let many : c.len.result ≡ length c.args.self.now.starts.items = omega (arith, c.len.ensures, c.args.self.now.starts.ok) in
    let places : c.truncate.new.self.items ≡ starts_of (step s (run ss [])) =
    c.truncate.ensures.items ∙ ap (λ n. take (n - c.args.more) c.args.self.now.starts.items) many
    ∙ ap (λ xs. take (length xs - c.args.more) xs) h.1 ∙ sym c.requires.operator.1 in
    record {
      stack = subst (λ xs. IsStack xs c.truncate.new.self.items) (sym c.in-Ok.ensures.items)
          (next_stack ss _ _ s h c.requires.operator.0 places);
    }

pub returns-in-Ok-clause-pieces : goal.returns-in-Ok-clause-pieces
returns-in-Ok-clause-pieces c =
    ap (λ xs. run xs []) c.in-Ok.ensures.items ∙ run_append c.args.self.now.symbols.items (c.args.symbol ∷ []) []

pub returns-in-Ok-clause-few : goal.returns-in-Ok-clause-few
returns-in-Ok-clause-few c =
    let ss = c.args.self.now.symbols.items in
    one_more (run ss []) _ c.args.symbol (ap (λ xs. run xs []) c.in-Ok.ensures.items ∙ run_append ss (c.args.symbol ∷ []) []) c.requires.operator.0
