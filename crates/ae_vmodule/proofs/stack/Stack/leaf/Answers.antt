use Rattle.std.proofs.Common.{◌≡◌, [], ◌∷◌, ◌++◌, length, sym, ap, subst, ◌∙◌, arith}
use Rattle.ae_vmodule.specs.Postfix.{run, step}
use Rattle.ae_vmodule.specs.Stacks.{starts_of, IsStack}
use Rattle.ae_vmodule.proofs.PostfixLaws.{run_append}
use Rattle.ae_vmodule.proofs.StackLaws.{next_stack, leaf_codes, leaf_starts, one_more}
use Rattle.ae_vmodule.proofs.stack.Stack.leaf.Goals as goal

pub invariant_of-self-in-Ok-push : goal.invariant_of-self-in-Ok-push
invariant_of-self-in-Ok-push c =
    let ss = c.args.self.now.symbols.items in
    let ps = run ss [] in
    let s = c.args.symbol in
    let h = c.args.self.now.stack in
    let places : c.push-2.new.self.items ≡ starts_of (step s ps) =
    c.in-Ok-push.ensures.items
    ∙ ap (λ n. c.args.self.now.starts.items ++ n ∷ []) (omega (arith, c.len-start.ensures, c.args.self.now.symbols.ok))
    ∙ ap (λ xs. xs ++ length ss ∷ []) h.1 ∙ ap (λ xs. starts_of ps ++ length xs ∷ []) h.0 ∙ sym (leaf_starts s ps c.requires.leaf) in
    record {
      stack = subst (λ xs. IsStack xs c.push-2.new.self.items) (sym c.in-Ok.ensures.items)
          (next_stack ss _ _ s h (leaf_codes s ps c.requires.leaf) places);
    }

pub returns-in-Ok-push-clause-pieces : goal.returns-in-Ok-push-clause-pieces
returns-in-Ok-push-clause-pieces c =
    ap (λ xs. run xs []) c.in-Ok.ensures.items ∙ run_append c.args.self.now.symbols.items (c.args.symbol ∷ []) []

pub returns-in-Ok-push-clause-few : goal.returns-in-Ok-push-clause-few
returns-in-Ok-push-clause-few c =
    let ss = c.args.self.now.symbols.items in
    one_more (run ss []) _ c.args.symbol (ap (λ xs. run xs []) c.in-Ok.ensures.items ∙ run_append ss (c.args.symbol ∷ []) [])
    (leaf_codes c.args.symbol (run ss []) c.requires.leaf)
