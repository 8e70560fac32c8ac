use Rattle.std.proofs.Common.{◌≡◌, ◌+◌, ◌-◌, length, sym, ap, subst, ◌∙◌, arith, [], length-append}
use Rattle.ae_vmodule.specs.Postfix.{run, coded_piece}
use Rattle.ae_vmodule.specs.Stacks.{codes, IsStack}
use Rattle.ae_vmodule.specs.Held.{held}
use Rattle.ae_vmodule.proofs.StackLaws.{many_starts, taken, some_top, codes_stack, run_codes}
use Rattle.ae_vmodule.proofs.stack.Stack.forget.Goals as goal

pub overflow_sub-last : goal.overflow_sub-last
overflow_sub-last c =
    let s = c.args.self.now in
    omega (arith, c.len-last.ensures, s.starts.ok, many_starts s.symbols.items s.starts.items s.stack, c.requires.some)

pub index-requires : goal.index-requires
index-requires c =
    let s = c.args.self.now in
    omega (arith, c.len-last.ensures, s.starts.ok, many_starts s.symbols.items s.starts.items s.stack, c.requires.some)

pub invariant_of-self : goal.invariant_of-self
invariant_of-self c =
    let s = c.args.self.now in
    let many = many_starts s.symbols.items s.starts.items s.stack in
    let at : c.len-last.result - 1 + 1 ≡ length s.starts.items = omega (arith, c.len-last.ensures, s.starts.ok, many, c.requires.some) in
    let top = some_top (held s) c.requires.some in
    let t = taken s.symbols.items s.starts.items top.0 top.1 c.index.result.now (c.len-last.result - 1) c.index.result.now s.stack top.2 at c.index.ensures in
    record {
      stack = subst (λ xs. IsStack xs c.truncate-2.new.self.items) (sym (c.truncate.ensures.items ∙ t.front))
          (subst (IsStack (codes top.1)) (sym (c.truncate-2.ensures.items ∙ t.places)) (codes_stack top.1));
    }

pub returns-clause-rest : goal.returns-clause-rest
returns-clause-rest c p below is =
    let s = c.args.self.now in
    let many = many_starts s.symbols.items s.starts.items s.stack in
    let at : c.len-last.result - 1 + 1 ≡ length s.starts.items = omega (arith, c.len-last.ensures, s.starts.ok, many, c.requires.some) in
    let t = taken s.symbols.items s.starts.items p below c.index.result.now (c.len-last.result - 1) c.index.result.now s.stack is at c.index.ensures in
    ap (λ xs. run xs []) (c.truncate.ensures.items ∙ t.front) ∙ run_codes below

pub returns-clause-few : goal.returns-clause-few
returns-clause-few c =
    let s = c.args.self.now in
    let many = many_starts s.symbols.items s.starts.items s.stack in
    let at : c.len-last.result - 1 + 1 ≡ length s.starts.items = omega (arith, c.len-last.ensures, s.starts.ok, many, c.requires.some) in
    let top = some_top (held s) c.requires.some in
    let t = taken s.symbols.items s.starts.items top.0 top.1 c.index.result.now (c.len-last.result - 1) c.index.result.now s.stack top.2 at c.index.ensures in
    let now = ap (λ xs. run xs []) (c.truncate.ensures.items ∙ t.front) ∙ run_codes top.1 in
    omega (arith, ap (λ ps. length (codes ps)) now, ap (λ ps. length (codes ps)) top.2, length-append (codes top.1) (coded_piece top.0))
