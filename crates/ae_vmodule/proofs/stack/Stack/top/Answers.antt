use Rattle.std.proofs.Common.{◌≡◌, ◌+◌, ◌-◌, length, drop, ap, ◌∙◌, arith}
use Rattle.std.proofs.lemmas.Result.{IfOk-weaker}
use Rattle.ae_vmodule.specs.Held.{held}
use Rattle.ae_vmodule.proofs.StackLaws.{many_starts, taken, some_top}
use Rattle.ae_vmodule.proofs.stack.Stack.top.Goals as goal

pub overflow_sub-len : goal.overflow_sub-len
overflow_sub-len c =
    let s = c.args.self.now in
    omega (arith, c.len.ensures, s.starts.ok, many_starts s.symbols.items s.starts.items s.stack, c.requires.some)

pub index-requires : goal.index-requires
index-requires c =
    let s = c.args.self.now in
    omega (arith, c.len.ensures, s.starts.ok, many_starts s.symbols.items s.starts.items s.stack, c.requires.some)

pub split_at-requires : goal.split_at-requires
split_at-requires c =
    let s = c.args.self.now in
    let many = many_starts s.symbols.items s.starts.items s.stack in
    let at : c.len.result - 1 + 1 ≡ length s.starts.items = omega (arith, c.len.ensures, s.starts.ok, many, c.requires.some) in
    let top = some_top (held s) c.requires.some in
    let t = taken s.symbols.items s.starts.items top.0 top.1 c.index.result.now (c.len.result - 1) c.index.result.now s.stack top.2 at c.index.ensures in
    omega (arith, t.within, ap length c.deref.ensures.value)

pub returns : goal.returns
returns c =
    let s = c.args.self.now in
    let many = many_starts s.symbols.items s.starts.items s.stack in
    let at : c.len.result - 1 + 1 ≡ length s.starts.items = omega (arith, c.len.ensures, s.starts.ok, many, c.requires.some) in
    IfOk-weaker c.of.result _ _ (λ v e p below is.
    let t = taken s.symbols.items s.starts.items p below c.index.result.now (c.len.result - 1) c.index.result.now s.stack is at c.index.ensures in
    e ∙ c.split_at.ensures.back ∙ ap (drop c.index.result.now) c.deref.ensures.value ∙ t.back) c.of.ensures
