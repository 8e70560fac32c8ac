use Rattle.std.proofs.Common.{◌≡◌, ◌+◌, ◌-◌, length, ◌∷◌, arith, length-append}
use Rattle.ae_vmodule.specs.Postfix.{coded_piece}
use Rattle.ae_vmodule.specs.Stacks.{codes}
use Rattle.ae_vmodule.proofs.StackLaws.{many_starts, top_start, second_start, second_within}
use Rattle.ae_vmodule.proofs.stack.Stack.second_size.Goals as goal

pub overflow_sub-last : goal.overflow_sub-last
overflow_sub-last c =
    let s = c.args.self.now in
    omega (arith, c.len-last.ensures, s.starts.ok, many_starts s.symbols.items s.starts.items s.stack, c.requires.some)

pub index-requires : goal.index-requires
index-requires c =
    let s = c.args.self.now in
    omega (arith, c.len-last.ensures, s.starts.ok, many_starts s.symbols.items s.starts.items s.stack, c.requires.some)

pub overflow_sub-last-2 : goal.overflow_sub-last-2
overflow_sub-last-2 c =
    let s = c.args.self.now in
    omega (arith, c.len-last.ensures, s.starts.ok, many_starts s.symbols.items s.starts.items s.stack, c.requires.some)

pub index-requires-2 : goal.index-requires-2
index-requires-2 c =
    let s = c.args.self.now in
    omega (arith, c.len-last.ensures, s.starts.ok, many_starts s.symbols.items s.starts.items s.stack, c.requires.some)

pub overflow_sub-result : goal.overflow_sub-result
overflow_sub-result c =
    let s = c.args.self.now in
    let many = many_starts s.symbols.items s.starts.items s.stack in
    let at : c.len-last.result - 1 + 1 ≡ length s.starts.items = omega (arith, c.len-last.ensures, s.starts.ok, many, c.requires.some) in
    let next : c.len-last.result - 1 - 1 + 1 ≡ c.len-last.result - 1 = omega (arith, c.len-last.ensures, s.starts.ok, many, c.requires.some) in
    omega (
      arith,
      c.index.ensures,
      c.index-2.ensures,
      second_within s.symbols.items s.starts.items (c.len-last.result - 1)
          (c.len-last.result - 1 - 1) c.index.result.now c.index-2.result.now s.stack c.requires.some at next,
    )

pub returns : goal.returns
returns c b a below is =
    let s = c.args.self.now in
    let many = many_starts s.symbols.items s.starts.items s.stack in
    let at : c.len-last.result - 1 + 1 ≡ length s.starts.items = omega (arith, c.len-last.ensures, s.starts.ok, many, c.requires.some) in
    let next : c.len-last.result - 1 - 1 + 2 ≡ length s.starts.items = omega (arith, c.len-last.ensures, s.starts.ok, many, c.requires.some) in
    let top = top_start s.symbols.items s.starts.items b (a ∷ below) (c.len-last.result - 1) c.index.result.now s.stack is at in
    let second = second_start s.symbols.items s.starts.items b a below (c.len-last.result - 1 - 1) c.index-2.result.now s.stack is next in
    omega (arith, c.index.ensures, c.index-2.ensures, top.0, second, length-append (codes below) (coded_piece a))
