use Rattle.std.proofs.Common.{◌≡◌, ◌+◌, ◌-◌, length, ap, arith, length-append}
use Rattle.ae_vmodule.specs.Postfix.{coded_piece}
use Rattle.ae_vmodule.specs.Stacks.{codes}
use Rattle.ae_vmodule.proofs.StackLaws.{many_starts, top_start, top_within}
use Rattle.ae_vmodule.proofs.stack.Stack.top_size.Goals as goal

pub overflow_sub-len : goal.overflow_sub-len
overflow_sub-len c =
    let s = c.args.self.now in
    omega (arith, c.len-2.ensures, s.starts.ok, many_starts s.symbols.items s.starts.items s.stack, c.requires.some)

pub index-requires : goal.index-requires
index-requires c =
    let s = c.args.self.now in
    omega (arith, c.len-2.ensures, s.starts.ok, many_starts s.symbols.items s.starts.items s.stack, c.requires.some)

pub overflow_sub-result : goal.overflow_sub-result
overflow_sub-result c =
    let s = c.args.self.now in
    let at : c.len-2.result - 1 + 1 ≡ length s.starts.items = omega (
      arith,
      c.len-2.ensures,
      s.starts.ok,
      many_starts s.symbols.items s.starts.items s.stack,
      c.requires.some,
    ) in
    omega (
      arith,
      c.index.ensures,
      c.len.ensures,
      s.symbols.ok,
      top_within s.symbols.items s.starts.items (c.len-2.result - 1) c.index.result.now s.stack c.requires.some at,
    )

pub returns : goal.returns
returns c a below is =
    let s = c.args.self.now in
    let at : c.len-2.result - 1 + 1 ≡ length s.starts.items = omega (
      arith,
      c.len-2.ensures,
      s.starts.ok,
      many_starts s.symbols.items s.starts.items s.stack,
      c.requires.some,
    ) in
    let top = top_start s.symbols.items s.starts.items a below (c.len-2.result - 1) c.index.result.now s.stack is at in
    omega (arith, c.index.ensures, c.len.ensures, s.symbols.ok, top.0, ap length top.1, length-append (codes below) (coded_piece a))
