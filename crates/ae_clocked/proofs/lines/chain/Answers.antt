-- One more register is one clock later.
use Rattle.std.proofs.Common.{◌≡◌, ◌+◌, ◌∙◌, ap, arith, ◌++◌, ◌∷◌, [], List, refl}
use Rattle.std.proofs.lemmas.List.{length_push}
use Rattle.ae_clocked.specs.Delays.{IsDelay}
use Rattle.ae_gates.proofs.Adding.{adds_trans, adds_most, adds_none}
use Rattle.ae_clocked.proofs.Late.{delay_more, delays_more, delay_none, delays_first}
use Rattle.ae_netlist.specs.declared.cell.NetId.{NetId}
use Rattle.ae_clocked.proofs.lines.chain.Goals as goal

pub loop-i-preserved : goal.loop-i-preserved
loop-i-preserved c =
    let old = c.loop-i.invariant in
    let more = c.in_ok-last.ensures in
    let pushed : c.push-in-loop-i.new.self.items ≡ c.loop-i.nets.items ++ c.in_ok-last.last ∷ [] = c.in_ok-push-2.ensures.items in
    let last : IsDelay c.delayed.new.nl.cells c.args.width c.args.x.0 (c.loop-i.i + 1) c.in_ok-last.last.0 =
    delay_more _ _ _ _ _ _ _ _ more.adds.grows.extends old.last more.net more.words in
    record {
      adds = adds_trans old.adds more.adds;
      delays = rw pushed (delays_more _ _ _ _ _ _ more.adds.grows.extends old.delays (rw old.long last));
      long = rw pushed (length_push c.loop-i.nets.items c.in_ok-last.last ∙ ap (λ n. n + 1) old.long);
      last = last;
      registers = omega (arith, old.registers, more.registers);
      tests = omega (arith, old.tests, more.tests);
    }

pub loop-i-init : goal.loop-i-init
loop-i-init c =
    let pushed : c.push.new.self.items ≡ c.args.x ∷ [] = c.in_ok-push.ensures.items ∙
    ap (λ (nets : List NetId). nets ++ c.args.x ∷ []) c.new-nets.ensures.items in
    record {
      adds = adds_none _;
      delays = rw pushed (delays_first _ _ _ c.requires.net);
      long = rw pushed refl;
      last = delay_none _ _ _ c.requires.net;
      registers = omega arith;
      tests = omega arith;
    }

pub delayed-requires-clause-net : goal.delayed-requires-clause-net
delayed-requires-clause-net c = c.loop-i.invariant.last.net

pub returns-clause-adds : goal.returns-clause-adds
returns-clause-adds c = adds_most c.args.count (omega arith) c.loop-i.invariant.adds

pub returns-clause-registers : goal.returns-clause-registers
returns-clause-registers c = omega (arith, c.loop-i.invariant.registers)

pub returns-clause-tests : goal.returns-clause-tests
returns-clause-tests c = c.loop-i.invariant.tests

pub returns-clause-delays : goal.returns-clause-delays
returns-clause-delays c = c.loop-i.invariant.delays

pub returns-clause-long : goal.returns-clause-long
returns-clause-long c = omega (arith, c.loop-i.invariant.long)

pub delayed-requires-clause-room : goal.delayed-requires-clause-room
delayed-requires-clause-room c = omega (arith, c.requires.room, c.loop-i.invariant.adds.cells, c.loop-i.invariant.adds.grows.limit)
