-- One ring more, and what the next one takes.
use Rattle.std.proofs.Common.{ℕ, ◌≡◌, ◌+◌, ◌-◌, ◌*◌, ◌/◌, min, ◌++◌, ◌∷◌, [], nat_lt, arith, refl, ap, ◌∙◌}
use Rattle.std.proofs.lemmas.List.{length_push}
use Rattle.ae_clocked.specs.Delays.{IsTap}
use Rattle.ae_clocked.specs.Phases.{made_of}
use Rattle.ae_gates.proofs.Adding.{adds_none}
use Rattle.ae_clocked.proofs.Belonging.{belongs_grows, keeps_same}
use Rattle.ae_clocked.specs.Rings.{HoldsRing}
use Rattle.ae_clocked.proofs.Making.{memories_before, memories_most, memories_of, memories_trans, tap_grows}
use Rattle.ae_clocked.proofs.InRow.{gained_by, head_kept, keeps_trans, links_grow, links_more, links_none, next_head, tap_none}
use Rattle.ae_clocked.proofs.row.make_row.Goals as goal

pub loop-j-init : goal.loop-j-init
loop-j-init c = record {
  belongs = c.requires.belongs;
  keeps = keeps_same _;
  adds = memories_of (adds_none _);
  registers = omega arith;
  tests = omega arith;
  gained = omega arith;
  far = λ some. absurd (omega arith);
  long = rw c.new-links.ensures.items refl;
  links = rw c.new-links.ensures.items (links_none _ _ _ _ _);
  head = tap_none _ _ _ _ c.requires.net;
}

pub ring_tap-requires-clause-some : goal.ring_tap-requires-clause-some
ring_tap-requires-clause-some c = omega (arith, c.in_ok-ring.ensures.ring.low)

pub ring_tap-requires-clause-few : goal.ring_tap-requires-clause-few
ring_tap-requires-clause-few c = c.in_ok-ring.ensures.ring.high

pub ring_tap-requires-clause-memory : goal.ring_tap-requires-clause-memory
ring_tap-requires-clause-memory c = c.in_ok-ring.ensures.ring.memory

pub ring_tap-requires-clause-counter : goal.ring_tap-requires-clause-counter
ring_tap-requires-clause-counter c = c.in_ok-ring.ensures.ring.counter

pub loop-j-preserved : goal.loop-j-preserved
loop-j-preserved c =
    let was = c.loop-j.invariant in
    let more = c.in_ok-ring.ensures in
    let next = c.in_ok-head.ensures in
    let rst : ℕ = c.args.clocks.now.rst in
    let holds : HoldsRing c.make_ring.new.nl.cells rst c.args.width c.loop-j.head.0 4096 c.in_ok-ring.ring = rw was.keeps.rst at more.ring in
    let tap : IsTap c.make_ring.new.nl.cells rst c.args.width c.args.x.0 (4096 * c.loop-j.j) c.loop-j.head.0 = tap_grows more.adds.grows.extends was.head in
    let full : 4096 ≡ min 4096 (c.args.reach - 4096 * c.loop-j.j) = omega arith in
    let sum : 4096 * c.loop-j.j + 4096 ≡ 4096 * (c.loop-j.j + 1) = omega arith in
    let pushed : c.push.new.self.items ≡ c.loop-j.links.items ++ (record { head = c.loop-j.head; ring = c.in_ok-ring.ring })
    ∷ [] = c.in_ok-push.ensures.items in
    record {
      belongs = belongs_grows _ _ _ next.adds.grows more.belongs;
      keeps = keeps_trans was.keeps more.keeps;
      adds = memories_most (18 * (c.loop-j.j + 1)) (c.loop-j.j + 1) (omega arith) (omega arith) (memories_before (memories_trans was.adds more.adds) next.adds);
      registers = head_kept _ _ _ _ c.loop-j.j c.args.spare (nat_lt c.loop-j.j c.args.spare) _ _ _ refl was.registers more.registers next.registers;
      tests = omega (arith, was.tests, more.tests, next.tests);
      gained = gained_by c.loop-j.j _ _ _ was.gained more.gained (λ some.
          (let found = was.far some in
          let same : c.make_ring.new.clocks ≡ c.loop-j.clocks = more.again found.0 (omega arith) found.1 in
          let count : made_of c.make_ring.new.clocks ≡ made_of c.loop-j.clocks = ap made_of same in
          omega arith));
      far = λ some. (c.in_ok-ring.ring.counter, more.far (omega arith));
      long = rw pushed (length_push c.loop-j.links.items _ ∙ ap (λ n. n + 1) was.long);
      links = rw pushed (links_grow next.adds.grows.extends
          (links_more _ _ _ _ _ _ 4096 c.loop-j.j _ _ more.adds.grows.extends was.long was.links tap full holds));
      head = next_head _ _ _ _ _ c.loop-j.j _ _ _ next.adds.grows.extends tap (next.tap rst c.loop-j.head.0 holds.ring) sum;
    }

pub returns-clause-links : goal.returns-clause-links
returns-clause-links c =
    let was = c.loop-j.invariant in
    let more = c.in_ok-ring-2.ensures in
    let rst : ℕ = c.args.clocks.now.rst in
    let holds : HoldsRing c.make_ring-2.new.nl.cells rst c.args.width c.loop-j.head.0
    (c.args.reach - 4096 * ((c.args.reach - 1) / 4096)) c.in_ok-ring-2.ring = rw was.keeps.rst at more.ring in
    let tap : IsTap c.make_ring-2.new.nl.cells rst c.args.width c.args.x.0 (4096 * c.loop-j.j) c.loop-j.head.0 = tap_grows more.adds.grows.extends was.head in
    let left : c.args.reach - 4096 * ((c.args.reach - 1) / 4096) ≡ min 4096 (c.args.reach - 4096 * c.loop-j.j) = omega arith in
    let pushed : c.push-2.new.self.items ≡ c.loop-j.links.items ++
    (record { head = c.loop-j.head; ring = c.in_ok-ring-2.ring }) ∷ [] = c.in_ok-push-2.ensures.items in
    rw pushed (links_more _ _ _ _ _ _ _ c.loop-j.j _ _ more.adds.grows.extends was.long was.links tap left holds)

pub returns-clause-belongs : goal.returns-clause-belongs
returns-clause-belongs c = c.in_ok-ring-2.ensures.belongs

pub returns-clause-keeps : goal.returns-clause-keeps
returns-clause-keeps c = keeps_trans c.loop-j.invariant.keeps c.in_ok-ring-2.ensures.keeps

pub returns-clause-adds : goal.returns-clause-adds
returns-clause-adds c = memories_most _ _ (omega arith) (omega arith) (memories_trans c.loop-j.invariant.adds c.in_ok-ring-2.ensures.adds)

pub returns-clause-registers : goal.returns-clause-registers
returns-clause-registers c = omega (arith, c.loop-j.invariant.registers, c.in_ok-ring-2.ensures.registers)

pub returns-clause-tests : goal.returns-clause-tests
returns-clause-tests c = omega (arith, c.loop-j.invariant.tests, c.in_ok-ring-2.ensures.tests)

pub returns-clause-gained : goal.returns-clause-gained
returns-clause-gained c = omega (arith, c.loop-j.invariant.gained, c.in_ok-ring-2.ensures.gained)

pub returns-clause-long : goal.returns-clause-long
returns-clause-long c =
    let pushed : c.push-2.new.self.items ≡ c.loop-j.links.items ++
    (record { head = c.loop-j.head; ring = c.in_ok-ring-2.ring }) ∷ [] = c.in_ok-push-2.ensures.items in
    rw pushed (length_push c.loop-j.links.items _ ∙ omega (arith, c.loop-j.invariant.long))

pub make_ring-requires-clause-room : goal.make_ring-requires-clause-room
make_ring-requires-clause-room c = omega (arith, c.requires.room, c.loop-j.invariant.adds.cells, c.loop-j.invariant.adds.grows.limit)

pub ring_tap-requires-clause-room : goal.ring_tap-requires-clause-room
ring_tap-requires-clause-room c =
    omega (
      arith,
      c.requires.room,
      c.loop-j.invariant.adds.cells,
      c.loop-j.invariant.adds.grows.limit,
      c.in_ok-ring.ensures.adds.cells,
      c.in_ok-ring.ensures.adds.grows.limit,
    )

pub make_ring-requires-2-clause-room : goal.make_ring-requires-2-clause-room
make_ring-requires-2-clause-room c = omega (arith, c.requires.room, c.loop-j.invariant.adds.cells, c.loop-j.invariant.adds.grows.limit)
