-- All cells of the control, one call after another.
use Rattle.std.proofs.Common.{ℕ, ◌≡◌, ◌+◌, length, subst, ap, sym, arith}
use Rattle.ae_netlist.specs.Circuit.{Circuit}
use Rattle.ae_netlist.proofs.Growing.{net_later}
use Rattle.ae_control.specs.Controls.{HasAny, HasBegun}
use Rattle.ae_control.proofs.Cells.{longer_length}
use Rattle.ae_control.proofs.Standing.{all_longer, can_connect, control_nets, controls, gate_net, gates_long, longer3, own_at, wires_later}
use Rattle.ae_control.proofs.driver.control.Goals as goal

-- they stand behind the registers
any_bits : (old begun grown : Circuit) (blocks wait base busy : ℕ) → base ≡ length old.cells → HasBegun old begun blocks
    → HasAny grown.cells (base + 5) wait base (base + 1) (length begun.cells) busy → HasAny grown.cells (base + 5) wait base (base + 1) (base + blocks + 6) busy
any_bits old begun grown blocks wait base busy is begin h =
    (let e : length begun.cells ≡ base + blocks + 6 = omega (arith, begin.long, is) in
    subst (λ n. HasAny grown.cells (base + 5) wait base (base + 1) n busy) e h)

pub any_of-requires-clause-bits : goal.any_of-requires-clause-bits
any_of-requires-clause-bits c =
    λ k l. own_at c.args.nl.now c.begin.new.nl c.args.blocks c.in_ok-begin.ensures _ (5 + k) (omega (arith, c.len-base.ensures))
    (omega (arith, c.requires.waits))

pub any_of-requires-clause-low : goal.any_of-requires-clause-low
any_of-requires-clause-low c =
    own_at c.args.nl.now c.begin.new.nl c.args.blocks c.in_ok-begin.ensures _ 0 (omega (arith, c.len-base.ensures)) (omega arith)

pub any_of-requires-clause-high : goal.any_of-requires-clause-high
any_of-requires-clause-high c =
    own_at c.args.nl.now c.begin.new.nl c.args.blocks c.in_ok-begin.ensures _ 1 (omega (arith, c.len-base.ensures)) (omega arith)

pub gates-requires-clause-many : goal.gates-requires-clause-many
gates-requires-clause-many c =
    omega (arith, c.formed-2.ensures.limit, c.in_ok-busy.ensures.longer.limit, c.in_ok-begin.ensures.longer.limit, c.len-g.ensures, c.requires.many)

pub gates-requires-clause-blocks : goal.gates-requires-clause-blocks
gates-requires-clause-blocks c = omega (arith, c.in_ok-begin.ensures.long, longer_length c.in_ok-busy.ensures.longer, c.len-base.ensures, c.len-g.ensures)

pub gates-requires-clause-bits : goal.gates-requires-clause-bits
gates-requires-clause-bits c =
    let first = c.in_ok-begin.ensures.longer.extends in
    let second = c.in_ok-busy.ensures.longer.extends in
    record {
      wires = wires_later c.begin.new.nl.cells c.any_of.new.nl.cells c.args.w second
          (wires_later c.args.nl.now.cells c.begin.new.nl.cells c.args.w first c.requires.nets);
      own = λ k l. net_later second (own_at c.args.nl.now c.begin.new.nl c.args.blocks c.in_ok-begin.ensures _ k (omega (arith, c.len-base.ensures)) l);
      any = c.in_ok-busy.ensures.net;
    }

pub flag_gates-requires-clause-many : goal.flag_gates-requires-clause-many
flag_gates-requires-clause-many c =
    omega (arith, c.formed-2.ensures.limit, c.in_ok-busy.ensures.longer.limit, c.in_ok-begin.ensures.longer.limit, c.len-g.ensures, c.requires.many)

pub flag_gates-requires-clause-blocks : goal.flag_gates-requires-clause-blocks
flag_gates-requires-clause-blocks c =
    omega (arith, c.in_ok-begin.ensures.long, longer_length c.in_ok-busy.ensures.longer, c.len-base.ensures, c.len-g.ensures)

pub flag_gates-requires-clause-here : goal.flag_gates-requires-clause-here
flag_gates-requires-clause-here c =
    sym (gates_long c.args.nl.now c.begin.new.nl c.any_of.new.nl c.gates.new.nl c.gates.new.nl c.args.w
    (record { base = c.len-base.result; blocks = c.args.blocks; gates = c.len-g.result }) c.in_ok-busy.busy c.in_ok-begin.ensures
    c.in_ok-busy.ensures.longer c.len-base.ensures c.len-g.ensures
    (omega (arith, c.in_ok-begin.ensures.long, longer_length c.in_ok-busy.ensures.longer, c.len-base.ensures, c.len-g.ensures))
    c.in_ok-gates.ensures)

pub flag_gates-requires-clause-reset : goal.flag_gates-requires-clause-reset
flag_gates-requires-clause-reset c =
    net_later (longer3 c.args.nl.now c.begin.new.nl c.any_of.new.nl c.gates.new.nl c.gates.new.nl c.args.w
    (record { base = c.len-base.result; blocks = c.args.blocks; gates = c.len-g.result }) c.in_ok-busy.busy c.in_ok-begin.ensures
    c.in_ok-busy.ensures.longer c.len-base.ensures c.len-g.ensures
    (omega (arith, c.in_ok-begin.ensures.long, longer_length c.in_ok-busy.ensures.longer, c.len-base.ensures, c.len-g.ensures))
    c.in_ok-gates.ensures).extends
    (net_later c.in_ok-busy.ensures.longer.extends (net_later c.in_ok-begin.ensures.longer.extends c.requires.nets.reset))

pub flag_gates-requires-clause-own : goal.flag_gates-requires-clause-own
flag_gates-requires-clause-own c = λ k l.
    net_later (longer3 c.args.nl.now c.begin.new.nl c.any_of.new.nl c.gates.new.nl c.gates.new.nl c.args.w
    (record { base = c.len-base.result; blocks = c.args.blocks; gates = c.len-g.result }) c.in_ok-busy.busy c.in_ok-begin.ensures
    c.in_ok-busy.ensures.longer c.len-base.ensures c.len-g.ensures
    (omega (arith, c.in_ok-begin.ensures.long, longer_length c.in_ok-busy.ensures.longer, c.len-base.ensures, c.len-g.ensures))
    c.in_ok-gates.ensures).extends
    (net_later c.in_ok-busy.ensures.longer.extends (own_at c.args.nl.now c.begin.new.nl c.args.blocks c.in_ok-begin.ensures _ k
    (omega (arith, c.len-base.ensures)) l))

pub flag_gates-requires-clause-gates : goal.flag_gates-requires-clause-gates
flag_gates-requires-clause-gates c =
    λ k l. gate_net c.args.nl.now c.begin.new.nl c.any_of.new.nl c.gates.new.nl c.gates.new.nl c.args.w
    (record { base = c.len-base.result; blocks = c.args.blocks; gates = c.len-g.result }) c.in_ok-busy.busy c.in_ok-begin.ensures
    c.in_ok-busy.ensures.longer c.len-base.ensures c.len-g.ensures
    (omega (arith, c.in_ok-begin.ensures.long, longer_length c.in_ok-busy.ensures.longer, c.len-base.ensures, c.len-g.ensures))
    c.in_ok-gates.ensures k l

pub connect_all-requires : goal.connect_all-requires
connect_all-requires c =
    record {
      can = can_connect c.args.nl.now c.begin.new.nl c.any_of.new.nl c.gates.new.nl c.flag_gates.new.nl c.args.w
          (record { base = c.len-base.result; blocks = c.args.blocks; gates = c.len-g.result }) c.in_ok-busy.busy c.in_ok-begin.ensures
          c.in_ok-busy.ensures.longer c.len-base.ensures c.len-g.ensures
          (omega (arith, c.in_ok-begin.ensures.long, longer_length c.in_ok-busy.ensures.longer, c.len-base.ensures, c.len-g.ensures))
          c.in_ok-gates.ensures c.in_ok-flag_gates.ensures;
    }

pub returns-clause-few : goal.returns-clause-few
returns-clause-few c =
    let long = gates_long c.args.nl.now c.begin.new.nl c.any_of.new.nl c.gates.new.nl c.gates.new.nl c.args.w
    (record { base = c.len-base.result; blocks = c.args.blocks; gates = c.len-g.result }) c.in_ok-busy.busy c.in_ok-begin.ensures
    c.in_ok-busy.ensures.longer c.len-base.ensures c.len-g.ensures
    (omega (arith, c.in_ok-begin.ensures.long, longer_length c.in_ok-busy.ensures.longer, c.len-base.ensures, c.len-g.ensures))
    c.in_ok-gates.ensures in
    omega (
      arith,
      c.connect_all.ensures.long,
      c.in_ok-flag_gates.ensures.long,
      long,
      c.len-g.ensures,
      c.in_ok-busy.ensures.long,
      c.in_ok-begin.ensures.long,
      c.requires.waits,
    )

pub returns-clause-longer : goal.returns-clause-longer
returns-clause-longer c =
    all_longer c.args.nl.now c.begin.new.nl c.any_of.new.nl c.gates.new.nl c.flag_gates.new.nl c.args.w
    (record { base = c.len-base.result; blocks = c.args.blocks; gates = c.len-g.result }) c.in_ok-busy.busy c.in_ok-begin.ensures
    c.in_ok-busy.ensures.longer c.len-base.ensures c.len-g.ensures
    (omega (arith, c.in_ok-begin.ensures.long, longer_length c.in_ok-busy.ensures.longer, c.len-base.ensures, c.len-g.ensures))
    c.in_ok-gates.ensures c.in_ok-flag_gates.ensures c.connect_all.new.nl c.connect_all.ensures

pub returns-clause-control : goal.returns-clause-control
returns-clause-control c =
    controls c.args.nl.now c.begin.new.nl c.any_of.new.nl c.gates.new.nl c.flag_gates.new.nl c.args.w
    (record { base = c.len-base.result; blocks = c.args.blocks; gates = c.len-g.result }) c.in_ok-busy.busy c.in_ok-begin.ensures
    c.in_ok-busy.ensures.longer c.len-base.ensures c.len-g.ensures
    (omega (arith, c.in_ok-begin.ensures.long, longer_length c.in_ok-busy.ensures.longer, c.len-base.ensures, c.len-g.ensures))
    c.in_ok-gates.ensures c.in_ok-flag_gates.ensures c.connect_all.new.nl c.connect_all.ensures
    c.args.wait (any_bits c.args.nl.now c.begin.new.nl c.any_of.new.nl c.args.blocks c.args.wait c.len-base.result c.in_ok-busy.busy.0 c.len-base.ensures
    c.in_ok-begin.ensures c.in_ok-busy.ensures.any)

pub returns-clause-nets : goal.returns-clause-nets
returns-clause-nets c =
    control_nets c.args.nl.now c.begin.new.nl c.any_of.new.nl c.gates.new.nl c.flag_gates.new.nl c.args.w
    (record { base = c.len-base.result; blocks = c.args.blocks; gates = c.len-g.result }) c.in_ok-busy.busy c.in_ok-begin.ensures
    c.in_ok-busy.ensures.longer c.len-base.ensures c.len-g.ensures
    (omega (arith, c.in_ok-begin.ensures.long, longer_length c.in_ok-busy.ensures.longer, c.len-base.ensures, c.len-g.ensures))
    c.in_ok-gates.ensures c.in_ok-flag_gates.ensures c.connect_all.new.nl c.connect_all.ensures

pub any_of-requires-clause-room : goal.any_of-requires-clause-room
any_of-requires-clause-room c =
    omega (arith, c.requires.room, c.in_ok-begin.ensures.longer.limit, c.in_ok-begin.ensures.long, c.requires.waits)

pub gates-requires-clause-room : goal.gates-requires-clause-room
gates-requires-clause-room c = omega (
  arith,
  c.requires.room,
  c.in_ok-busy.ensures.longer.limit,
  c.in_ok-busy.ensures.long,
  c.in_ok-begin.ensures.longer.limit,
  c.in_ok-begin.ensures.long,
  c.requires.waits,
)

pub flag_gates-requires-clause-room : goal.flag_gates-requires-clause-room
flag_gates-requires-clause-room c =
    let long = gates_long c.args.nl.now c.begin.new.nl c.any_of.new.nl c.gates.new.nl c.gates.new.nl c.args.w
    (record { base = c.len-base.result; blocks = c.args.blocks; gates = c.len-g.result }) c.in_ok-busy.busy c.in_ok-begin.ensures
    c.in_ok-busy.ensures.longer c.len-base.ensures c.len-g.ensures
    (omega (arith, c.in_ok-begin.ensures.long, longer_length c.in_ok-busy.ensures.longer, c.len-base.ensures, c.len-g.ensures))
    c.in_ok-gates.ensures in
    let limit : c.gates.new.nl.limit ≡ c.any_of.new.nl.limit = ap (λ (v : Circuit). v.limit) c.in_ok-gates.ensures in
    omega (
      arith,
      c.requires.room,
      limit,
      long,
      c.len-g.ensures,
      c.in_ok-busy.ensures.longer.limit,
      c.in_ok-busy.ensures.long,
      c.in_ok-begin.ensures.longer.limit,
      c.in_ok-begin.ensures.long,
      c.requires.waits,
    )
