-- The stage's circuit, by what it stands on.
use Rattle.std.proofs.Common.{arith}
use Rattle.ae_fold.proofs.Building.{build_folds, build_long, build_memories, build_nets, build_of, build_whole}
use Rattle.ae_scan.proofs.Building.{build_bundle, build_cells, build_law, build_products}
use Rattle.ae_scan.proofs.stage.ScanStage.build.Goals as goal

pub scanned-requires-clause-folds : goal.scanned-requires-clause-folds
scanned-requires-clause-folds c =
    build_folds _ _ _ _ _ _
    (build_of _ _ _ _ _ c.args.ins.now _ _ c.self.invariant c.deref.ensures.value c.in_ok-folds.ensures c.plan-plan.ensures.plan
    c.plan-plan.ensures.numbers (rw (← c.self.view_is) at c.requires.bundles) c.index-ins-0.is c.nets-nets.ensures)

pub scanned-requires-clause-nets : goal.scanned-requires-clause-nets
scanned-requires-clause-nets c =
    build_nets _ _ _ _ _ _
    (build_of _ _ _ _ _ c.args.ins.now _ _ c.self.invariant c.deref.ensures.value c.in_ok-folds.ensures c.plan-plan.ensures.plan
    c.plan-plan.ensures.numbers (rw (← c.self.view_is) at c.requires.bundles) c.index-ins-0.is c.nets-nets.ensures)

pub scanned-requires-clause-long : goal.scanned-requires-clause-long
scanned-requires-clause-long c =
    build_long _ _ _ _ _ _
    (build_of _ _ _ _ _ c.args.ins.now _ _ c.self.invariant c.deref.ensures.value c.in_ok-folds.ensures c.plan-plan.ensures.plan
    c.plan-plan.ensures.numbers (rw (← c.self.view_is) at c.requires.bundles) c.index-ins-0.is c.nets-nets.ensures)

pub scanned-requires-clause-whole : goal.scanned-requires-clause-whole
scanned-requires-clause-whole c =
    build_whole _ _ _ _ _ _
    (build_of _ _ _ _ _ c.args.ins.now _ _ c.self.invariant c.deref.ensures.value c.in_ok-folds.ensures c.plan-plan.ensures.plan
    c.plan-plan.ensures.numbers (rw (← c.self.view_is) at c.requires.bundles) c.index-ins-0.is c.nets-nets.ensures)

pub returns-clause-cells : goal.returns-clause-cells
returns-clause-cells c =
    let room = build_cells _ _ _ _ _ _
    (build_of _ _ _ _ _ c.args.ins.now _ _ c.self.invariant c.deref.ensures.value c.in_ok-folds.ensures c.plan-plan.ensures.plan
    c.plan-plan.ensures.numbers (rw (← c.self.view_is) at c.requires.bundles) c.index-ins-0.is c.nets-nets.ensures) in
    rw (← c.self.view_is) (omega (arith, c.in_ok-outs.ensures.adds.cells, room))

pub scanned-requires-clause-room : goal.scanned-requires-clause-room
scanned-requires-clause-room c =
    let room = build_cells _ _ _ _ _ _
    (build_of _ _ _ _ _ c.args.ins.now _ _ c.self.invariant c.deref.ensures.value c.in_ok-folds.ensures c.plan-plan.ensures.plan
    c.plan-plan.ensures.numbers (rw (← c.self.view_is) at c.requires.bundles) c.index-ins-0.is c.nets-nets.ensures) in
    let all = rw (← c.self.view_is) at c.requires.room in
    omega (arith, all, room)

pub returns-clause-muls : goal.returns-clause-muls
returns-clause-muls c =
    let e = build_products _ _ _ _ _ _
    (build_of _ _ _ _ _ c.args.ins.now _ _ c.self.invariant c.deref.ensures.value c.in_ok-folds.ensures c.plan-plan.ensures.plan
    c.plan-plan.ensures.numbers (rw (← c.self.view_is) at c.requires.bundles) c.index-ins-0.is c.nets-nets.ensures)
    in
    rw (← c.self.view_is) (omega (arith, c.in_ok-outs.ensures.adds.muls, e))

pub returns-clause-bundle : goal.returns-clause-bundle
returns-clause-bundle c =
    rw (← c.self.view_is)
    (build_bundle _ _ _ _ _ _ _ _ _ _ _
    (build_of _ _ _ _ _ c.args.ins.now _ _ c.self.invariant c.deref.ensures.value c.in_ok-folds.ensures c.plan-plan.ensures.plan
    c.plan-plan.ensures.numbers (rw (← c.self.view_is) at c.requires.bundles) c.index-ins-0.is c.nets-nets.ensures)
    c.new.ensures c.in_ok-outs.ensures.long c.in_ok-outs.ensures.scans)

pub returns-clause-law : goal.returns-clause-law
returns-clause-law c =
    rw (← c.self.view_is)
    (build_law _ _ _ _ _ _ _ _ _ _ _
    (build_of _ _ _ _ _ c.args.ins.now _ _ c.self.invariant c.deref.ensures.value c.in_ok-folds.ensures c.plan-plan.ensures.plan
    c.plan-plan.ensures.numbers (rw (← c.self.view_is) at c.requires.bundles) c.index-ins-0.is c.nets-nets.ensures)
    c.new.ensures c.in_ok-outs.ensures.long c.in_ok-outs.ensures.scans)

pub scanned-requires-clause-plan : goal.scanned-requires-clause-plan
scanned-requires-clause-plan c = c.plan-plan.ensures.plan

pub scanned-requires-clause-belongs : goal.scanned-requires-clause-belongs
scanned-requires-clause-belongs c = c.requires.belongs

pub returns-clause-belongs : goal.returns-clause-belongs
returns-clause-belongs c = c.in_ok-outs.ensures.belongs

pub returns-clause-keeps : goal.returns-clause-keeps
returns-clause-keeps c = c.in_ok-outs.ensures.keeps

pub returns-clause-grows : goal.returns-clause-grows
returns-clause-grows c = c.in_ok-outs.ensures.adds.grows

pub returns-clause-memories : goal.returns-clause-memories
returns-clause-memories c =
    let e = build_memories _ _ _ _ _ _
    (build_of _ _ _ _ _ c.args.ins.now _ _ c.self.invariant c.deref.ensures.value c.in_ok-folds.ensures c.plan-plan.ensures.plan
    c.plan-plan.ensures.numbers (rw (← c.self.view_is) at c.requires.bundles) c.index-ins-0.is c.nets-nets.ensures)
    in
    rw (← c.self.view_is) (omega (arith, c.in_ok-outs.ensures.adds.memories, e))

pub returns-clause-whole : goal.returns-clause-whole
returns-clause-whole c = c.in_ok-outs.ensures.adds.whole
