use Rattle.std.proofs.Common.{◌≡◌, ◌+◌, ◌*◌, rules, sym, ap, subst, arith}
use Rattle.ae_vmodule.specs.ModuleTree.{block_more, either, when}
use Rattle.ae_vmodule.specs.Numbered as n
use Rattle.ae_vmodule.specs.Numbered.{NumberedStmt, parts_in_stmt}
use Rattle.ae_vmodule.specs.Roots.{numbered, numbered_stmt}
use Rattle.ae_vmodule.specs.View.{expr_tree, stmt_tree}
use Rattle.ae_judge.specs.Names.{stmt_targets}
use Rattle.ae_judge.specs.Weight.{stmt_weight}
use Rattle.ae_netlist.specs.Room.{HasRoom}
use Rattle.ae_assign.specs.Edges.{IsSoundStmt, IsReadyStmt, AreFresh, IsActed}
use Rattle.ae_gates.proofs.Words.{grows_trans, net_grows}
use Rattle.ae_order.proofs.Answered.{on_ok_map}
use Rattle.ae_express.proofs.NetLaws.{nets_grow}
use Rattle.ae_assign.proofs.EdgeLaws.{guard_net_grows}
use Rattle.ae_assign.proofs.EdgeFits.{nexts_grow, fresh_left, fresh_right, weight_more}
use Rattle.ae_assign.proofs.EdgeBlocks.{IsActing, acting_first, acting_last, acting_step, next_fresh}
use Rattle.ae_assign.proofs.Acted.{acted, none_acted, when_acted, either_acted}
use Rattle.ae_assign.proofs.statements.+acting.Goals as goal

-- one assignment
pub act-returns-in-Set : goal.act-returns-in-Set
act-returns-in-Set t c =
    let is : numbered_stmt c.args.stmt ≡ n.set c.in-Set.name (numbered c.in-Set.value) = sym c.in-Set.ensures in
    rw is
    (acted c.args.from c.args.names.now.nets c.args.nets.now c.args.guard c.assign.result c.args.nl.now c.assign.new.nl c.args.nexts.now
    c.assign.new.nexts _
    c.assign.ensures.adds c.assign.ensures.nexts c.assign.ensures.others c.assign.ensures.acts)

pub act-returns-in-Put : goal.act-returns-in-Put
act-returns-in-Put t c =
    let k = c.in-Put in
    let is : numbered_stmt c.args.stmt ≡ n.put k.name (numbered k.at) (numbered k.value) = sym k.ensures in
    rw is
    (acted c.args.from c.args.names.now.nets c.args.nets.now c.args.guard c.write.result c.args.nl.now c.write.new.nl c.args.nexts.now
    c.write.new.nexts _
    c.write.ensures.adds c.write.ensures.nexts c.write.ensures.others c.write.ensures.acts)

pub act-returns-in-End : goal.act-returns-in-End
act-returns-in-End t c =
    let is : numbered_stmt c.args.stmt ≡ n.block_end = sym c.in-End.ensures in
    rw is (none_acted c.args.from c.args.names.now.nets c.args.nets.now c.args.guard c.args.nl.now c.args.nexts.now c.requires.nexts)

-- a branch
pub act-act-requires : goal.act-act-requires
act-act-requires t c =
    let ns = c.args.names.now.nets in
    let ws = c.args.names.now.words in
    let k = c.in-When in
    let is : numbered_stmt c.args.stmt ≡ n.when (numbered k.test) (numbered_stmt k.then) = sym k.ensures in
    let s = stmt_tree ws (numbered_stmt k.then) in
    let e : stmt_tree ws (numbered_stmt c.args.stmt) ≡ when (expr_tree ws (numbered k.test)) s = ap (stmt_tree ws) is in
    let sound = subst (IsSoundStmt ns) e c.requires.sound in
    let ready = subst (IsReadyStmt ns c.args.nets.now) e c.requires.ready in
    let fresh = subst (λ u. AreFresh ns c.args.nexts.now (stmt_targets u)) e c.requires.fresh in
    let weight = ap (stmt_weight 0) e in
    let heavier = weight_more 0 s in
    let had = c.requires.room in
    let few = c.in_ok-zero-in-When.ensures.adds.few in
    let few_more = c.in_ok-first-in-When.ensures.adds.few in
    let limit = c.in_ok-zero-in-When.ensures.adds.grows.grows.limit in
    let limit_more = c.in_ok-first-in-When.ensures.adds.grows.grows.limit in
    let room : HasRoom c.unless.new.nl (8 * stmt_weight 0 s) = omega arith in
    let g = grows_trans c.in_ok-zero-in-When.ensures.adds.grows c.in_ok-first-in-When.ensures.adds.grows in
    search (
      rules,
      sound.1,
      ready.1,
      fresh,
      room,
      nets_grow g c.requires.nets,
      nexts_grow g c.requires.nexts,
      c.in_ok-first-in-When.ensures.net,
    )

pub act-returns-in_ok-first-in-When : goal.act-returns-in_ok-first-in-When
act-returns-in_ok-first-in-When t c =
    let ns = c.args.names.now.nets in
    let ws = c.args.names.now.words in
    let k = c.in-When in
    let is : numbered_stmt c.args.stmt ≡ n.when (numbered k.test) (numbered_stmt k.then) = sym k.ensures in
    on_ok_map c.act.result
    (λ h.
    subst (λ (u : NumberedStmt). IsActed c.args.from ns c.args.nets.now c.args.guard c.args.nl.now c.act.new.nl c.args.nexts.now c.act.new.nexts
    (stmt_tree ws u)) (sym is)
    (when_acted c.args.from ns c.args.nets.now c.args.guard c.args.nl.now c.fails.new.nl c.unless.new.nl c.act.new.nl c.args.nexts.now
    c.act.new.nexts
    (expr_tree ws (numbered k.test)) (stmt_tree ws (numbered_stmt k.then)) c.in_ok-zero-in-When.zero c.in_ok-first-in-When.first
    c.in_ok-zero-in-When.ensures.adds c.in_ok-first-in-When.ensures.adds
    c.in_ok-zero-in-When.ensures.word c.in_ok-first-in-When.ensures.word h))
    c.act.ensures

-- two branches
pub act-act-requires-in-Either : goal.act-act-requires-in-Either
act-act-requires-in-Either t c =
    let ns = c.args.names.now.nets in
    let ws = c.args.names.now.words in
    let k = c.in-Either in
    let is : numbered_stmt c.args.stmt ≡ n.either (numbered k.test) (numbered_stmt k.then) (numbered_stmt k.otherwise) = sym k.ensures in
    let yes = stmt_tree ws (numbered_stmt k.then) in
    let no = stmt_tree ws (numbered_stmt k.otherwise) in
    let e : stmt_tree ws (numbered_stmt c.args.stmt) ≡ either (expr_tree ws (numbered k.test)) yes no = ap (stmt_tree ws) is in
    let sound = subst (IsSoundStmt ns) e c.requires.sound in
    let ready = subst (IsReadyStmt ns c.args.nets.now) e c.requires.ready in
    let fresh = subst (λ u. AreFresh ns c.args.nexts.now (stmt_targets u)) e c.requires.fresh in
    let weight = ap (stmt_weight 0) e in
    let heavier = weight_more 0 yes in
    let heavier_too = weight_more 0 no in
    let had = c.requires.room in
    let few_zero = c.in_ok-zero-in-Either.ensures.adds.few in
    let few_first = c.in_ok-first-in-Either.ensures.adds.few in
    let few_second = c.in_ok-second-in-Either.ensures.adds.few in
    let limit_zero = c.in_ok-zero-in-Either.ensures.adds.grows.grows.limit in
    let limit_first = c.in_ok-first-in-Either.ensures.adds.grows.grows.limit in
    let limit_second = c.in_ok-second-in-Either.ensures.adds.grows.grows.limit in
    let room : HasRoom c.also.new.nl (8 * stmt_weight 0 yes) = omega arith in
    let g = grows_trans c.in_ok-zero-in-Either.ensures.adds.grows
    (grows_trans c.in_ok-first-in-Either.ensures.adds.grows c.in_ok-second-in-Either.ensures.adds.grows) in
    search (
      rules,
      sound.1,
      ready.1,
      fresh_left ns c.args.nexts.now (stmt_targets yes) (stmt_targets no) fresh,
      room,
      nets_grow g c.requires.nets,
      nexts_grow g c.requires.nexts,
      net_grows c.in_ok-second-in-Either.ensures.adds.grows c.in_ok-first-in-Either.ensures.net,
    )

pub act-act-requires-in-Either-2 : goal.act-act-requires-in-Either-2
act-act-requires-in-Either-2 t c =
    let ns = c.args.names.now.nets in
    let ws = c.args.names.now.words in
    let k = c.in-Either in
    let is : numbered_stmt c.args.stmt ≡ n.either (numbered k.test) (numbered_stmt k.then) (numbered_stmt k.otherwise) = sym k.ensures in
    let yes = stmt_tree ws (numbered_stmt k.then) in
    let no = stmt_tree ws (numbered_stmt k.otherwise) in
    let e : stmt_tree ws (numbered_stmt c.args.stmt) ≡ either (expr_tree ws (numbered k.test)) yes no = ap (stmt_tree ws) is in
    let sound = subst (IsSoundStmt ns) e c.requires.sound in
    let ready = subst (IsReadyStmt ns c.args.nets.now) e c.requires.ready in
    let fresh = subst (λ u. AreFresh ns c.args.nexts.now (stmt_targets u)) e c.requires.fresh in
    let weight = ap (stmt_weight 0) e in
    let heavier = weight_more 0 yes in
    let heavier_too = weight_more 0 no in
    let had = c.requires.room in
    let few_zero = c.in_ok-zero-in-Either.ensures.adds.few in
    let few_first = c.in_ok-first-in-Either.ensures.adds.few in
    let few_second = c.in_ok-second-in-Either.ensures.adds.few in
    let limit_zero = c.in_ok-zero-in-Either.ensures.adds.grows.grows.limit in
    let limit_first = c.in_ok-first-in-Either.ensures.adds.grows.grows.limit in
    let limit_second = c.in_ok-second-in-Either.ensures.adds.grows.grows.limit in
    let few_act = c.in_ok-act-in-Either.ensures.adds.few in
    let limit_act = c.in_ok-act-in-Either.ensures.adds.grows.grows.limit in
    let room : HasRoom c.act-in-Either.new.nl (8 * stmt_weight 0 no) = omega arith in
    let g = grows_trans c.in_ok-zero-in-Either.ensures.adds.grows
    (grows_trans c.in_ok-first-in-Either.ensures.adds.grows
    (grows_trans c.in_ok-second-in-Either.ensures.adds.grows c.in_ok-act-in-Either.ensures.adds.grows)) in
    search (
      rules,
      sound.2,
      ready.2,
      fresh_right ns c.args.nexts.now c.act-in-Either.new.nexts (stmt_targets yes)
          (stmt_targets no) fresh c.in_ok-act-in-Either.ensures.others,
      room,
      nets_grow g c.requires.nets,
      c.in_ok-act-in-Either.ensures.nexts,
      net_grows c.in_ok-act-in-Either.ensures.adds.grows c.in_ok-second-in-Either.ensures.net,
    )

pub act-returns-in_ok-act-in-Either : goal.act-returns-in_ok-act-in-Either
act-returns-in_ok-act-in-Either t c =
    let ns = c.args.names.now.nets in
    let ws = c.args.names.now.words in
    let k = c.in-Either in
    let is : numbered_stmt c.args.stmt ≡ n.either (numbered k.test) (numbered_stmt k.then) (numbered_stmt k.otherwise) = sym k.ensures in
    on_ok_map c.act-in-Either-2.result
    (λ h.
    subst (λ (u : NumberedStmt). IsActed c.args.from ns c.args.nets.now c.args.guard c.args.nl.now c.act-in-Either-2.new.nl c.args.nexts.now
    c.act-in-Either-2.new.nexts (stmt_tree ws u)) (sym is)
    (either_acted c.args.from ns c.args.nets.now c.args.guard c.args.nl.now c.fails-in-Either.new.nl
    c.unless-in-Either.new.nl c.also.new.nl c.act-in-Either.new.nl c.act-in-Either-2.new.nl
    c.args.nexts.now c.act-in-Either.new.nexts c.act-in-Either-2.new.nexts
    (expr_tree ws (numbered k.test)) (stmt_tree ws (numbered_stmt k.then))
    (stmt_tree ws (numbered_stmt k.otherwise)) c.in_ok-zero-in-Either.zero c.in_ok-first-in-Either.first c.in_ok-second-in-Either.second
    c.in_ok-zero-in-Either.ensures.adds c.in_ok-first-in-Either.ensures.adds c.in_ok-second-in-Either.ensures.adds
    c.in_ok-zero-in-Either.ensures.word c.in_ok-first-in-Either.ensures.word
    c.in_ok-second-in-Either.ensures.word c.in_ok-act-in-Either.ensures h))
    c.act-in-Either-2.ensures

-- a statement, and those behind it
pub act_all-act-requires : goal.act_all-act-requires
act_all-act-requires t c =
    let ns = c.args.names.now.nets in
    let tree = stmt_tree c.args.names.now.words in
    let first = tree (numbered_stmt c.args.first) in
    let rest = tree (numbered_stmt c.args.rest) in
    let had = c.requires.room in
    let room : HasRoom c.args.nl.now (8 * stmt_weight 0 first) = omega arith in
    search (
      rules,
      c.requires.sound.0,
      c.requires.ready.0,
      fresh_left ns c.args.nexts.now (stmt_targets first) (stmt_targets rest) c.requires.fresh,
      room,
    )

pub act_all-next-init : goal.act_all-next-init
act_all-next-init t c =
    let ns = c.args.names.now.nets in
    let tree = stmt_tree c.args.names.now.words in
    let first = tree (numbered_stmt c.args.first) in
    let rest = tree (numbered_stmt c.args.rest) in
    let whole = block_more first rest in
    let e = c.in_ok-act.ensures in (
      acting_step c.args.from ns c.args.nets.now c.args.guard c.args.nl.now c.args.nexts.now whole c.args.nl.now c.act.new.nl c.args.nexts.now
          c.act.new.nexts first rest
          (acting_first c.args.from ns c.args.nets.now c.args.guard c.args.nl.now c.args.nexts.now whole c.requires.sound c.requires.ready
          c.requires.nexts c.requires.fresh)
          e.adds e.nexts e.others e.acts,
      omega arith,
    )

pub act_all-act-requires-in-Then : goal.act_all-act-requires-in-Then
act_all-act-requires-in-Then t c =
    let ns = c.args.names.now.nets in
    let tree = stmt_tree c.args.names.now.words in
    let whole = block_more (tree (numbered_stmt c.args.first)) (tree (numbered_stmt c.args.rest)) in
    let k = c.in-Then in
    let s = tree (numbered_stmt k.stmt) in
    let rest = tree (numbered_stmt k.more) in
    let is : numbered_stmt c.next.left ≡ n.block_more (numbered_stmt k.stmt) (numbered_stmt k.more) = sym k.ensures in
    let here : IsActing c.args.from ns c.args.nets.now c.args.guard c.args.nl.now c.next.nl c.args.nexts.now c.next.nexts whole
    (block_more s rest) = subst (λ (u : NumberedStmt). IsActing c.args.from ns c.args.nets.now c.args.guard c.args.nl.now c.next.nl c.args.nexts.now
    c.next.nexts whole (tree u)) is c.next.invariant.0 in
    let sound = here.sound in
    let ready = here.ready in
    let had = c.requires.room in
    let few = here.few in
    let limit = here.grows.grows.limit in
    let more = here.more in
    let room : HasRoom c.next.nl (8 * stmt_weight 0 s) = omega arith in
    search (
      rules,
      sound.0,
      ready.0,
      here.nexts,
      next_fresh c.args.from ns c.args.nets.now c.args.guard c.args.nl.now c.args.nexts.now whole c.next.nl c.next.nexts s rest here,
      room,
      nets_grow here.grows c.requires.nets,
      guard_net_grows c.args.guard here.grows c.requires.guard,
    )

pub act_all-next-preserved : goal.act_all-next-preserved
act_all-next-preserved t c =
    let ns = c.args.names.now.nets in
    let tree = stmt_tree c.args.names.now.words in
    let whole = block_more (tree (numbered_stmt c.args.first)) (tree (numbered_stmt c.args.rest)) in
    let k = c.in-Then in
    let s = tree (numbered_stmt k.stmt) in
    let rest = tree (numbered_stmt k.more) in
    let is : numbered_stmt c.next.left ≡ n.block_more (numbered_stmt k.stmt) (numbered_stmt k.more) = sym k.ensures in
    let here : IsActing c.args.from ns c.args.nets.now c.args.guard c.args.nl.now c.next.nl c.args.nexts.now c.next.nexts whole
    (block_more s rest) = subst (λ (u : NumberedStmt). IsActing c.args.from ns c.args.nets.now c.args.guard c.args.nl.now c.next.nl c.args.nexts.now
    c.next.nexts whole (tree u)) is c.next.invariant.0 in
    let parts = ap parts_in_stmt is in
    let fewer = c.next.invariant.1 in
    let e = c.in_ok-act-in-Then.ensures in (
      acting_step c.args.from ns c.args.nets.now c.args.guard c.args.nl.now c.args.nexts.now whole c.next.nl c.act-in-Then.new.nl
          c.next.nexts c.act-in-Then.new.nexts s rest here e.adds e.nexts e.others e.acts,
      omega arith,
    )

pub act_all-returns-in_default : goal.act_all-returns-in_default
act_all-returns-in_default t c =
    let ns = c.args.names.now.nets in
    let tree = stmt_tree c.args.names.now.words in
    let whole = block_more (tree (numbered_stmt c.args.first)) (tree (numbered_stmt c.args.rest)) in
    let last = c.act-in_default in
    on_ok_map last.result
    (λ h. acting_last c.args.from ns c.args.nets.now c.args.guard c.args.nl.now c.args.nexts.now whole c.next.nl last.new.nl c.next.nexts
    last.new.nexts (tree (numbered_stmt c.next.left)) c.next.invariant.0 h)
    last.ensures
