use Rattle.std.proofs.Common.{ap, ◌∙◌, ◌++◌, ◌∷◌, [], map, arith}
use Rattle.std.proofs.lemmas.List.{map-append}
use Rattle.ae_retime.proofs.Lists.{meets_long, results_met}
use Rattle.ae_retime.proofs.slacks.add_func.Goals as goal

pub bounds-meets-len : goal.bounds-meets-len
bounds-meets-len c = omega (arith, meets_long c.args.arrivals.now c.args.s.now c.args.meets.now c.requires.meets, c.len.ensures, c.args.s.now.nodes.ok)

pub argument_slacks-requires-clause-uses : goal.argument_slacks-requires-clause-uses
argument_slacks-requires-clause-uses c = c.requires.uses

pub argument_slacks-requires-clause-meets : goal.argument_slacks-requires-clause-meets
argument_slacks-requires-clause-meets c = c.requires.meets

pub item_chains-requires-clause-uses : goal.item_chains-requires-clause-uses
item_chains-requires-clause-uses c = c.requires.uses

pub item_chains-requires-clause-long : goal.item_chains-requires-clause-long
item_chains-requires-clause-long c = c.requires.long

pub item_chains-requires-clause-meets : goal.item_chains-requires-clause-meets
item_chains-requires-clause-meets c = c.requires.meets

pub item_chains-requires-clause-end : goal.item_chains-requires-clause-end
item_chains-requires-clause-end c =
    results_met c.args.arrivals.now c.args.s.now c.args.meets.now c.len.result c.requires.meets
    (omega (arith, c.len.ensures, c.args.s.now.nodes.ok))

pub joint_slacks-requires-clause-below : goal.joint_slacks-requires-clause-below
joint_slacks-requires-clause-below c = rw c.deref.ensures.value c.requires.uses.results

pub joint_slacks-requires-clause-most : goal.joint_slacks-requires-clause-most
joint_slacks-requires-clause-most c =
    rw c.deref.ensures.value (results_met c.args.arrivals.now c.args.s.now c.args.meets.now c.len.result c.requires.meets
    (omega (arith, c.len.ensures, c.args.s.now.nodes.ok)))

pub returns-clause-arguments : goal.returns-clause-arguments
returns-clause-arguments c =
    ap (map (λ n. map (λ v. v.items) n.items)) c.in_ok-push.ensures.items
    ∙ (map-append (λ n. map (λ v. v.items) n.items) c.args.arguments.now.items (c.in_ok-argument_slacks.field-0 ∷ [])
    ∙ ap (λ own. map (λ n. map (λ v. v.items) n.items) c.args.arguments.now.items ++ own ∷ []) c.in_ok-argument_slacks.ensures)

pub returns-clause-chains : goal.returns-clause-chains
returns-clause-chains c =
    ap (map (λ v. v.items)) c.in_ok-push-2.ensures.items
    ∙ (map-append (λ v. v.items) c.args.chains.now.items (c.in_ok-item_chains.field-0 ∷ [])
    ∙ ap (λ own. map (λ v. v.items) c.args.chains.now.items ++ own ∷ []) c.in_ok-item_chains.ensures)

pub returns-clause-results : goal.returns-clause-results
returns-clause-results c =
    ap (map (λ v. v.items)) c.in_ok-push-3.ensures.items
    ∙ (map-append (λ v. v.items) c.args.results.now.items (c.in_ok-joint_slacks.field-0 ∷ [])
    ∙ ap (λ own. map (λ v. v.items) c.args.results.now.items ++ own ∷ []) (rw c.deref.ensures.value at c.in_ok-joint_slacks.ensures))
