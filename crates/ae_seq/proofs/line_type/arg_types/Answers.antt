use Rattle.std.proofs.Common.{◌∙◌, sym, ap, [], ◌∷◌}
use Rattle.std.proofs.lemmas.List.{map-append}
use Rattle.ae_seq.specs.Trees.{type_trees, lent, lent_types, option_lent}
use Rattle.ae_seq.proofs.Types.{types_at-more, types_at-none}
use Rattle.ae_seq.proofs.line_type.arg_types.Goals as goal

pub returns-in_default : goal.returns-in_default
returns-in_default c =
    let here = sym c.item_type.ensures ∙ ap option_lent c.in_default.is in
    sym (types_at-none (type_trees c.args.items.now) c.args.args.now c.loop-arg.arg-index (lent_types c.loop-arg.found.items) c.loop-arg-test.true here) ∙
    c.loop-arg.invariant

pub loop-arg-preserved : goal.loop-arg-preserved
loop-arg-preserved c =
    let here = sym c.item_type.ensures ∙ ap option_lent c.in-Some.is in
    rw (c.in_ok-push.ensures.items, map-append lent c.loop-arg.found.items (c.in-Some.t ∷ []))
    (sym (types_at-more (type_trees c.args.items.now) c.args.args.now c.loop-arg.arg-index (lent_types c.loop-arg.found.items)
    (lent c.in-Some.t) c.loop-arg-test.true here) ∙ c.loop-arg.invariant)
