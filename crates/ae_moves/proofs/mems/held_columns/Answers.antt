-- One column more.
use Rattle.std.proofs.Common.{ℕ, ◌≡◌, ◌<◌, List, length, get_or, Option, None, inl, inr, arith, ap, ◌∙◌}
use Rattle.std.proofs.lemmas.Bool.{cases_eq}
use Rattle.std.proofs.lemmas.List.{get_or_read, length_push}
use Rattle.ae_moves.specs.Trees.{trip_trees}
use Rattle.ae_moves.specs.Usages.{held_from}
use Rattle.ae_moves.proofs.Held.{clock_is, push_before, push_last}
use Rattle.ae_moves.proofs.mems.held_columns.Goals as goal

pub loop-q-init : goal.loop-q-init
loop-q-init c = record { long = ap length c.new-held.ensures.items; each = λ p l. absurd (omega arith) }

pub loop-q-preserved : goal.loop-q-preserved
loop-q-preserved c =
    let q : ℕ = c.loop-q.q in
    let old : List (Option ℕ) = c.loop-q.held.items in
    let inside : q < length c.in_ok-usages.usages.items = omega (arith, c.loop-q-test.true, c.len-q-end.ensures) in
    let age : ℕ = get_or c.in_ok-ages.ages.items q 0 in
    let here : c.index.result.now ≡ get_or c.in_ok-usages.usages.items q None = get_or_read c.in_ok-usages.usages.items q c.index.result.now inside
    c.index.ensures None in
    let there : q < length c.in_ok-ages.ages.items = omega (
      arith,
      c.loop-q-test.true,
      c.len-q-end.ensures,
      c.in_ok-ages.ensures.long,
      c.in_ok-usages.ensures.long,
    ) in
    let late : c.index-in-loop-q.result.now ≡ age = get_or_read c.in_ok-ages.ages.items q c.index-in-loop-q.result.now there c.index-in-loop-q.ensures 0 in
    let last : c.held_from.result ≡ held_from (get_or c.in_ok-usages.usages.items q None) age = c.held_from.ensures ∙
    ap (λ u. held_from u c.index-in-loop-q.result.now) here ∙ ap (held_from (get_or c.in_ok-usages.usages.items q None)) late in
    rw c.in_ok-push.ensures.items (record {
      long = length_push old c.held_from.result ∙ (let e = c.loop-q.invariant.long in omega arith);
      each = λ p l. elim (cases_eq p q) [
        | inl e ↦ rw e (push_last old c.held_from.result q c.loop-q.invariant.long ∙ last)
        | inr ne ↦ push_before old c.held_from.result p (omega (arith, c.loop-q.invariant.long)) ∙ c.loop-q.invariant.each p (omega arith)
      ];
    })

pub returns : goal.returns
returns c =
    let long : length c.in_ok-usages.usages.items ≡ c.args.ins = c.in_ok-usages.ensures.long in
    record {
      long = omega (arith, c.loop-q.invariant.long, c.loop-q-test.false, long);
      each = λ p l. c.loop-q.invariant.each p (omega (arith, c.loop-q-test.false, long)) ∙
          clock_is c.args.period c.args.d p _ (trip_trees c.args.trips.now) _ (c.in_ok-usages.ensures.each p l) (c.in_ok-ages.ensures.each p l);
    }
