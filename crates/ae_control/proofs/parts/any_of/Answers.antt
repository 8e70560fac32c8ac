-- One bit more.
use Rattle.std.proofs.Common.{◌≡◌, ◌+◌, ◌∷◌, [], length, length-append, arith, inl, ap, refl, sym, ◌∙◌, subst}
use Rattle.ae_netlist.specs.declared.cell.SizedCell.{SizedCell}
use Rattle.ae_netlist.specs.Circuit.{Circuit}
use Rattle.ae_netlist.proofs.Growing.{net_later}
use Rattle.ae_control.proofs.Cells.{last_choice, longer_by, longer_length, longer_refl, longer_trans}
use Rattle.ae_control.specs.Cells.{choice}
use Rattle.ae_control.specs.Controls.{HasAny, row}
use Rattle.ae_control.proofs.Standing.{any_more, any_none}
use Rattle.ae_control.proofs.Tables.{fit}
use Rattle.ae_control.proofs.Tables.Fit.{before, none}
use Rattle.ae_control.proofs.parts.any_of.Goals as goal
use Rattle.ae_gates.proofs.Added.{net_within}

pub loop-k-init : goal.loop-k-init
loop-k-init c = record {
  longer = longer_refl c.args.nl.now;
  net = c.requires.low;
  long = omega arith;
  any = any_none c.args.nl.now.cells c.args.first c.args.low.0 c.args.high.0 (length c.args.nl.now.cells);
}

pub overflow_add-first : goal.overflow_add-first
overflow_add-first c = omega (arith, net_within (c.requires.bits c.loop-k.k c.loop-k-test.true), longer_length c.loop-k.invariant.longer)

pub choices-requires-clause-choices : goal.choices-requires-clause-choices
choices-requires-clause-choices c =
    let later = c.loop-k.invariant.longer.extends in
    fit c.loop-k.nl.cells 1 _ (before (record {
      condition = inl (net_later later (c.requires.bits c.loop-k.k c.loop-k-test.true));
      left = inl (net_later later c.requires.high);
      right = inl c.loop-k.invariant.net;
    }) none)

pub loop-k-preserved : goal.loop-k-preserved
loop-k-preserved c =
    let x : SizedCell = choice 1 (row (c.args.first + c.loop-k.k) c.args.high.0 c.loop-k.any.0) in
    record {
      longer = longer_trans c.loop-k.invariant.longer (longer_by c.loop-k.nl c.choices.new.nl _ c.in_ok-choices.ensures (refl, tt));
      net = last_choice c.loop-k.nl c.choices.new.nl 1 _ _ c.len-at.ensures c.in_ok-choices.ensures;
      long = ap (λ (v : Circuit). length v.cells) c.in_ok-choices.ensures ∙
          (length-append c.loop-k.nl.cells (x ∷ []) ∙ omega (arith, c.loop-k.invariant.long));
      any = subst (HasAny c.choices.new.nl.cells c.args.first (c.loop-k.k + 1) c.args.low.0 c.args.high.0 (length c.args.nl.now.cells))
          (sym (c.len-at.ensures ∙ c.loop-k.invariant.long))
          (any_more c.loop-k.nl c.choices.new.nl c.args.first c.loop-k.k c.args.low.0 c.args.high.0
          (length c.args.nl.now.cells) c.loop-k.any.0 c.loop-k.invariant.any c.loop-k.invariant.long c.in_ok-choices.ensures);
    }

pub returns-clause-any : goal.returns-clause-any
returns-clause-any c =
    let end : c.loop-k.k ≡ c.args.count = omega (arith, c.loop-k-test.false, c.loop-k.auto.k-end) in
    subst (λ k. HasAny c.loop-k.nl.cells c.args.first k c.args.low.0 c.args.high.0 (length c.args.nl.now.cells) c.loop-k.any.0) end c.loop-k.invariant.any

pub choices-requires-clause-room : goal.choices-requires-clause-room
choices-requires-clause-room c = omega (arith, c.requires.room, c.loop-k.invariant.long, c.loop-k.invariant.longer.limit, c.loop-k-test.true)
