-- A net that was not kept waits from now on.
use Rattle.std.proofs.Common.{◌≡◌, List, Bool, sym, Some, slice_get, true, false, ap, ◌∙◌}
use Rattle.ae_netlist.proofs.Gets.{get_set_same}
use Rattle.ae_tidy.proofs.Marking.{grows_one}
use Rattle.ae_tidy.proofs.Needing.{only_one}
use Rattle.ae_tidy.proofs.mark.reach.Goals as goal

pub returns-clause-grows : goal.returns-clause-grows
returns-clause-grows c =
    let there : slice_get c.args.keep.now.items c.args.net.0 ≡ Some false = ap (λ (l : List Bool). slice_get l c.args.net.0) (sym c.deref.ensures.value) ∙
    (c.is_kept.ensures ∙ ap Some c.if-is_kept.false) in
    rw c.in_ok-push.ensures.items (grows_one c.args.keep.now.items c.args.line.now.items c.args.net there)

pub returns-clause-kept : goal.returns-clause-kept
returns-clause-kept c =
    let there : slice_get c.args.keep.now.items c.args.net.0 ≡ Some false = ap (λ (l : List Bool). slice_get l c.args.net.0) (sym c.deref.ensures.value) ∙
    (c.is_kept.ensures ∙ ap Some c.if-is_kept.false) in
    record { kept = get_set_same c.args.keep.now.items c.args.net.0 true false there }

pub returns-clause-only : goal.returns-clause-only
returns-clause-only c = rw c.in_ok-push.ensures.items (only_one c.args.keep.now.items c.args.line.now.items c.args.net)
