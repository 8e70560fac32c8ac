-- What the net reads is there, and kept from now on.
use Rattle.std.proofs.Common.{◌≡◌, List, length, Some, slice_get, ap, sym, ◌∙◌, subst}
use Rattle.ae_netlist.specs.declared.cell.NetId.{NetId}
use Rattle.ae_netlist.specs.declared.cell.SizedCell.{SizedCell}
use Rattle.ae_tidy.specs.Marks.{EachRead, IsKept}
use Rattle.ae_tidy.proofs.Marking.{grows_refl, followed_more, followed_past, reads_within}
use Rattle.ae_tidy.proofs.Needing.{needed_more, only_reads}
use Rattle.ae_tidy.proofs.mark.follow_one.Goals as goal

pub reach_reads-requires : goal.reach_reads-requires
reach_reads-requires c =
    let e : length c.args.keep.now.items ≡ length c.args.nl.now.cells = c.requires.rooted.long in
    rw e (reads_within c.args.nl.now.cells c.net_at-net.result.0 c.in-Some.sized c.formed.ensures.cells (sym c.in-Some.ensures))

pub returns-in-None : goal.returns-in-None
returns-in-None c =
    let here : slice_get c.args.line.now.items c.args.k ≡ Some c.net_at-net.result = ap (λ (l : List NetId). slice_get l c.args.k)
    (sym c.deref.ensures.value) ∙ c.net_at-net.ensures in
    record {
      grows = grows_refl _ _;
      followed = followed_past _ _ _ _ c.net_at-net.result c.requires.followed c.requires.within here (sym c.in-None.ensures);
      needed = c.requires.needed;
    }

pub returns : goal.returns
returns c =
    let here : slice_get c.args.line.now.items c.args.k ≡ Some c.net_at-net.result = ap (λ (l : List NetId). slice_get l c.args.k)
    (sym c.deref.ensures.value) ∙ c.net_at-net.ensures in
    record {
      grows = c.in_ok-reach_reads-in-Some.ensures.grows;
      followed = followed_more c.args.nl.now.cells _ _ _ _ _ c.net_at-net.result c.in_ok-reach_reads-in-Some.ensures.grows c.requires.followed
          c.requires.within here
          (λ sized h.
          let q : Some c.in-Some.sized ≡ Some sized = c.in-Some.ensures ∙ h in
          let same : c.in-Some.sized ≡ sized = cc in
          subst (λ (x : SizedCell). EachRead (IsKept c.reach_reads.new.keep.items) x.cell) same c.in_ok-reach_reads-in-Some.ensures.kept);
      needed = needed_more c.args.nl.now _ _ _ _
          (only_reads c.net_at-net.result.0 c.in-Some.sized (c.requires.needed.waits c.args.k c.net_at-net.result here)
          (sym c.in-Some.ensures) c.in_ok-reach_reads-in-Some.ensures.only) c.requires.needed;
    }
