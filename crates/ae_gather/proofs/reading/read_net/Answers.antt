-- A read of the ring that the column has.
use Rattle.std.proofs.Common.{◌≡◌, Some, None, length, slice_get, arith, refl, sym, ap, ◌∙◌}
use Rattle.std.proofs.lemmas.Option.{get_or_from_slice_get, slice_get-get_or, slice_get_read}
use Rattle.ae_netlist.proofs.Growing.{net_later, net_width}
use Rattle.ae_gates.proofs.Added.{own_net}
use Rattle.ae_columns.specs.Columns.{net_of}
use Rattle.ae_gather.proofs.reading.read_net.Goals as goal

pub width_at-width-requires : goal.width_at-width-requires
width_at-width-requires c =
    let there : slice_get c.args.rings.now c.in-Some.x ≡ Some (Some c.in-Some-rings.ring) = slice_get-get_or c.args.rings.now c.in-Some.x None
    (omega (arith, c.if-at-rings.false)) ∙ ap Some c.in-Some-rings.is in
    let h = c.requires.rings.1.each c.in-Some.x c.in-Some-rings.ring there in
    own_net h.net

pub ring_read-requires-clause-some : goal.ring_read-requires-clause-some
ring_read-requires-clause-some c =
    let there : slice_get c.args.rings.now c.in-Some.x ≡ Some (Some c.in-Some-rings.ring) = slice_get-get_or c.args.rings.now c.in-Some.x None
    (omega (arith, c.if-at-rings.false)) ∙ ap Some c.in-Some-rings.is in
    let h = c.requires.rings.1.each c.in-Some.x c.in-Some-rings.ring there in
    omega (arith, h.wide, c.requires.low)

pub ring_read-requires-clause-few : goal.ring_read-requires-clause-few
ring_read-requires-clause-few c =
    let there : slice_get c.args.rings.now c.in-Some.x ≡ Some (Some c.in-Some-rings.ring) = slice_get-get_or c.args.rings.now c.in-Some.x None
    (omega (arith, c.if-at-rings.false)) ∙ ap Some c.in-Some-rings.is in
    let h = c.requires.rings.1.each c.in-Some.x c.in-Some-rings.ring there in
    omega (arith, h.wide, c.requires.high)

pub ring_read-requires-clause-memory : goal.ring_read-requires-clause-memory
ring_read-requires-clause-memory c =
    let there : slice_get c.args.rings.now c.in-Some.x ≡ Some (Some c.in-Some-rings.ring) = slice_get-get_or c.args.rings.now c.in-Some.x None
    (omega (arith, c.if-at-rings.false)) ∙ ap Some c.in-Some-rings.is in
    let h = c.requires.rings.1.each c.in-Some.x c.in-Some-rings.ring there in
    let wide : c.width_at-width.result ≡ h.width = c.width_at-width.ensures ∙ net_width h.net in
    rw (h.wide, wide) h.memory

pub ring_read-requires-clause-counter : goal.ring_read-requires-clause-counter
ring_read-requires-clause-counter c =
    let there : slice_get c.args.rings.now c.in-Some.x ≡ Some (Some c.in-Some-rings.ring) = slice_get-get_or c.args.rings.now c.in-Some.x None
    (omega (arith, c.if-at-rings.false)) ∙ ap Some c.in-Some-rings.is in
    let h = c.requires.rings.1.each c.in-Some.x c.in-Some-rings.ring there in
    rw h.wide h.counter

pub ring_read-requires-clause-place : goal.ring_read-requires-clause-place
ring_read-requires-clause-place c =
    let there : slice_get c.args.rings.now c.in-Some.x ≡ Some (Some c.in-Some-rings.ring) = slice_get-get_or c.args.rings.now c.in-Some.x None
    (omega (arith, c.if-at-rings.false)) ∙ ap Some c.in-Some-rings.is in
    let h = c.requires.rings.1.each c.in-Some.x c.in-Some-rings.ring there in
    rw h.wide c.requires.place

pub returns-clause-reads : goal.returns-clause-reads
returns-clause-reads c = λ rst rings.
    let there : slice_get c.args.rings.now c.in-Some.x ≡ Some (Some c.in-Some-rings.ring) = slice_get-get_or c.args.rings.now c.in-Some.x None
    (omega (arith, c.if-at-rings.false)) ∙ ap Some c.in-Some-rings.is in
    let h = rings.each c.in-Some.x c.in-Some-rings.ring there in
    let wide : c.width_at-width.result ≡ h.width = c.width_at-width.ensures ∙ net_width h.net in
    record {
      net = (c.width_at-width.result, c.in_ok-y.ensures.net);
      words = λ x from on.
          let read : slice_get c.args.reads.now.from.items c.args.q ≡ Some c.index.result.now = slice_get_read c.args.reads.now.from.items
          (length c.args.reads.now.from.items) c.args.q c.index.result.now refl c.requires.out c.index.ensures in
          let both : Some c.in-Some.x ≡ Some x = sym c.in-Some.is ∙
          sym (get_or_from_slice_get c.args.reads.now.from.items c.args.q c.index.result.now None read) ∙ from in
          let same : c.in-Some.x ≡ x = cc in
          rw (← same) (record {
            width = h.width;
            from = net_later c.in_ok-y.ensures.adds.grows.extends h.net;
            net = rw wide at c.in_ok-y.ensures.net;
            reads = rw h.wide at (c.in_ok-y.ensures.reads rst (net_of c.args.ins.now c.in-Some.x) (rw h.wide h.keeps));
          });
    }
