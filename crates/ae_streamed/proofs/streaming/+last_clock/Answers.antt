-- The last clock of a layout, by its form.
use Rattle.std.proofs.Common.{◌≡◌, ap, arith}
use Rattle.ae_sttype.specs.StTree.{st_tree, sseq, tseq}
use Rattle.ae_streamed.proofs.Last.{in_atom, in_sseq, in_tseq, of_one, one_of, short}
use Rattle.ae_streamed.proofs.streaming.+last_clock.Goals as goal

pub returns-in-Atom : goal.returns-in-Atom
returns-in-Atom t c = one_of (st_tree c.args.layout.now) 0 (in_atom (st_tree c.args.layout.now) _ (ap st_tree c.in-Atom.is))

pub overflow_add-result : goal.overflow_add-result
overflow_add-result t c =
    omega (
      arith,
      (short (st_tree c.args.layout.now) (st_tree c.deref-of.result.now) c.in-T.n c.in-T.i c.time.result c.last_clock-last.result
          (cc (ap st_tree c.in-T.is)) c.time.ensures c.requires c.last_clock-last.ensures).all,
    )

pub returns-in-T : goal.returns-in-T
returns-in-T t c =
    let is : st_tree c.args.layout.now ≡ tseq c.in-T.n c.in-T.i (st_tree c.deref-of.result.now) = cc (ap st_tree c.in-T.is) in
    rw c.time.ensures
    (one_of (st_tree c.args.layout.now) _ (in_tseq (st_tree c.args.layout.now) c.in-T.n c.in-T.i
    (st_tree c.deref-of.result.now) c.last_clock-last.result is c.requires.lengths
    (of_one (st_tree c.deref-of.result.now) c.last_clock-last.result c.last_clock-last.ensures)))

pub returns-in-S : goal.returns-in-S
returns-in-S t c =
    let is : st_tree c.args.layout.now ≡ sseq c.in-S.n (st_tree c.deref.result.now) = cc (ap st_tree c.in-S.is) in
    one_of (st_tree c.args.layout.now) _ (in_sseq (st_tree c.args.layout.now) c.in-S.n (st_tree c.deref.result.now) c.last_clock.result is c.requires.lengths
    (of_one (st_tree c.deref.result.now) c.last_clock.result c.last_clock.ensures))
