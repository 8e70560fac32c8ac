use Rattle.std.proofs.Common.{ap, ◌≡◌, ◌*◌, ◌/◌, arith}
use Rattle.ae_sttype.specs.StTree.{st_tree, st_atoms, tseq, sseq}
use Rattle.ae_sttype.proofs.Bounds.{lanes_pos, part_of_sseq, part_of_tseq, time_pos}
use Rattle.ae_sttype.proofs.Finding.{past_tseq, none_in_tseq, some_in_tseq, past_sseq, none_in_sseq, some_in_sseq, found_atom, found_fits, not_in_atom}
use Rattle.ae_sttype.proofs.st_type.StType.+element.Goals as goal
use Rattle.ae_sttype.proofs.st_type.StType.+element.Goals.{else-clock-eq0-via-then-clock-eq0+else-lane-eq0, else-clock-eq0-via-else-clock-eq0}

pub returns-then-copy-n : goal.returns-then-copy-n
returns-then-copy-n t c =
    past_tseq _ (st_tree c.deref-of.result.now) c.in-T.n c.in-T.i _ _ (cc (ap st_tree c.in-T.is)) c.requires.lengths
    (rw c.time-time.ensures at c.if-copy-n.true)

pub returns-in_err-inner-in-T : goal.returns-in_err-inner-in-T
returns-in_err-inner-in-T t c =
    rw c.from_residual.ensures
    (none_in_tseq _ (st_tree c.deref-of.result.now) c.in-T.n c.in-T.i _ _ (cc (ap st_tree c.in-T.is)) c.requires.lengths
    (rw c.time-time.ensures at c.in_err-inner-in-T.ensures))

pub overflow_add-result : goal.overflow_add-result
overflow_add-result t c =
    let is : st_tree c.args.self.now ≡ tseq c.in-T.n c.in-T.i (st_tree c.deref-of.result.now) = cc (ap st_tree c.in-T.is) in
    omega (
      arith,
      c.atoms.ensures,
      ap (λ x. c.args.clock / c.time-time.result * x) c.atoms.ensures,
      found_fits (st_tree c.args.self.now) (st_tree c.deref-of.result.now) c.in-T.n
          (c.args.clock / c.time-time.result) _ _ c.in_ok-inner-in-T.inner c.requires (ap st_atoms is) c.if-copy-n.false c.in_ok-inner-in-T.ensures,
    )

pub returns-in_ok-inner-in-T : goal.returns-in_ok-inner-in-T
returns-in_ok-inner-in-T t c =
    rw (c.time-time.ensures, c.atoms.ensures)
    (some_in_tseq _ (st_tree c.deref-of.result.now) c.in-T.n c.in-T.i _ _ _ (cc (ap st_tree c.in-T.is)) c.requires.lengths
    (rw c.time-time.ensures at c.if-copy-n.false)
    (rw c.time-time.ensures at c.in_ok-inner-in-T.ensures))

pub returns-then-copy-n-2 : goal.returns-then-copy-n-2
returns-then-copy-n-2 t c =
    past_sseq _ (st_tree c.deref-of-in-S.result.now) c.in-S.n _ _ (cc (ap st_tree c.in-S.is)) c.requires.lengths
    (rw c.lanes-width.ensures at c.if-copy-n-2.true)

pub returns-in_err-inner-in-S : goal.returns-in_err-inner-in-S
returns-in_err-inner-in-S t c =
    rw c.from_residual-in_err-inner-in-S.ensures
    (none_in_sseq _ (st_tree c.deref-of-in-S.result.now) c.in-S.n _ _ (cc (ap st_tree c.in-S.is)) c.requires.lengths
    (rw c.lanes-width.ensures at c.in_err-inner-in-S.ensures))

pub overflow_add-result-in-S : goal.overflow_add-result-in-S
overflow_add-result-in-S t c =
    let is : st_tree c.args.self.now ≡ sseq c.in-S.n (st_tree c.deref-of-in-S.result.now) = cc (ap st_tree c.in-S.is) in
    omega (
      arith,
      c.atoms-in-S.ensures,
      ap (λ x. c.args.lane / c.lanes-width.result * x) c.atoms-in-S.ensures,
      found_fits (st_tree c.args.self.now) (st_tree c.deref-of-in-S.result.now) c.in-S.n
          (c.args.lane / c.lanes-width.result) _ _ c.in_ok-inner-in-S.inner c.requires (ap st_atoms is) c.if-copy-n-2.false c.in_ok-inner-in-S.ensures,
    )

pub returns-in_ok-inner-in-S : goal.returns-in_ok-inner-in-S
returns-in_ok-inner-in-S t c =
    rw (c.lanes-width.ensures, c.atoms-in-S.ensures)
    (some_in_sseq _ (st_tree c.deref-of-in-S.result.now) c.in-S.n _ _ _ (cc (ap st_tree c.in-S.is)) c.requires.lengths
    (rw c.lanes-width.ensures at c.if-copy-n-2.false)
    (rw c.lanes-width.ensures at c.in_ok-inner-in-S.ensures))

pub time-time-requires : goal.time-time-requires
time-time-requires t c =
    let is : st_tree c.args.self.now ≡ tseq c.in-T.n c.in-T.i (st_tree c.deref-of.result.now) = cc (ap st_tree c.in-T.is) in
    part_of_tseq _ _ _ _ is c.requires

pub nonzero_div-copy : goal.nonzero_div-copy
nonzero_div-copy t c =
    let is : st_tree c.args.self.now ≡ tseq c.in-T.n c.in-T.i (st_tree c.deref-of.result.now) = cc (ap st_tree c.in-T.is) in
    omega (arith, time_pos _ (part_of_tseq _ _ _ _ is c.requires).lengths, c.time-time.ensures)

pub atoms-requires : goal.atoms-requires
atoms-requires t c =
    let is : st_tree c.args.self.now ≡ tseq c.in-T.n c.in-T.i (st_tree c.deref-of.result.now) = cc (ap st_tree c.in-T.is) in
    part_of_tseq _ _ _ _ is c.requires

pub overflow_mul-result : goal.overflow_mul-result
overflow_mul-result t c =
    let is : st_tree c.args.self.now ≡ tseq c.in-T.n c.in-T.i (st_tree c.deref-of.result.now) = cc (ap st_tree c.in-T.is) in
    omega (
      arith,
      ap (λ x. c.args.clock / c.time-time.result * x) c.atoms.ensures,
      found_fits (st_tree c.args.self.now) (st_tree c.deref-of.result.now) c.in-T.n (c.args.clock / c.time-time.result) _ _ c.in_ok-inner-in-T.inner
          c.requires (ap st_atoms is) c.if-copy-n.false
          c.in_ok-inner-in-T.ensures,
    )

pub lanes-width-requires : goal.lanes-width-requires
lanes-width-requires t c =
    let is : st_tree c.args.self.now ≡ sseq c.in-S.n (st_tree c.deref-of-in-S.result.now) = cc (ap st_tree c.in-S.is) in
    part_of_sseq _ _ _ is c.requires

pub nonzero_div-copy-in-S : goal.nonzero_div-copy-in-S
nonzero_div-copy-in-S t c =
    let is : st_tree c.args.self.now ≡ sseq c.in-S.n (st_tree c.deref-of-in-S.result.now) = cc (ap st_tree c.in-S.is) in
    omega (arith, lanes_pos _ (part_of_sseq _ _ _ is c.requires).lengths, c.lanes-width.ensures)

pub nonzero_rem-lane : goal.nonzero_rem-lane
nonzero_rem-lane t c =
    let is : st_tree c.args.self.now ≡ sseq c.in-S.n (st_tree c.deref-of-in-S.result.now) = cc (ap st_tree c.in-S.is) in
    omega (arith, lanes_pos _ (part_of_sseq _ _ _ is c.requires).lengths, c.lanes-width.ensures)

pub atoms-requires-in-S : goal.atoms-requires-in-S
atoms-requires-in-S t c =
    let is : st_tree c.args.self.now ≡ sseq c.in-S.n (st_tree c.deref-of-in-S.result.now) = cc (ap st_tree c.in-S.is) in
    part_of_sseq _ _ _ is c.requires

pub overflow_mul-result-in-S : goal.overflow_mul-result-in-S
overflow_mul-result-in-S t c =
    let is : st_tree c.args.self.now ≡ sseq c.in-S.n (st_tree c.deref-of-in-S.result.now) = cc (ap st_tree c.in-S.is) in
    omega (
      arith,
      ap (λ x. c.args.lane / c.lanes-width.result * x) c.atoms-in-S.ensures,
      found_fits (st_tree c.args.self.now) (st_tree c.deref-of-in-S.result.now) c.in-S.n (c.args.lane / c.lanes-width.result) _ _ c.in_ok-inner-in-S.inner
          c.requires (ap st_atoms is) c.if-copy-n-2.false
          c.in_ok-inner-in-S.ensures,
    )

pub returns-then-lane-eq0 : goal.returns-then-lane-eq0
returns-then-lane-eq0 t c = rw (c.if-clock-eq0.true, c.if-lane-eq0.true) (found_atom _ _ (ap st_tree c.in-Atom.is))

pub returns-else-clock-eq0 : goal.returns-else-clock-eq0
returns-else-clock-eq0 t c =
    not_in_atom _ _ _ _ (ap st_tree c.in-Atom.is)
    (elim c.else-clock-eq0.branch [
      | else-clock-eq0-via-then-clock-eq0+else-lane-eq0 w ↦ omega (arith, w.if-lane-eq0.false)
      | else-clock-eq0-via-else-clock-eq0 w ↦ omega (arith, w.if-clock-eq0.false)
    ])
