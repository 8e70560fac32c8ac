use Rattle.std.proofs.Common.{◌≡◌, ℕ, ◌+◌, List, ◌++◌, length, take, arith, rules, refl, sym, subst}
use Rattle.std.proofs.lemmas.Grind.{common_steps}
use Rattle.ae_io.specs.Told.{Takes}
use Rattle.ae_io.specs.Transfer.{TakesUpTo}
use Rattle.ae_io.proofs.TellingLemmas.{takes_more, takes_count_more, on_err}
use Rattle.ae_io.proofs.transfer.load.Goals as goal

pub returns-then-n-limit-clause-too_long : goal.returns-then-n-limit-clause-too_long
returns-then-n-limit-clause-too_long g c = λ _.
    let count = c.in_ok-n.ensures.count in
    let sum : length c.loop-bytes.bytes.items + c.in_ok-n.n ≡ c.args.limit + 1 = grind (arith, common_steps, c.in_ok-n.ensures.count) in
    takes_count_more _ _ _ c.loop-bytes.bytes.items c.take.new.buf c.in_ok-n.n _ c.loop-bytes.invariant.taken c.in_ok-n.ensures.taken c.in_ok-n.ensures.count
    sum

pub returns-then-n-limit-clause-err : goal.returns-then-n-limit-clause-err
returns-then-n-limit-clause-err g c =
    let sum : length c.loop-bytes.bytes.items + c.in_ok-n.n ≡ c.args.limit + 1 = grind (arith, common_steps, c.in_ok-n.ensures.count) in (
      c.args.limit + 1,
      omega arith,
      takes_count_more _ _ _ c.loop-bytes.bytes.items c.take.new.buf c.in_ok-n.n _ c.loop-bytes.invariant.taken
          c.in_ok-n.ensures.taken c.in_ok-n.ensures.count sum,
    )

pub loop-bytes-preserved : goal.loop-bytes-preserved
loop-bytes-preserved g c =
    let n : ℕ = c.in_ok-n.n in
    let had : List ℕ = c.loop-bytes.bytes.items in
    let longer : c.extend_from_slice.new.self.items ≡ had ++ take n c.take.new.buf = c.in_ok-extend_from_slice.ensures.items in
    record {
      block = search rules;
      within = search rules;
      taken = subst (λ xs. Takes (g.S.Source.left c.args.source.now) (g.S.Source.left c.take.new.self) xs) (sym longer)
          (takes_more _ _ _ had (take n c.take.new.buf) c.loop-bytes.invariant.taken c.in_ok-n.ensures.taken);
      no_fault = search rules;
    }

pub returns-in_err-extend_from_slice-clause-err : goal.returns-in_err-extend_from_slice-clause-err
returns-in_err-extend_from_slice-clause-err g c =
    let taken : TakesUpTo (g.S.Source.left c.args.source.now) (g.S.Source.left c.take.new.self) (c.args.limit + 1) = (
      length c.loop-bytes.bytes.items + c.in_ok-n.n,
      omega (arith, c.loop-bytes.bytes.ok.0),
      takes_count_more _ _ _ c.loop-bytes.bytes.items c.take.new.buf c.in_ok-n.n _ c.loop-bytes.invariant.taken c.in_ok-n.ensures.taken
          c.in_ok-n.ensures.count refl,
    ) in
    on_err _ _ taken
