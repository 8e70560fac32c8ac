use Rattle.std.proofs.Common.{◌∷◌, [], length, ap, arith, length-append}
use Rattle.std.proofs.lemmas.List.{length-map}
use Rattle.ae_seq.specs.declared.program.Program.{Program}
use Rattle.ae_seq.specs.ProgramTree.{func_tree, program_tree}
use Rattle.ae_eval.specs.Stack.{starts_from, starts_of, types_in}
use Rattle.ae_eval.proofs.Starting.{starts-more}
use Rattle.ae_eval.proofs.starts.all_starts.Goals as goal

pub loop-func-init : goal.loop-func-init
loop-func-init c = record { count = ap (λ xs. length (starts_of xs)) c.new-found.ensures.items; starts = λ k h. absurd (omega (arith, h)) }

pub func_starts-requires-clause-typed : goal.func_starts-requires-clause-typed
func_starts-requires-clause-typed c = record { is_formed = c.program.ensures.is_formed; accepted = c.program.ensures.accepted }

pub loop-func-preserved : goal.loop-func-preserved
loop-func-preserved c =
    let starts = starts_of c.loop-func.found.items in
    let own = c.in_ok-own.own.items in
    record {
      count = omega (arith, ap length c.in_ok-append.ensures, length-append starts (own ∷ []), c.loop-func.invariant.count);
      starts = rw c.in_ok-append.ensures
          (starts-more starts own c.loop-func.func (λ k. starts_from 0 (types_in (program_tree c.args.p.now) k)) c.loop-func.invariant.count
          c.loop-func.invariant.starts c.in_ok-own.ensures);
    }

pub returns : goal.returns
returns c = λ k h.
    let all = length-map c.args.p.now.funcs.items func_tree in
    let read = ap (λ (q : Program). length q.funcs.items) c.program.ensures.program in
    c.loop-func.invariant.starts k (omega (arith, h, all, read, c.len-func-end.ensures, c.loop-func-test.false, c.program.result.now.funcs.ok))
