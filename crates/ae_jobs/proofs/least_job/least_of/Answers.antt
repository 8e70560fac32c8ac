use Rattle.std.proofs.Common.{refl, subst}
use Rattle.ae_seq.specs.ProgramTree.{program_tree}
use Rattle.ae_least.specs.declared.faults.LeastFault.{LeastFault}
use Rattle.ae_least.specs.declared.faults.LeastFault.TheVariants as f
use Rattle.ae_least.specs.LeastTexts.{IsLeastFault}
use Rattle.ae_jobs.specs.declared.status.Status.TheVariants.{NoSchedule, NotMoves}
use Rattle.ae_jobs.proofs.LeastTold.{refused_of}
use Rattle.ae_jobs.proofs.least_job.least_of.Goals as goal

pub returns-in-Err-NotMoves : goal.returns-in-Err-NotMoves
returns-in-Err-NotMoves c =
    let p = program_tree c.args.p.now in
    let line = c.in-Err-NotMoves.line in
    let why : IsLeastFault p c.args.slowdown (f.NotMoves line) = subst
    (λ (x : LeastFault). IsLeastFault p c.args.slowdown x) c.in-Err-NotMoves.field-0-is c.in-Err-NotMoves.ensures.refused in
    refused_of c.refused.result p c.args.slowdown (NotMoves line) (why, refl) c.refused.ensures

pub returns-in-Err-NoSchedule : goal.returns-in-Err-NoSchedule
returns-in-Err-NoSchedule c =
    let p = program_tree c.args.p.now in
    let line = c.in-Err-NoSchedule.line in
    let why : IsLeastFault p c.args.slowdown (f.NoSchedule line) = subst
    (λ (x : LeastFault). IsLeastFault p c.args.slowdown x) c.in-Err-NoSchedule.field-0-is c.in-Err-NoSchedule.ensures.refused in
    refused_of c.refused-in-Err-NoSchedule.result p c.args.slowdown (NoSchedule line) (why.0, why.1, refl) c.refused-in-Err-NoSchedule.ensures
