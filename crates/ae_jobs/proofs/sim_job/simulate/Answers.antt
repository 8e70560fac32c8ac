use Rattle.std.proofs.Common.{sym, subst}
use Rattle.std.specs.Prelude.{string_bytes}
use Rattle.std.proofs.lemmas.Result.{IfOk-weaker}
use Rattle.ae_fields.specs.Rows.{rows}
use Rattle.ae_vmodule.specs.View.{module_tree}
use Rattle.ae_jobs.specs.declared.reply.Reply.{Reply}
use Rattle.ae_jobs.specs.SimTexts.{IsSimulated, SpellsOnly}
use Rattle.ae_jobs.specs.SimPlaying.{IsModuleReply, IsRefusedAs}
use Rattle.ae_jobs.proofs.SimModule.{simulated, unread}
use Rattle.ae_jobs.proofs.sim_job.simulate.Goals as goal

pub returns-in-Ok : goal.returns-in-Ok
returns-in-Ok c =
    let m = module_tree c.in-Ok.m in
    let table = rows c.args.rest.now in
    let only : SpellsOnly c.args.part.now m = record { spells = c.in-Ok.ensures.spelled; only = λ n s. sym (c.in-Ok.ensures.every_module n s) } in
    IfOk-weaker c.run_module.result (λ (r : Reply). IsModuleReply c.args.fill m table r.status (string_bytes r.text))
    (λ (r : Reply). IsSimulated c.args.fill c.args.part.now table r.status (string_bytes r.text))
    (λ r w. simulated c.args.fill c.args.part.now table m r.status (string_bytes r.text) only w) c.run_module.ensures

pub returns-in-Err : goal.returns-in-Err
returns-in-Err c =
    let table = rows c.args.rest.now in
    IfOk-weaker c.refused_as.result (λ (r : Reply). IsRefusedAs c.text_kind.result r.status (string_bytes r.text))
    (λ (r : Reply). IsSimulated c.args.fill c.args.part.now table r.status (string_bytes r.text))
    (λ r w. unread c.args.fill c.args.part.now table c.in-Err.fault r.status (string_bytes r.text)
    (subst (λ k. IsRefusedAs k r.status (string_bytes r.text)) c.text_kind.ensures w) c.in-Err.ensures.fault c.in-Err.ensures.every_module)
    c.refused_as.ensures
