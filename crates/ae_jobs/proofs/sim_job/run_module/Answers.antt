use Rattle.std.proofs.Common.{subst}
use Rattle.std.specs.Prelude.{string_bytes}
use Rattle.std.proofs.lemmas.Result.{IfOk-weaker}
use Rattle.ae_fields.specs.Rows.{rows}
use Rattle.ae_vmodule.specs.View.{module_tree}
use Rattle.ae_jobs.specs.declared.reply.Reply.{Reply}
use Rattle.ae_jobs.specs.SimPlaying.{IsModuleReply, IsNetSim, IsRefusedAs, Played, Refused}
use Rattle.ae_jobs.proofs.SimModule.{few_inputs, sim_of}
use Rattle.ae_jobs.proofs.sim_job.run_module.Goals as goal

pub run_netlist-requires-clause-few : goal.run_netlist-requires-clause-few
run_netlist-requires-clause-few c = few_inputs (module_tree c.args.m) c.in-Ok.nl c.in-Ok.ensures.well_formed c.in-Ok.ensures.runs

pub returns-in-Ok : goal.returns-in-Ok
returns-in-Ok c =
    let m = module_tree c.args.m in
    let table = rows c.args.rest.now in
    IfOk-weaker c.run_netlist.result (λ (r : Reply). IsNetSim c.args.fill c.in-Ok.nl table r.status (string_bytes r.text))
    (λ (r : Reply). IsModuleReply c.args.fill m table r.status (string_bytes r.text))
    (λ r w. Played c.in-Ok.ensures.well_formed (sim_of m c.in-Ok.nl c.args.fill table r.status (string_bytes r.text) c.in-Ok.ensures.runs w))
    c.run_netlist.ensures

pub returns-in-Err : goal.returns-in-Err
returns-in-Err c =
    let m = module_tree c.args.m in
    let table = rows c.args.rest.now in
    IfOk-weaker c.refused_as.result (λ (r : Reply). IsRefusedAs c.module_kind.result r.status (string_bytes r.text))
    (λ (r : Reply). IsModuleReply c.args.fill m table r.status (string_bytes r.text))
    (λ r w. Refused c.in-Err.fault c.in-Err.ensures.fault (subst (λ k. IsRefusedAs k r.status (string_bytes r.text)) c.module_kind.ensures w))
    c.refused_as.ensures
