use Rattle.std.proofs.Common.{◌<◌, ◌^◌, List, ℕ, length, sym, subst}
use Rattle.std.proofs.lemmas.Result.{IfOk-weaker}
use Rattle.ae_vmodule.specs.ModuleTree.{ModuleTree}
use Rattle.ae_vread.specs.Spells.{Spells}
use Rattle.ae_vmodule.specs.View.{module_tree}
use Rattle.ae_judge.specs.Faults.{IsWellFormed}
use Rattle.ae_runs.specs.SameRuns.{HasSameRuns}
use Rattle.ae_compile.proofs.NoFaults.{only_text_memory}
use Rattle.ae_compile.proofs.read_back.read_back.Goals as goal

pub netlist_of-requires-clause-spelled : goal.netlist_of-requires-clause-spelled
netlist_of-requires-clause-spelled c =
    (c.as_bytes.result.now, subst (λ (bs : List ℕ). length bs < 2 ^ 32) (sym c.as_bytes.ensures.value) c.requires.short, c.in-Ok.ensures.spelled)

pub netlist_of-requires-clause-formed : goal.netlist_of-requires-clause-formed
netlist_of-requires-clause-formed c =
    let spells = subst (λ (bs : List ℕ). Spells bs c.requires.formed.0) (sym c.as_bytes.ensures.value) c.requires.formed.1 in
    subst IsWellFormed (sym (c.in-Ok.ensures.every_module c.requires.formed.0 spells)) c.requires.formed.2

pub text_memory_alone-requires : goal.text_memory_alone-requires
text_memory_alone-requires c =
    let spells = subst (λ (bs : List ℕ). Spells bs c.requires.formed.0) (sym c.as_bytes.ensures.value) c.requires.formed.1 in
    only_text_memory c.requires.formed.0 c.in-Err.fault (c.in-Err.ensures.every_module c.requires.formed.0 spells)

pub returns-in-Ok : goal.returns-in-Ok
returns-in-Ok c =
    IfOk-weaker c.netlist_of.result (λ n. HasSameRuns (module_tree c.in-Ok.m) n) (λ n. (m : ModuleTree) → Spells c.args.text.now m → HasSameRuns m n)
    (λ n same m spells. subst (λ (t : ModuleTree). HasSameRuns t n)
    (c.in-Ok.ensures.every_module m (subst (λ (bs : List ℕ). Spells bs m) (sym c.as_bytes.ensures.value) spells)) same) c.netlist_of.ensures
