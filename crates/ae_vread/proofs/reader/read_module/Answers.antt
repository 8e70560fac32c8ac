use Rattle.std.proofs.Common.{[], ap, ◌∙◌, refl}
use Rattle.ae_vmodule.specs.View.{word_at}
use Rattle.ae_vtoken.specs.Ahead.{ahead}
use Rattle.ae_vmodule.specs.declared.module.VModule.{VModule}
use Rattle.ae_vread.proofs.Meanings.{named_kept}
use Rattle.ae_vread.proofs.ReadSteps.{held_first, module_is}
use Rattle.ae_vread.proofs.reader.read_module.Goals as goal

pub returns-in-Ok : goal.returns-in-Ok
returns-in-Ok c =
    let h = c.in-Ok.ensures.read in
    let x = c.in_ok-items-in-Ok.ensures _ (held_first _ _ _ c.header.new.self h.0 [] c.new-nets.ensures.items refl h.2) in
    let whole : VModule = record { words = c.in_ok-words-in-Ok.words; name = c.in-Ok.name; nets = c.items.new.nets; items = c.in_ok-items-in-Ok.items } in
    module_is (ahead c.args.start.tokens) h.0 x.0 whole c.items.new.self c.len-most.result h.1 c.len-most.ensures x.1
    (ap (λ ws. word_at ws c.in-Ok.name) c.in_ok-words-in-Ok.ensures ∙ named_kept _ _ c.in-Ok.name h.0.name h.3 x.3) c.in_ok-words-in-Ok.ensures x.2
