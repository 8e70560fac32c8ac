use Rattle.std.proofs.Common.{◌≡◌, Ok}
use Rattle.ae_vread.specs.Forms.{module_tokens}
use Rattle.ae_vread.specs.ItemReading.{read_module}
use Rattle.ae_vread.proofs.ReadLaws.{spelled_read}
use Rattle.ae_spelled.proofs.laws.spelled_once.Goals as goal

-- both are what reading the tokens answers
pub returns : goal.returns
returns c text m n short one other =
    let tokens = module_tokens one.form in
    let read : read_module tokens ≡ Ok m = spelled_read text tokens m one.written one in
    let again : read_module tokens ≡ Ok n = spelled_read text tokens n one.written other in
    cc
