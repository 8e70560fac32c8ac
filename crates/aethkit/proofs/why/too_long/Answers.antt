use Rattle.std.proofs.Common.{◌≡◌, ◌<◌, ◌++◌, ℕ, List, String, Global, length, refl, string_bytes}
use Rattle.std.proofs.lemmas.Result.{IfOk-weaker}
use Rattle.ae_tool.specs.declared.command.Command.{Command as Job}
use Rattle.ae_jobs.specs.declared.status.Status.TheVariants.{TooLong}
use Rattle.ae_tool.specs.Commands.{IsCommand, TakesInput}
use Rattle.ae_tool.specs.Outcomes.{input_limit}
use Rattle.aethkit.specs.Explained.{IsExplained, Refused}
use Rattle.aethkit.proofs.why.too_long.Goals as goal

pub returns : goal.returns
returns g c =
    IfOk-weaker c.joined.result (λ (out : String Global). string_bytes out ≡ string_bytes c.in_ok-line.line ++ c.as_str.result.now)
    (λ (out : String Global). (words : List (List ℕ)) (bytes : List ℕ) (job : Job) →
    IsCommand words job → TakesInput job → input_limit < length bytes → IsExplained words bytes (string_bytes out))
    (λ out e words bytes job named takes long.
    Refused TooLong refl (string_bytes c.in_ok-line.line) c.as_str.result.now (job, named, takes, long, c.in_ok-line.ensures) e)
    c.joined.ensures
