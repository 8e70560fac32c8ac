-- The circuit of a schedule is one for each program with it.
use Rattle.std.proofs.Common.{ℕ, ◌≡◌, ◌<◌, List, length, Some, slice_get, ap, ◌∙◌, subst}
use Rattle.ae_seq.specs.ProgramTree.{ProgramTree}
use Rattle.ae_eval.specs.Stack.{IsTyped}
use Rattle.ae_rewrite.specs.Interface.{HaveLayouts}
use Rattle.ae_rewrite.specs.Scheduled.{IsSchedule}
use Rattle.ae_rewrite.specs.Sound.{IsSound, item_layouts}
use Rattle.ae_rewrite.specs.StProgramTree.{StFuncTree}
use Rattle.ae_ports.specs.Ports.{output_ports}
use Rattle.ae_lower.specs.Circuits.{last_of, results_of}
use Rattle.ae_lower.specs.Laws.{CircuitsAreFor}
use Rattle.ae_lower.proofs.Blocks.{keys_of, program_instance, results_streams}
use Rattle.ae_lower.proofs.Layouts.{parameters_laid, results_laid}

pub layouts : (p : ProgramTree) (slowdown : ℕ) (instances : List StFuncTree) (s : StFuncTree) → IsTyped p → IsSchedule p slowdown instances → IsSound instances
    → slice_get instances (last_of instances) ≡ Some s
    → HaveLayouts p slowdown s.ins (results_of s)
layouts p slowdown instances s typed schedule sound found =
    let own = program_instance p slowdown instances s schedule found in
    let below : (j r : ℕ) → slice_get s.results j ≡ Some r → r < length (item_layouts s) = (sound.each (last_of instances) s found).results in
    let here : HaveLayouts p s.budget s.ins (results_of s) = record {
      parameters = parameters_laid p (keys_of instances) s typed own.is own.last;
      results = results_laid p (keys_of instances) s typed own.is own.last below;
    } in
    subst (λ d. HaveLayouts p d s.ins (results_of s)) own.budget here

pub circuits_for : CircuitsAreFor
circuits_for p slowdown instances s n typed schedule sound found c lean = (
  layouts p slowdown instances s typed schedule sound found,
  record {
    inputs = c.inputs;
    no_others = c.no_others;
    outputs = c.outputs ∙ ap output_ports (results_streams s);
    makes = c.makes p slowdown typed schedule;
    formed = c.formed;
    shown = c.shown;
    whole = c.whole;
    small = c.small;
    muls = c.muls;
    memories = c.memories;
    lean = lean;
  },
)
