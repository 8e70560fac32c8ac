-- Modules of which no fault comes before that of a loop.
use Rattle.ae_vmodule.specs.ModuleTree.{ModuleTree}
use Rattle.ae_judge.specs.Faults.{HasUnknown, HasTwice, HasKind, HasUndriven, HasWidth, Never}

pub record IsRegular (m : ModuleTree) : Type 0 where
  pub known : Never (HasUnknown m)
  pub once : Never (HasTwice m)
  pub kinds : Never (HasKind m)
  pub driven : Never (HasUndriven m)
  pub widths : Never (HasWidth m)
