-- Where a module is well formed, or a text spells one, nothing is wrong but that memory ran out.
use Rattle.std.proofs.Common.{◌≡◌, Err, refl, arith}
use Rattle.ae_vmodule.specs.ModuleTree.{ModuleTree}
use Rattle.ae_vread.specs.Refusals.{GivesModule}
use Rattle.ae_vread.specs.declared.reader.VFault.{VFault}
use Rattle.ae_vread.specs.declared.reader.VFault.TheVariants as v
use Rattle.ae_judge.specs.declared.fault.ElabFault.{ElabFault}
use Rattle.ae_judge.specs.declared.fault.ElabFault.TheVariants as e
use Rattle.ae_judge.specs.Faults.{IsFault, IsWellFormed}

pub only_memory : (m : ModuleTree) (fault : ElabFault) → IsWellFormed m → IsFault m fault → fault ≡ e.Memory
only_memory m (e.Unknown item) formed f = absurd (formed.known item f.0)
only_memory m (e.Twice item) formed f = absurd (formed.once item f.1.0)
only_memory m (e.Kind item) formed f = absurd (formed.kinds item f.2.0)
only_memory m (e.Undriven net) formed f = absurd (formed.driven net f.3.0)
only_memory m (e.Width item) formed f = absurd (formed.widths item f.4.0)
only_memory m (e.Loop net) formed f = absurd (formed.no_loop net f.5)
only_memory m e.Large formed f = let small = formed.small in absurd (omega (arith, small, f.6))
only_memory m e.Memory formed f = refl

pub only_text_memory : (m : ModuleTree) (fault : VFault) → GivesModule m (Err fault) → fault ≡ v.Memory
only_text_memory m (v.BadToken at) g = absurd g
only_text_memory m v.BadHeader g = absurd g
only_text_memory m (v.BadItem item) g = absurd g
only_text_memory m v.Memory g = refl
