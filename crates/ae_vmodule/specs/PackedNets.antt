-- Declared names as they are kept in few bytes.
use Rattle.std.specs.Prelude.{ℕ, zero, suc, ◌+◌, ◌≤◌, Bool, true, false}
use Rattle.ae_vmodule.specs.declared.module.NetKind.{NetKind}
use Rattle.ae_vmodule.specs.declared.module.NetKind.TheVariants.{Input, Wire, OutWire, Reg, OutReg, Memory}
use Rattle.ae_vmodule.specs.declared.packed_net.PackedKind.{PackedKind}
use Rattle.ae_vmodule.specs.declared.packed_net.PackedKind.TheVariants as k

-- the width that is kept as this number: without a range 0, for one bit
abbrev pub kept_width : ℕ → ℕ
kept_width zero = 1
kept_width (suc w) = suc w

abbrev pub kept_ranged : ℕ → Bool
kept_ranged zero = false
kept_ranged (suc w) = true

-- the kind that is kept with the number of a memory's last word
abbrev pub kept_kind : PackedKind → ℕ → NetKind
kept_kind k.Input last = Input
kept_kind k.Wire last = Wire
kept_kind k.OutWire last = OutWire
kept_kind k.Reg last = Reg
kept_kind k.OutReg last = OutReg
kept_kind k.Memory last = Memory (last + 1)
kept_kind k.DeepMemory last = Memory 65537

-- it can be kept so: a memory has at most 65,537 words
abbrev pub FitsKind : NetKind → Type 0
FitsKind (Memory depth) = (1 ≤ depth) × (depth ≤ 65537)
FitsKind Input = Unit {0}
FitsKind Wire = Unit {0}
FitsKind OutWire = Unit {0}
FitsKind Reg = Unit {0}
FitsKind OutReg = Unit {0}
