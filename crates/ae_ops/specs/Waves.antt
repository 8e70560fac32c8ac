-- The words of a bundle in one run, and when they are those of another, some clocks later.
use Rattle.std.specs.Prelude.{◌≡◌, ℕ, ◌+◌, ◌-◌, ◌<◌, List, length, Option, Some, None, slice_get}
use Rattle.ae_netlist.specs.declared.cell.NetId.{NetId}
use Rattle.ae_netlist.specs.declared.cell.SizedCell.{SizedCell}
use Rattle.ae_netlist.specs.Circuit.{IsNet, width_of}
use Rattle.ae_netlist.specs.Runs.{Clock, word_at, InEveryResetRun}

-- a word for each clock after reset and each column
abbrev pub Wave : Type 0
Wave = (clock column : ℕ) → ℕ

-- the word of a net, where there is one
abbrev pub net_word : List Clock → ℕ → Option NetId → ℕ
net_word run t None = 0
net_word run t (Some net) = word_at run t net.0

-- the words of nets in a run whose clock 0 after reset is the start; there is 0 past the last net
unfoldable pub wave_of : List Clock → (start : ℕ) → List NetId → Wave
wave_of run start nets = λ c q. net_word run (start + c) (slice_get nets q)

-- from clock d on a wave has the words that another had d clocks before, in so many clocks after reset
abbrev pub IsLateWave : (clocks d : ℕ) → (wave late : Wave) → Type 0
IsLateWave clocks d wave late = (c q : ℕ) → c + d < clocks → late (c + d) q ≡ wave c q

-- the same of nets, in every reset run of every netlist that extends these cells
abbrev pub AreLate : List SizedCell → (rst d : ℕ) → (nets late : List NetId) → Type 0
AreLate cells rst d nets late =
    InEveryResetRun cells rst (λ run start. IsLateWave (length run - start) d (wave_of run start nets)
    (wave_of run start late))

-- nets of these widths, which are there and are no memories
pub record AreNets (cells : List SizedCell) (widths : List ℕ) (nets : List NetId) : Type 0 where
  pub long : length nets ≡ length widths
  pub each : (q width : ℕ) (net : NetId) → slice_get widths q ≡ Some width → slice_get nets q ≡ Some net
      → IsNet cells net.0 width

-- each of these nets is there and is no memory
abbrev pub HaveOwnWidths : List SizedCell → List NetId → Type 0
HaveOwnWidths cells nets =
    (q : ℕ) (net : NetId) → slice_get nets q ≡ Some net → IsNet cells net.0 (width_of cells net.0)
