-- The law of a part that takes a block of values each period (Durst et al., PLDI 2020, for types in space and time).
use Rattle.std.specs.Prelude.{◌≡◌, ℕ, ◌+◌, ◌-◌, ◌*◌, ◌%◌, ◌^◌, ◌<◌, ◌≤◌, List, [], ◌∷◌, length, map, Some, slice_get}
use Rattle.ae_word.specs.AtomTree.{WordKind, atom_kinds}
use Rattle.ae_seqtype.specs.SeqTree.{repeated}
use Rattle.ae_sttype.specs.declared.st_type.Slot.{Slot}
use Rattle.ae_sttype.specs.StTree.{StTree, lanes, element_atom}
use Rattle.ae_sttype.specs.Slots.{slots}
use Rattle.ae_sttype.specs.Holds.{Holds}
use Rattle.ae_netlist.specs.declared.cell.NetId.{NetId}
use Rattle.ae_netlist.specs.declared.cell.SizedCell.{SizedCell}
use Rattle.ae_netlist.specs.Runs.{InEveryResetRun}
use Rattle.ae_ops.specs.Waves.{Wave, wave_of, AreNets}

-- where a value stands on a bundle: the slot of each element, on so many lanes, and the widths of an element's words
pub record Stream : Type 0 where
  pub slots : List Slot
  pub lanes : ℕ
  pub widths : List ℕ

-- where the values of a layout stand
abbrev pub stream_of : StTree → Stream
stream_of s = record { slots = slots s; lanes = lanes s; widths = map (λ (k : WordKind). k.width) (atom_kinds (element_atom s)) }

-- the widths of a bundle's nets, by lane and then by word
abbrev pub stream_widths : Stream → List ℕ
stream_widths s = repeated s.lanes s.widths

-- the words of a value, by element and then by word: each is below 2 to its width
pub record AreWords (s : Stream) (words : List ℕ) : Type 0 where
  pub long : length words ≡ length s.slots * length s.widths
  pub fit : (i x w : ℕ) → slice_get words i ≡ Some x → slice_get s.widths (i % length s.widths) ≡ Some w → x < 2 ^ w

abbrev pub AllAreWords : List Stream → List (List ℕ) → Type 0
AllAreWords [] [] = Unit {0}
AllAreWords (s ∷ ss) (v ∷ vs) = AreWords s v × AllAreWords ss vs
AllAreWords _ _ = ⊥

-- a wave holds these words from clock k on
abbrev pub HoldsWords : (k : ℕ) → Stream → Wave → List ℕ → Type 0
HoldsWords k s wave ws = Holds wave k (length s.widths) s.slots ws

abbrev pub AllHold : (k : ℕ) → List Stream → List Wave → List (List ℕ) → Type 0
AllHold k [] [] [] = Unit {0}
AllHold k (s ∷ ss) (w ∷ ws) (v ∷ vs) = HoldsWords k s w v × AllHold k ss ws vs
AllHold k _ _ _ = ⊥

-- what a part is: its period and latency, what goes in and out, the words that it makes of words, and what it costs
pub record Part : Type 0 where
  pub period : ℕ
  pub latency : ℕ
  pub ins : List Stream
  pub out : Stream
  pub means : List (List ℕ) → List ℕ
  pub most_cells : ℕ
  pub products : ℕ
  pub most_memories : ℕ

-- in so many clocks after reset: each block that the inputs hold makes the output hold its meaning, the latency later
pub record BlockLaw (clocks arrival : ℕ) (part : Part) (ins : List Wave) (out : Wave) : Type 0 where
  pub makes : (b : ℕ) (vs : List (List ℕ)) → arrival + part.latency + (b + 1) * part.period ≤ clocks → AllAreWords part.ins vs
      → AllHold (arrival + b * part.period) part.ins ins vs → HoldsWords (arrival + part.latency + b * part.period) part.out out (part.means vs)

-- the law in every reset run of every netlist that extends these cells
abbrev pub KeepsLaw : List SizedCell → (rst arrival : ℕ) → Part → (ins : List (List NetId)) → (out : List NetId) → Type 0
KeepsLaw cells rst arrival part ins out =
    InEveryResetRun cells rst (λ run start. BlockLaw (length run - start) arrival part (map (wave_of run start) ins) (wave_of run start out))

-- a bundle for each stream
pub record AreBundles (cells : List SizedCell) (streams : List Stream) (bundles : List (List NetId)) : Type 0 where
  pub long : length bundles ≡ length streams
  pub each : (k : ℕ) (stream : Stream) (nets : List NetId) → slice_get streams k ≡ Some stream → slice_get bundles k ≡ Some nets → AreNets cells (stream_widths stream) nets
