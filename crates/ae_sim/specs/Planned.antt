-- What a clock does for each cell, and what a simulator knows of its netlist.
use Rattle.std.specs.Prelude.{◌≡◌, ℕ, ◌-◌, ◌<◌, ◌≤◌, ◌^◌, ◌%◌, ◌==◌, false, List, [], length, map, replicate, Some, slice_get, slice_set, get_or, if◌then◌else◌}
use Rattle.ae_word.specs.WordTable.{OperandsFit, is_signed, result_width_of, word_result}
use Rattle.ae_netlist.specs.declared.cell.Cell.{Cell}
use Rattle.ae_netlist.specs.declared.cell.Cell.TheVariants.{Input, Const, Op, Reg, Mem, Peek}
use Rattle.ae_netlist.specs.declared.cell.SizedCell.{SizedCell}
use Rattle.ae_netlist.specs.Circuit.{operand}
use Rattle.ae_netlist.specs.Counts.{is_input, is_register, is_memory, number_of, cells_of}
use Rattle.ae_netlist.specs.Rows.{Firsts, AreFirsts}
use Rattle.ae_sim.specs.declared.plan.Step.{Step}
use Rattle.ae_sim.specs.declared.plan.Step.TheVariants.{Fixed, Taken, Held, Seen, Made}
use Rattle.ae_sim.specs.declared.plan.Register.{Register}
use Rattle.ae_sim.specs.declared.plan.Memory.{Memory}

-- the step of a cell: memories, registers and inputs by their numbers
abbrev pub step_for : List SizedCell → (n width : ℕ) → Cell → Step
step_for cells n width (Input port) = Taken (number_of is_input cells n)
step_for cells n width (Const k) = Fixed k
step_for cells n width (Op op args) = Made op (2 ^ width - 1) (operand args 0) (operand args 1) (operand args 2)
step_for cells n width (Reg next) = Held (number_of is_register cells n)
step_for cells n width (Mem depth at next enable) = Fixed 0
step_for cells n width (Peek mem at) = Seen (number_of is_memory cells mem.0) at.0

abbrev pub next_of : Cell → ℕ
next_of (Input port) = 0
next_of (Const k) = 0
next_of (Op op args) = 0
next_of (Reg next) = next.0
next_of (Mem depth at next enable) = 0
next_of (Peek mem at) = 0

-- what a register takes, and what it begins with
abbrev pub register_for : ℕ → SizedCell → Register
register_for fill sized = record { next = next_of sized.cell; held = fill % 2 ^ sized.width }

-- a memory without where its words lie
pub record MemoryTree : Type 0 where
  pub at : ℕ
  pub next : ℕ
  pub enable : ℕ
  pub words : List ℕ

abbrev pub memory_tree : Memory → MemoryTree
memory_tree m = record { at = m.at; next = m.next; enable = m.enable; words = m.words.items }

abbrev pub tree_of : ℕ → Cell → MemoryTree
tree_of word (Input port) = record { at = 0; next = 0; enable = 0; words = [] }
tree_of word (Const k) = record { at = 0; next = 0; enable = 0; words = [] }
tree_of word (Op op args) = record { at = 0; next = 0; enable = 0; words = [] }
tree_of word (Reg next) = record { at = 0; next = 0; enable = 0; words = [] }
tree_of word (Mem depth at next enable) =
    record { at = at.0; next = next.0; enable = enable.0; words = replicate depth word }
tree_of word (Peek mem at) = record { at = 0; next = 0; enable = 0; words = [] }

abbrev pub filled_memory : ℕ → SizedCell → MemoryTree
filled_memory word sized = tree_of word sized.cell

abbrev pub memory_for : ℕ → SizedCell → MemoryTree
memory_for fill sized = filled_memory (fill % 2 ^ sized.width) sized

-- a memory writes what and where its cell says
abbrev pub WritesAs : Memory → Cell → Type 0
WritesAs memory (Input port) = Unit {0}
WritesAs memory (Const k) = Unit {0}
WritesAs memory (Op op args) = Unit {0}
WritesAs memory (Reg next) = Unit {0}
WritesAs memory (Mem depth at next enable) = (memory.at ≡ at.0) × (memory.next ≡ next.0) × (memory.enable ≡ enable.0)
WritesAs memory (Peek mem at) = Unit {0}

-- the memories of cells, each by its number
pub record AreMemories (cells : List SizedCell) (memories : List Memory) : Type 0 where
  pub each : (k : ℕ) (sized : SizedCell) (memory : Memory) → slice_get (cells_of is_memory cells) k ≡ Some sized
      → slice_get memories k ≡ Some memory → WritesAs memory sized.cell

abbrev pub held_of : List Register → List Memory → Firsts
held_of registers memories =
    record { registers = map (λ r. r.held) registers; memories = map (λ m. m.words.items) memories }

-- what a step reads is there
abbrev pub IsReady : Step → (words inputs registers memories : ℕ) → Type 0
IsReady (Fixed k) words inputs registers memories = Unit {0}
IsReady (Taken k) words inputs registers memories = k < inputs
IsReady (Held k) words inputs registers memories = k < registers
IsReady (Seen m at) words inputs registers memories = (m < memories) × (at < words)
IsReady (Made op mask a b c) words inputs registers memories =
    (is_signed op ≡ false) × (a < words) × (b < words) × (c < words)

-- the word that a step gives
abbrev pub Gives : Step → (words inputs : List ℕ) → Firsts → ℕ → Type 0
Gives (Fixed k) words inputs held word = word ≡ k
Gives (Taken k) words inputs held word = word ≡ get_or inputs k 0
Gives (Held k) words inputs held word = word ≡ get_or held.registers k 0
Gives (Seen m at) words inputs held word = word ≡ get_or (get_or held.memories m []) (get_or words at 0) 0
Gives (Made op mask a b c) words inputs held word =
    (w : ℕ) → w ≤ 64 → mask ≡ 2 ^ result_width_of op w - 1
    → OperandsFit op w (get_or words a 0) (get_or words b 0) (get_or words c 0)
    → word ≡ word_result op w (get_or words a 0) (get_or words b 0) (get_or words c 0)

-- a register after a clock
abbrev pub turned : List ℕ → Register → Register
turned words r = record { next = r.next; held = get_or words r.next 0 }

-- what a memory holds after a clock
abbrev pub written : List ℕ → Memory → List ℕ → List ℕ
written words memory store =
    if get_or words memory.enable 0 == 1 then slice_set store (get_or words memory.at 0)
    (get_or words memory.next 0) else store

-- memory k is the one that was there, after a clock
pub record IsAfter (words : List ℕ) (before : Memory) (memories : List Memory) (k : ℕ) : Type 0 where
  pub memory : Memory
  pub found : slice_get memories k ≡ Some memory
  pub same_at : memory.at ≡ before.at
  pub same_next : memory.next ≡ before.next
  pub same_enable : memory.enable ≡ before.enable
  pub wrote : memory.words.items ≡ written words before before.words.items

-- the words below a number fit the widths of their nets
abbrev pub FitBelow : List SizedCell → List ℕ → ℕ → Type 0
FitBelow cells words n =
    (i : ℕ) (sized : SizedCell) → i < n → slice_get cells i ≡ Some sized → get_or words i 0 < 2 ^ sized.width

-- what a simulator knows of its netlist
pub record IsPlanned (cells : List SizedCell) (numbers : List ℕ) (words : List ℕ) (registers : List Register)
    (memories : List Memory) : Type 0 where
  pub numbered : length numbers ≡ length cells
  pub counts : (n : ℕ) → n < length cells → get_or numbers n 0 ≡ number_of is_memory cells n
  pub long : length words ≡ length cells
  pub held : AreFirsts cells (held_of registers memories)
  pub nexts : map (λ r. r.next) registers ≡ map (λ s. next_of s.cell) (cells_of is_register cells)
  pub ports : AreMemories cells memories
