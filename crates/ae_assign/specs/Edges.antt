-- What registers and memories take at a clock edge, by nets.
use Rattle.std.specs.Prelude.{◌≡◌, ℕ, ◌*◌, ◌<◌, ◌==◌, ◌≢◌, Bool, true, if◌then◌else◌, List, length, Option, Some, None, get_or, slice_get, slice_set}
use Rattle.ae_word.specs.WordTable.{bit}
use Rattle.ae_netlist.specs.declared.cell.NetId.{NetId}
use Rattle.ae_netlist.specs.declared.cell.SizedCell.{SizedCell}
use Rattle.ae_netlist.specs.declared.cell.Cell.TheVariants.{Reg, Mem}
use Rattle.ae_netlist.specs.Circuit.{Circuit, IsConstantBelow, IsNet, IsWritten, new_memory}
use Rattle.ae_netlist.specs.Runs.{Clock, word_at, store_at, InEveryRunFrom}
use Rattle.ae_vmodule.specs.declared.module.NetKind.{NetKind}
use Rattle.ae_vmodule.specs.declared.module.NetKind.TheVariants.{Input, Wire, OutWire, Reg as RegName, OutReg, Memory}
use Rattle.ae_vmodule.specs.ModuleTree.{StmtTree, set, put, when, either, block_end, block_more, index, NetTree, ItemTree, nets, assigns, always}
use Rattle.ae_judge.specs.Names.{Among, is_memory_name, is_register_name, is_register_kind, stmt_targets}
use Rattle.ae_runs.specs.Values.{ModuleClock}
use Rattle.ae_judge.specs.Weight.{stmt_weight}
use Rattle.ae_runs.specs.Runs.{after_items}
use Rattle.ae_judge.specs.Faults.{IsRepeated}
use Rattle.ae_gates.specs.Cells.{AddsGates, IsWord}
use Rattle.ae_runs.specs.Named.{AreNamed, IsNamed, IsReady, place_of, read}
use Rattle.ae_order.specs.Sound.{IsReadyFor, IsSound}
use Rattle.ae_runs.specs.Guards.{guarded}
use Rattle.ae_assign.specs.declared.statements.Next.{Next}
use Rattle.ae_assign.specs.declared.statements.Next.TheVariants.{Keep, Word, Write}

-- the weight of the statements of an item
abbrev pub edge_weight : ItemTree → ℕ
edge_weight (nets drives) = 0
edge_weight (assigns drives) = 0
edge_weight (always clock body) = stmt_weight 0 body

-- a statement that assigns registers and memories, and whose expressions have values
abbrev pub IsSoundStmt : List NetTree → StmtTree → Type 0
IsSoundStmt ns (set n value) = IsNamed ns n × (is_register_name ns n ≡ true) × IsSound ns value
IsSoundStmt ns (put n at value) = IsSound ns (index n at) × (is_memory_name ns n ≡ true) × IsSound ns value
IsSoundStmt ns (when test taken) = IsSound ns test × IsSoundStmt ns taken
IsSoundStmt ns (either test taken otherwise) = IsSound ns test × IsSoundStmt ns taken × IsSoundStmt ns otherwise
IsSoundStmt ns block_end = Unit {0}
IsSoundStmt ns (block_more first rest) = IsSoundStmt ns first × IsSoundStmt ns rest

-- each name in it has its net
abbrev pub IsReadyStmt : List NetTree → List (Option NetId) → StmtTree → Type 0
IsReadyStmt ns ys (set n value) = IsReady ns ys n × IsReadyFor ns ys value
IsReadyStmt ns ys (put n at value) = IsReadyFor ns ys (index n at) × IsReadyFor ns ys value
IsReadyStmt ns ys (when test taken) = IsReadyFor ns ys test × IsReadyStmt ns ys taken
IsReadyStmt ns ys (either test taken otherwise) =
    IsReadyFor ns ys test × IsReadyStmt ns ys taken × IsReadyStmt ns ys otherwise
IsReadyStmt ns ys block_end = Unit {0}
IsReadyStmt ns ys (block_more first rest) = IsReadyStmt ns ys first × IsReadyStmt ns ys rest

-- a bit that says where a statement is reached; none is always 1
abbrev pub IsGuardNet : List SizedCell → Option NetId → Type 0
IsGuardNet cells None = Unit {0}
IsGuardNet cells (Some y) = IsNet cells y.0 1

abbrev pub IsGuard : ℕ → List SizedCell → Option NetId → (List Clock → ℕ → Bool) → Type 0
IsGuard from cells None g = (run : List Clock) (t : ℕ) → g run t ≡ true
IsGuard from cells (Some y) g = IsWord from cells y.0 1 (λ run t. bit (g run t))

-- the net has this value in each clock of every run, whatever its width
abbrev pub IsAddressWord : ℕ → List SizedCell → ℕ → (List Clock → ℕ → ℕ) → Type 0
IsAddressWord from cells net value =
    InEveryRunFrom from cells (λ run. (t : ℕ) → t < length run → word_at run t net ≡ value run t)

-- what the name at a place takes at the edge
abbrev pub next_at : List NetTree → List Next → List ℕ → Next
next_at ns nexts n = get_or nexts (place_of ns n) Keep

-- a register takes the word of a net of its width; a memory is written
abbrev pub FitsNext : List SizedCell → NetTree → Next → Type 0
FitsNext cells x Keep = Unit {0}
FitsNext cells x (Word y) = (is_register_kind x.kind ≡ true) × IsNet cells y.0 x.width
FitsNext cells x (Write at word enable) =
    (depth : ℕ) × (x.kind ≡ Memory depth) × IsWritten cells x.width depth at.0 word.0 enable.0

pub record FitNexts (ns : List NetTree) (nexts : List Next) (cells : List SizedCell) : Type 0 where
  pub long : length nexts ≡ length ns
  pub each : (p : ℕ) (x : NetTree) (k : Next) → slice_get ns p ≡ Some x → slice_get nexts p ≡ Some k
      → FitsNext cells x k

-- no memory among these names is to be written yet, and none of them stands there twice
pub record AreFresh (ns : List NetTree) (nexts : List Next) (targets : List (List ℕ)) : Type 0 where
  pub kept : (n : List ℕ) → Among n targets → is_memory_name ns n ≡ true → next_at ns nexts n ≡ Keep
  pub once : (n : List ℕ) → is_memory_name ns n ≡ true → IsRepeated n targets → ⊥

-- other names take what they took
abbrev pub OthersKeep : List NetTree → (old new : List Next) → List (List ℕ) → Type 0
OthersKeep ns old new targets = (n : List ℕ) → (Among n targets → ⊥) → next_at ns new n ≡ next_at ns old n

-- the word and the store that are taken from those of a name's own net
abbrev pub next_word : Next → List Clock → (t own : ℕ) → ℕ
next_word Keep run t own = word_at run t own
next_word (Word y) run t own = word_at run t y.0
next_word (Write at word enable) run t own = word_at run t own

abbrev pub next_store : Next → List Clock → (t own : ℕ) → List ℕ
next_store Keep run t own = store_at run t own
next_store (Word y) run t own = store_at run t own
next_store (Write at word enable) run t own =
    if word_at run t enable.0 == 1
    then slice_set (store_at run t own) (word_at run t at.0) (word_at run t word.0)
    else store_at run t own

-- the clock that is next, by name
unfoldable pub next_read : List NetTree → List Next → (List ℕ → ℕ) → List Clock → ℕ → ModuleClock
next_read ns nexts at run t = record {
  word = λ n. next_word (next_at ns nexts n) run t (at n);
  store = λ n. next_store (next_at ns nexts n) run t (at n);
}

-- a register's next word so far: not that of a memory
abbrev pub IsWordNext : Next → Type 0
IsWordNext Keep = Unit {0}
IsWordNext (Word y) = Unit {0}
IsWordNext (Write at word enable) = ⊥

-- its net, where the register itself is net own
abbrev pub IsSoFar : Next → (own net : NetId) → Type 0
IsSoFar Keep own net = net ≡ own
IsSoFar (Word y) own net = net ≡ y
IsSoFar (Write at word enable) own net = ⊥

-- in every run, what is next is what a guarded statement makes of what was next
abbrev pub Acts : ℕ → List NetTree → List (Option NetId) → Option NetId → (before after : List SizedCell)
    → (old new : List Next) → StmtTree → Type 0
Acts from ns ys guard before after old new s =
    (at : List ℕ → ℕ) (g : List Clock → ℕ → Bool) → AreNamed ns ys at → IsGuard from before guard g
    → InEveryRunFrom from after (λ run. (t : ℕ) → t < length run
    → next_read ns new at run t ≡ guarded ns (read at run t) s (g run t) (next_read ns old at run t))

-- the netlist has grown by the cells of a guarded statement, at most 8 for each unit of its weight, and what is next is what
-- the statement makes of it
pub record IsActed (from : ℕ) (ns : List NetTree) (ys : List (Option NetId)) (guard : Option NetId) (old new : Circuit)
    (before after : List Next) (s : StmtTree) : Type 0 where
  pub adds : AddsGates old new (8 * stmt_weight 0 s)
  pub nexts : FitNexts ns after new.cells
  pub others : OthersKeep ns before after (stmt_targets s)
  pub acts : Acts from ns ys guard old.cells new.cells before after s

-- the same of the statements of an item
abbrev pub IsActiveItem : List NetTree → List (Option NetId) → ItemTree → Type 0
IsActiveItem ns ys (nets drives) = Unit {0}
IsActiveItem ns ys (assigns drives) = Unit {0}
IsActiveItem ns ys (always clock body) = IsSoundStmt ns body × IsReadyStmt ns ys body

-- in every run, what is next is what items make of what was next
abbrev pub ActsItems : ℕ → List NetTree → List (Option NetId) → (after : List SizedCell) → (old new : List Next)
    → List ItemTree → Type 0
ActsItems from ns ys after old new is =
    (at : List ℕ → ℕ) → AreNamed ns ys at
    → InEveryRunFrom from after (λ run. (t : ℕ) → t < length run
    → next_read ns new at run t ≡ after_items ns (read at run t) is (next_read ns old at run t))

-- a register's next net, where its own is known, and a memory's cell
abbrev pub next_net : Next → (own : ℕ) → NetId
next_net Keep own = record { 0 = own }
next_net (Word y) own = y
next_net (Write at word enable) own = record { 0 = own }

abbrev pub next_memory : Next → (own width depth : ℕ) → SizedCell
next_memory Keep own width depth = new_memory own width depth
next_memory (Word y) own width depth = new_memory own width depth
next_memory (Write at word enable) own width depth = record { width = width; cell = Mem depth at word enable }

-- the cell of a register or a memory that is connected
abbrev pub IsConnected : NetKind → List SizedCell → (own width : ℕ) → Next → Type 0
IsConnected Input cells own width k = Unit {0}
IsConnected Wire cells own width k = Unit {0}
IsConnected OutWire cells own width k = Unit {0}
IsConnected RegName cells own width k =
    slice_get cells own ≡ Some (record { width = width; cell = Reg (next_net k own) })
IsConnected OutReg cells own width k =
    slice_get cells own ≡ Some (record { width = width; cell = Reg (next_net k own) })
IsConnected (Memory depth) cells own width k = slice_get cells own ≡ Some (next_memory k own width depth)

-- each constant stays
abbrev pub KeepsConstants : List SizedCell → List SizedCell → Type 0
KeepsConstants a b = (n bound : ℕ) → IsConstantBelow a n bound → IsConstantBelow b n bound

-- all cells but one stay
abbrev pub OthersStay : List SizedCell → List SizedCell → ℕ → Type 0
OthersStay a b net = (n : ℕ) → n ≢ net → slice_get b n ≡ slice_get a n
