-- The runs of a module: lists of clocks that meet its equations, which have no order.
use Rattle.std.specs.Prelude.{ℕ, ◌≡◌, ◌+◌, ◌<◌, ◌≤◌, ◌^◌, false, List, [], ◌∷◌, length, slice_get, unwrap_or, All, codes}
use Rattle.ae_vmodule.specs.declared.module.NetKind.{NetKind}
use Rattle.ae_vmodule.specs.declared.module.NetKind.TheVariants.{Input, Wire, OutWire, Reg, OutReg, Memory}
use Rattle.ae_vmodule.specs.ModuleTree.{NetTree, DriveTree, ItemTree, nets, assigns, always, ModuleTree}
use Rattle.ae_judge.specs.Names.{Among, is_clock, equations}
use Rattle.ae_runs.specs.Values.{ModuleClock, assigned, after_stmt}

unfoldable pub idle_clock : ModuleClock
idle_clock = record { word = λ n. 0; store = λ n. [] }

abbrev pub clock_at : List ModuleClock → ℕ → ModuleClock
clock_at run t = unwrap_or (slice_get run t) idle_clock

-- what a clock has for a name: a memory so many words of its width, and another name one word
abbrev pub FitsKind : NetKind → (width word : ℕ) → (store : List ℕ) → Type 0
FitsKind Input width word store = word < 2 ^ width
FitsKind Wire width word store = word < 2 ^ width
FitsKind OutWire width word store = word < 2 ^ width
FitsKind Reg width word store = word < 2 ^ width
FitsKind OutReg width word store = word < 2 ^ width
FitsKind (Memory depth) width word store = (length store ≡ depth) × All (λ x. x < 2 ^ width) store

-- a clock has something for each name but the clock
pub record IsModuleShaped (m : ModuleTree) (c : ModuleClock) : Type 0 where
  pub holds : (x : NetTree) → Among x m.nets → is_clock m x.name ≡ false
      → FitsKind x.kind x.width (c.word x.name) (c.store x.name)

-- each wire has the value of its expression
pub record IsSettled (m : ModuleTree) (c : ModuleClock) : Type 0 where
  pub wires : (d : DriveTree) → Among d (equations m) → c.word d.name ≡ assigned m.nets c d.name d.value

-- the items in order, with all names as in clock c: the last assignment that is reached counts
abbrev pub after_item : List NetTree → ModuleClock → ItemTree → ModuleClock → ModuleClock
after_item ns c (nets drives) next = next
after_item ns c (assigns drives) next = next
after_item ns c (always clock body) next = after_stmt ns c body next

abbrev pub after_items : List NetTree → ModuleClock → List ItemTree → ModuleClock → ModuleClock
after_items ns c [] next = next
after_items ns c (i ∷ is) next = after_items ns c is (after_item ns c i next)

-- what the `always` items make of a clock; what none of them changes stays
unfoldable pub next_clock : ModuleTree → ModuleClock → ModuleClock
next_clock m c = after_items m.nets c m.items c

abbrev pub StepsTo : NetKind → (word next_word : ℕ) → (store next_store : List ℕ) → Type 0
StepsTo Input word next_word store next_store = Unit {0}
StepsTo Wire word next_word store next_store = Unit {0}
StepsTo OutWire word next_word store next_store = Unit {0}
StepsTo Reg word next_word store next_store = next_word ≡ word
StepsTo OutReg word next_word store next_store = next_word ≡ word
StepsTo (Memory depth) word next_word store next_store = next_store ≡ store

-- from a clock to the next, registers and memories change as the `always` items say, all together
pub record IsStep (m : ModuleTree) (c d : ModuleClock) : Type 0 where
  pub steps : (x : NetTree) → Among x m.nets
      → StepsTo x.kind ((next_clock m c).word x.name) (d.word x.name) ((next_clock m c).store x.name) (d.store x.name)

-- a run: what is not said of a word here is free
pub record IsModuleRun (m : ModuleTree) (run : List ModuleClock) : Type 0 where
  pub shaped : (t : ℕ) → t < length run → IsModuleShaped m (clock_at run t)
  pub settles : (t : ℕ) → t < length run → IsSettled m (clock_at run t)
  pub steps : (t : ℕ) → t + 1 < length run → IsStep m (clock_at run t) (clock_at run (t + 1))

-- `rst` is 1 in the first clocks, at least one, and 0 in all others; clocks are counted from start
pub record IsResetRun (m : ModuleTree) (run : List ModuleClock) (start : ℕ) : Type 0 where
  pub run_of : IsModuleRun m run
  pub some : 1 ≤ start
  pub high : (t : ℕ) → t < start → t < length run → (clock_at run t).word (codes "rst") ≡ 1
  pub low : (t : ℕ) → start ≤ t → t < length run → (clock_at run t).word (codes "rst") ≡ 0

-- the words that a run may choose are the given ones: those of the inputs, and what registers and memories begin with
abbrev pub ModuleAgreesAt : NetKind → (t : ℕ) → (word given_word : ℕ) → (store given_store : List ℕ) → Type 0
ModuleAgreesAt Input t word given_word store given_store = word ≡ given_word
ModuleAgreesAt Wire t word given_word store given_store = Unit {0}
ModuleAgreesAt OutWire t word given_word store given_store = Unit {0}
ModuleAgreesAt Reg t word given_word store given_store = t ≡ 0 → word ≡ given_word
ModuleAgreesAt OutReg t word given_word store given_store = t ≡ 0 → word ≡ given_word
ModuleAgreesAt (Memory depth) t word given_word store given_store = t ≡ 0 → store ≡ given_store

pub record ModuleAgrees (m : ModuleTree) (t : ℕ) (given c : ModuleClock) : Type 0 where
  pub same : (x : NetTree) → Among x m.nets → is_clock m x.name ≡ false
      → ModuleAgreesAt x.kind t (c.word x.name) (given.word x.name) (c.store x.name) (given.store x.name)

-- a run as long as the given clocks, with their inputs and first words
pub record IsModuleRunOn (m : ModuleTree) (given run : List ModuleClock) : Type 0 where
  pub long : length run ≡ length given
  pub runs : IsModuleRun m run
  pub agrees : (t : ℕ) → t < length given → ModuleAgrees m t (clock_at given t) (clock_at run t)

-- the same words for a name
abbrev pub SameAt : NetKind → (word other_word : ℕ) → (store other_store : List ℕ) → Type 0
SameAt Input word other_word store other_store = word ≡ other_word
SameAt Wire word other_word store other_store = word ≡ other_word
SameAt OutWire word other_word store other_store = word ≡ other_word
SameAt Reg word other_word store other_store = word ≡ other_word
SameAt OutReg word other_word store other_store = word ≡ other_word
SameAt (Memory depth) word other_word store other_store = store ≡ other_store

-- the same words for each name but the clock
pub record IsSameClock (m : ModuleTree) (c d : ModuleClock) : Type 0 where
  pub same : (x : NetTree) → Among x m.nets → is_clock m x.name ≡ false
      → SameAt x.kind (c.word x.name) (d.word x.name) (c.store x.name) (d.store x.name)

-- for any inputs and any first words there is exactly one run
abbrev pub HasOneModuleRun : ModuleTree → Type 0
HasOneModuleRun m =
    (given : List ModuleClock) → ((t : ℕ) → t < length given → IsModuleShaped m (clock_at given t))
    → (run : List ModuleClock) × IsModuleRunOn m given run
    × ((other : List ModuleClock) → IsModuleRunOn m given other → (t : ℕ) → t < length given
    → IsSameClock m (clock_at other t) (clock_at run t))
