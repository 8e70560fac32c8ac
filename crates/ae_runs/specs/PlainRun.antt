-- A plain, slow way to the run of a module: in each clock all wires are computed anew as often as there are wires.
use Rattle.std.specs.Prelude.{ℕ, zero, suc, if◌then◌else◌, List, [], ◌∷◌, length, Option, Some, None, bytes_eq, find}
use Rattle.ae_vmodule.specs.ModuleTree.{NetTree, DriveTree, ModuleTree}
use Rattle.ae_judge.specs.Names.{is_input_name, equations}
use Rattle.ae_runs.specs.Values.{ModuleClock, assigned}
use Rattle.ae_runs.specs.Runs.{clock_at, next_clock}

-- the equation of a name
unfoldable pub drive_named : List DriveTree → List ℕ → Option DriveTree
drive_named ds n = find (λ (d : DriveTree). bytes_eq d.name n) ds

abbrev pub driven_word : List NetTree → ModuleClock → Option DriveTree → ℕ → ℕ
driven_word ns c None x = x
driven_word ns c (Some d) x = assigned ns c d.name d.value

-- each wire computed from the words so far
unfoldable pub recomputed : ModuleTree → ModuleClock → ModuleClock
recomputed m c = record { word = λ n. driven_word m.nets c (drive_named (equations m) n) (c.word n); store = c.store }

abbrev pub recomputed_often : ModuleTree → ModuleClock → ℕ → ModuleClock
recomputed_often m c zero = c
recomputed_often m c (suc k) = recomputed m (recomputed_often m c k)

abbrev pub settled : ModuleTree → ModuleClock → ModuleClock
settled m c = recomputed_often m c (length (equations m))

-- the inputs as given, and registers and memories as they are next
unfoldable pub fed : ModuleTree → ModuleClock → ModuleClock → ModuleClock
fed m given next =
    record { word = λ n. if is_input_name m.nets n then given.word n else next.word n; store = next.store }

abbrev pub plain_clock : ModuleTree → List ModuleClock → ℕ → ModuleClock
plain_clock m given zero = settled m (clock_at given 0)
plain_clock m given (suc t) = settled m (fed m (clock_at given (suc t)) (next_clock m (plain_clock m given t)))

-- so many clocks, from number t on
abbrev pub clocks_from : (ℕ → ModuleClock) → (t n : ℕ) → List ModuleClock
clocks_from f t zero = []
clocks_from f t (suc n) = f t ∷ clocks_from f (suc t) n

-- the run on given inputs and first words
unfoldable pub plain_run : ModuleTree → List ModuleClock → List ModuleClock
plain_run m given = clocks_from (plain_clock m given) 0 (length given)
