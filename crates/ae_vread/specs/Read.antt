-- What the readers of the code give, apart from where it lies in memory.
use Rattle.std.specs.Prelude.{◌≡◌, ℕ, true, false, List, Option, Some, None, Result, Ok, Err, slice_get}
use Rattle.ae_vtoken.specs.Tokens.{TokenTree}
use Rattle.ae_vread.specs.TokenTests.{first_name}
use Rattle.ae_vread.specs.ItemReading.{one_more}
use Rattle.ae_vmodule.specs.declared.module.VNet.{VNet}
use Rattle.ae_vmodule.specs.declared.module.NetKind.{NetKind}
use Rattle.ae_vread.specs.declared.reading.ReadFault.{ReadFault}
use Rattle.ae_vread.specs.declared.reading.ReadFault.TheVariants.{Syntax, Memory}

abbrev pub Fails : {Y : Type 0} → ReadFault → Option Y → Type 0
Fails Syntax read = read ≡ None
Fails Memory read = Unit {0}

-- these tokens are what a step goes on with
abbrev pub Steps : {X : Type 0} → List TokenTree → Result X ReadFault → Option (List TokenTree) → Type 0
Steps now (Ok x) read = read ≡ Some now
Steps now (Err e) read = Fails e read

abbrev pub Deepens : Result ℕ ReadFault → Option ℕ → Type 0
Deepens (Ok depth) read = read ≡ Some depth
Deepens (Err e) read = Fails e read

-- the number of the name in front of the tokens, and the tokens behind it
abbrev pub IsNamed : List TokenTree → List TokenTree → List (List ℕ) → ℕ → Type 0
IsNamed ts rest words k = (n : List ℕ) × (first_name ts ≡ Some (n, rest)) × (slice_get words k ≡ Some n)

-- this number, and these tokens behind it
abbrev pub Numbers : List TokenTree → Result ℕ ReadFault → Option (ℕ × List TokenTree) → Type 0
Numbers now (Ok n) read = read ≡ Some (n, now)
Numbers now (Err e) read = Fails e read

-- this range, and these tokens behind it
abbrev pub Ranges : List TokenTree → Result (Option ℕ) ReadFault → Option (Option ℕ × List TokenTree) → Type 0
Ranges now (Ok high) read = read ≡ Some (high, now)
Ranges now (Err e) read = Fails e read

-- the net of a declaration; a width above 255 is kept as 255
abbrev pub net_of : ℕ → Option ℕ → NetKind → ℕ → VNet
net_of name None kind item = record { name = name; width = 1; ranged = false; kind = kind; item = item }
net_of name (Some high) kind item =
    record { name = name; width = one_more 255 high; ranged = true; kind = kind; item = item }

-- this kind of ports, and these tokens behind it
abbrev pub Heads : List TokenTree → Result NetKind ReadFault → Option (NetKind × List TokenTree) → Type 0
Heads now (Ok kind) read = read ≡ Some (kind, now)
Heads now (Err e) read = Fails e read

-- the number of the name that was read, and these tokens behind it
abbrev pub Clocks : List TokenTree → List (List ℕ) → Result ℕ ReadFault → Option (List ℕ × List TokenTree) → Type 0
Clocks now words (Ok k) read = (n : List ℕ) × (read ≡ Some (n, now)) × (slice_get words k ≡ Some n)
Clocks now words (Err e) read = Fails e read
