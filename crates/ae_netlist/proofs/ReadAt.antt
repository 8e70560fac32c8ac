-- The words of runs, and operands, as look-ups with a default.
use Rattle.std.proofs.Common.{ℕ, ◌≡◌, ◌∙◌, List, [], slice_get, get_or, ap}
use Rattle.std.specs.Prelude.{unwrap_or}
use Rattle.std.proofs.lemmas.Option.{unwrap_or-slice_get}
use Rattle.ae_netlist.specs.declared.cell.NetId.{NetId}
use Rattle.ae_netlist.specs.Circuit.{operand}
use Rattle.ae_netlist.specs.Runs.{Clock, no_clock, word_at, store_at}

pub word_got : (run : List Clock) (t n : ℕ) → word_at run t n ≡ get_or (get_or run t no_clock).words n 0
unfolding word_at
word_got run t n = unwrap_or-slice_get (unwrap_or (slice_get run t) no_clock).words n 0
    ∙ ap (λ (c : Clock). get_or c.words n 0) (unwrap_or-slice_get run t no_clock)

pub store_got : (run : List Clock) (t n : ℕ) → store_at run t n ≡ get_or (get_or run t no_clock).stores n []
unfolding store_at
store_got run t n = unwrap_or-slice_get (unwrap_or (slice_get run t) no_clock).stores n []
    ∙ ap (λ (c : Clock). get_or c.stores n []) (unwrap_or-slice_get run t no_clock)

pub operand_got : (args : List NetId) (k : ℕ) → operand args k ≡ (get_or args k (record { 0 = 0 })).0
operand_got args k = ap (λ (n : NetId). n.0) (unwrap_or-slice_get args k (record { 0 = 0 }))
