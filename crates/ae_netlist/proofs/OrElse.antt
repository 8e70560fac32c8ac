-- The item at a place of a list that was made of others, or else a default.
use Rattle.std.proofs.Common.{ℕ, ◌≡◌, ◌∙◌, ◌+◌, ◌<◌, List, ◌++◌, length, map, take, drop, slice_get, sym, ap}
use Rattle.std.specs.Prelude.{unwrap_or}
use Rattle.std.proofs.lemmas.List.{get_or-drop, get_or-map, get_or-take, get_or_append_left}
use Rattle.std.proofs.lemmas.Option.{unwrap_or-slice_get}
use Rattle.ae_netlist.specs.declared.cell.SizedCell.{SizedCell}
use Rattle.ae_netlist.specs.Runs.{Clock, no_clock, IsRun, IsShaped}
use Rattle.ae_netlist.proofs.Shapes.{clock_shaped}

pub or_map : {X Y : Type 0} (f : X → Y) (xs : List X) (i : ℕ) (d : X) (e : Y) → i < length xs
    → unwrap_or (slice_get (map f xs) i) e ≡ f (unwrap_or (slice_get xs i) d)
or_map f xs i d e l = unwrap_or-slice_get (map f xs) i e ∙ get_or-map f xs i d e l ∙ ap f (sym (unwrap_or-slice_get xs i d))

pub or_drop : {X : Type 0} (n : ℕ) (xs : List X) (i : ℕ) (d : X) → unwrap_or (slice_get (drop n xs) i) d ≡ unwrap_or (slice_get xs (n + i)) d
or_drop n xs i d = unwrap_or-slice_get (drop n xs) i d ∙ get_or-drop n xs i d ∙ sym (unwrap_or-slice_get xs (n + i) d)

pub or_take : {X : Type 0} (n : ℕ) (xs : List X) (i : ℕ) (d : X) → i < n → unwrap_or (slice_get (take n xs) i) d ≡ unwrap_or (slice_get xs i) d
or_take n xs i d l = unwrap_or-slice_get (take n xs) i d ∙ get_or-take n xs i d l ∙ sym (unwrap_or-slice_get xs i d)

pub or_append_left : {X : Type 0} (xs ys : List X) (d : X) (i : ℕ) → i < length xs → unwrap_or (slice_get (xs ++ ys) i) d ≡ unwrap_or (slice_get xs i) d
or_append_left xs ys d i l = unwrap_or-slice_get (xs ++ ys) i d ∙ get_or_append_left xs ys d i l ∙ sym (unwrap_or-slice_get xs i d)

pub shaped_at : {cells : List SizedCell} {run : List Clock} → IsRun cells run → (t : ℕ) → t < length run → IsShaped cells (unwrap_or (slice_get run t) no_clock)
shaped_at {run = run} r t l = rw (unwrap_or-slice_get run t no_clock) (clock_shaped r t l)
