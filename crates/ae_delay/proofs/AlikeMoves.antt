-- Moves between layouts that differ only in the invalid slots at their end cost the same, but for what depends on the clocks
-- in which blocks follow one another.
use Rattle.std.proofs.Common.{ℕ, zero, suc, ◌≡◌, ◌+◌, ◌-◌, ◌*◌, ◌/◌, ◌%◌, ◌<◌, ◌≤◌, inl, inr, ◌⊎◌, Bool, true, false, ◌&&◌, cond, nat_eq, nat_le, List, [], ◌∷◌, map, sum_by, Some, slice_get, arith, refl, sym, ap, ◌∙◌}
use Rattle.std.specs.List.{range_with_len, list_all}
use Rattle.std.proofs.lemmas.Bool.{cases_eq, le-leb}
use Rattle.std.proofs.lemmas.List.Sums.{sum_by-cons}
use Rattle.std.specs.Prelude.{unwrap_or}
use Rattle.ae_sttype.specs.StTree.{StTree, atom, tseq, sseq, time, st_atoms, element_atom, element_words}
use Rattle.ae_sttype.specs.Size.{IsInSize}
use Rattle.ae_sttype.specs.Moves.{OriginTree, SourceTree, TripTree, latency_of_trips, runs_of, from_input, fixed, place, constant, age_from, are_held, column_delay, column_number, columns_of, delay_of, is_in_column, slot_number, source_clock, source_of, uses_of}
use Rattle.ae_moves.specs.Origins.{move_trips}
use Rattle.ae_moves.specs.Rings.{column_mems, mems_of, rings}
use Rattle.ae_moves.proofs.Lists.{fold_ge}
use Rattle.ae_moves.proofs.Words.{columns_small}
use Rattle.ae_rewrite.specs.declared.st_program.MoveOp.{MoveOp}
use Rattle.ae_delay.specs.declared.moves.MoveCosts.{MoveCosts}
use Rattle.ae_rewrite.specs.Sound.{IsMoveFrom}
use Rattle.ae_delay.specs.Alike.{trimmed}
use Rattle.ae_delay.specs.Bounds.{AreSmall}
use Rattle.ae_delay.specs.Moving.{costs_of_move, op_move}
use Rattle.ae_delay.proofs.Small.{small_move}
use Rattle.ae_delay.proofs.Sourced.{op_is_move}

-- ---- the trips

source_trimmed : (a : StTree) (o : OriginTree) → source_of (a ∷ []) o ≡ source_of (trimmed a ∷ []) o
source_trimmed (atom x) o = refl
source_trimmed (tseq n i t) (from_input zero e j) = refl
source_trimmed (tseq n i t) (from_input (suc k) e j) = refl
source_trimmed (tseq n i t) (fixed w) = refl
source_trimmed (sseq n t) o = refl

-- the trips, where only the layouts of what is taken and of what is made are told
abbrev trips_by : (source : OriginTree → SourceTree) (out : StTree) (origins : List OriginTree) → List TripTree
trips_by source out origins =
    map (λ o. let t : TripTree = record {
      clock = (slot_number out (o / element_words out)).clock;
      column = column_number out (o / element_words out) (o % element_words out);
      source = source (unwrap_or (slice_get origins o) (fixed 0));
    } in t) (range_with_len 0 (st_atoms out * element_words out))

out_trimmed : (source : OriginTree → SourceTree) (out : StTree) (origins : List OriginTree)
    → trips_by source out origins ≡ trips_by source (trimmed out) origins
out_trimmed source (atom x) origins = refl
out_trimmed source (tseq n i t) origins = refl
out_trimmed source (sseq n t) origins = refl

origins_trimmed : (how : MoveOp) (a s : StTree) → (op_move how a s).origins ≡ (op_move how (trimmed a) (trimmed s)).origins
origins_trimmed how (atom x) (atom y) = refl
origins_trimmed how (atom x) (tseq m j u) = refl
origins_trimmed how (atom x) (sseq m u) = refl
origins_trimmed how (tseq n i t) (atom y) = refl
origins_trimmed how (tseq n i t) (tseq m j u) = refl
origins_trimmed how (tseq n i t) (sseq m u) = refl
origins_trimmed how (sseq n t) (atom y) = refl
origins_trimmed how (sseq n t) (tseq m j u) = refl
origins_trimmed how (sseq n t) (sseq m u) = refl

same_map : {X Y : Type 0} (f g : X → Y) → ((x : X) → f x ≡ g x) → (xs : List X) → map f xs ≡ map g xs
same_map f g h [] = refl
same_map f g h (x ∷ xs) = ap (λ y. y ∷ map f xs) (h x) ∙ ap (λ ys. g x ∷ ys) (same_map f g h xs)

abbrev trip_by : (source : OriginTree → SourceTree) (out : StTree) (origins : List OriginTree) → ℕ → TripTree
trip_by source out origins o = record {
  clock = (slot_number out (o / element_words out)).clock;
  column = column_number out (o / element_words out) (o % element_words out);
  source = source (unwrap_or (slice_get origins o) (fixed 0));
}

trips_from : (a out : StTree) (origins : List OriginTree) → trips_by (source_of (a ∷ [])) out origins ≡ trips_by (source_of (trimmed a ∷ [])) out origins
trips_from a out origins =
    same_map (trip_by (source_of (a ∷ [])) out origins) (trip_by (source_of (trimmed a ∷ [])) out origins)
    (λ o. ap (λ (s : SourceTree). let t : TripTree = record {
      clock = (slot_number out (o / element_words out)).clock;
      column = column_number out (o / element_words out) (o % element_words out);
      source = s;
    } in t)
    (source_trimmed a (unwrap_or (slice_get origins o) (fixed 0))))
    (range_with_len 0 (st_atoms out * element_words out))

trips_trimmed : (how : MoveOp) (a s : StTree) → move_trips (op_move how a s) ≡ move_trips (op_move how (trimmed a) (trimmed s))
trips_trimmed how a s =
    out_trimmed (source_of (a ∷ [])) s (op_move how a s).origins
    ∙ trips_from a (trimmed s) (op_move how a s).origins
    ∙ ap (trips_by (source_of (trimmed a ∷ [])) (trimmed s)) (origins_trimmed how a s)

columns_trimmed : (a : StTree) → columns_of a ≡ columns_of (trimmed a)
columns_trimmed (atom x) = refl
columns_trimmed (tseq n i t) = refl
columns_trimmed (sseq n t) = refl

-- ---- the period matters only where a word is kept longer

abbrev taken : (period d clock : ℕ) → TripTree → Bool
taken p d k t = nat_eq (source_clock t.source) k && nat_le (t.clock + d - source_clock t.source) p

aged : (d q : ℕ) (c : ℕ) (s : SourceTree) → is_in_column q s ≡ true → age_from d q c s ≡ c + d - source_clock s
aged d q c (place k p) on = ap (λ b. cond b (c + d - k) 0) on
aged d q c (constant w) on = cc

-- all uses of the column are within both periods
same_taken : (p r d q k : ℕ) (trips : List TripTree) → ((n : ℕ) (t : TripTree) → slice_get trips n ≡ Some t → (age_from d q t.clock t.source ≤ p)
    × (age_from d q t.clock t.source ≤ r))
    → list_all (taken p d k) (uses_of q trips) ≡ list_all (taken r d k) (uses_of q trips)
same_taken p r d q k [] h = refl
same_taken p r d q k (t ∷ ts) h = by (is_in_column q t.source) refl (same_taken p r d q k ts (λ n x f. h (suc n) x f))
  where
    by : (b : Bool) → is_in_column q t.source ≡ b → list_all (taken p d k) (uses_of q ts) ≡ list_all (taken r d k) (uses_of q ts)
        → list_all (taken p d k) (uses_of q (t ∷ ts)) ≡ list_all (taken r d k) (uses_of q (t ∷ ts))
    by true e rest =
        let own = h 0 t refl in
        let is : age_from d q t.clock t.source ≡ t.clock + d - source_clock t.source = aged d q t.clock t.source e in
        let first : nat_le (t.clock + d - source_clock t.source) p ≡ true = le-leb (t.clock + d - source_clock t.source) p (omega (arith, own.0, is)) in
        let second : nat_le (t.clock + d - source_clock t.source) r ≡ true = le-leb (t.clock + d - source_clock t.source) r (omega (arith, own.1, is)) in
        let both : taken p d k t ≡ taken r d k t = ap (λ b. nat_eq (source_clock t.source) k && b) (first ∙ sym second) in
        rw (e, both) (ap (λ b. taken r d k t && b) rest)
    by false e rest = rw e rest

same_held : (p r d : ℕ) (uses : List TripTree) → ((k : ℕ) → list_all (taken p d k) uses ≡ list_all (taken r d k) uses) → are_held p d uses ≡ are_held r d uses
same_held p r d [] h = refl
same_held p r d (x ∷ xs) h = h (source_clock x.source)

same_mems : (p r d q : ℕ) (trips : List TripTree) → column_delay d q trips ≤ p → column_delay d q trips ≤ r → column_mems p d q trips ≡ column_mems r d q trips
same_mems p r d q trips hp hr =
    ap (λ b. cond b 0 (rings (column_delay d q trips)))
    (same_held p r d (uses_of q trips) (λ k. same_taken p r d q k trips (λ n t f.
    let l : age_from d q t.clock t.source ≤ column_delay d q trips = fold_ge (λ (x : TripTree). age_from d q x.clock x.source) 0 trips n t f in
    (omega (arith, l, hp), omega (arith, l, hr)))))

-- ---- sums over columns

one_of : (f : ℕ → ℕ) (a n q : ℕ) → a ≤ q → q < a + n → f q ≤ sum_by f (range_with_len a n)
one_of f a zero q l h = absurd (omega (arith, l, h))
one_of f a (suc n) q l h = elim (cases_eq q a) [
  | inl e ↦ rw e (omega (arith, sum_by-cons f a (range_with_len (a + 1) n)))
  | inr ne ↦ omega (arith, sum_by-cons f a (range_with_len (a + 1) n), one_of f (a + 1) n q (omega (arith, l, ne)) (omega (arith, h)))
]

same_sum : (f g : ℕ → ℕ) (a n : ℕ) → ((q : ℕ) → a ≤ q → q < a + n → f q ≡ g q) → sum_by f (range_with_len a n) ≡ sum_by g (range_with_len a n)
same_sum f g a zero h = refl
same_sum f g a (suc n) h =
    sum_by-cons f a (range_with_len (a + 1) n)
    ∙ ap (λ x. x + sum_by f (range_with_len (a + 1) n)) (h a (omega arith) (omega arith))
    ∙ ap (λ x. g a + x) (same_sum f g (a + 1) n (λ q l m. h q (omega (arith, l)) (omega (arith, m))))
    ∙ sym (sum_by-cons g a (range_with_len (a + 1) n))

same_period : (p r d columns : ℕ) (trips : List TripTree) → delay_of d columns trips ≤ p → delay_of d columns trips ≤ r
    → mems_of p d columns trips ≡ mems_of r d columns trips
same_period p r d columns trips hp hr =
    same_sum (λ q. column_mems p d q trips) (λ q. column_mems r d q trips) 0 columns (λ q l m.
    let part : column_delay d q trips ≤ delay_of d columns trips = one_of (λ x. column_delay d x trips) 0 columns q l m in
    same_mems p r d q trips (omega (arith, part, hp)) (omega (arith, part, hr)))

-- ---- what a move costs

abbrev costs_by : (trips : List TripTree) (ins outs period : ℕ) → MoveCosts
costs_by trips ins outs period = record {
  latency = latency_of_trips trips;
  delay = delay_of (latency_of_trips trips) ins trips;
  runs = runs_of (latency_of_trips trips) outs trips;
  mems = mems_of period (latency_of_trips trips) ins trips;
}

in_period : (trips : List TripTree) (ins outs p r : ℕ) → (p ≡ r)
    ⊎ ((delay_of (latency_of_trips trips) ins trips ≤ p) × (delay_of (latency_of_trips trips) ins trips ≤ r))
    → costs_by trips ins outs p ≡ costs_by trips ins outs r
in_period trips ins outs p r (inl e) = ap (costs_by trips ins outs) e
in_period trips ins outs p r (inr h) =
    ap (λ m. let c : MoveCosts = record {
      latency = latency_of_trips trips;
      delay = delay_of (latency_of_trips trips) ins trips;
      runs = runs_of (latency_of_trips trips) outs trips;
      mems = m;
    } in c)
    (same_period p r (latency_of_trips trips) ins trips h.0 h.1)

-- the move from b to t costs what that from a to s does
alike_costs : (how : MoveOp) (a s b t : StTree) → trimmed a ≡ trimmed b → trimmed s ≡ trimmed t
    → (time s ≡ time t) ⊎ (((costs_of_move (op_move how a s)).delay ≤ time s) × ((costs_of_move (op_move how a s)).delay ≤ time t))
    → costs_of_move (op_move how a s) ≡ costs_of_move (op_move how b t)
alike_costs how a s b t ea es near =
    let trips : move_trips (op_move how a s) ≡ move_trips (op_move how b t) =
    trips_trimmed how a s ∙ ap (λ x. move_trips (op_move how x (trimmed s))) ea ∙ ap (λ y. move_trips (op_move how (trimmed b) y)) es ∙
    sym (trips_trimmed how b t) in
    let ins : columns_of a ≡ columns_of b = columns_trimmed a ∙ ap columns_of ea ∙ sym (columns_trimmed b) in
    let outs : columns_of s ≡ columns_of t = columns_trimmed s ∙ ap columns_of es ∙ sym (columns_trimmed t) in
    in_period (move_trips (op_move how a s)) (sum_by columns_of (a ∷ [])) (columns_of s) (time s) (time t) near
    ∙ ap (λ x. costs_by x (sum_by columns_of (a ∷ [])) (columns_of s) (time t)) trips
    ∙ ap (λ n. costs_by (move_trips (op_move how b t)) (0 + n) (columns_of s) (time t)) ins
    ∙ ap (λ n. costs_by (move_trips (op_move how b t)) (sum_by columns_of (b ∷ [])) n (time t)) outs

-- the same, where the costs, the clocks and the operator have other names
pub like_costs : (how to : MoveOp) (a s b t : StTree) (c : MoveCosts) (p r : ℕ) → c ≡ costs_of_move (op_move how a s) → p ≡ time s → r ≡ time t → how ≡ to
    → (p ≡ r) ⊎ ((c.delay ≤ p) × (c.delay ≤ r))
    → trimmed a ≡ trimmed b → trimmed s ≡ trimmed t → c ≡ costs_of_move (op_move to b t)
like_costs how to a s b t c p r right ep er eh near ea es =
    let kept : c.delay ≡ (costs_of_move (op_move how a s)).delay = ap (λ (x : MoveCosts). x.delay) right in
    let within : (time s ≡ time t) ⊎ (((costs_of_move (op_move how a s)).delay ≤ time s) × ((costs_of_move (op_move how a s)).delay ≤ time t)) =
    elim near [
      | inl e ↦ inl (sym ep ∙ e ∙ er)
      | inr h ↦ inr (omega (arith, h.0, kept, ep), omega (arith, h.1, kept, er))
    ] in
    right ∙ alike_costs how a s b t ea es within ∙ ap (λ h. costs_of_move (op_move h b t)) eh

pub small_op : (how : MoveOp) (a s : StTree) (c : MoveCosts) → IsInSize a → IsInSize s → time a ≡ time s → element_atom a ≡ element_atom s
    → IsMoveFrom how (st_atoms a) (st_atoms s) → c ≡ costs_of_move (op_move how a s) → AreSmall c
small_op how a s c size out clocks same from e =
    rw e (small_move (op_move how a s) (op_is_move how a s size out clocks same from) (omega (arith, columns_small a size)))
