-- What the cells of a queue make so in every run.
use Rattle.std.proofs.Common.{ℕ, zero, suc, ◌≡◌, ◌+◌, ◌*◌, ◌<◌, ◌≤◌, inl, inr, List, [], ◌∷◌, length, Some, slice_get, unwrap_or, Bool, arith, refl, sym, ap, ◌∙◌, subst}
use Rattle.std.specs.Prelude.{◌&&◌, ◌||◌, not, if◌then◌else◌}
use Rattle.std.proofs.lemmas.Bool.{cases_eq}
use Rattle.ae_netlist.specs.declared.cell.NetId.{NetId}
use Rattle.ae_netlist.specs.declared.cell.SizedCell.{SizedCell}
use Rattle.ae_netlist.specs.Circuit.{Circuit}
use Rattle.ae_netlist.specs.Runs.{Clock, no_clock, word_at, IsRun}
use Rattle.ae_stream.specs.Queue.{next_a, next_b}
use Rattle.ae_stream.specs.Streams.{bit}
use Rattle.ae_stream.specs.Control.{word_in}
use Rattle.ae_control.specs.declared.driver.Controlled.{Controlled}
use Rattle.ae_control.specs.Cells.{IsLonger, choice, taking}
use Rattle.ae_control.specs.Controls.{net, row}
use Rattle.ae_control.specs.Columns.{AreColumns, HasColumn, net_at}
use Rattle.ae_control.proofs.Cells.{longer_refl, longer_trans}

module _ (all : List SizedCell) (c : Controlled) (made : NetId) (at : ℕ) (h : HasColumn all c made at) (run : List Clock) (r : IsRun all run) where
  word_of : (width n k a b : ℕ) → slice_get all n ≡ Some (choice width (row k a b)) → (t : ℕ) → t < length run
      → word_in n (unwrap_or (slice_get run t) no_clock) ≡ (if bit k (unwrap_or (slice_get run t) no_clock) then word_in a
      (unwrap_or (slice_get run t) no_clock) else word_in b (unwrap_or (slice_get run t) no_clock))
  unfolding word_at
  word_of width n k a b found t l = r.settles t n (choice width (row k a b)) l found

  taken : (width n m : ℕ) → slice_get all n ≡ Some (taking width (net m)) → (t : ℕ) → t + 1 < length run
      → word_in n (unwrap_or (slice_get run (t + 1)) no_clock) ≡ word_in m (unwrap_or (slice_get run t) no_clock)
  unfolding word_at
  taken width n m found t l = r.steps t n (taking width (net m)) l found

  pub second_next : (t : ℕ) → t + 1 < length run → word_in (at + 1) (unwrap_or (slice_get run (t + 1)) no_clock)
      ≡ next_b (bit c.two.0 (unwrap_or (slice_get run t) no_clock)) (word_in (at + 1) (unwrap_or (slice_get run t) no_clock))
      (word_in made.0 (unwrap_or (slice_get run t) no_clock))
  second_next t l = taken h.width (at + 1) (at + 2) h.second t l ∙ word_of h.width (at + 2) c.two.0 (at + 1) made.0 h.next t (omega arith)

  pub shown_next : (pop one : Bool) (t : ℕ) → t + 1 < length run → bit c.moves.0 (unwrap_or (slice_get run t) no_clock) ≡ (pop || not one)
      → word_in at (unwrap_or (slice_get run (t + 1)) no_clock)
      ≡ next_a one (bit c.two.0 (unwrap_or (slice_get run t) no_clock)) pop (word_in at (unwrap_or (slice_get run t) no_clock))
      (word_in (at + 1) (unwrap_or (slice_get run t) no_clock))
      (word_in made.0 (unwrap_or (slice_get run t) no_clock))
  shown_next pop one t l e =
      let k : Clock = unwrap_or (slice_get run t) no_clock in
      taken h.width at (at + 3) h.shown t l
      ∙ (word_of h.width (at + 3) c.moves.0 (at + 2) at h.moved t (omega arith)
      ∙ (ap (λ v. if v then word_in (at + 2) k else word_in at k) e
      ∙ ap (λ v. if pop || not one then v else word_in at k) (word_of h.width (at + 2) c.two.0 (at + 1) made.0 h.next t (omega arith))))

pub column_kept : {cells all : List SizedCell} {c : Controlled} {made : NetId} {at : ℕ}
    → ((n : ℕ) (sized : SizedCell) → at ≤ n → slice_get cells n ≡ Some sized → slice_get all n ≡ Some sized) → HasColumn cells c made at
    → HasColumn all c made at
column_kept {at = at} k h = record {
  width = h.width;
  shown = k at _ (omega arith) h.shown;
  second = k (at + 1) _ (omega arith) h.second;
  next = k (at + 2) _ (omega arith) h.next;
  moved = k (at + 3) _ (omega arith) h.moved;
}

-- the first so many nets have their queues
pub record HasSome (old new : Circuit) (c : Controlled) (made : List NetId) (count : ℕ) : Type 0 where
  pub longer : IsLonger old new
  pub long : length new.cells ≡ length old.cells + 4 * count
  pub each : (k : ℕ) (net : NetId) → k < count → slice_get made k ≡ Some net → HasColumn new.cells c net (length old.cells + 4 * k)

pub some_none : (a : Circuit) (c : Controlled) (made : List NetId) → HasSome a a c made 0
some_none a c made = record { longer = longer_refl a; long = omega arith; each = λ k n l. absurd (omega arith) }

pub some_more : (a b new : Circuit) (c : Controlled) (made : List NetId) (count : ℕ) (next : NetId) → HasSome a b c made count
    → slice_get made count ≡ Some next
    → IsLonger b new → length new.cells ≡ length b.cells + 4 → HasColumn new.cells c next (length b.cells) → HasSome a new c made (count + 1)
some_more a b new c made count next h found longer long column = record {
  longer = longer_trans h.longer longer;
  long = omega (arith, h.long, long);
  each = λ k n l there. elim (cases_eq k count) [
    | inl same ↦
        let e : next ≡ n = (let x : Some next ≡ Some n = sym found ∙ (ap (slice_get made) (sym same) ∙ there) in cc) in
        let p : length b.cells ≡ length a.cells + 4 * k = omega (arith, h.long, same) in
        subst (λ m. HasColumn new.cells c m (length a.cells + 4 * k)) e (subst (HasColumn new.cells c next) p column)
    | inr apart ↦ column_kept (λ m s low k. longer.extends.keeps m s k) (h.each k n (omega (arith, apart)) there)
  ];
}

get_is : (made : List NetId) (k : ℕ) → k < length made → slice_get made k ≡ Some (net (net_at made k))
get_is [] k l = absurd (omega arith)
get_is (x ∷ xs) zero l = refl
get_is (x ∷ xs) (suc k) l = get_is xs k (omega arith)

pub all_columns : (a new : Circuit) (c : Controlled) (made : List NetId) → HasSome a new c made (length made) → AreColumns (length a.cells) new.cells c made
all_columns a new c made h =
    let from : ℕ = length a.cells in
    let column : (k : ℕ) → k < length made → HasColumn new.cells c (net (net_at made k)) (from + 4 * k) = λ k l. h.each k (net (net_at made k)) l
    (get_is made k l) in
    record {
      nets = λ k l. (let one = column k l in (
        one.width,
        record {
          sized = taking one.width (net (from + 4 * k + 3));
          found = one.shown;
          plain = tt;
          wide = refl;
        },
      ));
      queued = λ w takes here shows in_columns ins all keeps run r moves.
          let there : (k : ℕ) → k < length made → HasColumn all c (net (net_at made k)) (from + 4 * k) = λ k l. column_kept
          (λ m s low f. keeps m s (omega (arith, low)) f) (column k l) in
          record {
            shown = λ k l t m. shown_next all c (net (net_at made k)) (from + 4 * k) (there k l) run r
                (bit c.one.0 (unwrap_or (slice_get run t) no_clock) && bit w.ready.0 (unwrap_or (slice_get run t) no_clock))
                (bit c.one.0 (unwrap_or (slice_get run t) no_clock)) t m
                (moves t (omega arith));
            second = λ k l t m. second_next all c (net (net_at made k)) (from + 4 * k) (there k l) run r t m;
          };
    }
