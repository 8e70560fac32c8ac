-- Registers that turn and memories that are written, one after the other.
use Rattle.std.proofs.Common.{ℕ, zero, suc, ◌≡◌, ◌≢◌, ◌+◌, ◌<◌, ◌≤◌, inl, inr, List, [], ◌∷◌, ◌++◌, length, map, take, drop, set, Some, slice_get, get_or, arith, refl, ap, sym, ◌∙◌, length-set}
use Rattle.std.proofs.lemmas.Bool.{cases_eq}
use Rattle.ae_netlist.proofs.Gets.{get_set_other, get_set_same}
use Rattle.ae_sim.specs.declared.plan.Memory.{Memory}
use Rattle.std.proofs.lemmas.List.{take_all, drop_all, append-nil}
use Rattle.std.proofs.lemmas.List.Edits.{map_over_more}
use Rattle.std.proofs.lemmas.Option.{slice_get-get_or, get_or_from_slice_get}
use Rattle.ae_sim.specs.declared.plan.Register.{Register}
use Rattle.ae_sim.specs.Planned.{IsAfter, turned, written}

-- the element at the place stands as it was
pub still : {X : Type 0} (f : X → X) (xs : List X) (i : ℕ) → slice_get (map f (take i xs) ++ drop i xs) i ≡ slice_get xs i
still f [] zero = refl
still f [] (suc i) = refl
still f (x ∷ xs) zero = refl
still f (x ∷ xs) (suc i) = still f xs i

pub record AreAfter (words : List ℕ) (old new : List Memory) (k : ℕ) : Type 0 where
  pub long : length new ≡ length old
  pub before : (i : ℕ) (m : Memory) → i < k → slice_get old i ≡ Some m → IsAfter words m new i
  pub behind : (i : ℕ) → k ≤ i → slice_get new i ≡ slice_get old i

pub after_none : (words : List ℕ) (old : List Memory) → AreAfter words old old 0
after_none words old = record { long = refl; before = λ i m l h. absurd (omega arith); behind = λ i l. refl }

after_kept : (words : List ℕ) (m : Memory) (new : List Memory) (k i : ℕ) (x : Memory) → i ≢ k → IsAfter words m new i → IsAfter words m (set new k x) i
after_kept words m new k i x ne h = record {
  memory = h.memory;
  found = get_set_other new k i x ne ∙ h.found;
  same_at = h.same_at;
  same_next = h.same_next;
  same_enable = h.same_enable;
  wrote = h.wrote;
}

pub after_more : (words : List ℕ) (old new : List Memory) (k : ℕ) (was is : Memory) → AreAfter words old new k → slice_get new k ≡ Some was
    → is.at ≡ was.at → is.next ≡ was.next → is.enable ≡ was.enable → is.words.items ≡ written words was was.words.items
    → AreAfter words old (set new k is) (k + 1)
after_more words old new k was is h found at next enable wrote = record {
  long = length-set new k is ∙ h.long;
  before = λ i m l g. elim (cases_eq i k) [
    | inl e ↦
        let old_found : slice_get old k ≡ Some was = sym (h.behind k (omega arith)) ∙ found in
        let same : Some m ≡ Some was = sym g ∙ (ap (slice_get old) e ∙ old_found) in
        let s : was ≡ m = cc in
        record {
          memory = is;
          found = ap (slice_get (set new k is)) e ∙ get_set_same new k is was found;
          same_at = at ∙ ap (λ (x : Memory). x.at) s;
          same_next = next ∙ ap (λ (x : Memory). x.next) s;
          same_enable = enable ∙ ap (λ (x : Memory). x.enable) s;
          wrote = wrote ∙ ap (λ (x : Memory). written words x x.words.items) s;
        }
    | inr ne ↦ after_kept words m new k i is ne (h.before i m (omega arith) g)
  ];
  behind = λ i l. get_set_other new k i is (λ e. absurd (omega arith)) ∙ h.behind i (omega arith);
}

pub all_turned : {X : Type 0} (f : X → X) (old new : List X) (k : ℕ) → length old ≤ k → new ≡ map f (take k old) ++ drop k old → new ≡ map f old
all_turned f old new k l h = h ∙ (rw (take_all k old l, drop_all k old l) (append-nil (map f old)))

-- one register more
pub turn_more : (words : List ℕ) (old new : List Register) (k : ℕ) (x y : Register) → k < length old → new ≡ map (turned words) (take k old) ++ drop k old
    → x ≡ get_or new k x → y ≡ get_or new k y
    → set new k (record { next = y.next; held = get_or words x.next 0 }) ≡ map (turned words) (take (k + 1) old) ++ drop (k + 1) old
turn_more words old new k x y l h a b =
    let long : length new ≡ length old = ap length h ∙ long_so (turned words) old k in
    let found : slice_get new k ≡ Some (get_or new k x) = slice_get-get_or new k x (omega arith) in
    let same : y ≡ x = b ∙ (get_or_from_slice_get new k _ y found ∙ sym a) in
    rw same (map_over_more (turned words) old new k x l h a)
  where
    long_so : (f : Register → Register) (xs : List Register) (i : ℕ) → length (map f (take i xs) ++ drop i xs) ≡ length xs
    long_so f [] zero = refl
    long_so f [] (suc i) = refl
    long_so f (z ∷ xs) zero = refl
    long_so f (z ∷ xs) (suc i) = ap suc (long_so f xs i)
