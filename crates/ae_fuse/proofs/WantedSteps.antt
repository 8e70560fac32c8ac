-- Until when items are wanted, one entry at a time.
use Rattle.std.proofs.Common.{◌≡◌, ◌≢◌, ℕ, zero, suc, ◌+◌, ◌<◌, ◌≤◌, List, [], ◌∷◌, Vec, Global, length, take, map, Some, slice_get, get_or, arith, ap, ◌∙◌}
use Rattle.std.specs.Prelude.{slice_set}
use Rattle.std.proofs.lemmas.List.{get_or-set_other, length-set, map-set}
use Rattle.ae_flow.specs.Flow.{words_at}
use Rattle.ae_fuse.specs.Wanted.{KeepWanted}

taken-at : (xs : List ℕ) (n k x : ℕ) → slice_get (take n xs) k ≡ Some x → (k < n) × (slice_get xs k ≡ Some x)
taken-at xs zero k x f = cc
taken-at [] (suc n) k x f = cc
taken-at (y ∷ xs) (suc n) zero x f = (omega arith, f)
taken-at (y ∷ xs) (suc n) (suc k) x f = (let r = taken-at xs n k x f in (omega (arith, r.0), r.1))

early : (xs : List ℕ) (n k x : ℕ) → k < n → slice_get xs k ≡ Some x → slice_get (take n xs) k ≡ Some x
early xs zero k x lt f = absurd (omega arith)
early [] (suc n) k x lt f = cc
early (y ∷ xs) (suc n) zero x lt f = f
early (y ∷ xs) (suc n) (suc k) x lt f = early xs n k x (omega arith) f

pub keep-set : (last : List ℕ) (j item : ℕ) (own : Vec ℕ Global) (ls : List (Vec ℕ Global)) → get_or last item 0 ≤ j + 1
    → KeepWanted last j (map (λ (w : Vec ℕ Global). w.items) ls) (map (λ (w : Vec ℕ Global). w.items) (slice_set ls item own))
keep-set last j item own ls late =
    let items : Vec ℕ Global → List ℕ = λ w. w.items in
    let set : map items (slice_set ls item own) ≡ slice_set (map items ls) item own.items = map-set items ls item own in
    record {
      many = ap length set ∙ length-set (map items ls) item own.items;
      same = λ a lt.
          (let other : a ≢ item = λ e. absurd (let is : get_or last a 0 ≡ get_or last item 0 = ap (λ i. get_or last i 0) e in omega (arith, is, lt, late)) in
          ap (λ (xs : List (List ℕ)). words_at xs a) set ∙ get_or-set_other (map items ls) item a own.items [] other);
    }
