-- The moves of items, one more at a time.
use Rattle.std.proofs.Common.{◌≡◌, ℕ, zero, suc, ◌+◌, ◌<◌, inl, inr, List, [], ◌∷◌, ◌++◌, length, take, map, Some, slice_get, refl, arith, sym, ap, ◌∙◌, subst, length-append}
use Rattle.std.specs.List.{range_with_len}
use Rattle.std.proofs.lemmas.Bool.{cases_lt}
use Rattle.std.proofs.lemmas.List.{length-take-le, map_push}
use Rattle.std.proofs.lemmas.List.FromFn.{map-range_with_len_more}
use Rattle.std.proofs.lemmas.Option.{same_Some, slice_get_within}
use Rattle.ae_sttype.specs.StTree.{StTree}
use Rattle.ae_sttype.specs.Moves.{OriginTree}
use Rattle.ae_moves.specs.Origins.{Move}
use Rattle.ae_moves.proofs.Lists.{take_push}
use Rattle.ae_rewrite.specs.Sound.{item_layout, item_layouts}
use Rattle.ae_rewrite.specs.StProgramTree.{StFuncTree}
use Rattle.ae_flow.specs.Flow.{words_at}
use Rattle.ae_results.specs.declared.costs.ResultCosts.{ResultCosts}
use Rattle.ae_results.specs.declared.result.FusedResult.{FusedResult}
use Rattle.ae_fuse.specs.Labels.{labelled_origin}
use Rattle.ae_fuse.specs.Moved.{own_move}
use Rattle.ae_results.specs.Results.{AreAllCosts, result_move}
use Rattle.ae_results.specs.Results.{AreCostsOf}

abbrev pub a_move : List StTree → StTree → List OriginTree → Move
a_move ins out os = record { ins = ins; out = out; origins = os }

-- the move of an item, as the code has it
pub own-is : (s : StFuncTree) (ls : List (List ℕ)) (i : ℕ) (ins : List StTree) (out : StTree) (os : List OriginTree) (own : List ℕ) → ins ≡ s.ins
    → out ≡ item_layout (item_layouts s) i → own ≡ words_at ls i → os ≡ map (labelled_origin ins) own
    → a_move ins out os ≡ own_move s ls i
own-is s ls i ins out os own e1 e2 e3 e4 = λ j. a_move (e1 j) (e2 j) ((e4 ∙ (λ k. map (labelled_origin (e1 k)) (e3 k))) j)

pub arrivals-next : (f : ℕ → ℕ) (i x : ℕ) (old : List ℕ) → old ≡ map f (range_with_len 0 i) → x ≡ f i → old ++ x ∷ [] ≡ map f (range_with_len 0 (i + 1))
arrivals-next f i x old was is = (λ j. was j ++ is j ∷ []) ∙ sym (map-range_with_len_more f 0 i i (omega arith))

pub moves-next : (ins : List StTree) (f : ℕ → Move) (items : List ℕ) (r i : ℕ) (old : List FusedResult) (new : FusedResult) → slice_get items r ≡ Some i
    → map (result_move ins) old ≡ map f (take r items) → result_move ins new ≡ f i
    → map (result_move ins) (old ++ new ∷ []) ≡ map f (take (r + 1) items)
moves-next ins f items r i old new found was is =
    map_push (result_move ins) old new ∙ (λ j. was j ++ is j ∷ []) ∙ sym (map_push f (take r items) i) ∙ ap (map f) (sym (take_push items r i found))

last-cost : (xs : List ResultCosts) (x : ResultCosts) → slice_get (xs ++ x ∷ []) (length xs) ≡ Some x
last-cost [] x = refl
last-cost (y ∷ xs) x = last-cost xs x

taken-at : (ms : List Move) (n k : ℕ) (m : Move) → slice_get (take n ms) k ≡ Some m → (k < n) × (slice_get ms k ≡ Some m)
taken-at ms zero k m f = cc
taken-at [] (suc n) k m f = cc
taken-at (x ∷ ms) (suc n) zero m f = (omega arith, f)
taken-at (x ∷ ms) (suc n) (suc k) m f = (let r = taken-at ms n k m f in (omega (arith, r.0), r.1))

get-first : (xs : List ResultCosts) (x : ResultCosts) (k : ℕ) (c : ResultCosts) → k < length xs → slice_get (xs ++ x ∷ []) k ≡ Some c → slice_get xs k ≡ Some c
get-first [] x k c low f = absurd (omega arith)
get-first (y ∷ xs) x zero c low f = f
get-first (y ∷ xs) x (suc k) c low f = get-first xs x k c (omega arith) f

pub costs-none : AreAllCosts [] []
costs-none = record { long = refl; each = λ k m c f g. cc }

pub costs-next : (ms : List Move) (n : ℕ) (m : Move) (cs : List ResultCosts) (new : ResultCosts) → slice_get ms n ≡ Some m → AreAllCosts (take n ms) cs
    → AreCostsOf m new → AreAllCosts (take (n + 1) ms) (cs ++ new ∷ [])
costs-next ms n m cs new found was own =
    let low : n < length ms = slice_get_within ms n m found in
    let many : length cs ≡ n = was.long ∙ length-take-le n ms (omega (arith, low)) in
    record {
      long = length-append cs (new ∷ []) ∙ (let e : length cs + 1 ≡ n + 1 = omega (arith, many) in e) ∙ sym (length-take-le (n + 1) ms (omega (arith, low)));
      each = λ k o c f g.
          (let at = taken-at ms (n + 1) k o f in
          let below = at.0 in
          elim (cases_lt k n) [
            | inl lt ↦ was.each k o c (early ms n k o lt at.1) (get-first cs new k c (omega (arith, lt, many)) g)
            | inr ge ↦
                let e : k ≡ length cs = omega (arith, ge, below, many) in
                let here : k ≡ n = omega (arith, ge, below) in
                let same : m ≡ o = same_Some m o (sym found ∙ ap (slice_get ms) (sym here) ∙ at.1) in
                let is : new ≡ c = same_Some new c (sym (last-cost cs new) ∙ ap (slice_get (cs ++ new ∷ [])) (sym e) ∙ g) in
                subst (λ (x : Move). AreCostsOf x c) same (subst (AreCostsOf m) is own)
          ]);
    }
  where
    early : (ms : List Move) (n k : ℕ) (o : Move) → k < n → slice_get ms k ≡ Some o → slice_get (take n ms) k ≡ Some o
    early ms zero k o lt f = absurd (omega arith)
    early [] (suc n) k o lt f = cc
    early (x ∷ ms) (suc n) zero o lt f = f
    early (x ∷ ms) (suc n) (suc k) o lt f = early ms n k o (omega arith) f
