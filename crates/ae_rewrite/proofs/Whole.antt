-- The plans of all functions, and the whole schedule.
use Rattle.std.proofs.Common.{◌≡◌, ℕ, zero, suc, ◌+◌, ◌-◌, ◌<◌, ◌≤◌, List, [], ◌∷◌, ◌++◌, length, take, get_or, map, Some, refl, ap, sym, ◌∙◌, arith, inl, inr, slice_get, IsTrue, Vec, length-append}
use Rattle.std.specs.declared.alloc.Global.{Global}
use Rattle.std.specs.Option.{option_map}
use Rattle.std.proofs.lemmas.List.{length-map, map-append, take_all, length-take-le}
use Rattle.std.proofs.lemmas.Option.{slice_get-map, none-some, same_Some, slice_get_within, slice_get_read}
use Rattle.ae_seq.specs.ProgramTree.{ProgramTree}
use Rattle.ae_seq.specs.Formed.{formed}
use Rattle.ae_rewrite.specs.declared.plan.Plan.{Plan}
use Rattle.ae_rewrite.specs.declared.plan.Row.{Row}
use Rattle.ae_rewrite.specs.Scheduled.{HasKey, IsInstance, IsSchedule, as_program}
use Rattle.ae_rewrite.specs.StProgramTree.{StFuncTree}
use Rattle.ae_rewrite.specs.Planned.{IsPlanned, HasPlan, AreCallsKnown, IsAmong, Reaches, Plans, row_budgets, all_row_budgets, number_items, number_lists}
use Rattle.ae_rewrite.proofs.Lines.{called-above}
use Rattle.ae_rewrite.proofs.Params.{take-at}
use Rattle.ae_rewrite.proofs.Planning.{key-cases, key-new, right-more, once-more, instance-mono, plans-none, Covers}
use Rattle.ae_rewrite.proofs.Reached.{reached-within}

-- an element of a mapped list comes from one of the list
record From {A B : Type 0} (f : A → B) (xs : List A) (i : ℕ) (y : B) : Type 0 where
  x : A
  here : slice_get xs i ≡ Some x
  is : f x ≡ y

from : {A B : Type 0} (f : A → B) (xs : List A) (i : ℕ) (y : B) → slice_get (map f xs) i ≡ Some y → From f xs i y
from f [] i y h = absurd (none-some y h)
from f (x ∷ xs) zero y h = record { x = x; here = refl; is = same_Some (f x) y h }
from f (x ∷ xs) (suc i) y h = let r = from f xs i y h in record { x = r.x; here = r.here; is = r.is }

in-take : {X : Type 0} (xs : List X) (j i : ℕ) (x : X) → slice_get xs i ≡ Some x → i < j → slice_get (take j xs) i ≡ Some x
in-take [] zero i x h p = absurd (omega arith)
in-take [] (suc j) i x h p = absurd (none-some x h)
in-take (y ∷ xs) zero i x h p = absurd (omega arith)
in-take (y ∷ xs) (suc j) zero x h p = h
in-take (y ∷ xs) (suc j) (suc i) x h p = in-take xs j i x h (omega arith)

-- ---- what is called has a plan

-- a budget among those of rows has a row
has-row : (rows : List (List Row)) (g v : ℕ) (us : List ℕ) (at : ℕ) → slice_get (all_row_budgets rows) g ≡ Some us → slice_get us at ≡ Some v → (plan : Plan)
    × IsPlanned rows g v plan
has-row rows g v us at h is =
    let own = from row_budgets rows g us h in
    let row = from (λ (r : Row). r.budget) own.x at v (ap (λ xs. slice_get xs at) own.is ∙ is) in (
      row.x.plan,
      record {
        own = own.x;
        here = own.here;
        row = record {
          at = at;
          is = row.here ∙
              ap (λ u. Some (record { budget = u; plan = row.x.plan })) row.is;
        };
      },
    )

pub known-of : (p : ProgramTree) (s f u : ℕ) (needs : List (List ℕ)) (rows : List (List Row)) → IsTrue (formed p) → Reaches p s 0 needs
    → all_row_budgets rows ≡ take f needs → IsAmong needs f u → AreCallsKnown p f u rows
known-of p s f u needs rows formed r are among k c is =
    let m = r.closed f u (omega arith) among k c is in
    let below = called-above p f u is.of k is.node c formed is.known is.here is.is in
    let row = has-row rows c.func c.budget m.own m.at (ap (λ xs. slice_get xs c.func) are ∙ in-take needs f c.func m.own m.here below) m.is in
    record { plan = row.0; row = row.1 }

pub main-known : (p : ProgramTree) (s : ℕ) (needs : List (List ℕ)) (rows : List (List Row)) → Reaches p s 0 needs → all_row_budgets rows ≡ needs
    → AreCallsKnown p (length p.funcs - 1) s rows
main-known p s needs rows r are k c is =
    let m = r.program k c is in
    let row = has-row rows c.func c.budget m.own m.at (ap (λ xs. slice_get xs c.func) are ∙ m.here) m.is in
    record { plan = row.0; row = row.1 }

-- ---- the loop over functions

pub record All (p : ProgramTree) (needs : List (List ℕ)) (rows : List (List Row)) (instances : List StFuncTree) (f : ℕ) : Type 0 where
  pub plans : Plans p rows instances
  pub are : all_row_budgets rows ≡ take f needs

pub all-start : (p : ProgramTree) (needs : List (List ℕ)) (instances : List StFuncTree) → instances ≡ [] → All p needs [] instances 0
all-start p needs instances e = rw e (record { plans = plans-none p; are = refl })

pub all-more : (p : ProgramTree) (needs : List (List ℕ)) (rows : List (List Row)) (own : List Row) (old new : List StFuncTree) (f : ℕ) (us : List ℕ)
    → All p needs rows old f → slice_get needs f ≡ Some us →
    Plans p (rows ++ own ∷ []) new → row_budgets own ≡ us → All p needs (rows ++ own ∷ []) new (f + 1)
all-more p needs rows own old new f us h at plans is = record {
  plans = plans;
  are = map-append row_budgets rows (own ∷ []) ∙ ap (λ xs. xs ++ row_budgets own ∷ []) h.are ∙ ap (λ ys. take f needs ++ ys ∷ []) is ∙
      sym (take-at needs f us at);
}

pub all-end : (p : ProgramTree) (needs : List (List ℕ)) (rows : List (List Row)) (instances : List StFuncTree) (f : ℕ) → All p needs rows instances f
    → length needs ≤ f → Plans p rows instances × (all_row_budgets rows ≡ needs)
all-end p needs rows instances f h le = (h.plans, h.are ∙ take_all f needs le)

pub rows-long : (p : ProgramTree) (needs : List (List ℕ)) (rows : List (List Row)) (instances : List StFuncTree) (f : ℕ) → All p needs rows instances f
    → f < length needs → f ≡ length rows
rows-long p needs rows instances f h lt =
    let e : length (all_row_budgets rows) ≡ length rows = simp length-map in
    let t : length (take f needs) ≡ f = length-take-le f needs (omega arith) in
    omega (arith, e, t, ap length h.are)

-- list number f of the code
pub number-list : (needs : List (Vec ℕ Global)) (f : ℕ) (v : Vec ℕ Global) → f < length needs → v ≡ get_or needs f v
    → slice_get (number_lists needs) f ≡ Some v.items
number-list needs f v h is = slice_get-map number_items needs f ∙ ap (option_map number_items) (slice_get_read needs (length needs) f v refl h is)

pub within-of : (p : ProgramTree) (s f : ℕ) (needs : List (List ℕ)) (us : List ℕ) → 0 < s → s ≤ 4096 → Reaches p s 0 needs → slice_get needs f ≡ Some us
    → (i u : ℕ) → slice_get us i ≡ Some u → (0 < u) × (u ≤ 4096)
within-of p s f needs us h le r at i u is =
    let w = reached-within p s f u h (r.reached f u (record { own = us; here = at; at = i; is = is })) in
    (w.0, omega (arith, w.1))

-- ---- the whole

pub schedule-of : (p : ProgramTree) (s : ℕ) (needs : List (List ℕ)) (rows : List (List Row)) (old new : List StFuncTree) (whole : StFuncTree)
    → Reaches p s 0 needs → all_row_budgets rows ≡ needs → Plans p rows old →
    IsInstance p (HasPlan rows) whole → whole.func ≡ length p.funcs - 1 → whole.budget ≡ s → new ≡ old ++ whole ∷ [] → IsSchedule p s new
schedule-of p s needs rows old new whole r are h is is_f is_u more =
    let long : length rows ≡ length p.funcs - 1 = (let e : length (all_row_budgets rows) ≡ length rows = simp length-map in sym e) ∙ ap length are ∙ r.count in
    let named : Covers (HasPlan rows) (HasKey old) = λ i g v x. h.named i g v x in
    let back = λ (k f u : ℕ) (x : HasKey old k f u). h.planned k f u x in
    let fresh = λ (k : ℕ) (x : HasKey old k (length p.funcs - 1) s).
    let y = back k (length p.funcs - 1) s x in
    let inside = slice_get_within rows (length p.funcs - 1) y.own y.here in
    absurd {A = ⊥} (omega (arith, inside, long)) in
    rw more
    (record {
      right = right-more p old whole h.right (instance-mono p (HasPlan rows) (HasKey old) whole named is);
      once = once-more old whole (length p.funcs - 1) s is_f is_u h.once fresh;
      reached = λ k f u x. elim (key-cases old whole k f u x) [
        | inl was ↦
            let y = back k f u was in
            let read : slice_get needs f ≡ Some (row_budgets y.own) = ap (λ xs. slice_get xs f) (sym are) ∙ slice_get-map row_budgets rows f ∙
            ap (option_map row_budgets) y.here in
            r.reached f u (record {
              own = row_budgets y.own;
              here = read;
              at = y.row.at;
              is = slice_get-map (λ (x : Row). x.budget) y.own y.row.at ∙ ap (option_map (λ (x : Row). x.budget)) y.row.is;
            })
        | inr last ↦ as_program f u (sym last.1 ∙ is_f) (sym last.2 ∙ is_u)
      ];
      last =
          let e : length (old ++ whole ∷ []) - 1 ≡ length old = omega (arith, length-append old (whole ∷ [])) in
          rw e (key-new old whole (length old) (length p.funcs - 1) s refl is_f is_u);
    })
