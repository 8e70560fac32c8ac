-- One bundle more is joined.
use Rattle.std.proofs.Common.{ℕ, suc, ◌≡◌, ◌+◌, ◌-◌, ◌<◌, ◌⊎◌, inl, inr, List, ◌∷◌, ◌++◌, [], length, sum_by, take, Some, slice_get, get_or, arith, refl, sym, ap, ◌∙◌, length-append}
use Rattle.std.proofs.lemmas.Bool.{cases_eq, cases_lt}
use Rattle.std.proofs.lemmas.List.{length_push}
use Rattle.std.proofs.lemmas.Option.{slice_get_within, slice_get-get_or}
use Rattle.ae_netlist.specs.declared.cell.NetId.{NetId}
use Rattle.ae_netlist.proofs.Gets.{get_left, get_push_cases}
use Rattle.ae_gather.specs.Joins.{AreJoined, AreJoinedTo}
use Rattle.ae_moves.proofs.Lists.{sum_next}

pub get_right : {X : Type 0} (xs ys : List X) (p : ℕ) → slice_get (xs ++ ys) (length xs + p) ≡ slice_get ys p
get_right [] ys p = let e : 0 + p ≡ p = omega arith in rw e refl
get_right (x ∷ xs) ys p = let e : length (x ∷ xs) + p ≡ suc (length xs + p) = omega arith in rw e (get_right xs ys p)

pub get_append_cases : {X : Type 0} (xs ys : List X) (q : ℕ) (x d : X) → slice_get (xs ++ ys) q ≡ Some x → (slice_get xs q ≡ Some x)
    ⊎ (slice_get ys (q - length xs) ≡ Some x)
get_append_cases xs ys q x d found = elim (cases_lt q (length xs)) [
  | inl l ↦
      let a : slice_get xs q ≡ Some (get_or xs q d) = slice_get-get_or xs q d l in
      let b : slice_get (xs ++ ys) q ≡ Some (get_or xs q d) = get_left xs ys q (get_or xs q d) a in
      let same : get_or xs q d ≡ x = cc in
      inl (a ∙ ap Some same)
  | inr l ↦ (let e : length xs + (q - length xs) ≡ q = omega arith in inr (sym (get_right xs ys (q - length xs)) ∙ (ap (slice_get (xs ++ ys)) e ∙ found)))
]

pub joined_none : (bundles : List (List NetId)) (nets : List NetId) (firsts : List ℕ) → nets ≡ [] → firsts ≡ [] → AreJoinedTo 0 bundles nets firsts
joined_none bundles nets firsts en ef = rw (en, ef) (record {
  long = refl;
  begins = refl;
  starts = λ i first f. (let l : i < 0 = slice_get_within [] i first f in absurd (omega arith));
  each = λ i p own net l f g. absurd (omega arith);
  from = λ q net f. (let l : q < 0 = slice_get_within [] q net f in absurd (omega arith));
})

pub joined_more : (k : ℕ) (bundles : List (List NetId)) (nets more : List NetId) (firsts : List ℕ) → AreJoinedTo k bundles nets firsts
    → slice_get bundles k ≡ Some more → AreJoinedTo (k + 1) bundles (nets ++ more) (firsts ++ length nets ∷ [])
joined_more k bundles nets more firsts h at = record {
  long = omega (arith, length-append nets more, h.long, sum_next length bundles k more at);
  begins = length_push firsts (length nets) ∙ ap (λ n. n + 1) h.begins;
  starts = λ i first f. elim (get_push_cases firsts (length nets) i first f) [
    | inl v ↦ h.starts i first v.0
    | inr v ↦ (let here : i ≡ k = v.0 ∙ h.begins in sym v.1 ∙ (h.long ∙ ap (λ n. sum_by length (take n bundles)) (sym here)))
  ];
  each = λ i p own net l f g. elim (cases_eq i k) [
    | inl e ↦
        let there : slice_get bundles k ≡ Some own = rw e at f in
        let same : more ≡ own = cc in
        let place : sum_by length (take i bundles) ≡ length nets = ap (λ n. sum_by length (take n bundles)) e ∙ sym h.long in
        rw (place, same) (get_right nets own p ∙ g)
    | inr ne ↦ get_left nets more (sum_by length (take i bundles) + p) net (h.each i p own net (omega arith) f g)
  ];
  from = λ q net f. elim (get_append_cases nets more q net net f) [
    | inl v ↦ h.from q net v
    | inr v ↦ record { bundle = k; place = q - length nets; nets = more; there = at; found = v }
  ];
}

-- where the number of nets is counted
pub joined_next : (k first : ℕ) (bundles : List (List NetId)) (nets more : List NetId) (firsts : List ℕ) → AreJoinedTo k bundles nets firsts
    → slice_get bundles k ≡ Some more → first ≡ length nets → AreJoinedTo (k + 1) bundles (nets ++ more) (firsts ++ first ∷ [])
joined_next k first bundles nets more firsts h at e = rw e (joined_more k bundles nets more firsts h at)

pub joined_all : (k : ℕ) (bundles : List (List NetId)) (nets : List NetId) (firsts : List ℕ) → k ≡ length bundles → AreJoinedTo k bundles nets firsts
    → AreJoined bundles nets firsts
joined_all k bundles nets firsts e h = rw (← e) h
