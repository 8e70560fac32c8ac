-- The first name that is declared again, net by net, and names of which none stands in a table.
use Rattle.std.proofs.Common.{ℕ, ◌≡◌, ◌+◌, ◌<◌, ◌≤◌, Bool, true, false, not, ◌&&◌, ◌||◌, List, [], ◌∷◌, length, drop, get_or, map, Option, Some, None, if◌then◌else◌, refl, sym, ap, ◌∙◌, subst}
use Rattle.std.specs.Prelude.{bytes_eq, min}
use Rattle.std.specs.Option.{option_or}
use Rattle.std.specs.List.{list_any}
use Rattle.std.proofs.lemmas.Bool.{or_parts}
use Rattle.std.proofs.lemmas.List.{drop_more, drop_all}
use Rattle.ae_vmodule.specs.ModuleTree.{NetTree, ItemTree}
use Rattle.ae_vmodule.specs.View.{net_tree, word_at}
use Rattle.ae_vmodule.specs.declared.module.VNet.{VNet}
use Rattle.ae_judge.specs.Names.{is_input_name}
use Rattle.ae_judge.specs.Faults.{may_repeat}
use Rattle.ae_judge.specs.Places.{Entry, with_place}
use Rattle.ae_judge.specs.Judging.{has_place, earlier, first_again, is_driven, repeats}
use Rattle.ae_judge.proofs.PlaceLemmas.{has_with}

-- two tables with the same names

abbrev SameNames : List Entry → List Entry → Type 0
SameNames es fs = (n : List ℕ) → has_place es n ≡ has_place fs n

same_with : (es fs : List Entry) (m : List ℕ) (p q : ℕ) → SameNames es fs → SameNames (with_place es m p) (with_place fs m q)
same_with es fs m p q h n = has_with es m p n ∙ ap (λ b. b || bytes_eq n m) (h n) ∙ sym (has_with fs m q n)

again_same : (es fs : List Entry) (xs : List NetTree) → SameNames es fs → first_again es xs ≡ first_again fs xs
again_same es fs [] h = refl
again_same es fs (x ∷ xs) h =
    let rest = again_same (with_place es x.name 0) (with_place fs x.name 0) xs (same_with es fs x.name 0 0 h) in
    λ j. if h x.name j then Some x.item else rest j

-- what is noted is the first of all, or it is among the rest
abbrev pub IsNoted : List NetTree → List Entry → Option ℕ → Option ℕ → Type 0
IsNoted rest es None all = first_again es rest ≡ all
IsNoted rest es (Some k) all = Some k ≡ all

noted_put : (x : NetTree) (rest : List NetTree) (es : List Entry) (p : ℕ) (o all : Option ℕ) → IsNoted (x ∷ rest) es o all
    → IsNoted rest (with_place es x.name p) (option_or o (if has_place es x.name then Some x.item else None)) all
noted_put x rest es p (Some k) all h = h
noted_put x rest es p None all h = by (has_place es x.name) h
  where
    by : (b : Bool) → (if b then Some x.item else first_again (with_place es x.name 0) rest) ≡ all
        → IsNoted rest (with_place es x.name p) (if b then Some x.item else None) all
    by true g = g
    by false g = again_same (with_place es x.name p) (with_place es x.name 0) rest (same_with es es x.name p 0 (λ n. refl)) ∙ g

pub noted_next : (ws : List (List ℕ)) (vs : List VNet) (es : List Entry) (i : ℕ) (d : VNet) (o all : Option ℕ) → i < length vs
    → IsNoted (map (net_tree ws) (drop i vs)) es o all
    → IsNoted (map (net_tree ws) (drop (i + 1) vs)) (with_place es (word_at ws (get_or vs i d).name) i)
    (option_or o (if has_place es (word_at ws (get_or vs i d).name) then Some (get_or vs i d).item else None)) all
noted_next ws vs es i d o all l h =
    let here : IsNoted (net_tree ws (get_or vs i d) ∷ map (net_tree ws) (drop (i + 1) vs)) es o all =
    subst (λ ys. IsNoted (map (net_tree ws) ys) es o all) (drop_more vs i d l) h in
    noted_put (net_tree ws (get_or vs i d)) (map (net_tree ws) (drop (i + 1) vs)) es i o all here

pub noted_all : (ws : List (List ℕ)) (vs : List VNet) (es : List Entry) (n : ℕ) (o all : Option ℕ) → length vs ≤ n
    → IsNoted (map (net_tree ws) (drop n vs)) es o all → o ≡ all
noted_all ws vs es n o all l h = end o (subst (λ ys. IsNoted (map (net_tree ws) ys) es o all) (drop_all n vs l) h)
  where
    end : (o : Option ℕ) → IsNoted [] es o all → o ≡ all
    end None g = g
    end (Some k) g = g

-- two tables that agree on names

abbrev Agree : List Entry → List Entry → List (List ℕ) → Type 0
Agree es fs [] = Unit {0}
Agree es fs (n ∷ ns) = (has_place es n ≡ has_place fs n) × Agree es fs ns

agree_with : (es fs : List Entry) (m : List ℕ) (ns : List (List ℕ)) → Agree es fs ns → Agree (with_place es m 0) (with_place fs m 0) ns
agree_with es fs m [] h = tt
agree_with es fs m (n ∷ ns) h = (has_with es m 0 n ∙ ap (λ b. b || bytes_eq n m) h.0 ∙ sym (has_with fs m 0 n), agree_with es fs m ns h.1)

repeats_same : (ns : List NetTree) (i : ItemTree) (es fs : List Entry) (xs : List (List ℕ)) → Agree es fs xs → repeats ns i es xs ≡ repeats ns i fs xs
repeats_same ns i es fs [] h = refl
repeats_same ns i es fs (x ∷ xs) h =
    let rest = repeats_same ns i (with_place es x 0) (with_place fs x 0) xs (agree_with es fs x xs h.1) in
    λ j. (h.0 j && not (may_repeat ns i x)) || rest j

fresh : (ns : List NetTree) (es : List Entry) (xs : List (List ℕ)) → list_any (is_driven ns es) xs ≡ false → Agree es [] xs
fresh ns es [] h = tt
fresh ns es (x ∷ xs) h =
    let p = or_parts (is_driven ns es x) (list_any (is_driven ns es) xs) h in
    let q = or_parts (is_input_name ns x) (has_place es x) p.0 in
    (q.1, fresh ns es xs p.1)

-- where none of the names is driven before, the table of those that are does not matter
pub fresh_repeats : (ns : List NetTree) (i : ItemTree) (es : List Entry) (xs : List (List ℕ)) → list_any (is_driven ns es) xs ≡ false
    → repeats ns i es xs ≡ repeats ns i [] xs
fresh_repeats ns i es xs h = repeats_same ns i es [] xs (fresh ns es xs h)

pub later_none : (a b : Option ℕ) → earlier a b ≡ None → b ≡ None
later_none None b h = h
later_none (Some a) None h = refl
later_none (Some a) (Some b) h = absurd (let e : Some (min a b) ≡ None = h in cc)
