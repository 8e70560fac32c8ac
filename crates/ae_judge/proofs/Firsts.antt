-- The names that items drive, one item after the other, and those that are declared in time.
use Rattle.std.proofs.Common.{ℕ, ◌≡◌, ◌+◌, ◌<◌, Bool, false, true, not, ◌&&◌, ◌||◌, Option, Some, if◌then◌else◌, List, [], ◌∷◌, ◌++◌, length, drop, get_or, map, refl, sym, ap, ◌∙◌}
use Rattle.std.proofs.lemmas.Bool.{or_parts}
use Rattle.std.proofs.lemmas.List.{drop_more}
use Rattle.std.specs.List.{list_any}
use Rattle.std.specs.Prelude.{flat_map}
use Rattle.ae_vmodule.specs.ModuleTree.{NetTree, DriveTree}
use Rattle.ae_vmodule.specs.View.{item_tree}
use Rattle.ae_vmodule.specs.declared.items.VItem.{VItem}
use Rattle.ae_judge.specs.Names.{item_targets, names_in}
use Rattle.ae_judge.specs.Places.{Entry, with_place}
use Rattle.ae_judge.specs.Judging.{with_names, drives_twice, first_twice, is_declared_before, has_place, is_unknown, is_late, drives_unknown}

pub with_names_append : (es : List Entry) (xs ys : List (List ℕ)) → with_names es (xs ++ ys) ≡ with_names (with_names es xs) ys
with_names_append es [] ys = refl
with_names_append es (x ∷ xs) ys = with_names_append (with_place es x 0) xs ys

pub driven_next : (ws : List (List ℕ)) (items : List VItem) (i : ℕ) (d : VItem) (es next all : List Entry) → i < length items
    → next ≡ with_names es (item_targets (item_tree ws (get_or items i d)))
    → with_names es (flat_map item_targets (map (item_tree ws) (drop i items))) ≡ all
    → with_names next (flat_map item_targets (map (item_tree ws) (drop (i + 1) items))) ≡ all
driven_next ws items i d es next all l n h =
    ap (λ fs. with_names fs (flat_map item_targets (map (item_tree ws) (drop (i + 1) items)))) n
    ∙ sym (with_names_append es (item_targets (item_tree ws (get_or items i d))) (flat_map item_targets (map (item_tree ws) (drop (i + 1) items))))
    ∙ sym (ap (λ is. with_names es (flat_map item_targets (map (item_tree ws) is))) (drop_more items i d l)) ∙ h

pub twice_next : (ws : List (List ℕ)) (ns : List NetTree) (k : ℕ) (items : List VItem) (i : ℕ) (d : VItem) (es next : List Entry) (all : Option ℕ)
    → i < length items
    → drives_twice ns es (item_tree ws (get_or items i d)) ≡ false → next ≡ with_names es (item_targets (item_tree ws (get_or items i d)))
    → first_twice ns k es (map (item_tree ws) (drop i items)) ≡ all → first_twice ns (k + 1) next (map (item_tree ws) (drop (i + 1) items)) ≡ all
twice_next ws ns k items i d es next all l once n h =
    let rest = map (item_tree ws) (drop (i + 1) items) in
    ap (λ fs. first_twice ns (k + 1) fs rest) n
    ∙ sym (ap (λ b. if b then Some k else first_twice ns (k + 1) (with_names es (item_targets (item_tree ws (get_or items i d)))) rest) once)
    ∙ sym (ap (λ is. first_twice ns k es (map (item_tree ws) is)) (drop_more items i d l)) ∙ h

-- a name that is declared before needs no other to be known

known : (a b : Bool) → (not a && true) ≡ false → (not a && b) ≡ false
known true b h = refl
known false b h = absurd (let e : true ≡ false = h in cc)

known_names : (ns : List NetTree) (k : ℕ) (es : List Entry) (names : List (List ℕ)) → list_any (is_unknown ns k []) names ≡ false
    → list_any (is_unknown ns k es) names ≡ false
known_names ns k es [] h = refl
known_names ns k es (n ∷ names) h =
    let p = or_parts (is_unknown ns k [] n) (list_any (is_unknown ns k []) names) h in
    (λ j. known (is_declared_before ns k n) (not (has_place es n)) p.0 j || known_names ns k es names p.1 j)

pub none_late : (ns : List NetTree) (k : ℕ) (es : List Entry) (ds : List DriveTree) → list_any (is_late ns k) ds ≡ false → drives_unknown ns k es ds ≡ false
none_late ns k es [] h = refl
none_late ns k es (d ∷ ds) h =
    let p = or_parts (is_late ns k d) (list_any (is_late ns k) ds) h in
    (λ j. known_names ns k es (names_in d.value) p.0 j || none_late ns k (with_place es d.name 0) ds p.1 j)
