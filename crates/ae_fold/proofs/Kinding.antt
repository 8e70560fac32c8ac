-- The folds of an atom's words.
use Rattle.std.proofs.Common.{ℕ, suc, ◌≡◌, ◌+◌, ◌-◌, ◌<◌, ◌≤◌, ◌⊎◌, Bool, true, false, inl, inr, List, length, map, Some, slice_get, take, ◌++◌, ◌∷◌, [], get_or, arith, refl, sym, ap, ◌∙◌}
use Rattle.std.specs.Option.{option_map}
use Rattle.std.proofs.lemmas.Bool.{cases_lt}
use Rattle.std.proofs.lemmas.List.{length-map, map-append, take_more, take_all}
use Rattle.std.proofs.lemmas.Option.{slice_get-map, slice_get_within, slice_get-get_or}
use Rattle.ae_word.specs.declared.op.WordOp.{WordOp}
use Rattle.ae_word.specs.declared.op.WordOp.TheVariants.{Add, Mul, And, Or, Xor, Min, Max}
use Rattle.ae_word.specs.WordTable.{folds, op_for}
use Rattle.ae_word.specs.AtomTree.{WordKind, atom_kinds, atom_words}
use Rattle.ae_word.proofs.Ranges.{width_there}
use Rattle.ae_word.proofs.Sizes.{length-atom_kinds}
use Rattle.ae_sttype.specs.StTree.{StTree, element_atom}
use Rattle.ae_sttype.specs.Size.{IsInSize}
use Rattle.ae_sttype.proofs.Bounds.{element_words_pos, sized_atom}
use Rattle.ae_netlist.proofs.Gets.{get_left}
use Rattle.ae_ops.specs.Folds.{IsFold}
use Rattle.ae_fold.specs.declared.words.WordFold.{WordFold}
use Rattle.ae_fold.specs.Folding.{AreFolds, fold_by, product_of, products_in}
use Rattle.ae_fold.proofs.Looping.{fold_there}

pub get_right : {X : Type 0} (xs ys : List X) (p : ℕ) → slice_get (xs ++ ys) (length xs + p) ≡ slice_get ys p
get_right [] ys p = let e : 0 + p ≡ p = omega arith in rw e refl
get_right (x ∷ xs) ys p = let e : length (x ∷ xs) + p ≡ suc (length xs + p) = omega arith in rw e (get_right xs ys p)

pub get_append_cases : {X : Type 0} (xs ys : List X) (q : ℕ) (x d : X) → slice_get (xs ++ ys) q ≡ Some x → ((q < length xs) × (slice_get xs q ≡ Some x))
    ⊎ ((length xs ≤ q) × (slice_get ys (q - length xs) ≡ Some x))
get_append_cases xs ys q x d found = elim (cases_lt q (length xs)) [
  | inl l ↦
      let a : slice_get xs q ≡ Some (get_or xs q d) = slice_get-get_or xs q d l in
      let b : slice_get (xs ++ ys) q ≡ Some (get_or xs q d) = get_left xs ys q (get_or xs q d) a in
      let same : get_or xs q d ≡ x = cc in
      inl (l, a ∙ ap Some same)
  | inr l ↦ (let e : length xs + (q - length xs) ≡ q = omega arith in inr (l, sym (get_right xs ys (q - length xs)) ∙ (ap (slice_get (xs ++ ys)) e ∙ found)))
]

-- the operator on words of a kind
op_folds : (signed : Bool) (op : WordOp) → folds op ≡ true → IsFold (op_for signed op)
op_folds true Add h = tt
op_folds true Mul h = tt
op_folds true And h = tt
op_folds true Or h = tt
op_folds true Xor h = tt
op_folds true Min h = tt
op_folds true Max h = tt
op_folds false Add h = tt
op_folds false Mul h = tt
op_folds false And h = tt
op_folds false Or h = tt
op_folds false Xor h = tt
op_folds false Min h = tt
op_folds false Max h = tt
op_folds _ _ h = cc

op_products : (signed : Bool) (op : WordOp) → folds op ≡ true → product_of (op_for signed op) ≡ product_of op
op_products true Add h = refl
op_products true Mul h = refl
op_products true And h = refl
op_products true Or h = refl
op_products true Xor h = refl
op_products true Min h = refl
op_products true Max h = refl
op_products false op h = refl
op_products true _ h = cc

kind_of : (op : WordOp) (kinds : List WordKind) (j : ℕ) (f : WordFold) → slice_get (map (fold_by op) kinds) j ≡ Some f → (k : WordKind)
    × (slice_get kinds j ≡ Some k) × (fold_by op k ≡ f)
kind_of op kinds j f found =
    let none : WordKind = record { signed = false; width = 0 } in
    let l : j < length kinds = omega (arith, slice_get_within (map (fold_by op) kinds) j f found, length-map kinds (fold_by op)) in
    let there = slice_get-get_or kinds j none l in
    let at = slice_get-map (fold_by op) kinds j ∙ ap (option_map (fold_by op)) there in
    (_, there, (let same = sym at ∙ found in cc))

-- the folds of an element's words
pub are_folds : (op : WordOp) (s : StTree) → folds op ≡ true → IsInSize s → AreFolds (map (fold_by op) (atom_kinds (element_atom s)))
are_folds op s h size =
    let kinds : List WordKind = atom_kinds (element_atom s) in
    let long : length (map (fold_by op) kinds) ≡ length kinds = length-map kinds (fold_by op) in
    let some : 1 ≤ length (map (fold_by op) kinds) = omega (arith, long, length-atom_kinds (element_atom s), element_words_pos s) in
    let sized = sized_atom s size.lengths in
    let product : (j : ℕ) (f : WordFold) → slice_get (map (fold_by op) kinds) j ≡ Some f → product_of f.op ≡ product_of op = λ j f found.
    (let k = kind_of op kinds j f found in ap (λ (x : WordFold). product_of x.op) (sym k.2) ∙ op_products k.0.signed op h)
    in
    record {
      some = some;
      ops = λ j f found. (let k = kind_of op kinds j f found in rw (← k.2) (op_folds k.0.signed op h));
      low = λ j f found. (let k = kind_of op kinds j f found in rw (← k.2) (width_there (element_atom s) j k.0 sized k.1).0);
      high = λ j f found. (let k = kind_of op kinds j f found in rw (← k.2) (width_there (element_atom s) j k.0 sized k.1).1);
      same = λ j f found. product j f found ∙ sym (product _ _ (fold_there (map (fold_by op) kinds) 0 some));
    }

-- all products are those of the operator
pub all_products : (op : WordOp) (s : StTree) → folds op ≡ true → IsInSize s → products_in (map (fold_by op) (atom_kinds (element_atom s))) ≡ product_of op
all_products op s h size =
    let kinds : List WordKind = atom_kinds (element_atom s) in
    let k = kind_of op kinds _ _ (fold_there (map (fold_by op) kinds) 0 (are_folds op s h size).some) in
    ap (λ (x : WordFold). product_of x.op) (sym k.2) ∙ op_products k.0.signed op h

-- ---- one word more

pub folds_more : (op : WordOp) (kinds : List WordKind) (j : ℕ) (items : List WordFold) (f : WordFold) → j < length kinds
    → items ≡ map (fold_by op) (take j kinds) → Some f ≡ option_map (fold_by op) (slice_get kinds j)
    → items ++ f ∷ [] ≡ map (fold_by op) (take (j + 1) kinds)
folds_more op kinds j items f l so_far is =
    let none : WordKind = record { signed = false; width = 0 } in
    let k : WordKind = get_or kinds j none in
    let there : slice_get kinds j ≡ Some k = slice_get-get_or kinds j none l in
    let more : take (j + 1) kinds ≡ take j kinds ++ k ∷ [] = take_more kinds j none l in
    let at : Some f ≡ Some (fold_by op k) = rw there at is in
    let same : f ≡ fold_by op k = cc in
    rw (so_far, more, same) (sym (map-append (fold_by op) (take j kinds) (k ∷ [])))

pub folds_all : (op : WordOp) (s : StTree) (j n : ℕ) (items : List WordFold) → n ≡ atom_words (element_atom s) → n ≤ j
    → items ≡ map (fold_by op) (take j (atom_kinds (element_atom s))) → items ≡ map (fold_by op) (atom_kinds (element_atom s))
folds_all op s j n items e l is = is ∙ ap (map (fold_by op)) (take_all j (atom_kinds (element_atom s)) (omega (arith, length-atom_kinds (element_atom s))))

pub word_there : (s : StTree) (j n : ℕ) → n ≡ atom_words (element_atom s) → j < n → j < length (atom_kinds (element_atom s))
word_there s j n e l = omega (arith, length-atom_kinds (element_atom s))
