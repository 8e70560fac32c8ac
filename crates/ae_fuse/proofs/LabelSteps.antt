-- The labels of a node, by those of its arguments.
use Rattle.std.proofs.Common.{◌≡◌, ℕ, ◌+◌, ◌-◌, ◌*◌, ◌/◌, ◌%◌, ◌<◌, ◌≤◌, Bool, true, false, inl, inr, cond, nat_lt, List, [], ◌∷◌, ◌++◌, length, take, drop, map, Some, slice_get, get_or, refl, arith, sym, ap, ◌∙◌, subst, append_assoc, length-append, if◌then◌else◌}
use Rattle.std.specs.Prelude.{flat_map}
use Rattle.std.specs.List.{range_with_len}
use Rattle.std.proofs.Math.Nat.{mul-le-mul_right}
use Rattle.std.proofs.lemmas.Bool.{cases_lt, le-ltb}
use Rattle.std.proofs.lemmas.Nat.{div-add-mod', mod-mul-add, mod_below, mul-add-lt}
use Rattle.std.proofs.lemmas.Grind.{flat_map-append}
use Rattle.std.proofs.lemmas.List.{append-nil}
use Rattle.std.proofs.lemmas.List.Concat.{flat_map-cons}
use Rattle.std.proofs.lemmas.Option.{same_Some}
use Rattle.ae_word.specs.AtomTree.{atom_kinds, atom_words}
use Rattle.ae_word.proofs.Sizes.{length-atom_kinds}
use Rattle.ae_sttype.specs.StTree.{StTree, st_atoms, element_atom, element_words}
use Rattle.ae_sttype.specs.Moves.{OriginTree, from_input, fixed}
use Rattle.ae_sttype.proofs.Places.{length-slots}
use Rattle.ae_trace.proofs.Natural.{map-map}
use Rattle.ae_eval.specs.Stack.{paired}
use Rattle.ae_eval.proofs.Windows.{paired-more}
use Rattle.ae_rewrite.specs.declared.st_program.MoveOp.{MoveOp}
use Rattle.ae_rewrite.specs.declared.st_program.MoveOp.TheVariants.{Shift, Up, Select, Same}
use Rattle.ae_rewrite.specs.Sound.{item_layout, item_layouts}
use Rattle.ae_rewrite.specs.StProgramTree.{StOpTree, StNodeTree, StFuncTree, join, first, second, move}
use Rattle.ae_delay.specs.Moving.{op_move, origin_from, origin_number}
use Rattle.ae_gather.specs.Gathers.{origin_word}
use Rattle.ae_flow.specs.Flow.{node_words, op_words, parts, words_at}
use Rattle.ae_flow.specs.Fitted.{FitsFirst, FitsMove, FitsOp, FitsPair, FitsSecond}
use Rattle.ae_fuse.specs.Labels.{IsReady, label_from}
use Rattle.ae_moves.proofs.Held.{range_more as range-push}

-- ---- moves

shift-behind : (k w o : ℕ) → 0 < w → k * w ≤ o → k ≤ o / w
shift-behind k w o some high = elim (cases_lt (o / w) k) [
  | inl lt ↦ absurd (omega (arith, mul-add-lt (o / w) w (o % w) k lt (mod_below o w some), div-add-mod' o w, high))
  | inr ge ↦ ge
]

-- word o of what a shift makes, behind the words 0
pub shifted-late : (ls : List ℕ) (k n m w o : ℕ) → 0 < w → k * w ≤ o → get_or ls (o - k * w) 0 ≡ label_from ls w (origin_from (Shift k) n m (o / w) (o % w))
shifted-late ls k n m w o some high =
    let late : k ≤ o / w = shift-behind k w o some high in
    let e : k + (o / w - k) ≡ o / w = omega (arith, late) in
    let size : k * w + (o / w - k) * w ≡ o / w * w = omega (arith, ap (λ q. q * w) e) in
    let at : (o / w - k) * w + o % w ≡ o - k * w = omega (arith, size, div-add-mod' o w) in
    ap (λ i. get_or ls i 0) (sym at) ∙ ap (λ b. label_from ls w (cond b (fixed 0) (from_input 0 (o / w - k) (o % w)))) (sym (le-ltb (o / w) k late))

-- the same of an up
pub repeated-at : (ls : List ℕ) (c n m w o : ℕ) → 0 < n → 0 < w → get_or ls (o % (n * w)) 0 ≡ label_from ls w (origin_from (Up c) n m (o / w) (o % w))
repeated-at ls c n m w o many some =
    let e : ℕ = o / w % n in
    let low : e * w + o % w < n * w = omega (arith, mul-add-lt e w (o % w) n (mod_below (o / w) n many) (mod_below o w some)) in
    let rows : (o / w / n * n + e) * w ≡ o / w * w = ap (λ q. q * w) (div-add-mod' (o / w) n) in
    let whole : o / w / n * (n * w) + (e * w + o % w) ≡ o = omega (arith, rows, div-add-mod' o w) in
    let at : o % (n * w) ≡ e * w + o % w = ap (λ p. p % (n * w)) (sym whole) ∙ mod-mul-add (o / w / n) (n * w) (e * w + o % w) low in
    ap (λ i. get_or ls i 0) at

shifted-word : (a : StTree) (ls : List ℕ) (e j : ℕ) (b : Bool)
    → label_from ls (element_words a) (cond b (fixed 0) (from_input 0 e j)) ≡ origin_word (a ∷ []) (ls ∷ []) (cond b (fixed 0) (from_input 0 e j))
shifted-word a ls e j true = refl
shifted-word a ls e j false = refl

label-word : (how : MoveOp) (a : StTree) (ls : List ℕ) (n m e j : ℕ)
    → label_from ls (element_words a) (origin_from how n m e j) ≡ origin_word (a ∷ []) (ls ∷ []) (origin_from how n m e j)
label-word (Shift k) a ls n m e j = shifted-word a ls (e - k) j (nat_lt e k)
label-word (Up c) a ls n m e j = refl
label-word (Select k) a ls n m e j = refl
label-word Same a ls n m e j = refl

-- the labels of all words of a move
pub moved-all : (how : MoveOp) (a s : StTree) (ls moved : List ℕ) (n m w : ℕ) → FitsMove how a s → n ≡ st_atoms a → m ≡ st_atoms s → w ≡ element_words a
    → moved ≡ map (λ o. label_from ls w (origin_from how n m (o / w) (o % w))) (range_with_len 0 (m * w))
    → moved ≡ map (origin_word (a ∷ []) (ls ∷ [])) (op_move how a s).origins
moved-all how a s ls moved n m w fits many most wide was =
    let same : element_words a ≡ element_words s = ap atom_words fits.0 in
    let word : OriginTree → ℕ = origin_word (a ∷ []) (ls ∷ []) in
    let from : ℕ → ℕ → OriginTree = origin_from how (st_atoms a) (st_atoms s) in
    was
    ∙ (λ i. map (λ o. label_from ls (wide i) (origin_from how (many i) (most i) (o / wide i) (o % wide i))) (range_with_len 0 (most i * wide i)))
    ∙ (λ i. map (λ o. label-word how a ls (st_atoms a) (st_atoms s) (o / element_words a) (o % element_words a) i)
    (range_with_len 0 (st_atoms s * element_words a)))
    ∙ (λ i. map (λ o. word (from (o / same i) (o % same i))) (range_with_len 0 (st_atoms s * same i)))
    ∙ sym (map-map word (origin_number how a s) (range_with_len 0 (st_atoms s * element_words s)))

-- ---- pieces

parts-push : (n k o l : ℕ) (ws : List ℕ) → parts (n + 1) k o l ws ≡ parts n k o l ws ++ take l (drop (n * k + o) ws)
parts-push n k o l ws =
    let f : ℕ → List ℕ = λ e. take l (drop (e * k + o) ws) in
    let z : 0 + n ≡ n = omega arith in
    ap (flat_map f) (range-push 0 n ∙ ap (λ x. range_with_len 0 n ++ x ∷ []) z)
    ∙ flat_map-append f (range_with_len 0 n) (n ∷ [])
    ∙ ap (λ xs. flat_map f (range_with_len 0 n) ++ xs) (flat_map-cons f n [] ∙ append-nil (f n))

pub parts-more : (n k o l : ℕ) (ws old more : List ℕ) → more ≡ take (n * k + o + l - (n * k + o)) (drop (n * k + o) ws) → old ≡ parts n k o l ws → old
    ++ more ≡ parts (n + 1) k o l ws
parts-more n k o l ws old more cut was =
    let size : n * k + o + l - (n * k + o) ≡ l = omega arith in
    (λ i. was i ++ (cut ∙ ap (λ x. take x (drop (n * k + o) ws)) size) i) ∙ sym (parts-push n k o l ws)

pub pairs-more : (n k l : ℕ) (us vs old one two : List ℕ) → one ≡ take (n * k + k - n * k) (drop (n * k) us) → two ≡ take (n * l + l - n * l) (drop (n * l) vs)
    → old ≡ paired n k l us vs → (old ++ one) ++ two ≡ paired (n + 1) k l us vs
pairs-more n k l us vs old one two cut split was =
    let size : n * k + k - n * k ≡ k = omega arith in
    let wide : n * l + l - n * l ≡ l = omega arith in
    (λ i. (was i ++ (cut ∙ ap (λ x. take x (drop (n * k) us)) size) i) ++ (split ∙ ap (λ x. take x (drop (n * l) vs)) wide) i)
    ∙ append_assoc (paired n k l us vs) (take k (drop (n * k) us)) (take l (drop (n * l) vs)) ∙ sym (paired-more n k l us vs)

pub piece-ends : (e count k from l : ℕ) → e < count → from + l ≤ k → e * k + from + l ≤ count * k
piece-ends e count k from l low room =
    let up : (e + 1) * k ≤ count * k = mul-le-mul_right k (let z : e + 1 ≤ count = omega arith in z) in
    omega arith

-- ---- the arguments of a node

pub pair-sizes : (a b s : StTree) → FitsPair a b s → (st_atoms a ≡ st_atoms s) × (st_atoms b ≡ st_atoms s)
    × (element_words s ≡ element_words a + element_words b)
pair-sizes a b s fits = (
  sym (length-slots a) ∙ ap length fits.first.slots ∙ length-slots s,
  sym (length-slots b) ∙ ap length fits.second.slots ∙ length-slots s,
  sym (length-atom_kinds (element_atom s)) ∙ ap length fits.kinds ∙ length-append (atom_kinds (element_atom a)) (atom_kinds (element_atom b)) ∙
      (λ i. length-atom_kinds (element_atom a) i + length-atom_kinds (element_atom b) i),
)

first-part : (a s : StTree) → FitsFirst s a → (st_atoms a ≡ st_atoms s) × (element_words s ≤ element_words a)
first-part a s h = let z = pair-sizes s h.other a h.pair in (sym z.0, omega (arith, z.2))

second-part : (a s : StTree) → FitsSecond s a → (st_atoms a ≡ st_atoms s) × (element_words s ≤ element_words a)
second-part a s h = let z = pair-sizes h.other s a h.pair in (sym z.1, omega (arith, z.2))

-- the one argument
pub record HasOne (xs : List ℕ) (P : ℕ → Type 0) : Type 0 where
  pub some : 0 < length xs
  pub only : (a : ℕ) → slice_get xs 0 ≡ Some a → (xs ≡ a ∷ []) × P a

one-is : (x : ℕ) (P : ℕ → Type 0) → P x → HasOne (x ∷ []) P
one-is x P h = record { some = omega arith; only = λ a e. let same : x ≡ a = same_Some x a e in (ap (λ y. y ∷ []) same, subst P same h) }

move-fits : (before : List StFuncTree) (budget copies : ℕ) (f : ℕ → StTree) (xs : List ℕ) (s : StTree) (how : MoveOp)
    → FitsOp before budget copies (map f xs) s (move how) → HasOne xs (λ a. FitsMove how (f a) s)
move-fits before budget copies f [] s how h = absurd h
move-fits before budget copies f (x ∷ []) s how h = one-is x (λ a. FitsMove how (f a) s) h
move-fits before budget copies f (x ∷ y ∷ xs) s how h = absurd h

part-fits : (before : List StFuncTree) (budget copies : ℕ) (f : ℕ → StTree) (xs : List ℕ) (s : StTree) (is_first : Bool)
    → FitsOp before budget copies (map f xs) s (if is_first then first else second)
    → HasOne xs (λ a. (st_atoms (f a) ≡ st_atoms s) × (element_words s ≤ element_words (f a)))
part-fits before budget copies f [] s true h = absurd h
part-fits before budget copies f [] s false h = absurd h
part-fits before budget copies f (x ∷ []) s true h =
    one-is x (λ a. (st_atoms (f a) ≡ st_atoms s) × (element_words s ≤ element_words (f a))) (first-part (f x) s h)
part-fits before budget copies f (x ∷ []) s false h =
    one-is x (λ a. (st_atoms (f a) ≡ st_atoms s) × (element_words s ≤ element_words (f a))) (second-part (f x) s h)
part-fits before budget copies f (x ∷ y ∷ xs) s true h = absurd h
part-fits before budget copies f (x ∷ y ∷ xs) s false h = absurd h

pub record HasTwo (xs : List ℕ) (P : ℕ → ℕ → Type 0) : Type 0 where
  pub some : 1 < length xs
  pub only : (a b : ℕ) → slice_get xs 0 ≡ Some a → slice_get xs 1 ≡ Some b → (xs ≡ a ∷ b ∷ []) × P a b

pair-fits : (before : List StFuncTree) (budget copies : ℕ) (f : ℕ → StTree) (xs : List ℕ) (s : StTree) → FitsOp before budget copies (map f xs) s join
    → HasTwo xs (λ a b. FitsPair (f a) (f b) s)
pair-fits before budget copies f [] s h = absurd h
pair-fits before budget copies f (x ∷ []) s h = absurd h
pair-fits before budget copies f (x ∷ y ∷ []) s h = record {
  some = omega arith;
  only = λ a b e g.
      let same : x ≡ a = same_Some x a e in
      let other : y ≡ b = same_Some y b g in
      ((λ i. same i ∷ other i ∷ []), subst (λ z. FitsPair (f z) (f b) s) same (subst (λ z. FitsPair (f x) (f z) s) other h));
}
pair-fits before budget copies f (x ∷ y ∷ z ∷ xs) s h = absurd h

module _ (s : StFuncTree) (n : StNodeTree) (labels : List (List ℕ)) (h : IsReady s n labels) where
  fits-op : (op : StOpTree) → n.op ≡ op → FitsOp h.before s.budget n.copies (map (item_layout (item_layouts s)) n.args) n.type op
  fits-op op is = subst (FitsOp h.before s.budget n.copies (map (item_layout (item_layouts s)) n.args) n.type) is h.fits

  pub ready-move : (how : MoveOp) → n.op ≡ move how → HasOne n.args (λ a. FitsMove how (item_layout (item_layouts s) a) n.type)
  ready-move how is = move-fits h.before s.budget n.copies (item_layout (item_layouts s)) n.args n.type how (fits-op (move how) is)

  pub ready-part : (is_first : Bool) → n.op ≡ (if is_first then first else second)
      → HasOne n.args (λ a. (st_atoms (item_layout (item_layouts s) a) ≡ st_atoms n.type)
      × (element_words n.type ≤ element_words (item_layout (item_layouts s) a)))
  ready-part b is = part-fits h.before s.budget n.copies (item_layout (item_layouts s)) n.args n.type b (fits-op (if b then first else second) is)

  pub ready-pair : n.op ≡ join → HasTwo n.args (λ a b. FitsPair (item_layout (item_layouts s) a) (item_layout (item_layouts s) b) n.type)
  ready-pair is = pair-fits h.before s.budget n.copies (item_layout (item_layouts s)) n.args n.type (fits-op join is)

  pub ready-item : (a : ℕ) → a < length labels → a < length (item_layouts s)
  ready-item a low = omega (arith, h.below)

-- ---- the words of a node

pub move-words : (layouts : List StTree) (labels : List (List ℕ)) (n : StNodeTree) (how : MoveOp) (a : ℕ) → n.op ≡ move how → n.args ≡ a ∷ []
    → node_words [] layouts labels n ≡ map (origin_word (item_layout layouts a ∷ []) (words_at labels a ∷ []))
    (op_move how (item_layout layouts a) n.type).origins
move-words layouts labels n how a op args = λ i. op_words [] (map (item_layout layouts) (args i)) n.type (op i) (map (words_at labels) (args i))

pub pair-words : (layouts : List StTree) (labels : List (List ℕ)) (n : StNodeTree) (a b : ℕ) → n.op ≡ join → n.args ≡ a ∷ b ∷ []
    → node_words [] layouts labels n ≡ paired (st_atoms n.type) (element_words (item_layout layouts a)) (element_words (item_layout layouts b))
    (words_at labels a) (words_at labels b)
pair-words layouts labels n a b op args = λ i. op_words [] (map (item_layout layouts) (args i)) n.type (op i) (map (words_at labels) (args i))

pub part-words : (layouts : List StTree) (labels : List (List ℕ)) (n : StNodeTree) (is_first : Bool) (a : ℕ) → n.op ≡ (if is_first then first else second)
    → n.args ≡ a ∷ []
    → node_words [] layouts labels n ≡ parts (st_atoms n.type) (element_words (item_layout layouts a))
    (if is_first then 0 else element_words (item_layout layouts a) - element_words n.type) (element_words n.type) (words_at labels a)
part-words layouts labels n true a op args = λ i. op_words [] (map (item_layout layouts) (args i)) n.type (op i) (map (words_at labels) (args i))
part-words layouts labels n false a op args = λ i. op_words [] (map (item_layout layouts) (args i)) n.type (op i) (map (words_at labels) (args i))
