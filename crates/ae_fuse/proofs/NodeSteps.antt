-- The labels of the items of an instance, node by node: those of a node come from those of its arguments alone.
use Rattle.std.proofs.Common.{◌≡◌, ℕ, zero, suc, ◌+◌, ◌<◌, ◌≤◌, inl, inr, List, [], ◌∷◌, ◌++◌, length, map, Some, slice_get, get_or, refl, arith, sym, ap, ◌∙◌, subst, length-append}
use Rattle.std.specs.List.{range_with_len}
use Rattle.std.proofs.lemmas.Bool.{cases_lt}
use Rattle.std.proofs.lemmas.List.{get_or_append_left, get_or-append-add, length-map}
use Rattle.std.proofs.lemmas.Option.{get_or_from_slice_get, slice_get-get_or, slice_get_within}
use Rattle.ae_sttype.specs.StTree.{StTree}
use Rattle.ae_sttype.specs.Size.{IsInSize}
use Rattle.ae_moves.specs.Origins.{IsMove, move_latency}
use Rattle.ae_rewrite.specs.Sound.{item_layout, item_layouts}
use Rattle.ae_rewrite.specs.StProgramTree.{StFuncTree, StNodeTree}
use Rattle.ae_rewrite.proofs.Grown.{entry, grown-front}
use Rattle.ae_flow.specs.Flow.{layout_words, node_words, op_words, words_at}
use Rattle.ae_fuse.specs.Fused.{IsMovable}
use Rattle.ae_fuse.specs.Labels.{IsReady, labelled_origin, layout_numbers}
use Rattle.ae_fuse.specs.Moved.{own_labels, own_move}
use Rattle.ae_fuse.specs.Wanted.{KeepWanted}
use Rattle.ae_fuse.proofs.ItemSteps.{numbers-many}
use Rattle.ae_flow.proofs.Flowing.{node_layout as layout-of-node}
use Rattle.ae_retime.proofs.Lists.{layouts_long as count-items}

pub map-along : {X : Type 0} (f g : ℕ → X) (xs : List ℕ) → ((k x : ℕ) → slice_get xs k ≡ Some x → f x ≡ g x) → map f xs ≡ map g xs
map-along f g [] h = refl
map-along f g (x ∷ xs) h = λ i. h 0 x refl i ∷ map-along f g xs (λ k y found. h (suc k) y found) i

pub node-agree : (layouts : List StTree) (ls ms : List (List ℕ)) (n : StNodeTree) → ((i a : ℕ) → slice_get n.args i ≡ Some a → words_at ls a ≡ words_at ms a)
    → node_words [] layouts ls n ≡ node_words [] layouts ms n
node-agree layouts ls ms n h = λ k. op_words [] (map (item_layout layouts) n.args) n.type n.op (map-along (words_at ls) (words_at ms) n.args h k)

range-agree : (f g : ℕ → ℕ) (k n : ℕ) → ((i : ℕ) → k ≤ i → i < k + n → f i ≡ g i) → map f (range_with_len k n) ≡ map g (range_with_len k n)
range-agree f g k zero h = refl
range-agree f g k (suc n) h = λ i. h k (omega arith) (omega arith) i ∷ range-agree f g (k + 1) n (λ j a b. h j (omega (arith, a)) (omega (arith, b))) i

-- when the first items arrive, by labels that they have
pub arrivals-agree : (s : StFuncTree) (labels : List (List ℕ)) (n : ℕ) → ((i : ℕ) → i < n → words_at labels i ≡ words_at (own_labels s) i)
    → map (λ i. move_latency (own_move s labels i)) (range_with_len 0 n) ≡ map (λ i. move_latency (own_move s (own_labels s) i)) (range_with_len 0 n)
arrivals-agree s labels n same =
    range-agree (λ i. move_latency (own_move s labels i)) (λ i. move_latency (own_move s (own_labels s) i)) 0 n (λ i a b.
    (let e = same i (omega (arith, b)) in
    λ k. move_latency (record { ins = s.ins; out = item_layout (item_layouts s) i; origins = map (labelled_origin s.ins) (e k) })))

module _ (s : StFuncTree) (h : IsMovable s) where
  pub front : (a : ℕ) → a < length s.ins → words_at (layout_numbers 1 s.ins) a ≡ words_at (own_labels s) a
  front a low =
      let there = slice_get-get_or (layout_numbers 1 s.ins) a [] (omega (arith, low, numbers-many 1 s.ins)) in
      sym (get_or_from_slice_get (own_labels s) a (words_at (layout_numbers 1 s.ins) a) []
      (grown-front (node_words [] (item_layouts s)) (layout_numbers 1 s.ins) s.nodes a (words_at (layout_numbers 1 s.ins) a) there))

  pub full-long : (a : ℕ) → a < length (item_layouts s) → length (words_at (own_labels s) a) ≡ layout_words (item_layout (item_layouts s) a)
  full-long a low =
      let m : IsMove (own_move s (own_labels s) a) = h.moves a low in
      sym (length-map (words_at (own_labels s) a) (labelled_origin s.ins)) ∙ m.count

  pub move-agree : (labels : List (List ℕ)) (a : ℕ) → words_at labels a ≡ words_at (own_labels s) a → a < length (item_layouts s) → IsMove (own_move s labels a)
  move-agree labels a same low =
      subst (λ (ws : List ℕ). IsMove (record { ins = s.ins; out = item_layout (item_layouts s) a; origins = map (labelled_origin s.ins) ws })) (sym same)
      (h.moves a low)

  module _ (j : ℕ) (n : StNodeTree) (found : slice_get s.nodes j ≡ Some n) where
    low-node : j < length s.nodes
    low-node = slice_get_within s.nodes j n found

    pub place-low : length s.ins + j < length (item_layouts s)
    place-low = omega (arith, low-node, count-items s)

    pub node-own : node_words [] (item_layouts s) (own_labels s) n ≡ words_at (own_labels s) (length s.ins + j)
    node-own =
        let step = node_words [] (item_layouts s) in
        let first = layout_numbers 1 s.ins in
        let e = entry step first s.nodes j n found in
        let many : length first ≡ length s.ins = numbers-many 1 s.ins in
        let own : words_at (own_labels s) (length first + j) ≡ step e.before n = get_or_from_slice_get (own_labels s) (length first + j) (step e.before n)
        [] e.is in
        node-agree (item_layouts s) (own_labels s) e.before n (λ i a at.
        (let below = h.words.args j i a n found at in
        let low : a < length e.before = omega (arith, below, e.long, many) in
        let there = slice_get-get_or e.before a [] low in
        get_or_from_slice_get (own_labels s) a (words_at e.before a) [] (e.same a (words_at e.before a) there)))
        ∙ sym own ∙ ap (λ k. words_at (own_labels s) (k + j)) many

    pub size-here : IsInSize n.type
    size-here = subst IsInSize (layout-of-node s j n found) (h.words.sizes (length s.ins + j) place-low)

    pub ready-here : (ls : List (List ℕ)) → length ls ≡ length s.ins + j
        → ((i a : ℕ) → slice_get n.args i ≡ Some a → words_at ls a ≡ words_at (own_labels s) a) → IsReady s n ls
    ready-here ls many same = record {
      before = h.words.before;
      fits = h.words.fits j n found;
      size = size-here;
      sizes = h.words.sizes;
      below = omega (arith, place-low, many);
      args = λ i a at. (let below = h.words.args j i a n found at in omega (arith, below, many));
      long = λ i a at. (let below = h.words.args j i a n found at in ap length (same i a at) ∙ full-long a (omega (arith, below, place-low)));
    }

    -- what the node makes of labels that its arguments have
    pub own-here : (ls : List (List ℕ)) → ((i a : ℕ) → slice_get n.args i ≡ Some a → words_at ls a ≡ words_at (own_labels s) a)
        → node_words [] (item_layouts s) ls n ≡ words_at (own_labels s) (length s.ins + j)
    own-here ls same = node-agree (item_layouts s) ls (own_labels s) n same ∙ node-own

    pub long-here : length (words_at (own_labels s) (length s.ins + j)) ≡ layout_words n.type
    long-here = full-long (length s.ins + j) place-low ∙ ap layout_words (layout-of-node s j n found)

  -- one item more, and labels that are let go of
  pub live-next : (last : List ℕ) (j : ℕ) (ls freed kept : List (List ℕ)) (own : List ℕ) → length ls ≡ length s.ins + j
      → ((a : ℕ) → j < get_or last a 0 → a < length ls → words_at ls a ≡ words_at (own_labels s) a)
      → own ≡ words_at (own_labels s) (length s.ins + j) → KeepWanted last j (ls ++ own ∷ []) freed → KeepWanted last j freed kept → (a : ℕ)
      → j + 1 < get_or last a 0 → a < length kept → words_at kept a ≡ words_at (own_labels s) a
  live-next last j ls freed kept own many live is one two a wanted low =
      two.same a wanted ∙ one.same a wanted ∙ elim (cases_lt a (length ls)) [
        | inl lt ↦ get_or_append_left ls (own ∷ []) [] a lt ∙ live a (omega (arith, wanted)) lt
        | inr ge ↦
            let all : length kept ≡ length ls + 1 = two.many ∙ one.many ∙ length-append ls (own ∷ []) in
            let e : length ls + 0 ≡ a = omega (arith, ge, low, all) in
            let place : length s.ins + j ≡ a = omega (arith, e, many) in
            ap (words_at (ls ++ own ∷ [])) (sym e) ∙ get_or-append-add ls (own ∷ []) 0 [] ∙ is ∙ ap (words_at (own_labels s)) place
      ]
