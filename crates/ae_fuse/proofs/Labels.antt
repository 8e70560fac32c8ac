-- The labels that a schedule makes of numbered words are those of the trace: no bits of the arguments tell them apart.
use Rattle.std.proofs.Common.{◌≡◌, ℕ, zero, suc, ◌+◌, ◌-◌, ◌<◌, ◌≤◌, ◌==◌, inl, inr, Bool, true, false, nat_le, List, [], ◌∷◌, ◌++◌, length, take, drop, map, get_or, Some, IsTrue, slice_get, refl, arith, sym, ap, ◌∙◌, subst, if◌then◌else◌, length-take, length-drop}
use Rattle.std.specs.Prelude.{flat_map}
use Rattle.std.specs.List.{range_with_len}
use Rattle.std.proofs.lemmas.Bool.{and_parts, cases_Bool, cond-true, cond-false}
use Rattle.std.proofs.lemmas.Bool.Decides.{nat_tests}
use Rattle.std.proofs.lemmas.List.{take-append-drop, get_or-take, get_or-drop, length-map}
use Rattle.std.proofs.lemmas.List.Concat.{flat_map-cons}
use Rattle.std.proofs.lemmas.List.FromFn.{length-map-range_with_len, get_or-map-range_with_len}
use Rattle.std.proofs.lemmas.Option.{same_Some}
use Rattle.ae_seqtype.specs.SeqTree.{SeqTree, in_size, words, kinds, atom_of}
use Rattle.ae_seqtype.specs.ValueTree.{ValueTree, flat, value_of, Fit}
use Rattle.ae_seqtype.proofs.Sizes.{length-kinds}
use Rattle.ae_seqtype.proofs.Stands.{stands}
use Rattle.ae_seqtype.proofs.Values.{flat-value_of}
use Rattle.ae_seq.specs.ProgramTree.{OpTree, pair, fst, snd, zip, shift, up, select, partition, unpartition, NodeTree, FuncTree, ProgramTree}
use Rattle.ae_seq.specs.Typing.{grown, param_types}
use Rattle.ae_seq.specs.Meaning.{Meaning, at, op_value, node_value, item_values, meanings}
use Rattle.ae_eval.specs.Stack.{AllFit, IsTyped, params_for, params_in, types_in, values_in, values_of, words_of}
use Rattle.ae_rewrite.specs.Interface.{AreValues, main_of}
use Rattle.ae_rewrite.specs.StProgramTree.{StFuncTree}
use Rattle.ae_rewrite.specs.Scheduled.{HasKey, IsInstance}
use Rattle.ae_flow.specs.Flow.{item_words, words_at}
use Rattle.ae_flow.proofs.MeaningNodes.{Standing}
use Rattle.ae_flow.proofs.MeaningProgram.{items-stand, values-fit}
use Rattle.ae_trace.specs.Traces.{is_movement_op, are_movements, numbered, renamed, word_numbered}
use Rattle.ae_trace.proofs.Natural.{map-map, map-same, items-renamed, value-renamed}
use Rattle.ae_trace.proofs.Tracing.{numbers-renamed}
use Rattle.ae_trace.proofs.Origins.{own-words, flat-renamed, at-map}
use Rattle.ae_trace.proofs.Laying.{AllWide, wide-kinds, wide-atom, widths-ok, sized-parts, bits-fit}
use Rattle.ae_fuse.specs.Labels.{are_moving}
use Rattle.ae_fuse.proofs.Flowing.{nodes-moving, items-all, at-all-words}

-- ---- what is called does not matter to movement lines

op-known : (known other : List Meaning) (op : OpTree) (vs : List ValueTree) → is_movement_op op ≡ true → op_value known op vs ≡ op_value other op vs
op-known known other pair vs h = refl
op-known known other fst vs h = refl
op-known known other snd vs h = refl
op-known known other zip vs h = refl
op-known known other (shift k) vs h = refl
op-known known other (up n) vs h = refl
op-known known other (select k) vs h = refl
op-known known other (partition n m) vs h = refl
op-known known other unpartition vs h = refl
op-known known other _ vs h = absurd (cc)

pub items-known : (known other : List Meaning) (items : List ValueTree) (ns : List NodeTree) → are_movements ns ≡ true
    → grown (node_value known) items ns ≡ grown (node_value other) items ns
items-known known other items [] h = refl
items-known known other items (n ∷ ns) h =
    let p = and_parts _ _ h in
    ap (λ v. grown (node_value known) (items ++ v ∷ []) ns) (op-known known other n.op (map (at items) n.args) p.0)
    ∙ items-known known other (items ++ node_value other items n ∷ []) ns p.1

-- ---- blocks of bits

pub values-of-bits : (ts : List SeqTree) (bits : List ℕ) → ((i : ℕ) (t : SeqTree) → slice_get ts i ≡ Some t → IsTrue (in_size t)) → length bits ≡ words_of ts
    → ((k : ℕ) → k < length bits → get_or bits k 0 ≤ 1)
    → AreValues ts (values_in ts bits) × (flat_map flat (values_in ts bits) ≡ bits)
values-of-bits [] [] sized long small = (tt, refl)
values-of-bits [] (b ∷ bits) sized long small = absurd (omega arith)
values-of-bits (t ∷ ts) bits sized long small =
    let n = words t in
    let own : List ℕ = take n bits in
    let rest : List ℕ = drop n bits in
    let own_long : length own ≡ words t = omega (arith, length-take n bits) in
    let rest_long : length rest ≡ words_of ts = omega (arith, length-drop n bits) in
    let first = sized 0 t refl in
    let wide : AllWide (kinds t) = wide-kinds t (wide-atom (atom_of t) (widths-ok t (sized-parts t first))) in
    let fits : Fit t own = bits-fit own (kinds t) (own_long ∙ sym (length-kinds t))
    (λ k l. (let e : get_or own k 0 ≡ get_or bits k 0 = get_or-take n bits k 0 (omega (arith, own_long)) in
    let s = small k (omega (arith, length-take n bits)) in omega arith)) wide in
    let r = values-of-bits ts rest (λ i u f. sized (suc i) u f) rest_long
    (λ k l. (let e : get_or rest k 0 ≡ get_or bits (n + k) 0 = get_or-drop n bits k 0 in let s = small (n + k) (omega (arith, length-drop n bits)) in
    omega arith)) in (
      ((own, stands t own fits), r.0),
      flat_map-cons flat (value_of t own) (values_in ts rest) ∙ (λ i. flat-value_of t own own_long i ++ r.1 i) ∙
          take-append-drop n bits,
    )

-- a table of bits
abbrev pub bits_by : (ℕ → ℕ) → ℕ → List ℕ
bits_by f n = map f (range_with_len 0 n)

table-at : (f : ℕ → ℕ) (n i : ℕ) → i < n → get_or (bits_by f n) i 0 ≡ f i
table-at f n i l = get_or-map-range_with_len f 0 n i i 0 l (omega arith)

abbrev pub one_at : ℕ → ℕ → ℕ
one_at n i = if i == n then 1 else 0

abbrev pub one_everywhere : ℕ → ℕ
one_everywhere i = 1

-- ---- lists of numbers up to a greatest one

abbrev pub capped : ℕ → ℕ → ℕ
capped most x = if nat_le x most then x else 0

below-cap : (most x : ℕ) → capped most x ≡ x → x ≤ most
below-cap most x h = elim (cases_Bool (nat_le x most)) [
  | inl t ↦ grind (arith, nat_tests)
  | inr f ↦ (let e : 0 ≡ x = sym (cond-false _ x 0 f) ∙ h in omega arith)
]

either-way : (b : Bool) (x : ℕ) → (if b then x else x) ≡ x
either-way true x = refl
either-way false x = refl

pub cap-zero : (most : ℕ) → capped most 0 ≡ 0
cap-zero most = either-way (nat_le 0 most) 0

cap-range : (most k n : ℕ) → k + n ≤ most + 1 → map (capped most) (range_with_len k n) ≡ range_with_len k n
cap-range most k zero h = refl
cap-range most k (suc n) h =
    let low : nat_le k most ≡ true = grind (arith, nat_tests) in
    (λ i. cond-true _ k 0 low i ∷ cap-range most (k + 1) n (omega arith) i)

cap-numbers : (most k : ℕ) (ts : List SeqTree) → k + words_of ts ≤ most + 1 → map (renamed (capped most)) (numbered k ts) ≡ numbered k ts
cap-numbers most k [] h = refl
cap-numbers most k (t ∷ ts) h =
    let zero_kept = cap-zero most in
    let first = value-renamed (capped most) zero_kept t (range_with_len k (words t)) ∙ ap (value_of t) (cap-range most k (words t) (omega arith)) in
    (λ i. first i ∷ cap-numbers most (k + words t) ts (omega arith) i)

pub differ : (a : ℕ) → a ≡ 0 → a ≡ 1 → ⊥
differ a h g = omega arith

same-number : (most a b : ℕ) → a ≤ most → b ≤ most → word_numbered (bits_by one_everywhere most) a ≡ word_numbered (bits_by one_everywhere most) b
    → ((n : ℕ) → n < most → word_numbered (bits_by (one_at n) most) a ≡ word_numbered (bits_by (one_at n) most) b) → a ≡ b
same-number most zero zero p q all each = refl
same-number most zero (suc m) p q all each = absurd (differ _ (sym all) (table-at one_everywhere most m (omega arith)))
same-number most (suc n) zero p q all each = absurd (differ _ all (table-at one_everywhere most n (omega arith)))
same-number most (suc n) (suc m) p q all each =
    let e = each n (omega arith) in
    let here : get_or (bits_by (one_at n) most) n 0 ≡ 1 = table-at (one_at n) most n (omega arith) ∙
    (let t : (n == n) ≡ true = grind (arith, nat_tests) in cond-true _ 1 0 t) in
    let there : get_or (bits_by (one_at n) most) m 0 ≡ one_at n m = table-at (one_at n) most m (omega arith) in
    elim (cases_Bool (m == n)) [
      | inl t ↦ (let s : m ≡ n = grind (arith, nat_tests) in ap suc (sym s))
      | inr f ↦ absurd (differ _ (there ∙ cond-false _ 1 0 f) (sym e ∙ here))
    ]

pub same-numbers : (most : ℕ) (xs ys : List ℕ) → map (capped most) xs ≡ xs → map (capped most) ys ≡ ys
    → map (word_numbered (bits_by one_everywhere most)) xs ≡ map (word_numbered (bits_by one_everywhere most)) ys
    → ((n : ℕ) → n < most → map (word_numbered (bits_by (one_at n) most)) xs ≡ map (word_numbered (bits_by (one_at n) most)) ys) → xs ≡ ys
same-numbers most [] [] p q all each = refl
same-numbers most [] (y ∷ ys) p q all each = absurd (none-long _ _ all)
  where
    none-long : (z : ℕ) (zs : List ℕ) → ◌≡◌ {A = List ℕ} [] (z ∷ zs) → ⊥
    none-long z zs h = let e : 0 ≡ suc (length zs) = ap length h in omega arith
same-numbers most (x ∷ xs) [] p q all each = absurd (none-long _ _ all)
  where
    none-long : (z : ℕ) (zs : List ℕ) → ◌≡◌ {A = List ℕ} (z ∷ zs) [] → ⊥
    none-long z zs h = let e : suc (length zs) ≡ 0 = ap length h in omega arith
same-numbers most (x ∷ xs) (y ∷ ys) p q all each =
    let head : List ℕ → ℕ = λ zs. get_or zs 0 0 in
    let tail : List ℕ → List ℕ = λ zs. drop 1 zs in
    let first = same-number most x y (below-cap most x (ap head p)) (below-cap most y (ap head q)) (ap head all) (λ n l. ap head (each n l)) in
    let rest = same-numbers most xs ys (ap tail p) (ap tail q) (ap tail all) (λ n l. ap tail (each n l)) in
    (λ i. first i ∷ rest i)

-- ---- labels

-- the instance of a movement program's function
pub record IsMain (p : ProgramTree) (instances : List StFuncTree) (g : FuncTree) (s : StFuncTree) : Type 0 where
  pub typed : IsTyped p
  pub there : slice_get p.funcs (main_of p) ≡ Some g
  pub moves : are_movements g.nodes ≡ true
  pub sized : (i : ℕ) (t : SeqTree) → slice_get (param_types g) i ≡ Some t → IsTrue (in_size t)
  pub instance : IsInstance p (HasKey (take (length instances - 1) instances)) s
  pub alone : (k func budget : ℕ) → HasKey (take (length instances - 1) instances) k func budget → ⊥
  pub is_main : s.func ≡ main_of p

module _ (p : ProgramTree) (instances : List StFuncTree) (g : FuncTree) (s : StFuncTree) (m : IsMain p instances g s) where
  abbrev pub ts : List SeqTree
  ts = param_types g

  abbrev pub total : ℕ
  total = words_of ts

  abbrev pub labels : List (List ℕ)
  labels = map flat (numbered 1 ts)

  same-func : m.instance.of ≡ g
  same-func = same_Some m.instance.of g (sym m.instance.known ∙ ap (slice_get p.funcs) m.is_main ∙ m.there)

  pub moving : are_moving s.nodes ≡ true
  moving = nodes-moving p _ s.func s.budget (length m.instance.of.params) m.instance.of.nodes s.nodes
      (ap (λ (f : FuncTree). are_movements f.nodes) same-func ∙ m.moves) m.instance.nodes

  own-params : params_in p s.func ≡ ts
  own-params = ap (λ i. params_for (slice_get p.funcs i)) m.is_main ∙ ap params_for m.there

  -- the items of a block stand
  pub block-stands : (vs : List ValueTree) → AreValues ts vs
      → Standing (types_in p s.func) (length (types_in p s.func)) (item_words [] s (map flat vs)) (item_values [] g vs)
  block-stands vs values =
      let fit = values-fit ts vs values in
      let own : AllFit (params_in p s.func) (map flat vs) = subst (λ us. AllFit us (map flat vs)) (sym own-params) fit.0 in
      let st = items-stand p (HasKey (take (length instances - 1) instances)) s m.typed m.instance [] (λ k f b key. absurd (m.alone k f b key))
      (map flat vs) own in
      let args : values_of (params_in p s.func) (map flat vs) ≡ vs = ap (λ us. values_of us (map flat vs)) own-params ∙ fit.1 in
      let means = take s.func (meanings p.funcs) in
      let same : item_values means m.instance.of (values_of (params_in p s.func) (map flat vs)) ≡ item_values [] g vs =
      ap (λ (f : FuncTree). item_values means f (values_of (params_in p s.func) (map flat vs))) same-func ∙ ap (item_values means g) args ∙
      items-known means [] vs g.nodes m.moves in
      subst (Standing (types_in p s.func) (length (types_in p s.func)) (item_words [] s (map flat vs))) same st

  -- an item by its number
  abbrev pub label_words : ℕ → List ℕ
  label_words i = words_at (item_words [] s labels) i

  abbrev pub traced_words : ℕ → List ℕ
  traced_words i = flat (at (item_values [] g (numbered 1 ts)) i)

  flats-renamed : (f : ℕ → ℕ) (vs : List ValueTree) → map (map f) (map flat vs) ≡ map flat (map (renamed f) vs)
  flats-renamed f vs = map-map (map f) flat vs ∙ map-same (λ v. map f (flat v)) (λ v. flat (renamed f v)) vs (λ v. sym (flat-renamed f v)) ∙
      sym (map-map flat (renamed f) vs)

  label-renamed : (f : ℕ → ℕ) → f 0 ≡ 0 → (i : ℕ) → map f (label_words i) ≡ words_at (item_words [] s (map flat (map (renamed f) (numbered 1 ts)))) i
  label-renamed f kept i =
      sym (at-all-words f kept (item_words [] s labels) i)
      ∙ ap (λ wss. words_at wss i) (sym (items-all f kept [] s labels moving))
      ∙ ap (λ wss. words_at (item_words [] s wss) i) (flats-renamed f (numbered 1 ts))

  trace-renamed : (f : ℕ → ℕ) → f 0 ≡ 0 → (i : ℕ) → map f (traced_words i) ≡ flat (at (item_values [] g (map (renamed f) (numbered 1 ts))) i)
  trace-renamed f kept i =
      sym (flat-renamed f (at (item_values [] g (numbered 1 ts)) i))
      ∙ ap flat (sym (at-map (renamed f) refl (item_values [] g (numbered 1 ts)) i))
      ∙ ap (λ vs. flat (at vs i)) (sym (items-renamed f kept [] (numbered 1 ts) g.nodes m.moves))

  item-agrees : (vs : List ValueTree) → AreValues ts vs → (i : ℕ) → i < length (types_in p s.func)
      → words_at (item_words [] s (map flat vs)) i ≡ flat (at (item_values [] g vs) i)
  item-agrees vs values i low =
      let st = block-stands vs values in
      let t = entry (types_in p s.func) i low in
      sym (own-words t.0 _ _ (st.each i t.0 low t.1))
    where
      entry : (us : List SeqTree) (i : ℕ) → i < length us → (t : SeqTree) × (slice_get us i ≡ Some t)
      entry [] i h = absurd (omega arith)
      entry (u ∷ us) zero h = (u, refl)
      entry (u ∷ us) (suc i) h = entry us i (omega arith)

  -- no bits tell the labels from those of the trace
  bits-agree : (f : ℕ → ℕ) → ((i : ℕ) → f i ≤ 1) → (i : ℕ) → i < length (types_in p s.func)
      → map (word_numbered (bits_by f total)) (label_words i) ≡ map (word_numbered (bits_by f total)) (traced_words i)
  bits-agree f small i low =
      let bits = bits_by f total in
      let long : length bits ≡ total = length-map-range_with_len f 0 total in
      let v = values-of-bits ts bits m.sized long (λ k l. (let e : get_or bits k 0 ≡ f k = table-at f total k (omega arith) in let h = small k in
      omega arith)) in
      let vs = values_in ts bits in
      let h : ℕ → ℕ = word_numbered bits in
      let named : map (renamed h) (numbered 1 ts) ≡ vs = ap (λ ws. map (renamed (word_numbered ws)) (numbered 1 ts)) (sym v.1) ∙ numbers-renamed [] ts vs v.0 in
      label-renamed h refl i
      ∙ ap (λ us. words_at (item_words [] s (map flat us)) i) named
      ∙ item-agrees vs v.0 i low
      ∙ ap (λ us. flat (at (item_values [] g us) i)) (sym named)
      ∙ sym (trace-renamed h refl i)

  one-small : (n i : ℕ) → one_at n i ≤ 1
  one-small n i = elim (i == n) as (λ b. (if b then 1 else 0) ≤ 1) [ true ↦ omega arith | false ↦ omega arith ]

  pub item-labels : (i : ℕ) → i < length (types_in p s.func) → label_words i ≡ traced_words i
  item-labels i low =
      let kept : map (renamed (capped total)) (numbered 1 ts) ≡ numbered 1 ts = cap-numbers total 1 ts (omega arith) in
      same-numbers total (label_words i) (traced_words i)
      (label-renamed (capped total) (cap-zero total) i ∙ ap (λ us. words_at (item_words [] s (map flat us)) i) kept)
      (trace-renamed (capped total) (cap-zero total) i ∙ ap (λ us. flat (at (item_values [] g us) i)) kept)
      (bits-agree one_everywhere (λ k. omega arith) i low)
      (λ n l. bits-agree (one_at n) (one-small n) i low)

  -- as many of both
  pub zero_values : AreValues ts (values_in ts (bits_by (λ i. 0) total)) × (flat_map flat (values_in ts (bits_by (λ i. 0) total)) ≡ bits_by (λ i. 0) total)
  zero_values =
      let f : ℕ → ℕ = λ i. 0 in
      values-of-bits ts (bits_by f total) m.sized (length-map-range_with_len f 0 total)
      (λ k l. (let e : get_or (bits_by f total) k 0 ≡ 0 = table-at f total k (omega (arith, length-map-range_with_len f 0 total)) in omega arith))

  pub counts : (length (item_words [] s labels) ≡ length (types_in p s.func)) × (length (item_values [] g (numbered 1 ts)) ≡ length (types_in p s.func))
  counts =
      let bits = bits_by (λ i. 0) total in
      let vs = values_in ts bits in
      let h : ℕ → ℕ = word_numbered bits in
      let st = block-stands vs zero_values.0 in
      let named : map (renamed h) (numbered 1 ts) ≡ vs = ap (λ ws. map (renamed (word_numbered ws)) (numbered 1 ts)) (sym zero_values.1) ∙
      numbers-renamed [] ts vs zero_values.0 in
      let a : map (map h) (item_words [] s labels) ≡ item_words [] s (map flat vs) = sym (items-all h refl [] s labels moving) ∙
      ap (item_words [] s) (flats-renamed h (numbered 1 ts)) ∙ ap (λ us. item_words [] s (map flat us)) named in
      let b : map (renamed h) (item_values [] g (numbered 1 ts)) ≡ item_values [] g vs = sym (items-renamed h refl [] (numbered 1 ts) g.nodes m.moves) ∙
      ap (item_values [] g) named in (
        sym (length-map (item_words [] s labels) (map h)) ∙ ap length a ∙ st.words,
        sym (length-map (item_values [] g (numbered 1 ts)) (renamed h)) ∙
            ap length b ∙ st.values,
      )

  same-lists : (xs : List (List ℕ)) (vs : List ValueTree) → length xs ≡ length vs → ((i : ℕ) → i < length xs → words_at xs i ≡ flat (at vs i))
      → xs ≡ map flat vs
  same-lists [] [] e h = refl
  same-lists [] (v ∷ vs) e h = absurd (omega arith)
  same-lists (x ∷ xs) [] e h = absurd (omega arith)
  same-lists (x ∷ xs) (v ∷ vs) e h = (λ i. h 0 (omega arith) i ∷ same-lists xs vs (omega arith) (λ k l. h (suc k) (omega arith)) i)

  pub all-labels : item_words [] s labels ≡ map flat (item_values [] g (numbered 1 ts))
  all-labels = same-lists (item_words [] s labels) (item_values [] g (numbered 1 ts)) (counts.0 ∙ sym counts.1)
      (λ i l. item-labels i (let e = counts.0 in omega arith))
