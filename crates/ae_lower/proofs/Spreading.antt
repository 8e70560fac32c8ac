-- A body on each lane, one block after the other.
use Rattle.std.proofs.Common.{ℕ, zero, suc, ◌≡◌, ◌+◌, ◌*◌, ◌<◌, ◌≤◌, List, [], ◌∷◌, length, map, take, drop, get_or, Some, slice_get, arith, refl, ap, sym, ◌∙◌, subst, flat_map, ◌%◌, ◌/◌}
use Rattle.std.specs.List.{range_with_len}
use Rattle.std.proofs.Math.Seq.{take-nil}
use Rattle.ae_netlist.proofs.Gets.{get_from_take}
use Rattle.std.proofs.Math.Nat.{mul-le-mul_right, mul_assoc, add-mul}
use Rattle.std.proofs.lemmas.Nat.{mul-add-lt, div-add-mod', mod-mul-add, mod_below}
use Rattle.std.proofs.lemmas.List.{length-take-le}
use Rattle.std.proofs.lemmas.Option.{slice_get_within, none-some, unwrap_or-slice_get}
use Rattle.std.specs.Prelude.{unwrap_or}
use Rattle.ae_word.specs.AtomTree.{word}
use Rattle.ae_sttype.specs.declared.st_type.Slot.{Slot}
use Rattle.ae_sttype.specs.StTree.{StTree, tseq, sseq, time, lanes, st_atoms, element_words}
use Rattle.ae_sttype.specs.Slots.{slots}
use Rattle.ae_sttype.specs.Moves.{columns_of}
use Rattle.ae_sttype.proofs.Bounds.{element_words_pos}
use Rattle.ae_sttype.proofs.Places.{length-slots}
use Rattle.ae_fold.proofs.Blocks.{atom_at, atom_of}
use Rattle.ae_ops.specs.Waves.{Wave}
use Rattle.ae_ops.specs.Blocks.{stream_of, BlockLaw, AreWords, AllAreWords, AllHold, HoldsWords}
use Rattle.ae_flow.specs.Flow.{layout_words, pieces}
use Rattle.ae_flow.specs.Fitted.{elements_stream}
use Rattle.ae_ports.specs.Ports.{streams_of}
use Rattle.ae_lower.specs.Parts.{plain_part, from_column, lane_waves, mapped_by, AllTake}
use Rattle.ae_ports.proofs.Columns.{joined_word, element_columns as widths_long}

-- ---- words of pieces

pub get_take : (ws : List ℕ) (n i d : ℕ) → i < n → get_or (take n ws) i d ≡ get_or ws i d
get_take [] zero i d h = absurd (omega arith)
get_take [] (suc n) i d h = refl
get_take (w ∷ ws) zero i d h = absurd (omega arith)
get_take (w ∷ ws) (suc n) zero d h = refl
get_take (w ∷ ws) (suc n) (suc i) d h = get_take ws n i d (omega arith)

pub get_drop : (ws : List ℕ) (n i d : ℕ) → get_or (drop n ws) i d ≡ get_or ws (n + i) d
get_drop ws zero i d = ap (λ k. get_or ws k d) (let e : i ≡ 0 + i = omega arith in e)
get_drop [] (suc n) i d = refl
get_drop (w ∷ ws) (suc n) i d = get_drop ws n i d ∙ ap (λ k. get_or (w ∷ ws) k d) (let e : suc (n + i) ≡ suc n + i = omega arith in e)

-- word r of piece e, of m words each
piece_word : (ws : List ℕ) (m e r : ℕ) → r < m
    → unwrap_or (slice_get (take m (drop (e * m) ws)) r) 0 ≡ unwrap_or (slice_get ws (e * m + r)) 0
piece_word ws m e r h =
    unwrap_or-slice_get (take m (drop (e * m) ws)) r 0
    ∙ (get_take (drop (e * m) ws) m r 0 h ∙ (get_drop ws (e * m) r 0 ∙ sym (unwrap_or-slice_get ws (e * m + r) 0)))

-- ---- elements on lanes and in slots

place_word : (i l e w j : ℕ) → (i * l + e) * w + j ≡ i * (l * w) + (e * w + j)
place_word i l e w j = omega arith

place_column : (j l a w i : ℕ) → (j * l + a) * w + i ≡ j * (l * w) + (a * w + i)
place_column j l a w i = omega arith

pub in_row : (a k r n : ℕ) → a < n → r < k → a * k + r < n * k
in_row a k r n p h = omega (arith, mul-add-lt a k r n p h)

-- a wave that holds all elements holds each on its lane block, in its slot
split : (wave : Wave) (k n m : ℕ) (t : StTree) (ws : List ℕ) (q l : ℕ) → q < n → l < m → HoldsWords k (elements_stream n m t) wave ws
    → HoldsWords (k + q * time t) (stream_of t) (from_column (l * columns_of t) wave) (take (layout_words t) (drop ((q * m + l) * layout_words t) ws))
split wave k n m t ws q l lq ll holds a j s at lt =
    let W : ℕ = element_words t in
    let wide : length (stream_of t).widths ≡ W = widths_long t in
    let atoms : a < st_atoms t = omega (arith, slice_get_within (slots t) a s at, length-slots t) in
    let lw : j < W = omega (arith, wide) in
    let below : a * W + j < layout_words t = in_row a W j (st_atoms t) atoms lw in
    let held = holds ((q * m + l) * st_atoms t + a) j _ (atom_at t n m q l a s lq ll at) lt in
    let clock : k + q * time t + s.clock ≡ k + (q * time t + s.clock) = omega arith in
    let column : l * columns_of t + (s.lane * W + j) ≡ (l * lanes t + s.lane) * W + j = sym (place_column l (lanes t) s.lane W j) in
    let word : ((q * m + l) * st_atoms t + a) * W + j ≡ (q * m + l) * layout_words t + (a * W + j) = place_word (q * m + l) (st_atoms t) a W j in
    rw (wide) (rw (clock, column, piece_word ws (layout_words t) (q * m + l) (a * W + j) below, ← word) (rw (← wide) held))

pos_right : (n m k e : ℕ) → e < n * (m * k) → 1 ≤ k
pos_right n m zero e h =
    let z : n * (m * zero) ≡ 0 = ap (λ x. n * x) (let y : m * zero ≡ 0 = omega arith in y) ∙ (let y : n * 0 ≡ 0 = omega arith in y) in absurd (omega arith)
pos_right n m (suc k) e h = omega arith

pos_left : (n m k e : ℕ) → e < n * (m * k) → 1 ≤ m
pos_left n zero k e h =
    let y : zero * k ≡ 0 = omega arith in let z : n * (zero * k) ≡ 0 = ap (λ x. n * x) y ∙ (let w : n * 0 ≡ 0 = omega arith in w) in absurd (omega arith)
pos_left n (suc m) k e h = omega arith

-- a wave that holds each element on its lane block, in its slot, holds all
join : (wave : Wave) (k n m : ℕ) (t : StTree) (f : ℕ → List ℕ) → ((i : ℕ) → i < n * m → length (f i) ≡ layout_words t)
    → ((q l : ℕ) → q < n → l < m → HoldsWords (k + q * time t) (stream_of t) (from_column (l * columns_of t) wave) (f (q * m + l)))
    → HoldsWords k (elements_stream n m t) wave (flat_map f (range_with_len 0 (n * m)))
join wave k n m t f long each e j w at lt =
    let W : ℕ = element_words t in
    let wide : length (stream_of t).widths ≡ W = widths_long t in
    let total : length (slots (tseq n 0 (sseq m t))) ≡ n * (m * st_atoms t) = length-slots (tseq n 0 (sseq m t)) in
    let within : e < n * (m * st_atoms t) = omega (arith, slice_get_within (slots (tseq n 0 (sseq m t))) e w at) in
    let lanes_some : 1 ≤ m = pos_left n m (st_atoms t) e within in
    let atoms_some : 1 ≤ st_atoms t = pos_right n m (st_atoms t) e within in
    let p = atom_of t n m e w lanes_some atoms_some at in
    let atoms : p.a < st_atoms t = omega (arith, slice_get_within (slots t) p.a p.s p.found, length-slots t) in
    let lw : j < W = omega (arith, wide) in
    let below : p.a * W + j < layout_words t = in_row p.a W j (st_atoms t) atoms lw in
    let number : p.q * m + p.l < n * m = in_row p.q m p.l n p.lq p.ll in
    let held = each p.q p.l p.lq p.ll p.a j p.s p.found lt in
    let L : ℕ = length (stream_of t).widths in
    let i : ℕ = p.q * m + p.l in
    let c : ℕ = k + p.q * time t + p.s.clock in
    let all : List ℕ = flat_map f (range_with_len 0 (n * m)) in
    let clock_is : w.clock ≡ p.q * time t + p.s.clock = ap (λ (v : Slot). v.clock) p.is in
    let lane_is : w.lane ≡ p.l * lanes t + p.s.lane = ap (λ (v : Slot). v.lane) p.is in
    let clock : k + (p.q * time t + p.s.clock) ≡ c = omega arith in
    let column : (p.l * lanes t + p.s.lane) * W + j ≡ p.l * columns_of t + (p.s.lane * W + j) = place_column p.l (lanes t) p.s.lane W j in
    let word : e * W + j ≡ i * layout_words t + (p.a * W + j) = ap (λ x. x * W + j) p.place ∙ place_word i (st_atoms t) p.a W j in
    let made = joined_word f (layout_words t) 0 (n * m) i (p.a * W + j) (λ a h. long a (omega arith)) number below in
    let number_is : 0 + i ≡ i = omega arith in
    ap (λ x. wave (k + x) (w.lane * L + j)) clock_is
    ∙ (ap (λ x. wave x (w.lane * L + j)) clock
    ∙ (ap (λ x. wave c (x * L + j)) lane_is
    ∙ (ap (λ x. wave c ((p.l * lanes t + p.s.lane) * x + j)) wide
    ∙ (ap (wave c) column
    ∙ (ap (λ x. wave c (p.l * columns_of t + (p.s.lane * x + j))) (sym wide)
    ∙ (held
    ∙ (unwrap_or-slice_get (f i) (p.a * L + j) 0
    ∙ (ap (λ x. get_or (f i) (p.a * x + j) 0) wide
    ∙ (ap (λ x. get_or (f x) (p.a * W + j) 0) (sym number_is)
    ∙ (sym made
    ∙ (ap (λ i. get_or all i 0) (sym word)
    ∙ (ap (λ x. get_or all (e * x + j) 0) (sym wide)
    ∙ sym (unwrap_or-slice_get all (e * L + j) 0)))))))))))))

-- ---- the law

-- all pieces are held
pieces_hold : (k n m inner : ℕ) (q l : ℕ) → q < n → l < m → (xs : List StTree) (waves : List Wave) (vs : List (List ℕ)) → AllTake inner xs
    → AllHold k (map (elements_stream n m) xs) waves vs
    → AllHold (k + q * inner) (streams_of xs) (lane_waves l xs waves) (pieces xs (q * m + l) vs)
pieces_hold k n m inner q l lq ll [] [] [] takes holds = tt
pieces_hold k n m inner q l lq ll [] [] (v ∷ vs) takes holds = absurd holds
pieces_hold k n m inner q l lq ll [] (w ∷ ws) vs takes holds = absurd holds
pieces_hold k n m inner q l lq ll (x ∷ xs) [] vs takes holds = absurd holds
pieces_hold k n m inner q l lq ll (x ∷ xs) (w ∷ ws) [] takes holds = absurd holds
pieces_hold k n m inner q l lq ll (x ∷ xs) (w ∷ ws) (v ∷ vs) takes holds =
    let P : ℕ → Type 0 = λ z. HoldsWords (k + q * z) (stream_of x) (from_column (l * columns_of x) w)
    (take (layout_words x) (drop ((q * m + l) * layout_words x) v)) in
    (subst P takes.0 (split w k n m x v q l lq ll holds.0), pieces_hold k n m inner q l lq ll xs ws vs takes.1 holds.1)

-- ---- words of pieces that fit

get_piece : (ws : List ℕ) (k m i x : ℕ) → slice_get (take m (drop k ws)) i ≡ Some x → slice_get ws (k + i) ≡ Some x
get_piece ws zero m i x h = ap (slice_get ws) (let e : 0 + i ≡ i = omega arith in e) ∙ get_from_take ws m i x h
get_piece [] (suc k) m i x h = absurd (none-some x (sym (ap (λ ys. slice_get ys i) (take-nil m)) ∙ h))
get_piece (w ∷ ws) (suc k) m i x h = ap (slice_get (w ∷ ws)) (let e : suc k + i ≡ suc (k + i) = omega arith in e) ∙ get_piece ws k m i x h

pub piece_long : (ws : List ℕ) (k m : ℕ) → k + m ≤ length ws → length (take m (drop k ws)) ≡ m
piece_long ws zero m h = length-take-le m ws (omega arith)
piece_long [] (suc k) m h = absurd (omega arith)
piece_long (w ∷ ws) (suc k) m h = piece_long ws k m (omega arith)

-- word i of a piece is of the same kind as in the whole
place_kind : (e a w i : ℕ) → 0 < w → (e * (a * w) + i) % w ≡ i % w
place_kind e a w i p =
    let d : i / w * w + i % w ≡ i = div-add-mod' i w in
    let place : e * (a * w) + i ≡ (e * a + i / w) * w + i % w = omega (arith, mul_assoc e a w, add-mul (e * a) (i / w) w) in
    ap (λ x. x % w) place ∙ mod-mul-add (e * a + i / w) w (i % w) (mod_below i w p)

elements_long : (n m : ℕ) (t : StTree) → length (slots (tseq n 0 (sseq m t))) ≡ n * m * st_atoms t
elements_long n m t = length-slots (tseq n 0 (sseq m t)) ∙ sym (mul_assoc n m (st_atoms t))

piece_words : (n m e : ℕ) (t : StTree) (ws : List ℕ) → e < n * m → AreWords (elements_stream n m t) ws
    → AreWords (stream_of t) (take (layout_words t) (drop (e * layout_words t) ws))
piece_words n m e t ws le h =
    let W : ℕ = element_words t in
    let wide : length (stream_of t).widths ≡ W = widths_long t in
    let one : length (slots t) ≡ st_atoms t = length-slots t in
    let total : length ws ≡ n * m * layout_words t = h.long ∙
    (ap (λ a. a * length (stream_of t).widths) (elements_long n m t) ∙ (ap (λ b. n * m * st_atoms t * b) wide ∙ mul_assoc (n * m) (st_atoms t) W)) in
    let up : (e + 1) * layout_words t ≤ n * m * layout_words t = mul-le-mul_right (layout_words t) (let z : e + 1 ≤ n * m = omega arith in z) in
    let room : e * layout_words t + layout_words t ≤ length ws = omega arith in
    record {
      long = piece_long ws (e * layout_words t) (layout_words t) room ∙ (ap (λ a. a * W) (sym one) ∙ ap (λ b. length (slots t) * b) (sym wide));
      fit = λ i x w at is.
          let p : 0 < W = element_words_pos t in
          let same : (e * layout_words t + i) % length (stream_of t).widths ≡ i % length (stream_of t).widths = rw wide (place_kind e (st_atoms t) W i p) in
          h.fit (e * layout_words t + i) x w (get_piece ws (e * layout_words t) (layout_words t) i x at) (ap (slice_get (stream_of t).widths) same ∙ is);
    }

pieces_words : (n m e : ℕ) → e < n * m → (xs : List StTree) (vs : List (List ℕ)) → AllAreWords (map (elements_stream n m) xs) vs
    → AllAreWords (streams_of xs) (pieces xs e vs)
pieces_words n m e le [] [] h = tt
pieces_words n m e le [] (v ∷ vs) h = absurd h
pieces_words n m e le (x ∷ xs) [] h = absurd h
pieces_words n m e le (x ∷ xs) (v ∷ vs) h = (piece_words n m e x v le h.0, pieces_words n m e le xs vs h.1)

-- ---- clocks

body_clock : (a b r q inner t : ℕ) → r * inner ≡ t → a + (b * r + q) * inner ≡ a + b * t + q * inner
body_clock a b r q inner t e = omega (arith, ap (λ x. b * x) e)

body_ends : (a b r q inner t clocks : ℕ) → r * inner ≡ t → q < r → a + (b + 1) * t ≤ clocks → a + (b * r + q + 1) * inner ≤ clocks
body_ends a b r q inner t clocks e p h =
    let up : (q + 1) * inner ≤ r * inner = mul-le-mul_right inner (let z : q + 1 ≤ r = omega arith in z) in
    omega (arith, ap (λ x. b * x) e)

pub spread : (clocks a t d inner rounds slots lanes : ℕ) (xs : List StTree) (y : StTree) (f : List (List ℕ) → List ℕ) (waves : List Wave) (out : Wave)
    → rounds * inner ≡ t → slots ≤ rounds → AllTake inner xs → time y ≡ inner
    → ((vs : List (List ℕ)) → AllAreWords (streams_of xs) vs → length (f vs) ≡ layout_words y)
    → ((j : ℕ) → j < lanes → BlockLaw clocks a (plain_part inner d (streams_of xs) (stream_of y) f) (lane_waves j xs waves)
    (from_column (j * columns_of y) out))
    → BlockLaw clocks a (plain_part t d (map (elements_stream slots lanes) xs) (elements_stream slots lanes y) (mapped_by f xs (slots * lanes))) waves out
spread clocks a t d inner rounds n m xs y f waves out fill few takes own long bodies = record {
  makes = λ b vs ends words holds.
      join out (a + d + b * t) n m y (λ e. f (pieces xs e vs)) (λ i l. long (pieces xs i vs) (pieces_words n m i l xs vs words))
      (λ q l lq ll.
      let round : q < rounds = omega arith in
      let number : q * m + l < n * m = in_row q m l n lq ll in
      let A : ℕ → Type 0 = λ k. AllHold k (streams_of xs) (lane_waves l xs waves) (pieces xs (q * m + l) vs) in
      let ins = subst A (sym (body_clock a b rounds q inner t fill)) (pieces_hold (a + b * t) n m inner q l lq ll xs waves vs takes holds) in
      let made = (bodies l ll).makes (b * rounds + q) (pieces xs (q * m + l) vs) (body_ends (a + d) b rounds q inner t clocks fill round ends)
      (pieces_words n m (q * m + l) number xs vs words) ins in
      let B : ℕ → Type 0 = λ k. HoldsWords k (stream_of y) (from_column (l * columns_of y) out) (f (pieces xs (q * m + l) vs)) in
      subst B (body_clock (a + d) b rounds q inner t fill ∙ ap (λ z. a + d + b * t + q * z) (sym own)) made);
}
