-- Where a port stands among the ports of streams: stream by stream, lane by lane, word by word.
use Rattle.std.proofs.Common.{ℕ, zero, suc, ◌≡◌, ◌+◌, ◌-◌, ◌*◌, ◌<◌, inl, inr, List, [], ◌∷◌, length, length-append, take, Some, slice_get, arith, refl, ap, sym, ◌∙◌}
use Rattle.std.proofs.lemmas.List.Sums.{sum_by-cons}
use Rattle.std.proofs.lemmas.Option.{none-some, same_Some}
use Rattle.ae_netlist.specs.declared.cell.Port.{Port}
use Rattle.ae_seqtype.proofs.Sizes.{length-repeated}
use Rattle.ae_ops.specs.Blocks.{Stream, stream_widths}
use Rattle.ae_rewrite.proofs.Grown.{get_in_front}
use Rattle.ae_fold.proofs.Kinding.{get_append_cases, get_right}
use Rattle.ae_ports.specs.Ports.{columns_in, SizedPort, word_ports, lane_ports, stream_ports, ports_from}

-- ---- how many ports there are

length_words : (at : ℕ → Port) (k : ℕ) (ws : List ℕ) → length (word_ports at k ws) ≡ length ws
length_words at k [] = refl
length_words at k (w ∷ ws) = ap suc (length_words at (k + 1) ws)

length_lanes : (at : ℕ → ℕ → Port) (ws : List ℕ) (l : ℕ) → length (lane_ports at ws l) ≡ l * length ws
length_lanes at ws zero = omega arith
length_lanes at ws (suc l) = omega (arith, length-append (lane_ports at ws l) (word_ports (at l) 0 ws), length_lanes at ws l, length_words (at l) 0 ws)

pub length_stream : (at : ℕ → ℕ → Port) (s : Stream) → length (stream_ports at s) ≡ length (stream_widths s)
length_stream at s = length_lanes at s.widths s.lanes ∙ sym (length-repeated s.lanes s.widths)

pub columns_more : (s : Stream) (ss : List Stream) → columns_in (s ∷ ss) ≡ length (stream_widths s) + columns_in ss
columns_more s ss = sum_by-cons (λ (x : Stream). length (stream_widths x)) s ss

pub length_from : (at : ℕ → ℕ → ℕ → Port) (k : ℕ) (ss : List Stream) → length (ports_from at k ss) ≡ columns_in ss
length_from at k [] = refl
length_from at k (s ∷ ss) =
    omega (arith, length-append (stream_ports (at k) s) (ports_from at (k + 1) ss), length_stream (at k) s, length_from at (k + 1) ss, columns_more s ss)

-- ---- the place of a port

record IsWordPort (at : ℕ → Port) (k : ℕ) (ws : List ℕ) (n : ℕ) (p : SizedPort) : Type 0 where
  below : n < length ws
  port : p.port ≡ at (k + n)

word_port : (at : ℕ → Port) (k : ℕ) (ws : List ℕ) (n : ℕ) (p : SizedPort) → slice_get (word_ports at k ws) n ≡ Some p → IsWordPort at k ws n p
word_port at k [] n p h = absurd (none-some p h)
word_port at k (w ∷ ws) zero p h =
    let z : k ≡ k + 0 = omega arith in
    record { below = omega arith; port = sym (ap (λ (x : SizedPort). x.port) (same_Some (record { port = at k; width = w }) p h)) ∙ ap at z }
word_port at k (w ∷ ws) (suc n) p h =
    let r = word_port at (k + 1) ws n p h in
    let e : k + 1 + n ≡ k + suc n = omega arith in
    record { below = omega (arith, r.below); port = r.port ∙ ap at e }

record IsLanePort (at : ℕ → ℕ → Port) (ws : List ℕ) (lanes n : ℕ) (p : SizedPort) : Type 0 where
  lane : ℕ
  word : ℕ
  lane_below : lane < lanes
  word_below : word < length ws
  place : n ≡ lane * length ws + word
  port : p.port ≡ at lane word

lane_port : (at : ℕ → ℕ → Port) (ws : List ℕ) (l n : ℕ) (p : SizedPort) → slice_get (lane_ports at ws l) n ≡ Some p → IsLanePort at ws l n p
lane_port at ws zero n p h = absurd (none-some p h)
lane_port at ws (suc l) n p h = elim (get_append_cases (lane_ports at ws l) (word_ports (at l) 0 ws) n p p h) [
  | inl before ↦ (let r = lane_port at ws l n p before.1 in
      record { lane = r.lane; word = r.word; lane_below = omega (arith, r.lane_below); word_below = r.word_below; place = r.place; port = r.port })
  | inr behind ↦ (let r = word_port (at l) 0 ws (n - length (lane_ports at ws l)) p behind.1 in
      let j : ℕ = n - length (lane_ports at ws l) in
      let z : 0 + j ≡ j = omega arith in
      record {
        lane = l;
        word = j;
        lane_below = omega arith;
        word_below = r.below;
        place = omega (arith, behind.0, length_lanes at ws l);
        port = r.port ∙
            ap (at l) z;
      })
]

pub record IsPortFrom (at : ℕ → ℕ → ℕ → Port) (k : ℕ) (ss : List Stream) (n : ℕ) (p : SizedPort) : Type 0 where
  pub number : ℕ
  pub lane : ℕ
  pub word : ℕ
  pub stream : Stream
  pub found : slice_get ss number ≡ Some stream
  pub lane_below : lane < stream.lanes
  pub word_below : word < length stream.widths
  pub place : n ≡ columns_in (take number ss) + (lane * length stream.widths + word)
  pub port : p.port ≡ at (k + number) lane word

pub port_from : (at : ℕ → ℕ → ℕ → Port) (k : ℕ) (ss : List Stream) (n : ℕ) (p : SizedPort) → slice_get (ports_from at k ss) n ≡ Some p → IsPortFrom at k ss n p
port_from at k [] n p h = absurd (none-some p h)
port_from at k (s ∷ ss) n p h = elim (get_append_cases (stream_ports (at k) s) (ports_from at (k + 1) ss) n p p h) [
  | inl before ↦ (let r = lane_port (at k) s.widths s.lanes n p before.1 in
      let z : k ≡ k + 0 = omega arith in
      record {
        number = 0;
        lane = r.lane;
        word = r.word;
        stream = s;
        found = refl;
        lane_below = r.lane_below;
        word_below = r.word_below;
        place = omega (arith, r.place);
        port = r.port ∙ ap (λ i. at i r.lane r.word) z;
      })
  | inr behind ↦ (let r = port_from at (k + 1) ss (n - length (stream_ports (at k) s)) p behind.1 in
      let e : k + 1 + r.number ≡ k + suc r.number = omega arith in
      record {
        number = suc r.number;
        lane = r.lane;
        word = r.word;
        stream = r.stream;
        found = r.found;
        lane_below = r.lane_below;
        word_below = r.word_below;
        place = omega (arith, behind.0, r.place, length_stream (at k) s, columns_more s (take r.number ss));
        port = r.port ∙ ap (λ i. at i r.lane r.word) e;
      })
]

-- the port of a column of a stream
pub port_there : (at : ℕ → ℕ → ℕ → Port) (k : ℕ) (ss : List Stream) (q j : ℕ) (s : Stream) (p : SizedPort) → slice_get ss q ≡ Some s
    → slice_get (stream_ports (at (k + q)) s) j ≡ Some p
    → slice_get (ports_from at k ss) (columns_in (take q ss) + j) ≡ Some p
port_there at k [] q j s p f g = absurd (none-some s f)
port_there at k (x ∷ ss) zero j s p f g =
    let z : k + 0 ≡ k = omega arith in
    let e : columns_in (take 0 (x ∷ ss)) + j ≡ j = omega arith in
    let here : slice_get (stream_ports (at k) x) j ≡ Some p = ap (λ i. slice_get (stream_ports (at i) x) j) (sym z) ∙
    ap (λ (y : Stream). slice_get (stream_ports (at (k + 0)) y) j) (same_Some x s f) ∙ g in
    ap (slice_get (ports_from at k (x ∷ ss))) e ∙ get_in_front (stream_ports (at k) x) (ports_from at (k + 1) ss) j p here
port_there at k (x ∷ ss) (suc q) j s p f g =
    let e : k + suc q ≡ k + 1 + q = omega arith in
    let rest = port_there at (k + 1) ss q j s p f (ap (λ i. slice_get (stream_ports (at i) s) j) (sym e) ∙ g) in
    let place : columns_in (take (suc q) (x ∷ ss)) + j ≡ length
    (stream_ports (at k) x) + (columns_in (take q ss) + j) = omega (arith, columns_more x (take q ss), length_stream (at k) x) in
    ap (slice_get (ports_from at k (x ∷ ss))) place ∙ get_right (stream_ports (at k) x) (ports_from at (k + 1) ss) (columns_in (take q ss) + j) ∙ rest

-- ports of one number, lane and word stand in one place
pub same_place : (at : ℕ → ℕ → ℕ → Port) (k : ℕ) (ss : List Stream) (m n : ℕ) (p o : SizedPort) (a : IsPortFrom at k ss m p) (b : IsPortFrom at k ss n o)
    → a.number ≡ b.number → a.lane ≡ b.lane → a.word ≡ b.word → m ≡ n
same_place at k ss m n p o a b x y z =
    let s : a.stream ≡ b.stream = same_Some a.stream b.stream (sym a.found ∙ ap (slice_get ss) x ∙ b.found) in
    a.place
    ∙ ap (λ i. columns_in (take i ss) + (a.lane * length a.stream.widths + a.word)) x
    ∙ ap (λ i. columns_in (take b.number ss) + (i * length a.stream.widths + a.word)) y
    ∙ ap (λ i. columns_in (take b.number ss) + (b.lane * length a.stream.widths + i)) z
    ∙ ap (λ (i : Stream). columns_in (take b.number ss) + (b.lane * length i.widths + b.word)) s
    ∙ sym b.place
