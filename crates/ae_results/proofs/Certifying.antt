-- The first word that stands so many clocks before its source.
use Rattle.std.proofs.Common.{◌≡◌, ℕ, ◌+◌, ◌-◌, ◌*◌, ◌/◌, ◌<◌, ◌≤◌, inl, inr, Bool, false, List, map, Option, None, Some, slice_get, refl, arith, sym, ap, ◌∙◌, subst}
use Rattle.std.specs.Option.{is_some}
use Rattle.std.proofs.lemmas.Bool.{cases_lt, false≢true}
use Rattle.std.proofs.lemmas.Nat.{div-add-mod', mod_below}
use Rattle.std.proofs.lemmas.Option.{same_Some}
use Rattle.std.specs.Prelude.{unwrap_or}
use Rattle.ae_word.specs.AtomTree.{unsigned_word}
use Rattle.ae_seqtype.specs.SeqTree.{SeqTree}
use Rattle.ae_seqtype.specs.ValueTree.{flat}
use Rattle.ae_seq.specs.ProgramTree.{ProgramTree}
use Rattle.ae_seq.specs.Meaning.{at}
use Rattle.ae_sttype.specs.declared.st_type.Slot.{Slot}
use Rattle.ae_sttype.specs.StTree.{StTree, atom, sseq, st_atoms, element_words}
use Rattle.ae_sttype.specs.Moves.{OriginTree, TripTree, from_input, fixed, greatest, lead_from, slot_number, source_of, trip_number}
use Rattle.ae_moves.specs.Origins.{Move, move_latency, move_trips}
use Rattle.ae_moves.proofs.Words.{lead_le}
use Rattle.ae_rewrite.specs.Interface.{parameter_types}
use Rattle.ae_trace.specs.Traces.{least, origin_numbered, trace, traced_move, traced_moves}
use Rattle.ae_trace.specs.Certificates.{ComesBefore, IsCertificate}
use Rattle.ae_trace.proofs.Origins.{origin-map}
use Rattle.ae_trace.proofs.Firsts.{below-greatest, earlier-move, entry-at, entry-of, index-there, move-of, some-of}
use Rattle.ae_results.specs.declared.certificate.Certificate.{Certificate}
use Rattle.ae_results.specs.Certified.{AreEarly, FirstIn, IsFirstOf, IsLateIn, IsWay, IsWayOf, certificate_tree, lead_at, word_count}

-- ---- leads

lead-by : (m : Move) (o : ℕ) (origin : OriginTree) → slice_get m.origins o ≡ Some origin
    → lead_at m o ≡ lead_from (slot_number m.out (o / element_words m.out)).clock (source_of m.ins origin)
lead-by m o origin here =
    ap (λ x. lead_from (slot_number m.out (o / element_words m.out)).clock (source_of m.ins x)) (ap (λ (o : Option OriginTree). unwrap_or o (fixed 0)) here)

-- a fixed word has no source
pub lead-none : (m : Move) (o : ℕ) (origin : OriginTree) → slice_get m.origins o ≡ Some origin → (word : ℕ) × (origin ≡ fixed word) → lead_at m o ≡ 0
lead-none m o origin here none = lead-by m o origin here ∙ ap (λ x. lead_from (slot_number m.out (o / element_words m.out)).clock (source_of m.ins x)) none.1

pub lead-way : (m : Move) (o : ℕ) (origin : OriginTree) (c : Certificate) → slice_get m.origins o ≡ Some origin → IsWay m.ins m.out origin o c
    → lead_at m o ≡ c.from_clock - c.clock
lead-way m o origin c here w =
    let own : Slot = record { clock = c.clock; lane = c.lane } in
    let from : Slot = record { clock = c.from_clock; lane = c.from_lane } in
    let slot : slot_number m.out (o / element_words m.out) ≡ own = ap (λ (o : Option Slot). unwrap_or o (record { clock = 0; lane = 0 })) w.stands in
    let source_slot : slot_number w.source w.from_element ≡ from = ap (λ (o : Option Slot). unwrap_or o (record { clock = 0; lane = 0 })) w.source_stands in
    lead-by m o origin here
    ∙ ap (λ x. lead_from (slot_number m.out (o / element_words m.out)).clock (source_of m.ins x)) w.comes
    ∙ ap (λ (y : StTree). (slot_number y w.from_element).clock - (slot_number m.out (o / element_words m.out)).clock)
    (index-there m.ins c.param w.source (sseq 0 (atom (unsigned_word 1))) w.found)
    ∙ (λ i. (source_slot i).clock - (slot i).clock)

pub lead-most : (ms : List Move) (k o : ℕ) (m : Move) → slice_get ms k ≡ Some m → o < word_count m → lead_at m o ≤ greatest move_latency ms
lead-most ms k o m here below =
    let z : 0 + o ≡ o = omega arith in
    let there : slice_get (move_trips m) o ≡ Some (trip_number m.ins m.out m.origins o) = entry-at (trip_number m.ins m.out m.origins) 0
    (word_count m) o below ∙ ap (λ n. Some (trip_number m.ins m.out m.origins n)) z in
    let one = (below-greatest (λ (t : TripTree). lead_from t.clock t.source) (move_trips m) 0 o (trip_number m.ins m.out m.origins o) there).1 in
    let all = (below-greatest move_latency ms 0 k m here).1 in
    omega (arith, one, all)

-- a word without such a source
pub early-way : (m : Move) (o late : ℕ) (origin : OriginTree) (found : Option Certificate) → slice_get m.origins o ≡ Some origin → 0 < late
    → IsWayOf m.ins m.out origin o found → ((c : Certificate) → found ≡ Some c → c.from_clock - c.clock < late) → lead_at m o < late
early-way m o late origin None here some none less = omega (arith, lead-none m o origin here none, some)
early-way m o late origin (Some c) here some w less = omega (arith, lead-way m o origin c here w, less c refl)

-- one word more
pub early-next : (late : ℕ) (m : Move) (o : ℕ) → AreEarly late m o → lead_at m o < late → AreEarly late m (o + 1)
early-next late m o was own j below = elim (cases_lt j o) [
  | inl less ↦ was j less
  | inr more ↦ (let e : o ≡ j = omega (arith, below, more) in subst (λ n. lead_at m n < late) e own)
]

pub late-in : (late : ℕ) (m : Move) (o : ℕ) (origin : OriginTree) (c : Certificate) → o < word_count m → slice_get m.origins o ≡ Some origin
    → IsWay m.ins m.out origin o c → late ≤ c.from_clock - c.clock → AreEarly late m o → IsLateIn late m c
late-in late m o origin c inside here w enough early =
    record { place = o; inside = inside; origin = origin; here = here; way = w; enough = omega (arith, lead-way m o origin c here w, enough); early = early }

-- one move more
pub moves-next : (late : ℕ) (ms : List Move) (k : ℕ) (m : Move) → slice_get ms k ≡ Some m
    → ((j : ℕ) (x : Move) → j < k → slice_get ms j ≡ Some x → AreEarly late x (word_count x)) → AreEarly late m (word_count m)
    → (j : ℕ) (x : Move) → j < k + 1 → slice_get ms j ≡ Some x → AreEarly late x (word_count x)
moves-next late ms k m found was own j x below here = elim (cases_lt j k) [
  | inl less ↦ was j x less here
  | inr more ↦
      (let e : k ≡ j = omega (arith, below, more) in
      let same : m ≡ x = same_Some m x (sym found ∙ ap (slice_get ms) e ∙ here) in
      subst (λ (y : Move). AreEarly late y (word_count y)) same own)
]

pub none-in : (late : ℕ) (m : Move) (found : Option Certificate) (there : Bool) → there ≡ is_some found → there ≡ false → FirstIn late m found
    → AreEarly late m (word_count m)
none-in late m None there is none first = first
none-in late m (Some c) there is none first = absurd (false≢true (sym none ∙ is))

-- where all words are early, the greatest latency is smaller
none-late : (late : ℕ) (ms : List Move) → 0 < late → ((j : ℕ) (x : Move) → slice_get ms j ≡ Some x → AreEarly late x (word_count x))
    → greatest move_latency ms < late
none-late late ms some early =
    let one : (x : Move) → AreEarly late x (word_count x) → move_latency x ≤ late - 1 =
    λ x h. lead_le (λ (t : TripTree). lead_from t.clock t.source) 0 (late - 1) (move_trips x) (omega arith) (λ t n f.
    (let e = entry-of (trip_number x.ins x.out x.origins) 0 (word_count x) n t f in
    let z : 0 + n ≡ n = omega arith in
    let less : lead_at x n < late = h n e.0 in
    let same : lead_from t.clock t.source ≡ lead_at x n = ap (λ (y : TripTree). lead_from y.clock y.source) (e.1 ∙ ap (trip_number x.ins x.out x.origins) z) in
    omega (arith, same, less))) in
    let all : greatest move_latency ms ≤ late - 1 = lead_le move_latency 0 (late - 1) ms (omega arith) (λ x j f. one x (early j x f)) in
    omega (arith, all, some)

pub never-early : (late : ℕ) (ms : List Move) → 0 < late → late ≡ greatest move_latency ms
    → ((j : ℕ) (x : Move) → slice_get ms j ≡ Some x → AreEarly late x (word_count x)) → ⊥
never-early late ms some is early = let l = none-late late ms some early in omega (arith, l, is)

-- ---- the certificate

module _ (p : ProgramTree) (ins outs : List StTree) (c : Certificate)
    (h : IsFirstOf (least p ins outs) (traced_moves (parameter_types p) ins outs (trace p)) c) where
  abbrev types : List SeqTree
  types = parameter_types p

  abbrev moves : List Move
  moves = traced_moves types ins outs (trace p)

  abbrev origins : ℕ → List OriginTree
  origins r = map (origin_numbered types) (flat (at (trace p) r))

  move_is : (s : StTree) × (slice_get outs c.result ≡ Some s) × (h.move ≡ traced_move types ins s (at (trace p) c.result))
  move_is = move-of types ins outs (trace p) c.result h.move h.here

  abbrev out : StTree
  out = move_is.0

  abbrev w : ℕ
  w = element_words out

  own : IsLateIn (least p ins outs) (traced_move types ins out (at (trace p) c.result)) c
  own = subst (λ (m : Move). IsLateIn (least p ins outs) m c) move_is.2 h.is

  some : 0 < w
  some = some-of (st_atoms out) w own.place own.inside

  whole : own.place / w * w + c.word ≡ own.place
  whole = (λ i. own.place / w * w + own.way.word i) ∙ div-add-mod' own.place w

  late : c.from_clock ≡ c.clock + least p ins outs
  late =
      let lead = lead-way (traced_move types ins out (at (trace p) c.result)) own.place own.origin c own.here own.way in
      let here : slice_get moves c.result ≡ Some (traced_move types ins out (at (trace p) c.result)) = h.here ∙ ap (λ (m : Move). Some m) move_is.2 in
      let most = lead-most moves c.result own.place (traced_move types ins out (at (trace p) c.result)) here own.inside in
      let enough = own.enough in
      let more = h.some in
      omega (arith, lead, most, enough, more)

  traced : origin_numbered types (unwrap_or (slice_get (flat (at (trace p) c.result)) (own.place / w * w + c.word)) 0) ≡ from_input c.param
      own.way.from_element c.from_word
  traced =
      ap (λ n. origin_numbered types (unwrap_or (slice_get (flat (at (trace p) c.result)) n) 0)) whole
      ∙ sym (origin-map (origin_numbered types) refl (flat (at (trace p) c.result)) own.place)
      ∙ ap (λ (o : Option OriginTree). unwrap_or o (fixed 0)) own.here
      ∙ own.way.comes

  earlier : (r o : ℕ) (s : StTree) → slice_get outs r ≡ Some s → o < st_atoms s * element_words s → ComesBefore r o c.result own.place
      → lead_at (traced_move types ins s (at (trace p) r)) o < least p ins outs
  earlier r o s found below (inl less) = h.before r (traced_move types ins s (at (trace p) r)) less
      (earlier-move types ins outs (trace p) c.result r h.move h.here less s found) o below
  earlier r o s found below (inr same) =
      let layout : out ≡ s = same_Some out s (sym move_is.1 ∙ ap (slice_get outs) (sym same.0) ∙ found) in
      subst (λ (m : Move). lead_at m o < least p ins outs) (λ i. traced_move types ins (layout i) (at (trace p) (sym same.0 i))) (own.early o same.1)

  pub is-certificate-of : IsCertificate p ins outs (certificate_tree c)
  is-certificate-of = record {
    out = out;
    element = own.place / w;
    source = own.way.source;
    from_element = own.way.from_element;
    found = move_is.1;
    stands = own.way.stands;
    inside = (let b = mod_below own.place w some in omega (arith, b, own.way.word));
    source_found = own.way.found;
    source_stands = own.way.source_stands;
    traced = traced;
    late = late;
    first = λ r o s found below order.
        (let there : unwrap_or (slice_get outs r) (sseq 0 (atom (unsigned_word 1))) ≡ s = index-there outs r s (sseq 0 (atom (unsigned_word 1))) found in
        subst (λ (y : StTree). lead_at (traced_move types ins y (at (trace p) r)) o < least p ins outs) (sym there)
        (earlier r o s found below (subst (ComesBefore r o c.result) whole order)));
  }

pub is-certificate : (p : ProgramTree) (ins outs : List StTree) (c : Certificate) {late : ℕ} {ms : List Move} → late ≡ least p ins outs
    → ms ≡ traced_moves (parameter_types p) ins outs (trace p) → IsFirstOf late ms c → IsCertificate p ins outs (certificate_tree c)
is-certificate p ins outs c latency same first = is-certificate-of p ins outs c (subst (λ (x : Type 0). x) (λ i. IsFirstOf (latency i) (same i) c) first)
