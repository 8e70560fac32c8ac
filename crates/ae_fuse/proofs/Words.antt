-- The word of an origin is the word of its number.
use Rattle.std.proofs.Common.{◌≡◌, ℕ, zero, suc, ◌+◌, ◌*◌, ◌/◌, ◌%◌, List, [], ◌∷◌, map, None, Some, slice_get, get_or, refl, arith, sym, ap, ◌∙◌, subst, ⊎_elim}
use Rattle.std.specs.Prelude.{flat_map, true}
use Rattle.std.proofs.lemmas.Nat.{div-add-mod'}
use Rattle.std.proofs.lemmas.Option.{get_or_from_slice_get}
use Rattle.ae_word.specs.AtomTree.{atom_words}
use Rattle.ae_seqtype.specs.SeqTree.{SeqTree, atom_of}
use Rattle.ae_seqtype.specs.ValueTree.{ValueTree, flat}
use Rattle.ae_seq.specs.ProgramTree.{ProgramTree}
use Rattle.ae_seq.specs.Meaning.{at, mean}
use Rattle.ae_sttype.specs.StTree.{StTree, element_words}
use Rattle.ae_sttype.specs.Moves.{from_input}
use Rattle.ae_rewrite.specs.Interface.{AreValues, parameter_types}
use Rattle.ae_gather.specs.Gathers.{origin_word}
use Rattle.ae_trace.specs.Traces.{is_movement, trace, renamed, word_numbered, origin_numbered}
use Rattle.ae_trace.proofs.Natural.{map-map, map-same}
use Rattle.ae_trace.proofs.Tracing.{means-by-trace}
use Rattle.ae_trace.proofs.Origins.{HasNone, StandsAt, origin-cases, flat-renamed, at-map}
use Rattle.ae_trace.proofs.Laying.{IsLaid}
use Rattle.ae_trace.proofs.Typed.{AreLaid}

pub index-flat : (vs : List ValueTree) (i : ℕ) → get_or (map flat vs) i [] ≡ flat (at vs i)
index-flat [] i = refl
index-flat (v ∷ vs) zero = refl
index-flat (v ∷ vs) (suc i) = index-flat vs i

-- the layout of a type
pub record HasLayout (slowdown : ℕ) (ss : List StTree) (k : ℕ) (t : SeqTree) : Type 0 where
  pub layout : StTree
  pub found : slice_get ss k ≡ Some layout
  pub laid : IsLaid t slowdown layout

pub layout-there : (slowdown : ℕ) (ts : List SeqTree) (ss : List StTree) → AreLaid slowdown ts ss → (k : ℕ) (t : SeqTree) → slice_get ts k ≡ Some t
    → HasLayout slowdown ss k t
layout-there slowdown [] ss h k t f = absurd (let e : None ≡ Some t = f in cc)
layout-there slowdown (x ∷ ts) [] h k t f = absurd h
layout-there slowdown (x ∷ ts) (s ∷ ss) h zero t f = (let e : x ≡ t = cc in record { layout = s; found = refl; laid = subst (λ y. IsLaid y slowdown s) e h.0 })
layout-there slowdown (x ∷ ts) (s ∷ ss) h (suc k) t f =
    (let r = layout-there slowdown ts ss h.1 k t f in record { layout = r.layout; found = r.found; laid = r.laid })

module _ (slowdown : ℕ) (ts : List SeqTree) (ins : List StTree) (laid : AreLaid slowdown ts ins) (vs : List ValueTree) (values : AreValues ts vs) where
  found-word : (n : ℕ) (w : StandsAt 0 ts n) → origin_word ins (map flat vs) (origin_numbered ts (suc n)) ≡ get_or (flat_map flat vs) n 0
  found-word n w =
      let l = layout-there slowdown ts ins laid w.value w.type w.found in
      let size : atom_words (atom_of w.type) ≡ element_words l.layout = ap atom_words (sym l.laid.laid.atom) in
      let z : 0 + w.value ≡ w.value = omega arith in
      let k = element_words l.layout in
      let is : origin_numbered ts (suc n) ≡ from_input w.value (w.place / k) (w.place % k) = w.is ∙
      (λ i. from_input (z i) (w.place / size i) (w.place % size i)) in
      let whole : w.place / k * k + w.place % k ≡ w.place = div-add-mod' w.place k in
      ap (origin_word ins (map flat vs)) is
      ∙ ap (λ (x : StTree). get_or (get_or (map flat vs) w.value []) (w.place / k * element_words x + w.place % k) 0)
      (get_or_from_slice_get ins w.value l.layout _ l.found)
      ∙ ap (λ ws. get_or ws (w.place / k * k + w.place % k) 0) (index-flat vs w.value)
      ∙ ap (λ i. get_or (flat (at vs w.value)) i 0) whole
      ∙ sym (w.word vs values)

  no-word : (n : ℕ) (h : HasNone 0 ts n) → origin_word ins (map flat vs) (origin_numbered ts (suc n)) ≡ get_or (flat_map flat vs) n 0
  no-word n h = ap (origin_word ins (map flat vs)) h.is ∙ sym (h.word vs values)

  pub number-word : (label : ℕ) → origin_word ins (map flat vs) (origin_numbered ts label) ≡ word_numbered (flat_map flat vs) label
  number-word zero = refl
  number-word (suc n) = ⊎_elim (λ (h : HasNone 0 ts n). no-word n h) (λ (w : StandsAt 0 ts n). found-word n w) (origin-cases 0 ts n)

pub words-by-trace : (p : ProgramTree) (slowdown : ℕ) (ins : List StTree) (vs : List ValueTree) → is_movement p ≡ true
    → AreLaid slowdown (parameter_types p) ins → AreValues (parameter_types p) vs
    → (r : ℕ) → map (origin_word ins (map flat vs)) (map (origin_numbered (parameter_types p)) (flat (at (trace p) r))) ≡ flat (at (mean p vs) r)
words-by-trace p slowdown ins vs moves laid values r =
    let f : ℕ → ℕ = word_numbered (flat_map flat vs) in
    let ls = flat (at (trace p) r) in
    map-map (origin_word ins (map flat vs)) (origin_numbered (parameter_types p)) ls
    ∙ map-same (λ l. origin_word ins (map flat vs) (origin_numbered (parameter_types p) l)) f ls (number-word slowdown (parameter_types p) ins laid vs values)
    ∙ sym (flat-renamed f (at (trace p) r))
    ∙ ap flat (sym (at-map (renamed f) refl (trace p) r))
    ∙ ap (λ xs. flat (at xs r)) (sym (means-by-trace p vs moves values))
