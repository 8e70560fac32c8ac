-- The lower bound on latency: two runs that differ in one input word alone, and only from its clock on.
use Rattle.std.proofs.Common.{◌≡◌, ℕ, zero, suc, ◌+◌, ◌-◌, ◌*◌, ◌/◌, ◌%◌, ◌^◌, ◌<◌, ◌≤◌, ◌==◌, inl, inr, max, Bool, true, false, if◌then◌else◌, List, [], ◌∷◌, length, map, None, Some, slice_get, get_or, refl, arith, sym, ap, ◌∙◌, subst, ⊎_elim}
use Rattle.std.specs.Prelude.{unwrap_or, codes, bytes_eq, flat_map}
use Rattle.std.specs.List.{range_with_len, fold}
use Rattle.std.proofs.Math.Nat.{pow-le-pow_right, mod-eq_of_lt, mod-le}
use Rattle.std.proofs.lemmas.Bool.{cases_Bool, cases_lt, cond-true, cond-false}
use Rattle.std.proofs.lemmas.Bool.Decides.{nat_tests}
use Rattle.std.proofs.lemmas.Nat.{div-add-mod'}
use Rattle.std.proofs.lemmas.Option.{unwrap_or-slice_get}
use Rattle.ae_word.specs.AtomTree.{atom_kinds, atom_words}
use Rattle.ae_seqtype.specs.SeqTree.{SeqTree, words, atom_of}
use Rattle.ae_seqtype.specs.ValueTree.{ValueTree, flat}
use Rattle.ae_seq.specs.ProgramTree.{ProgramTree}
use Rattle.ae_seq.specs.Meaning.{at, mean}
use Rattle.ae_sttype.specs.StTree.{StTree, time, st_atoms, element_atom, element_words}
use Rattle.ae_sttype.specs.Moves.{OriginTree, TripTree, from_input, fixed, slot_number, column_number, source_of, trip_number, trips_of, lead_from}
use Rattle.ae_moves.specs.Origins.{Move, move_latency}
use Rattle.ae_rewrite.specs.Interface.{main_of, parameter_types, result_types, AreValues}
use Rattle.ae_vmodule.specs.declared.module.NetKind.{NetKind}
use Rattle.ae_vmodule.specs.declared.module.NetKind.TheVariants.{Input, Wire, OutWire, Reg, OutReg, Memory}
use Rattle.ae_vmodule.specs.ModuleTree.{NetTree, ModuleTree}
use Rattle.ae_judge.specs.Names.{Among, is_output_kind, is_clock, clock_name}
use Rattle.ae_runs.specs.Runs.{clock_at, IsResetRun, SameAt}
use Rattle.ae_judge.specs.Faults.{IsWellFormed}
use Rattle.ae_judge.proofs.Members.{bytes_same, same_bytes}
use Rattle.ae_correct.specs.Correct.{ModulePort, ports_of, program_ports, param_ports, result_ports, wave, BundlesHold, KeepsBlocks}
use Rattle.ae_cause.specs.Causal.{BeginAlike}
use Rattle.ae_cause.proofs.Prefixes.{runs-are-causal}
use Rattle.ae_trace.specs.Traces.{is_movement, trace, renamed, word_numbered, origin_numbered, traced_move, traced_moves, least}
use Rattle.ae_trace.proofs.Tracing.{means-by-trace}
use Rattle.ae_trace.proofs.Origins.{HasNone, StandsAt, origin-cases, flat-renamed, at-map, index-map, origin-map}
use Rattle.ae_least.specs.Bounds.{NoneIsFaster}
use Rattle.ae_trace.proofs.Typed.{AreLaid, somes-same, are-laid, result-laid, param-sized, result-sized}
use Rattle.ae_trace.proofs.Laying.{AllWide, IsLaid, slot-there, IsPlaced, is-placed}
use Rattle.ae_least.proofs.Ports.{HasPort, input-port, output-port, input-among, output-among, net-of-port, input-kind, not-clock}
use Rattle.ae_least.proofs.Givens.{RunsAs, runs-as, input-word, alike}
use Rattle.ae_least.proofs.Blocks.{ShowsBits, IsRead, is-read, read-block, read-word-at, read-values, read-holds}
use Rattle.ae_fuse.proofs.Labels.{differ}

-- ---- the greatest

greatest-below : {X : Type 0} (f : X → ℕ) (xs : List X) (d : ℕ) → ((k : ℕ) (x : X) → slice_get xs k ≡ Some x → f x ≤ d) → (a : ℕ) → a ≤ d
    → fold (λ most x. max most (f x)) a xs ≤ d
greatest-below f [] d h a l = l
greatest-below f (x ∷ xs) d h a l = greatest-below f xs d (λ k y e. h (suc k) y e) (max a (f x)) (let p = h 0 x refl in omega arith)

-- ---- the wanted words: reset in the first clock, and one bit on one input in one clock

abbrev wanted : (name : List ℕ) (k b : ℕ) → ℕ → List ℕ → ℕ
wanted name k b t n = if bytes_eq n (codes "rst") then (if t == 0 then 1 else 0) else (if t == 1 + k then (if bytes_eq n name then b else 0) else 0)

small : (c : Bool) (x y : ℕ) → x ≤ 1 → y ≤ 1 → (if c then x else y) ≤ 1
small true x y h g = h
small false x y h g = g

wanted-small : (name : List ℕ) (k b t : ℕ) (n : List ℕ) → b ≤ 1 → wanted name k b t n ≤ 1
wanted-small name k b t n h =
    small (bytes_eq n (codes "rst")) _ _ (small (t == 0) 1 0 (omega arith) (omega arith))
    (small (t == 1 + k) _ 0 (small (bytes_eq n name) b 0 h (omega arith)) (omega arith))

wanted-before : (name : List ℕ) (k b c t : ℕ) → t < 1 + k → (n : List ℕ) → wanted name k b t n ≡ wanted name k c t n
wanted-before name k b c t l n =
    let early : (t == 1 + k) ≡ false = grind (arith, nat_tests) in
    ap (λ x. if bytes_eq n (codes "rst") then (if t == 0 then 1 else 0) else x) (cond-false _ _ _ early ∙ sym (cond-false _ _ _ early))

wanted-here : (name : List ℕ) (k b : ℕ) → bytes_eq name (codes "rst") ≡ false → wanted name k b (1 + k) name ≡ b
wanted-here name k b other =
    let now : (1 + k == 1 + k) ≡ true = grind (arith, nat_tests) in
    cond-false _ _ _ other ∙ cond-true _ _ _ now ∙ cond-true _ _ _ (bytes_same name name refl)

wanted-reset : (name : List ℕ) (k b t : ℕ) → wanted name k b t (codes "rst") ≡ (if t == 0 then 1 else 0)
wanted-reset name k b t = refl

bit-mod : (x w : ℕ) → x ≤ 1 → 1 ≤ w → x % 2 ^ w ≡ x
bit-mod x w h g =
    let p : 0 < 2 = omega arith in
    let two : 2 ^ 1 ≤ 2 ^ w = pow-le-pow_right p g in
    let low : x < 2 ^ w = omega arith in
    mod-eq_of_lt low

out-word : (k : NetKind) (w v : ℕ) (s u : List ℕ) → is_output_kind k ≡ true → SameAt k w v s u → w ≡ v
out-word OutWire w v s u o h = h
out-word OutReg w v s u o h = h
out-word Input w v s u o h = absurd (cc)
out-word Wire w v s u o h = absurd (cc)
out-word Reg w v s u o h = absurd (cc)
out-word (Memory d) w v s u o h = absurd (cc)

-- ---- inputs and outputs by name

record IsInputNet (m : ModuleTree) (name : List ℕ) (width : ℕ) : Type 0 where
  net : NetTree
  there : Among net m.nets
  named : net.name ≡ name
  wide : net.width ≡ width
  kind : net.kind ≡ Input
  data_name : is_clock m net.name ≡ false

record IsOutputNet (m : ModuleTree) (name : List ℕ) : Type 0 where
  net : NetTree
  there : Among net m.nets
  named : net.name ≡ name
  kind : is_output_kind net.kind ≡ true
  data_name : is_clock m net.name ≡ false

module _ (m : ModuleTree) (ok : IsWellFormed m) (ins outs : List StTree) (ports : ports_of m ≡ program_ports ins outs)
    (clocked : clock_name m ≡ Some (codes "clk")) where
  in-net : (p : ModulePort) (first : ℕ) (tail : List ℕ) → Among p (program_ports ins outs) → p.name ≡ first ∷ tail → (first ≡ 99 → ⊥) → p.is_output ≡ false
      → IsInputNet m p.name p.width
  in-net p first tail h e other way =
      let x = net-of-port m p (subst (Among p) (sym ports) h) in
      record {
        net = x.net;
        there = x.there;
        named = x.named;
        wide = x.wide;
        kind = input-kind x.net.kind (x.way ∙ way) x.port;
        data_name = not-clock m x.net.name tail first clocked (x.named ∙ e) other;
      }

  reset-net : IsInputNet m (codes "rst") 1
  reset-net = in-net (record { name = codes "rst"; width = 1; is_output = false }) 114 _ (inr (inl refl)) refl (λ e. omega arith) refl

  column-net : (q : ℕ) (s : StTree) (column : ℕ) (h : HasPort 105 false (param_ports q s) column) → slice_get ins q ≡ Some s
      → IsInputNet m h.port.name h.port.width
  column-net q s column h found = in-net h.port 105 h.is.tail (input-among ins outs h.port q s found h.there) h.is.named (λ e. omega arith) h.is.way

  out-net : (r : ℕ) (s : StTree) (column : ℕ) (h : HasPort 111 true (result_ports (length outs) r s) column) → slice_get outs r ≡ Some s
      → IsOutputNet m h.port.name
  out-net r s column h found =
      let x = net-of-port m h.port (subst (Among h.port) (sym ports) (output-among ins outs h.port r s found h.there)) in
      record {
        net = x.net;
        there = x.there;
        named = x.named;
        kind = x.way ∙ h.is.way;
        data_name = not-clock m x.net.name h.is.tail 111 clocked (x.named ∙ h.is.named) (λ e. omega arith);
      }

  -- a run in which one bit stands on an input in a clock
  module _ (name : List ℕ) (k b n : ℕ) (bit : b ≤ 1) (some : 1 ≤ n) where
    marked : RunsAs m (wanted name k b) n
    marked = runs-as m ok (wanted name k b) n

    shown : (r : RunsAs m (wanted name k b) n) (own : List ℕ) (width : ℕ) → IsInputNet m own width → (t : ℕ) → t < n
        → (clock_at r.run t).word own ≡ wanted name k b t own % 2 ^ width
    shown r own width x t l =
        ap (clock_at r.run t).word (sym x.named)
        ∙ input-word m ok (wanted name k b) n r x.net x.there x.kind x.data_name t l
        ∙ (λ i. wanted name k b t (x.named i) % 2 ^ x.wide i)

    reset-word : (r : RunsAs m (wanted name k b) n) (t : ℕ) → t < n → (clock_at r.run t).word (codes "rst") ≡ (if t == 0 then 1 else 0)
    reset-word r t l =
        let low : (if t == 0 then 1 else 0) ≤ 1 = small (t == 0) 1 0 (omega arith) (omega arith) in
        shown r (codes "rst") 1 reset-net t l ∙ ap (λ x. x % 2 ^ 1) (wanted-reset name k b t) ∙ bit-mod (if t == 0 then 1 else 0) 1 low (omega arith)

    resets : (r : RunsAs m (wanted name k b) n) → IsResetRun m r.run 1
    resets r = record {
      run_of = r.runs;
      some = omega arith;
      high = λ t l long. (let now : (t == 0) ≡ true = grind (arith, nat_tests) in reset-word r t (omega (arith, r.long)) ∙ cond-true _ _ _ now);
      low = λ t l long. (let later : (t == 0) ≡ false = grind (arith, nat_tests) in reset-word r t (omega (arith, r.long)) ∙ cond-false _ _ _ later);
    }

    shows-bits : (r : RunsAs m (wanted name k b) n) (slowdown q : ℕ) (s : StTree) → slice_get ins q ≡ Some s → AllWide (atom_kinds (element_atom s))
        → 1 + time s ≤ n → ShowsBits r.run slowdown q s
    shows-bits r slowdown q s found wide room clock column early inside =
        let h = input-port q s wide column inside in
        let e : wave r.run 1 (param_ports q s) clock column ≡ wanted name k b (1 + clock) h.port.name % 2 ^ h.port.width =
        ap (clock_at r.run (1 + clock)).word h.named ∙ shown r h.port.name h.port.width (column-net q s column h found) (1 + clock) (omega arith) in
        let low : wanted name k b (1 + clock) h.port.name ≤ 1 = wanted-small name k b (1 + clock) h.port.name bit in
        let less : wanted name k b (1 + clock) h.port.name % 2 ^ h.port.width ≤ wanted name k b (1 + clock) h.port.name = mod-le _ _ in
        omega arith

-- ---- a word of a result that comes from a word of a parameter

-- the first bytes of names
not-reset : (name tail : List ℕ) → name ≡ 105 ∷ tail → bytes_eq name (codes "rst") ≡ false
not-reset name tail e = elim (cases_Bool (bytes_eq name (codes "rst"))) [
  | inl t ↦ absurd (let s : 105 ∷ tail ≡ codes "rst" = sym e ∙ same_bytes name (codes "rst") t in
      let h : 105 ≡ 114 = ap (λ ns. unwrap_or (slice_get ns 0) 0) s in omega arith)
  | inr f ↦ f
]

module _ (p : ProgramTree) (slowdown d : ℕ) (m : ModuleTree) (ins outs : List StTree) (moves : is_movement p ≡ true) (some : 0 < slowdown) (ok : IsWellFormed m)
    (ports : ports_of m ≡ program_ports ins outs) (clocked : clock_name m ≡ Some (codes "clk")) (keeps : KeepsBlocks m p slowdown d ins outs)
    (laid : AreLaid slowdown (parameter_types p) ins) (outs_laid : (r : ℕ) (s : StTree) → slice_get outs r ≡ Some s → (t : SeqTree) × IsLaid t slowdown s) where
  abbrev types : List SeqTree
  types = parameter_types p

  -- output word o of result r is word number n of the arguments
  record IsWay (r o n : ℕ) : Type 0 where
    out : StTree
    found : slice_get outs r ≡ Some out
    below : o < st_atoms out * element_words out
    label : unwrap_or (slice_get (flat (at (trace p) r)) o) 0 ≡ suc n
    from : StandsAt 0 types n
    source : StTree
    source_found : slice_get ins from.value ≡ Some source

  module _ (r o n : ℕ) (w : IsWay r o n) where
    abbrev e : ℕ
    e = w.from.place / element_words w.source

    abbrev k : ℕ
    k = (slot_number w.source e).clock

    abbrev q : ℕ
    q = column_number w.source e (w.from.place % element_words w.source)

    abbrev c : ℕ
    c = (slot_number w.out (o / element_words w.out)).clock

    out_type : (t : SeqTree) × IsLaid t slowdown w.out
    out_type = outs_laid r w.out w.found

    out_place : IsPlaced w.out o
    out_place = is-placed out_type.0 slowdown w.out out_type.1 o w.below

    source_read : IsRead [] slowdown 0 types ins w.from.value w.source
    source_read = is-read [] slowdown 0 types ins laid w.from.value w.source w.source_found

    same_type : source_read.type ≡ w.from.type
    same_type = let h : Some source_read.type ≡ Some w.from.type = sym source_read.found ∙ w.from.found in cc

    place_below : w.from.place < st_atoms w.source * element_words w.source
    place_below =
        let h : w.from.place < words source_read.type = subst (λ t. w.from.place < words t) (sym same_type) w.from.below in
        omega (arith, source_read.is_laid.words)

    source_place : IsPlaced w.source w.from.place
    source_place = is-placed source_read.type slowdown w.source source_read.is_laid w.from.place place_below

    -- the names of both columns
    in_port : HasPort 105 false (param_ports w.from.value w.source) q
    in_port = input-port w.from.value w.source source_read.is_laid.own_wide q source_place.column

    abbrev out_column : ℕ
    out_column = column_number w.out (o / element_words w.out) (o % element_words w.out)

    out_port : HasPort 111 true (result_ports (length outs) r w.out) out_column
    out_port = output-port (length outs) r w.out out_type.1.own_wide out_column out_place.column

    abbrev size : ℕ
    size = 1 + (d + slowdown)

    abbrev shown_at : ℕ
    shown_at = 1 + (d + 0 * slowdown + c)

    early : k < slowdown
    early = let h = source_place.clock in let g = source_read.is_laid.laid.time in omega arith

    out_early : c < slowdown
    out_early = let h = out_place.clock in let g = out_type.1.laid.time in omega arith

    -- what the output shows
    module _ (b : ℕ) (bit : b ≤ 1) (x : RunsAs m (wanted in_port.port.name k b) size) where
      abbrev block : List ValueTree
      block = read-block x.run slowdown 0 types ins

      input_bits : (i : ℕ) (s : StTree) → slice_get ins i ≡ Some s → ShowsBits x.run slowdown i s
      input_bits i s found =
          let r = is-read [] slowdown 0 types ins laid i s found in
          let g = r.is_laid.laid.time in
          shows-bits m ok ins outs ports clocked in_port.port.name k b size bit (omega arith) x slowdown i s found r.is_laid.own_wide (omega arith)

      values : AreValues types block
      values = read-values x.run slowdown 0 types ins laid
          (λ i s found. (let z : i ≡ 0 + i = omega arith in subst (λ j. ShowsBits x.run slowdown j s) z (input_bits i s found)))

      given : (i : ℕ) (own : List ValueTree) → slice_get (block ∷ []) i ≡ Some own → AreValues types own
          × BundlesHold x.run 1 (i * slowdown) param_ports ins own
      given zero own found =
          let same : block ≡ own = cc in
          let z : 0 ≡ 0 * slowdown = omega arith in (
            subst (AreValues types) same values,
            subst (λ i. BundlesHold x.run 1 i param_ports ins own) z
                (subst (BundlesHold x.run 1 0 param_ports ins) same (read-holds x.run slowdown types ins laid)),
          )
      given (suc i) own found = absurd (let h : None ≡ Some own = found in cc)

      results : BundlesHold x.run 1 (d + 0 * slowdown) (result_ports (length outs)) outs (mean p block)
      results =
          let one : 1 + (d + length (block ∷ []) * slowdown) ≤ length x.run = omega (arith, x.long) in
          keeps.results x.run 1 (block ∷ []) (resets m ok ins outs ports clocked in_port.port.name k b size bit (omega arith) x) one given 0 block refl

      -- the word that stands there
      word_read : get_or (flat (at block w.from.value)) w.from.place 0 ≡ b
      word_read =
          let own = is-read x.run slowdown 0 types ins laid w.from.value w.source w.source_found in
          let z : 0 + w.from.value ≡ w.from.value = omega arith in
          let inside : w.from.place < words own.type = omega (arith, own.is_laid.words, place_below) in
          let here : wanted in_port.port.name k b (1 + k) in_port.port.name ≡ b = wanted-here in_port.port.name k b
          (not-reset in_port.port.name in_port.is.tail in_port.is.named) in
          sym (unwrap_or-slice_get (flat (at block w.from.value)) w.from.place 0)
          ∙ read-word-at x.run slowdown 0 types ins w.from.value w.source own w.from.place inside
          ∙ ap (λ i. wave x.run 1 (param_ports i w.source) k q) z
          ∙ ap (clock_at x.run (1 + k)).word in_port.named
          ∙ shown m ok ins outs ports clocked in_port.port.name k b size bit (omega arith) x in_port.port.name in_port.port.width
          (column-net m ok ins outs ports clocked w.from.value w.source q in_port w.source_found) (1 + k) (let h = early in omega arith)
          ∙ ap (λ v. v % 2 ^ in_port.port.width) here
          ∙ bit-mod b in_port.port.width bit in_port.is.low

      -- and the word of the result
      result_word : unwrap_or (slice_get (flat (at (mean p block) r)) o) 0 ≡ b
      result_word =
          let f : ℕ → ℕ = word_numbered (flat_map flat block) in
          ap (λ vs. unwrap_or (slice_get (flat (at vs r)) o) 0) (means-by-trace p block moves values)
          ∙ ap (λ v. unwrap_or (slice_get (flat v) o) 0) (at-map (renamed f) refl (trace p) r)
          ∙ ap (λ ws. unwrap_or (slice_get ws o) 0) (flat-renamed f (at (trace p) r))
          ∙ unwrap_or-slice_get (map f (flat (at (trace p) r))) o 0
          ∙ index-map f refl (flat (at (trace p) r)) o
          ∙ ap f (sym (unwrap_or-slice_get (flat (at (trace p) r)) o 0) ∙ w.label)
          ∙ w.from.word block values
          ∙ word_read

      output_word : (clock_at x.run shown_at).word out_port.port.name ≡ b
      output_word =
          let s = slot_number w.out (o / element_words w.out) in
          let whole : o / element_words w.out * element_words w.out + o % element_words w.out ≡ o = div-add-mod' o (element_words w.out) in
          ap (clock_at x.run shown_at).word (sym out_port.named)
          ∙ results.each r w.out w.found (o / element_words w.out) (o % element_words w.out) s
          (slot-there w.out (o / element_words w.out) out_place.element) out_place.word
          ∙ ap (λ i. unwrap_or (slice_get (flat (at (mean p block) r)) i) 0) whole
          ∙ result_word

    -- so it does not come before the source
    not-before : d + c < k → ⊥
    not-before before =
        let name = in_port.port.name in
        let x = marked m ok ins outs ports clocked name k 0 size (omega arith) (omega arith) in
        let y = marked m ok ins outs ports clocked name k 1 size (omega arith) (omega arith) in
        let z : shown_at ≡ 1 + (d + c) = omega arith in
        let inside : 1 + k ≤ size = (let h = early in omega arith) in
        let begin : BeginAlike m (1 + k) x.run y.run = record {
          long = omega (arith, x.long);
          other_long = omega (arith, y.long);
          same = λ t l. alike m ok (wanted name k 0) (wanted name k 1) size x y t (omega arith) (wanted-before name k 0 1 t l);
        } in
        let same = runs-are-causal m (1 + k) x.run y.run ok x.runs y.runs begin shown_at (omega arith) in
        let o = out-net m ok ins outs ports clocked r w.out out_column out_port w.found in
        let words_same : (clock_at x.run shown_at).word o.net.name ≡ (clock_at y.run shown_at).word o.net.name = out-word o.net.kind _ _ _ _ o.kind
        (same.same o.net o.there o.data_name) in
        let own : (clock_at x.run shown_at).word o.net.name ≡ 0 = ap (clock_at x.run shown_at).word o.named ∙ output_word 0 (omega arith) x in
        let other : (clock_at y.run shown_at).word o.net.name ≡ 1 = ap (clock_at y.run shown_at).word o.named ∙ output_word 1 (omega arith) y in
        differ ((clock_at x.run shown_at).word o.net.name) own (words_same ∙ other)

-- ---- all words of all results

module _ (p : ProgramTree) (slowdown d : ℕ) (m : ModuleTree) (ins outs : List StTree) (moves : is_movement p ≡ true) (some : 0 < slowdown) (ok : IsWellFormed m)
    (ports : ports_of m ≡ program_ports ins outs) (clocked : clock_name m ≡ Some (codes "clk")) (keeps : KeepsBlocks m p slowdown d ins outs)
    (laid : AreLaid slowdown (parameter_types p) ins) (outs_laid : (r : ℕ) (s : StTree) → slice_get outs r ≡ Some s → (t : SeqTree) × IsLaid t slowdown s) where
  layout-there : (ts : List SeqTree) (ss : List StTree) → AreLaid slowdown ts ss → (k : ℕ) (t : SeqTree) → slice_get ts k ≡ Some t → (s : StTree)
      × (slice_get ss k ≡ Some s) × IsLaid t slowdown s
  layout-there [] ss h k t f = absurd (let e : None ≡ Some t = f in cc)
  layout-there (x ∷ ts) [] h k t f = absurd h
  layout-there (x ∷ ts) (s ∷ ss) h zero t f = (let e : x ≡ t = cc in (s, refl, subst (λ y. IsLaid y slowdown s) e h.0))
  layout-there (x ∷ ts) (s ∷ ss) h (suc k) t f = layout-there ts ss h.1 k t f

  index-there : (ss : List StTree) (k : ℕ) (s e : StTree) → slice_get ss k ≡ Some s → unwrap_or (slice_get ss k) e ≡ s
  index-there [] k s e f = absurd (let h : None ≡ Some s = f in cc)
  index-there (x ∷ ss) zero s e f = cc
  index-there (x ∷ ss) (suc k) s e f = index-there ss k s e f

  lead-fixed : (c w : ℕ) (origin : OriginTree) → origin ≡ fixed w → lead_from c (source_of ins origin) ≤ d
  lead-fixed c w origin e = subst (λ x. lead_from c (source_of ins x) ≤ d) (sym e) (omega arith)

  module _ (r o : ℕ) (out : StTree) (found : slice_get outs r ≡ Some out) (below : o < st_atoms out * element_words out) where
    abbrev clock : ℕ
    clock = (slot_number out (o / element_words out)).clock

    lead-from-word : (n : ℕ) → unwrap_or (slice_get (flat (at (trace p) r)) o) 0 ≡ suc n → StandsAt 0 (parameter_types p) n
        → lead_from clock (source_of ins (origin_numbered (parameter_types p) (suc n))) ≤ d
    lead-from-word n label w =
        let s = layout-there (parameter_types p) ins laid w.value w.type w.found in
        let way : IsWay p slowdown d m ins outs moves some ok ports clocked keeps laid outs_laid r o
        n = record { out = out; found = found; below = below; label = label; from = w; source = s.0; source_found = s.1 } in
        let size : atom_words (atom_of w.type) ≡ element_words s.0 = ap atom_words (sym s.2.laid.atom) in
        let z : 0 + w.value ≡ w.value = omega arith in
        let e : ℕ = w.place / element_words s.0 in
        let is : origin_numbered (parameter_types p) (suc n) ≡ from_input w.value e (w.place % element_words s.0) =
        w.is ∙ (λ i. from_input (z i) (w.place / size i) (w.place % size i)) in
        let source : unwrap_or (slice_get ins w.value) _ ≡ s.0 = index-there ins w.value s.0 _ s.1 in
        let lead : lead_from clock (source_of ins (origin_numbered (parameter_types p) (suc n))) ≡ (slot_number s.0 e).clock - clock =
        ap (λ x. lead_from clock (source_of ins x)) is ∙ ap (λ (x : StTree). (slot_number x e).clock - clock) source in
        let no : d + clock < (slot_number s.0 e).clock → ⊥ = not-before p slowdown d m ins outs moves some ok ports clocked keeps laid outs_laid r o n way in
        let late : (slot_number s.0 e).clock ≤ d + clock = ⊎_elim (λ (h : d + clock < (slot_number s.0 e).clock). absurd (no h))
        (λ (h : (slot_number s.0 e).clock ≤ d + clock). h) (cases_lt (d + clock) (slot_number s.0 e).clock) in
        omega (arith, lead, late)

    lead-by : (label : ℕ) → unwrap_or (slice_get (flat (at (trace p) r)) o) 0 ≡ label
        → lead_from clock (source_of ins (origin_numbered (parameter_types p) label)) ≤ d
    lead-by zero e = lead-fixed clock 0 (fixed 0) refl
    lead-by (suc n) e =
        ⊎_elim (λ (h : HasNone 0 (parameter_types p) n). lead-fixed clock 0 (origin_numbered (parameter_types p) (suc n)) h.is)
        (λ (w : StandsAt 0 (parameter_types p) n). lead-from-word n e w) (origin-cases 0 (parameter_types p) n)

    lead-below : lead_from clock (source_of ins (unwrap_or (slice_get (map (origin_numbered (parameter_types p)) (flat (at (trace p) r))) o) (fixed 0))) ≤ d
    lead-below =
        subst (λ x. lead_from clock (source_of ins x) ≤ d) (sym (origin-map (origin_numbered (parameter_types p)) refl (flat (at (trace p) r)) o))
        (lead-by (unwrap_or (slice_get (flat (at (trace p) r)) o) 0) refl)

  entry-of : {X : Type 0} (f : ℕ → X) (a n k : ℕ) (x : X) → slice_get (map f (range_with_len a n)) k ≡ Some x → (k < n) × (x ≡ f (a + k))
  entry-of f a zero k x h = absurd (let e : None ≡ Some x = h in cc)
  entry-of f a (suc n) zero x h =
      let z : a ≡ a + 0 = omega arith in
      let e : f a ≡ x = cc in
      (omega arith, sym e ∙ ap f z)
  entry-of f a (suc n) (suc k) x h =
      let r = entry-of f (a + 1) n k x h in
      let z : a + 1 + k ≡ a + suc k = omega arith in
      (omega (arith, r.0), r.1 ∙ ap f z)

  result-below : (r : ℕ) (out : StTree) → slice_get outs r ≡ Some out → move_latency (traced_move (parameter_types p) ins out (at (trace p) r)) ≤ d
  result-below r out found =
      let origins = map (origin_numbered (parameter_types p)) (flat (at (trace p) r)) in
      greatest-below (λ (t : TripTree). lead_from t.clock t.source) (trips_of ins out origins) d
      (λ k t h.
      let g = entry-of (trip_number ins out origins) 0 (st_atoms out * element_words out) k t h in
      let z : 0 + k ≡ k = omega arith in
      let is : t ≡ trip_number ins out origins k = g.1 ∙ ap (trip_number ins out origins) z in
      subst (λ (x : TripTree). lead_from x.clock x.source ≤ d) (sym is) (lead-below r k out found g.0)) 0 (omega arith)

  move-of : (ss : List StTree) (vs : List ValueTree) (k : ℕ) (x : Move) → slice_get (traced_moves (parameter_types p) ins ss vs) k ≡ Some x
      → (s : StTree) × (slice_get ss k ≡ Some s) × (x ≡ traced_move (parameter_types p) ins s (at vs k))
  move-of [] vs k x h = absurd (let e : None ≡ Some x = h in cc)
  move-of (s ∷ ss) [] k x h = absurd (let e : None ≡ Some x = h in cc)
  move-of (s ∷ ss) (v ∷ vs) zero x h = (let e : traced_move (parameter_types p) ins s v ≡ x = cc in (s, refl, sym e))
  move-of (s ∷ ss) (v ∷ vs) (suc k) x h = move-of ss vs k x h

  least-below : least p ins outs ≤ d
  least-below =
      greatest-below move_latency (traced_moves (parameter_types p) ins outs (trace p)) d
      (λ k x h. let g = move-of outs (trace p) k x h in subst (λ y. move_latency y ≤ d) (sym g.2) (result-below k g.0 g.1)) 0 (omega arith)

pub none-is-faster : NoneIsFaster
none-is-faster p slowdown latency ins outs m moves typed some layouts ok correct =
    let own = correct.layouts in
    let same_ins : correct.inputs ≡ ins = somes-same correct.inputs ins (sym own.parameters ∙ layouts.parameters) in
    let same_outs : correct.outputs ≡ outs = somes-same correct.outputs outs (sym own.results ∙ layouts.results) in
    let bound : least p correct.inputs correct.outputs ≤ latency =
    least-below p slowdown latency m correct.inputs correct.outputs moves some ok correct.ports correct.clocked correct.keeps
    (are-laid slowdown some (parameter_types p) correct.inputs (λ i t f. param-sized p typed (slice_get p.funcs (main_of p)) refl i t f) own.parameters)
    (result-laid slowdown some (result_types p) correct.outputs (result-sized p typed) own.results) in
    subst (λ xs. least p ins xs ≤ latency) same_outs (subst (λ xs. least p xs correct.outputs ≤ latency) same_ins bound)
