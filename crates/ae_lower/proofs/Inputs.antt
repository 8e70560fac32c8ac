-- Inputs that are added one by one, lane by lane and stream by stream.
use Rattle.std.proofs.Common.{ℕ, zero, suc, ◌≡◌, ◌+◌, ◌*◌, ◌<◌, ◌≤◌, List, [], ◌∷◌, ◌++◌, length, map, take, get_or, None, Some, false, slice_get, arith, refl, sym, ap, ◌∙◌, subst, length-append, add-one}
use Rattle.std.specs.List.{range_with_len}
use Rattle.std.proofs.lemmas.List.{append-nil, append_assoc, length-map, length-take-le, map-append, map_push, take_more}
use Rattle.std.proofs.lemmas.List.FromFn.{length-range_with_len}
use Rattle.std.proofs.lemmas.Option.{get_or_from_slice_get, slice_get-get_or, slice_get_within}
use Rattle.std.specs.Option.{option_map}
use Rattle.ae_word.specs.AtomTree.{AtomTree, WordKind, atom_kinds, atom_words}
use Rattle.ae_word.proofs.Sizes.{length-atom_kinds}
use Rattle.ae_sttype.specs.declared.st_type.StType.{StType}
use Rattle.ae_sttype.specs.StTree.{element_words, lanes, st_tree}
use Rattle.ae_sttype.specs.Size.{IsInSize}
use Rattle.ae_moves.proofs.Words.{columns_small}
use Rattle.ae_rewrite.specs.StProgramTree.{st_trees}
use Rattle.ae_ports.specs.Ports.{streams_of, SizedPort, input_cell, input_ports, lane_ports, ports_from, stream_ports, word_ports}
use Rattle.ae_seqtype.proofs.Sizes.{length-repeated}
use Rattle.ae_netlist.specs.declared.cell.NetId.{NetId}
use Rattle.ae_netlist.specs.declared.cell.Port.{Port}
use Rattle.ae_netlist.specs.declared.cell.Port.TheVariants.{In}
use Rattle.ae_netlist.specs.Circuit.{Circuit}
use Rattle.ae_ops.specs.Blocks.{Stream, stream_of, stream_widths}
use Rattle.ae_lower.specs.PortNets.{AddsInputs, bundles_from, nets_from}
use Rattle.ae_ports.proofs.Columns.{element_columns as widths_long}

-- ---- lists of ports

abbrev pub sized_port : Port → ℕ → SizedPort
sized_port p w = record { port = p; width = w }

pub word_ports_push : (at : ℕ → Port) (k : ℕ) (ws : List ℕ) (w : ℕ) → word_ports at k (ws ++ w ∷ []) ≡ word_ports at k ws ++ sized_port (at (k + length ws)) w
    ∷ []
word_ports_push at k [] w = ap (λ n. sized_port (at n) w ∷ []) (let e : k ≡ k + 0 = omega arith in e)
word_ports_push at k (v ∷ ws) w =
    ap (λ ps. sized_port (at k) v ∷ ps) (word_ports_push at (k + 1) ws w)
    ∙ ap (λ n. sized_port (at k) v ∷ (word_ports at (k + 1) ws ++ sized_port (at n) w ∷ []))
    (let e : k + 1 + length ws ≡ k + length (v ∷ ws) = omega arith in e)

-- the port of one more word
pub word_ports_more : (at : ℕ → Port) (ws : List ℕ) (j w : ℕ) → j < length ws → get_or ws j 0 ≡ w
    → word_ports at 0 (take (j + 1) ws) ≡ word_ports at 0 (take j ws) ++ sized_port (at j) w ∷ []
word_ports_more at ws j w h is =
    let long : 0 + length (take j ws) ≡ j = omega (arith, length-take-le j ws (omega arith)) in
    ap (word_ports at 0) (take_more ws j 0 h)
    ∙ (word_ports_push at 0 (take j ws) (get_or ws j 0)
    ∙ (ap (λ n. word_ports at 0 (take j ws) ++ sized_port (at n) (get_or ws j 0) ∷ []) long ∙
    ap (λ v. word_ports at 0 (take j ws) ++ sized_port (at j) v ∷ []) is))

pub length-word_ports : (at : ℕ → Port) (k : ℕ) (ws : List ℕ) → length (word_ports at k ws) ≡ length ws
length-word_ports at k [] = refl
length-word_ports at k (w ∷ ws) = ap suc (length-word_ports at (k + 1) ws)

pub length-lane_ports : (at : ℕ → ℕ → Port) (ws : List ℕ) (lanes : ℕ) → length (lane_ports at ws lanes) ≡ lanes * length ws
length-lane_ports at ws zero = omega arith
length-lane_ports at ws (suc l) =
    omega (arith, length-append (lane_ports at ws l) (word_ports (at l) 0 ws), length-lane_ports at ws l, length-word_ports (at l) 0 ws)

-- a port for each column
pub length-stream_ports : (at : ℕ → ℕ → Port) (s : Stream) → length (stream_ports at s) ≡ length (stream_widths s)
length-stream_ports at s = length-lane_ports at s.widths s.lanes ∙ sym (length-repeated s.lanes s.widths)

pub ports_from_push : (at : ℕ → ℕ → ℕ → Port) (k : ℕ) (ss : List Stream) (s : Stream) → ports_from at k (ss ++ s ∷ []) ≡ ports_from at k ss
    ++ stream_ports (at (k + length ss)) s
ports_from_push at k [] s = append-nil (stream_ports (at k) s) ∙ ap (λ n. stream_ports (at n) s) (let e : k ≡ k + 0 = omega arith in e)
ports_from_push at k (t ∷ ss) s =
    ap (λ ps. stream_ports (at k) t ++ ps) (ports_from_push at (k + 1) ss s)
    ∙ (sym (append_assoc (stream_ports (at k) t) (ports_from at (k + 1) ss) (stream_ports (at (k + 1 + length ss)) s))
    ∙ ap (λ n. (stream_ports (at k) t ++ ports_from at (k + 1) ss) ++ stream_ports (at n) s)
    (let e : k + 1 + length ss ≡ k + length (t ∷ ss) = omega arith in e))

-- ---- their nets

pub length-nets_from : (first n : ℕ) → length (nets_from first n) ≡ n
length-nets_from first n = length-map (range_with_len first n) (λ (k : ℕ). let net : NetId = record { 0 = k } in net) ∙ length-range_with_len first n

pub nets_from_add : (first m n : ℕ) → nets_from first (m + n) ≡ nets_from first m ++ nets_from (first + m) n
nets_from_add first zero n =
    ap (nets_from first) (let e : 0 + n ≡ n = omega arith in e) ∙ ap (λ k. nets_from k n) (let e : first ≡ first + 0 = omega arith in e)
nets_from_add first (suc m) n =
    ap (nets_from first) (let e : suc m + n ≡ suc (m + n) = omega arith in e)
    ∙ (ap (λ ns. (let net : NetId = record { 0 = first } in net) ∷ ns) (nets_from_add (first + 1) m n)
    ∙ ap (λ k. nets_from first (suc m) ++ nets_from k n) (let e : first + 1 + m ≡ first + suc m = omega arith in e))

pub bundles_from_push : (first : ℕ) (at : ℕ → ℕ → ℕ → Port) (k : ℕ) (ss : List Stream) (s : Stream) → bundles_from first (ss ++ s ∷ []) ≡ bundles_from first ss
    ++ nets_from (first + length (ports_from at k ss)) (length (stream_widths s)) ∷ []
bundles_from_push first at k [] s = ap (λ n. nets_from n (length (stream_widths s)) ∷ []) (let e : first ≡ first + 0 = omega arith in e)
bundles_from_push first at k (t ∷ ss) s =
    let size : length (stream_ports (at k) t ++ ports_from at (k + 1) ss) ≡ length (stream_widths t) + length (ports_from at (k + 1) ss) =
    length-append (stream_ports (at k) t) (ports_from at (k + 1) ss) ∙ ap (λ n. n + length (ports_from at (k + 1) ss)) (length-stream_ports (at k) t) in
    let place : first + length (stream_widths t) + length (ports_from at (k + 1) ss) ≡ first + length
    (stream_ports (at k) t ++ ports_from at (k + 1) ss) = omega (arith, size) in
    ap (λ bs. nets_from first (length (stream_widths t)) ∷ bs) (bundles_from_push (first + length (stream_widths t)) at (k + 1) ss s)
    ∙ ap (λ n. nets_from first (length (stream_widths t))
    ∷ (bundles_from (first + length (stream_widths t)) ss ++ nets_from n (length (stream_widths s)) ∷ [])) place

-- ---- inputs that are added

both_cells : (a b c : Circuit) (ps qs : List SizedPort) → b ≡ record a { cells = a.cells ++ map input_cell ps }
    → c ≡ record b { cells = b.cells ++ map input_cell qs } → c ≡ record a { cells = a.cells ++ map input_cell (ps ++ qs) }
both_cells a b c ps qs p q =
    q ∙ (ap (λ (n : Circuit). record n { cells = n.cells ++ map input_cell qs }) p
    ∙ ap (λ cs. record a { cells = cs }) (append_assoc a.cells (map input_cell ps) (map input_cell qs) ∙
    ap (λ cs. a.cells ++ cs) (sym (map-append input_cell ps qs))))

pub inputs_trans : {a b c : Circuit} {x y z : List NetId} {ps qs : List SizedPort} → AddsInputs a b x y ps → AddsInputs b c y z qs
    → AddsInputs a c x z (ps ++ qs)
inputs_trans {a} {b} {c} {x} {y} {z} {ps} {qs} p q =
    let mid : b.cells ≡ a.cells ++ map input_cell ps = ap (λ (n : Circuit). n.cells) p.cells in
    let long : length b.cells ≡ length a.cells + length ps = ap length mid ∙
    (length-append a.cells (map input_cell ps) ∙ ap (λ n. length a.cells + n) (length-map ps input_cell)) in
    record {
      cells = both_cells a b c ps qs p.cells q.cells;
      nets = q.nets ∙ (ap (λ ns. ns ++ nets_from (length b.cells) (length qs)) p.nets
          ∙ (append_assoc x (nets_from (length a.cells) (length ps)) (nets_from (length b.cells) (length qs))
          ∙ ap (λ ns. x ++ ns) (ap (λ n. nets_from (length a.cells) (length ps) ++ nets_from n (length qs)) long
          ∙ (sym (nets_from_add (length a.cells) (length ps) (length qs)) ∙ ap (nets_from (length a.cells)) (sym (length-append ps qs))))));
    }

-- how many cells there are then, and may be
pub inputs_long : {a b : Circuit} {x y : List NetId} {ps : List SizedPort} → AddsInputs a b x y ps → length b.cells ≡ length a.cells + length ps
inputs_long {a} {b} {x} {y} {ps} h =
    ap (λ (n : Circuit). length n.cells) h.cells ∙ (length-append a.cells (map input_cell ps) ∙ ap (λ n. length a.cells + n) (length-map ps input_cell))

pub inputs_limit : {a b : Circuit} {x y : List NetId} {ps : List SizedPort} → AddsInputs a b x y ps → b.limit ≡ a.limit
inputs_limit h = ap (λ (n : Circuit). n.limit) h.cells

-- one input
pub inputs_one : (a b : Circuit) (x y : List NetId) (net : NetId) (p : SizedPort) → b ≡ record a { cells = a.cells ++ input_cell p ∷ [] }
    → net ≡ record { 0 = length a.cells } → y ≡ x ++ net ∷ [] → AddsInputs a b x y (p ∷ [])
inputs_one a b x y net p made is pushed = record { cells = made; nets = pushed ∙ ap (λ (n : NetId). x ++ n ∷ []) is }

-- ---- widths of words

-- there is a width for each word of an atom
pub width_there : (a : AtomTree) (word : ℕ) → word < atom_words a → option_map (λ (k : WordKind). k.width) (slice_get (atom_kinds a) word) ≡ None → ⊥
width_there a word h none =
    let kinds : List WordKind = atom_kinds a in
    let unknown : WordKind = record { signed = false; width = 0 } in
    let found : slice_get kinds word ≡ Some (get_or kinds word unknown) = slice_get-get_or kinds word unknown (omega (arith, length-atom_kinds a)) in
    let is : option_map (λ (k : WordKind). k.width) (slice_get kinds word) ≡ Some (get_or kinds word unknown).width = ap
    (option_map (λ (k : WordKind). k.width)) found in
    cc

-- ---- steps of the loops

pub lane_more : (a b c : Circuit) (x y z : List NetId) (at : ℕ → Port) (ws : List ℕ) (j w : ℕ) (net : NetId) → slice_get ws j ≡ Some w
    → c ≡ record b { cells = b.cells ++ input_cell (sized_port (at j) w) ∷ [] }
    → net ≡ record { 0 = length b.cells } → z ≡ y ++ net ∷ [] → AddsInputs a b x y (word_ports at 0 (take j ws))
    → AddsInputs a c x z (word_ports at 0 (take (j + 1) ws))
lane_more a b c x y z at ws j w net found made is pushed was =
    rw (word_ports_more at ws j w (slice_get_within ws j w found) (get_or_from_slice_get ws j w 0 found))
    (inputs_trans was (inputs_one b c y z net (sized_port (at j) w) made is pushed))

pub lanes_more : (a b c : Circuit) (x y z : List NetId) (at : ℕ → ℕ → Port) (ws vs : List ℕ) (l : ℕ) → vs ≡ ws → AddsInputs a b x y (lane_ports at ws l)
    → AddsInputs b c y z (word_ports (at l) 0 vs) → AddsInputs a c x z (lane_ports at ws (l + 1))
lanes_more a b c x y z at ws vs l same was one =
    let now : AddsInputs b c y z (word_ports (at l) 0 ws) = subst (λ (us : List ℕ). AddsInputs b c y z (word_ports (at l) 0 us)) same one in
    rw add-one (inputs_trans was now)

-- where parameters of these layouts stand
abbrev pub layout_streams : List StType → List Stream
layout_streams ls = streams_of (st_trees ls)

pub streams_more : (ls : List StType) (k : ℕ) (t : StType) → slice_get ls k ≡ Some t → layout_streams (take (k + 1) ls) ≡ layout_streams (take k ls)
    ++ stream_of (st_tree t) ∷ []
streams_more ls k t found =
    ap layout_streams (take_more ls k t (slice_get_within ls k t found))
    ∙ (ap (λ (u : StType). layout_streams (take k ls ++ u ∷ [])) (get_or_from_slice_get ls k t t found)
    ∙ (ap (map stream_of) (map_push st_tree (take k ls) t) ∙ map_push stream_of (st_trees (take k ls)) (st_tree t)))

length-layout_streams : (ls : List StType) (k : ℕ) → k ≤ length ls → length (layout_streams (take k ls)) ≡ k
length-layout_streams ls k h = length-map (st_trees (take k ls)) stream_of ∙ (length-map (take k ls) st_tree ∙ length-take-le k ls h)

abbrev AtParam : ℕ → ℕ → ℕ → Port
AtParam param lane word = In param lane word

-- the inputs of one more parameter
ports_more : (ls : List StType) (k : ℕ) (t : StType) → slice_get ls k ≡ Some t
    → input_ports (layout_streams (take (k + 1) ls)) ≡ input_ports (layout_streams (take k ls)) ++ stream_ports (In k) (stream_of (st_tree t))
ports_more ls k t found =
    let h : k < length ls = slice_get_within ls k t found in
    let long : 0 + length (layout_streams (take k ls)) ≡ k = omega (arith, length-layout_streams ls k (omega arith)) in
    ap input_ports (streams_more ls k t found)
    ∙ (ports_from_push AtParam 0 (layout_streams (take k ls)) (stream_of (st_tree t)) ∙
    ap (λ n. input_ports (layout_streams (take k ls)) ++ stream_ports (AtParam n) (stream_of (st_tree t))) long)

abbrev pub HasParams : (a b : Circuit) (ls : List StType) → (k : ℕ) → Type 0
HasParams a b ls k = b ≡ record a { cells = a.cells ++ map input_cell (input_ports (layout_streams (take k ls))) }

pub params_more : (a b c : Circuit) (ls : List StType) (k : ℕ) (t : StType) (bundle : List NetId) → slice_get ls k ≡ Some t → HasParams a b ls k
    → AddsInputs b c [] bundle (stream_ports (In k) (stream_of (st_tree t))) → HasParams a c ls (k + 1)
params_more a b c ls k t bundle found was one =
    rw (ports_more ls k t found) (both_cells a b c (input_ports (layout_streams (take k ls))) (stream_ports (In k) (stream_of (st_tree t))) was one.cells)

pub bundles_more : (a b c : Circuit) (ls : List StType) (k : ℕ) (t : StType) (bundle : List NetId) (old new : List (List NetId)) → slice_get ls k ≡ Some t
    → HasParams a b ls k → AddsInputs b c [] bundle (stream_ports (In k) (stream_of (st_tree t)))
    → new ≡ old ++ bundle ∷ [] → old ≡ bundles_from (length a.cells) (layout_streams (take k ls))
    → new ≡ bundles_from (length a.cells) (layout_streams (take (k + 1) ls))
bundles_more a b c ls k t bundle old new found was one pushed olds =
    let before : List Stream = layout_streams (take k ls) in
    let s : Stream = stream_of (st_tree t) in
    let long : length b.cells ≡ length a.cells + length (input_ports before) =
    ap (λ (n : Circuit). length n.cells) was ∙ (length-append a.cells (map input_cell (input_ports before)) ∙
    ap (λ n. length a.cells + n) (length-map (input_ports before) input_cell)) in
    let is : bundle ≡ nets_from (length a.cells + length (input_ports before)) (length (stream_widths s)) =
    one.nets ∙ (ap (λ n. nets_from n (length (stream_ports (In k) s))) long ∙
    ap (nets_from (length a.cells + length (input_ports before))) (length-stream_ports (In k) s)) in
    pushed ∙ (ap (λ bs. bs ++ bundle ∷ []) olds
    ∙ (ap (λ (ns : List NetId). bundles_from (length a.cells) before ++ ns ∷ []) is
    ∙ (sym (bundles_from_push (length a.cells) AtParam 0 before s) ∙ ap (bundles_from (length a.cells)) (sym (streams_more ls k t found)))))

-- a parameter has at most as many inputs as a type has words
pub params_most : (b c : Circuit) (k : ℕ) (t : StType) (bundle : List NetId) → IsInSize (st_tree t)
    → AddsInputs b c [] bundle (stream_ports (In k) (stream_of (st_tree t))) → length c.cells ≤ length b.cells + 16384
params_most b c k t bundle size one =
    let s : Stream = stream_of (st_tree t) in
    let lanes : lanes (st_tree t) * length s.widths ≡ lanes (st_tree t) * element_words (st_tree t) = ap (λ n. lanes (st_tree t) * n)
    (widths_long (st_tree t)) in
    omega (arith, inputs_long one, length-lane_ports (In k) s.widths s.lanes, lanes, columns_small (st_tree t) size)
