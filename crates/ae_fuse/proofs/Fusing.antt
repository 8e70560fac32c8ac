-- From an instance that can be moved to its fused program, and from there to the program.
use Rattle.std.proofs.Common.{◌≡◌, Vec, Global, ℕ, suc, ◌+◌, ◌-◌, ◌<◌, ◌≤◌, List, [], ◌∷◌, length, take, map, Option, None, Some, IfSome, slice_get, refl, arith, sym, ap, ◌∙◌, subst, length-append}
use Rattle.std.specs.Prelude.{true}
use Rattle.std.specs.List.{range_with_len}
use Rattle.std.proofs.lemmas.List.{get_or_append_left, length-map}
use Rattle.std.proofs.lemmas.Option.{get_or_from_slice_get, same_Some, slice_get_within, unwrap_or-slice_get}
use Rattle.ae_word.specs.AtomTree.{unsigned_word}
use Rattle.ae_sttype.specs.declared.st_type.StType.{StType}
use Rattle.ae_sttype.specs.StTree.{StTree, atom, sseq, st_tree}
use Rattle.ae_sttype.specs.Size.{IsInSize}
use Rattle.ae_moves.specs.Origins.{IsMove, Move, move_latency}
use Rattle.ae_moves.proofs.Lists.{get_mapped}
use Rattle.ae_seq.specs.ProgramTree.{FuncTree, ProgramTree}
use Rattle.ae_seq.specs.Typing.{param_types}
use Rattle.ae_seq.specs.Meaning.{at, item_values}
use Rattle.ae_seqtype.specs.ValueTree.{ValueTree, flat}
use Rattle.ae_eval.specs.Stack.{IsTyped}
use Rattle.ae_eval.proofs.Starting.{count-items}
use Rattle.ae_rewrite.specs.Interface.{main_of, parameter_types}
use Rattle.ae_rewrite.specs.Scheduled.{HasKey, IsSchedule, node_layouts}
use Rattle.ae_rewrite.specs.Sound.{IsSound, item_layout, item_layouts}
use Rattle.ae_rewrite.specs.StProgramTree.{StFuncTree, st_trees}
use Rattle.ae_flow.specs.Flow.{words_at}
use Rattle.ae_flow.specs.Fitted.{AreFitted}
use Rattle.ae_flow.proofs.Placed.{item_count_is}
use Rattle.ae_delay.specs.declared.own.OwnCosts.{OwnCosts}
use Rattle.ae_trace.specs.Traces.{is_movement, least, numbered, trace, traced_move, traced_moves}
use Rattle.ae_trace.specs.Certificates.{IsCertificate}
use Rattle.ae_trace.proofs.Typed.{mapped-from}
use Rattle.ae_results.specs.declared.certificate.Certificate.{Certificate}
use Rattle.ae_results.specs.declared.result.FusedResult.{FusedResult}
use Rattle.ae_fuse.specs.Labels.{labelled_origin}
use Rattle.ae_results.specs.Certified.{IsFirstOf, certificate_tree}
use Rattle.ae_fuse.specs.Costing.{arrivals_from, fused_costing, fused_costs, item_move, moves_latency, result_moves}
use Rattle.ae_fuse.specs.Moved.{HaveResults, own_labels, own_move}
use Rattle.ae_results.specs.declared.costs.FusedCosts.{FusedCosts}
use Rattle.ae_fuse.specs.Slowdowns.{AreCostsUnder, AreLabels, told_costs}
use Rattle.ae_results.specs.Results.{result_move}
use Rattle.ae_fuse.specs.Fused.{FusedView, IsFusedBy, IsFusedOf, IsMovable, outs_of}
use Rattle.ae_fuse.proofs.Labels.{counts}
use Rattle.ae_results.proofs.Certifying.{is-certificate}
use Rattle.ae_fuse.proofs.NodeSteps.{map-along}
use Rattle.ae_fuse.proofs.Main.{is-main, moves-traced}
use Rattle.ae_fuse.proofs.Schedule.{item-is-move, items-are, moves-words, words-are}

abbrev none : StTree
none = sseq 0 (atom (unsigned_word 1))

module _ (s : StFuncTree) (h : IsMovable s) where
  pub sized-at : (xs : List StType) → st_trees xs ≡ s.ins → (k : ℕ) (t : StType) → slice_get xs k ≡ Some t → IsInSize (st_tree t)
  sized-at xs same k t found =
      let here : slice_get s.ins k ≡ Some (st_tree t) = ap (λ (ts : List StTree). slice_get ts k) (sym same) ∙ get_mapped st_tree xs k t found in
      let low : k < length s.ins = slice_get_within s.ins k (st_tree t) here in
      let is : item_layout (item_layouts s) k ≡ st_tree t = unwrap_or-slice_get (item_layouts s) k none ∙
      (get_or_append_left s.ins (node_layouts s.nodes) none k low ∙ get_or_from_slice_get s.ins k (st_tree t) none here) in
      subst IsInSize is (h.words.sizes k (omega (arith, low, length-append s.ins (node_layouts s.nodes))))

  pub few-at : (xs : List StType) → st_trees xs ≡ s.ins → length xs ≤ 8
  few-at xs same = omega (arith, h.words.few, ap length same, length-map xs st_tree)

  pub agree : (labels : List (List ℕ)) → HaveResults s labels → map (own_move s labels) s.results ≡ map (own_move s (own_labels s)) s.results
  agree labels have =
      map-along (own_move s labels) (own_move s (own_labels s)) s.results (λ r i found.
      (λ j. (let m : Move = record { ins = s.ins; out = item_layout (item_layouts s) i; origins = map (labelled_origin s.ins) (have.results r i found j) } in
      m)))

  pub result-at : (ins : List StTree) (rs : List FusedResult) → ins ≡ s.ins → map (result_move s.ins) rs ≡ map (own_move s (own_labels s)) s.results
      → (k : ℕ) (r : FusedResult) → slice_get rs k ≡ Some r → IsMove (result_move ins r)
  result-at ins rs same all k r found =
      let here : slice_get (map (own_move s (own_labels s)) s.results) k ≡ Some (result_move s.ins r) = ap (λ (ms : List Move). slice_get ms k) (sym all) ∙
      get_mapped (result_move s.ins) rs k r found in
      let m = mapped-from (own_move s (own_labels s)) s.results k (result_move s.ins r) here in
      let moves : IsMove (own_move s (own_labels s) m.0) = h.moves m.0 (h.results k m.0 m.1) in
      subst (λ (ts : List StTree). IsMove (result_move ts r)) (sym same) (subst IsMove m.2 moves)

  pub moves-at : (ins : List StTree) (rs : List FusedResult) → ins ≡ s.ins → map (result_move s.ins) rs ≡ map (own_move s (own_labels s)) s.results
      → map (result_move ins) rs ≡ map (own_move s (own_labels s)) s.results
  moves-at ins rs same all = (λ i. map (result_move (same i)) rs) ∙ all

  pub many-at : (rs : List FusedResult) → map (result_move s.ins) rs ≡ map (own_move s (own_labels s)) s.results → length rs ≡ length s.results
  many-at rs all = sym (length-map rs (result_move s.ins)) ∙ ap length all ∙ length-map s.results (own_move s (own_labels s))

  -- the moves of the results, by labels that have them
  pub made-by : (labels given : List (Vec ℕ Global)) (rs : List FusedResult) → HaveResults s (map (λ (w : Vec ℕ Global). w.items) labels) → given ≡ labels
      → map (result_move s.ins) rs ≡ map (own_move s (map (λ (w : Vec ℕ Global). w.items) given)) s.results
      → map (result_move s.ins) rs ≡ map (own_move s (own_labels s)) s.results
  made-by labels given rs have same made =
      made ∙ ap (λ (ws : List (Vec ℕ Global)). map (own_move s (map (λ (w : Vec ℕ Global). w.items) ws)) s.results) same ∙
      agree (map (λ (w : Vec ℕ Global). w.items) labels) have

-- ---- the program

arrivals-same : (f : FuncTree) (s : StFuncTree) (k : ℕ) (vs : List ValueTree) (all : List ValueTree) → ((i : ℕ) → at all (k + i) ≡ at vs i)
    → arrivals_from f s k vs ≡ map (λ i. move_latency (traced_move (param_types f) s.ins (item_layout (item_layouts s) i) (at all i)))
    (range_with_len k (length vs))
arrivals-same f s k [] all h = refl
arrivals-same f s k (v ∷ vs) all h =
    let z : k + 0 ≡ k = omega arith in
    let own : at all k ≡ v = ap (at all) (sym z) ∙ h 0 in
    (λ i. move_latency (traced_move (param_types f) s.ins (item_layout (item_layouts s) k) (sym own i))
    ∷ arrivals-same f s (k + 1) vs all (λ j. ap (at all) (let e : k + 1 + j ≡ k + suc j = omega arith in e) ∙ h (suc j)) i)

map-each : {X : Type 0} (f g : ℕ → X) (xs : List ℕ) → ((i : ℕ) → f i ≡ g i) → map f xs ≡ map g xs
map-each f g [] h = refl
map-each f g (x ∷ xs) h = λ i. h x i ∷ map-each f g xs h i

module _ (p : ProgramTree) (slowdown : ℕ) (instances : List StFuncTree) (f : FuncTree) (s : StFuncTree) (moves : is_movement p ≡ true) (typed : IsTyped p)
    (h : IsSchedule p slowdown instances)
    (there : slice_get p.funcs (main_of p) ≡ Some f) (last : slice_get instances (length instances - 1) ≡ Some s) (some : 0 < slowdown)
    (few : slowdown ≤ 4096) where
  pub movable : IsSound instances → AreFitted instances → IsMovable s
  movable sound fitted =
      let own = sound.each (length instances - 1) s last in
      record {
        words = moves-words p slowdown instances f s moves typed h there last some few sound fitted;
        moves = item-is-move p slowdown instances f s moves typed h there last some few;
        results = own.results;
        some_results = own.some_results;
        few_results = own.few_results;
      }

  same-results : s.results ≡ f.results
  same-results =
      let m = is-main p slowdown instances f s moves typed h there last in
      m.instance.results ∙ ap (λ (g : FuncTree). g.results) (same_Some m.instance.of f (sym m.instance.known ∙ ap (slice_get p.funcs) m.is_main ∙ there))

  own-moves : map (own_move s (own_labels s)) s.results ≡ result_moves f s
  own-moves = ap (map (own_move s (own_labels s))) same-results ∙
      sym (map-each (item_move f s) (own_move s (own_labels s)) f.results (items-are p slowdown instances f s moves typed h there last some few))

  counted : length (item_layouts s) ≡ length (item_values [] f (numbered 1 (param_types f)))
  counted =
      let m = is-main p slowdown instances f s moves typed h there last in
      item_count_is p (HasKey (take (length instances - 1) instances)) s m.instance ∙ sym (count-items p s.func m.instance.of typed m.instance.known) ∙
      sym (counts p instances f s m).1

  own-arrivals : map (λ i. move_latency (own_move s (own_labels s) i)) (range_with_len 0 (length (item_layouts s))) ≡ (fused_costing f s).arrivals
  own-arrivals =
      let vs : List ValueTree = item_values [] f (numbered 1 (param_types f)) in
      map-each (λ i. move_latency (own_move s (own_labels s) i)) (λ i. move_latency (item_move f s i)) (range_with_len 0 (length (item_layouts s)))
      (λ i. ap move_latency (sym (items-are p slowdown instances f s moves typed h there last some few i)))
      ∙ ap (λ n. map (λ i. move_latency (item_move f s i)) (range_with_len 0 n)) counted
      ∙ sym (arrivals-same f s 0 vs vs (λ i. ap (at vs) (let e : 0 + i ≡ i = omega arith in e)))

  -- the labels are those of the program
  labels-same : (i : ℕ) → words_at (own_labels s) i ≡ flat (at (item_values [] f (numbered 1 (param_types f))) i)
  labels-same i = words-are p slowdown instances f s moves typed h there last some few i

  pub are-labels : (ls : List (List ℕ)) → HaveResults s ls → AreLabels p ls
  are-labels ls have = record {
    movement = moves;
    func = f;
    there = there;
    many = have.many ∙ counted;
    results = λ r i found. have.results r i (ap (λ (xs : List ℕ). slice_get xs r) same-results ∙ found) ∙ labels-same i;
  }

  pub have-results : (ls : List (List ℕ)) → AreLabels p ls → HaveResults s ls
  have-results ls a =
      let same : f ≡ a.func = same_Some f a.func (sym there ∙ a.there) in
      record {
        many = a.many ∙ ap (λ (g : FuncTree). length (item_values [] g (numbered 1 (param_types g)))) (sym same) ∙ sym counted;
        results = λ r i found.
            (let here : slice_get a.func.results r ≡ Some i = ap (λ (g : FuncTree). slice_get g.results r) (sym same) ∙
            ap (λ (xs : List ℕ). slice_get xs r) (sym same-results) ∙ found in
            a.results r i here ∙ ap (λ (g : FuncTree). flat (at (item_values [] g (numbered 1 (param_types g))) i)) (sym same) ∙ sym (labels-same i));
      }

  pub costs-under : (c : FusedCosts) → told_costs c ≡ fused_costs (map (own_move s (own_labels s)) s.results) → AreCostsUnder p instances c
  costs-under c is = record { func = f; there = there; instance = s; last = last; are = is ∙ ap fused_costs own-moves }

  pub fused-of : (v : FusedView) → IsFusedBy s v → IsFusedOf p instances v
  fused-of v by = record {
    movement = moves;
    func = f;
    there = there;
    instance = s;
    last = last;
    ins = by.ins;
    moves = by.moves ∙ own-moves;
    arrivals = by.arrivals ∙ own-arrivals;
    costs = by.costs ∙ ap fused_costs own-moves;
    none = by.none;
    certificate = certified v.certificate by.certificate;
  }
    where
      certified : (o : Option Certificate) → IfSome o (λ c. IsFirstOf v.latency (map (own_move s (own_labels s)) s.results) c)
          → IfSome o (λ c. IsCertificate p s.ins (outs_of s) (certificate_tree c))
      certified None by_none = tt
      certified (Some c) first =
          let same : map (own_move s (own_labels s)) s.results ≡ traced_moves (parameter_types p) s.ins (outs_of s) (trace p) = own-moves ∙
          sym (moves-traced p slowdown instances f s moves typed h there last) in
          let latency : v.latency ≡ least p s.ins (outs_of s) = ap (λ (o : OwnCosts). o.latency) by.costs ∙ ap moves_latency same in
          is-certificate p s.ins (outs_of s) c latency same first
