-- What the schedule of a movement program gives: an instance that moves words, each of whose items could be moved straight from the parameters.
use Rattle.std.proofs.Common.{◌≡◌, ℕ, zero, suc, ◌+◌, ◌-◌, ◌/◌, ◌%◌, ◌<◌, ◌≤◌, List, [], ◌∷◌, length, take, map, Some, slice_get, refl, arith, sym, ap, ◌∙◌, subst, length-append}
use Rattle.std.specs.Prelude.{true, nat_lt, if◌then◌else◌}
use Rattle.std.specs.List.{range_with_len}
use Rattle.std.proofs.lemmas.List.{length-map}
use Rattle.std.proofs.lemmas.List.FromFn.{length-range_with_len}
use Rattle.std.proofs.lemmas.Option.{same_Some, slice_get_within}
use Rattle.ae_word.specs.AtomTree.{atom_words}
use Rattle.ae_seqtype.specs.SeqTree.{SeqTree, atom_of, words}
use Rattle.ae_seqtype.specs.ValueTree.{ValueTree, flat, value_of}
use Rattle.ae_seqtype.proofs.Values.{flat-value_of}
use Rattle.ae_seq.specs.ProgramTree.{FuncTree, ParamTree, ProgramTree}
use Rattle.ae_seq.specs.Typing.{param_types}
use Rattle.ae_seq.specs.Meaning.{at, item_values}
use Rattle.ae_sttype.specs.StTree.{StTree, element_words}
use Rattle.ae_sttype.specs.Moves.{OriginTree, from_input}
use Rattle.ae_moves.specs.Origins.{IsMove, Move}
use Rattle.ae_eval.specs.Stack.{IsTyped, types_in}
use Rattle.ae_rewrite.specs.Interface.{main_of, parameter_types, types_in as some_types}
use Rattle.ae_rewrite.specs.LayoutRule.{lay_of}
use Rattle.ae_rewrite.specs.Scheduled.{HasKey, IsSchedule, node_layouts, param_layouts}
use Rattle.ae_rewrite.specs.Sound.{IsSound, item_layout, item_layouts}
use Rattle.ae_rewrite.specs.StProgramTree.{StFuncTree, StNodeTree}
use Rattle.ae_rewrite.proofs.Forms.{formed-of}
use Rattle.ae_rewrite.proofs.Laid.{laid_in_size}
use Rattle.ae_delay.proofs.Instances.{all_items}
use Rattle.ae_flow.specs.Flow.{item_words, layout_words, words_at}
use Rattle.ae_flow.specs.Fitted.{AreFitted}
use Rattle.ae_flow.proofs.Placed.{as_many, item_count_is, typed_item}
use Rattle.ae_eval.proofs.Starting.{count-items}
use Rattle.ae_trace.specs.Traces.{is_movement, numbered, origin_at, origin_numbered}
use Rattle.ae_trace.proofs.Natural.{map-map, map-same}
use Rattle.ae_trace.proofs.Laying.{is-laid}
use Rattle.ae_trace.proofs.Typed.{AreLaid, are-laid}
use Rattle.ae_fuse.specs.Labels.{MovesWords, labelled_origin, layout_numbers, layout_origin}
use Rattle.ae_fuse.specs.Costing.{item_move}
use Rattle.ae_fuse.specs.Moved.{own_move}
use Rattle.ae_fuse.proofs.Words.{index-flat}
use Rattle.ae_fuse.proofs.Labels.{IsMain, all-labels, moving}
use Rattle.ae_fuse.proofs.Moves.{is-move}
use Rattle.ae_fuse.proofs.Main.{is-main}

-- ---- numbers by types are numbers by layouts

numbers-are : (slowdown k : ℕ) (ts : List SeqTree) (ss : List StTree) → AreLaid slowdown ts ss → layout_numbers k ss ≡ map flat (numbered k ts)
numbers-are slowdown k [] [] h = refl
numbers-are slowdown k [] (s ∷ ss) h = absurd h
numbers-are slowdown k (t ∷ ts) [] h = absurd h
numbers-are slowdown k (t ∷ ts) (s ∷ ss) h =
    let e : layout_words s ≡ words t = sym h.0.words in
    let own : flat (value_of t (range_with_len k (words t))) ≡ range_with_len k (words t) = flat-value_of t (range_with_len k (words t))
    (length-range_with_len k (words t)) in
    (λ i. range_with_len k (e i) ∷ layout_numbers (k + e i) ss) ∙ (λ i. sym own i ∷ numbers-are slowdown (k + words t) ts ss h.1 i)

origins-at : (slowdown i : ℕ) (ts : List SeqTree) (ss : List StTree) (n : ℕ) → AreLaid slowdown ts ss → origin_at i ts n ≡ layout_origin i ss n
origins-at slowdown i [] [] n h = refl
origins-at slowdown i [] (s ∷ ss) n h = absurd h
origins-at slowdown i (t ∷ ts) [] n h = absurd h
origins-at slowdown i (t ∷ ts) (s ∷ ss) n h =
    let e : words t ≡ layout_words s = h.0.words in
    let c : atom_words (atom_of t) ≡ element_words s = ap atom_words (sym h.0.laid.atom) in
    let rest = origins-at slowdown (i + 1) ts ss (n - words t) h.1 in
    ap (λ x. if nat_lt n (words t) then from_input i (n / atom_words (atom_of t)) (n % atom_words (atom_of t)) else x) rest
    ∙ (λ j. if nat_lt n (e j) then from_input i (n / c j) (n % c j) else layout_origin (i + 1) ss (n - e j))

origins-are : (slowdown : ℕ) (ts : List SeqTree) (ss : List StTree) (label : ℕ) → AreLaid slowdown ts ss → origin_numbered ts label ≡ labelled_origin ss label
origins-are slowdown ts ss zero h = refl
origins-are slowdown ts ss (suc n) h = origins-at slowdown 0 ts ss n h

-- ---- the instance of the program function

module _ (p : ProgramTree) (slowdown : ℕ) (instances : List StFuncTree) (f : FuncTree) (s : StFuncTree) (moves : is_movement p ≡ true) (typed : IsTyped p)
    (h : IsSchedule p slowdown instances)
    (there : slice_get p.funcs (main_of p) ≡ Some f) (last : slice_get instances (length instances - 1) ≡ Some s) (some : 0 < slowdown)
    (few : slowdown ≤ 4096) where
  main : IsMain p instances f s
  main = is-main p slowdown instances f s moves typed h there last

  budget : s.budget ≡ slowdown
  budget = ap (λ (x : StFuncTree). x.budget) (same_Some s h.last.instance (sym last ∙ h.last.here)) ∙ h.last.is_budget

  same-func : main.instance.of ≡ f
  same-func = same_Some main.instance.of f (sym main.instance.known ∙ ap (slice_get p.funcs) main.is_main ∙ there)

  few-ins : length s.ins ≤ 8
  few-ins =
      let count : length s.ins ≡ length main.instance.of.params = as_many s.budget main.instance.of.params s.ins main.instance.ins in
      let form = formed-of p s.func main.instance.of typed.is_formed main.instance.known in
      omega (arith, count, form.few_params)

  pub moves-words : IsSound instances → AreFitted instances → MovesWords s
  moves-words sound fitted =
      let own = sound.each (length instances - 1) s last in
      record {
        moving = moving p instances f s main;
        few = few-ins;
        before = take (length instances - 1) instances;
        fits = λ j n found. fitted.each (length instances - 1) j s n last found;
        args = λ j i a n found at.
            (let a_low = (own.nodes j n found).args i a at in
            let low = slice_get_within s.nodes j n found in
            omega (
              arith,
              a_low,
              low,
              length-append s.ins (node_layouts (take j s.nodes)),
              length-map (take j s.nodes) (λ (m : StNodeTree). m.type),
              length-taken j s.nodes (omega (arith, low)),
            ));
        sizes = λ i low. (all_items (length instances - 1) s own i low).size;
      }
    where
      length-taken : (j : ℕ) (ns : List StNodeTree) → j ≤ length ns → length (take j ns) ≡ j
      length-taken zero ns e = refl
      length-taken (suc j) [] e = absurd (omega arith)
      length-taken (suc j) (n ∷ ns) e = ap suc (length-taken j ns (omega arith))

  types-same : parameter_types p ≡ param_types f
  types-same = ap some_types there

  lays : map (λ t. lay_of t slowdown) (param_types f) ≡ map (λ (x : StTree). Some x) s.ins
  lays = map-map (λ t. lay_of t slowdown) (λ (q : ParamTree). q.type) f.params ∙ (λ i. param_layouts (sym budget i) (sym same-func i).params) ∙
      main.instance.ins

  laid : AreLaid slowdown (param_types f) s.ins
  laid = are-laid slowdown some (param_types f) s.ins main.sized lays

  -- the values and the labels of the items
  abbrev values : List ValueTree
  values = item_values [] f (numbered 1 (param_types f))

  abbrev labels : List (List ℕ)
  labels = item_words [] s (layout_numbers 1 s.ins)

  labels-are : labels ≡ map flat values
  labels-are = ap (item_words [] s) (numbers-are slowdown 1 (param_types f) s.ins laid) ∙ all-labels p instances f s main

  pub words-are : (i : ℕ) → words_at labels i ≡ flat (at values i)
  words-are i = ap (λ xs. words_at xs i) labels-are ∙ index-flat values i

  pub items-are : (i : ℕ) → item_move f s i ≡ own_move s labels i
  items-are i =
      let os : map (origin_numbered (param_types f)) (flat (at values i)) ≡ map (labelled_origin s.ins) (words_at labels i) =
      map-same (origin_numbered (param_types f)) (labelled_origin s.ins) (flat (at values i)) (λ l. origins-are slowdown (param_types f) s.ins l laid)
      ∙ ap (map (labelled_origin s.ins)) (sym (words-are i)) in
      ap (λ (xs : List OriginTree). (let m : Move = record { ins = s.ins; out = item_layout (item_layouts s) i; origins = xs } in m)) os

  pub item-is-move : (i : ℕ) → i < length (item_layouts s) → IsMove (own_move s labels i)
  item-is-move i low =
      let long : length (item_layouts s) ≡ length (types_in p s.func) =
      item_count_is p (HasKey (take (length instances - 1) instances)) s main.instance ∙
      sym (count-items p s.func main.instance.of typed main.instance.known) in
      let t = entry (types_in p s.func) i (omega (arith, long)) in
      let own = typed_item p (HasKey (take (length instances - 1) instances)) s main.instance i t.0 typed t.1 low in
      let lay : lay_of t.0 slowdown ≡ Some (item_layout (item_layouts s) i) = ap (lay_of t.0) (sym budget) ∙ own.laid in
      let whole : map (λ t. lay_of t slowdown) (parameter_types p) ≡ map (λ (x : StTree). Some x) s.ins = ap (map (λ t. lay_of t slowdown)) types-same ∙ lays in
      let made = is-move p slowdown instances f s main s.ins some few types-same whole i t.0 t.1 (item_layout (item_layouts s) i)
      (is-laid t.0 slowdown (item_layout (item_layouts s) i) own.sized some lay)
      (laid_in_size t.0 slowdown (item_layout (item_layouts s) i) own.sized some few lay) in
      let same : map (origin_numbered (parameter_types p)) (flat (at values i)) ≡ map (origin_numbered (param_types f)) (flat (at values i)) = ap
      (λ ts. map (origin_numbered ts) (flat (at values i))) types-same in
      let there_is : IsMove (item_move f s i) = subst (λ (os : List OriginTree). IsMove
      (record { ins = s.ins; out = item_layout (item_layouts s) i; origins = os })) same made in
      subst IsMove (items-are i) there_is
    where
      entry : (us : List SeqTree) (i : ℕ) → i < length us → (t : SeqTree) × (slice_get us i ≡ Some t)
      entry [] i h = absurd (omega arith)
      entry (u ∷ us) zero h = (u, refl)
      entry (u ∷ us) (suc i) h = entry us i (omega arith)
