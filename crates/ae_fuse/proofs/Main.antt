-- The laws of traces.
use Rattle.std.proofs.Common.{◌≡◌, ℕ, zero, suc, ◌-◌, ◌<◌, ◌≤◌, List, [], ◌∷◌, length, map, Option, None, Some, IsTrue, slice_get, refl, sym, ap, ◌∙◌, subst}
use Rattle.std.specs.Prelude.{true}
use Rattle.std.proofs.lemmas.Option.{none-some, same_Some, option_and_then_some}
use Rattle.ae_seqtype.specs.SeqTree.{SeqTree, in_size}
use Rattle.ae_sttype.specs.StTree.{StTree}
use Rattle.ae_sttype.specs.Moves.{greatest}
use Rattle.ae_moves.specs.Origins.{IsMove, move_latency}
use Rattle.ae_rewrite.specs.Sound.{item_layout, item_layouts}
use Rattle.ae_seq.specs.Typing.{◌>>=◌, type_at, param_types}
use Rattle.ae_eval.specs.Stack.{types_in as all_types}
use Rattle.ae_eval.proofs.Typing.{type-at-is}
use Rattle.ae_rewrite.specs.LayoutRule.{lay_of}
use Rattle.ae_rewrite.proofs.Laid.{laid_in_size}
use Rattle.ae_trace.proofs.Natural.{has-meaning}
use Rattle.ae_trace.proofs.Sized.{type_sized}
use Rattle.ae_trace.proofs.Laying.{is-laid}
use Rattle.ae_seq.specs.ProgramTree.{FuncTree, ProgramTree}
use Rattle.ae_eval.specs.Stack.{IsTyped}
use Rattle.ae_seqtype.specs.ValueTree.{ValueTree, flat}
use Rattle.ae_seq.specs.Meaning.{at, item_values}
use Rattle.ae_flow.specs.Flow.{item_words}
use Rattle.ae_rewrite.specs.StProgramTree.{StFuncTree}
use Rattle.ae_rewrite.specs.Interface.{HaveLayouts, main_of, parameter_types, types_in, result_types, results_in}
use Rattle.ae_rewrite.specs.Scheduled.{IsSchedule}
use Rattle.ae_trace.specs.Traces.{numbered, is_movement, is_movement_func, are_movements, trace, traced_move, traced_moves}
use Rattle.ae_trace.proofs.Typed.{are-laid, param-sized, mapped-from}
use Rattle.ae_fuse.specs.Costing.{item_move}
use Rattle.ae_fuse.specs.Laws.{LabelsAreTraced, LatencyIsLeast, TracedMoves, TracedWords}
use Rattle.ae_fuse.proofs.Words.{words-by-trace}
use Rattle.ae_fuse.proofs.Flowing.{none-before}
use Rattle.ae_fuse.proofs.Labels.{IsMain, all-labels, items-known}
use Rattle.ae_fuse.proofs.Moves.{traced, pair-at, is-move}

pub traced-words : TracedWords
traced-words p slowdown ins outs vs moves typed some layouts values r s found =
    words-by-trace p slowdown ins vs moves (are-laid slowdown some (parameter_types p) ins
    (λ i t f. param-sized p typed.accepted (slice_get p.funcs (main_of p)) refl i t f) layouts.parameters) values r

pub is-main : (p : ProgramTree) (slowdown : ℕ) (instances : List StFuncTree) (f : FuncTree) (s : StFuncTree) → is_movement p ≡ true → IsTyped p
    → IsSchedule p slowdown instances
    → slice_get p.funcs (main_of p) ≡ Some f → slice_get instances (length instances - 1) ≡ Some s → IsMain p instances f s
is-main p slowdown instances f s moves typed h there last =
    let own : are_movements f.nodes ≡ true = sym (ap is_movement_func there) ∙ moves in
    let same : h.last.instance ≡ s = same_Some h.last.instance s (sym h.last.here ∙ last) in
    record {
      typed = typed;
      there = there;
      moves = own;
      sized = λ i t g. param-sized p typed.accepted (Some f) there i t g;
      instance = h.right (length instances - 1) s last;
      alone = none-before p slowdown f there own instances h;
      is_main = sym (ap (λ (x : StFuncTree). x.func) same) ∙ h.last.is_func;
    }

pub labels-are-traced : LabelsAreTraced
labels-are-traced p slowdown instances f s moves typed h there last =
    subst (λ ts. item_words [] s (map flat (numbered 1 ts)) ≡ map flat (item_values [] f (numbered 1 ts))) (sym (ap types_in there))
    (all-labels p instances f s (is-main p slowdown instances f s moves typed h there last))

func-there : (o : Option FuncTree) → is_movement_func o ≡ true → (f : FuncTree) × (o ≡ Some f)
func-there None h = absurd (cc)
func-there (Some f) h = (f, refl)

module _ (p : ProgramTree) (slowdown : ℕ) (instances : List StFuncTree) (ins outs : List StTree) (moves : is_movement p ≡ true) (typed : IsTyped p)
    (h : IsSchedule p slowdown instances)
    (some : 0 < slowdown) (few : slowdown ≤ 4096) (layouts : HaveLayouts p slowdown ins outs) (r : ℕ) (s : StTree) (found : slice_get outs r ≡ Some s) where
  main_func : (f : FuncTree) × (slice_get p.funcs (main_of p) ≡ Some f)
  main_func = func-there (slice_get p.funcs (main_of p)) moves

  abbrev g : FuncTree
  g = main_func.0

  instance_is : IsMain p instances g h.last.instance
  instance_is = is-main p slowdown instances g h.last.instance moves typed h main_func.1 h.last.here

  abbrev laying : Option SeqTree → Option StTree
  laying o = o >>= λ t. lay_of t slowdown

  result_pair : (o : Option SeqTree) × (slice_get (result_types p) r ≡ Some o) × (laying o ≡ Some s)
  result_pair = pair-at laying (result_types p) outs layouts.results r s found

  result_item : (i : ℕ) × (slice_get (results_in (slice_get p.funcs (main_of p))) r ≡ Some i) × (type_at p (main_of p) i ≡ result_pair.0)
  result_item = mapped-from (type_at p (main_of p)) (results_in (slice_get p.funcs (main_of p))) r result_pair.0 result_pair.1

  -- the trace of the result is that of its item
  traced-item : at (trace p) r ≡ traced p instances g h.last.instance instance_is result_item.0
  traced-item =
      let m = has-meaning p moves in
      let same : m.func ≡ g = same_Some m.func g (sym m.there ∙ main_func.1) in
      let types_same : parameter_types p ≡ param_types g = ap types_in main_func.1 in
      let numbers : List ValueTree = numbered 1 (parameter_types p) in
      let results : slice_get g.results r ≡ Some result_item.0 = ap (λ o. slice_get (results_in o) r) (sym main_func.1) ∙ result_item.1 in
      ap (λ vs. at vs r) (m.means numbers)
      ∙ ap (λ (f : FuncTree). at (map (at (item_values m.known f numbers)) f.results) r) same
      ∙ at-mapped (at (item_values m.known g numbers)) g.results r result_item.0 results
      ∙ ap (λ vs. at vs result_item.0) (items-known m.known [] numbers g.nodes instance_is.moves)
      ∙ ap (λ ts. at (item_values [] g (numbered 1 ts)) result_item.0) types_same
    where
      at-mapped : (f : ℕ → ValueTree) (xs : List ℕ) (k x : ℕ) → slice_get xs k ≡ Some x → at (map f xs) k ≡ f x
      at-mapped f [] k x e = absurd (none-some x e)
      at-mapped f (y ∷ xs) zero x e = ap f (same_Some y x e)
      at-mapped f (y ∷ xs) (suc k) x e = at-mapped f xs k x e

  move-of-result : IsMove (traced_move (parameter_types p) ins s (at (trace p) r))
  move-of-result = option_and_then_some (λ t. lay_of t slowdown) result_pair.0 s result_pair.2 (λ t is lay.
      let type : type_at p (main_of p) result_item.0 ≡ Some t = result_item.2 ∙ is in
      let sized : IsTrue (in_size t) = type_sized p (main_of p) result_item.0 t typed.accepted type in
      let own = is-laid t slowdown s sized some lay in
      let at_item : slice_get (all_types p h.last.instance.func) result_item.0 ≡ Some t =
      ap (λ k. slice_get (all_types p k) result_item.0) instance_is.is_main ∙ sym (type-at-is p (main_of p) result_item.0 typed) ∙ type in
      let made = is-move p slowdown instances g h.last.instance instance_is ins some few
      (ap types_in main_func.1) layouts.parameters result_item.0 t at_item s own (laid_in_size t slowdown s sized some few lay) in
      subst (λ v. IsMove (traced_move (parameter_types p) ins s v)) (sym traced-item) made)

pub traced-moves : TracedMoves
traced-moves p slowdown instances ins outs moves typed h some few layouts r s found =
    move-of-result p slowdown instances ins outs moves typed h some few layouts r s found

-- ---- the latency

moves-same : (ts : List SeqTree) (ins : List StTree) (layout : ℕ → StTree) (value : ℕ → ValueTree) (results : List ℕ)
    → traced_moves ts ins (map layout results) (map value results) ≡ map (λ i. traced_move ts ins (layout i) (value i)) results
moves-same ts ins layout value [] = refl
moves-same ts ins layout value (i ∷ is) = ap (λ ms. traced_move ts ins (layout i) (value i) ∷ ms) (moves-same ts ins layout value is)

-- the moves of the traced results are those of their items
pub moves-traced : (p : ProgramTree) (slowdown : ℕ) (instances : List StFuncTree) (f : FuncTree) (s : StFuncTree) → is_movement p ≡ true → IsTyped p
    → IsSchedule p slowdown instances
    → slice_get p.funcs (main_of p) ≡ Some f → slice_get instances (length instances - 1) ≡ Some s
    → traced_moves (parameter_types p) s.ins (map (item_layout (item_layouts s)) s.results) (trace p) ≡ map (item_move f s) f.results
moves-traced p slowdown instances f s moves typed h there last =
    let m = is-main p slowdown instances f s moves typed h there last in
    let k = has-meaning p moves in
    let same : k.func ≡ f = same_Some k.func f (sym k.there ∙ there) in
    let types_same : parameter_types p ≡ param_types f = ap types_in there in
    let func_same : m.instance.of ≡ f = same_Some m.instance.of f (sym m.instance.known ∙ ap (slice_get p.funcs) m.is_main ∙ there) in
    let results_same : s.results ≡ f.results = m.instance.results ∙ ap (λ (g : FuncTree). g.results) func_same in
    let layout : ℕ → StTree = item_layout (item_layouts s) in
    let value : ℕ → ValueTree = λ i. at (item_values [] f (numbered 1 (param_types f))) i in
    let traced_is : trace p ≡ map value f.results =
    k.means (numbered 1 (parameter_types p))
    ∙ ap (λ (g : FuncTree). map (at (item_values k.known g (numbered 1 (parameter_types p)))) g.results) same
    ∙ ap (λ vs. map (at vs) f.results) (items-known k.known [] (numbered 1 (parameter_types p)) f.nodes m.moves)
    ∙ ap (λ ts. map (at (item_values [] f (numbered 1 ts))) f.results) types_same in
    (λ i. traced_moves (types_same i) s.ins (map layout (results_same i)) (traced_is i)) ∙ moves-same (param_types f) s.ins layout value f.results

pub latency-is-least : LatencyIsLeast
latency-is-least p slowdown instances f s moves typed h there last =
    sym (ap (greatest move_latency) (moves-traced p slowdown instances f s moves typed h there last))
