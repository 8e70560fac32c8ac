-- How many words layouts have in a clock.
use Rattle.std.proofs.Common.{◌≡◌, ℕ, ◌+◌, ◌*◌, ◌<◌, ◌≤◌, List, [], ◌∷◌, ◌++◌, length, map, take, drop, Some, slice_get, sum_by, get_or, All, Option, refl, arith, ap, sym, ◌∙◌, subst}
use Rattle.std.proofs.lemmas.List.{drop_more, get_or-map, length-map, map-append, take_more}
use Rattle.std.proofs.lemmas.List.Sums.{sum_by-cons, sum_by_push}
use Rattle.ae_sttype.specs.declared.st_type.StType.{StType}
use Rattle.ae_sttype.specs.StTree.{StTree, st_tree, time, lanes, element_words}
use Rattle.ae_sttype.specs.Size.{IsInSize}
use Rattle.ae_sttype.specs.Moves.{columns_of}
use Rattle.std.proofs.lemmas.Option.{same_Some, slice_get-get_or}
use Rattle.ae_seq.specs.ProgramTree.{ProgramTree}
use Rattle.ae_seq.specs.Typing.{◌>>=◌}
use Rattle.ae_seqtype.specs.SeqTree.{SeqTree}
use Rattle.ae_eval.specs.Stack.{IsTyped}
use Rattle.ae_rewrite.specs.LayoutRule.{lay_of}
use Rattle.ae_rewrite.specs.StProgramTree.{StFuncTree}
use Rattle.ae_rewrite.specs.Scheduled.{IsFilling, IsInstance, IsSchedule}
use Rattle.ae_rewrite.specs.Sound.{IsSound, IsSoundFunc, item_layout, item_layouts}
use Rattle.ae_delay.proofs.Instances.{all_items}
use Rattle.ae_lower.specs.Circuits.{last_of, results_of}
use Rattle.ae_rewrite.specs.Interface.{HaveLayouts, main_of, parameter_types, result_types}
use Rattle.ae_lower.proofs.Blocks.{keys_of}
use Rattle.ae_lower.proofs.Layouts.{parameters_laid, results_laid}
use Rattle.ae_jobs.specs.RunTexts.{input_count, layout_columns, output_count}
use Rattle.ae_correct.proofs.Laid.{few_ins}
use Rattle.ae_compile.proofs.Modules.{few_columns}
use Rattle.ae_correct.proofs.Written.{unmapped}

pub counted_next : (xs : List StType) (i count wide : ℕ) (x : StType) → i < length xs → x ≡ get_or xs i x → wide ≡ columns_of (st_tree x) → wide ≤ 16384
    → count + sum_by columns_of (map st_tree (drop i xs)) ≡ sum_by columns_of (map st_tree xs) → count ≤ i * 16384
    → (count + wide + sum_by columns_of (map st_tree (drop (i + 1) xs)) ≡ sum_by columns_of (map st_tree xs)) × (count + wide ≤ (i + 1) * 16384)
counted_next xs i count wide x lt at is low e few =
    let split : drop i xs ≡ x ∷ drop (i + 1) xs = drop_more xs i x lt ∙ ap (λ y. y ∷ drop (i + 1) xs) (sym at) in
    let more : sum_by columns_of (map st_tree (x ∷ drop (i + 1) xs)) ≡ columns_of (st_tree x) + sum_by columns_of
    (map st_tree (drop (i + 1) xs)) = sum_by-cons columns_of (st_tree x) (map st_tree (drop (i + 1) xs)) in
    let whole : sum_by columns_of (map st_tree (drop i xs)) ≡ sum_by columns_of (map st_tree (x ∷ drop (i + 1) xs)) = ap
    (λ ys. sum_by columns_of (map st_tree ys)) split in
    (omega (arith, e, whole, more, is), omega (arith, few, low))

-- a layout more of those of some items
pub items_next : (f : ℕ → StTree) (items : List ℕ) (i count wide : ℕ) → i < length items → wide ≡ columns_of (f (get_or items i 0)) → wide ≤ 16384
    → count ≡ sum_by columns_of (map f (take i items)) → count ≤ i * 16384
    → (count + wide ≡ sum_by columns_of (map f (take (i + 1) items))) × (count + wide ≤ (i + 1) * 16384)
items_next f items i count wide lt is low e few =
    let more : map f (take (i + 1) items) ≡ map f (take i items) ++ f (get_or items i 0) ∷ [] = ap (map f) (take_more items i 0 lt) ∙
    map-append f (take i items) (get_or items i 0 ∷ []) in
    let sum : sum_by columns_of (map f (take (i + 1) items)) ≡ sum_by columns_of (map f (take i items)) + columns_of (f (get_or items i 0)) =
    ap (sum_by columns_of) more ∙ sum_by_push columns_of (map f (take i items)) (f (get_or items i 0)) in
    (omega (arith, e, sum, is), omega (arith, few, low))

-- the columns of a layout
pub columns_are : (own wide : ℕ) (x : StTree) → IsInSize x → own ≡ lanes x → wide ≡ element_words x → (own * wide ≡ columns_of x) × (own * wide ≤ 16384)
columns_are own wide x size eo ew =
    let product : own * wide ≡ columns_of x = λ k. eo k * ew k in
    (product, omega (arith, product, few_columns x size))

pub sized_at : (xs : List StType) (i : ℕ) (x : StType) → All IsInSize (map st_tree xs) → i < length xs → x ≡ get_or xs i x → IsInSize (st_tree x)
sized_at xs i x h lt e =
    let long : length (map st_tree xs) ≡ length xs = length-map xs st_tree in
    subst IsInSize (get_or-map st_tree xs i x (st_tree x) lt ∙ ap st_tree (sym e)) (h i (st_tree x) (omega (arith, long, lt)))

-- ---- the results of the program function

-- the instance of the program function
pub record IsMain (p : ProgramTree) (slowdown : ℕ) (instances : List StFuncTree) (s : StFuncTree) : Type 0 where
  pub is : IsInstance p (keys_of instances) s
  pub last : s.func ≡ main_of p
  pub budget : s.budget ≡ slowdown
  pub own : IsSoundFunc (last_of instances) s

pub main_is : (p : ProgramTree) (slowdown : ℕ) (instances : List StFuncTree) (s : StFuncTree) → IsSchedule p slowdown instances → IsSound instances
    → slice_get instances (last_of instances) ≡ Some s → IsMain p slowdown instances s
main_is p slowdown instances s h sound found =
    let key = h.last in
    let e : key.instance ≡ s = same_Some key.instance s (sym key.here ∙ found) in
    record {
      is = h.right (last_of instances) s found;
      last = subst (λ (x : StFuncTree). x.func ≡ main_of p) e key.is_func;
      budget = subst (λ (x : StFuncTree). x.budget ≡ slowdown) e key.is_budget;
      own = sound.each (last_of instances) s found;
    }

pub columns_some : (ss : List StTree) → sum_by layout_columns (map (λ (x : StTree). Some x) ss) ≡ sum_by columns_of ss
columns_some [] = refl
columns_some (s ∷ ss) =
    let a : sum_by layout_columns (Some s ∷ map (λ (x : StTree). Some x) ss) ≡ columns_of s + sum_by layout_columns
    (map (λ (x : StTree). Some x) ss) = sum_by-cons layout_columns (Some s) (map (λ (x : StTree). Some x) ss) in
    let b : sum_by columns_of (s ∷ ss) ≡ columns_of s + sum_by columns_of ss = sum_by-cons columns_of s ss in
    omega (arith, a, b, columns_some ss)

pub results_counted : (p : ProgramTree) (slowdown : ℕ) (instances : List StFuncTree) (s : StFuncTree) → IsTyped p → IsMain p slowdown instances s
    → sum_by columns_of (results_of s) ≡ output_count p slowdown
results_counted p slowdown instances s typed m =
    let laid : map (λ (o : Option SeqTree). o >>= λ t. lay_of t s.budget) (result_types p) ≡ map (λ (x : StTree). Some x) (results_of s) = results_laid p
    (keys_of instances) s typed m.is m.last m.own.results in
    sym (columns_some (results_of s)) ∙ ap (sum_by layout_columns) (sym laid) ∙ ap (output_count p) m.budget

-- the same of the parameters
parameters_are : (p : ProgramTree) (slowdown : ℕ) (instances : List StFuncTree) (s : StFuncTree) → IsTyped p → IsMain p slowdown instances s
    → map (λ t. lay_of t s.budget) (parameter_types p) ≡ map (λ (x : StTree). Some x) s.ins
parameters_are p slowdown instances s typed m = parameters_laid p (keys_of instances) s typed m.is m.last

pub parameters_counted : (p : ProgramTree) (slowdown : ℕ) (instances : List StFuncTree) (s : StFuncTree) → IsTyped p → IsMain p slowdown instances s
    → sum_by columns_of s.ins ≡ input_count p slowdown
parameters_counted p slowdown instances s typed m =
    sym (columns_some s.ins) ∙ ap (sum_by layout_columns) (sym (parameters_are p slowdown instances s typed m)) ∙ ap (input_count p) m.budget

pub few_parameters : (p : ProgramTree) (slowdown : ℕ) (instances : List StFuncTree) (s : StFuncTree) → 0 < slowdown → slowdown ≤ 4096 → IsTyped p
    → IsMain p slowdown instances s → length s.ins ≤ 8
few_parameters p slowdown instances s some most typed m =
    let here : HaveLayouts p s.budget s.ins (results_of s) = record {
      parameters = parameters_are p slowdown instances s typed m;
      results = results_laid p (keys_of instances) s typed m.is m.last m.own.results;
    } in
    few_ins p slowdown s.ins (results_of s) (record {
      typed = typed;
      some = some;
      most = most;
      layouts = subst (λ (d : ℕ). HaveLayouts p d s.ins (results_of s)) m.budget here;
    })

-- a list of layouts in size
pub all_sized : (ss : List StTree) → ((q : ℕ) (t : StTree) → slice_get ss q ≡ Some t → IsInSize t) → All IsInSize ss
all_sized ss h = λ k d within. h k (get_or ss k d) (slice_get-get_or ss k d within)

pub few_layouts : (instances : List StFuncTree) (s : StFuncTree) → IsSoundFunc (last_of instances) s → length (results_of s) ≤ 8
few_layouts instances s own =
    let long : length (results_of s) ≡ length s.results = length-map s.results (item_layout (item_layouts s)) in omega (arith, long, own.few_results)

-- the layouts of parameters and results are in size, and take the clocks of a block
all_filling : (budget slowdown : ℕ) (ss : List StTree) → budget ≡ slowdown → ((q : ℕ) (t : StTree) → slice_get ss q ≡ Some t → IsFilling budget t)
    → All (λ (t : StTree). IsInSize t × (time t ≡ slowdown)) ss
all_filling budget slowdown ss e h = λ k d within. (let f = h k (get_or ss k d) (slice_get-get_or ss k d within) in (f.size, f.time ∙ e))

pub fill_clocks_in : (p : ProgramTree) (slowdown : ℕ) (instances : List StFuncTree) (s : StFuncTree) → IsMain p slowdown instances s
    → All (λ (t : StTree). IsInSize t × (time t ≡ slowdown)) s.ins
fill_clocks_in p slowdown instances s m = all_filling s.budget slowdown s.ins m.budget m.own.ins

pub fill_clocks_out : (p : ProgramTree) (slowdown : ℕ) (instances : List StFuncTree) (s : StFuncTree) → IsMain p slowdown instances s
    → All (λ (t : StTree). IsInSize t × (time t ≡ slowdown)) (results_of s)
fill_clocks_out p slowdown instances s m = all_filling s.budget slowdown (results_of s) m.budget (λ q t e.
    (let r = unmapped (item_layout (item_layouts s)) s.results q t e in
    subst (IsFilling s.budget) r.is (all_items (last_of instances) s m.own r.from (m.own.results q r.from r.found))))
