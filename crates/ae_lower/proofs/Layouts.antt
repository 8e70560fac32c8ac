-- The layouts of a program's parameters and results, and the words of values in them.
use Rattle.std.proofs.Common.{ℕ, zero, suc, ◌≡◌, ◌+◌, ◌<◌, List, [], ◌∷◌, ◌++◌, length, map, Option, Some, IsTrue, slice_get, refl, ap, sym, ◌∙◌, subst}
use Rattle.std.proofs.lemmas.List.{map-append}
use Rattle.std.proofs.lemmas.Option.{none-some, same_Some}
use Rattle.ae_word.specs.AtomTree.{WordKind, atom_kinds}
use Rattle.ae_seqtype.specs.SeqTree.{SeqTree, atom, atoms, atom_of, kinds, repeated, parts_in_size}
use Rattle.ae_seqtype.specs.ValueTree.{ValueTree, flat, Fit, FitKinds}
use Rattle.ae_sttype.specs.StTree.{StTree, element_atom}
use Rattle.ae_sttype.specs.Slots.{slots}
use Rattle.ae_sttype.proofs.Places.{length-slots}
use Rattle.ae_ops.specs.Blocks.{AreWords, AllAreWords, stream_of}
use Rattle.ae_seq.specs.ProgramTree.{ProgramTree, ParamTree}
use Rattle.ae_seq.specs.Typing.{type_at, param_types, types_of_params, ◌>>=◌}
use Rattle.ae_seq.specs.Meaning.{at}
use Rattle.ae_seq.proofs.Types.{item-sized}
use Rattle.ae_eval.specs.Stack.{IsTyped, params_for, types_in}
use Rattle.ae_eval.specs.Lines.{input_types}
use Rattle.ae_eval.proofs.Accepting.{func-types}
use Rattle.ae_eval.proofs.Typing.{type-at-is}
use Rattle.ae_rewrite.specs.LayoutRule.{lay_of}
use Rattle.ae_rewrite.specs.Interface.{AreValues, main_of, parameter_types, result_types, results_in}
use Rattle.ae_rewrite.specs.Interface as interface
use Rattle.ae_rewrite.specs.StProgramTree.{StFuncTree}
use Rattle.ae_rewrite.specs.Scheduled.{Keys, IsInstance}
use Rattle.ae_rewrite.specs.Sound.{item_layout, item_layouts}
use Rattle.ae_rewrite.proofs.Items.{param-type}
use Rattle.ae_flow.specs.Flow.{words_at}
use Rattle.ae_ports.specs.Ports.{streams_of}
use Rattle.ae_flow.proofs.MeaningLayouts.{LaysOut, AllLaidOut, lays-out}
use Rattle.ae_flow.proofs.Placed.{item_laid}
use Rattle.ae_flow.proofs.Widths.{FitWidths, words_of}
use Rattle.ae_lower.specs.Circuits.{results_of}
use Rattle.ae_ports.proofs.Columns.{map_map}
use Rattle.ae_eval.proofs.Combining.{kinds-repeated as kinds_repeated}
use Rattle.ae_flow.proofs.MeaningProgram.{flat-stands as flat_stands, whole-sized as whole_sized}

-- ---- the words of a value in a layout

abbrev widths_of : List WordKind → List ℕ
widths_of ks = map (λ (k : WordKind). k.width) ks

fit_widths : (ws : List ℕ) (ks : List WordKind) → FitKinds ws ks → FitWidths ws (widths_of ks)
fit_widths [] [] h = tt
fit_widths [] (k ∷ ks) h = absurd h
fit_widths (x ∷ ws) [] h = absurd h
fit_widths (x ∷ ws) (k ∷ ks) h = (h.0, fit_widths ws ks h.1)

widths_repeated : (n : ℕ) (ks : List WordKind) → widths_of (repeated n ks) ≡ repeated n (widths_of ks)
widths_repeated zero ks = refl
widths_repeated (suc n) ks = map-append (λ (k : WordKind). k.width) ks (repeated n ks) ∙ ap (λ ws. widths_of ks ++ ws) (widths_repeated n ks)

words_fit : (t : SeqTree) (s : StTree) (ws : List ℕ) → LaysOut t s → Fit t ws → AreWords (stream_of s) ws
words_fit t s ws l h =
    let many : atoms t ≡ length (slots s) = sym l.atoms ∙ sym (length-slots s) in
    let own : widths_of (kinds t) ≡ repeated (length (slots s)) (widths_of (atom_kinds (element_atom s))) =
    ap widths_of (kinds_repeated t) ∙ widths_repeated (atoms t) (atom_kinds (atom_of t)) ∙ ap (λ a. repeated (atoms t) (widths_of (atom_kinds a))) (sym l.atom)
    ∙ ap (λ k. repeated k (widths_of (atom_kinds (element_atom s)))) many in
    words_of (stream_of s) ws (subst (FitWidths ws) own (fit_widths ws (kinds t) h))

-- the words of values of these types fit their layouts
pub all_words : (ts : List SeqTree) (ss : List StTree) (vs : List ValueTree) → AllLaidOut ts ss → AreValues ts vs → AllAreWords (streams_of ss) (map flat vs)
all_words [] [] [] l h = tt
all_words [] [] (v ∷ vs) l h = absurd h
all_words [] (s ∷ ss) vs l h = absurd l
all_words (t ∷ ts) [] vs l h = absurd l
all_words (t ∷ ts) (s ∷ ss) [] l h = absurd h
all_words (t ∷ ts) (s ∷ ss) (v ∷ vs) l h =
    let e : h.0.0 ≡ flat v = sym (flat_stands t h.0.0 v h.0.1) in
    (subst (AreWords (stream_of s)) e (words_fit t s h.0.0 l.0 h.0.1.fits), all_words ts ss vs l.1 h.1)

pub as_many_values : (ts : List SeqTree) (ss : List StTree) (vs : List ValueTree) → AllLaidOut ts ss → AreValues ts vs → length vs ≡ length ss
as_many_values [] [] [] l h = refl
as_many_values [] [] (v ∷ vs) l h = absurd h
as_many_values [] (s ∷ ss) vs l h = absurd l
as_many_values (t ∷ ts) [] vs l h = absurd l
as_many_values (t ∷ ts) (s ∷ ss) [] l h = absurd h
as_many_values (t ∷ ts) (s ∷ ss) (v ∷ vs) l h = ap suc (as_many_values ts ss vs l.1 h.1)

-- the words of a value among others
pub words_flat : (vs : List ValueTree) (r : ℕ) → words_at (map flat vs) r ≡ flat (at vs r)
words_flat [] r = refl
words_flat (v ∷ vs) zero = refl
words_flat (v ∷ vs) (suc r) = words_flat vs r

-- ---- the layouts of parameters and results

pub laid_all : (clocks : ℕ) (ts : List SeqTree) (ss : List StTree) → map (λ t. lay_of t clocks) ts ≡ map (λ (x : StTree). Some x) ss
    → ((i : ℕ) (t : SeqTree) → slice_get ts i ≡ Some t → IsTrue (parts_in_size t)) → AllLaidOut ts ss
laid_all clocks [] [] h sized = tt
laid_all clocks [] (x ∷ ss) h sized = cc
laid_all clocks (t ∷ ts) [] h sized = cc
laid_all clocks (t ∷ ts) (x ∷ ss) h sized =
    let a : lay_of t clocks ≡ Some x = cc in
    let rest : map (λ u. lay_of u clocks) ts ≡ map (λ (y : StTree). Some y) ss = cc in
    (lays-out t clocks x (sized 0 t refl) a, laid_all clocks ts ss rest (λ i u e. sized (suc i) u e))

module _ (p : ProgramTree) (keys : Keys) (s : StFuncTree) (typed : IsTyped p) (h : IsInstance p keys s) (last : s.func ≡ main_of p) where
  known : slice_get p.funcs (main_of p) ≡ Some h.of
  known = sym (ap (slice_get p.funcs) last) ∙ h.known

  own_types : parameter_types p ≡ param_types h.of
  own_types = ap interface.types_in known

  -- the types of its parameters are those that its meaning takes
  pub input_types_are : parameter_types p ≡ input_types p
  input_types_are = own_types ∙ sym (ap params_for known)

  pub parameters_laid : map (λ t. lay_of t s.budget) (parameter_types p) ≡ map (λ (x : StTree). Some x) s.ins
  parameters_laid = ap (map (λ t. lay_of t s.budget)) own_types ∙ map_map (λ t. lay_of t s.budget) (λ (q : ParamTree). q.type) h.of.params ∙ h.ins

  sized : (i : ℕ) (t : SeqTree) → slice_get (types_in p s.func) i ≡ Some t → IsTrue (parts_in_size t)
  sized i t e = whole_sized t (item-sized (types_in p s.func) i t (func-types p s.func h.of typed h.known).sized e)

  param_sized : (ps : List ParamTree) → ((i : ℕ) (q : ParamTree) → slice_get ps i ≡ Some q → IsTrue (parts_in_size q.type)) → (i : ℕ) (t : SeqTree)
      → slice_get (types_of_params ps) i ≡ Some t → IsTrue (parts_in_size t)
  param_sized [] each i t e = absurd (none-some t e)
  param_sized (q ∷ ps) each zero t e = subst (λ (u : SeqTree). IsTrue (parts_in_size u)) (same_Some q.type t e) (each 0 q refl)
  param_sized (q ∷ ps) each (suc i) t e = param_sized ps (λ j r f. each (suc j) r f) i t e

  -- each parameter is laid out
  pub inputs_laid : AllLaidOut (parameter_types p) s.ins
  inputs_laid =
      laid_all s.budget (parameter_types p) s.ins parameters_laid (λ i t e.
      param_sized h.of.params (λ j q f. sized j q.type (sym (type-at-is p s.func j typed) ∙ param-type p s.func j h.of q h.known f)) i t
      (ap (λ ts. slice_get ts i) (sym own_types) ∙ e))

  results_each : (rs : List ℕ) → ((j r : ℕ) → slice_get rs j ≡ Some r → r < length (item_layouts s))
      → map (λ (o : Option SeqTree). o >>= λ t. lay_of t s.budget) (map (type_at p s.func) rs) ≡ map (λ (x : StTree). Some x)
      (map (item_layout (item_layouts s)) rs)
  results_each [] below = refl
  results_each (r ∷ rs) below = λ i. item_laid p keys s h r (below 0 r refl) i ∷ results_each rs (λ j q e. below (suc j) q e) i

  pub results_laid : ((j r : ℕ) → slice_get s.results j ≡ Some r → r < length (item_layouts s))
      → map (λ (o : Option SeqTree). o >>= λ t. lay_of t s.budget) (result_types p) ≡ map (λ (x : StTree). Some x) (results_of s)
  results_laid below =
      let own : result_types p ≡ map (type_at p s.func) s.results = ap (λ f. map (type_at p f) (results_in (slice_get p.funcs (main_of p)))) (sym last) ∙
      ap (map (type_at p s.func)) (ap results_in known ∙ sym h.results) in
      ap (map (λ (o : Option SeqTree). o >>= λ t. lay_of t s.budget)) own ∙ results_each s.results below
