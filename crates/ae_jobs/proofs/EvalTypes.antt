-- The parameters and results of an accepted program, and the columns of its rows.
use Rattle.std.proofs.Common.{◌≡◌, ℕ, zero, suc, ◌+◌, ◌*◌, ◌<◌, ◌≤◌, ◌&&◌, nat_le, Bool, true, false, List, [], ◌∷◌, ◌++◌, length, map, Option, Some, None, slice_get, get_or, All, refl, arith, sym, ap, ◌∙◌, subst, length-append}
use Rattle.std.specs.Option.{option_map}
use Rattle.std.proofs.lemmas.List.{length-map, map-append}
use Rattle.std.proofs.lemmas.Option.{slice_get-map}
use Rattle.std.proofs.lemmas.List.Elements.{All-nil, All-cons, All-append}
use Rattle.std.proofs.lemmas.Bool.Decides.{nat_tests}
use Rattle.ae_word.specs.AtomTree.{AtomTree, WordKind, word, pair, atom_kinds, pair_depth, widths_in_range}
use Rattle.ae_seqtype.specs.SeqTree.{SeqTree, atom, seq, depth, in_size, kinds, parts_in_size, repeated, seq_tree, words}
use Rattle.ae_seqtype.proofs.Sizes.{length-kinds, one-atom_words as atom_some}
use Rattle.ae_seq.specs.declared.program.Program.{Program}
use Rattle.ae_seq.specs.declared.program.Func.{Func}
use Rattle.ae_seq.specs.declared.program.Param.{Param}
use Rattle.ae_seq.specs.ProgramTree.{FuncTree, ParamTree, ProgramTree, func_tree, param_tree, program_tree}
use Rattle.ae_seq.specs.Trees.{param_trees}
use Rattle.ae_seq.proofs.Types.{slice_get-view}
use Rattle.ae_seq.specs.Typing.{Judged, Signature, all_in_size, fine, judged, judged_func, judged_nodes, param_types, refused, signature, size_verdict, type_at, types_of_params}
use Rattle.ae_eval.specs.Stack.{IsTyped, kinds_of, params_for}
use Rattle.ae_eval.specs.Lines.{input_types, last_func}
use Rattle.ae_eval.proofs.Items.{and-both, entry-at, few-funcs, func-read}
use Rattle.ae_rewrite.specs.Interface.{parameter_types, result_types, results_in, types_in, main_of}
use Rattle.ae_compile.proofs.Counts.{FewItems, few_at}
use Rattle.ae_jobs.specs.Inputs.{type_widths, widths_of}
use Rattle.ae_jobs.specs.RunTexts.{input_widths}
use Rattle.ae_eval.proofs.Accepting.{both-none as both_none}

-- ---- the parameters' types are in size

later_none : (xs ys : List Judged) → refused (xs ++ ys) ≡ None → refused ys ≡ None
later_none [] ys h = h
later_none (j ∷ xs) ys h = later_none xs ys (both_none j j.verdict (refused (xs ++ ys)) h).1

fine_size : (b : Bool) → size_verdict b ≡ fine → b ≡ true
fine_size true h = refl
fine_size false h = cc

sized_params : (known : List Signature) (fs : List FuncTree) (k : ℕ) (f : FuncTree) → refused (judged known fs) ≡ None → slice_get fs k ≡ Some f
    → all_in_size (param_types f) ≡ true
sized_params known [] k f h e = cc
sized_params known (g ∷ fs) zero f h e =
    let same : g ≡ f = cc in
    let later : List Judged = judged_nodes known (map Some (param_types g)) g.nodes ++ judged (known ++ signature known g ∷ []) fs in
    let r = both_none (record { line = g.line; verdict = size_verdict (all_in_size (param_types g)) }) (size_verdict (all_in_size (param_types g)))
    (refused later) h in
    let P : FuncTree → Type 0 = λ x. all_in_size (param_types x) ≡ true in
    subst P same (fine_size (all_in_size (param_types g)) r.0)
sized_params known (g ∷ fs) (suc k) f h e = sized_params (known ++ signature known g ∷ []) fs k f (later_none (judged_func known g) _ h) e

-- ---- the words of a type in size

one_times : (n m : ℕ) → 1 ≤ n → 1 ≤ m → 1 ≤ n * m
one_times zero m h g = absurd (omega arith)
one_times (suc n) m h g = let e : suc n * m ≡ m + n * m = omega arith in omega (arith, e, g)

words_some : (t : SeqTree) → parts_in_size t ≡ true → 1 ≤ words t
words_some (atom a) h = atom_some a
words_some (seq n t) h =
    let r = and-both (nat_le 1 n && nat_le n 4096) (parts_in_size t) h in
    let s = and-both (nat_le 1 n) (nat_le n 4096) r.0 in
    let some : 1 ≤ n = grind (arith, nat_tests, s.0) in
    one_times n (words t) some (words_some t r.1)

abbrev AreSmall : List WordKind → Type 0
AreSmall ks = All (λ w. w ≤ 64) (map (λ (k : WordKind). k.width) ks)

small-append : (us vs : List WordKind) → AreSmall us → AreSmall vs → AreSmall (us ++ vs)
small-append us vs h g =
    subst (All (λ w. w ≤ 64)) (sym (map-append (λ (k : WordKind). k.width) us vs))
    (All-append (λ w. w ≤ 64) (map (λ (k : WordKind). k.width) us) (map (λ (k : WordKind). k.width) vs) h g)

atom_small : (a : AtomTree) → widths_in_range a ≡ true → AreSmall (atom_kinds a)
atom_small (word k) h =
    let r = and-both (nat_le 1 k.width) (nat_le k.width 64) h in
    All-cons (λ w. w ≤ 64) k.width [] (grind (arith, nat_tests, r.1)) (All-nil (λ w. w ≤ 64))
atom_small (pair a b) h =
    let r = and-both (widths_in_range a) (widths_in_range b) h in
    small-append (atom_kinds a) (atom_kinds b) (atom_small a r.0) (atom_small b r.1)

repeated_small : (n : ℕ) (ks : List WordKind) → AreSmall ks → AreSmall (repeated n ks)
repeated_small zero ks h = All-nil (λ w. w ≤ 64)
repeated_small (suc n) ks h = small-append ks (repeated n ks) h (repeated_small n ks h)

type_small : (t : SeqTree) → parts_in_size t ≡ true → AreSmall (kinds t)
type_small (atom a) h = atom_small a (and-both (widths_in_range a) (nat_le (pair_depth a) 6) h).0
type_small (seq n t) h =
    repeated_small n (kinds t) (type_small t (and-both (nat_le 1 n && nat_le n 4096) (parts_in_size t) h).1)

pub record SizedWords (t : SeqTree) : Type 0 where
  pub some : 1 ≤ words t
  pub few : words t ≤ 16384
  pub small : AreSmall (kinds t)

pub sized_words : (t : SeqTree) → in_size t ≡ true → SizedWords t
sized_words t h =
    let r = and-both (parts_in_size t && nat_le (depth t) 6) (nat_le (words t) 16384) h in
    let parts : parts_in_size t ≡ true = (and-both (parts_in_size t) (nat_le (depth t) 6) r.0).0 in
    record { some = words_some t parts; few = grind (arith, nat_tests, r.1); small = type_small t parts }

-- ---- columns

pub widths-kinds : (ts : List SeqTree) → widths_of ts ≡ map (λ (k : WordKind). k.width) (kinds_of ts)
widths-kinds [] = refl
widths-kinds (t ∷ ts) =
    ap (λ ws. type_widths t ++ ws) (widths-kinds ts) ∙ sym (map-append (λ (k : WordKind). k.width) (kinds t) (kinds_of ts))

pub record AreColumns (n : ℕ) (widths : List ℕ) : Type 0 where
  pub some : n ≤ length widths
  pub few : length widths ≤ n * 16384
  pub small : All (λ w. w ≤ 64) widths

columns : (ts : List SeqTree) → all_in_size ts ≡ true → AreColumns (length ts) (widths_of ts)
columns [] h = record { some = omega arith; few = omega arith; small = All-nil (λ w. w ≤ 64) }
columns (t ∷ ts) h =
    let r = and-both (in_size t) (all_in_size ts) h in
    let s = sized_words t r.0 in
    let c = columns ts r.1 in
    let own : length (type_widths t) ≡ words t = length-map (kinds t) (λ (k : WordKind). k.width) ∙ length-kinds t in
    let all : length (type_widths t ++ widths_of ts) ≡ length (type_widths t) + length (widths_of ts) = length-append (type_widths t) (widths_of ts) in
    record {
      some = omega (arith, own, all, s.some, c.some);
      few = omega (arith, own, all, s.few, c.few);
      small = All-append (λ w. w ≤ 64) (type_widths t) (widths_of ts) s.small c.small;
    }

-- ---- the program function

same_types : (o : Option FuncTree) → types_in o ≡ params_for o
same_types None = refl
same_types (Some f) = refl

pub same_parameters : (p : ProgramTree) → parameter_types p ≡ input_types p
same_parameters p = same_types (slice_get p.funcs (main_of p))

pub record MainFacts (p : ProgramTree) : Type 0 where
  pub func : FuncTree
  pub found : slice_get p.funcs (last_func p) ≡ Some func
  pub few : FewItems func
  pub types : input_types p ≡ param_types func
  pub sized : all_in_size (input_types p) ≡ true

pub main_facts : (p : ProgramTree) → IsTyped p → MainFacts p
main_facts p h =
    let count = few-funcs p h in
    let at = entry-at p.funcs (last_func p) (omega (arith, count.1)) in
    let f : FuncTree = at.0 in
    let types : input_types p ≡ param_types f = ap params_for at.1 in
    let P : List SeqTree → Type 0 = λ ts. all_in_size ts ≡ true in
    record {
      func = f;
      found = at.1;
      few = few_at p (last_func p) f h at.1;
      types = types;
      sized = subst P (sym types) (sized_params [] p.funcs (last_func p) f h.accepted at.1);
    }

pub record HasColumns (p : ProgramTree) : Type 0 where
  pub some : 1 ≤ length (input_widths p)
  pub few : length (input_widths p) ≤ 131072
  pub small : All (λ w. w ≤ 64) (input_widths p)
  pub kinds_are : input_widths p ≡ map (λ (k : WordKind). k.width) (kinds_of (input_types p))

pub has_columns : (p : ProgramTree) → IsTyped p → HasColumns p
has_columns p h =
    let m = main_facts p h in
    let same : input_widths p ≡ widths_of (input_types p) = ap widths_of (same_parameters p) in
    let c = columns (input_types p) m.sized in
    let long : length (input_types p) ≡ length m.func.params = ap length m.types ∙ length-map m.func.params _ in
    let all : length (input_widths p) ≡ length (widths_of (input_types p)) = ap length same in
    record {
      some = omega (arith, long, all, c.some, m.few.some);
      few = omega (arith, long, all, c.few, m.few.few);
      small = subst (All (λ w. w ≤ 64)) (sym same) c.small;
      kinds_are = same ∙ widths-kinds (input_types p);
    }

-- ---- what the code reads of the program function

pub record MainRead (p : Program) (f : Func) : Type 0 where
  pub params : input_types (program_tree p) ≡ types_of_params (param_trees f.params.items)
  pub count : length (input_types (program_tree p)) ≡ length f.params.items
  pub results : result_types (program_tree p) ≡ map (type_at (program_tree p) (last_func (program_tree p))) f.results.items
  pub few : length f.results.items ≤ 8

pub main_read : (p q : Program) (last : ℕ) (f : Func) → IsTyped (program_tree p) → last ≡ last_func (program_tree p) → last < length (program_tree p).funcs
    → q ≡ p → f ≡ get_or q.funcs.items last f → MainRead p f
main_read p q last f h el lt eq ef =
    let t = program_tree p in
    let own : f ≡ get_or p.funcs.items last f = ef ∙ ap (λ (z : Program). get_or z.funcs.items last f) eq in
    let read : slice_get t.funcs last ≡ Some (func_tree f) = func-read p last f lt own in
    let found : slice_get t.funcs (last_func t) ≡ Some (func_tree f) = ap (slice_get t.funcs) (sym el) ∙ read in
    let few : FewItems (func_tree f) = few_at t last (func_tree f) h read in
    let params : input_types t ≡ types_of_params (param_trees f.params.items) = ap params_for found in
    record {
      params = params;
      count = ap length params ∙ length-map (param_trees f.params.items) (λ (q : ParamTree). q.type) ∙ length-map f.params.items param_tree;
      results = ap (λ (o : Option FuncTree). map (type_at t (last_func t)) (results_in o)) found;
      few = few.results;
    }

pub param_read : (p : Program) (f : Func) (xs : List Param) (i : ℕ) (x : Param) → MainRead p f → xs ≡ f.params.items → i < length xs → x ≡ get_or xs i x
    → slice_get (input_types (program_tree p)) i ≡ Some (seq_tree x.ty)
param_read p f xs i x m e h ex =
    ap (λ ts. slice_get ts i) (m.params ∙ ap (λ (ys : List Param). types_of_params (param_trees ys)) (sym e))
    ∙ slice_get-map (λ (q : ParamTree). q.type) (param_trees xs) i ∙ ap (option_map (λ (q : ParamTree). q.type)) (slice_get-view param_tree xs i x h ex)
