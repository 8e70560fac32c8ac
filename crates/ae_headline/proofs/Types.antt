-- The types of a program's results are told by the results, since each word of a value has its kind.
use Rattle.std.proofs.Common.{◌≡◌, ℕ, zero, suc, ◌<◌, ◌≤◌, true, nat_lt, List, [], ◌∷◌, length, take, drop, map, Option, Some, IsTrue, slice_get, refl, arith, sym, ap, ◌∙◌, subst}
use Rattle.std.proofs.lemmas.Bool.{ltb-true}
use Rattle.std.proofs.lemmas.Bool.Decides.{nat_tests}
use Rattle.std.proofs.lemmas.List.{length-map}
use Rattle.std.proofs.lemmas.Nat.{pow_pos}
use Rattle.std.proofs.lemmas.Option.{none-some, same_Some}
use Rattle.ae_word.specs.AtomTree.{AtomTree, WordKind, word, pair, atom_words}
use Rattle.ae_seqtype.specs.SeqTree.{SeqTree, atom, seq, in_size, parts_in_size, kinds, words}
use Rattle.ae_seqtype.specs.ValueTree.{ValueTree, FitKinds, atom_value, cut, elements, listed, more, value_of}
use Rattle.ae_seqtype.proofs.Cuts.{length-cut}
use Rattle.ae_seqtype.proofs.Stands.{stands}
use Rattle.ae_seqtype.proofs.Values.{elements-listed}
use Rattle.ae_seq.specs.ProgramTree.{FuncTree, ProgramTree}
use Rattle.ae_seq.specs.Formed.{all_below, item_count}
use Rattle.ae_seq.specs.Meaning.{mean}
use Rattle.ae_seq.specs.Typing.{type_at, ◌>>=◌}
use Rattle.ae_netlist.specs.Circuit.{Circuit}
use Rattle.ae_eval.specs.Stack.{IsTyped, types_in}
use Rattle.ae_seq.proofs.Types.{item-sized}
use Rattle.ae_eval.proofs.Accepting.{func-types}
use Rattle.ae_eval.proofs.Items.{entry-at}
use Rattle.ae_eval.proofs.Starting.{count-items}
use Rattle.ae_eval.proofs.Typing.{type-at-is}
use Rattle.ae_rewrite.specs.Interface.{AreValues, main_of, parameter_types, result_types, results_in}
use Rattle.ae_rewrite.specs.LayoutRule.{lay_of}
use Rattle.ae_rewrite.proofs.Forms.{formed-of, some-funcs}
use Rattle.ae_alike.proofs.AtOne.{schedules_at_one}
use Rattle.ae_verilog.specs.ReportLines.{ReportTree}
use Rattle.ae_correct.specs.Laws.{IsLaidOut}
use Rattle.ae_headline.specs.Headline.{Computes}
use Rattle.ae_headline.proofs.Meant.{answers}
use Rattle.ae_seq.proofs.Judging.{left as and-first, right as and-second}

-- ---- a value tells its type, where no length is 0

abbrev NoneEmpty : SeqTree → Type 0
NoneEmpty (atom a) = Unit {0}
NoneEmpty (seq n t) = (0 < n) × NoneEmpty t

atom-told : (a b : AtomTree) (us ws : List ℕ) → atom_value a us ≡ atom_value b ws → a ≡ b
atom-told (word k) (word l) us ws h = let e : k ≡ l = cc in ap word e
atom-told (word k) (pair c d) us ws h = absurd cc
atom-told (pair a b) (word l) us ws h = absurd cc
atom-told (pair a b) (pair c d) us ws h =
    let x : atom_value a (take (atom_words a) us) ≡ atom_value c (take (atom_words c) ws) = cc in
    let y : atom_value b (drop (atom_words a) us) ≡ atom_value d (drop (atom_words c) ws) = cc in
    (λ i. pair (atom-told a c (take (atom_words a) us) (take (atom_words c) ws) x i) (atom-told b d (drop (atom_words a) us) (drop (atom_words c) ws) y i))

no-atom : {A : Type 0} (a : AtomTree) (ws : List ℕ) (v w : ValueTree) → atom_value a ws ≡ more v w → A
no-atom (word k) ws v w h = absurd cc
no-atom (pair a b) ws v w h = absurd cc

as-many : (n m : ℕ) (t u : SeqTree) (ws us : List ℕ) → listed (map (value_of t) (cut n (words t) ws)) ≡ listed (map (value_of u) (cut m (words u) us)) → n ≡ m
as-many n m t u ws us h =
    let e : map (value_of t) (cut n (words t) ws) ≡ map (value_of u) (cut m (words u) us) = sym (elements-listed (map (value_of t) (cut n (words t) ws))) ∙
    ap elements h ∙ elements-listed (map (value_of u) (cut m (words u) us)) in
    sym (length-map (cut n (words t) ws) (value_of t) ∙ length-cut n (words t) ws) ∙ ap length e ∙
    (length-map (cut m (words u) us) (value_of u) ∙ length-cut m (words u) us)

type-told : (t u : SeqTree) (ws us : List ℕ) → NoneEmpty u → value_of t ws ≡ value_of u us → t ≡ u
type-told (atom a) (atom b) ws us some h = ap atom (atom-told a b ws us h)
type-told t (seq zero u) ws us some h = absurd (omega (arith, some.0))
type-told (atom a) (seq (suc m) u) ws us some h = no-atom a ws _ _ h
type-told (seq zero t) (atom (word k)) ws us some h = absurd cc
type-told (seq zero t) (atom (pair a b)) ws us some h = absurd cc
type-told (seq (suc n) t) (atom b) ws us some h = no-atom b us _ _ (sym h)
type-told (seq zero t) (seq (suc m) u) ws us some h = absurd cc
type-told (seq (suc n) t) (seq (suc m) u) ws us some h =
    let first : value_of t (take (words t) ws) ≡ value_of u (take (words u) us) = cc in
    let rest : listed (map (value_of t) (cut n (words t) (drop (words t) ws))) ≡ listed (map (value_of u) (cut m (words u) (drop (words u) us))) = cc in
    let many = as-many n m t u (drop (words t) ws) (drop (words u) us) rest in
    let one = type-told t u (take (words t) ws) (take (words u) us) some.1 first in
    (λ i. seq (suc (many i)) (one i))

abbrev NonesEmpty : List SeqTree → Type 0
NonesEmpty ts = (i : ℕ) (t : SeqTree) → slice_get ts i ≡ Some t → NoneEmpty t

types-told : (ts us : List SeqTree) (vs : List ValueTree) → NonesEmpty us → AreValues ts vs → AreValues us vs → ts ≡ us
types-told [] [] vs some a b = refl
types-told [] (u ∷ us) [] some a b = absurd b
types-told [] (u ∷ us) (v ∷ vs) some a b = absurd a
types-told (t ∷ ts) [] [] some a b = absurd a
types-told (t ∷ ts) [] (v ∷ vs) some a b = absurd b
types-told (t ∷ ts) (u ∷ us) [] some a b = absurd a
types-told (t ∷ ts) (u ∷ us) (v ∷ vs) some a b =
    let one = type-told t u a.0.0 b.0.0 (some 0 u refl) (a.0.1.value ∙ sym b.0.1.value) in
    let rest = types-told ts us vs (λ i x e. some (suc i) x e) a.1 b.1 in
    (λ i. one i ∷ rest i)

-- ---- each type has a value

zeros-fit : (ks : List WordKind) → FitKinds (map (λ (k : WordKind). 0) ks) ks
zeros-fit [] = tt
zeros-fit (k ∷ ks) = (pow_pos k.width, zeros-fit ks)

some-values : (ts : List SeqTree) → (vs : List ValueTree) × AreValues ts vs
some-values [] = ([], tt)
some-values (t ∷ ts) =
    let ws : List ℕ = map (λ (k : WordKind). 0) (kinds t) in
    let r = some-values ts in
    (value_of t ws ∷ r.0, ((ws, stands t ws (zeros-fit (kinds t))), r.1))

-- ---- the results of a typed program

parts-some : (t : SeqTree) → IsTrue (parts_in_size t) → NoneEmpty t
parts-some (atom a) h = tt
parts-some (seq n t) h = (grind (arith, nat_tests), parts-some t (grind (arith, nat_tests)))

sized-some : (t : SeqTree) → IsTrue (in_size t) → NoneEmpty t
sized-some t h = parts-some t (grind (arith, nat_tests))

record HasTypes (os : List (Option SeqTree)) : Type 0 where
  types : List SeqTree
  are : os ≡ map (λ (t : SeqTree). Some t) types
  some : NonesEmpty types

more-types : (t : SeqTree) (ts : List SeqTree) → NoneEmpty t → NonesEmpty ts → NonesEmpty (t ∷ ts)
more-types t ts one all zero u e = subst NoneEmpty (same_Some t u e) one
more-types t ts one all (suc i) u e = all i u e

items-typed : (p : ProgramTree) (f : FuncTree) → IsTyped p → slice_get p.funcs (main_of p) ≡ Some f → (is : List ℕ) → all_below (item_count f) is ≡ true
    → HasTypes (map (type_at p (main_of p)) is)
items-typed p f typed known [] h = record { types = []; are = refl; some = λ i t e. absurd (none-some t e) }
items-typed p f typed known (i ∷ is) h =
    let low = ltb-true i (item_count f) (and-first _ _ h) in
    let long : length (types_in p (main_of p)) ≡ item_count f = count-items p (main_of p) f typed known in
    let t = entry-at (types_in p (main_of p)) i (omega arith) in
    let is_t : type_at p (main_of p) i ≡ Some t.0 = type-at-is p (main_of p) i typed ∙ t.1 in
    let r = items-typed p f typed known is (and-second (nat_lt i (item_count f)) _ h) in
    record {
      types = t.0 ∷ r.types;
      are = (λ j. is_t j ∷ r.are j);
      some = more-types t.0 r.types (sized-some t.0 (item-sized (types_in p (main_of p)) i t.0 (func-types p (main_of p) f typed known).sized t.1)) r.some;
    }

results-typed : (p : ProgramTree) → IsTyped p → HasTypes (result_types p)
results-typed p typed =
    let some = some-funcs p typed.is_formed in
    let e = entry-at p.funcs (main_of p) (omega arith) in
    let form = formed-of p (main_of p) e.0 typed.is_formed e.1 in
    subst HasTypes (ap (λ o. map (type_at p (main_of p)) (results_in o)) (sym e.1)) (items-typed p e.0 typed e.1 e.0.results form.results)

lays-of : (slowdown : ℕ) (ts : List SeqTree) → map (λ (o : Option SeqTree). o >>= λ t. lay_of t slowdown) (map (λ (t : SeqTree). Some t) ts) ≡ map
    (λ t. lay_of t slowdown) ts
lays-of slowdown [] = refl
lays-of slowdown (t ∷ ts) = ap (λ l. lay_of t slowdown ∷ l) (lays-of slowdown ts)

pub laid_out : (p : ProgramTree) (n : Circuit) (r : ReportTree) → IsTyped p → 0 < r.slowdown → r.slowdown ≤ 4096 → Computes n p r
    → IsLaidOut p r.slowdown r.ins r.outs
laid_out p n r typed some most c =
    let own = results-typed p typed in
    let s = schedules_at_one p typed in
    let zs = some-values (parameter_types p) in
    let same : c.types ≡ own.types = types-told c.types own.types (mean p zs.0) own.some (c.answers zs.0 zs.1)
    (answers p 1 s.0 own.types typed s.1 own.are zs.0 zs.1) in
    record {
      typed = typed;
      some = some;
      most = most;
      layouts = record {
        parameters = c.ins;
        results = ap (map (λ (o : Option SeqTree). o >>= λ t. lay_of t r.slowdown)) own.are ∙ lays-of r.slowdown own.types ∙
            ap (map (λ t. lay_of t r.slowdown)) (sym same) ∙ c.outs;
      };
    }
