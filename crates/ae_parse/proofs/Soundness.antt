-- What is known between two lines is that of a formed program.
use Rattle.std.proofs.Common.{◌≡◌, ℕ, suc, ◌+◌, ◌*◌, ◌<◌, ◌≤◌, Bool, true, false, ◌&&◌, ◌==◌, nat_le, List, [], ◌∷◌, ◌++◌, length, Option, Some, None, IfSome, if◌then◌else◌, refl, sym, ap, ◌∙◌, arith, length-append, subst}
use Rattle.std.proofs.lemmas.Bool.{leb-true, le-leb, ltb-false}
use Rattle.ae_seq.specs.ProgramTree.{FuncTree, ProgramTree}
use Rattle.ae_seq.specs.Formed.{all_below, all_distinct, all_names, formed, formed_func, formed_funcs, func_lines, func_names, is_name, item_count, most_results, node_names, param_names, within, formed_params, formed_nodes}
use Rattle.ae_fields.specs.Grammar.{Known, Part, State, program, start, step, after_line, whole, at_end, of_version, ended}
use Rattle.ae_fields.specs.Cut.{fields}
use Rattle.ae_fields.proofs.NameForms.{known-agree, distinct-push, names-front, names-back, distinct-front, distinct-back, distinct-apart}
use Rattle.ae_parse.proofs.OpSound.{operator-sound}
use Rattle.ae_fields.proofs.OptionLemmas.{where-some, some-is}
use Rattle.ae_parse.proofs.PartSound.{PartSound, begun-sound, node-sound, few-params-sound, places-below, items-count}
use Rattle.ae_fields.proofs.StepCases.{Placed, began, noded, finished, Stepped, silent, versioned, first, later, stepped, begun_state, node_state}
use Rattle.ae_seq.proofs.Judging.{left as and-first, right as and-second}
use Rattle.ae_fields.proofs.PartLemmas.{and-both}

-- ---- functions

-- each function has one result
abbrev pub singles : (version funcs : ℕ) → List FuncTree → Bool
singles version funcs [] = true
singles version funcs (f ∷ fs) = formed_func version funcs 1 f && singles version (funcs + 1) fs

abbrev pub func_of : (line : ℕ) → Part → List ℕ → FuncTree
func_of line p rs = record { name = p.name; params = p.params; nodes = p.nodes; results = rs; line = p.line; end_line = line }

-- a function at its end
func-sound : (version funcs most line : ℕ) (p : Part) (rs : List ℕ) → PartSound version funcs p → within 1 most (length rs) ≡ true
    → all_below (length p.items) rs ≡ true
    → formed_func version funcs most (func_of line p rs) ≡ true
func-sound version funcs most line p rs s few below =
    let names = ap all_names (sym s.items) ∙ s.named in
    let distinct = ap all_distinct (sym s.items) ∙ s.distinct in
    let ps = param_names p.params in
    let ns = node_names p.nodes in
    and-both _ _ (and-both _ _ (and-both _ _ (and-both _ _ (and-both _ _ (and-both _ _ s.name s.few) s.types) s.nodes) few)
    (ap (λ k. all_below k rs) (sym (items-count version funcs p s)) ∙ below))
    (and-both _ _ (and-both _ _ (and-both _ _ (and-both _ _ (names-front ps ns names) (names-back ps ns names)) (distinct-front ps ns distinct))
    (distinct-back ps ns distinct)) (distinct-apart ps ns distinct))

one-most : (most n : ℕ) → 1 ≤ most → within 1 1 n ≡ true → within 1 most n ≡ true
one-most most n h w =
    let a = leb-true 1 n (and-first _ _ w) in
    let b = leb-true n 1 (and-second (nat_le 1 n) _ w) in
    and-both _ _ (le-leb 1 n a) (le-leb n most (omega arith))

most-one : (version : ℕ) (fs : List FuncTree) → 1 ≤ most_results version fs
most-one version (f ∷ fs) = omega arith
most-one version [] = by (version == 2)
  where
    by : (b : Bool) → 1 ≤ (if b then 8 else 1)
    by true = omega arith
    by false = omega arith

-- a function of one result may stand anywhere
single-most : (version funcs most : ℕ) (f : FuncTree) → 1 ≤ most → formed_func version funcs 1 f ≡ true → formed_func version funcs most f ≡ true
single-most version funcs most f h s =
    let a = and-first _ _ s in
    let b = and-first _ _ a in
    let front = and-first _ _ b in
    let few = and-second (is_name f.name && within 1 8 (length f.params) && formed_params version f.params && formed_nodes version funcs
    (length f.params) f.nodes) _ b in
    and-both _ _ (and-both _ _ (and-both _ _ front (one-most most (length f.results) h few))
    (and-second (is_name f.name && within 1 8 (length f.params) && formed_params version f.params && formed_nodes version funcs
    (length f.params) f.nodes && within 1 1 (length f.results)) _ a))
    (and-second (is_name f.name && within 1 8 (length f.params) && formed_params version f.params && formed_nodes version funcs
    (length f.params) f.nodes && within 1 1 (length f.results) && all_below (item_count f) f.results) _ s)

singles-push : (version funcs : ℕ) (fs : List FuncTree) (f : FuncTree) → singles version funcs fs ≡ true → formed_func version (funcs + length fs) 1 f ≡ true
    → singles version funcs (fs ++ f ∷ []) ≡ true
singles-push version funcs [] f h g = let z : funcs + 0 ≡ funcs = omega arith in and-both _ _ (ap (λ k. formed_func version k 1 f) (sym z) ∙ g) refl
singles-push version funcs (e ∷ fs) f h g =
    let s : funcs + suc (length fs) ≡ funcs + 1 + length fs = omega arith in
    and-both _ _ (and-first _ _ h) (singles-push version (funcs + 1) fs f (and-second (formed_func version funcs 1 e) _ h)
    (ap (λ k. formed_func version k 1 f) (sym s) ∙ g))

-- after functions with one result each, the last may have more
last-formed : (version funcs : ℕ) (fs : List FuncTree) (f : FuncTree) → singles version funcs fs ≡ true
    → formed_func version (funcs + length fs) (most_results version []) f ≡ true
    → formed_funcs version funcs (fs ++ f ∷ []) ≡ true
last-formed version funcs [] f h g =
    let z : funcs + 0 ≡ funcs = omega arith in and-both _ _ (ap (λ k. formed_func version k (most_results version []) f) (sym z) ∙ g) refl
last-formed version funcs (e ∷ fs) f h g =
    let s : funcs + suc (length fs) ≡ funcs + 1 + length fs = omega arith in
    and-both _ _ (single-most version funcs (most_results version (fs ++ f ∷ [])) e (most-one version (fs ++ f ∷ [])) (and-first _ _ h))
    (last-formed version (funcs + 1) fs f (and-second (formed_func version funcs 1 e) _ h)
    (ap (λ k. formed_func version k (most_results version []) f) (sym s) ∙ g))

lines-push : (fs : List FuncTree) (f : FuncTree) → func_lines (fs ++ f ∷ []) ≡ func_lines fs + (2 + length f.nodes)
lines-push [] f = omega arith
lines-push (e ∷ fs) f = let r = lines-push fs f in omega arith

lines-count : (fs : List FuncTree) → length fs * 2 ≤ func_lines fs
lines-count [] = omega arith
lines-count (f ∷ fs) = let r = lines-count fs in omega arith

func-names-push : (fs : List FuncTree) (f : FuncTree) → func_names (fs ++ f ∷ []) ≡ func_names fs ++ f.name ∷ []
func-names-push [] f = refl
func-names-push (e ∷ fs) f = ap (λ ns. e.name ∷ ns) (func-names-push fs f)

length-names : (fs : List FuncTree) → length (func_names fs) ≡ length fs
length-names [] = refl
length-names (f ∷ fs) = ap (λ n. suc n) (length-names fs)

-- ---- states

abbrev pub open_name : Option Part → List (List ℕ)
open_name None = []
open_name (Some p) = p.name ∷ []

abbrev pub open_lines : Option Part → ℕ
open_lines None = 0
open_lines (Some p) = 1 + length p.nodes

abbrev pub own_line : (version : ℕ) → ℕ
own_line version = if version == 2 then 1 else 0

-- before line n, behind the first line that says something
pub record Going (n : ℕ) (k : Known) (part : Option Part) : Type 0 where
  pub least : 1 ≤ k.version
  pub most : k.version ≤ 2
  pub funcs : formed_funcs k.version 0 k.funcs ≡ true
  pub single : k.closed ≡ false → singles k.version 0 k.funcs ≡ true
  pub shut : k.closed ≡ true → part ≡ None
  pub names : k.names ≡ func_names k.funcs ++ open_name part
  pub distinct : all_distinct k.names ≡ true
  pub lines : func_lines k.funcs + open_lines part + own_line k.version + 1 ≤ n
  pub few : func_lines k.funcs + open_lines part + own_line k.version ≤ 4096
  pub part_is : IfSome part (PartSound k.version (length k.funcs))

-- before line n
pub data Sound (n : ℕ) (s : State) : Type 0 where
  fresh : 1 ≤ n → s ≡ start → Sound n s
  going : Going n s.known s.part → Sound n s

pub start-sound : Sound 1 start
start-sound = fresh (omega arith) refl

going-more : (n : ℕ) (k : Known) (part : Option Part) → Going n k part → Going (n + 1) k part
going-more n k part g =
    let l = g.lines in
    record {
      least = g.least;
      most = g.most;
      funcs = g.funcs;
      single = g.single;
      shut = g.shut;
      names = g.names;
      distinct = g.distinct;
      lines = omega arith;
      few = g.few;
      part_is = g.part_is;
    }

-- a version, and nothing else
opened : (n version : ℕ) → 1 ≤ version → version ≤ 2 → own_line version + 1 ≤ n → Going n (of_version version start.known) None
opened n version a b l =
    let o : own_line version ≤ 1 = own-small version in
    record {
      least = a;
      most = b;
      funcs = refl;
      single = λ e. refl;
      shut = λ e. refl;
      names = refl;
      distinct = refl;
      lines = omega arith;
      few = omega arith;
      part_is = tt;
    }
  where
    own-by : (b : Bool) → (if b then 1 else 0) ≤ 1
    own-by true = omega arith
    own-by false = omega arith

    own-small : (v : ℕ) → own_line v ≤ 1
    own-small v = own-by (v == 2)

append-none : {A : Type 0} (xs : List A) → xs ++ [] ≡ xs
append-none [] = refl
append-none (x ∷ xs) = ap (λ ys. x ∷ ys) (append-none xs)

some-none : {A : Type 0} {x : A} → Some x ≡ None → ⊥
some-none h = cc

not-true : (b : Bool) → (b ≡ true → ⊥) → b ≡ false
not-true true h = absurd (h refl)
not-true false h = refl

began-going : (n : ℕ) (k : Known) (name : List ℕ) (s : State) → Going n k None → n ≤ 4096 → Placed n k None s → Going (n + 1) s.known s.part
began-going n k name s g low (noded p m w fs o args e a b c d f is) = absurd (some-none (sym e))
began-going n k name s g low (finished p fs rs e a b is) = absurd (some-none (sym e))
began-going n k name s g low (began m h fs e shut named new params is) =
    let l = g.lines in
    let t : Going (n + 1) (begun_state n k m h).known (begun_state n k m h).part = record {
      least = g.least;
      most = g.most;
      funcs = g.funcs;
      single = g.single;
      shut = λ c. absurd (let x = sym c ∙ shut in cc);
      names = ap (λ ns. ns ++ m ∷ []) (g.names ∙ append-none (func_names k.funcs));
      distinct = distinct-push k.names m g.distinct (sym (known-agree m k.names) ∙ new);
      lines = omega arith;
      few = omega arith;
      part_is = begun-sound k.version (length k.funcs) n m h named (few-params-sound k.version fs h params);
    } in
    subst (λ (x : State). Going (n + 1) x.known x.part) (sym is) t

inside-going : (n : ℕ) (k : Known) (p : Part) (s : State) → Going n k (Some p) → n ≤ 4096 → Placed n k (Some p) s → Going (n + 1) s.known s.part
inside-going n k p s g low (began m h fs e shut named new params is) = absurd (some-none e)
inside-going n k p s g low (noded q m w fs o args e named new op places many is) =
    let l = g.lines in
    let same : p ≡ q = some-is p q e in
    let r : PartSound k.version (length k.funcs) q = rw same at g.part_is in
    let len : length (q.nodes ++ record { name = m; op = o.0; args = args; line = n } ∷ []) ≡ length q.nodes + 1 = length-append q.nodes _ in
    let nodes : length p.nodes ≡ length q.nodes = ap (λ (x : Part). length x.nodes) same in
    let t : Going (n + 1) (node_state n k q m o.0 args).known (node_state n k q m o.0 args).part = record {
      least = g.least;
      most = g.most;
      funcs = g.funcs;
      single = g.single;
      shut = λ c. absurd (some-none (g.shut c));
      names = g.names ∙ ap (λ (x : Part). func_names k.funcs ++ x.name ∷ []) same;
      distinct = g.distinct;
      lines = omega arith;
      few = omega arith;
      part_is = node-sound k.version (length k.funcs) n q m o.0 args r named new (operator-sound k.version (length k.funcs) k.names w fs o op) many
          (places-below q.items [] o.1 args refl places);
    } in
    subst (λ (x : State). Going (n + 1) x.known x.part) (sym is) t
inside-going n k p s g low (finished q fs rs e places few is) =
    let l = g.lines in
    let same : p ≡ q = some-is p q e in
    let r : PartSound k.version (length k.funcs) q = rw same at g.part_is in
    let nodes : length p.nodes ≡ length q.nodes = ap (λ (x : Part). length x.nodes) same in
    let f : FuncTree = func_of n q rs in
    let singles_before = g.single (not-true k.closed (λ c. some-none (g.shut c))) in
    let below = places-below q.items [] fs rs refl places in
    let zero_first : length k.funcs ≡ 0 + length k.funcs = omega arith in
    let formed_so : formed_func k.version (length k.funcs) (most_results k.version []) f ≡ true = func-sound k.version (length k.funcs)
    (most_results k.version []) n q rs r few below in
    let pushed = lines-push k.funcs f in
    let t : Going (n + 1) (ended n k q rs).known (ended n k q rs).part = record {
      least = g.least;
      most = g.most;
      funcs = last-formed k.version 0 k.funcs f singles_before (ap (λ j. formed_func k.version j (most_results k.version []) f) (sym zero_first) ∙ formed_so);
      single = λ c.
          let low_results = ltb-false 1 (length rs) c in
          let a = leb-true 1 (length rs) (and-first _ _ few) in
          let one : within 1 1 (length rs) ≡ true = and-both _ _ (le-leb 1 (length rs) a) (le-leb (length rs) 1 (omega arith)) in
          singles-push k.version 0 k.funcs f singles_before (ap (λ j. formed_func k.version j 1 f) (sym zero_first) ∙
          func-sound k.version (length k.funcs) 1 n q rs r one below);
      shut = λ c. refl;
      names = g.names ∙ ap (λ (x : Part). func_names k.funcs ++ x.name ∷ []) same ∙ sym (func-names-push k.funcs f) ∙
          sym (append-none (func_names (k.funcs ++ f ∷ [])));
      distinct = g.distinct;
      lines = omega arith;
      few = omega arith;
      part_is = tt;
    } in
    subst (λ (x : State). Going (n + 1) x.known x.part) (sym is) t

placed-going : (n : ℕ) (k : Known) (part : Option Part) (s : State) → Going n k part → n ≤ 4096 → Placed n k part s → Going (n + 1) s.known s.part
placed-going n k None s g low p = began-going n k [] s g low p
placed-going n k (Some q) s g low p = inside-going n k q s g low p

-- one line further
pub step-sound : (n : ℕ) (s t : State) (fs : List (List ℕ)) → Sound n s → step n s fs ≡ Some t → Sound (n + 1) t
step-sound n s t fs h e = by (stepped n s fs t e) h
  where
    by : Stepped n s t → Sound n s → Sound (n + 1) t
    by (silent is) (fresh some st) = fresh (omega arith) (is ∙ st)
    by (silent is) (going g) = going (subst (λ (x : State). Going (n + 1) x.known x.part) (sym is) (going-more n s.known s.part g))
    by (versioned low z is) (fresh some st) =
        let i : t ≡ record { known = of_version 2 start.known; part = None } = is ∙
        ap (λ (x : State). record { known = of_version 2 x.known; part = x.part }) st in
        let g : Going (n + 1) (of_version 2 start.known) None = opened (n + 1) 2 (omega arith) (omega arith) (omega arith) in
        going (subst (λ (x : State). Going (n + 1) x.known x.part) (sym i) g)
    by (versioned low z is) (going g) = let l = g.least in absurd (omega arith)
    by (first low z p) (fresh some st) =
        let g : Going n (of_version 1 start.known) None = opened n 1 (omega arith) (omega arith) (omega arith) in
        let q : Placed n (of_version 1 start.known) None t = subst (λ (x : State). Placed n (of_version 1 x.known) x.part t) st p in
        going (placed-going n (of_version 1 start.known) None t g low q)
    by (first low z p) (going g) = let l = g.least in absurd (omega arith)
    by (later low z p) (fresh some st) = absurd (z (ap (λ (x : State). x.known.version) st))
    by (later low z p) (going g) = going (placed-going n s.known s.part t g low p)

pub line-sound : (n : ℕ) (s t : State) (l : List ℕ) → Sound n s → after_line n s l ≡ Some t → Sound (n + 1) t
line-sound n s t l h e = let w = where-some _ _ _ e in step-sound n s t (fields l) h w.1

-- ---- what is needed between two lines

pub few-names : (n : ℕ) (s : State) → Sound n s → length s.known.names < 4294967296
few-names n s (fresh some st) = let z : length s.known.names ≡ 0 = ap (λ (x : State). length x.known.names) st in omega arith
few-names n s (going g) =
    let l : length s.known.names ≡ length (func_names s.known.funcs) + length (open_name s.part) = ap length g.names ∙
    length-append (func_names s.known.funcs) (open_name s.part) in
    let a = length-names s.known.funcs in
    let b = lines-count s.known.funcs in
    let c : length (open_name s.part) ≤ 1 = one s.part in
    let f = g.few in
    omega arith
  where
    one : (o : Option Part) → length (open_name o) ≤ 1
    one None = omega arith
    one (Some p) = omega arith

items-few : (n : ℕ) (k : Known) (part : Option Part) → Going n k part → IfSome part (λ p. length p.items < 4294967296)
items-few n k None g = tt
items-few n k (Some p) g =
    let c = items-count k.version (length k.funcs) p g.part_is in
    let params = leb-true (length p.params) 8 (and-second (nat_le 1 (length p.params)) _ g.part_is.few) in
    let f = g.few in
    omega arith

pub few-items : (n : ℕ) (s : State) → Sound n s → IfSome s.part (λ p. length p.items < 4294967296)
few-items n s (fresh some st) = subst (λ (x : State). IfSome x.part (λ p. length p.items < 4294967296)) (sym st) tt
few-items n s (going g) = items-few n s.known s.part g

-- ---- at the end

end-formed : (n : ℕ) (k : Known) (part : Option Part) (funcs : List FuncTree) (p : ProgramTree) → k.funcs ≡ funcs → Going n k part
    → whole n k.version funcs part ≡ program p → formed p ≡ true
end-formed n k part [] p same g e = absurd cc
end-formed n k (Some q) (f ∷ fs) p same g e = absurd cc
end-formed n k None (f ∷ fs) p same g e =
    let is : record { version = k.version; funcs = f ∷ fs } ≡ p = program-is _ _ e in
    let few = g.few in
    let names : k.names ≡ func_names (f ∷ fs) = g.names ∙ append-none (func_names k.funcs) ∙ ap func_names same in
    let lines : func_lines k.funcs ≡ func_lines (f ∷ fs) = ap func_lines same in
    ap formed (sym is)
    ∙ and-both _ _ (and-both _ _ (and-both _ _ (and-both _ _ (and-both _ _ (le-leb 1 k.version g.least) (le-leb k.version 2 g.most))
    (le-leb 1 _ (omega arith))) (le-leb _ 4096 (omega arith)))
    (ap all_distinct (sym names) ∙ g.distinct)) (ap (formed_funcs k.version 0) (sym same) ∙ g.funcs)
  where
    program-is : (x y : ProgramTree) → program x ≡ program y → x ≡ y
    program-is x y h = cc

pub whole-formed : (n : ℕ) (s : State) (p : ProgramTree) → Sound n s → at_end n s ≡ program p → formed p ≡ true
whole-formed n s p (fresh some st) e = absurd (let x = sym (ap (at_end n) st) ∙ e in cc)
whole-formed n s p (going g) e = end-formed n s.known s.part s.known.funcs p refl g e
