-- A text that is read as a program says no other.
use Rattle.std.proofs.Common.{◌≡◌, ℕ, zero, suc, ◌+◌, ◌^◌, ◌<◌, ◌≤◌, Bool, true, false, not, ◌&&◌, ◌==◌, nat_le, nat_lt, List, [], ◌∷◌, ◌++◌, length, map, get_or, Option, Some, None, IfSome, option_map, if◌then◌else◌, refl, sym, ap, ◌∙◌, subst, arith, append_assoc, append-nil, codes, length-append}
use Rattle.std.proofs.lemmas.Bool.{le-leb, leb-true, ltb-true}
use Rattle.std.proofs.lemmas.List.Quantifiers.{position-Some}
use Rattle.std.specs.Fmt.{decimal}
use Rattle.std.specs.Str.{all_ascii_digits, bytes_eq}
use Rattle.std.specs.Str.Parse.{digits_value}
use Rattle.ae_seq.specs.ProgramTree.{const, NodeTree, FuncTree, ProgramTree}
use Rattle.ae_seq.specs.Formed.{all_below, all_distinct, all_names, formed_func, formed_funcs, formed_nodes, func_names, has_arguments, is_line, is_name, item_count, most_results, node_names, param_names, within, line_count}
use Rattle.ae_fields.specs.Cut.{lines, said, fields}
use Rattle.ae_fields.specs.Grammar.{Known, Part, State, Head, program, start, reading_from, step, first_line, after_line, by_part, begun, begin_named, params_of, node, node_with, finish, whole, at_end, by_state, of_version, places_after}
use Rattle.ae_fields.specs.Number.{is_numeral, numeral_value}
use Rattle.ae_seq.specs.Typing.{where_ok, ◌>>=◌}
use Rattle.ae_fields.specs.Parts.{is_mark}
use Rattle.ae_print.specs.Printed.{end_fields, funcs_fit, item_names, name_at, node_fields, nodes_fit, op_fields, param_field, words_fit}
use Rattle.ae_fields.specs.Scopes.{place}
use Rattle.ae_fields.specs.TypeForm.{type_of}
use Rattle.ae_fields.specs.Words.{const_from, with_arguments, words_after}
use Rattle.ae_print.proofs.LineRead.{Extends, NodeFits, extends-append, funcs-found, node-read, step-later}
use Rattle.ae_fields.proofs.NameForms.{distinct-front, distinct-new}
use Rattle.ae_print.proofs.OpRead.{FuncsFound}
use Rattle.ae_fields.proofs.OptionLemmas.{bind-some, map-some, where-some, some-is}
use Rattle.ae_parse.proofs.PartSound.{PartSound}
use Rattle.ae_fields.proofs.PlainLemmas.{number-of-decimal}
use Rattle.ae_fields.proofs.PlainOf.{same-bytes}
use Rattle.ae_print.proofs.ProgramRead.{FuncFits, IsOpen, end-read, func-fits, head-read, length-nodes, length-params, most-all, no-version, opened, open-first, still-open}
use Rattle.ae_parse.proofs.Soundness.{Sound, fresh, going, start-sound, line-sound}
use Rattle.ae_fields.proofs.StepCases.{begun_state, node_state}
use Rattle.ae_says.specs.Laws.{TextsSayOne}
use Rattle.ae_says.specs.Says.{AreLines, IsLine, IsVersion, Line, func_said, line_at, node_said, one, plain, said_from, same, two, zeros}
use Rattle.ae_says.proofs.Funcs.{funcs_said}
use Rattle.ae_seq.proofs.Judging.{left as and-first, right as and-second}
use Rattle.ae_fields.proofs.PartLemmas.{and-both}

-- ---- a constant's words without the zeros before them are read the same

pub small-number : (v n : ℕ) (b : Bool) → nat_lt v (2 ^ 64) ≡ b → (if b then Some v else None) ≡ Some n → (v ≡ n) × (v < 2 ^ 64)
small-number v n true h g = (some-is v n g, ltb-true v (2 ^ 64) h)
small-number v n false h g = absurd cc

pub plain-number : (f : List ℕ) (n : ℕ) → numeral_value f ≡ Some n → numeral_value (plain f) ≡ Some n
plain-number f n e = by (is_numeral f) refl e
  where
    by : (b : Bool) → is_numeral f ≡ b → (if b then (if nat_lt (digits_value 10 f) (2 ^ 64) then Some (digits_value 10 f) else None) else None) ≡ Some n
        → numeral_value (plain f) ≡ Some n
    by false h g = absurd cc
    by true h g =
        let s = small-number (digits_value 10 f) n (nat_lt (digits_value 10 f) (2 ^ 64)) refl g in
        let digits : all_ascii_digits f ≡ true = and-second (nat_le 1 (length f) && nat_le (length f) 20) _ h in
        let is : plain f ≡ decimal (digits_value 10 f) = ap (λ b. if b then decimal (digits_value 10 f) else f) digits in
        number-of-decimal (plain f) n (subst (λ k. k < 2 ^ 64) s.0 s.1) (is ∙ ap decimal s.0)

pub words-plain : (before : List ℕ) (ws : List (List ℕ)) (vs : List ℕ) → words_after before ws ≡ Some vs → words_after before (map plain ws) ≡ Some vs
words-plain before [] vs e = e
words-plain before (f ∷ fs) vs e =
    let a = bind-some (numeral_value f) _ _ e in
    ap (λ o. o >>= λ n. words_after (before ++ n ∷ []) (map plain fs)) (plain-number f a.0 a.1) ∙ words-plain (before ++ a.0 ∷ []) fs vs a.2

-- ---- the names of items are names

abbrev pub ItemsNamed : Option Part → Type 0
ItemsNamed None = Unit {0}
ItemsNamed (Some p) = all_names p.items ≡ true

pub items-named : (n : ℕ) (s : State) → Sound n s → ItemsNamed s.part
items-named n s (fresh some st) = subst (λ (x : State). ItemsNamed x.part) (sym st) tt
items-named n s (going g) = of s.part g.part_is
  where
    of : (o : Option Part) → IfSome o (PartSound s.known.version (length s.known.funcs)) → ItemsNamed o
    of None h = tt
    of (Some p) h = h.named

named-at : (ns : List (List ℕ)) (k : ℕ) → all_names ns ≡ true → k < length ns → is_name (get_or ns k []) ≡ true
named-at [] k h low = absurd (omega arith)
named-at (m ∷ ms) zero h low = and-first _ _ h
named-at (m ∷ ms) (suc k) h low = named-at ms k (and-second (is_name m) _ h) (omega arith)

pub no-equals : {A : Type 0} (items : List (List ℕ)) (k : ℕ) → all_names items ≡ true → place (codes "=") items ≡ Some k → A
no-equals items k h e =
    let p = position-Some (bytes_eq (codes "=")) items k [] e in
    let bad : is_name (codes "=") ≡ true = ap is_name (same-bytes (codes "=") (get_or items k []) p.1) ∙ named-at items k h p.0 in
    absurd cc

-- ---- a line and how it is written

abbrev pub const_rest : (type : List ℕ) → List (List ℕ) → List (List ℕ)
const_rest type ws = codes "=" ∷ codes "const" ∷ type ∷ ws

-- a constant's line, by its words
abbrev pub by_words : (n : ℕ) → Known → Part → (name type : List ℕ) → Option (List ℕ) → Option State
by_words n k p name type o =
    where_ok (bytes_eq (codes "=") (codes "=") && is_name name)
    (with_arguments [] (type_of k.version type >>= λ u. option_map (λ vs. const u vs) o) >>= node_with n k p name)

part-plain : (n : ℕ) (k : Known) (part : Option Part) (name type : List ℕ) (ws : List (List ℕ)) (t : State) → ItemsNamed part
    → by_part n k part name (const_rest type ws) ≡ Some t → by_part n k part name (const_rest type (map plain ws)) ≡ Some t
part-plain n k None name type ws t h e =
    let a = where-some (bytes_eq name (codes "fn") && not k.closed) (begin_named n k (codes "=") (codes "const" ∷ type ∷ ws)) t e in
    let b = where-some (is_name (codes "=")) (params_of k.version (codes "const" ∷ type ∷ ws) >>= begun n k (codes "=")) t a.1 in
    let bad : true ≡ false = sym b.0 in
    absurd cc
part-plain n k (Some p) name type ws t h e = by (bytes_eq name (codes "end")) e
  where
    by : (b : Bool) → (if b then finish n k p (const_rest type ws) else node n k p name (const_rest type ws)) ≡ Some t
        → (if b then finish n k p (const_rest type (map plain ws)) else node n k p name (const_rest type (map plain ws))) ≡ Some t
    by true g =
        let a = bind-some (places_after p.items [] (const_rest type ws)) _ _ g in
        let c = bind-some (place (codes "=") p.items) _ _ a.1 in
        no-equals p.items c.0 h c.1
    by false g =
        let a = where-some _ _ _ g in
        let b = bind-some (with_arguments [] (const_from k.version type ws)) _ _ a.1 in
        let c = map-some _ (const_from k.version type ws) _ b.1 in
        let d = bind-some (type_of k.version type) _ _ c.1 in
        let f = map-some (λ vs. const d.0 vs) (words_after [] ws) _ d.2 in
        ap (by_words n k p name type) (words-plain [] ws f.0 f.1 ∙ sym f.1) ∙ g

step-plain : (n : ℕ) (s t : State) (name type : List ℕ) (ws : List (List ℕ)) → ItemsNamed s.part → step n s (name ∷ const_rest type ws) ≡ Some t
    → step n s (name ∷ const_rest type (map plain ws)) ≡ Some t
step-plain n s t name type ws h e =
    let a = where-some (nat_le n 4096) _ _ e in
    ap (λ b. where_ok b (if s.known.version == 0 then first_line n s name (const_rest type (map plain ws)) else by_part n s.known s.part name
    (const_rest type (map plain ws)))) a.0 ∙ by (s.known.version == 0) a.1
  where
    by : (b : Bool) → (if b then first_line n s name (const_rest type ws) else by_part n s.known s.part name (const_rest type ws)) ≡ Some t
        → (if b then first_line n s name (const_rest type (map plain ws)) else by_part n s.known s.part name (const_rest type (map plain ws))) ≡ Some t
    by true g = part-plain n (of_version 1 s.known) s.part name type ws t h g
    by false g = part-plain n s.known s.part name type ws t h g

step-written : (n : ℕ) (s t : State) (fs gs : List (List ℕ)) → ItemsNamed s.part → IsLine fs gs → step n s fs ≡ Some t → step n s gs ≡ Some t
step-written n s t fs gs h (same e) g = ap (step n s) (sym e) ∙ g
step-written n s t fs gs h (zeros name type ws a b) g = ap (step n s) b ∙ step-plain n s t name type ws h (ap (step n s) (sym a) ∙ g)

-- ---- the lines of a text that is read

abbrev pub runs : List Line → State → Option State
runs [] s = Some s
runs (l ∷ ls) s = step l.number s l.fields >>= runs ls

abbrev pub AllLow : List Line → Type 0
AllLow [] = Unit {0}
AllLow (l ∷ ls) = (l.number ≤ 4096) × AllLow ls

-- the lines are read in turn, and then there is the program
record Written (ws : List Line) (s : State) (q : ProgramTree) : Type 0 where
  last : State
  are : runs ws s ≡ Some last
  ends : (m : ℕ) → at_end m last ≡ program q
  low : AllLow ws

any-end : (n m version : ℕ) (fs : List FuncTree) (part : Option Part) (q : ProgramTree) → whole n version fs part ≡ program q
    → whole m version fs part ≡ program q
any-end n m version [] part q e = absurd cc
any-end n m version (f ∷ fs) None q e = e
any-end n m version (f ∷ fs) (Some p) q e = absurd cc

at-an-end : (n : ℕ) (ws : List Line) (s : State) (q : ProgramTree) → AreLines [] ws → at_end n s ≡ program q → Written ws s q
at-an-end n [] s q are e = record { last = s; are = refl; ends = λ m. any-end n m s.known.version s.known.funcs s.part q e; low = tt }
at-an-end n (w ∷ ws) s q are e = absurd are

one-line : (n : ℕ) (s t : State) (q : ProgramTree) (later ws : List Line) (fs : List (List ℕ)) → ItemsNamed s.part → step n s fs ≡ Some t
    → AreLines (line_at n fs ++ later) ws
    → ((vs : List Line) → AreLines later vs → Written vs t q) → Written ws s q
one-line n s t q later ws [] h e are rest = subst (λ x. Written ws x q) (sym (some-is s t e)) (rest ws are)
one-line n s t q later [] (f ∷ fs) h e are rest = absurd are
one-line n s t q later (w ∷ vs) (f ∷ fs) h e are rest =
    let r = rest vs are.2 in
    let own : step w.number s w.fields ≡ Some t = ap (λ k. step k s w.fields) (sym are.0) ∙ step-written n s t (f ∷ fs) w.fields h are.1 e in
    let low = where-some (nat_le n 4096) _ _ e in
    record {
      last = r.last;
      are = ap (λ o. o >>= runs vs) own ∙ r.are;
      ends = r.ends;
      low = (subst (λ k. k ≤ 4096) are.0 (leb-true n 4096 low.0), r.low);
    }

reading-written : (ls : List (List ℕ)) (ws : List Line) (n : ℕ) (s : State) (q : ProgramTree) → Sound n s → AreLines (said_from n ls) ws
    → reading_from ls n s ≡ program q → Written ws s q
reading-written [] ws n s q sound are e = at-an-end n ws s q are e
reading-written (l ∷ ls) ws n s q sound are e = by (is_mark (fields (said l))) are e (reading-written ls)
  where
    later : (o : Option State) → after_line n s (said l) ≡ o → AreLines (line_at n (fields (said l)) ++ said_from (n + 1) ls) ws
        → by_state n o (reading_from ls (n + 1)) ≡ program q
        → ((vs : List Line) (m : ℕ) (t : State) (r : ProgramTree) → Sound m t → AreLines (said_from m ls) vs → reading_from ls m t ≡ program r
        → Written vs t r) → Written ws s q
    later None a are g rest = absurd cc
    later (Some t) a are g rest =
        let w = where-some _ _ _ a in
        one-line n s t q (said_from (n + 1) ls) ws (fields (said l)) (items-named n s sound) w.1 are
        (λ vs here. rest vs (n + 1) t q (line-sound n s t (said l) sound a) here g)

    by : (b : Bool) → AreLines (if b then [] else line_at n (fields (said l)) ++ said_from (n + 1) ls) ws
        → (if b then at_end n s else by_state n (after_line n s (said l)) (reading_from ls (n + 1))) ≡ program q
        → ((vs : List Line) (m : ℕ) (t : State) (r : ProgramTree) → Sound m t → AreLines (said_from m ls) vs → reading_from ls m t ≡ program r
        → Written vs t r) → Written ws s q
    by true are g rest = at-an-end n ws s q are g
    by false are g rest = later (after_line n s (said l)) refl are g rest

-- ---- the lines of a formed program are read as it

pub low-parts : (xs ys : List Line) → AllLow (xs ++ ys) → AllLow xs × AllLow ys
low-parts [] ys h = (tt, h)
low-parts (x ∷ xs) ys h = let r = low-parts xs ys h.1 in ((h.0, r.0), r.1)

nodes-run : (ms : List NodeTree) (k : Known) (p : Part) (all items : List (List ℕ)) (rest : List Line) → (k.version == 0) ≡ false
    → FuncsFound (length k.funcs) all k.names → items ≡ p.items ++ node_names ms → all_distinct items ≡ true
    → formed_nodes k.version (length k.funcs) (length p.items) ms ≡ true → all_names (node_names ms) ≡ true → nodes_fit ms ≡ true
    → AllLow (map (node_said all items) ms)
    → runs (map (node_said all items) ms ++ rest) (record { known = k; part = Some p })
    ≡ runs rest (record {
      known = k;
      part = Some (record {
        name = p.name;
        params = p.params;
        nodes = p.nodes ++ ms;
        items = p.items ++ node_names ms;
        line = p.line;
      });
    })
nodes-run [] k p all items rest v found is d f names fit low =
    λ i. runs rest (record {
      known = k;
      part = Some (record {
        name = p.name;
        params = p.params;
        nodes = sym (append-nil p.nodes) i;
        items = sym (append-nil p.items) i;
        line = p.line;
      });
    })
nodes-run (m ∷ ms) k p all items rest v found is d f names fit low =
    let line = and-first _ _ f in
    let line2 = and-first _ _ line in
    let own_distinct : all_distinct (p.items ++ m.name ∷ node_names ms) ≡ true = ap all_distinct (sym is) ∙ d in
    let node_fits : NodeFits k p all items m = record {
      found = found;
      extends = λ j h. ap (λ ns. name_at ns j) is ∙ extends-append p.items (m.name ∷ node_names ms) j h;
      distinct = distinct-front p.items (m.name ∷ node_names ms) own_distinct;
      new = distinct-new p.items m.name (node_names ms) own_distinct;
      name = and-first _ _ names;
      line = and-first _ _ line2;
      fit = and-first _ _ fit;
      many = and-second (is_line k.version (length k.funcs) m.op) _ line2;
      below = and-second (is_line k.version (length k.funcs) m.op && has_arguments m.op (length m.args)) _ line;
    } in
    let q : Part = record { name = p.name; params = p.params; nodes = p.nodes ++ m ∷ []; items = p.items ++ m.name ∷ []; line = p.line } in
    let more : p.items ++ m.name ∷ node_names ms ≡ q.items ++ node_names ms = sym (append_assoc p.items (m.name ∷ []) (node_names ms)) in
    let count : length q.items ≡ length p.items + 1 = length-append p.items (m.name ∷ []) in
    let later : formed_nodes k.version (length k.funcs) (length p.items + 1) ms ≡ true = and-second
    (is_line k.version (length k.funcs) m.op && has_arguments m.op (length m.args) && all_below (length p.items) m.args) _ f in
    let own : step m.line (record { known = k; part = Some p }) (node_fields all items m) ≡ Some (node_state m.line k p m.name m.op m.args) =
    step-later m.line (record { known = k; part = Some p }) m.name (codes "=" ∷ (op_fields all m.op ++ map (name_at items) m.args)) low.0 v ∙
    node-read m.line k p all items m node_fits in
    ap (λ o. o >>= runs (map (node_said all items) ms ++ rest)) own
    ∙ nodes-run ms k q all items rest v found (is ∙ more) d (ap (λ j. formed_nodes k.version (length k.funcs) j ms) count ∙ later)
    (and-second (is_name m.name) _ names) (and-second (words_fit m.op) _ fit) low.1
    ∙ (λ i. runs rest (record {
      known = k;
      part = Some (record {
        name = p.name;
        params = p.params;
        nodes = append_assoc p.nodes (m ∷ []) ms i;
        items = sym more i;
        line = p.line;
      });
    }))

-- what is known behind a function
abbrev known_behind : Known → FuncTree → Known
known_behind k f = record { version = k.version; closed = nat_lt 1 (length f.results); funcs = k.funcs ++ f ∷ []; names = k.names ++ f.name ∷ [] }

func-run : (most : ℕ) (k : Known) (f : FuncTree) (all : List (List ℕ)) (rest : List Line) → (k.version == 0) ≡ false → k.closed ≡ false
    → FuncFits k.version (length k.funcs) most f → most ≤ most_results k.version [] → nodes_fit f.nodes ≡ true
    → Extends all (k.names ++ f.name ∷ []) → all_distinct (k.names ++ f.name ∷ []) ≡ true → length k.names ≡ length k.funcs → AllLow (func_said all f)
    → runs (func_said all f ++ rest) (record { known = k; part = None }) ≡ runs rest (record { known = known_behind k f; part = None })
func-run most k f all rest v shut fits less fit x d as_many low =
    let items = item_names f in
    let e : Line = record { number = f.end_line; fields = end_fields items f.results } in
    let body : List Line = map (node_said all items) f.nodes in
    let head : Head = record { params = f.params; items = param_names f.params } in
    let s = begun_state f.line k f.name head in
    let p : Part = record { name = f.name; params = f.params; nodes = []; items = param_names f.params; line = f.line } in
    let q : Part = record { name = f.name; params = f.params; nodes = f.nodes; items = items; line = f.line } in
    let named = length-append k.names (f.name ∷ []) in
    let found : FuncsFound (length k.funcs) all (k.names ++ f.name ∷ []) = funcs-found (length k.funcs) all (k.names ++ f.name ∷ []) x d (omega arith) in
    let count : length items ≡ item_count f = length-append (param_names f.params) (node_names f.nodes) ∙
    (λ i. length-params f.params i + length-nodes f.nodes i) in
    let high = leb-true (length f.results) most (and-second (nat_le 1 (length f.results)) _ fits.results) in
    let few : within 1 (most_results k.version []) (length f.results) ≡ true = and-both _ _ (and-first _ _ fits.results)
    (le-leb (length f.results) (most_results k.version []) (omega arith)) in
    let lows = low-parts body (e ∷ []) low.1 in
    ap (λ o. o >>= runs ((body ++ e ∷ []) ++ rest)) (step-later f.line (record { known = k; part = None }) (codes "fn")
    (f.name ∷ map param_field f.params) low.0 v ∙ head-read f.line k f (length k.funcs) most shut fits (distinct-new k.names f.name [] d))
    ∙ ap (λ ls. runs ls s) (append_assoc body (e ∷ []) rest)
    ∙ nodes-run f.nodes s.known p all items (e ∷ rest) v found refl fits.distinct
    (ap (λ j. formed_nodes k.version (length k.funcs) j f.nodes) (length-params f.params) ∙ fits.nodes) fits.node_names_are fit lows.0
    ∙ ap (λ o. o >>= runs rest) (step-later f.end_line (record { known = s.known; part = Some q }) (codes "end") (map (name_at items) f.results) lows.1.0 v
    ∙ end-read f.end_line s.known q items f.results (λ j h. refl) fits.distinct (ap (λ j. all_below j f.results) count ∙ fits.below) few)

-- behind functions
pub record Behind (ls : List Line) (k : Known) (fs : List FuncTree) : Type 0 where
  pub last : State
  pub are : runs ls (record { known = k; part = None }) ≡ Some last
  pub part : last.part ≡ None
  pub version : last.known.version ≡ k.version
  pub funcs : last.known.funcs ≡ k.funcs ++ fs

pub funcs-run : (fs : List FuncTree) (k : Known) (all : List (List ℕ)) → (k.version == 0) ≡ false → IsOpen k fs → length k.names ≡ length k.funcs
    → all ≡ k.names ++ func_names fs → all_distinct all ≡ true
    → formed_funcs k.version (length k.funcs) fs ≡ true → funcs_fit fs ≡ true → AllLow (funcs_said all fs) → Behind (funcs_said all fs) k fs
funcs-run [] k all v shut as_many is d fine fit low =
    record { last = record { known = k; part = None }; are = refl; part = refl; version = refl; funcs = sym (append-nil k.funcs) }
funcs-run (f ∷ fs) k all v shut as_many is d fine fit low =
    let most = most_results k.version fs in
    let fits = func-fits k.version (length k.funcs) most f (and-first _ _ fine) in
    let next = known_behind k f in
    let front : all ≡ (k.names ++ f.name ∷ []) ++ func_names fs = is ∙ sym (append_assoc k.names (f.name ∷ []) (func_names fs)) in
    let x : Extends all (k.names ++ f.name ∷ []) = λ j h. ap (λ ns. name_at ns j) front ∙ extends-append (k.names ++ f.name ∷ []) (func_names fs) j h in
    let d_front : all_distinct (k.names ++ f.name ∷ []) ≡ true = distinct-front (k.names ++ f.name ∷ []) (func_names fs) (ap all_distinct (sym front) ∙ d) in
    let more_funcs : length next.funcs ≡ length k.funcs + 1 = length-append k.funcs (f ∷ []) in
    let more_names : length next.names ≡ length k.names + 1 = length-append k.names (f.name ∷ []) in
    let lows = low-parts (func_said all f) (funcs_said all fs) low in
    let r = funcs-run fs next all v (still-open k 0 f fs fits.results) (omega arith) front d
    (ap (λ j. formed_funcs k.version j fs) more_funcs ∙ and-second (formed_func k.version (length k.funcs) most f) _ fine)
    (and-second (nodes_fit f.nodes) _ fit) lows.1 in
    record {
      last = r.last;
      are = func-run most k f all (funcs_said all fs) v shut fits (most-all k.version fs) (and-first _ _ fit) x d_front as_many lows.0 ∙ r.are;
      part = r.part;
      version = r.version;
      funcs = r.funcs ∙ append_assoc k.funcs (f ∷ []) fs;
    }

-- ---- the whole

low-yes : (n : ℕ) → n ≤ 4096 → nat_le n 4096 ≡ true
low-yes n h = le-leb n 4096 h

-- behind the line of version 2, or at the first function line of version 1
pub opened-runs : (version : ℕ) (first : List Line) (all : List (List ℕ)) (fs : List FuncTree) → IsVersion version first → 1 ≤ length fs
    → AllLow (first ++ funcs_said all fs)
    → runs (first ++ funcs_said all fs) start ≡ runs (funcs_said all fs) (record { known = opened version; part = None })
opened-runs version first all [] h some low = absurd (omega arith)
opened-runs version first all (f ∷ fs) one some low =
    let later : List Line = (map (node_said all (item_names f)) f.nodes ++ record { number = f.end_line; fields = end_fields (item_names f) f.results } ∷ [])
    ++ funcs_said all fs in
    ap (λ t. where_ok (nat_le f.line 4096) (if t then Some (record { known = of_version 2 start.known; part = None }) else by_part f.line
    (of_version 1 start.known) None (codes "fn") (f.name ∷ map param_field f.params)) >>= runs later)
    (no-version f.name (map param_field f.params))
opened-runs version first all (f ∷ fs) (two n) some low =
    ap (λ b. where_ok b (Some (record { known = of_version 2 start.known; part = None })) >>= runs (funcs_said all (f ∷ fs))) (low-yes n low.0)

pub version-some : (version : ℕ) (first : List Line) → IsVersion version first → (version == 0) ≡ false
version-some version first one = refl
version-some version first (two n) = refl

pub whole-is : (m : ℕ) (t : State) (p : ProgramTree) → 1 ≤ length p.funcs → t.part ≡ None → t.known.version ≡ p.version → t.known.funcs ≡ p.funcs
    → at_end m t ≡ program p
whole-is m t p some part version funcs = (λ i. whole m (version i) (funcs i) (part i)) ∙ by p.funcs some
  where
    by : (fs : List FuncTree) → 1 ≤ length fs → whole m p.version fs None ≡ program (record { version = p.version; funcs = fs })
    by [] h = absurd (omega arith)
    by (f ∷ fs) h = refl

pub once : TextsSayOne
once text p q read says fine fit =
    let all = func_names p.funcs in
    let a = and-first (within 1 2 p.version && nat_le 1 (length p.funcs) && nat_le (line_count p) 4096 && all_distinct all) _ fine in
    let b = and-first (within 1 2 p.version && nat_le 1 (length p.funcs) && nat_le (line_count p) 4096) _ a in
    let some : 1 ≤ length p.funcs = leb-true 1 (length p.funcs)
    (and-second (within 1 2 p.version) _ (and-first (within 1 2 p.version && nat_le 1 (length p.funcs)) _ b)) in
    let distinct : all_distinct all ≡ true = and-second (within 1 2 p.version && nat_le 1 (length p.funcs) && nat_le (line_count p) 4096) _ a in
    let funcs : formed_funcs p.version 0 p.funcs ≡ true = and-second
    (within 1 2 p.version && nat_le 1 (length p.funcs) && nat_le (line_count p) 4096 && all_distinct all) _ fine in
    let w = reading-written (lines text) (says.first ++ funcs_said all p.funcs) 1 start q start-sound says.lines read in
    let lows = low-parts says.first (funcs_said all p.funcs) w.low in
    let r = funcs-run p.funcs (opened p.version) all (version-some p.version says.first says.version)
    (open-first p.version p.funcs) refl refl distinct funcs fit lows.1 in
    let last : w.last ≡ r.last = some-is w.last r.last (sym w.are ∙ opened-runs p.version says.first all p.funcs says.version some w.low ∙ r.are) in
    let own : at_end 0 r.last ≡ program p = whole-is 0 r.last p some r.part r.version r.funcs in
    same-program p q (sym own ∙ ap (at_end 0) (sym last) ∙ w.ends 0)
  where
    same-program : (x y : ProgramTree) → program x ≡ program y → x ≡ y
    same-program x y h = cc
