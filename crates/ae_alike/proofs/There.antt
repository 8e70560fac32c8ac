-- Where no line fails there is a schedule: what a function calls under its budget, each once, and then itself.
use Rattle.std.proofs.Common.{◌≡◌, ℕ, zero, suc, ◌+◌, ◌-◌, ◌<◌, ◌≤◌, ◌⊎◌, inl, inr, Bool, true, false, IsTrue, List, [], ◌∷◌, ◌++◌, length, map, Option, Some, None, slice_get, refl, arith, sym, ap, ◌∙◌, subst, length-append, if◌then◌else◌}
use Rattle.std.proofs.lemmas.Bool.{cases_eq, cases_lt}
use Rattle.std.proofs.lemmas.Option.{none-some, same_Some}
use Rattle.ae_seq.specs.Formed.{formed}
use Rattle.ae_seq.specs.ProgramTree.{ProgramTree, FuncTree, NodeTree, ParamTree}
use Rattle.ae_sttype.specs.StTree.{StTree}
use Rattle.ae_rewrite.specs.LayoutRule.{lay_of}
use Rattle.ae_rewrite.specs.declared.calls.Call.{Call}
use Rattle.ae_rewrite.specs.Calls.{called_by, layout_at, plain_op}
use Rattle.ae_rewrite.specs.StProgramTree.{StOpTree, body, StNodeTree, StFuncTree}
use Rattle.ae_rewrite.specs.Scheduled.{HasKey, IsOp, IsReached, AreStNodes, IsInstance, as_called, as_program, copies_of, param_layouts}
use Rattle.ae_rewrite.specs.FailingLine.{failing, func_line, node_line, nodes_line, or_line, params_laid, unless_laid, call_line}
use Rattle.ae_rewrite.specs.Planned.{AreLaid}
use Rattle.ae_rewrite.proofs.Forms.{some-funcs}
use Rattle.ae_rewrite.proofs.Items.{plain-there}
use Rattle.ae_rewrite.proofs.Lines.{called-above, failing_is}
use Rattle.ae_rewrite.proofs.Params.{params-are-laid}
use Rattle.ae_rewrite.proofs.Planning.{AreRight, Covers, IsOnce, key-cases, key-new, once-more, right-more}
use Rattle.ae_eval.proofs.Items.{entry-at}
use Rattle.ae_alike.specs.There.{SchedulesAreThere}

-- ---- keys

record Has (all : List StFuncTree) (func budget : ℕ) : Type 0 where
  at : ℕ
  key : HasKey all at func budget

later-key : (s : StFuncTree) (ss : List StFuncTree) (k f u : ℕ) → HasKey ss k f u → HasKey (s ∷ ss) (suc k) f u
later-key s ss k f u x = record { instance = x.instance; here = x.here; is_func = x.is_func; is_budget = x.is_budget }

no-key : (s : StFuncTree) (ss : List StFuncTree) (f u : ℕ) → (s.func ≡ f → s.budget ≡ u → ⊥) → ((k : ℕ) → HasKey ss k f u → ⊥) → (k : ℕ)
    → HasKey (s ∷ ss) k f u → ⊥
no-key s ss f u other none zero x =
    let e : s ≡ x.instance = same_Some s x.instance x.here in
    other (ap (λ (y : StFuncTree). y.func) e ∙ x.is_func) (ap (λ (y : StFuncTree). y.budget) e ∙ x.is_budget)
no-key s ss f u other none (suc k) x = none k (record { instance = x.instance; here = x.here; is_func = x.is_func; is_budget = x.is_budget })

find-key : (all : List StFuncTree) (f u : ℕ) → Has all f u ⊎ ((k : ℕ) → HasKey all k f u → ⊥)
find-key [] f u = inr (λ k x. none-some x.instance x.here)
find-key (s ∷ ss) f u = elim (find-key ss f u) [
  | inl there ↦ inl (record { at = suc there.at; key = later-key s ss there.at f u there.key })
  | inr none ↦ elim (cases_eq s.func f) [
    | inl is_f ↦ elim (cases_eq s.budget u) [
      | inl is_u ↦ inl (record { at = 0; key = record { instance = s; here = refl; is_func = is_f; is_budget = is_u } })
      | inr ne ↦ inr (no-key s ss f u (λ a b. ne b) none)
    ]
    | inr ne ↦ inr (no-key s ss f u (λ a b. ne a) none)
  ]
]

key-stays : (all : List StFuncTree) (s : StFuncTree) → Covers (HasKey all) (HasKey (all ++ s ∷ []))
key-stays [] s k f u x = absurd (none-some x.instance x.here)
key-stays (t ∷ ts) s zero f u x = record { instance = x.instance; here = x.here; is_func = x.is_func; is_budget = x.is_budget }
key-stays (t ∷ ts) s (suc k) f u x =
    later-key t (ts ++ s ∷ []) k f u (key-stays ts s k f u (record { instance = x.instance; here = x.here; is_func = x.is_func; is_budget = x.is_budget }))

-- ---- layouts

or-none : (o p : Option ℕ) → or_line o p ≡ None → (o ≡ None) × (p ≡ None)
or-none None p h = (refl, h)
or-none (Some l) p h = absurd (none-some l (sym h))

is-laid : (o : Option StTree) (line : ℕ) (later : Option ℕ) → unless_laid o line later ≡ None → (s : StTree) × (o ≡ Some s) × (later ≡ None)
is-laid None line later h = absurd (none-some line (sym h))
is-laid (Some s) line later h = (s, refl, h)

if-fine : (b : Bool) (later : Option ℕ) (line : ℕ) → (if b then later else Some line) ≡ None → (b ≡ true) × (later ≡ None)
if-fine true later line h = (refl, h)
if-fine false later line h = absurd (none-some line (sym h))

all-laid : (clocks : ℕ) (ps : List ParamTree) → params_laid clocks ps ≡ true → (ins : List StTree)
    × (param_layouts clocks ps ≡ map (λ (s : StTree). Some s) ins)
all-laid clocks [] h = ([], refl)
all-laid clocks (q ∷ ps) h = by (lay_of q.type clocks) refl (all-laid clocks ps)
  where
    by : (o : Option StTree) → lay_of q.type clocks ≡ o → (params_laid clocks ps ≡ true → (ins : List StTree)
        × (param_layouts clocks ps ≡ map (λ (s : StTree). Some s) ins))
        → (ins : List StTree) × (lay_of q.type clocks ∷ param_layouts clocks ps ≡ map (λ (s : StTree). Some s) ins)
    by None e rest = absurd (let x = h in cc)
    by (Some s) e rest = (let r = rest (let x = h in cc) in (s ∷ r.0, λ i. e i ∷ r.1 i))

laid-more : (p : ProgramTree) (f u i : ℕ) (s : StTree) → AreLaid p f u i → layout_at p f u i ≡ Some s → AreLaid p f u (i + 1)
laid-more p f u i s all e j below none = elim (cases_lt j i) [
  | inl low ↦ all j low none
  | inr high ↦ (let same : j ≡ i = omega arith in none-some s (sym none ∙ ap (layout_at p f u) same ∙ e))
]

-- ---- schedules of parts of a program

module _ (p : ProgramTree) (slowdown : ℕ) (fine : IsTrue (formed p)) where
  record IsPart (all : List StFuncTree) : Type 0 where
    right : AreRight p all
    once : IsOnce all
    reached : (k f u : ℕ) → HasKey all k f u → IsReached p slowdown f u

  -- more instances, those that are added of functions below a number
  record Grows (old new : List StFuncTree) (bound : ℕ) : Type 0 where
    part : IsPart new
    kept : Covers (HasKey old) (HasKey new)
    low : (k f u : ℕ) → HasKey new k f u → Has old f u ⊎ (f < bound)

  record Made (old : List StFuncTree) (f u : ℕ) : Type 0 where
    new : List StFuncTree
    grows : Grows old new (f + 1)
    has : Has new f u

  -- a function that is reached can be added
  abbrev CanBeMade : ℕ → Type 0
  CanBeMade f = (u : ℕ) (old : List StFuncTree) → f < length p.funcs → IsPart old → IsReached p slowdown f u → failing p f u ≡ None → Made old f u

  more : (a b c : List StFuncTree) (m n : ℕ) → m ≤ n → Grows a b m → Grows b c n → Grows a c n
  more a b c m n le first second = record {
    part = second.part;
    kept = λ k f u x. second.kept k f u (first.kept k f u x);
    low = λ k f u x. elim (second.low k f u x) [
      | inl was ↦ elim (first.low was.at f u was.key) [ inl old ↦ inl old | inr low ↦ inr (omega (arith, low, le)) ]
      | inr low ↦ inr low
    ];
  }

  abbrev AreThere : (f u : ℕ) → List StFuncTree → List NodeTree → Type 0
  AreThere f u all ns = (j : ℕ) (n : NodeTree) (c : Call) → slice_get ns j ≡ Some n → called_by p f u n ≡ Some c → Has all c.func c.budget

  record Called (old : List StFuncTree) (f u : ℕ) (ns : List NodeTree) : Type 0 where
    new : List StFuncTree
    grows : Grows old new f
    there : AreThere f u new ns

  -- what a function calls is added
  module _ (f u : ℕ) (of : FuncTree) (inside : f < length p.funcs) (known : slice_get p.funcs f ≡ Some of) (reached : IsReached p slowdown f u)
      (before : (g : ℕ) → g < f → CanBeMade g) where
    abbrev Follow : (k : ℕ) → List NodeTree → Type 0
    Follow k ns = (j : ℕ) (n : NodeTree) → slice_get ns j ≡ Some n → slice_get of.nodes (k + j) ≡ Some n

    follow-more : (k : ℕ) (n : NodeTree) (ns : List NodeTree) → Follow k (n ∷ ns) → Follow (k + 1) ns
    follow-more k n ns h j m e = let x : k + suc j ≡ k + 1 + j = omega arith in subst (λ i. slice_get of.nodes i ≡ Some m) x (h (suc j) m e)

    first-here : (k : ℕ) (n : NodeTree) (ns : List NodeTree) → Follow k (n ∷ ns) → slice_get of.nodes k ≡ Some n
    first-here k n ns h = let x : k + 0 ≡ k = omega arith in subst (λ i. slice_get of.nodes i ≡ Some n) x (h 0 n refl)

    calls : (k i : ℕ) (ns : List NodeTree) (old : List StFuncTree) → Follow k ns → nodes_line p (failing p) f u i ns ≡ None → IsPart old → Called old f u ns
    calls k i [] old follow h part = record {
      new = old;
      grows = record {
        part = part;
        kept = λ j g v x. x;
        low = λ j g v x. inl (record { at = j; key = x });
      };
      there = λ j n c e. absurd (none-some n e);
    }
    calls k i (n ∷ ns) old follow h part =
        let own = or-none (node_line p (failing p) f u i n) (nodes_line p (failing p) f u (i + 1) ns) h in
        let laid = is-laid (layout_at p f u i) n.line (call_line (failing p) (called_by p f u n)) own.0 in
        by (called_by p f u n) refl laid.2 (λ mid. calls (k + 1) (i + 1) ns mid (follow-more k n ns follow) own.1)
      where
        both : (mid : List StFuncTree) → Grows old mid f → ((c : Call) → called_by p f u n ≡ Some c → Has mid c.func c.budget) → Called mid f u ns
            → Called old f u (n ∷ ns)
        both mid grows has r =
            record {
              new = r.new;
              grows = more old mid r.new f f (omega arith) grows r.grows;
              there = all r;
            }
          where
            all : (r : Called mid f u ns) → AreThere f u r.new (n ∷ ns)
            all r zero m c e is =
                let same : n ≡ m = same_Some n m e in
                let x = has c (ap (called_by p f u) same ∙ is) in
                record { at = x.at; key = r.grows.kept x.at c.func c.budget x.key }
            all r (suc j) m c e is = r.there j m c e is

        by : (o : Option Call) → called_by p f u n ≡ o → call_line (failing p) o ≡ None → ((mid : List StFuncTree) → IsPart mid → Called mid f u ns)
            → Called old f u (n ∷ ns)
        by None is line rest = both old (record { part = part; kept = λ j g v x. x; low = λ j g v x. inl (record { at = j; key = x }) })
            (λ c e. absurd (none-some c (sym is ∙ e))) (rest old part)
        by (Some c) is line rest =
            let here = first-here k n ns follow in
            let low = called-above p f u of k n c fine known here is in
            let made = before c.func low c.budget old (omega arith) part (as_called c.func c.budget f u k of n c reached known here is refl refl) line in
            let grows : Grows old made.new f = record {
              part = made.grows.part;
              kept = made.grows.kept;
              low = λ j g v x. elim (made.grows.low j g v x) [ inl was ↦ inl was | inr less ↦ inr (omega arith) ];
            } in
            both made.new grows (λ d e. (let same : c ≡ d = same_Some c d (sym is ∙ e) in subst (λ (x : Call). Has made.new x.func x.budget) same made.has))
            (rest made.new grows.part)

    -- its nodes, where what it calls is there
    op-there : (all : List StFuncTree) (n : NodeTree) (o : Option Call) (plain : Option StOpTree) → ((c : Call) → o ≡ Some c → Has all c.func c.budget)
        → (o ≡ None → plain ≡ None → ⊥)
        → (op : StOpTree) × IsOp (HasKey all) o plain op
    op-there all n (Some c) plain has some = (let x = has c refl in (body x.at, record { at = x.at; is = refl; key = x.key }))
    op-there all n None None has some = absurd (some refl refl)
    op-there all n None (Some op) has some = (op, refl)

    nodes : (all : List StFuncTree) (k : ℕ) (ns : List NodeTree) → Follow k ns → nodes_line p (failing p) f u (length of.params + k) ns ≡ None
        → AreLaid p f u (length of.params + k) → AreThere f u all ns
        → (ss : List StNodeTree) × AreStNodes p (HasKey all) f u (length of.params + k) ns ss
    nodes all k [] follow h laid there = ([], tt)
    nodes all k (n ∷ ns) follow h laid there =
        let i : ℕ = length of.params + k in
        let own = or-none (node_line p (failing p) f u i n) (nodes_line p (failing p) f u (i + 1) ns) h in
        let lay = is-laid (layout_at p f u i) n.line (call_line (failing p) (called_by p f u n)) own.0 in
        let here = first-here k n ns follow in
        let op = op-there all n (called_by p f u n) (plain_op p f u n.op n.args) (λ c e. there 0 n c refl e)
        (λ none bare. plain-there p f u i n lay.0 fine (record { of = of; k = k; known = known; here = here; is = refl }) lay.1 laid none bare) in
        let next : i + 1 ≡ length of.params + (k + 1) = omega arith in
        let rest = nodes all (k + 1) ns (follow-more k n ns follow) (subst (λ j. nodes_line p (failing p) f u j ns ≡ None) next own.1)
        (subst (AreLaid p f u) next (laid-more p f u i lay.0 laid lay.1)) (λ j m c e is. there (suc j) m c e is) in
        let s : StNodeTree = record { op = op.0; args = n.args; type = lay.0; copies = copies_of (called_by p f u n); line = n.line } in (
          s ∷ rest.0,
          (
            record { op = op.1; args = refl; type = lay.1; copies = refl; line = refl },
            subst (λ j. AreStNodes p (HasKey all) f u j ns rest.0) (sym next) rest.1,
          ),
        )

    -- the function behind what it calls
    record Whole (old : List StFuncTree) : Type 0 where
      inner : List StFuncTree
      grows : Grows old inner f
      own : StFuncTree
      is : IsInstance p (HasKey inner) own
      is_func : own.func ≡ f
      is_budget : own.budget ≡ u

    whole : (old : List StFuncTree) → IsPart old → failing p f u ≡ None → Whole old
    whole old part h =
        let line : func_line p (failing p) f u of ≡ None = sym (failing_is p f u of fine known) ∙ h in
        let parts = if-fine (params_laid u of.params) (nodes_line p (failing p) f u (length of.params) of.nodes) of.line line in
        let ins = all-laid u of.params parts.0 in
        let start : length of.params + 0 ≡ length of.params = omega arith in
        let all : Follow 0 of.nodes = λ j n e. (let zero-more : 0 + j ≡ j = omega arith in subst (λ i. slice_get of.nodes i ≡ Some n) (sym zero-more) e) in
        let called = calls 0 (length of.params) of.nodes old all parts.1 part in
        let laid = params-are-laid p f u of ins.0 known ins.1 in
        let made = nodes called.new 0 of.nodes all (subst (λ j. nodes_line p (failing p) f u j of.nodes ≡ None) (sym start) parts.1)
        (subst (AreLaid p f u) (sym start) laid) called.there in
        let s : StFuncTree = record { func = f; budget = u; ins = ins.0; nodes = made.0; results = of.results; end_line = of.end_line } in
        record {
          inner = called.new;
          grows = called.grows;
          own = s;
          is = record {
            of = of;
            known = known;
            ins = ins.1;
            nodes = subst (λ j. AreStNodes p (HasKey called.new) f u j of.nodes made.0) start made.1;
            results = refl;
            end_line = refl;
          };
          is_func = refl;
          is_budget = refl;
        }

    push : (old : List StFuncTree) (w : Whole old) → ((k : ℕ) → HasKey old k f u → ⊥) → IsPart (w.inner ++ w.own ∷ [])
    push old w fresh =
        let never : (k : ℕ) → HasKey w.inner k f u → ⊥ = λ k x.
        elim (w.grows.low k f u x) [ inl was ↦ fresh was.at was.key | inr less ↦ absurd {A = ⊥} (omega arith) ] in
        record {
          right = right-more p w.inner w.own w.grows.part.right w.is;
          once = once-more w.inner w.own f u w.is_func w.is_budget w.grows.part.once never;
          reached = λ k g v x. elim (key-cases w.inner w.own k g v x) [
            | inl was ↦ w.grows.part.reached k g v was
            | inr last ↦ (let a : f ≡ g = sym w.is_func ∙ last.1 in let b : u ≡ v = sym w.is_budget ∙ last.2 in
                subst (λ i. IsReached p slowdown i v) a (subst (IsReached p slowdown f) b reached))
          ];
        }

    make : (old : List StFuncTree) → IsPart old → failing p f u ≡ None → Made old f u
    make old part h = elim (find-key old f u) [
      | inl there ↦ record { new = old; grows = record { part = part; kept = λ k g v x. x; low = λ k g v x. inl (record { at = k; key = x }) }; has = there }
      | inr fresh ↦
          let w = whole old part h in
          record {
            new = w.inner ++ w.own ∷ [];
            grows = record {
              part = push old w fresh;
              kept = λ k g v x. key-stays w.inner w.own k g v (w.grows.kept k g v x);
              low = λ k g v x. elim (key-cases w.inner w.own k g v x) [
                | inl was ↦ elim (w.grows.low k g v was) [ inl old ↦ inl old | inr less ↦ inr (omega arith) ]
                | inr last ↦ (let a : f ≡ g = sym w.is_func ∙ last.1 in inr (omega arith))
              ];
            };
            has = record { at = length w.inner; key = key-new w.inner w.own (length w.inner) f u refl w.is_func w.is_budget };
          }
    ]

  one-more : (f : ℕ) → ((g : ℕ) → g < f → CanBeMade g) → CanBeMade f
  one-more f before u old inside part reached h = let e = entry-at p.funcs f inside in make f u e.0 inside e.1 reached before old part h

  all-below : (f g : ℕ) → g < f → CanBeMade g
  all-below zero g low = absurd (omega arith)
  all-below (suc f) g low = elim (cases_lt g f) [
    | inl less ↦ all-below f g less
    | inr high ↦ (let same : f ≡ g = omega arith in subst CanBeMade same (one-more f (all-below f)))
  ]

pub schedules_there : SchedulesAreThere
schedules_there p slowdown fine h =
    let f : ℕ = length p.funcs - 1 in
    let some = some-funcs p fine in
    let inside : f < length p.funcs = omega arith in
    let e = entry-at p.funcs f inside in
    let reached : IsReached p slowdown f slowdown = as_program f slowdown refl refl in
    let none : (k g v : ℕ) → HasKey [] k g v → ⊥ = λ k g v x. none-some x.instance x.here in
    let start : IsPart p slowdown fine [] = record {
      right = λ k s e. absurd (none-some s e);
      once = λ i k g v x y. absurd (none i g v x);
      reached = λ k g v x. absurd (none k g v x);
    } in
    let w = whole p slowdown fine f slowdown e.0 inside e.1 reached (all-below p slowdown fine f) [] start h in
    let part = push p slowdown fine f slowdown e.0 inside e.1 reached (all-below p slowdown fine f) [] w (λ k x. none k f slowdown x) in
    let long : length (w.inner ++ w.own ∷ []) - 1 ≡ length w.inner = omega (arith, length-append w.inner (w.own ∷ [])) in (
      w.inner ++ w.own ∷ [],
      record {
        right = part.right;
        once = part.once;
        reached = part.reached;
        last = key-new w.inner w.own (length (w.inner ++ w.own ∷ []) - 1) f slowdown long w.is_func w.is_budget;
      },
    )
