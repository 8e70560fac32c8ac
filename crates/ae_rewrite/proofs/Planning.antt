-- Plans and instances, as they are added.
use Rattle.std.proofs.Common.{◌≡◌, ℕ, zero, suc, ◌+◌, ◌<◌, ◌≤◌, List, [], ◌∷◌, ◌++◌, length, take, Option, Some, None, refl, ap, sym, ◌∙◌, arith, inl, inr, ◌⊎◌, slice_get}
use Rattle.std.specs.Option.{option_map}
use Rattle.std.proofs.lemmas.List.{map-append, take_at, take-append-le}
use Rattle.std.proofs.lemmas.Option.{slice_get-map, none-some, same_Some, slice_get_within}
use Rattle.ae_seq.specs.ProgramTree.{ProgramTree, NodeTree}
use Rattle.ae_rewrite.specs.declared.calls.Call.{Call}
use Rattle.ae_rewrite.specs.declared.plan.Plan.{Plan}
use Rattle.ae_rewrite.specs.declared.plan.Plan.TheVariants.{Failed, Instance}
use Rattle.ae_rewrite.specs.declared.plan.Row.{Row}
use Rattle.ae_rewrite.specs.Calls.{called_by, plain_op}
use Rattle.ae_rewrite.specs.FailingLine.{failing}
use Rattle.ae_rewrite.specs.Scheduled.{IsFilled, AllFilled, Keys, HasKey, IsOp, AreStNodes, IsInstance}
use Rattle.ae_rewrite.specs.StProgramTree.{StOpTree, StNodeTree, StFuncTree}
use Rattle.ae_rewrite.specs.Planned.{IsPlanned, HasPlan, IsFailing, IsEachOnce, Plans, IsMade, IsNext, row_budgets}
use Rattle.ae_rewrite.proofs.Grown.{get_in_front, get_last}
use Rattle.ae_rewrite.proofs.Budgets.{get_of_push}
use Rattle.ae_rewrite.proofs.Params.{take-at}

-- ---- an instance with other keys

abbrev pub Covers : Keys → Keys → Type 0
Covers keys more = (k f u : ℕ) → keys k f u → more k f u

op-mono : (keys more : Keys) (o : Option Call) (plain : Option StOpTree) (op : StOpTree) → Covers keys more → IsOp keys o plain op → IsOp more o plain op
op-mono keys more None plain op h is = is
op-mono keys more (Some c) plain op h is = record { at = is.at; is = is.is; key = h is.at c.func c.budget is.key }

nodes-mono : (p : ProgramTree) (keys more : Keys) (f u i : ℕ) (ns : List NodeTree) (ss : List StNodeTree) → Covers keys more → AreStNodes p keys f u i ns ss
    → AreStNodes p more f u i ns ss
nodes-mono p keys more f u i [] [] h is = tt
nodes-mono p keys more f u i [] (s ∷ ss) h is = absurd is
nodes-mono p keys more f u i (n ∷ ns) [] h is = absurd is
nodes-mono p keys more f u i (n ∷ ns) (s ∷ ss) h is = (
  record {
    op = op-mono keys more (called_by p f u n) (plain_op p f u n.op n.args) s.op h is.0.op;
    args = is.0.args;
    type = is.0.type;
    copies = is.0.copies;
    line = is.0.line;
  },
  nodes-mono p keys more f u (i + 1) ns ss h is.1,
)

pub instance-mono : (p : ProgramTree) (keys more : Keys) (s : StFuncTree) → Covers keys more → IsInstance p keys s → IsInstance p more s
instance-mono p keys more s h is = record {
  of = is.of;
  known = is.known;
  ins = is.ins;
  nodes = nodes-mono p keys more s.func s.budget (length is.of.params) is.of.nodes s.nodes h is.nodes;
  results = is.results;
  end_line = is.end_line;
}

-- ---- rows

planned-front : (rows : List (List Row)) (own : List Row) (g v : ℕ) (plan : Plan) → IsPlanned rows g v plan → IsPlanned (rows ++ own ∷ []) g v plan
planned-front rows own g v plan x = record { own = x.own; here = get_in_front rows (own ∷ []) g x.own x.here; row = x.row }

planned-stays : (rows : List (List Row)) (own : List Row) (r : Row) (g v : ℕ) (plan : Plan) → IsPlanned (rows ++ own ∷ []) g v plan
    → IsPlanned (rows ++ (own ++ r ∷ []) ∷ []) g v plan
planned-stays rows own r g v plan x = elim (get_of_push rows own g x.own x.here) [
  | inl old ↦ planned-front rows (own ++ r ∷ []) g v plan (record { own = x.own; here = old; row = x.row })
  | inr new ↦ record {
    own = own ++ r ∷ [];
    here = ap (slice_get (rows ++ (own ++ r ∷ []) ∷ [])) new.0 ∙ get_last rows (own ++ r ∷ []);
    row = record {
      at = x.row.at;
      is = get_in_front own (r ∷ []) x.row.at (record { budget = v; plan = plan })
          (ap (λ xs. slice_get xs x.row.at) (sym new.1) ∙ x.row.is);
    };
  }
]

planned-new : (rows : List (List Row)) (own : List Row) (r : Row) → IsPlanned (rows ++ (own ++ r ∷ []) ∷ []) (length rows) r.budget r.plan
planned-new rows own r = record { own = own ++ r ∷ []; here = get_last rows (own ++ r ∷ []); row = record { at = length own; is = get_last own r } }

-- a row is an old one, or the new one
planned-cases : (rows : List (List Row)) (own : List Row) (r : Row) (g v : ℕ) (plan : Plan) → IsPlanned (rows ++ (own ++ r ∷ []) ∷ []) g v plan →
    IsPlanned (rows ++ own ∷ []) g v plan ⊎ ((g ≡ length rows) × (v ≡ r.budget) × (plan ≡ r.plan))
planned-cases rows own r g v plan x = elim (get_of_push rows (own ++ r ∷ []) g x.own x.here) [
  | inl old ↦ inl (planned-front rows own g v plan (record { own = x.own; here = old; row = x.row }))
  | inr new ↦ elim (get_of_push own r x.row.at (record { budget = v; plan = plan }) (ap (λ xs. slice_get xs x.row.at) (sym new.1) ∙ x.row.is)) [
    | inl was ↦ inl (record { own = own; here = ap (slice_get (rows ++ own ∷ [])) new.0 ∙ get_last rows own; row = record { at = x.row.at; is = was } })
    | inr last ↦ inr (new.0, ap (λ (y : Row). y.budget) last.1, ap (λ (y : Row). y.plan) last.1)
  ]
]

-- a list without rows says nothing
planned-none : (rows : List (List Row)) (g v : ℕ) (plan : Plan) → IsPlanned (rows ++ [] ∷ []) g v plan → IsPlanned rows g v plan
planned-none rows g v plan x = elim (get_of_push rows [] g x.own x.here) [
  | inl old ↦ record { own = x.own; here = old; row = x.row }
  | inr new ↦ absurd (none-some (record { budget = v; plan = plan }) (ap (λ xs. slice_get xs x.row.at) (sym new.1) ∙ x.row.is))
]

-- ---- keys

key-stays : (instances : List StFuncTree) (s : StFuncTree) (k f u : ℕ) → HasKey instances k f u → HasKey (instances ++ s ∷ []) k f u
key-stays instances s k f u x =
    record { instance = x.instance; here = get_in_front instances (s ∷ []) k x.instance x.here; is_func = x.is_func; is_budget = x.is_budget }

pub key-new : (instances : List StFuncTree) (s : StFuncTree) (k f u : ℕ) → k ≡ length instances → s.func ≡ f → s.budget ≡ u → HasKey (instances ++ s ∷ []) k f u
key-new instances s k f u is is_f is_u =
    record { instance = s; here = ap (slice_get (instances ++ s ∷ [])) is ∙ get_last instances s; is_func = is_f; is_budget = is_u }

pub key-cases : (instances : List StFuncTree) (s : StFuncTree) (k f u : ℕ) → HasKey (instances ++ s ∷ []) k f u → HasKey instances k f u
    ⊎ ((k ≡ length instances) × (s.func ≡ f) × (s.budget ≡ u))
key-cases instances s k f u x = elim (get_of_push instances s k x.instance x.here) [
  | inl old ↦ inl (record { instance = x.instance; here = old; is_func = x.is_func; is_budget = x.is_budget })
  | inr new ↦ inr (new.0, ap (λ (y : StFuncTree). y.func) (sym new.1) ∙ x.is_func, ap (λ (y : StFuncTree). y.budget) (sym new.1) ∙ x.is_budget)
]

-- ---- one more instance

abbrev pub AreRight : ProgramTree → List StFuncTree → Type 0
AreRight p instances = (k : ℕ) (s : StFuncTree) → slice_get instances k ≡ Some s → IsInstance p (HasKey (take k instances)) s

abbrev pub IsOnce : List StFuncTree → Type 0
IsOnce instances = (i k f u : ℕ) → HasKey instances i f u → HasKey instances k f u → i ≡ k

pub right-more : (p : ProgramTree) (instances : List StFuncTree) (s : StFuncTree) → AreRight p instances → IsInstance p (HasKey instances) s
    → AreRight p (instances ++ s ∷ [])
right-more p instances s all one k x at = elim (get_of_push instances s k x at) [
  | inl old ↦ let h = slice_get_within instances k x old in let le : k ≤ length instances = omega arith in
      rw (take-append-le k instances (s ∷ [])) (all k x old)
  | inr new ↦ rw (new.1, take_at instances (s ∷ []) k (sym new.0)) one
]

pub once-more : (instances : List StFuncTree) (s : StFuncTree) (f u : ℕ) → s.func ≡ f → s.budget ≡ u → IsOnce instances
    → ((k : ℕ) → HasKey instances k f u → ⊥) → IsOnce (instances ++ s ∷ [])
once-more instances s f u is_f is_u once fresh i k g v a b = elim (key-cases instances s i g v a) [
  | inl old ↦ elim (key-cases instances s k g v b) [
    | inl too ↦ once i k g v old too
    | inr new ↦ absurd (fresh i (rw (sym is_f ∙ new.1, sym is_u ∙ new.2) old))
  ]
  | inr new ↦ elim (key-cases instances s k g v b) [
    | inl old ↦ absurd (fresh k (rw (sym is_f ∙ new.1, sym is_u ∙ new.2) old))
    | inr too ↦ new.0 ∙ sym too.0
  ]
]

pub filled-more : (instances : List StFuncTree) (s : StFuncTree) → AllFilled instances → IsFilled s → AllFilled (instances ++ s ∷ [])
filled-more instances s all one k x at = elim (get_of_push instances s k x at) [
  | inl old ↦ all k x old
  | inr new ↦ rw new.1 one
]

-- ---- plans

pub plans-none : (p : ProgramTree) → Plans p [] []
plans-none p = record {
  sound = λ f u plan x. absurd (none-some x.own x.here);
  named = λ k f u x. absurd (none-some x.own x.here);
  planned = λ k f u x. absurd (none-some x.instance x.here);
  right = λ k s at. absurd (none-some s at);
  filled = λ k s at. absurd (none-some s at);
  once = λ i k f u x. absurd (none-some x.instance x.here);
}

pub plans-start : (p : ProgramTree) (rows : List (List Row)) (instances : List StFuncTree) → Plans p rows instances → Plans p (rows ++ [] ∷ []) instances
plans-start p rows instances h = record {
  sound = λ f u plan x. h.sound f u plan (planned-none rows f u plan x);
  named = λ k f u x. h.named k f u (planned-none rows f u (Instance k) x);
  planned = λ k f u x. planned-front rows [] f u (Instance k) (h.planned k f u x);
  right = h.right;
  filled = h.filled;
  once = h.once;
}

pub get-take : {X : Type 0} (xs : List X) (j i : ℕ) (x : X) → slice_get (take j xs) i ≡ Some x → (slice_get xs i ≡ Some x) × (i < j)
get-take [] zero i x h = absurd (none-some x h)
get-take [] (suc j) i x h = absurd (none-some x h)
get-take (y ∷ xs) zero i x h = absurd (none-some x h)
get-take (y ∷ xs) (suc j) zero x h = (h, omega arith)
get-take (y ∷ xs) (suc j) (suc i) x h = let r = get-take xs j i x h in (r.0, omega (arith, r.1))

-- no instance has the next budget of a function
fresh-key : (p : ProgramTree) (rows : List (List Row)) (own : List Row) (instances : List StFuncTree) (budgets : List ℕ) (j u k : ℕ)
    → Plans p (rows ++ own ∷ []) instances → row_budgets own ≡ take j budgets →
    IsEachOnce budgets → slice_get budgets j ≡ Some u → HasKey instances k (length rows) u → ⊥
fresh-key p rows own instances budgets j u k h are once at x =
    let y = h.planned k (length rows) u x in
    let mine : y.own ≡ own = same_Some _ _ (sym y.here ∙ get_last rows own) in
    let row : slice_get own y.row.at ≡ Some (record { budget = u; plan = Instance k }) = ap (λ xs. slice_get xs y.row.at) (sym mine) ∙ y.row.is in
    let read : slice_get (take j budgets) y.row.at ≡ Some u = ap (λ xs. slice_get xs y.row.at) (sym are) ∙ slice_get-map (λ (r : Row). r.budget) own y.row.at ∙
    ap (option_map (λ (r : Row). r.budget)) row in
    let all = get-take budgets j y.row.at u read in
    absurd (omega (arith, all.1, once y.row.at j u all.0 at))

more-failed : (p : ProgramTree) (rows : List (List Row)) (own : List Row) (u line : ℕ) (instances : List StFuncTree) → Plans p (rows ++ own ∷ []) instances
    → failing p (length rows) u ≡ Some line →
    Plans p (rows ++ (own ++ record { budget = u; plan = Failed line } ∷ []) ∷ []) instances
more-failed p rows own u line instances h fails =
    let r : Row = record { budget = u; plan = Failed line } in
    record {
      sound = λ g v plan x. elim (planned-cases rows own r g v plan x) [ inl old ↦ h.sound g v plan old | inr new ↦ rw (new.0, new.1, new.2) fails ];
      named = λ k g v x. elim (planned-cases rows own r g v (Instance k) x) [ inl old ↦ h.named k g v old | inr new ↦ let e = new.2 in absurd cc ];
      planned = λ k g v x. planned-stays rows own r g v (Instance k) (h.planned k g v x);
      right = h.right;
      filled = h.filled;
      once = h.once;
    }

more-instance : (p : ProgramTree) (rows : List (List Row)) (own : List Row) (u k : ℕ) (old new : List StFuncTree) (budgets : List ℕ) (j : ℕ)
    → Plans p (rows ++ own ∷ []) old → failing p (length rows) u ≡ None →
    IsNext p rows (length rows) u k old new → row_budgets own ≡ take j budgets → IsEachOnce budgets → slice_get budgets j ≡ Some u →
    Plans p (rows ++ (own ++ record { budget = u; plan = Instance k } ∷ []) ∷ []) new
more-instance p rows own u k old new budgets j h fine x are once at =
    let r : Row = record { budget = u; plan = Instance k } in
    let s = x.instance in
    let named : Covers (HasPlan rows) (HasKey old) = λ i g v y. h.named i g v (planned-front rows own g v (Instance i) y) in
    rw x.more
    (record {
      sound = λ g v plan y. elim (planned-cases rows own r g v plan y) [ inl was ↦ h.sound g v plan was | inr last ↦ rw (last.0, last.1, last.2) fine ];
      named = λ i g v y. elim (planned-cases rows own r g v (Instance i) y) [
        | inl was ↦ key-stays old s i g v (h.named i g v was)
        | inr last ↦ let e : i ≡ k = let f = last.2 in cc in key-new old s i g v (e ∙ x.number) (x.is_func ∙ sym last.0) (x.is_budget ∙ sym last.1)
      ];
      planned = λ i g v y. elim (key-cases old s i g v y) [
        | inl was ↦ planned-stays rows own r g v (Instance i) (h.planned i g v was)
        | inr last ↦
            let n = planned-new rows own r in
            rw (last.0 ∙ sym x.number, sym last.1 ∙ x.is_func, sym last.2 ∙ x.is_budget) n
      ];
      right = right-more p old s h.right (instance-mono p (HasPlan rows) (HasKey old) s named x.right);
      filled = filled-more old s h.filled x.filled;
      once = once-more old s (length rows) u x.is_func x.is_budget h.once (λ i y. fresh-key p rows own old budgets j u i h are once at y);
    })

plans-made : (p : ProgramTree) (rows : List (List Row)) (own : List Row) (f u : ℕ) (plan : Plan) (old new : List StFuncTree) (budgets : List ℕ) (j : ℕ)
    → f ≡ length rows → Plans p (rows ++ own ∷ []) old → IsFailing p f u plan →
    IsMade p rows f u plan old new → row_budgets own ≡ take j budgets → IsEachOnce budgets → slice_get budgets j ≡ Some u →
    Plans p (rows ++ (own ++ record { budget = u; plan = plan } ∷ []) ∷ []) new
plans-made p rows own f u (Failed line) old new budgets j is h fails made are once at = rw made (more-failed p rows own u line old h (rw is at fails))
plans-made p rows own f u (Instance k) old new budgets j is h fails made are once at =
    more-instance p rows own u k old new budgets j h (rw is at fails) (rw is at made) are once at

-- where the loop over the budgets of a function is
pub record Own (p : ProgramTree) (rows : List (List Row)) (own : List Row) (instances : List StFuncTree) (budgets : List ℕ) (j : ℕ) : Type 0 where
  pub plans : Plans p (rows ++ own ∷ []) instances
  pub are : row_budgets own ≡ take j budgets

pub own-start : (p : ProgramTree) (rows : List (List Row)) (instances : List StFuncTree) (budgets : List ℕ) → Plans p rows instances
    → Own p rows [] instances budgets 0
own-start p rows instances budgets h = record { plans = plans-start p rows instances h; are = refl }

pub own-more : (p : ProgramTree) (rows : List (List Row)) (own : List Row) (f u : ℕ) (plan : Plan) (old new : List StFuncTree) (budgets : List ℕ) (j : ℕ)
    → f ≡ length rows → Own p rows own old budgets j → IsFailing p f u plan →
    IsMade p rows f u plan old new → IsEachOnce budgets → slice_get budgets j ≡ Some u
    → Own p rows (own ++ record { budget = u; plan = plan } ∷ []) new budgets (j + 1)
own-more p rows own f u plan old new budgets j is h fails made once at = record {
  plans = plans-made p rows own f u plan old new budgets j is h.plans fails made h.are once at;
  are = map-append (λ (r : Row). r.budget) own (record { budget = u; plan = plan } ∷ []) ∙ ap (λ xs. xs ++ u ∷ []) h.are ∙ sym (take-at budgets j u at);
}
