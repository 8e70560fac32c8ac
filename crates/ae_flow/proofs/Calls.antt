-- Bodies: an instance of the called function fits the layouts of a node's arguments and its own, element by element.
use Rattle.std.proofs.Common.{◌≡◌, ℕ, suc, ◌<◌, ◌≤◌, ◌==◌, nat_lt, List, [], ◌∷◌, length, map, take, Some, refl, ap, sym, ◌∙◌, arith, IsTrue, slice_get, get_or, subst}
use Rattle.std.proofs.lemmas.Bool.{eqb-true}
use Rattle.std.proofs.lemmas.Bool.Decides.{nat_tests}
use Rattle.std.proofs.lemmas.List.{length-take}
use Rattle.std.proofs.lemmas.Option.{none-some, same_Some, slice_get_within, get_or_from_slice_get}
use Rattle.ae_seqtype.specs.SeqTree.{SeqTree, atom, seq}
use Rattle.ae_seq.specs.ProgramTree.{ProgramTree, FuncTree, ParamTree, OpTree, call, each, each_two}
use Rattle.ae_seq.specs.Formed.{is_line}
use Rattle.ae_seq.specs.Signatures.{result_in}
use Rattle.ae_seq.specs.Typing.{Signature, called, each_type, each_two_type, op_type, signatures, type_at, types_of_params, ◌>>=◌}
use Rattle.ae_eval.specs.Stack.{IsTyped, first_type, params_for, params_in, result_of, types_in}
use Rattle.ae_eval.proofs.Items.{call-facts, option-both, slice_get-take}
use Rattle.ae_eval.proofs.Moving.{where_ok-some}
use Rattle.ae_eval.proofs.Starting.{count-items}
use Rattle.ae_sttype.specs.StTree.{StTree}
use Rattle.ae_ops.specs.Blocks.{Stream, stream_of}
use Rattle.ae_rewrite.specs.declared.calls.Call.{Call}
use Rattle.ae_rewrite.specs.LayoutRule.{inner_of, lanes_of, slots_of, rounds_of, lay_of}
use Rattle.ae_rewrite.specs.Calls.{spread_at, head, call_of, each_call}
use Rattle.ae_rewrite.specs.StProgramTree.{StOpTree, StFuncTree}
use Rattle.ae_rewrite.specs.Scheduled.{Keys, HasKey, IsBody, IsInstance, IsSchedule, param_layouts}
use Rattle.ae_rewrite.specs.Sound.{item_layout, item_layouts}
use Rattle.ae_flow.specs.Flow.{first_result}
use Rattle.ae_flow.specs.Fitted.{FitsBody, FitsOp, elements_stream}
use Rattle.ae_ports.specs.Ports.{streams_of}
use Rattle.ae_flow.proofs.Streams.{arranged_stream, seq_laid_too, single}
use Rattle.ae_flow.proofs.Placed.{AreLaidAs, IsLaidAs, item_count_is, typed_item}
use Rattle.ae_flow.proofs.Plain.{HaveTypes, one_argument, two_arguments}
use Rattle.ae_flow.proofs.Spreading.{IsSpreadOver, spread_over, spread_is}

-- ---- lists of layouts

-- each type has its layout
abbrev pub AllLays : List SeqTree → (budget : ℕ) → List StTree → Type 0
AllLays [] budget [] = Unit {0}
AllLays (t ∷ ts) budget (s ∷ ss) = (lay_of t budget ≡ Some s) × AllLays ts budget ss
AllLays _ budget _ = ⊥

params_lay : (clocks : ℕ) (ps : List ParamTree) (ss : List StTree) → param_layouts clocks ps ≡ map (λ (x : StTree). Some x) ss
    → AllLays (types_of_params ps) clocks ss
params_lay clocks [] [] h = tt
params_lay clocks [] (s ∷ ss) h = cc
params_lay clocks (q ∷ ps) [] h = cc
params_lay clocks (q ∷ ps) (s ∷ ss) h =
    let own : lay_of q.type clocks ≡ Some s = cc in
    let rest : param_layouts clocks ps ≡ map (λ (x : StTree). Some x) ss = cc in
    (own, params_lay clocks ps ss rest)

same_lays : (ts : List SeqTree) (budget : ℕ) (xs ys : List StTree) → AreLaidAs ts budget xs → AllLays ts budget ys → xs ≡ ys
same_lays [] budget [] [] h g = refl
same_lays [] budget [] (y ∷ ys) h g = absurd g
same_lays [] budget (x ∷ xs) ys h g = absurd h
same_lays (t ∷ ts) budget [] ys h g = absurd h
same_lays (t ∷ ts) budget (x ∷ xs) [] h g = absurd g
same_lays (t ∷ ts) budget (x ∷ xs) (y ∷ ys) h g =
    let e : x ≡ y = same_Some x y (sym h.0.laid ∙ g.0) in
    rw (e, same_lays ts budget xs ys h.1 g.1) refl

singles : (xs : List StTree) → streams_of xs ≡ map (elements_stream 1 1) xs
singles [] = refl
singles (x ∷ xs) = ap (λ (z : Stream). z ∷ streams_of xs) (single x) ∙ ap (λ zs. elements_stream 1 1 x ∷ zs) (singles xs)

-- ---- the instance that is called

-- its parameters have these types, and its first result this type, in this budget
pub record IsCallee (ts : List SeqTree) (t : SeqTree) (budget : ℕ) (f : StFuncTree) : Type 0 where
  pub clocks : f.budget ≡ budget
  pub ins : AllLays ts budget f.ins
  pub out : lay_of t budget ≡ Some (item_layout (item_layouts f) (first_result f))

first_of_results : (of : FuncTree) (ts : List SeqTree) (t : SeqTree) → result_in of ts ≡ Some t → slice_get ts (get_or of.results 0 0) ≡ Some t
first_of_results of ts t h =
    let r = option-both (slice_get of.results 0) (λ (k : ℕ). slice_get ts k) t h in
    rw (get_or_from_slice_get of.results 0 r.0 0 r.1) r.2

callee_is : (p : ProgramTree) (keys : Keys) (f : StFuncTree) (h : IsInstance p keys f) (func budget : ℕ) (ts : List SeqTree) (t : SeqTree) → IsTyped p
    → f.func ≡ func → f.budget ≡ budget → params_in p func ≡ ts → result_of p func ≡ Some t → IsCallee ts t budget f
callee_is p keys f h func budget ts t typed is clocks params result =
    let own : params_in p f.func ≡ types_of_params h.of.params = ap params_for h.known in
    let same : types_of_params h.of.params ≡ ts = sym own ∙ (ap (params_in p) is ∙ params) in
    let first : result_in h.of (types_in p f.func) ≡ Some t = sym (ap (first_type (types_in p f.func)) h.known) ∙ (ap (result_of p) is ∙ result) in
    let at : slice_get (types_in p f.func) (first_result f) ≡ Some t = ap (λ (rs : List ℕ). slice_get (types_in p f.func) (get_or rs 0 0)) h.results ∙
    first_of_results h.of (types_in p f.func) t first in
    let within = slice_get_within (types_in p f.func) (first_result f) t at in
    let long : length (item_layouts f) ≡ length (types_in p f.func) = item_count_is p keys f h ∙ sym (count-items p f.func h.of typed h.known) in
    let laid = typed_item p keys f h (first_result f) t typed at (omega (arith, within, long)) in
    record { clocks = clocks; ins = rw (← same, ← clocks) (params_lay f.budget h.of.params f.ins h.ins); out = rw (← clocks) laid.laid }

-- ---- one call, and calls on elements

call_body : (budget copies : ℕ) (ts : List SeqTree) (t : SeqTree) (ins : List StTree) (s : StTree) (f : StFuncTree) → copies ≡ 1 → IsCallee ts t budget f
    → AreLaidAs ts budget ins → lay_of t budget ≡ Some s → FitsBody budget copies ins s f
call_body budget copies ts t ins s f one h laid out =
    let same = same_lays ts budget ins f.ins laid h.ins in
    let own : s ≡ item_layout (item_layouts f) (first_result f) = same_Some _ _ (sym out ∙ h.out) in
    record {
      slots = 1;
      rounds = 1;
      some = omega arith;
      few = omega arith;
      clocks = omega (arith, h.clocks);
      ins = rw (one, same) (singles f.ins);
      out = rw (one, own) (single (item_layout (item_layouts f) (first_result f)));
    }

spread_body : (n budget copies : ℕ) (t u : SeqTree) (x s : StTree) (ins : List StTree) (f : StFuncTree) (h : IsSpreadOver n t budget x)
    → copies ≡ lanes_of n budget h.arranged.case → f.budget ≡ inner_of n budget h.arranged.case
    → streams_of ins ≡ map (elements_stream (slots_of n budget h.arranged.case) (lanes_of n budget h.arranged.case)) f.ins
    → lay_of u (inner_of n budget h.arranged.case) ≡ Some (item_layout (item_layouts f) (first_result f)) → lay_of (seq n u) budget ≡ Some s
    → FitsBody budget copies ins s f
spread_body n budget copies t u x s ins f h is clocks streams inner out =
    let c = h.arranged.case in
    let r = seq_laid_too n t u budget x s h.arranged out in
    let own : r.0 ≡ item_layout (item_layouts f) (first_result f) = same_Some _ _ (sym r.1 ∙ inner) in
    record {
      slots = slots_of n budget c;
      rounds = rounds_of n budget c;
      some = h.some_slots;
      few = h.few_slots;
      clocks = rw clocks h.whole;
      ins = rw is streams;
      out = rw is (ap stream_of (sym r.2) ∙ (arranged_stream n budget c r.0 ∙ ap (elements_stream (slots_of n budget c) (lanes_of n budget c)) own));
    }

-- one argument, two arguments that are arranged by the same case
one_stream : (n budget : ℕ) (t : SeqTree) (x : StTree) (f : StFuncTree) (h : IsSpreadOver n t budget x)
    → AllLays (t ∷ []) (inner_of n budget h.arranged.case) f.ins
    → streams_of (x ∷ []) ≡ map (elements_stream (slots_of n budget h.arranged.case) (lanes_of n budget h.arranged.case)) f.ins
one_stream n budget t x f h lays = by f.ins lays
  where
    by : (ys : List StTree) → AllLays (t ∷ []) (inner_of n budget h.arranged.case) ys
        → streams_of (x ∷ []) ≡ map (elements_stream (slots_of n budget h.arranged.case) (lanes_of n budget h.arranged.case)) ys
    by [] g = absurd g
    by (y ∷ []) g = let e : h.arranged.of ≡ y = same_Some _ _ (sym h.arranged.laid ∙ g.0) in
        ap (λ (z : Stream). z ∷ []) (h.ins ∙ ap (elements_stream (slots_of n budget h.arranged.case) (lanes_of n budget h.arranged.case)) e)
    by (y ∷ z ∷ ys) g = absurd g.1

two_streams : (n budget : ℕ) (t u : SeqTree) (x y : StTree) (f : StFuncTree) (h : IsSpreadOver n t budget x) → lay_of (seq n u) budget ≡ Some y
    → AllLays (t ∷ u ∷ []) (inner_of n budget h.arranged.case) f.ins
    → streams_of (x ∷ y ∷ []) ≡ map (elements_stream (slots_of n budget h.arranged.case) (lanes_of n budget h.arranged.case)) f.ins
two_streams n budget t u x y f h second lays = by f.ins lays
  where
    by : (ys : List StTree) → AllLays (t ∷ u ∷ []) (inner_of n budget h.arranged.case) ys
        → streams_of (x ∷ y ∷ []) ≡ map (elements_stream (slots_of n budget h.arranged.case) (lanes_of n budget h.arranged.case)) ys
    by [] g = absurd g
    by (i ∷ []) g = absurd g.1
    by (i ∷ j ∷ []) g =
        let stream : StTree → Stream = elements_stream (slots_of n budget h.arranged.case) (lanes_of n budget h.arranged.case) in
        let e : h.arranged.of ≡ i = same_Some _ _ (sym h.arranged.laid ∙ g.0) in
        let r = seq_laid_too n t u budget x y h.arranged second in
        let d : r.0 ≡ j = same_Some _ _ (sym r.1 ∙ g.1.0) in
        let b : stream_of y ≡ stream j = ap stream_of (sym r.2) ∙ (arranged_stream n budget h.arranged.case r.0 ∙ ap stream d) in
        ap (λ (z : Stream). z ∷ stream_of y ∷ []) (h.ins ∙ ap stream e) ∙ ap (λ (z : Stream). stream i ∷ z ∷ []) b
    by (i ∷ j ∷ k ∷ ys) g = absurd g.1.1

-- ---- what a node calls

-- the function of the call, the types of its parameters and of its result, and the body that they make
record CallsFor (p : ProgramTree) (budget copies : ℕ) (c : Call) (ins : List StTree) (s : StTree) : Type 0 where
  params : List SeqTree
  result : SeqTree
  is_params : params_in p c.func ≡ params
  is_result : result_of p c.func ≡ Some result
  fits : (f : StFuncTree) → IsCallee params result c.budget f → FitsBody budget copies ins s f

below_of : (g m : ℕ) → IsTrue (nat_lt g m) → g < m
below_of g m h = grind (arith, nat_tests)

-- the same on elements
each_calls : (p : ProgramTree) (f budget v copies g a : ℕ) (u : SeqTree) (x : StTree) (t : SeqTree) (s : StTree) (c : Call) → IsTyped p → f < length p.funcs
    → 0 < budget → IsTrue (nat_lt g f) → type_at p f a ≡ Some u → IsLaidAs u budget x → each_type (signatures (take f p.funcs)) g u ≡ Some t
    → lay_of t budget ≡ Some s → each_call g budget (spread_at p f budget a) ≡ Some c → copies ≡ c.copies → CallsFor p budget copies c (x ∷ []) s
each_calls p f budget v copies g a (atom i) x t s c typed known some line h l is out at many = absurd (none-some t is)
each_calls p f budget v copies g a (seq n u) x t s c typed known some line h l is out at many =
    let z = spread_over n u budget x some l in
    let made : Call = record { func = g; budget = inner_of n budget z.arranged.case; copies = lanes_of n budget z.arranged.case } in
    let e : made ≡ c = same_Some made c (sym (ap (each_call g budget) (spread_is p f budget a n u x z.arranged h)) ∙ at) in
    let r = option-both (called (signatures (take f p.funcs)) g (u ∷ [])) (λ (w : SeqTree). Some (seq n w)) t is in
    let facts = call-facts p f g (u ∷ []) r.0 typed (below_of g f line) known r.1 in
    let whole : seq n r.0 ≡ t = same_Some (seq n r.0) t r.2 in
    rw (← e) (record {
      params = u ∷ [];
      result = r.0;
      is_params = facts.params;
      is_result = facts.result;
      fits = λ k callee. spread_body n budget copies u r.0 x s (x ∷ []) k z (many ∙ sym (ap (λ (y : Call). y.copies) e)) callee.clocks
          (one_stream n budget u x k z callee.ins) callee.out (subst (λ (q : SeqTree). lay_of q budget ≡ Some s) (sym whole) out);
    })

each_two_calls : (p : ProgramTree) (f budget v copies g a : ℕ) (u w : SeqTree) (x y : StTree) (t : SeqTree) (s : StTree) (c : Call) → IsTyped p
    → f < length p.funcs → 0 < budget → IsTrue (nat_lt g f) → type_at p f a ≡ Some u → IsLaidAs u budget x → IsLaidAs w budget y
    → each_two_type (signatures (take f p.funcs)) g u w ≡ Some t → lay_of t budget ≡ Some s → each_call g budget (spread_at p f budget a) ≡ Some c
    → copies ≡ c.copies → CallsFor p budget copies c (x ∷ y ∷ []) s
each_two_calls p f budget v copies g a (atom i) w x y t s c typed known some line h l last is out at many = absurd (none-some t is)
each_two_calls p f budget v copies g a (seq n u) (atom i) x y t s c typed known some line h l last is out at many = absurd (none-some t is)
each_two_calls p f budget v copies g a (seq n u) (seq m w) x y t s c typed known some line h l last is out at many =
    let o = where_ok-some (n == m) (called (signatures (take f p.funcs)) g (u ∷ w ∷ []) >>= λ (i : SeqTree). Some (seq n i)) t is in
    let same : n ≡ m = eqb-true n m o.0 in
    let z = spread_over n u budget x some l in
    let made : Call = record { func = g; budget = inner_of n budget z.arranged.case; copies = lanes_of n budget z.arranged.case } in
    let e : made ≡ c = same_Some made c (sym (ap (each_call g budget) (spread_is p f budget a n u x z.arranged h)) ∙ at) in
    let r = option-both (called (signatures (take f p.funcs)) g (u ∷ w ∷ [])) (λ (i : SeqTree). Some (seq n i)) t o.1 in
    let facts = call-facts p f g (u ∷ w ∷ []) r.0 typed (below_of g f line) known r.1 in
    let whole : seq n r.0 ≡ t = same_Some (seq n r.0) t r.2 in
    let second : lay_of (seq n w) budget ≡ Some y = subst (λ (i : ℕ). lay_of (seq i w) budget ≡ Some y) (sym same) last.laid in
    rw (← e) (record {
      params = u ∷ w ∷ [];
      result = r.0;
      is_params = facts.params;
      is_result = facts.result;
      fits = λ k callee. spread_body n budget copies u r.0 x s (x ∷ y ∷ []) k z (many ∙ sym (ap (λ (i : Call). i.copies) e)) callee.clocks
          (two_streams n budget u w x y k z second callee.ins) callee.out (subst (λ (q : SeqTree). lay_of q budget ≡ Some s) (sym whole) out);
    })

-- as many arguments as types, and of types as the line takes
counted : (p : ProgramTree) (f : ℕ) (args : List ℕ) (ts : List SeqTree) → HaveTypes p f args ts → length args ≡ length ts
counted p f [] [] h = refl
counted p f [] (t ∷ ts) h = absurd h
counted p f (a ∷ args) [] h = absurd h
counted p f (a ∷ args) (t ∷ ts) h = ap suc (counted p f args ts h.1)

one_type : (known : List Signature) (g : ℕ) (ts : List SeqTree) (t : SeqTree) → op_type known (each g) ts ≡ Some t → length ts ≡ 1
one_type known g [] t is = absurd (none-some t is)
one_type known g (u ∷ []) t is = refl
one_type known g (u ∷ w ∷ ts) t is = absurd (none-some t is)

two_types : (known : List Signature) (g : ℕ) (ts : List SeqTree) (t : SeqTree) → op_type known (each_two g) ts ≡ Some t → length ts ≡ 2
two_types known g [] t is = absurd (none-some t is)
two_types known g (u ∷ []) t is = absurd (none-some t is)
two_types known g (u ∷ w ∷ []) t is = refl
two_types known g (u ∷ w ∷ z ∷ ts) t is = absurd (none-some t is)

-- what has to be shown of arguments
abbrev MakesCalls : (p : ProgramTree) (f budget copies : ℕ) (op : OpTree) (t : SeqTree) (s : StTree) (c : Call) → List ℕ → List SeqTree → List StTree → Type 0
MakesCalls p f budget copies op t s c args ts ins =
    op_type (signatures (take f p.funcs)) op ts ≡ Some t → call_of op budget (spread_at p f budget (head args)) ≡ Some c → CallsFor p budget copies c ins s

calls_for : (p : ProgramTree) (f budget v copies : ℕ) (op : OpTree) (args : List ℕ) (ts : List SeqTree) (ins : List StTree) (t : SeqTree) (s : StTree)
    (c : Call) → IsTyped p → f < length p.funcs → 0 < budget → IsTrue (is_line v f op) → HaveTypes p f args ts
    → AreLaidAs ts budget ins → op_type (signatures (take f p.funcs)) op ts ≡ Some t → lay_of t budget ≡ Some s
    → call_of op budget (spread_at p f budget (head args)) ≡ Some c → copies ≡ c.copies → CallsFor p budget copies c ins s
calls_for p f budget v copies (call g) args ts ins t s c typed known some line h l is out at many =
    let e : record { func = g; budget = budget; copies = 1 } ≡ c = same_Some _ c at in
    let facts = call-facts p f g ts t typed (below_of g f line) known is in
    rw (← e) (record {
      params = ts;
      result = t;
      is_params = facts.params;
      is_result = facts.result;
      fits = λ k callee. call_body budget copies ts t ins s k (many ∙ sym (ap (λ (x : Call). x.copies) e)) callee l out;
    })
calls_for p f budget v copies (each g) args ts ins t s c typed known some line h l is out at many =
    one_argument p f budget (MakesCalls p f budget copies (each g) t s c) args ts ins
    (counted p f args ts h ∙ one_type (signatures (take f p.funcs)) g ts t is) h l
    (λ a u x type laid is at. each_calls p f budget v copies g a u x t s c typed known some line type laid is out at many) is at
calls_for p f budget v copies (each_two g) args ts ins t s c typed known some line h l is out at many =
    two_arguments p f budget (MakesCalls p f budget copies (each_two g) t s c) args ts ins
    (counted p f args ts h ∙ two_types (signatures (take f p.funcs)) g ts t is) h l
    (λ a b u w x y type too laid last is at. each_two_calls p f budget v copies g a u w x y t s c typed known some line type laid last is out at many) is at
calls_for p f budget v copies _ args ts ins t s c typed known some line h l is out at many = absurd (none-some c at)

-- the body of such a call fits
pub call_fits : (p : ProgramTree) (slowdown k : ℕ) (all : List StFuncTree) (f budget v copies : ℕ) (op : OpTree) (args : List ℕ) (ts : List SeqTree)
    (ins : List StTree) (t : SeqTree) (s : StTree) (c : Call) (made : StOpTree) → IsTyped p → IsSchedule p slowdown all
    → f < length p.funcs → 0 < budget → IsTrue (is_line v f op) → HaveTypes p f args ts → AreLaidAs ts budget ins
    → op_type (signatures (take f p.funcs)) op ts ≡ Some t → lay_of t budget ≡ Some s
    → call_of op budget (spread_at p f budget (head args)) ≡ Some c → copies ≡ c.copies → IsBody (HasKey (take k all)) c made
    → FitsOp (take k all) budget copies ins s made
call_fits p slowdown k all f budget v copies op args ts ins t s c made typed schedule known some line h l is out at many body_is =
    let r = calls_for p f budget v copies op args ts ins t s c typed known some line h l is out at many in
    let g = body_is.key.instance in
    let inside : body_is.at < length (take k all) = slice_get_within (take k all) body_is.at g body_is.key.here in
    let low : length (take k all) ≤ k = omega (arith, length-take k all) in
    let there : slice_get all body_is.at ≡ Some g = sym (slice_get-take k body_is.at all (omega (arith, inside, low))) ∙ body_is.key.here in
    let own = schedule.right body_is.at g there in
    let callee = callee_is p (HasKey (take body_is.at all)) g own c.func c.budget r.params r.result typed body_is.key.is_func body_is.key.is_budget r.is_params
    r.is_result in
    rw body_is.is (g, body_is.key.here, r.fits g callee)
