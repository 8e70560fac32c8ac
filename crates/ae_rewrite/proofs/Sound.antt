-- A schedule is put together rightly.
use Rattle.std.proofs.Common.{◌≡◌, ℕ, zero, suc, ◌+◌, ◌-◌, ◌*◌, ◌/◌, ◌%◌, ◌<◌, ◌≤◌, List, [], ◌∷◌, ◌++◌, length, length-append, map, take, get_or, Option, Some, None, Bool, true, false, ◌==◌, cond, nat_eq, nat_le, nat_lt, refl, ap, sym, ◌∙◌, arith, inl, inr, slice_get, IsTrue, mul_comm, mul_assoc}
use Rattle.std.proofs.Math.Nat.{mul-div_cancel, mul-le-mul_right, add-mul}
use Rattle.std.specs.Option.{option_map}
use Rattle.std.specs.Prelude.{unwrap_or}
use Rattle.std.proofs.lemmas.List.{length-map, length-take-le}
use Rattle.std.proofs.lemmas.Option.{slice_get-map, slice_get_within, slice_get-get_or, none-some, same_Some, option_and_then_some}
use Rattle.std.proofs.lemmas.Bool.{cases_lt, eqb-true, leb-true, ltb-true}
use Rattle.std.proofs.lemmas.Bool.Decides.{nat_tests}
use Rattle.ae_word.specs.declared.op.WordOp.{WordOp}
use Rattle.ae_word.specs.declared.op.WordOp.TheVariants.{Add, Sub, Mul, And, Or, Xor, Not, Min, Max, Eq, Lt, Mux, Shl, Shr, Cast, SLt, SMin, SMax, Sar, SCast}
use Rattle.ae_word.specs.WordTable.{arity_of}
use Rattle.ae_word.specs.AtomTree.{unsigned_word}
use Rattle.ae_seqtype.specs.SeqTree.{SeqTree, atom, seq, atoms, words, kinds, depth, in_size, parts_in_size}
use Rattle.ae_seqtype.specs.ValueTree.{fit_kinds}
use Rattle.ae_seqtype.proofs.Sizes.{length-kinds}
use Rattle.ae_seq.specs.ProgramTree.{ProgramTree, NodeTree, ParamTree, OpTree, word, cast_int, pair, fst, snd, const, zip, call, each, each_two, reduce, scan, shift, up, select, partition, unpartition}
use Rattle.ae_seq.specs.Formed.{formed, has_arguments, item_count}
use Rattle.ae_seq.specs.Typing.{type_at, types_at, op_type, Signature, where_ok, refused_line, ◌>>=◌}
use Rattle.ae_sttype.specs.StTree.{StTree, atom as st_atom, tseq, sseq, time, st_atoms, st_depth, element_atom}
use Rattle.ae_sttype.specs.Size.{HasLengths}
use Rattle.ae_rewrite.specs.declared.cases.Case.{Case}
use Rattle.ae_rewrite.specs.declared.cases.Case.TheVariants.{Parallel, Spread, Grouped, Padded, Folded}
use Rattle.ae_rewrite.specs.declared.calls.Call.{Call}
use Rattle.ae_rewrite.specs.declared.st_program.MoveOp.TheVariants.{Shift, Up, Select, Same}
use Rattle.ae_rewrite.specs.LayoutRule.{arranged, case_of, inner_of, lanes_of, slots_of, rounds_of, lay_of}
use Rattle.ae_rewrite.specs.Calls.{Spreading, spread, spread_at, head, call_of, called_by, plain_op, layout_at, fold_of, scan_of, shift_of, raw_layout, op_by}
use Rattle.ae_rewrite.specs.StProgramTree.{StOpTree, word as st_word, join, first, second, fixed, move, fold, scan as st_scan, StNodeTree, StFuncTree}
use Rattle.ae_rewrite.specs.Scheduled.{Keys, HasKey, IsOp, IsStNode, AreStNodes, IsInstance, IsSchedule, IsFilling, IsFilled, AllFilled, node_layouts, param_layouts, copies_of}
use Rattle.ae_rewrite.specs.Sound.{IsSpread, FixedFits, IsRawFor, IsSoundOp, IsSoundNode, IsSoundFunc, IsSound, item_layout, item_layouts}
use Rattle.ae_rewrite.proofs.Accepted.{type_sized}
use Rattle.ae_rewrite.proofs.Applies.{Applies, applies, whole, quotient_pos, inner_pos}
use Rattle.ae_rewrite.proofs.Forms.{formed-of, node-of, below-at}
use Rattle.ae_rewrite.proofs.Items.{param-type, typed-node}
use Rattle.ae_rewrite.proofs.WordKinds.{kind-place, words-atoms, fit-length, fit-at}
use Rattle.ae_rewrite.proofs.Laid.{Laid, laid, laid_whole}
use Rattle.ae_rewrite.proofs.Reached.{reached-within}
use Rattle.ae_rewrite.proofs.Used.{schedule_used}
use Rattle.ae_rewrite.proofs.Amounts.{le-times as le_times}

-- ---- how a sequence is spread

quotient_low : (n d : ℕ) → 0 < d → n % d ≡ 0 → n / d ≤ n
quotient_low n d p h = let w = whole n d p h in let l = le_times d (n / d) (n / d) p (omega arith) in omega (arith, w, l)

amounts : (n clocks : ℕ) (c : Case) → 0 < n → n ≤ 4096 → 0 < clocks → clocks ≤ 4096 → Applies n clocks c → IsSpread (slots_of n clocks c) (lanes_of n clocks c)
amounts n clocks Parallel p q r l h = record { some_slots = omega arith; few_slots = omega arith; some_lanes = p; few_lanes = q }
amounts n clocks Spread p q r l h = record { some_slots = p; few_slots = q; some_lanes = omega arith; few_lanes = omega arith }
amounts n clocks Grouped p q r l h =
    record { some_slots = r; few_slots = l; some_lanes = quotient_pos n clocks p r h; few_lanes = omega (arith, quotient_low n clocks r h) }
amounts n clocks Padded p q r l h = record { some_slots = p; few_slots = q; some_lanes = omega arith; few_lanes = omega arith }
amounts n clocks (Folded d) p q r l h =
    let b : 0 < d = omega (arith, h.0) in
    record { some_slots = b; few_slots = omega (arith, h.2); some_lanes = quotient_pos n d p b h.1; few_lanes = omega (arith, quotient_low n d b h.1) }

seq_some : (n : ℕ) (t : SeqTree) → IsTrue (in_size (seq n t)) → (0 < n) × (n ≤ 4096)
seq_some n t h = let a : 0 < n = grind (arith, nat_tests) in let b : n ≤ 4096 = grind (arith, nat_tests) in (a, b)

-- the clocks are so many rounds of the inner budget
rounds_inner : (n clocks : ℕ) (c : Case) → 0 < n → 0 < clocks → Applies n clocks c → rounds_of n clocks c * inner_of n clocks c ≡ clocks
rounds_inner n clocks Parallel p q h = omega (arith, h)
rounds_inner n clocks Spread p q h = whole clocks n p h
rounds_inner n clocks Grouped p q h = omega arith
rounds_inner n clocks Padded p q h = omega arith
rounds_inner n clocks (Folded d) p q h = omega arith

-- ---- items and their layouts

pub record IsItem (p : ProgramTree) (f budget : ℕ) (layouts : List StTree) (a : ℕ) (t : SeqTree) : Type 0 where
  is : type_at p f a ≡ Some t
  laid : lay_of t budget ≡ Some (item_layout layouts a)

pub record HasItem (p : ProgramTree) (f budget : ℕ) (layouts : List StTree) (a : ℕ) : Type 0 where
  type : SeqTree
  item : IsItem p f budget layouts a type

item_of : (p : ProgramTree) (f budget : ℕ) (layouts : List StTree) (a : ℕ) (s : StTree) → slice_get layouts a ≡ Some s → layout_at p f budget a ≡ Some s
    → HasItem p f budget layouts a
item_of p f budget layouts a s at is =
    let e : item_layout layouts a ≡ s = ap (λ (o : Option StTree). unwrap_or o (sseq 0 (st_atom (unsigned_word 1)))) at in
    option_and_then_some (λ t. lay_of t budget) (type_at p f a) s is
    (λ t type some. record { type = t; item = record { is = type; laid = some ∙ ap Some (sym e) } })

get_front : {A : Type 0} (xs ys : List A) (j : ℕ) (x : A) → slice_get xs j ≡ Some x → slice_get (xs ++ ys) j ≡ Some x
get_front [] ys j x h = absurd (none-some x h)
get_front (y ∷ xs) ys zero x h = h
get_front (y ∷ xs) ys (suc j) x h = get_front xs ys j x h

get_back : {A : Type 0} (xs ys : List A) (j : ℕ) → slice_get (xs ++ ys) (length xs + j) ≡ slice_get ys j
get_back [] ys j = let e : 0 + j ≡ j = omega arith in ap (slice_get ys) e
get_back (x ∷ xs) ys j = let e : length (x ∷ xs) + j ≡ suc (length xs + j) = omega arith in rw e (get_back xs ys j)

get_take : {A : Type 0} (xs : List A) (i j : ℕ) → j < i → slice_get (take i xs) j ≡ slice_get xs j
get_take [] zero j h = absurd (omega arith)
get_take [] (suc i) j h = refl
get_take (x ∷ xs) zero j h = absurd (omega arith)
get_take (x ∷ xs) (suc i) zero h = refl
get_take (x ∷ xs) (suc i) (suc j) h = get_take xs i j (omega arith)

-- a node and what it comes from
record NodeAt (p : ProgramTree) (keys : Keys) (f u i : ℕ) (ns : List NodeTree) (j : ℕ) (s : StNodeTree) : Type 0 where
  node : NodeTree
  here : slice_get ns j ≡ Some node
  is : IsStNode p keys f u (i + j) node s

node_at : (p : ProgramTree) (keys : Keys) (f u i : ℕ) (ns : List NodeTree) (ss : List StNodeTree) (j : ℕ) (s : StNodeTree) → AreStNodes p keys f u i ns ss
    → slice_get ss j ≡ Some s → NodeAt p keys f u i ns j s
node_at p keys f u i [] [] j s h at = absurd (none-some s at)
node_at p keys f u i [] (t ∷ ss) j s h at = absurd h
node_at p keys f u i (n ∷ ns) [] j s h at = absurd h
node_at p keys f u i (n ∷ ns) (t ∷ ss) zero s h at =
    let e : t ≡ s = same_Some t s at in
    let z : i + 0 ≡ i = omega arith in
    record { node = n; here = refl; is = rw (z, ← e) h.0 }
node_at p keys f u i (n ∷ ns) (t ∷ ss) (suc j) s h at =
    let r = node_at p keys f u (i + 1) ns ss j s h.1 at in
    let e : i + 1 + j ≡ i + suc j = omega arith in
    record { node = r.node; here = r.here; is = rw (← e) r.is }

param_at : (clocks : ℕ) (ps : List ParamTree) (ss : List StTree) (i : ℕ) (s : StTree) → param_layouts clocks ps ≡ map (λ (x : StTree). Some x) ss
    → slice_get ss i ≡ Some s → (q : ParamTree) × (slice_get ps i ≡ Some q) × (lay_of q.type clocks ≡ Some s)
param_at clocks ps [] i s h at = absurd (none-some s at)
param_at clocks [] (t ∷ ss) i s h at = cc
param_at clocks (q ∷ ps) (t ∷ ss) zero s h at =
    let a : lay_of q.type clocks ≡ Some t = cc in
    (q, refl, a ∙ at)
param_at clocks (q ∷ ps) (t ∷ ss) (suc i) s h at =
    let rest : param_layouts clocks ps ≡ map (λ (x : StTree). Some x) ss = cc in
    param_at clocks ps ss i s rest at

as_many : (clocks : ℕ) (ps : List ParamTree) (ss : List StTree) → param_layouts clocks ps ≡ map (λ (x : StTree). Some x) ss → length ss ≡ length ps
as_many clocks ps ss h = sym (length-map ss (λ (x : StTree). Some x)) ∙ (ap length (sym h) ∙ length-map ps (λ (q : ParamTree). lay_of q.type clocks))

-- each item before a node has its layout
item_at : (p : ProgramTree) (keys : Keys) (s : StFuncTree) (h : IsInstance p keys s) (i a : ℕ) → i ≤ length s.nodes → a < length h.of.params + i
    → HasItem p s.func s.budget (s.ins ++ node_layouts (take i s.nodes)) a
item_at p keys s h i a few below =
    let count : length s.ins ≡ length h.of.params = as_many s.budget h.of.params s.ins h.ins in
    let layouts : List StTree = s.ins ++ node_layouts (take i s.nodes) in
    elim (cases_lt a (length s.ins)) [
      | inl lt ↦
          let none : StTree = sseq 0 (st_atom (unsigned_word 1)) in
          let x : StTree = get_or s.ins a none in
          let at : slice_get s.ins a ≡ Some x = slice_get-get_or s.ins a none lt in
          let q = param_at s.budget h.of.params s.ins a x h.ins at in
          item_of p s.func s.budget layouts a x (get_front s.ins (node_layouts (take i s.nodes)) a x at)
          (ap (λ o. o >>= λ t. lay_of t s.budget) (param-type p s.func a h.of q.0 h.known q.1) ∙ q.2)
      | inr ge ↦
          let j : ℕ = a - length s.ins in
          let e : length s.ins + j ≡ a = omega (arith, ge) in
          let lj : j < i = omega (arith, ge, count, below) in
          let blank : StNodeTree = record { op = join; args = []; type = sseq 0 (st_atom (unsigned_word 1)); copies = 0; line = 0 } in
          let m : StNodeTree = get_or s.nodes j blank in
          let at : slice_get s.nodes j ≡ Some m = slice_get-get_or s.nodes j blank (omega (arith, lj, few)) in
          let n = node_at p keys s.func s.budget (length h.of.params) h.of.nodes s.nodes j m h.nodes at in
          let there : slice_get layouts a ≡ Some m.type = ap (slice_get layouts) (sym e) ∙
          (get_back s.ins (node_layouts (take i s.nodes)) j ∙
          (slice_get-map (λ (x : StNodeTree). x.type) (take i s.nodes) j ∙ ap (option_map (λ (x : StNodeTree). x.type)) (get_take s.nodes i j lj ∙ at))) in
          let place : length h.of.params + j ≡ a = omega (arith, count, e) in
          item_of p s.func s.budget layouts a m.type there (rw place at n.is.type)
    ]

-- ---- the arguments of a node

abbrev AreItems : (p : ProgramTree) (f budget : ℕ) (layouts : List StTree) → List ℕ → List SeqTree → Type 0
AreItems p f budget layouts [] [] = Unit {0}
AreItems p f budget layouts (a ∷ as_left) (t ∷ ts) = IsItem p f budget layouts a t × AreItems p f budget layouts as_left ts
AreItems p f budget layouts _ _ = ⊥

items_typed : (p : ProgramTree) (f budget : ℕ) (layouts : List StTree) (before : List (Option SeqTree)) (args : List ℕ) (ts : List SeqTree)
    → ((i : ℕ) (u : SeqTree) → slice_get before i ≡ Some (Some u) → type_at p f i ≡ Some u)
    → ((i a : ℕ) → slice_get args i ≡ Some a → HasItem p f budget layouts a) → types_at before args ≡ Some ts → AreItems p f budget layouts args ts
items_typed p f budget layouts before [] [] same all h = tt
items_typed p f budget layouts before [] (t ∷ ts) same all h = cc
items_typed p f budget layouts before (a ∷ args) ts same all h =
    option_and_then_some (λ o. o >>= λ u. types_at before args >>= λ us. Some (u ∷ us)) (slice_get before a) ts h (λ o at h2.
    option_and_then_some (λ u. types_at before args >>= λ us. Some (u ∷ us)) o ts h2 (λ u is h3.
    option_and_then_some (λ us. Some (u ∷ us)) (types_at before args) ts h3 (λ us rest h4.
    let e : u ∷ us ≡ ts = same_Some (u ∷ us) ts h4 in
    let type : type_at p f a ≡ Some u = same a u (at ∙ ap Some is) in
    let item = all 0 a refl in
    let t : item.type ≡ u = same_Some item.type u (sym item.item.is ∙ type) in
    rw (← e) (record { is = type; laid = rw t at item.item.laid }, items_typed p f budget layouts before args us same (λ i b g. all (suc i) b g) rest))))

-- ---- what operators that call nothing need

ok_where : {A : Type 0} (b : Bool) (x y : A) → where_ok b (Some x) ≡ Some y → (b ≡ true) × (x ≡ y)
ok_where true x y h = (refl, same_Some x y h)
ok_where false x y h = absurd (none-some y h)

record Facts (p : ProgramTree) (budget : ℕ) : Type 0 where
  accepted : refused_line p ≡ None
  some : 0 < budget
  limit : budget ≤ 4096

arg_laid : (p : ProgramTree) (f budget : ℕ) (layouts : List StTree) (a : ℕ) (t : SeqTree) → Facts p budget → IsItem p f budget layouts a t
    → Laid t budget (item_layout layouts a)
arg_laid p f budget layouts a t c h = laid_whole t budget (item_layout layouts a) (type_sized p f a t c.accepted h.is) c.some h.laid

-- ---- the layout in which a fold's result first comes

record RawFacts (rounds inner : ℕ) (x r : StTree) : Type 0 where
  clocks : time x ≡ inner → time r ≡ rounds * inner
  lengths : HasLengths x → HasLengths r
  atoms : st_atoms r ≡ st_atoms x
  atom : element_atom r ≡ element_atom x
  deep : st_depth r ≡ st_depth x + 1

raw_by : (b : Bool) (rounds inner : ℕ) (x : StTree) → 0 < rounds → (b ≡ true → rounds ≡ 1) → RawFacts rounds inner x (cond b (sseq 1 x) (tseq 1 (rounds - 1) x))
raw_by true rounds inner x p h =
    let one : rounds ≡ 1 = h refl in
    record {
      clocks = λ is. rw one (is ∙ omega arith);
      lengths = λ l. (omega arith, l);
      atoms = omega arith;
      atom = refl;
      deep = refl;
    }
raw_by false rounds inner x p h =
    let e : 1 + (rounds - 1) ≡ rounds = omega arith in
    record {
      clocks = λ is. rw (is, e) refl;
      lengths = λ l. (omega arith, l);
      atoms = omega arith;
      atom = refl;
      deep = refl;
    }

one_round : (rounds inner : ℕ) → 0 < rounds → 0 < inner → rounds * inner ≡ 1 → rounds ≡ 1
one_round rounds inner p q h = let l = le_times inner rounds rounds q (omega arith) in omega (arith, l, h, mul_comm rounds inner)

raw_is : (budget inner rounds : ℕ) (x : StTree) → 0 < rounds → 0 < inner → rounds * inner ≡ budget → RawFacts rounds inner x (raw_layout budget inner x)
raw_is budget inner rounds x p q h =
    let whole_rounds : budget / inner ≡ rounds = ap (λ y. y / inner) (sym h) ∙ mul-div_cancel rounds q in
    rw whole_rounds (raw_by (nat_eq budget 1) rounds inner x p (λ b. one_round rounds inner p q (h ∙ eqb-true budget 1 b)))

rounds_some : (n clocks : ℕ) (c : Case) → 0 < n → 0 < clocks → 0 < rounds_of n clocks c
rounds_some n clocks Parallel p q = omega arith
rounds_some n clocks Spread p q = p
rounds_some n clocks Grouped p q = q
rounds_some n clocks Padded p q = q
rounds_some n clocks (Folded d) p q = q

parts_of : (n : ℕ) (t : SeqTree) → IsTrue (in_size (seq n t)) → IsTrue (parts_in_size t) × (depth t ≤ 5)
parts_of n t h = let a : IsTrue (parts_in_size t) = grind (arith, nat_tests) in let b : depth t ≤ 5 = grind (arith, nat_tests) in (a, b)

raw_for : (budget n : ℕ) (u : SeqTree) (c : Case) (x s : StTree) → 0 < budget → budget ≤ 4096 → case_of n budget ≡ Some c
    → lay_of u (inner_of n budget c) ≡ Some x → IsTrue (in_size (seq n u))
    → Laid (seq 1 u) budget s → IsFilling budget s → IsRawFor budget (raw_layout budget (inner_of n budget c) x) s
raw_for budget n u c x s some limit applied found sized out fill =
    let p = (seq_some n u sized).0 in
    let h = applies n budget c some applied in
    let inner : ℕ = inner_of n budget c in
    let q : 0 < inner = inner_pos n budget c p some h in
    let part = parts_of n u sized in
    let l = laid u inner x part.0 q found in
    let r = raw_is budget inner (rounds_of n budget c) x (rounds_some n budget c p some) q (rounds_inner n budget c p some h) in
    let clocks = r.clocks l.time ∙ rounds_inner n budget c p some h in
    let same : st_atoms (raw_layout budget inner x) ≡ st_atoms s = r.atoms ∙ (l.atoms ∙ sym (out.atoms ∙ omega arith)) in
    let atom : element_atom (raw_layout budget inner x) ≡ element_atom s = r.atom ∙ (l.atom ∙ sym out.atom) in
    record {
      layout = record {
        time = clocks;
        size = record {
          lengths = r.lengths l.lengths;
          in_time = rw clocks limit;
          in_words = rw (same, atom) fill.size.in_words;
          in_depth = omega (arith, r.deep, l.deep, part.1);
        };
      };
      atom = atom;
      atoms = same;
    }

-- ---- operator by operator

laid_part : (f : StTree → StTree) (y : StTree) (o v : Option StTree) → v ≡ o → option_map f o ≡ Some y → (x : StTree) × (v ≡ Some x)
laid_part f y None v e h = absurd (none-some y h)
laid_part f y (Some x) v e h = (x, e)

-- how an argument is spread
spread_of : (p : ProgramTree) (f budget a n : ℕ) (u : SeqTree) (s : StTree) → type_at p f a ≡ Some (seq n u) → lay_of (seq n u) budget ≡ Some s
    → (c : Case) × (case_of n budget ≡ Some c) × ((x : StTree) × (lay_of u (inner_of n budget c) ≡ Some x))
    × (spread_at p f budget a ≡ Some (record { count = n; of = u; case = c }))
spread_of p f budget a n u s is found =
    option_and_then_some (λ c. option_map (arranged n budget c) (lay_of u (inner_of n budget c))) (case_of n budget) s found (λ c at some. (
      c,
      at,
      laid_part (arranged n budget c) s (lay_of u (inner_of n budget c)) (lay_of u (inner_of n budget c)) refl some,
      ap (λ o. o >>= λ t. spread t budget) is ∙ ap (option_map (λ (e : Case). record { count = n; of = u; case = e })) at,
    ))

fixed_fits : (t : SeqTree) (budget : ℕ) (s : StTree) (ws : List ℕ) → Laid t budget s → IsTrue (fit_kinds ws (kinds t)) → FixedFits s ws
fixed_fits t budget s ws l h =
    let long : length ws ≡ words t = fit-length ws (kinds t) h ∙ length-kinds t in
    record {
      long = rw (l.atoms, l.atom) (long ∙ words-atoms t);
      fits = λ o w k f g.
          let below : o < words t = omega (arith, slice_get_within ws o w f, long) in
          fit-at ws (kinds t) h o w k f (sym (kind-place t o below) ∙ rw l.atom at g);
    }

op_sound : (p : ProgramTree) (f budget k : ℕ) (layouts : List StTree) (known : List Signature) (op : OpTree) (args : List ℕ) (ts : List SeqTree) (t : SeqTree)
    (s : StTree) (made : StOpTree) → Facts p budget
    → AreItems p f budget layouts args ts → op_type known op ts ≡ Some t → Laid t budget s → IsFilling budget s → plain_op p f budget op args ≡ Some made
    → IsSoundOp k budget (map (item_layout layouts) args) s made
op_sound p f budget k layouts known (word op) args ts t s made c h is out fill plain =
    let e : st_word (op_by p f op args) ≡ made = same_Some _ made plain in rw (← e) tt
op_sound p f budget k layouts known (cast_int v) args ts t s made c h is out fill plain = rw (← same_Some _ made plain) tt
op_sound p f budget k layouts known pair args ts t s made c h is out fill plain = rw (← same_Some join made plain) tt
op_sound p f budget k layouts known fst args ts t s made c h is out fill plain = rw (← same_Some first made plain) tt
op_sound p f budget k layouts known snd args ts t s made c h is out fill plain = rw (← same_Some second made plain) tt
op_sound p f budget k layouts known zip args ts t s made c h is out fill plain = rw (← same_Some join made plain) tt
op_sound p f budget k layouts known (call g) args ts t s made c h is out fill plain = absurd (none-some made plain)
op_sound p f budget k layouts known (each g) args ts t s made c h is out fill plain = absurd (none-some made plain)
op_sound p f budget k layouts known (each_two g) args ts t s made c h is out fill plain = absurd (none-some made plain)
op_sound p f budget k layouts known (const v ws) args [] t s made c h is out fill plain =
    let o = ok_where (fit_kinds ws (kinds v)) v t is in
    rw (← same_Some (fixed ws) made plain) (fixed_fits t budget s ws out (rw o.1 at o.0))
op_sound p f budget k layouts known (const v ws) args (u ∷ ts) t s made c h is out fill plain = absurd (none-some t is)
op_sound p f budget k layouts known (reduce op) (a ∷ []) (seq n u ∷ []) t s made c h is out fill plain =
    let r = spread_of p f budget a n u _ h.0.is h.0.laid in
    let sized = type_sized p f a (seq n u) c.accepted h.0.is in
    let e : t ≡ seq 1 u = sym (same_Some (seq 1 u) t is) in
    let some = seq_some n u sized in
    let m : fold op (slots_of n budget r.0) (lanes_of n budget r.0) (raw_layout budget (inner_of n budget r.0) r.2.0) ≡ made =
    same_Some _ made (sym (ap (λ o. o >>= fold_of op budget) r.3 ∙
    ap (option_map (λ y. fold op (slots_of n budget r.0) (lanes_of n budget r.0) (raw_layout budget (inner_of n budget r.0) y))) r.2.1) ∙ plain) in
    rw (← m) (
      raw_for budget n u r.0 r.2.0 s c.some c.limit r.1 r.2.1 sized (rw e at out) fill,
      amounts n budget r.0 some.0 some.1 c.some c.limit (applies n budget r.0 c.some r.1),
    )
op_sound p f budget k layouts known (scan op) (a ∷ []) (seq n u ∷ []) t s made c h is out fill plain =
    let r = spread_of p f budget a n u _ h.0.is h.0.laid in
    let sized = type_sized p f a (seq n u) c.accepted h.0.is in
    let some = seq_some n u sized in
    let m : st_scan op (slots_of n budget r.0) (lanes_of n budget r.0) ≡ made = same_Some _ made (sym (ap (option_map (scan_of op budget)) r.3) ∙ plain) in
    rw (← m) (amounts n budget r.0 some.0 some.1 c.some c.limit (applies n budget r.0 c.some r.1))
op_sound p f budget k layouts known (shift m) (a ∷ []) (seq n u ∷ []) t s made c h is out fill plain =
    let l = arg_laid p f budget layouts a (seq n u) c h.0 in
    let o = ok_where (nat_le m n) (seq n u) t is in
    let low : m ≤ n = leb-true m n o.0 in
    let x : Laid (seq n u) budget s = rw (← o.1) at out in
    let e : move (Shift (m * atoms u)) ≡ made = same_Some _ made (sym (ap (λ q. q >>= shift_of m) h.0.is) ∙ plain) in
    rw (← e) (l.atom ∙ sym x.atom, (l.atoms ∙ sym x.atoms, rw x.atoms (mul-le-mul_right (atoms u) low)))
op_sound p f budget k layouts known (up m) (a ∷ []) (seq n u ∷ []) t s made c h is out fill plain =
    let l = arg_laid p f budget layouts a (seq n u) c h.0 in
    let o = ok_where (n == 1) (seq m u) t is in
    let one : n ≡ 1 = eqb-true n 1 o.0 in
    let x : Laid (seq m u) budget s = rw (← o.1) at out in
    let at : st_atoms (item_layout layouts a) ≡ atoms u = l.atoms ∙ (ap (λ y. y * atoms u) one ∙ omega arith) in
    rw (← same_Some (move (Up m)) made plain) (l.atom ∙ sym x.atom, x.atoms ∙ ap (λ y. m * y) (sym at))
op_sound p f budget k layouts known (select m) (a ∷ []) (seq n u ∷ []) t s made c h is out fill plain =
    let l = arg_laid p f budget layouts a (seq n u) c h.0 in
    let o = ok_where (nat_lt m n) (seq 1 u) t is in
    let low : m + 1 ≤ n = (let lt : m < n = ltb-true m n o.0 in omega arith) in
    let x : Laid (seq 1 u) budget s = rw (← o.1) at out in
    let own : st_atoms s ≡ atoms u = x.atoms ∙ omega arith in
    let whole_part : m * atoms u + atoms u ≡ (m + 1) * atoms u = sym (add-mul m 1 (atoms u) ∙ ap (λ y. m * atoms u + y) (omega arith)) in
    rw (← same_Some (move (Select m)) made plain) (l.atom ∙ sym x.atom, rw (own, l.atoms, whole_part) (mul-le-mul_right (atoms u) low))
op_sound p f budget k layouts known (partition n m) (a ∷ []) (seq i u ∷ []) t s made c h is out fill plain =
    let l = arg_laid p f budget layouts a (seq i u) c h.0 in
    let o = ok_where (i == n * m) (seq n (seq m u)) t is in
    let e : i ≡ n * m = eqb-true i (n * m) o.0 in
    let x : Laid (seq n (seq m u)) budget s = rw (← o.1) at out in
    rw (← same_Some (move Same) made plain) (l.atom ∙ sym x.atom, l.atoms ∙ (ap (λ y. y * atoms u) e ∙ (mul_assoc n m (atoms u) ∙ sym x.atoms)))
op_sound p f budget k layouts known unpartition (a ∷ []) (seq n (seq m u) ∷ []) t s made c h is out fill plain =
    let l = arg_laid p f budget layouts a (seq n (seq m u)) c h.0 in
    let e : seq (n * m) u ≡ t = same_Some (seq (n * m) u) t is in
    let x : Laid (seq (n * m) u) budget s = rw (← e) at out in
    rw (← same_Some (move Same) made plain) (l.atom ∙ sym x.atom, l.atoms ∙ (sym (mul_assoc n m (atoms u)) ∙ sym x.atoms))
-- lines of another form have no type, or their arguments have none
op_sound p f budget k layouts known (reduce op) args [] t s made c h is out fill plain = absurd (none-some t is)
op_sound p f budget k layouts known (reduce op) args (atom b ∷ []) t s made c h is out fill plain = absurd (none-some t is)
op_sound p f budget k layouts known (reduce op) args (v ∷ w ∷ ts) t s made c h is out fill plain = absurd (none-some t is)
op_sound p f budget k layouts known (reduce op) [] (seq n u ∷ []) t s made c h is out fill plain = absurd h
op_sound p f budget k layouts known (reduce op) (a ∷ b ∷ args) (seq n u ∷ []) t s made c h is out fill plain = absurd h.1
op_sound p f budget k layouts known (scan op) args [] t s made c h is out fill plain = absurd (none-some t is)
op_sound p f budget k layouts known (scan op) args (atom b ∷ []) t s made c h is out fill plain = absurd (none-some t is)
op_sound p f budget k layouts known (scan op) args (v ∷ w ∷ ts) t s made c h is out fill plain = absurd (none-some t is)
op_sound p f budget k layouts known (scan op) [] (seq n u ∷ []) t s made c h is out fill plain = absurd h
op_sound p f budget k layouts known (scan op) (a ∷ b ∷ args) (seq n u ∷ []) t s made c h is out fill plain = absurd h.1
op_sound p f budget k layouts known (shift m) args [] t s made c h is out fill plain = absurd (none-some t is)
op_sound p f budget k layouts known (shift m) args (atom b ∷ []) t s made c h is out fill plain = absurd (none-some t is)
op_sound p f budget k layouts known (shift m) args (v ∷ w ∷ ts) t s made c h is out fill plain = absurd (none-some t is)
op_sound p f budget k layouts known (shift m) [] (seq n u ∷ []) t s made c h is out fill plain = absurd h
op_sound p f budget k layouts known (shift m) (a ∷ b ∷ args) (seq n u ∷ []) t s made c h is out fill plain = absurd h.1
op_sound p f budget k layouts known (up m) args [] t s made c h is out fill plain = absurd (none-some t is)
op_sound p f budget k layouts known (up m) args (atom b ∷ []) t s made c h is out fill plain = absurd (none-some t is)
op_sound p f budget k layouts known (up m) args (v ∷ w ∷ ts) t s made c h is out fill plain = absurd (none-some t is)
op_sound p f budget k layouts known (up m) [] (seq n u ∷ []) t s made c h is out fill plain = absurd h
op_sound p f budget k layouts known (up m) (a ∷ b ∷ args) (seq n u ∷ []) t s made c h is out fill plain = absurd h.1
op_sound p f budget k layouts known (select m) args [] t s made c h is out fill plain = absurd (none-some t is)
op_sound p f budget k layouts known (select m) args (atom b ∷ []) t s made c h is out fill plain = absurd (none-some t is)
op_sound p f budget k layouts known (select m) args (v ∷ w ∷ ts) t s made c h is out fill plain = absurd (none-some t is)
op_sound p f budget k layouts known (select m) [] (seq n u ∷ []) t s made c h is out fill plain = absurd h
op_sound p f budget k layouts known (select m) (a ∷ b ∷ args) (seq n u ∷ []) t s made c h is out fill plain = absurd h.1
op_sound p f budget k layouts known (partition n m) args [] t s made c h is out fill plain = absurd (none-some t is)
op_sound p f budget k layouts known (partition n m) args (atom b ∷ []) t s made c h is out fill plain = absurd (none-some t is)
op_sound p f budget k layouts known (partition n m) args (v ∷ w ∷ ts) t s made c h is out fill plain = absurd (none-some t is)
op_sound p f budget k layouts known (partition n m) [] (seq i u ∷ []) t s made c h is out fill plain = absurd h
op_sound p f budget k layouts known (partition n m) (a ∷ b ∷ args) (seq i u ∷ []) t s made c h is out fill plain = absurd h.1
op_sound p f budget k layouts known unpartition args [] t s made c h is out fill plain = absurd (none-some t is)
op_sound p f budget k layouts known unpartition args (atom b ∷ []) t s made c h is out fill plain = absurd (none-some t is)
op_sound p f budget k layouts known unpartition args (v ∷ w ∷ ts) t s made c h is out fill plain = absurd (none-some t is)
op_sound p f budget k layouts known unpartition args (seq n (atom b) ∷ []) t s made c h is out fill plain = absurd (none-some t is)
op_sound p f budget k layouts known unpartition [] (seq n (seq j u) ∷ []) t s made c h is out fill plain = absurd h
op_sound p f budget k layouts known unpartition (a ∷ b ∷ args) (seq n (seq j u) ∷ []) t s made c h is out fill plain = absurd h.1

-- ---- what calls need

copies_by : (op : OpTree) (budget : ℕ) (o : Option Spreading) (c : Call) → 0 < budget → budget ≤ 4096
    → ((s : Spreading) → o ≡ Some s → (0 < s.count) × (s.count ≤ 4096) × (case_of s.count budget ≡ Some s.case)) → call_of op budget o ≡ Some c
    → (1 ≤ c.copies) × (c.copies ≤ 4096)
copies_by (call g) budget o c some limit h is = let e : 1 ≡ c.copies = ap (λ (x : Call). x.copies) (same_Some _ c is) in rw (← e) (omega arith, omega arith)
copies_by (each g) budget None c some limit h is = absurd (none-some c is)
copies_by (each g) budget (Some s) c some limit h is =
    let e : lanes_of s.count budget s.case ≡ c.copies = ap (λ (x : Call). x.copies) (same_Some _ c is) in
    let n = h s refl in
    let a = amounts s.count budget s.case n.0 n.1 some limit (applies s.count budget s.case some n.2) in
    rw (← e) (a.some_lanes, a.few_lanes)
copies_by (each_two g) budget None c some limit h is = absurd (none-some c is)
copies_by (each_two g) budget (Some s) c some limit h is =
    let e : lanes_of s.count budget s.case ≡ c.copies = ap (λ (x : Call). x.copies) (same_Some _ c is) in
    let n = h s refl in
    let a = amounts s.count budget s.case n.0 n.1 some limit (applies s.count budget s.case some n.2) in
    rw (← e) (a.some_lanes, a.few_lanes)
copies_by _ budget o c some limit h is = absurd (none-some c is)

case_there : (budget n : ℕ) (u : SeqTree) (s : Spreading) (o : Option Case) → case_of n budget ≡ o
    → option_map (λ (c : Case). record { count = n; of = u; case = c }) o ≡ Some s → (c : Case) × (case_of n budget ≡ Some c)
    × (record { count = n; of = u; case = c } ≡ s)
case_there budget n u s None e h = absurd (none-some s h)
case_there budget n u s (Some c) e h = (c, e, same_Some _ s h)

spread_by : (p : ProgramTree) (f budget a : ℕ) (s : Spreading) (t : SeqTree) → refused_line p ≡ None → type_at p f a ≡ Some t → spread t budget ≡ Some s
    → (0 < s.count) × (s.count ≤ 4096) × (case_of s.count budget ≡ Some s.case)
spread_by p f budget a s (atom b) accepted type some = absurd (none-some s some)
spread_by p f budget a s (seq n u) accepted type some =
    let sized = seq_some n u (type_sized p f a (seq n u) accepted type) in
    let r = case_there budget n u s (case_of n budget) refl some in
    rw (← r.2) (sized.0, sized.1, r.1)

spread_facts : (p : ProgramTree) (f budget a : ℕ) (s : Spreading) → refused_line p ≡ None → spread_at p f budget a ≡ Some s → (0 < s.count) × (s.count ≤ 4096)
    × (case_of s.count budget ≡ Some s.case)
spread_facts p f budget a s accepted is =
    option_and_then_some (λ t. spread t budget) (type_at p f a) s is (λ t type some. spread_by p f budget a s t accepted type some)

copies_sound : (p : ProgramTree) (f budget : ℕ) (n : NodeTree) (o : Option Call) (m : ℕ) → refused_line p ≡ None → 0 < budget → budget ≤ 4096
    → called_by p f budget n ≡ o → m ≡ copies_of o → (1 ≤ m) × (m ≤ 4096)
copies_sound p f budget n None m accepted some limit e is = rw is (omega arith, omega arith)
copies_sound p f budget n (Some c) m accepted some limit e is =
    rw is (copies_by n.op budget (spread_at p f budget (head n.args)) c some limit (λ s at. spread_facts p f budget (head n.args) s accepted at) e)

few_operands : (op : WordOp) → arity_of op ≤ 3
few_operands Add = omega arith
few_operands Sub = omega arith
few_operands Mul = omega arith
few_operands And = omega arith
few_operands Or = omega arith
few_operands Xor = omega arith
few_operands Not = omega arith
few_operands Min = omega arith
few_operands Max = omega arith
few_operands Eq = omega arith
few_operands Lt = omega arith
few_operands Mux = omega arith
few_operands (Shl k) = omega arith
few_operands (Shr k) = omega arith
few_operands (Cast v) = omega arith
few_operands SLt = omega arith
few_operands SMin = omega arith
few_operands SMax = omega arith
few_operands (Sar k) = omega arith
few_operands (SCast v) = omega arith

few_arguments : (op : OpTree) (n : ℕ) → IsTrue (has_arguments op n) → n ≤ 8
few_arguments (word op) n h = let e : n ≡ arity_of op = eqb-true n (arity_of op) h in let l = few_operands op in omega (arith, e, l)
few_arguments pair n h = grind (arith, nat_tests)
few_arguments (const t ws) n h = grind (arith, nat_tests)
few_arguments zip n h = grind (arith, nat_tests)
few_arguments (call f) n h = grind (arith, nat_tests)
few_arguments (each_two f) n h = grind (arith, nat_tests)
few_arguments (cast_int v) n h = grind (arith, nat_tests)
few_arguments fst n h = grind (arith, nat_tests)
few_arguments snd n h = grind (arith, nat_tests)
few_arguments (each f) n h = grind (arith, nat_tests)
few_arguments (reduce op) n h = grind (arith, nat_tests)
few_arguments (scan op) n h = grind (arith, nat_tests)
few_arguments (shift k) n h = grind (arith, nat_tests)
few_arguments (up k) n h = grind (arith, nat_tests)
few_arguments (select k) n h = grind (arith, nat_tests)
few_arguments (partition k m) n h = grind (arith, nat_tests)
few_arguments unpartition n h = grind (arith, nat_tests)

-- ---- nodes, instances, the whole

called_sound : (k budget : ℕ) (all : List StFuncTree) (layouts : List StTree) (s : StNodeTree) (o : Option Call) (plain : Option StOpTree)
    → IsOp (HasKey (take k all)) o plain s.op
    → (plain ≡ Some s.op → IsSoundOp k budget layouts s.type s.op) → IsSoundOp k budget layouts s.type s.op
called_sound k budget all layouts s None plain h own = own h
called_sound k budget all layouts s (Some c) plain h own =
    let inside : h.at < length (take k all) = slice_get_within (take k all) h.at h.key.instance h.key.here in
    let low : length (take k all) ≤ k = length_take_low k all in
    rw h.is (omega (arith, inside, low))
  where
    length_take_low : (k : ℕ) (xs : List StFuncTree) → length (take k xs) ≤ k
    length_take_low zero xs = omega arith
    length_take_low (suc k) [] = omega arith
    length_take_low (suc k) (x ∷ xs) = omega (arith, length_take_low k xs)

node_sound : (p : ProgramTree) (all : List StFuncTree) (k : ℕ) (s : StFuncTree) (h : IsInstance p (HasKey (take k all)) s) → IsTrue (formed p)
    → Facts p s.budget → IsFilled s → (i : ℕ) (n : StNodeTree) → slice_get s.nodes i ≡ Some n
    → IsSoundNode k s.budget (s.ins ++ node_layouts (take i s.nodes)) n
node_sound p all k s h good facts filled i n at =
    let layouts : List StTree = s.ins ++ node_layouts (take i s.nodes) in
    let inside : i < length s.nodes = slice_get_within s.nodes i n at in
    let count : length s.ins ≡ length h.of.params = as_many s.budget h.of.params s.ins h.ins in
    let taken : length (node_layouts (take i s.nodes)) ≡ i = length-map (take i s.nodes) (λ (x : StNodeTree). x.type) ∙
    length-take-le i s.nodes (omega (arith, inside)) in
    let long : length layouts ≡ length h.of.params + i = length-append s.ins (node_layouts (take i s.nodes)) ∙ omega (arith, count, taken) in
    let from = node_at p (HasKey (take k all)) s.func s.budget (length h.of.params) h.of.nodes s.nodes i n h.nodes at in
    let form = node-of p s.func h.of i from.node good h.known from.here in
    let fill = filled.nodes i n.type (slice_get-map (λ (x : StNodeTree). x.type) s.nodes i ∙ ap (option_map (λ (x : StNodeTree). x.type)) at) in
    let copies = copies_sound p s.func s.budget from.node
    (called_by p s.func s.budget from.node) n.copies facts.accepted facts.some facts.limit refl from.is.copies in
    record {
      args = λ j a f. let low = below-at (length h.of.params + i) from.node.args j a form.below (rw from.is.args at f) in omega (arith, low, long);
      few = rw from.is.args (few_arguments from.node.op (length from.node.args) form.arguments);
      layout = fill;
      some_copies = copies.0;
      few_copies = copies.1;
      op = called_sound k s.budget all (map (item_layout layouts) n.args) n (called_by p s.func s.budget from.node)
          (plain_op p s.func s.budget from.node.op from.node.args) from.is.op (λ plain.
          option_and_then_some (λ t. lay_of t s.budget) (type_at p s.func (length h.of.params + i)) n.type from.is.type (λ t type found.
          let typed = typed-node p s.func h.of i from.node t h.known from.here type in
          let out = laid_whole t s.budget n.type (type_sized p s.func (length h.of.params + i) t facts.accepted type) facts.some found in
          option_and_then_some (op_type typed.known from.node.op) (types_at typed.before from.node.args) t typed.is (λ ts all_types is.
          let items = items_typed p s.func s.budget layouts typed.before from.node.args ts typed.same
          (λ j a f. item_at p (HasKey (take k all)) s h i a (omega (arith, inside)) (below-at (length h.of.params + i) from.node.args j a form.below f))
          all_types in
          rw from.is.args (op_sound p s.func s.budget k layouts typed.known from.node.op from.node.args ts t n.type n.op facts items is out fill plain))));
    }

func_sound : (p : ProgramTree) (slowdown : ℕ) (all : List StFuncTree) (k : ℕ) (s : StFuncTree) → IsTrue (formed p) → refused_line p ≡ None → 0 < slowdown
    → slowdown ≤ 4096 → IsSchedule p slowdown all → AllFilled all → slice_get all k ≡ Some s → IsSoundFunc k s
func_sound p slowdown all k s good accepted some limit h filled at =
    let own = h.right k s at in
    let key : HasKey all k s.func s.budget = record { instance = s; here = at; is_func = refl; is_budget = refl } in
    let w = reached-within p slowdown s.func s.budget some (h.reached k s.func s.budget key) in
    let facts : Facts p s.budget = record { accepted = accepted; some = w.0; limit = omega (arith, w.1, limit) } in
    let fill = filled k s at in
    let form = formed-of p s.func own.of good own.known in
    let count : length s.ins ≡ length own.of.params = as_many s.budget own.of.params s.ins own.ins in
    let nodes : length s.nodes ≡ length own.of.nodes = nodes_many p (HasKey (take k all)) s.func s.budget
    (length own.of.params) own.of.nodes s.nodes own.nodes in
    let long : length (item_layouts s) ≡ length own.of.params + length own.of.nodes = length-append s.ins (node_layouts s.nodes) ∙
    omega (arith, count, nodes, length-map s.nodes (λ (x : StNodeTree). x.type)) in
    record {
      ins = fill.ins;
      few_ins = omega (arith, count, form.few_params);
      nodes = λ i n f. node_sound p all k s own good facts fill i n f;
      results = λ i r f. let low = below-at (item_count own.of) own.of.results i r form.results (rw own.results at f) in omega (arith, low, long);
      some_results = rw own.results form.some_results;
      few_results = rw own.results form.few_results;
    }
  where
    nodes_many : (p : ProgramTree) (keys : Keys) (f u i : ℕ) (ns : List NodeTree) (ss : List StNodeTree) → AreStNodes p keys f u i ns ss → length ss ≡ length ns
    nodes_many p keys f u i [] [] h = refl
    nodes_many p keys f u i [] (t ∷ ss) h = absurd h
    nodes_many p keys f u i (n ∷ ns) [] h = absurd h
    nodes_many p keys f u i (n ∷ ns) (t ∷ ss) h = omega (arith, nodes_many p keys f u (i + 1) ns ss h.1)

-- what is said of a schedule makes it one that is put together rightly
pub schedule_sound : (p : ProgramTree) (slowdown : ℕ) (all : List StFuncTree) → IsTrue (formed p) → refused_line p ≡ None → 0 < slowdown → slowdown ≤ 4096
    → IsSchedule p slowdown all → AllFilled all → IsSound all
schedule_sound p slowdown all good accepted some limit h filled = record {
  some = let inside = slice_get_within all (length all - 1) h.last.instance h.last.here in omega (arith, inside);
  each = λ k s at. func_sound p slowdown all k s good accepted some limit h filled at;
  used = λ k s at. schedule_used p slowdown all h k s at;
}
