-- Where items begin.
use Rattle.std.proofs.Common.{◌≡◌, ℕ, zero, suc, ◌+◌, ◌*◌, ◌<◌, ◌≤◌, List, [], ◌∷◌, ◌++◌, length, take, map, get_or, Option, Some, IsTrue, slice_get, refl, arith, sym, ap, ◌∙◌, Vec}
use Rattle.std.proofs.lemmas.List.{length-map, take_more, take_all}
use Rattle.std.proofs.lemmas.Option.{slice_get_within, get_or_from_slice_get}
use Rattle.std.specs.declared.alloc.Global.{Global}
use Rattle.ae_seq.proofs.Types.{slice_get-view}
use Rattle.std.proofs.lemmas.Bool.Decides.{nat_tests}
use Rattle.ae_seqtype.specs.SeqTree.{SeqTree, words, in_size}
use Rattle.ae_seq.specs.ProgramTree.{FuncTree, ProgramTree}
use Rattle.ae_seq.specs.Formed.{item_count}
use Rattle.ae_seq.specs.Typing.{node_type, param_types, signatures}
use Rattle.ae_eval.specs.Stack.{IsTyped, starts_from, starts_of, types_in, words_of}
use Rattle.ae_eval.proofs.Accepting.{func-types}
use Rattle.ae_seq.proofs.Items.{length-grown}

-- item i begins after the words of the items before it
pub start-at : (a : ℕ) (ts : List SeqTree) (i : ℕ) → i ≤ length ts → slice_get (starts_from a ts) i ≡ Some (a + words_of (take i ts))
start-at a [] zero h = let e : a ≡ a + 0 = omega arith in ap (λ (j : ℕ). Some j) e
start-at a [] (suc i) h = absurd (omega arith)
start-at a (t ∷ ts) zero h = let e : a ≡ a + 0 = omega arith in ap (λ (j : ℕ). Some j) e
start-at a (t ∷ ts) (suc i) h =
    let e : a + words t + words_of (take i ts) ≡ a + (words t + words_of (take i ts)) = omega arith in
    start-at (a + words t) ts i (omega arith) ∙ ap (λ (j : ℕ). Some j) e

pub length-starts : (a : ℕ) (ts : List SeqTree) → length (starts_from a ts) ≡ length ts + 1
length-starts a [] = refl
length-starts a (t ∷ ts) = omega (arith, length-starts (a + words t) ts)

-- one more item
pub words_of-more : (ts : List SeqTree) (i : ℕ) (t : SeqTree) → slice_get ts i ≡ Some t → words_of (take (i + 1) ts) ≡ words_of (take i ts) + words t
words_of-more [] i t h = cc
words_of-more (s ∷ ts) zero t h = let same : s ≡ t = cc in rw same (let e : words t + 0 ≡ 0 + words t = omega arith in e)
words_of-more (s ∷ ts) (suc i) t h =
    let sum : suc i + 1 ≡ suc (i + 1) = omega arith in
    let r = words_of-more ts i t h in
    rw sum (omega (arith, r))

pub count-items : (p : ProgramTree) (k : ℕ) (f : FuncTree) → IsTyped p → slice_get p.funcs k ≡ Some f → length (types_in p k) ≡ item_count f
count-items p k f h e =
    let r = func-types p k f h e in
    let a = simp length-map at (ap length r.all) in
    let b = simp length-map at (length-grown (node_type (signatures (take k p.funcs))) (map Some (param_types f)) f.nodes) in
    omega (arith, a, b)

-- one more item and its end
pub starts-push : (a : ℕ) (ts : List SeqTree) (t : SeqTree) → starts_from a (ts ++ t ∷ []) ≡ starts_from a ts ++ (a + words_of ts + words t) ∷ []
starts-push a [] t = let e : a + words t ≡ a + 0 + words t = omega arith in ap (λ j. a ∷ j ∷ []) e
starts-push a (s ∷ ts) t =
    let e : a + words s + words_of ts + words t ≡ a + (words s + words_of ts) + words t = omega arith in
    ap (λ xs. a ∷ xs) (starts-push (a + words s) ts t) ∙ ap (λ j. a ∷ (starts_from (a + words s) ts ++ j ∷ [])) e

-- what holds of the places of the items before one
pub record Begun (ts : List SeqTree) (i last : ℕ) (found : List ℕ) : Type 0 where
  pub items : found ≡ starts_from 0 (take i ts)
  pub end : last ≡ words_of (take i ts)
  pub bound : last ≤ i * 16384

pub begun-next : (ts : List SeqTree) (i end size : ℕ) (old new : List ℕ) (t : SeqTree) → Begun ts i end old → slice_get ts i ≡ Some t → IsTrue (in_size t)
    → size ≡ words t → new ≡ old ++ (end + size) ∷ [] → Begun ts (i + 1) (end + size) new
begun-next ts i end size old new t h at-i small is-size more =
    let within = slice_get_within ts i t at-i in
    let next : take (i + 1) ts ≡ take i ts ++ t ∷ [] = take_more ts i t within ∙ ap (λ x. take i ts ++ x ∷ []) (get_or_from_slice_get ts i t t at-i) in
    let a = h.end in
    let b = h.bound in
    let few : words t ≤ 16384 = grind (arith, nat_tests) in
    let sum : end + size ≡ 0 + words_of (take i ts) + words t = omega arith in
    record {
      items = more ∙ ap (λ xs. xs ++ (end + size) ∷ []) h.items ∙ ap (λ j. starts_from 0 (take i ts) ++ j ∷ []) sum ∙ sym (starts-push 0 (take i ts) t) ∙
          ap (starts_from 0) (sym next);
      end = sum ∙ (let z = words_of-more ts i t at-i in omega (arith, z));
      bound = omega (arith, few);
    }

pub begun-all : (ts : List SeqTree) (i end : ℕ) (items : List ℕ) → Begun ts i end items → i ≡ length ts → items ≡ starts_from 0 ts
begun-all ts i end items h e = h.items ∙ ap (starts_from 0) (take_all i ts (omega arith))

-- what the code reads of the starts
pub starts-within : (starts : List (Vec ℕ Global)) (k : ℕ) (xs : List ℕ) → slice_get (starts_of starts) k ≡ Some xs → k < length starts
starts-within starts k xs h = simp length-map at (slice_get_within (starts_of starts) k xs h)

pub starts-own : (starts : List (Vec ℕ Global)) (k : ℕ) (v : Vec ℕ Global) (xs : List ℕ) → slice_get (starts_of starts) k ≡ Some xs → v ≡ get_or starts k v
    → v.items ≡ xs
starts-own starts k v xs h e =
    let got = slice_get-view (λ (v : Vec ℕ Global). v.items) starts k v (starts-within starts k xs h) e in
    let both : ◌≡◌ {A = Option (List ℕ)} (Some v.items) (Some xs) = sym got ∙ h in
    cc

pub start-read : (ts : List SeqTree) (own : List ℕ) (i x : ℕ) → own ≡ starts_from 0 ts → i ≤ length ts → x ≡ get_or own i x → x ≡ words_of (take i ts)
start-read ts own i x e within read =
    let at-i = start-at 0 ts i within in
    let got = get_or_from_slice_get (starts_from 0 ts) i (0 + words_of (take i ts)) x at-i in
    read ∙ ap (λ zs. get_or zs i x) e ∙ got ∙ (let q : 0 + words_of (take i ts) ≡ words_of (take i ts) = omega arith in q)

pub start-inside : (ts : List SeqTree) (own : List ℕ) (i : ℕ) → own ≡ starts_from 0 ts → i ≤ length ts → i < length own
start-inside ts own i e within = rw e (omega (arith, length-starts 0 ts))

-- the starts of one more function
pub starts-more : (starts : List (List ℕ)) (own : List ℕ) (n : ℕ) (P : ℕ → List ℕ) → length starts ≡ n → ((k : ℕ) → k < n → slice_get starts k ≡ Some (P k))
    → own ≡ P n → (k : ℕ) → k < n + 1 → slice_get (starts ++ own ∷ []) k ≡ Some (P k)
starts-more [] own n P e h g zero lt = let z : n ≡ 0 = omega arith in ap (λ xs. Some xs) (g ∙ ap P z)
starts-more [] own n P e h g (suc k) lt = absurd (omega arith)
starts-more (s ∷ starts) own n P e h g zero lt = h zero (omega arith)
starts-more (s ∷ starts) own n P e h g (suc k) lt =
    let size : n ≡ suc (length starts) = omega arith in
    starts-more starts own (length starts) (λ j. P (suc j)) refl (λ j l. h (suc j) (omega arith)) (g ∙ ap P size) k (omega arith)

pub begun-first : (ts : List SeqTree) (none new : List ℕ) → none ≡ [] → new ≡ none ++ 0 ∷ [] → Begun ts 0 0 new
begun-first ts none new h e = record { items = e ∙ ap (λ xs. xs ++ 0 ∷ []) h; end = refl; bound = omega arith }
