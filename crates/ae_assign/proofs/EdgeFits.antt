-- Which names take something new, by nets of their widths.
use Rattle.std.proofs.Common.{ℕ, zero, suc, ◌≡◌, ◌≢◌, ◌+◌, ◌<◌, ◌≤◌, ◌⊎◌, inl, inr, true, false, List, [], ◌∷◌, ◌++◌, length, get_or, Option, Some, slice_get, arith, refl, sym, ap, ◌∙◌, subst, length-set}
use Rattle.std.specs.Prelude.{slice_set}
use Rattle.std.proofs.lemmas.Option.{slice_get_within}
use Rattle.ae_netlist.specs.declared.cell.NetId.{NetId}
use Rattle.ae_netlist.specs.declared.cell.SizedCell.{SizedCell}
use Rattle.ae_netlist.specs.Circuit.{Circuit, IsNet, IsAddress}
use Rattle.ae_netlist.specs.Runs.{Clock, word_at, store_at}
use Rattle.ae_netlist.proofs.Growing.{Keeps, keeps_extends, address_later, written_later}
use Rattle.ae_netlist.proofs.Gets.{get_left, get_set_other}
use Rattle.ae_vmodule.specs.declared.module.NetKind.{NetKind}
use Rattle.ae_vmodule.specs.declared.module.NetKind.TheVariants.{Input, Wire, OutWire, Reg, OutReg, Memory}
use Rattle.ae_vmodule.specs.ModuleTree.{StmtTree, set, put, when, either, block_end, block_more, NetTree}
use Rattle.ae_judge.specs.Names.{Among, is_memory_name, is_register_name, is_register_kind, is_memory_kind, depth_of, depth_of_kind, depth_in, passes}
use Rattle.ae_judge.specs.Widths.{declared_width}
use Rattle.ae_judge.specs.Weight.{stmt_weight}
use Rattle.ae_judge.specs.Faults.{IsRepeated}
use Rattle.ae_gates.specs.Cells.{GrowsByGates}
use Rattle.ae_runs.specs.Named.{AreNets, IsNamed, place_of}
use Rattle.ae_assign.specs.Edges.{FitsNext, FitNexts, AreFresh, OthersKeep, IsWordNext, IsSoFar, next_at, next_word, next_store}
use Rattle.ae_assign.specs.declared.statements.Next.{Next}
use Rattle.ae_assign.specs.declared.statements.Next.TheVariants.{Keep, Word, Write}
use Rattle.ae_assign.proofs.EdgeLaws.{guard_net_grows}
use Rattle.ae_judge.proofs.Members.{among_at, among_left, among_right}
use Rattle.ae_order.proofs.SoundLaws.{named_width}
use Rattle.ae_gates.proofs.Words.{net_grows}
use Rattle.ae_express.proofs.NetLaws.{name_net, nets_grow}

pub address_grows : (a b : Circuit) (at depth : ℕ) → GrowsByGates a b → IsAddress a.cells at depth → IsAddress b.cells at depth
address_grows a b at depth g h = address_later a.cells b.cells at depth (keeps_extends g.grows.extends) h

pub fits_later : (a b : List SizedCell) (x : NetTree) (k : Next) → Keeps a b → FitsNext a x k → FitsNext b x k
fits_later a b x Keep keeps h = tt
fits_later a b x (Word y) keeps h = (h.0, keeps.nets _ _ h.1)
fits_later a b x (Write at word enable) keeps h = (h.0, h.1, written_later a b x.width h.0 at.0 word.0 enable.0 keeps h.2)

pub nexts_keep : (a b : List SizedCell) (ns : List NetTree) (nexts : List Next) → Keeps a b → FitNexts ns nexts a → FitNexts ns nexts b
nexts_keep a b ns nexts keeps h = record { long = h.long; each = λ p x k here there. fits_later a b x k keeps (h.each p x k here there) }

pub nexts_grow : {ns : List NetTree} {nexts : List Next} {a b : Circuit} → GrowsByGates a b → FitNexts ns nexts a.cells → FitNexts ns nexts b.cells
nexts_grow {ns} {nexts} {a} {b} g h = nexts_keep a.cells b.cells ns nexts (keeps_extends g.grows.extends) h

pub same_or_not : (p q : ℕ) → (p ≡ q) ⊎ (p ≢ q)
same_or_not zero zero = inl refl
same_or_not zero (suc q) = inr (λ e. let z : zero ≡ suc q = e in absurd (omega arith))
same_or_not (suc p) zero = inr (λ e. let z : suc p ≡ zero = e in absurd (omega arith))
same_or_not (suc p) (suc q) = elim (same_or_not p q) [
  | inl e ↦ inl (ap suc e)
  | inr o ↦ inr (λ e. o (let z : suc p ≡ suc q = e in omega arith))
]

-- with something new at one place
module _ (ns : List NetTree) (nexts : List Next) (n : List ℕ) (here : IsNamed ns n) (a b : Circuit) (k : Next) where
  pub nexts_set : GrowsByGates a b → FitNexts ns nexts a.cells → FitsNext b.cells here.net k → FitNexts ns (slice_set nexts (place_of ns n) k) b.cells
  nexts_set g h fits =
      let old = nexts_grow g h in
      record {
        long = length-set nexts (place_of ns n) k ∙ h.long;
        each = λ p x j there set_there. elim (same_or_not p (place_of ns n)) [
          | inl e ↦
              let inside : place_of ns n < length nexts = (let l : place_of ns n < length ns = slice_get_within ns (place_of ns n) here.net here.at in
              let long = h.long in omega arith) in
              let is_net : Some x ≡ Some here.net = sym there ∙ ap (slice_get ns) e ∙ here.at in
              let x_is : here.net ≡ x = cc in
              let found : Some k ≡ Some j = sym (set_found (place_of ns n) inside) ∙ (ap (slice_get (slice_set nexts (place_of ns n) k)) (sym e) ∙ set_there) in
              let k_is : k ≡ j = cc in
              subst (λ (u : NetTree). FitsNext b.cells u j) x_is (subst (FitsNext b.cells here.net) k_is fits)
          | inr other ↦ old.each p x j there (sym (get_set_other nexts (place_of ns n) p k other) ∙ set_there)
        ];
      }
    where
      set_found : (p : ℕ) → p < length nexts → slice_get (slice_set nexts p k) p ≡ Some k
      set_found p l = found_in nexts p l
        where
          found_in : (xs : List Next) (p : ℕ) → p < length xs → slice_get (slice_set xs p k) p ≡ Some k
          found_in [] p l = absurd (omega arith)
          found_in (x ∷ xs) zero l = refl
          found_in (x ∷ xs) (suc p) l = found_in xs p (omega arith)

-- what a name takes so far
module _ (ns : List NetTree) (nexts : List Next) (cells : List SizedCell) (n : List ℕ) (here : IsNamed ns n) (fit : FitNexts ns nexts cells) where
  pub next_inside : place_of ns n < length nexts
  next_inside = let l : place_of ns n < length ns = slice_get_within ns (place_of ns n) here.net here.at in let long = fit.long in omega arith

  found_next : slice_get nexts (place_of ns n) ≡ Some (next_at ns nexts n)
  found_next = get_found nexts (place_of ns n) next_inside
    where
      get_found : (xs : List Next) (p : ℕ) → p < length xs → slice_get xs p ≡ Some (get_or xs p Keep)
      get_found [] p l = absurd (omega arith)
      get_found (x ∷ xs) zero l = refl
      get_found (x ∷ xs) (suc p) l = get_found xs p (omega arith)

  pub next_fits : FitsNext cells here.net (next_at ns nexts n)
  next_fits = fit.each (place_of ns n) here.net (next_at ns nexts n) here.at found_next

pub kind_of_register : {ns : List NetTree} {n : List ℕ} (here : IsNamed ns n) → is_register_name ns n ≡ true → is_register_kind here.net.kind ≡ true
kind_of_register here r = subst (λ o. passes (λ (x : NetTree). is_register_kind x.kind) o ≡ true) here.found r

-- a register takes no write
pub register_next : (cells : List SizedCell) (x : NetTree) (k : Next) → is_register_kind x.kind ≡ true → FitsNext cells x k → IsWordNext k
register_next cells x Keep r h = tt
register_next cells x (Word y) r h = tt
register_next cells x (Write at word enable) r h = let e : is_register_kind x.kind ≡ false = ap is_register_kind h.1 in cc

-- nor has it a store
pub register_store : (k : Next) (run : List Clock) (t own : ℕ) → IsWordNext k → next_store k run t own ≡ store_at run t own
register_store Keep run t own h = refl
register_store (Word y) run t own h = refl
register_store (Write at word enable) run t own h = absurd h

-- its next word so far
pub so_far_word : (k : Next) (own net : NetId) (run : List Clock) (t n : ℕ) → IsSoFar k own net → n ≡ own.0 → word_at run t net.0 ≡ next_word k run t n
so_far_word Keep own net run t n h e = ap (λ (y : NetId). word_at run t y.0) h ∙ ap (word_at run t) (sym e)
so_far_word (Word y) own net run t n h e = ap (λ (y : NetId). word_at run t y.0) h
so_far_word (Write at word enable) own net run t n h e = absurd h

pub so_far_net : (cells : List SizedCell) (x : NetTree) (k : Next) (own net : NetId) → IsSoFar k own net → FitsNext cells x k → IsNet cells own.0 x.width
    → IsNet cells net.0 x.width
so_far_net cells x Keep own net h f o = subst (λ (y : NetId). IsNet cells y.0 x.width) (sym h) o
so_far_net cells x (Word y) own net h f o = subst (λ (z : NetId). IsNet cells z.0 x.width) (sym h) f.1
so_far_net cells x (Write at word enable) own net h f o = absurd h

not_memory : (k : NetKind) → is_register_kind k ≡ true → is_memory_kind k ≡ false
not_memory Input r = refl
not_memory Wire r = refl
not_memory OutWire r = refl
not_memory Reg r = refl
not_memory OutReg r = refl
not_memory (Memory depth) r = absurd (cc)

pub no_memory : {ns : List NetTree} {n : List ℕ} (here : IsNamed ns n) → is_register_name ns n ≡ true → is_memory_name ns n ≡ false
no_memory here r = ap (passes (λ (x : NetTree). is_memory_kind x.kind)) here.found ∙ not_memory here.net.kind (kind_of_register here r)

pub register_net : (ns : List NetTree) (ys : List (Option NetId)) (nexts : List Next) (a b : Circuit) (n : List ℕ) (w : ℕ) (own net : NetId)
    (here : IsNamed ns n) → is_register_name ns n ≡ true → AreNets ns ys a.cells
    → slice_get ys (place_of ns n) ≡ Some (Some own) → FitNexts ns nexts a.cells → w ≡ declared_width ns n → IsSoFar (next_at ns nexts n) own net
    → GrowsByGates a b
    → IsNet b.cells net.0 w
register_net ns ys nexts a b n w own net here r nets found fit wide so_far g =
    let mine = name_net ns ys a.cells n own here (no_memory here r) nets found in
    let there = so_far_net a.cells here.net _ own net so_far (next_fits ns nexts a.cells n here fit) (subst (IsNet a.cells own.0) (named_width here) mine) in
    net_grows g (subst (IsNet a.cells net.0) (sym (wide ∙ named_width here)) there)

-- a memory is written at its depth and width
kind_of_memory : (k : NetKind) → is_memory_kind k ≡ true → k ≡ Memory (depth_of_kind k)
kind_of_memory Input r = absurd (cc)
kind_of_memory Wire r = absurd (cc)
kind_of_memory OutWire r = absurd (cc)
kind_of_memory Reg r = absurd (cc)
kind_of_memory OutReg r = absurd (cc)
kind_of_memory (Memory depth) r = refl

pub memory_fits : (ns : List NetTree) (n : List ℕ) (here : IsNamed ns n) (cells : List SizedCell) (at word enable : NetId) (w : ℕ) → is_memory_name ns n ≡ true
    → w ≡ declared_width ns n
    → IsAddress cells at.0 (depth_of ns n) → IsNet cells word.0 w → IsNet cells enable.0 1 → FitsNext cells here.net (Write at word enable)
memory_fits ns n here cells at word enable w memory wide address net bit =
    let depth : depth_of ns n ≡ depth_of_kind here.net.kind = ap depth_in here.found in (
      depth_of_kind here.net.kind,
      kind_of_memory here.net.kind (subst (λ o. passes (λ (x : NetTree). is_memory_kind x.kind) o ≡ true) here.found memory),
      record { address = subst (IsAddress cells at.0) depth address; word = subst (IsNet cells word.0) (wide ∙ named_width here) net; bit = bit },
    )

module _ (ns : List NetTree) (nexts : List Next) where
  -- names that are assigned one after the other
  pub others_both : (mid new : List Next) (a b : List (List ℕ)) → OthersKeep ns nexts mid a → OthersKeep ns mid new b → OthersKeep ns nexts new (a ++ b)
  others_both mid new a b p q n none = q n (λ h. none (among_right n a b h)) ∙ p n (λ h. none (among_left n a b h))

  pub fresh_left : (a b : List (List ℕ)) → AreFresh ns nexts (a ++ b) → AreFresh ns nexts a
  fresh_left a b h = record {
    kept = λ n there memory. h.kept n (among_left n a b there) memory;
    once = λ n memory r. h.once n memory (r.0, r.1, r.2, get_left a b r.0 n r.3, get_left a b r.1 n r.4);
  }

  pub fresh_right : (mid : List Next) (a b : List (List ℕ)) → AreFresh ns nexts (a ++ b) → OthersKeep ns nexts mid a → AreFresh ns mid b
  fresh_right mid a b h others = record {
    kept = λ n there memory. others n (λ before. h.once n memory (both n before there)) ∙ h.kept n (among_right n a b there) memory;
    once = λ n memory r. h.once n memory (length a + r.0, length a + r.1, (let l = r.2 in omega arith), get_right a b r.0 n r.3, get_right a b r.1 n r.4);
  }
    where
      get_right : (xs ys : List (List ℕ)) (p : ℕ) (n : List ℕ) → slice_get ys p ≡ Some n → slice_get (xs ++ ys) (length xs + p) ≡ Some n
      get_right [] ys p n e = subst (λ i. slice_get ys i ≡ Some n) (let z : p ≡ 0 + p = omega arith in z) e
      get_right (x ∷ xs) ys p n e = subst (λ i. slice_get (x ∷ (xs ++ ys)) i ≡ Some n) (let z : suc (length xs + p) ≡ suc (length xs) + p = omega arith in z)
          (get_right xs ys p n e)

      both : (n : List ℕ) → Among n a → Among n b → IsRepeated n (a ++ b)
      both n x y =
          let p = among_at n a x in
          let q = among_at n b y in
          let inside : p.0 < length a = slice_get_within a p.0 n p.1 in
          (p.0, length a + q.0, (let l : p.0 < length a + q.0 = omega arith in l), get_left a b p.0 n p.1, get_right a b q.0 n q.1)

-- with more tests round it a statement weighs no less
pub weight_more : (ifs : ℕ) (s : StmtTree) → stmt_weight ifs s ≤ stmt_weight (ifs + 1) s
weight_more ifs (set n value) = omega arith
weight_more ifs (put n at value) = omega arith
weight_more ifs (when test taken) = let p = weight_more (ifs + 1) taken in omega arith
weight_more ifs (either test taken otherwise) = let p = weight_more (ifs + 1) taken in let q = weight_more (ifs + 1) otherwise in omega arith
weight_more ifs block_end = omega arith
weight_more ifs (block_more first rest) = let p = weight_more ifs first in let q = weight_more ifs rest in omega arith

-- nets, what they stand for, and what is next, as a netlist grows
pub ruleset growing = (net_grows, nets_grow, guard_net_grows, nexts_grow, address_grows)
