-- The budgets that are reached lie between 1 and the slowdown.
use Rattle.std.proofs.Common.{◌≡◌, ℕ, ◌%◌, ◌<◌, ◌≤◌, Option, Some, None, refl, ap, sym, ◌∙◌, arith, inl, inr, subst}
use Rattle.std.specs.Option.{option_map}
use Rattle.std.proofs.Math.Nat.{mod-zero, div-le_self}
use Rattle.std.proofs.lemmas.Bool.{cases_eq}
use Rattle.std.proofs.lemmas.Option.{none-some, same_Some, option_and_then_some}
use Rattle.ae_seqtype.specs.SeqTree.{SeqTree, atom, seq}
use Rattle.ae_seq.specs.ProgramTree.{ProgramTree, NodeTree, OpTree, call, each, each_two}
use Rattle.ae_seq.specs.Typing.{type_at}
use Rattle.ae_rewrite.specs.declared.calls.Call.{Call}
use Rattle.ae_rewrite.specs.declared.cases.Case.{Case}
use Rattle.ae_rewrite.specs.declared.cases.Case.TheVariants.{Parallel, Spread, Grouped, Padded, Folded}
use Rattle.ae_rewrite.specs.LayoutRule.{case_of, inner_of}
use Rattle.ae_rewrite.specs.Calls.{Spreading, spread, spread_at, head, call_of, each_call, called_by, inner}
use Rattle.ae_rewrite.specs.Scheduled.{IsReached, as_program, as_called}
use Rattle.ae_rewrite.proofs.Applies.{Applies, applies, quotient_pos}

abbrev pub Within : (s u : ℕ) → Type 0
Within s u = (0 < u) × (u ≤ s)

inner-by : (n clocks : ℕ) (c : Case) → 0 < clocks → Applies n clocks c → Within clocks (inner_of n clocks c)
inner-by n clocks Parallel h a = (omega arith, omega arith)
inner-by n clocks Spread h a = elim (cases_eq n 0) [
  | inl e ↦ let z : clocks ≡ 0 = sym (mod-zero clocks) ∙ ap (λ m. clocks % m) (sym e) ∙ a in absurd (omega arith)
  | inr ne ↦ (quotient_pos clocks n h (omega arith) a, div-le_self clocks n)
]
inner-by n clocks Grouped h a = (omega arith, omega arith)
inner-by n clocks Padded h a = (omega arith, omega arith)
inner-by n clocks (Folded d) h a = (omega arith, omega arith)

-- a sequence's elements have a budget within its own
spreading-within : (n clocks : ℕ) (t : SeqTree) (o : Option Case) (s : Spreading) → 0 < clocks → case_of n clocks ≡ o
    → option_map (λ (c : Case). record { count = n; of = t; case = c }) o ≡ Some s → Within clocks (inner clocks s)
spreading-within n clocks t None s h e is = absurd (none-some s is)
spreading-within n clocks t (Some c) s h e is =
    subst (λ (x : Spreading). Within clocks (inner clocks x)) (same_Some _ s is) (inner-by n clocks c h (applies n clocks c h e))

spread-within : (t : SeqTree) (clocks : ℕ) (s : Spreading) → 0 < clocks → spread t clocks ≡ Some s → Within clocks (inner clocks s)
spread-within (atom a) clocks s h is = absurd (none-some s is)
spread-within (seq n t) clocks s h is = spreading-within n clocks t (case_of n clocks) s h refl is

each-within : (g clocks : ℕ) (o : Option Spreading) (c : Call) → ((s : Spreading) → o ≡ Some s → Within clocks (inner clocks s))
    → each_call g clocks o ≡ Some c → Within clocks c.budget
each-within g clocks None c h is = absurd (none-some c is)
each-within g clocks (Some s) c h is = subst (λ (x : Call). Within clocks x.budget) (same_Some _ c is) (h s refl)

call-within : (op : OpTree) (clocks : ℕ) (o : Option Spreading) (c : Call) → 0 < clocks → ((s : Spreading) → o ≡ Some s → Within clocks (inner clocks s))
    → call_of op clocks o ≡ Some c → Within clocks c.budget
call-within (call g) clocks o c p h is = subst (λ (x : Call). Within clocks x.budget) (same_Some _ c is) (p, omega arith)
call-within (each g) clocks o c p h is = each-within g clocks o c h is
call-within (each_two g) clocks o c p h is = each-within g clocks o c h is
call-within _ clocks o c p h is = absurd (none-some c is)

pub called-within : (p : ProgramTree) (f clocks : ℕ) (n : NodeTree) (c : Call) → 0 < clocks → called_by p f clocks n ≡ Some c → Within clocks c.budget
called-within p f clocks n c h is =
    call-within n.op clocks (spread_at p f clocks (head n.args)) c h
    (λ s at. option_and_then_some (λ t. spread t clocks) (type_at p f (head n.args)) s at (λ t e some. spread-within t clocks s h some)) is

pub reached-within : (p : ProgramTree) (s f u : ℕ) → 0 < s → IsReached p s f u → Within s u
reached-within p s f u h (as_program g v is_f is_u) = rw is_u (h, omega arith)
reached-within p s f u h (as_called g v caller clocks k of n c r at here is is_f is_u) =
    let above = reached-within p s caller clocks h r in
    let w = called-within p caller clocks n c above.0 is in
    rw is_u (w.0, omega (arith, w.1, above.1))
